use Rattle.std.proofs.Common.{◌≡◌, ℕ, ◌+◌, ◌-◌, length, List, ◌++◌, take, drop, refl, ◌∙◌, ap, sym, Option, Some, None}
use Rattle.std.proofs.lemmas.List.{append_assoc, take_rest}
use Rattle.std.proofs.Math.Seq.{take-add}
use Rattle.byte_io.specs.Outside.{grown}

pub grown_twice : (w : Option (List ℕ)) (a b : List ℕ) → grown (grown w a) b ≡ grown w (a ++ b)
grown_twice None a b = refl
grown_twice (Some w) a b = ap Some (append_assoc w a b)

-- a front, and then a prefix of what is left
pub grown_more : (w v u : Option (List ℕ)) (text : List ℕ) (done count : ℕ) → v ≡ grown w (take done text) → u ≡ grown v (take count (take (length text - done) (drop done text))) → u ≡ grown w (take (done + count) text)
grown_more w v u text done count before more =
    more ∙ ap (λ x. grown v (take count x)) (take_rest text done) ∙ ap (λ x. grown x (take count (drop done text))) before ∙ grown_twice w _ _ ∙ ap (grown w) (sym (take-add done count text))

-- the same of the bytes themselves
pub taken_more : (w v u text : List ℕ) (done count : ℕ) → v ≡ w ++ take done text → u ≡ v ++ take count (take (length text - done) (drop done text)) → u ≡ w ++ take (done + count) text
taken_more w v u text done count before more =
    more ∙ ap (λ x. v ++ take count x) (take_rest text done) ∙ ap (λ x. x ++ take count (drop done text)) before ∙ append_assoc w _ _ ∙ ap (λ x. w ++ x) (sym (take-add done count text))
