-- Loops over the numbers of names.
use Rattle.std.proofs.Common.{◌≡◌, ℕ, suc, ◌+◌, ◌-◌, ◌<◌, List, [], ◌∷◌, ◌++◌, map, sym, ap, ◌∙◌, arith}
use Rattle.std.proofs.lemmas.List.{append_assoc}
use Rattle.std.specs.Prelude.{flat_map}
use Rattle.name_order.specs.Relations.{names_from}

next_names : (first size : ℕ) → first < size → names_from first (size - first) ≡ first ∷ names_from (first + 1) (size - (first + 1))
next_names first size lt =
    let count : size - first ≡ suc (size - (first + 1)) = omega (arith, lt) in
    ap (names_from first) count

-- what is done, then what is left, is all
pub flat_turn : {A : Type 0} (f : ℕ → List A) (done next : List A) (first size : ℕ) → first < size → next ≡ done ++ f first →
    next ++ flat_map f (names_from (first + 1) (size - (first + 1))) ≡ done ++ flat_map f (names_from first (size - first))
flat_turn f done next first size lt e =
    ap (λ d. d ++ flat_map f (names_from (first + 1) (size - (first + 1)))) e ∙ append_assoc done (f first) _ ∙ ap (λ ns. done ++ flat_map f ns) (sym (next_names first size lt))

pub map_turn : {A : Type 0} (f : ℕ → A) (done next : List A) (first size : ℕ) → first < size → next ≡ done ++ f first ∷ [] →
    next ++ map f (names_from (first + 1) (size - (first + 1))) ≡ done ++ map f (names_from first (size - first))
map_turn f done next first size lt e =
    ap (λ d. d ++ map f (names_from (first + 1) (size - (first + 1)))) e ∙ append_assoc done (f first ∷ []) _ ∙ ap (λ ns. done ++ map f ns) (sym (next_names first size lt))
