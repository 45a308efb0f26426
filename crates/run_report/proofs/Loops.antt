-- The turn of a loop that appends what comes of each item.
use Rattle.std.proofs.Common.{◌≡◌, ℕ, ◌+◌, ◌<◌, List, ◌++◌, length, get_or, drop, sym, ap, ◌∙◌}
use Rattle.std.specs.Prelude.{flat_map}
use Rattle.std.proofs.lemmas.List.{append_assoc}
use Rattle.term_core.proofs.Turns.{turn}

pub next_parts : {X Y : Type 0} (f : X → List Y) (xs : List X) (i : ℕ) (x : X) (old new : List Y) → i < length xs → x ≡ get_or xs i x
    → new ≡ old ++ f x → old ++ flat_map f (drop i xs) ≡ flat_map f xs → new ++ flat_map f (drop (i + 1) xs) ≡ flat_map f xs
next_parts f xs i x old new lt is grew so_far =
    ap (λ ls. ls ++ flat_map f (drop (i + 1) xs)) grew
    ∙ (append_assoc old (f x) (flat_map f (drop (i + 1) xs)) ∙ (sym (turn (λ ys. old ++ flat_map f ys) xs i x lt is) ∙ so_far))
