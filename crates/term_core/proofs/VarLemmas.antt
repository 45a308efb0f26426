-- Variables of several terms.
use Rattle.std.proofs.Common.{◌≡◌, ℕ, List, [], ◌∷◌, ◌++◌, map, refl, ap}
use Rattle.std.specs.Prelude.{flat_map}
use Rattle.term_core.specs.Terms.{with_new, with_all_new}

pub with_all_new_append : (seen xs ys : List ℕ) → with_all_new seen (xs ++ ys) ≡ with_all_new (with_all_new seen xs) ys
with_all_new_append seen [] ys = refl
with_all_new_append seen (x ∷ xs) ys = with_all_new_append (with_new seen x) xs ys

pub flat_map_map : {X Y : Type 0} (f : X → List Y) (xs : List X) → flat_map (λ ys. ys) (map f xs) ≡ flat_map f xs
flat_map_map f [] = refl
flat_map_map f (x ∷ xs) = ap (λ ys. f x ++ ys) (flat_map_map f xs)
