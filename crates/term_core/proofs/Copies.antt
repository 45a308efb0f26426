-- Lists whose items are the same to a function.
use Rattle.std.proofs.Common.{◌≡◌, List, [], ◌∷◌, map, refl, ap, ◌∙◌}
use Rattle.std.specs.List.{AllZip}

pub same_mapped : {A B : Type 0} (f : A → B) (xs ys : List A) → AllZip (λ x y. f y ≡ f x) xs ys → map f ys ≡ map f xs
same_mapped f [] [] h = refl
same_mapped f [] (y ∷ ys) h = absurd h
same_mapped f (x ∷ xs) [] h = absurd h
same_mapped f (x ∷ xs) (y ∷ ys) h = ap (λ b. b ∷ map f ys) h.0 ∙ ap (λ bs. f x ∷ bs) (same_mapped f xs ys h.1)
