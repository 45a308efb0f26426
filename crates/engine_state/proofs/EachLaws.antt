-- What holds of each element of a list.
use Rattle.std.proofs.Common.{◌≡◌, ◌<◌, ℕ, zero, suc, ◌+◌, List, [], ◌∷◌, ◌++◌, length, take, reverse, get_or, sym, subst, arith}
use Rattle.std.proofs.lemmas.List.{reverse-append, take_more}
use Rattle.std.specs.List.{AllByRecursion}

module _ {X : Type 0} (P : X → Type 0) where
  pub each_weaker : (Q : X → Type 0) → ((x : X) → P x → Q x) → (xs : List X) → AllByRecursion P xs → AllByRecursion Q xs
  each_weaker Q f [] all = tt
  each_weaker Q f (x ∷ xs) all = (f x all.0, each_weaker Q f xs all.1)

  pub each_of_two : (xs ys : List X) → AllByRecursion P xs → AllByRecursion P ys → AllByRecursion P (xs ++ ys)
  each_of_two [] ys all others = others
  each_of_two (x ∷ xs) ys all others = (all.0, each_of_two xs ys all.1 others)

  pub each_reversed : (xs : List X) → AllByRecursion P xs → AllByRecursion P (reverse xs)
  each_reversed [] all = tt
  each_reversed (x ∷ xs) all = subst (AllByRecursion P) (sym (reverse-append (x ∷ []) xs)) (each_of_two (reverse xs) (x ∷ []) (each_reversed xs all.1) (all.0, tt))

  pub each_at : (xs : List X) (i : ℕ) (d : X) → i < length xs → AllByRecursion P xs → P (get_or xs i d)
  each_at [] i d less all = absurd (omega (arith, less))
  each_at (x ∷ xs) zero d less all = all.0
  each_at (x ∷ xs) (suc i) d less all = each_at xs i d (omega (arith, less)) all.1

  pub one_more_each : (xs : List X) (i n : ℕ) (d : X) → i < length xs → n ≡ i + 1 → AllByRecursion P (take i xs) → P (get_or xs i d) → AllByRecursion P (take n xs)
  one_more_each xs i n d less is all here = subst (λ m. AllByRecursion P (take m xs)) (sym is) (subst (AllByRecursion P) (sym (take_more xs i d less)) (each_of_two (take i xs) (get_or xs i d ∷ []) all (here, tt)))
