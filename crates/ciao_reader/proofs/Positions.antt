-- The first place at which a test passes: in longer lists, in lists of images, and among distinct elements.
use Rattle.std.proofs.Common.{arith, ◌≡◌, ℕ, zero, suc, ◌+◌, ◌<◌, Bool, true, false, not, cond, List, [], ◌∷◌, ◌++◌, map, length, get_or, refl, sym, ap, ◌∙◌, true≢false}
use Rattle.std.specs.Prelude.{◌||◌}
use Rattle.std.specs.List.{list_any, position_or_len, AllByRecursion, IsDistinct}
use Rattle.std.proofs.lemmas.Bool.{or_left, or_right}
use Rattle.std.proofs.lemmas.Map.Keys.{IsDistinct-head, IsDistinct-tail}

module _ {X : Type 0} (p : X → Bool) where
  -- what passes is within the list
  pub position_within : (xs : List X) → list_any p xs ≡ true → position_or_len p xs < length xs
  position_within [] any = absurd (true≢false (sym any))
  position_within (x ∷ xs) any = by (p x) any (position_within xs)
    where
      by : (b : Bool) → (b || list_any p xs) ≡ true → (list_any p xs ≡ true → position_or_len p xs < length xs) → cond (not b) (1 + position_or_len p xs) 0 < suc (length xs)
      by true any rest = omega arith
      by false any rest = omega (arith, rest any)

  -- where none passes it is the end
  pub position_of_none : (xs : List X) → list_any p xs ≡ false → position_or_len p xs ≡ length xs
  position_of_none [] none = refl
  position_of_none (x ∷ xs) none = by (p x) none (position_of_none xs)
    where
      by : (b : Bool) → (b || list_any p xs) ≡ false → (list_any p xs ≡ false → position_or_len p xs ≡ length xs) → cond (not b) (1 + position_or_len p xs) 0 ≡ suc (length xs)
      by true none rest = absurd (true≢false none)
      by false none rest = omega (arith, rest none)

  -- it stays when more is added behind
  pub position_in_front : (xs more : List X) → list_any p xs ≡ true → position_or_len p (xs ++ more) ≡ position_or_len p xs
  position_in_front [] more any = absurd (true≢false (sym any))
  position_in_front (x ∷ xs) more any = by (p x) any (position_in_front xs more)
    where
      by : (b : Bool) → (b || list_any p xs) ≡ true → (list_any p xs ≡ true → position_or_len p (xs ++ more) ≡ position_or_len p xs)
          → cond (not b) (1 + position_or_len p (xs ++ more)) 0 ≡ cond (not b) (1 + position_or_len p xs) 0
      by true any rest = refl
      by false any rest = ap (λ i. 1 + i) (rest any)

  -- the end, where what passes is added there
  pub position_at_end : (xs : List X) (x : X) → p x ≡ true → position_or_len p (xs ++ x ∷ []) ≡ position_or_len p xs
  position_at_end [] x e = ap (λ b. cond (not b) 1 0) e
  position_at_end (y ∷ ys) x e = ap (λ i. cond (not (p y)) (1 + i) 0) (position_at_end ys x e)

  pub any_at_end : (xs : List X) (x : X) → p x ≡ true → list_any p (xs ++ x ∷ []) ≡ true
  any_at_end [] x e = or_left (p x) false e
  any_at_end (y ∷ ys) x e = or_right (p y) _ (any_at_end ys x e)

  pub any_in_front : (xs more : List X) → list_any p xs ≡ true → list_any p (xs ++ more) ≡ true
  any_in_front [] more any = absurd (true≢false (sym any))
  any_in_front (x ∷ xs) more any = by (p x) any (any_in_front xs more)
    where
      by : (b : Bool) → (b || list_any p xs) ≡ true → (list_any p xs ≡ true → list_any p (xs ++ more) ≡ true) → (b || list_any p (xs ++ more)) ≡ true
      by true any rest = refl
      by false any rest = rest any

  -- an element at a place passes
  pub any_at : (xs : List X) (i : ℕ) (d : X) → i < length xs → p (get_or xs i d) ≡ true → list_any p xs ≡ true
  any_at [] i d within e = absurd (omega (arith, within))
  any_at (x ∷ xs) zero d within e = or_left (p x) _ e
  any_at (x ∷ xs) (suc i) d within e = or_right (p x) _ (any_at xs i d (omega (arith, within)) e)

-- two tests that agree, one at the elements and one at their images
module _ {X Y : Type 0} (f : X → Y) (p : X → Bool) (q : Y → Bool) where
  pub position_of_images : (xs : List X) → AllByRecursion (λ x. q (f x) ≡ p x) xs → position_or_len q (map f xs) ≡ position_or_len p xs
  position_of_images [] same = refl
  position_of_images (x ∷ xs) same = ap (λ b. cond (not b) (1 + position_or_len q (map f xs)) 0) same.0 ∙ ap (λ i. cond (not (p x)) (1 + i) 0) (position_of_images xs same.1)

  pub any_of_images : (xs : List X) → AllByRecursion (λ x. q (f x) ≡ p x) xs → list_any q (map f xs) ≡ list_any p xs
  any_of_images [] same = refl
  any_of_images (x ∷ xs) same = ap (λ b. b || list_any q (map f xs)) same.0 ∙ ap (λ b. p x || b) (any_of_images xs same.1)

-- a comparison that holds of equals, and whose failures are symmetric
module _ {X : Type 0} (e : X → X → Bool) (itself : (x : X) → e x x ≡ true) (turned : (x y : X) → e x y ≡ false → e y x ≡ false) where
  differs_at : (x : X) (xs : List X) (i : ℕ) (d : X) → i < length xs → AllByRecursion (λ y. e x y ≡ false) xs → e (get_or xs i d) x ≡ false
  differs_at x [] i d within all = absurd (omega (arith, within))
  differs_at x (y ∷ ys) zero d within all = turned x y all.0
  differs_at x (y ∷ ys) (suc i) d within all = differs_at x ys i d (omega (arith, within)) all.1

  -- an element of distinct ones has the place at which it stands
  pub position_of_distinct : (xs : List X) (i : ℕ) (d : X) → IsDistinct e xs → i < length xs → position_or_len (e (get_or xs i d)) xs ≡ i
  position_of_distinct [] i d distinct within = absurd (omega (arith, within))
  position_of_distinct (x ∷ xs) zero d distinct within = ap (λ b. cond (not b) (1 + position_or_len (e x) xs) 0) (itself x)
  position_of_distinct (x ∷ xs) (suc i) d distinct within =
      ap (λ b. cond (not b) (1 + position_or_len (e (get_or xs i d)) xs) 0) (differs_at x xs i d (omega (arith, within)) (IsDistinct-head e x xs distinct))
      ∙ omega (arith, position_of_distinct xs i d (IsDistinct-tail e x xs distinct) (omega (arith, within)))
