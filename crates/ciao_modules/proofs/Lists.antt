-- Lists: what holds of each item, beginnings, places.
use Rattle.std.proofs.Common.{◌≡◌, ◌≤◌, ◌<◌, ◌+◌, ℕ, zero, suc, Bool, true, false, List, [], ◌∷◌, ◌++◌, length, take, Option, Some, None, refl, sym, ap, ◌∙◌, subst, append_assoc, true≢false, arith}
use Rattle.std.specs.Prelude.{slice_get, IfSome, not, ◌||◌}
use Rattle.std.specs.List.{AllByRecursion, IsDistinct, list_any, position_or_len}
use Rattle.std.proofs.lemmas.List.{length-append, append-nil}
use Rattle.std.proofs.lemmas.Option.{none-some, same_Some}
use Rattle.std.proofs.Math.Bool.{cond}
use Rattle.term_core.specs.Lists.{IsPrefix}

module _ {A : Type 0} where
  pub all_append : (P : A → Type 0) (xs ys : List A) → AllByRecursion P xs → AllByRecursion P ys → AllByRecursion P (xs ++ ys)
  all_append P [] ys a b = b
  all_append P (x ∷ xs) ys a b = (a.0, all_append P xs ys a.1 b)

  pub all_front : (P : A → Type 0) (xs ys : List A) → AllByRecursion P (xs ++ ys) → AllByRecursion P xs
  all_front P [] ys a = tt
  all_front P (x ∷ xs) ys a = (a.0, all_front P xs ys a.1)

  pub all_back : (P : A → Type 0) (xs ys : List A) → AllByRecursion P (xs ++ ys) → AllByRecursion P ys
  all_back P [] ys a = a
  all_back P (x ∷ xs) ys a = all_back P xs ys a.1

  pub all_weaker : (P Q : A → Type 0) (xs : List A) → ((x : A) → P x → Q x) → AllByRecursion P xs → AllByRecursion Q xs
  all_weaker P Q [] each a = tt
  all_weaker P Q (x ∷ xs) each a = (each x a.0, all_weaker P Q xs each a.1)

  pub all_at : (P : A → Type 0) (xs : List A) (i : ℕ) (x : A) → AllByRecursion P xs → slice_get xs i ≡ Some x → P x
  all_at P [] i x a is = absurd (none-some x is)
  all_at P (y ∷ xs) zero x a is = subst P (same_Some y x is) a.0
  all_at P (y ∷ xs) (suc i) x a is = all_at P xs i x a.1 is

  pub some_weaker : (P Q : A → Type 0) (o : Option A) → ((x : A) → P x → Q x) → IfSome o P → IfSome o Q
  some_weaker P Q None each a = tt
  some_weaker P Q (Some x) each a = each x a

  -- beginnings

  pub prefix_same : (xs : List A) → IsPrefix xs xs
  prefix_same xs = ([], append-nil xs)

  pub prefix_then : (a b c : List A) → IsPrefix a b → IsPrefix b c → IsPrefix a c
  prefix_then a b c front more = (front.0 ++ more.0, sym (append_assoc a front.0 more.0) ∙ ap (λ ns. ns ++ more.0) front.1 ∙ more.1)

  pub prefix_length : (a b : List A) → IsPrefix a b → length a ≤ length b
  prefix_length a b front = omega (arith, ap length front.1, length-append a front.0)

  pub prefix_take : (a b : List A) (n : ℕ) → IsPrefix a b → n ≤ length a → take n b ≡ take n a
  prefix_take a b n front le = ap (take n) (sym front.1) ∙ of_front n a front.0 le
    where
      of_front : (n : ℕ) (xs ys : List A) → n ≤ length xs → take n (xs ++ ys) ≡ take n xs
      of_front zero xs ys le = refl
      of_front (suc n) [] ys le = absurd (omega (arith, le))
      of_front (suc n) (x ∷ xs) ys le = ap (λ zs. x ∷ zs) (of_front n xs ys (omega (arith, le)))

  pub prefix_get : (a b : List A) (i : ℕ) (x : A) → IsPrefix a b → slice_get a i ≡ Some x → slice_get b i ≡ Some x
  prefix_get a b i x front is = ap (λ l. slice_get l i) (sym front.1) ∙ of_front a front.0 i is
    where
      of_front : (xs ys : List A) (i : ℕ) → slice_get xs i ≡ Some x → slice_get (xs ++ ys) i ≡ Some x
      of_front [] ys i is = absurd (none-some x is)
      of_front (y ∷ xs) ys zero is = is
      of_front (y ∷ xs) ys (suc i) is = of_front xs ys i is

  -- one item more
  pub take_more : (xs : List A) (n : ℕ) (x : A) → slice_get xs n ≡ Some x → take (suc n) xs ≡ take n xs ++ x ∷ []
  take_more [] n x is = absurd (none-some x is)
  take_more (y ∷ xs) zero x is = ap (λ z. z ∷ []) (same_Some y x is)
  take_more (y ∷ xs) (suc n) x is = ap (λ zs. y ∷ zs) (take_more xs n x is)

  -- behind the last place there is nothing
  pub past : (xs : List A) (n : ℕ) → slice_get xs n ≡ None → length xs ≤ n
  past [] n is = omega arith
  past (x ∷ xs) zero is = absurd (none-some x (sym is))
  past (x ∷ xs) (suc n) is = omega (arith, past xs n is)

  -- places

  pub place_within : (p : A → Bool) (xs : List A) → list_any p xs ≡ true → position_or_len p xs < length xs
  place_within p [] any = absurd (true≢false (sym any))
  place_within p (x ∷ xs) any = by (p x) any (place_within p xs)
    where
      by : (b : Bool) → (b || list_any p xs) ≡ true → (list_any p xs ≡ true → position_or_len p xs < length xs) → cond (not b) (1 + position_or_len p xs) 0 < suc (length xs)
      by true any rest = omega arith
      by false any rest = omega (arith, rest any)

  -- distinct items

  pub distinct_front : (e : A → A → Bool) (xs ys : List A) → IsDistinct e (xs ++ ys) → IsDistinct e xs
  unfolding IsDistinct
  distinct_front e [] ys d = tt
  distinct_front e (x ∷ xs) ys d = (all_front (λ y. e x y ≡ false) xs ys d.0, distinct_front e xs ys d.1)

  pub distinct_last : (e : A → A → Bool) (xs : List A) (y : A) → IsDistinct e xs → AllByRecursion (λ x. e x y ≡ false) xs → IsDistinct e (xs ++ y ∷ [])
  unfolding IsDistinct
  distinct_last e [] y d all = (tt, tt)
  distinct_last e (x ∷ xs) y d all = (all_append (λ z. e x z ≡ false) xs (y ∷ []) d.0 (all.0, tt), distinct_last e xs y d.1 all.1)
