-- What holds of each element of a list, and the test of it.
use Rattle.std.proofs.Common.{◌≡◌, ℕ, zero, suc, ◌<◌, Bool, true, false, List, [], ◌∷◌, ◌++◌, map, length, slice_index_or, refl, subst, arith}
use Rattle.std.specs.Prelude.{cond, filter, Contains}
use Rattle.std.specs.List.{list_all, AllByRecursion}
use Rattle.std.proofs.lemmas.Bool.{and_from}

pub each_append : {A : Type 0} (P : A → Type 0) (xs ys : List A) → AllByRecursion P xs → AllByRecursion P ys → AllByRecursion P (xs ++ ys)
each_append P [] ys h k = k
each_append P (x ∷ xs) ys h k = (h.0, each_append P xs ys h.1 k)

pub each_map : {A B : Type 0} (P : B → Type 0) (f : A → B) (xs : List A) → AllByRecursion (λ x. P (f x)) xs → AllByRecursion P (map f xs)
each_map P f [] h = tt
each_map P f (x ∷ xs) h = (h.0, each_map P f xs h.1)

pub each_test : {A : Type 0} (p : A → Bool) (xs : List A) → AllByRecursion (λ x. p x ≡ true) xs → list_all p xs ≡ true
each_test p [] h = refl
each_test p (x ∷ xs) h = and_from (p x) (list_all p xs) h.0 (each_test p xs h.1)

pub each_filter : {A : Type 0} (P : A → Type 0) (p : A → Bool) (xs : List A) → AllByRecursion P xs → AllByRecursion P (filter p xs)
each_filter P p [] h = tt
each_filter {A} P p (x ∷ xs) h = by (p x) (each_filter P p xs h.1)
  where
    by : (b : Bool) → AllByRecursion P (filter p xs) → AllByRecursion P (cond b (x ∷ filter p xs) (filter p xs))
    by true rest = (h.0, rest)
    by false rest = rest

pub each_more : {A : Type 0} (P Q : A → Type 0) → ((x : A) → P x → Q x) → (xs : List A) → AllByRecursion P xs → AllByRecursion Q xs
each_more P Q holds [] h = tt
each_more P Q holds (x ∷ xs) h = (holds x h.0, each_more P Q holds xs h.1)

pub each_of : {A : Type 0} (P : A → Type 0) → ((x : A) → P x) → (xs : List A) → AllByRecursion P xs
each_of P holds [] = tt
each_of P holds (x ∷ xs) = (holds x, each_of P holds xs)

-- of one of them
each_at : {A : Type 0} (P : A → Type 0) (xs : List A) (x : A) → AllByRecursion P xs → (k : ℕ) → k < length xs → slice_index_or xs k x ≡ x → P x
each_at P [] x h k lt e = let no : k < 0 = lt in absurd (omega (arith, no))
each_at P (y ∷ ys) x h zero lt e = subst P e h.0
each_at P (y ∷ ys) x h (suc k) lt e = let more : suc k < suc (length ys) = lt in each_at P ys x h.1 k (omega (arith, more)) e

pub each_in : {A : Type 0} (P : A → Type 0) (xs : List A) (x : A) → AllByRecursion P xs → Contains xs x → P x
each_in P xs x h c = each_at P xs x h c.0 c.1 c.2
