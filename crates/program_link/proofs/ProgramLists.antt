-- What holds of each item of a list, and items by their places.
use Rattle.std.proofs.Common.{◌≡◌, ℕ, zero, suc, ◌+◌, ◌<◌, Bool, true, false, List, [], ◌∷◌, ◌++◌, map, length, refl, ap, sym, ◌∙◌, subst, append_assoc, arith}
use Rattle.std.specs.Prelude.{cond, filter, slice_get, Some}
use Rattle.std.specs.List.{list_all, AllByRecursion}
use Rattle.std.proofs.lemmas.Bool.{and_from}
use Rattle.std.proofs.lemmas.List.{length_push}
use Rattle.term_core.proofs.OperandLaws.{none_part, some_part}

-- each item

pub each_append : {A : Type 0} (P : A → Type 0) (xs ys : List A) → AllByRecursion P xs → AllByRecursion P ys → AllByRecursion P (xs ++ ys)
each_append P [] ys h k = k
each_append P (x ∷ xs) ys h k = (h.0, each_append P xs ys h.1 k)

pub each_parts : {A : Type 0} (P : A → Type 0) (xs ys : List A) → AllByRecursion P (xs ++ ys) → AllByRecursion P xs × AllByRecursion P ys
each_parts P [] ys h = (tt, h)
each_parts P (x ∷ xs) ys h = let rest = each_parts P xs ys h.1 in ((h.0, rest.0), rest.1)

pub each_map : {A B : Type 0} (P : B → Type 0) (f : A → B) (xs : List A) → AllByRecursion (λ x. P (f x)) xs → AllByRecursion P (map f xs)
each_map P f [] h = tt
each_map P f (x ∷ xs) h = (h.0, each_map P f xs h.1)

pub each_test : {A : Type 0} (p : A → Bool) (xs : List A) → AllByRecursion (λ x. p x ≡ true) xs → list_all p xs ≡ true
each_test p [] h = refl
each_test p (x ∷ xs) h = and_from (p x) (list_all p xs) h.0 (each_test p xs h.1)

pub each_more : {A : Type 0} (P Q : A → Type 0) → ((x : A) → P x → Q x) → (xs : List A) → AllByRecursion P xs → AllByRecursion Q xs
each_more P Q holds [] h = tt
each_more P Q holds (x ∷ xs) h = (holds x h.0, each_more P Q holds xs h.1)

pub each_both : {A : Type 0} (P Q : A → Type 0) (xs : List A) → AllByRecursion P xs → AllByRecursion Q xs → AllByRecursion (λ x. P x × Q x) xs
each_both P Q [] h k = tt
each_both P Q (x ∷ xs) h k = ((h.0, k.0), each_both P Q xs h.1 k.1)

-- what passes a test has the property that it had, and passes
pub each_passed : {A : Type 0} (P : A → Type 0) (p : A → Bool) (xs : List A) → AllByRecursion P xs → AllByRecursion (λ x. P x × (p x ≡ true)) (filter p xs)
each_passed P p [] h = tt
each_passed {A} P p (x ∷ xs) h = by (each_passed P p xs h.1) (p x) refl
  where
    by : AllByRecursion (λ y. P y × (p y ≡ true)) (filter p xs) → (b : Bool) → p x ≡ b → AllByRecursion (λ y. P y × (p y ≡ true)) (cond b (x ∷ filter p xs) (filter p xs))
    by rest true e = ((h.0, e), rest)
    by rest false e = rest

pub each_filter : {A : Type 0} (P : A → Type 0) (p : A → Bool) (xs : List A) → AllByRecursion P xs → AllByRecursion P (filter p xs)
each_filter P p xs h = each_more (λ x. P x × (p x ≡ true)) P (λ x held. held.0) (filter p xs) (each_passed P p xs h)

pub each_at : {A : Type 0} (P : A → Type 0) (xs : List A) (k : ℕ) (x : A) → AllByRecursion P xs → slice_get xs k ≡ Some x → P x
each_at P [] k x h e = absurd (none_part x e)
each_at P (y ∷ ys) zero x h e = subst P (some_part y x e) h.0
each_at P (y ∷ ys) (suc k) x h e = each_at P ys k x h.1 e

-- filters

pub filter_append : {A : Type 0} (p : A → Bool) (xs ys : List A) → filter p (xs ++ ys) ≡ filter p xs ++ filter p ys
filter_append p [] ys = refl
filter_append p (x ∷ xs) ys = by (filter_append p xs ys) (p x)
  where
    by : filter p (xs ++ ys) ≡ filter p xs ++ filter p ys → (b : Bool) → cond b (x ∷ filter p (xs ++ ys)) (filter p (xs ++ ys)) ≡ cond b (x ∷ filter p xs) (filter p xs) ++ filter p ys
    by rest true = ap (λ zs. x ∷ zs) rest
    by rest false = rest

pub filter_all : {A : Type 0} (p : A → Bool) (xs : List A) → AllByRecursion (λ x. p x ≡ true) xs → filter p xs ≡ xs
filter_all p [] h = refl
filter_all p (x ∷ xs) h = ap (λ b. cond b (x ∷ filter p xs) (filter p xs)) h.0 ∙ ap (λ zs. x ∷ zs) (filter_all p xs h.1)

pub filter_none : {A : Type 0} (p : A → Bool) (xs : List A) → AllByRecursion (λ x. p x ≡ false) xs → filter p xs ≡ []
filter_none p [] h = refl
filter_none p (x ∷ xs) h = ap (λ b. cond b (x ∷ filter p xs) (filter p xs)) h.0 ∙ filter_none p xs h.1

-- places

pub place_below : {A : Type 0} (xs : List A) (k : ℕ) (x : A) → slice_get xs k ≡ Some x → k < length xs
place_below [] k x e = absurd (none_part x e)
place_below (y ∷ ys) zero x e = omega arith
place_below (y ∷ ys) (suc k) x e = let lt : k < length ys = place_below ys k x e in omega (arith, lt)

at_behind : {A : Type 0} (xs : List A) (y : A) (ys : List A) → slice_get (xs ++ y ∷ ys) (length xs) ≡ Some y
at_behind [] y ys = refl
at_behind (x ∷ xs) y ys = at_behind xs y ys

-- the items of a list stand in another one, from a place on
abbrev pub Stand : {A : Type 0} → List A → ℕ → List A → Type 0
Stand all n [] = Unit {0}
Stand all n (x ∷ xs) = (slice_get all n ≡ Some x) × Stand all (suc n) xs

stand_behind : {A : Type 0} (before xs all : List A) (n : ℕ) → all ≡ before ++ xs → n ≡ length before → Stand all n xs
stand_behind before [] all n e i = tt
stand_behind before (x ∷ xs) all n e i =
    let longer : length (before ++ x ∷ []) ≡ length before + 1 = length_push before x in
    let is : n ≡ length before = i in (
      subst (λ ys. slice_get ys n ≡ Some x) (sym e) (subst (λ k. slice_get (before ++ x ∷ xs) k ≡ Some x) (sym i) (at_behind before x xs)),
      stand_behind (before ++ x ∷ []) xs all (suc n) (e ∙ sym (append_assoc before (x ∷ []) xs)) (omega (arith, longer, is)),
    )

pub stand_self : {A : Type 0} (xs : List A) → Stand xs 0 xs
stand_self xs = stand_behind [] xs xs 0 refl refl

pub stand_parts : {A : Type 0} (all : List A) (n : ℕ) (xs ys : List A) (m : ℕ) → m ≡ length xs + n → Stand all n (xs ++ ys) → Stand all n xs × Stand all m ys
stand_parts all n [] ys m e h = let is : m ≡ 0 + n = e in let same : n ≡ m = omega (arith, is) in (tt, subst (λ k. Stand all k ys) same h)
stand_parts all n (x ∷ xs) ys m e h =
    let is : m ≡ suc (length xs) + n = e in
    let rest = stand_parts all (suc n) xs ys m (omega (arith, is)) h.1 in
    ((h.0, rest.0), rest.1)
