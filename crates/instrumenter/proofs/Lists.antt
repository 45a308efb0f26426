-- Lists of numbers that rise, and lists that pass a test.
use Rattle.std.proofs.Common.{◌≡◌, ◌≤◌, ℕ, suc, ◌+◌, Bool, true, false, ◌&&◌, List, [], ◌∷◌, map, filter, refl, ap, sym, arith, true≢false}
use Rattle.std.proofs.lemmas.Bool.{and_parts}
use Rattle.std.proofs.lemmas.Bool.Decides.{nat_tests}
use Rattle.std.specs.Prelude.{◌||◌, nat_lt, nat_eq, not, cond, slice_get, Some}
use Rattle.std.specs.List.{list_all, list_any}
use Rattle.prog_data.specs.declared.conditions.Cond.{Cond}
use Rattle.prog_data.specs.Programs.{rises}

pub both : (a b : Bool) → a ≡ true → b ≡ true → (a && b) ≡ true
both true b e h = h
both false b e h = e

pub all_up : {A : Type 0} (p q : A → Bool) → ((x : A) → p x ≡ true → q x ≡ true) → (xs : List A) → list_all p xs ≡ true → list_all q xs ≡ true
all_up p q keeps [] e = refl
all_up p q keeps (x ∷ xs) e = let parts = and_parts (p x) _ e in both (q x) _ (keeps x parts.0) (all_up p q keeps xs parts.1)

-- what is left of a list by a test passes what the list passes
pub filter_all : {A : Type 0} (p q : A → Bool) (xs : List A) → list_all p xs ≡ true → list_all p (filter q xs) ≡ true
filter_all p q [] e = refl
filter_all {A} p q (x ∷ xs) e = let parts = and_parts (p x) _ e in either (q x) parts.0 (filter_all p q xs parts.1)
  where
    either : (b : Bool) → p x ≡ true → list_all p (filter q xs) ≡ true → list_all p (cond b (x ∷ filter q xs) (filter q xs)) ≡ true
    either true here rest = both (p x) _ here rest
    either false here rest = rest

-- and the test
pub filter_both : {A : Type 0} (p q : A → Bool) (xs : List A) → list_all p xs ≡ true → list_all (λ x. p x && q x) (filter q xs) ≡ true
filter_both p q [] e = refl
filter_both {A} p q (x ∷ xs) e = let parts = and_parts (p x) _ e in either (q x) refl parts.0 (filter_both p q xs parts.1)
  where
    either : (b : Bool) → q x ≡ b → p x ≡ true → list_all (λ y. p y && q y) (filter q xs) ≡ true → list_all (λ y. p y && q y) (cond b (x ∷ filter q xs) (filter q xs)) ≡ true
    either true is here rest = both (p x && q x) _ (both (p x) (q x) here is) rest
    either false is here rest = rest

itself : (n : ℕ) → nat_eq n n ≡ true
itself n = grind (arith, nat_tests)

or_true : (a b : Bool) → b ≡ true → (a || b) ≡ true
or_true true b e = refl
or_true false b e = e

-- each number of a list is one of them
pub own_numbers : (ns : List ℕ) → list_all (λ n. list_any (nat_eq n) ns) ns ≡ true
own_numbers [] = refl
own_numbers (n ∷ ns) =
    both (nat_eq n n || list_any (nat_eq n) ns) _ (ap (λ b. b || list_any (nat_eq n) ns) (itself n))
    (all_up (λ m. list_any (nat_eq m) ns) (λ m. list_any (nat_eq m) (n ∷ ns)) (λ m e. or_true (nat_eq m n) (list_any (nat_eq m) ns) e) ns (own_numbers ns))

pub filter_rises : (q : ℕ → Bool) (ns : List ℕ) → rises ns ≡ true → rises (filter q ns) ≡ true
filter_rises q [] e = refl
filter_rises q (n ∷ ns) e = let parts = and_parts (list_all (nat_lt n) ns) _ e in either (q n) (filter_all (nat_lt n) q ns parts.0) (filter_rises q ns parts.1)
  where
    either : (b : Bool) → list_all (nat_lt n) (filter q ns) ≡ true → rises (filter q ns) ≡ true → rises (cond b (n ∷ filter q ns) (filter q ns)) ≡ true
    either true above rest = both (list_all (nat_lt n) (filter q ns)) _ above rest
    either false above rest = rest

-- what passes no test is left out
pub none_left : {A : Type 0} (q : A → Bool) (xs : List A) → list_all (λ x. not (q x)) xs ≡ true → filter q xs ≡ []
none_left q [] e = refl
none_left {A} q (x ∷ xs) e = let parts = and_parts (not (q x)) _ e in either (q x) parts.0 (none_left q xs parts.1)
  where
    either : (b : Bool) → not b ≡ true → filter q xs ≡ [] → cond b (x ∷ filter q xs) (filter q xs) ≡ []
    either true gone rest = absurd (true≢false (sym gone))
    either false gone rest = rest

-- conditions that are numbered from a number on

-- they have these numbers
abbrev pub AreNumbered : ℕ → List Cond → Type 0
AreNumbered first conds = (k : ℕ) (condition : Cond) → slice_get conds k ≡ Some condition → condition.id ≡ first + k

later_numbered : (first : ℕ) (c : Cond) (conds : List Cond) → AreNumbered first (c ∷ conds) → AreNumbered (suc first) conds
later_numbered first c conds are k condition at = let e = are (suc k) condition at in omega (arith, e)

first_numbered : (first : ℕ) (c : Cond) (conds : List Cond) → AreNumbered first (c ∷ conds) → c.id ≡ first
first_numbered first c conds are = let e = are 0 c refl in omega (arith, e)

is_above : (a b : ℕ) → suc a ≤ b → nat_lt a b ≡ true
is_above a b le = grind (arith, nat_tests)

-- those of a test are at least the first
at_least : (q : Cond → Bool) (n first : ℕ) → suc n ≤ first → (conds : List Cond) → AreNumbered first conds → list_all (nat_lt n) (map (λ condition. condition.id) (filter q conds)) ≡ true
at_least q n first le [] are = refl
at_least q n first le (c ∷ conds) are =
    let is = first_numbered first c conds are in
    either (q c) (is_above n c.id (omega (arith, le, is))) (at_least q n (suc first) (omega (arith, le)) conds (later_numbered first c conds are))
  where
    either : (b : Bool) → nat_lt n c.id ≡ true → list_all (nat_lt n) (map (λ condition. condition.id) (filter q conds)) ≡ true
        → list_all (nat_lt n) (map (λ condition. condition.id) (cond b (c ∷ filter q conds) (filter q conds))) ≡ true
    either true above rest = both (nat_lt n c.id) _ above rest
    either false above rest = rest

-- and rise
pub numbers_rise : (q : Cond → Bool) (first : ℕ) (conds : List Cond) → AreNumbered first conds → rises (map (λ condition. condition.id) (filter q conds)) ≡ true
numbers_rise q first [] are = refl
numbers_rise q first (c ∷ conds) are =
    let is = first_numbered first c conds are in
    let below : suc c.id ≤ suc first = omega (arith, is) in
    either (q c) (at_least q c.id (suc first) below conds (later_numbered first c conds are)) (numbers_rise q (suc first) conds (later_numbered first c conds are))
  where
    either : (b : Bool) → list_all (nat_lt c.id) (map (λ condition. condition.id) (filter q conds)) ≡ true → rises (map (λ condition. condition.id) (filter q conds)) ≡ true
        → rises (map (λ condition. condition.id) (cond b (c ∷ filter q conds) (filter q conds))) ≡ true
    either true above rest = both (list_all (nat_lt c.id) (map (λ condition. condition.id) (filter q conds))) _ above rest
    either false above rest = rest
