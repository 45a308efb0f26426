-- The least of some faults is one of them, and none comes before it.
use Rattle.std.proofs.Common.{◌≡◌, ◌⊎◌, inl, inr, ℕ, suc, ◌<◌, ◌≤◌, ◌==◌, nat_lt, Bool, true, false, List, [], ◌∷◌, length, refl, ap, sym, subst, ◌∙◌, true≢false, arith}
use Rattle.std.specs.Prelude.{⊤, ◌&&◌, ◌||◌, cond, Contains, Option, Some, None}
use Rattle.std.specs.List.{AllByRecursion}
use Rattle.std.proofs.lemmas.Bool.Decides.{nat_tests}
use Rattle.term_core.proofs.OperandLaws.{none_part, some_part, eqb-eq}
use Rattle.program_link.specs.FaultOrder.{rank, is_before, sooner, least_from, least}
use Rattle.program_link.specs.Laws.{IsLeast, LeastIsFound}
use Rattle.program_link.specs.declared.faults.Fault.{Fault}

-- the order of faults, said of numbers

-- of two numbers the first is less, or they are the same and something else holds
abbrev LessOr : ℕ → ℕ → Type 0 → Type 0
LessOr n m A = (n < m) ⊎ ((n ≡ m) × A)

-- a fault comes no later than another
abbrev NoLater : Fault → Fault → Type 0
NoLater a b = LessOr a.unit b.unit (LessOr a.line b.line (rank a.kind ≤ rank b.kind))

less : (a b : ℕ) → nat_lt a b ≡ true → a < b
less a b e = grind (arith, nat_tests, e)

not_less : (a b : ℕ) → nat_lt a b ≡ false → b ≤ a
not_less a b e = grind (arith, nat_tests, e)

apart : (a b : ℕ) → (a == b) ≡ false → b ≤ a → b < a
apart a b e le = grind (arith, nat_tests, e, le)

same_rank : (n : ℕ) → n ≤ n
same_rank n = omega arith

itself : (a : Fault) → NoLater a a
itself a = inr (refl, inr (refl, same_rank (rank a.kind)))

-- less, or the same and something that goes on, goes on
over : (a b c : ℕ) (A B C : Type 0) → (A → B → C) → LessOr a b A → LessOr b c B → LessOr a c C
over a b c A B C go (inl lt) (inl more) = inl (omega (arith, lt, more))
over a b c A B C go (inl lt) (inr same) = let e : b ≡ c = same.0 in inl (omega (arith, lt, e))
over a b c A B C go (inr same) (inl more) = let e : a ≡ b = same.0 in inl (omega (arith, e, more))
over a b c A B C go (inr same) (inr also) = inr (same.0 ∙ also.0, go same.1 also.1)

ranks_over : (a b c : ℕ) → a ≤ b → b ≤ c → a ≤ c
ranks_over a b c le more = omega (arith, le, more)

through : (a b c : Fault) → NoLater a b → NoLater b c → NoLater a c
through a b c =
    over a.unit b.unit c.unit (LessOr a.line b.line (rank a.kind ≤ rank b.kind)) (LessOr b.line c.line (rank b.kind ≤ rank c.kind)) (LessOr a.line c.line (rank a.kind ≤ rank c.kind))
    (over a.line b.line c.line (rank a.kind ≤ rank b.kind) (rank b.kind ≤ rank c.kind) (rank a.kind ≤ rank c.kind) (ranks_over (rank a.kind) (rank b.kind) (rank c.kind)))

-- a test of two numbers and then of something else

first_true : (n m : ℕ) (t : Bool) (A : Type 0) → (t ≡ true → A) → (nat_lt n m || ((n == m) && t)) ≡ true → LessOr n m A
first_true n m t A holds e = by (nat_lt n m) (n == m) t refl refl holds e
  where
    by : (b c d : Bool) → nat_lt n m ≡ b → (n == m) ≡ c → (d ≡ true → A) → (b || (c && d)) ≡ true → LessOr n m A
    by true c d i j h e' = inl (less n m i)
    by false true true i j h e' = inr (eqb-eq n m j, h refl)
    by false true false i j h e' = absurd (true≢false (sym e'))
    by false false d i j h e' = absurd (true≢false (sym e'))

first_false : (n m : ℕ) (t : Bool) (A : Type 0) → (t ≡ false → A) → (nat_lt n m || ((n == m) && t)) ≡ false → LessOr m n A
first_false n m t A fails e = by (nat_lt n m) (n == m) t refl refl fails e
  where
    by : (b c d : Bool) → nat_lt n m ≡ b → (n == m) ≡ c → (d ≡ false → A) → (b || (c && d)) ≡ false → LessOr m n A
    by true c d i j h e' = absurd (true≢false e')
    by false true true i j h e' = absurd (true≢false e')
    by false true false i j h e' = inr (sym (eqb-eq n m j), h refl)
    by false false d i j h e' = inl (apart n m j (not_less n m i))

-- no later, and so not behind
holds_not : (n m : ℕ) (t : Bool) (A : Type 0) → (A → t ≡ false) → LessOr m n A → (nat_lt n m || ((n == m) && t)) ≡ false
holds_not n m t A fails l = by (nat_lt n m) (n == m) t refl refl fails l
  where
    by : (b c d : Bool) → nat_lt n m ≡ b → (n == m) ≡ c → (A → d ≡ false) → LessOr m n A → (b || (c && d)) ≡ false
    by true c d i j h (inl lt) = let other : n < m = less n m i in absurd (omega (arith, lt, other))
    by true c d i j h (inr same) = let other : n < m = less n m i in let e : m ≡ n = same.0 in absurd (omega (arith, e, other))
    by false true d i j h (inl lt) = let same : n ≡ m = eqb-eq n m j in absurd (omega (arith, lt, same))
    by false true d i j h (inr same) = h same.1
    by false false d i j h l' = refl

earlier : (a b : Fault) → is_before a b ≡ true → NoLater a b
earlier a b e =
    first_true a.unit b.unit (nat_lt a.line b.line || ((a.line == b.line) && nat_lt (rank a.kind) (rank b.kind))) (LessOr a.line b.line (rank a.kind ≤ rank b.kind))
    (first_true a.line b.line (nat_lt (rank a.kind) (rank b.kind)) (rank a.kind ≤ rank b.kind) (λ i. let lt : rank a.kind < rank b.kind = less (rank a.kind) (rank b.kind) i in omega (arith, lt))) e

later : (a b : Fault) → is_before b a ≡ false → NoLater a b
later a b e =
    first_false b.unit a.unit (nat_lt b.line a.line || ((b.line == a.line) && nat_lt (rank b.kind) (rank a.kind))) (LessOr a.line b.line (rank a.kind ≤ rank b.kind))
    (first_false b.line a.line (nat_lt (rank b.kind) (rank a.kind)) (rank a.kind ≤ rank b.kind) (not_less (rank b.kind) (rank a.kind))) e

rank_not : (a b : ℕ) → a ≤ b → nat_lt b a ≡ false
rank_not a b le = grind (arith, nat_tests, le)

not_before : (a b : Fault) → NoLater a b → is_before b a ≡ false
not_before a b =
    holds_not b.unit a.unit (nat_lt b.line a.line || ((b.line == a.line) && nat_lt (rank b.kind) (rank a.kind))) (LessOr a.line b.line (rank a.kind ≤ rank b.kind))
    (holds_not b.line a.line (nat_lt (rank b.kind) (rank a.kind)) (rank a.kind ≤ rank b.kind) (rank_not (rank a.kind) (rank b.kind)))

-- the first of a fault and others

-- no later than a fault, where there is one
abbrev AtMost : Fault → Option Fault → Type 0
AtMost t None = ⊤
AtMost t (Some u) = NoLater t u

-- of two the sooner one
record Picked (a : Option Fault) (b c : Fault) : Type 0 where
  picked_first : AtMost c a
  picked_second : NoLater c b
  which : (a ≡ Some c) ⊎ (b ≡ c)

pick : (a : Option Fault) (b : Fault) → (c : Fault) × (sooner a (Some b) ≡ Some c) × Picked a b c
pick None b = (b, refl, record { picked_first = tt; picked_second = itself b; which = inr refl })
pick (Some a) b = by (is_before b a) refl
  where
    by : (t : Bool) → is_before b a ≡ t → (c : Fault) × (cond t (Some b) (Some a) ≡ Some c) × Picked (Some a) b c
    by true i = (b, refl, record { picked_first = earlier b a i; picked_second = itself b; which = inr refl })
    by false i = (a, refl, record { picked_first = itself a; picked_second = later a b i; which = inl refl })

-- what is found from a fault and others
record FoundFrom (found : Option Fault) (fs : List Fault) (t : Fault) : Type 0 where
  before : AtMost t found
  others : AllByRecursion (NoLater t) fs
  one_of : (found ≡ Some t) ⊎ Contains fs t

at_most_through : (t c : Fault) (a : Option Fault) → NoLater t c → AtMost c a → AtMost t a
at_most_through t c None le more = tt
at_most_through t c (Some a) le more = through t c a le more

-- one more before what contains a fault
contains_later : (f : Fault) (fs : List Fault) (t : Fault) → Contains fs t → Contains (f ∷ fs) t
contains_later f fs t h = let lt : h.0 < length fs = h.1 in (suc h.0, omega (arith, lt), h.2)

contains_first : (f t : Fault) (fs : List Fault) → f ≡ t → Contains (f ∷ fs) t
contains_first f t fs e = (0, omega arith, e)

-- a fault that was picked, and what is found from it
goes : (found : Option Fault) (f : Fault) (fs : List Fault) (t c : Fault) → Picked found f c → FoundFrom (Some c) fs t → FoundFrom found (f ∷ fs) t
goes found f fs t c p h = record {
  before = at_most_through t c found h.before p.picked_first;
  others = (through t c f h.before p.picked_second, h.others);
  one_of = which_of h.one_of p.which;
}
  where
    which_of : (◌≡◌ {A = Option Fault} (Some c) (Some t)) ⊎ Contains fs t → (found ≡ Some c) ⊎ (f ≡ c) → (found ≡ Some t) ⊎ Contains (f ∷ fs) t
    which_of (inr more) w = inr (contains_later f fs t more)
    which_of (inl same) (inl is) = inl (is ∙ same)
    which_of (inl same) (inr is) = inr (contains_first f t fs (is ∙ some_part c t same))

found_from : (found : Option Fault) (fs : List Fault) (t : Fault) → least_from found fs ≡ Some t → FoundFrom found fs t
found_from None [] t e = absurd (none_part t e)
found_from (Some a) [] t e = let same = some_part a t e in record { before = subst (λ x. NoLater t x) (sym same) (itself t); others = tt; one_of = inl e }
found_from found (f ∷ fs) t e =
    let p = pick found f in
    goes found f fs t p.0 p.2 (found_from (Some p.0) fs t (ap (λ o. least_from o fs) (sym p.1) ∙ e))

none_before : (t : Fault) (fs : List Fault) → AllByRecursion (NoLater t) fs → AllByRecursion (λ g. is_before g t ≡ false) fs
none_before t [] h = tt
none_before t (f ∷ fs) h = (not_before t f h.0, none_before t fs h.1)

is_least : (fs : List Fault) (t : Fault) → least fs ≡ Some t → IsLeast fs t
is_least fs t e = let h = found_from None fs t e in record { among = among h.one_of; first = none_before t fs h.others }
  where
    among : (◌≡◌ {A = Option Fault} None (Some t)) ⊎ Contains fs t → Contains fs t
    among (inl no_one) = absurd (none_part t no_one)
    among (inr has) = has

-- a fault that is there leaves one
some_left : (a : Fault) (fs : List Fault) → least_from (Some a) fs ≡ None → ⊥
some_left a [] e = none_part a (sym e)
some_left a (f ∷ fs) e = let p = pick (Some a) f in some_left p.0 fs (ap (λ o. least_from o fs) (sym p.1) ∙ e)

pub none_least : (fs : List Fault) → least fs ≡ None → fs ≡ []
none_least [] e = refl
none_least (f ∷ fs) e = absurd (some_left f fs e)

pub least_found : LeastIsFound
least_found = record { none = λ fs. (none_least fs, (λ e. ap least e)); first = is_least }
