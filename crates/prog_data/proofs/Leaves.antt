-- The leaves of a name are the rules, no units, of the names that unit rules lead to.
use Rattle.std.proofs.Common.{◌≡◌, ℕ, zero, suc, ◌<◌, ◌≤◌, Bool, true, false, ◌||◌, List, [], ◌∷◌, ◌++◌, length, refl, ap, sym, subst, arith, ◌⊎◌, inl, inr, true≢false}
use Rattle.std.proofs.lemmas.Bool.Decides.{nat_tests}
use Rattle.std.proofs.lemmas.Map.Steps.{length-le_from_distinct_below}
use Rattle.std.specs.Prelude.{filter, flat_map, slice_index_or, eqb, cond}
use Rattle.std.specs.List.{list_any, IsDistinct, AllByRecursion}
use Rattle.prog_data.specs.declared.grammars.Rule.{Rule}
use Rattle.prog_data.specs.declared.grammars.Rule.TheVariants.{Basic as BasicRule, Int, Atom, Node, Unit as UnitRule}
use Rattle.prog_data.specs.declared.grammars.Grammar.{Grammar}
use Rattle.prog_data.specs.Membership.{rules_of, is_leaf, unit_of, leaves_within, leaves}

-- x is in the list
pub data In {A : Type 0} (x : A) : List A → Type 0 where
  here : {xs : List A} → In x (x ∷ xs)
  later : {y : A} {xs : List A} → In x xs → In x (y ∷ xs)

pub in_left : {A : Type 0} {x : A} (xs ys : List A) → In x xs → In x (xs ++ ys)
in_left [] ys i = elim i [ ]
in_left (x ∷ xs) ys here = here
in_left (y ∷ xs) ys (later i) = later (in_left xs ys i)

pub in_right : {A : Type 0} {x : A} (xs ys : List A) → In x ys → In x (xs ++ ys)
in_right [] ys i = i
in_right (x ∷ xs) ys i = later (in_right xs ys i)

pub in_cases : {A : Type 0} {x : A} (xs ys : List A) → In x (xs ++ ys) → In x xs ⊎ In x ys
in_cases [] ys i = inr i
in_cases (x ∷ xs) ys here = inl here
in_cases {x = y} (x ∷ xs) ys (later i) = elim (in_cases xs ys i) as (λ _. In y (x ∷ xs) ⊎ In y ys) [ inl l ↦ inl (later l) | inr r ↦ inr r ]

pub in_filter : {A : Type 0} {x : A} (p : A → Bool) (xs : List A) → p x ≡ true → In x xs → In x (filter p xs)
in_filter p [] e i = elim i [ ]
in_filter {x = x} p (x' ∷ xs) e here = subst (λ b. In x (cond b (x ∷ filter p xs) (filter p xs))) (sym e) here
in_filter {x = x} p (y ∷ xs) e (later i) = either (p y) (in_filter p xs e i)
  where
    either : (b : Bool) → In x (filter p xs) → In x (cond b (y ∷ filter p xs) (filter p xs))
    either true i = later i
    either false i = i

pub filter_in : {A : Type 0} {x : A} (p : A → Bool) (xs : List A) → In x (filter p xs) → In x xs × (p x ≡ true)
filter_in p [] i = elim i [ ]
filter_in {A} {x = x} p (y ∷ xs) i = either x (p y) refl (filter_in p xs) i
  where
    either : (z : A) (b : Bool) → p y ≡ b → (In z (filter p xs) → In z xs × (p z ≡ true)) → In z (cond b (y ∷ filter p xs) (filter p xs)) → In z (y ∷ xs) × (p z ≡ true)
    either z true e rest here = (here, e)
    either z true e rest (later i) = let r = rest i in (later r.0, r.1)
    either z false e rest i = let r = rest i in (later r.0, r.1)

pub in_flat : {A B : Type 0} {x : A} {y : B} (f : A → List B) (xs : List A) → In x xs → In y (f x) → In y (flat_map f xs)
in_flat f [] i j = elim i [ ]
in_flat f (x ∷ xs) here j = in_left (f x) _ j
in_flat f (z ∷ xs) (later i) j = in_right (f z) _ (in_flat f xs i j)

pub flat_in : {A B : Type 0} {y : B} (f : A → List B) (xs : List A) → In y (flat_map f xs) → (x : A) × In x xs × In y (f x)
flat_in f [] i = elim i [ ]
flat_in {A} {B} {y} f (x ∷ xs) i = either (in_cases (f x) (flat_map f xs) i) (flat_in f xs)
  where
    either : In y (f x) ⊎ In y (flat_map f xs) → (In y (flat_map f xs) → (z : A) × In z xs × In y (f z)) → (z : A) × In z (x ∷ xs) × In y (f z)
    either (inl l) rest = (x, here, l)
    either (inr r) rest = let m = rest r in (m.0, later m.1, m.2)

pub any_in : {A : Type 0} (p : A → Bool) (xs : List A) → list_any p xs ≡ true → (x : A) × In x xs × (p x ≡ true)
any_in {A} p [] h = absurd (true≢false (sym h))
any_in {A} p (x ∷ xs) h = either (p x) refl (any_in p xs) h
  where
    either : (b : Bool) → p x ≡ b → (list_any p xs ≡ true → (y : A) × In y xs × (p y ≡ true)) → (b || list_any p xs) ≡ true → (y : A) × In y (x ∷ xs) × (p y ≡ true)
    either true e rest h = (x, here, e)
    either false e rest h = let m = rest h in (m.0, later m.1, m.2)

pub in_any : {A : Type 0} {x : A} (p : A → Bool) (xs : List A) → In x xs → p x ≡ true → list_any p xs ≡ true
in_any p [] i e = elim i [ ]
in_any p (x ∷ xs) here e = ap (λ b. b || list_any p xs) e
in_any p (y ∷ xs) (later i) e = or_second (p y) _ (in_any p xs i e)
  where
    or_second : (a b : Bool) → b ≡ true → (a || b) ≡ true
    or_second true b e = refl
    or_second false b e = e

-- unit rules lead from one name to another, by the names in the list
pub data Leads (g : Grammar) : ℕ → ℕ → List ℕ → Type 0 where
  none : {n : ℕ} → Leads g n n []
  more : {n m o : ℕ} {xs : List ℕ} → In (UnitRule m) (rules_of g n) → Leads g m o xs → Leads g n o (n ∷ xs)

unit_in : (m : ℕ) (rs : List Rule) → In m (flat_map unit_of rs) → In (UnitRule m) rs
unit_in m rs i = let r = flat_in unit_of rs i in from r.0 r.1 r.2
  where
    from : (r : Rule) → In r rs → In m (unit_of r) → In (UnitRule m) rs
    from (UnitRule k) i here = i
    from (UnitRule k) i (later j) = elim j [ ]
    from (BasicRule b) i j = elim j [ ]
    from (Int k) i j = elim j [ ]
    from (Atom a) i j = elim j [ ]
    from (Node f ns) i j = elim j [ ]

-- a leaf is a rule of a name that is led to
pub leaf_of : (g : Grammar) (r : Rule) (k n : ℕ) → In r (leaves_within k g n) → (o : ℕ) × (xs : List ℕ) × Leads g n o xs × In r (rules_of g o) × (is_leaf r ≡ true)
leaf_of g r zero n i = let f = filter_in is_leaf (rules_of g n) i in (n, [], none, f.0, f.1)
leaf_of g r (suc k) n i = either (in_cases (filter is_leaf (rules_of g n)) _ i) (leaf_of g r k)
  where
    either : In r (filter is_leaf (rules_of g n)) ⊎ In r (flat_map (leaves_within k g) (flat_map unit_of (rules_of g n))) →
        ((m : ℕ) → In r (leaves_within k g m) → (o : ℕ) × (xs : List ℕ) × Leads g m o xs × In r (rules_of g o) × (is_leaf r ≡ true)) →
        (o : ℕ) × (xs : List ℕ) × Leads g n o xs × In r (rules_of g o) × (is_leaf r ≡ true)
    either (inl own) rest = let f = filter_in is_leaf (rules_of g n) own in (n, [], none, f.0, f.1)
    either (inr led) rest =
        let f = flat_in (leaves_within k g) (flat_map unit_of (rules_of g n)) led in
        let m = rest f.0 f.2 in
        (m.0, n ∷ m.1, more (unit_in f.0 (rules_of g n) f.1) m.2, m.3, m.4)

-- and a rule of a name that is led to by few names is one
pub of_leaf : (g : Grammar) (r : Rule) (k n o : ℕ) (xs : List ℕ) → Leads g n o xs → length xs ≤ k → In r (rules_of g o) → is_leaf r ≡ true → In r (leaves_within k g n)
of_leaf g r zero n o xs none le i leaf = in_filter is_leaf (rules_of g n) leaf i
of_leaf g r zero n o (n' ∷ xs) (more u l) le i leaf = absurd (omega (arith, le))
of_leaf g r (suc k) n o xs none le i leaf = in_left (filter is_leaf (rules_of g n)) _ (in_filter is_leaf (rules_of g n) leaf i)
of_leaf g r (suc k) n o (n' ∷ xs) (more {m = m} u l) le i leaf =
    in_right (filter is_leaf (rules_of g n)) _ (in_flat (leaves_within k g) _ (in_flat unit_of (rules_of g n) u here) (of_leaf g r k m o xs l (omega (arith, le)) i leaf))

-- the way can be cut so that no name comes twice

eq_of : (a b : ℕ) → eqb a b ≡ true → a ≡ b
eq_of a b e = grind (arith, nat_tests)

pub Shorter : Grammar → ℕ → ℕ → Type 0
Shorter g n o = (xs : List ℕ) × Leads g n o xs × IsDistinct eqb xs

-- from a name on a way, the rest of the way
from_name : (g : Grammar) (n m o : ℕ) (xs : List ℕ) → Leads g m o xs → IsDistinct eqb xs → list_any (eqb n) xs ≡ true → Shorter g n o
unfolding Shorter IsDistinct
from_name g n m o xs none d h = absurd (true≢false (sym h))
from_name g n m o xs (more {m = m'} {xs = rest} u l) d h = either (eqb n m) refl (from_name g n m' o rest l d.1) h
  where
    either : (b : Bool) → eqb n m ≡ b → (list_any (eqb n) rest ≡ true → Shorter g n o) → (b || list_any (eqb n) rest) ≡ true → Shorter g n o
    either true e ih h = subst (λ k. Shorter g k o) (sym (eq_of n m e)) (m ∷ rest, more u l, d)
    either false e ih h = ih h

none_equal : (n : ℕ) (xs : List ℕ) → list_any (eqb n) xs ≡ false → AllByRecursion (λ y. eqb n y ≡ false) xs
none_equal n [] h = tt
none_equal n (x ∷ xs) h = either (eqb n x) refl (none_equal n xs) h
  where
    either : (b : Bool) → eqb n x ≡ b → (list_any (eqb n) xs ≡ false → AllByRecursion (λ y. eqb n y ≡ false) xs) → (b || list_any (eqb n) xs) ≡ false → (eqb n x ≡ false) × AllByRecursion (λ y. eqb n y ≡ false) xs
    either true e ih h = absurd (true≢false h)
    either false e ih h = (e, ih h)

pub shortened : (g : Grammar) (n o : ℕ) (xs : List ℕ) → Leads g n o xs → Shorter g n o
unfolding Shorter IsDistinct
shortened g n o xs none = ([], none, tt)
shortened g n o xs (more {m = m} {xs = rest} u l) = with_rest (shortened g m o rest l)
  where
    with_rest : Shorter g m o → Shorter g n o
    with_rest s = either (list_any (eqb n) s.0) refl
      where
        either : (b : Bool) → list_any (eqb n) s.0 ≡ b → Shorter g n o
        either true e = from_name g n m o s.0 s.1 s.2 e
        either false e = (n ∷ s.0, more u s.1, (none_equal n s.0 e, s.2))

-- each name on a way has rules, so it is one of the grammar's
rules_within : (rs : List (List Rule)) (r : Rule) (n : ℕ) → In r (slice_index_or rs n []) → n < length rs
rules_within [] r n i = elim i [ ]
rules_within (x ∷ rs) r zero i = omega arith
rules_within (x ∷ rs) r (suc n) i = let le = rules_within rs r n i in omega (arith, le)

on_way : (g : Grammar) (n o : ℕ) (xs : List ℕ) → Leads g n o xs → (q : ℕ) → list_any (eqb q) xs ≡ true → q < length g.rules
on_way g n o xs none q h = absurd (true≢false (sym h))
on_way g n o xs (more {m = m} {xs = rest} u l) q h = either (eqb q n) refl (on_way g m o rest l q) h
  where
    either : (b : Bool) → eqb q n ≡ b → (list_any (eqb q) rest ≡ true → q < length g.rules) → (b || list_any (eqb q) rest) ≡ true → q < length g.rules
    either true e ih h = subst (λ k. k < length g.rules) (sym (eq_of q n e)) (rules_within g.rules (UnitRule m) n u)
    either false e ih h = ih h

-- a rule of each name that is led to is a leaf
pub leads_to_leaf : (g : Grammar) (r : Rule) (n o : ℕ) (xs : List ℕ) → Leads g n o xs → In r (rules_of g o) → is_leaf r ≡ true → In r (leaves g n)
unfolding Shorter
leads_to_leaf g r n o xs l i leaf =
    let s = shortened g n o xs l in
    of_leaf g r (length g.rules) n o s.0 s.1 (length-le_from_distinct_below s.0 (length g.rules) s.2 (on_way g n o s.0 s.1)) i leaf
