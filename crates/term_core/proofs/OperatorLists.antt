-- Lists of definitions, looked up and changed.
use Rattle.std.proofs.Common.{arith, ◌≡◌, ◌<◌, inl, inr, ℕ, List, [], ◌∷◌, refl, ap, sym, ◌∙◌, Bool, true, false, map}
use Rattle.std.specs.Prelude.{◌&&◌, ◌||◌, ◌==◌, not, nat_eq, Some, None, if◌then◌else◌, filter}
use Rattle.std.specs.List.{list_any, list_all, IsDistinct, AllByRecursion}
use Rattle.std.proofs.lemmas.Bool.{and_parts, and_from, or_parts, not-true, eq-eqb, eqb-true, eqb-false, ne_eqb, cases_lt}
use Rattle.std.proofs.lemmas.Option.{none-some, same_Some}
use Rattle.term_core.specs.declared.operators.Op.{Op}
use Rattle.term_core.specs.declared.operators.Definition.{Definition}
use Rattle.term_core.specs.Operators.{defined, redefined}
use Rattle.term_core.specs.OperatorLaws.{NamesOnce, op_or_none}

-- looking up

-- what holds of each definition holds of the one that is found
pub found_all : (test : Op → Bool) (ds : List Definition) (f : ℕ) (o : Op) → list_all (λ d. test d.op) ds ≡ true → defined ds f ≡ Some o → test o ≡ true
found_all test [] f o h e = absurd (none-some o e)
found_all test (d ∷ ds) f o h e = by (d.name == f) e (found_all test ds f o (and_parts _ _ h).1)
  where
    by : (b : Bool) → (if b then Some d.op else defined ds f) ≡ Some o → (defined ds f ≡ Some o → test o ≡ true) → test o ≡ true
    by true g r = ap test (sym (same_Some _ _ g)) ∙ (and_parts _ _ h).0
    by false g r = r g

-- what holds of no definition does not hold of the one that is found
pub found_none : (test : Op → Bool) (ds : List Definition) (f : ℕ) (o : Op) → list_any (λ d. test d.op) ds ≡ false → defined ds f ≡ Some o → test o ≡ false
found_none test [] f o h e = absurd (none-some o e)
found_none test (d ∷ ds) f o h e = by (d.name == f) e (found_none test ds f o (or_parts _ _ h).1)
  where
    by : (b : Bool) → (if b then Some d.op else defined ds f) ≡ Some o → (defined ds f ≡ Some o → test o ≡ false) → test o ≡ false
    by true g r = ap test (sym (same_Some _ _ g)) ∙ (or_parts _ _ h).0
    by false g r = r g

-- leaving out a name

-- the definitions of other names are among all
others_all : (test : Definition → Bool) (ds : List Definition) (n : ℕ) → list_all test ds ≡ true → list_all test (filter (λ d. not (d.name == n)) ds) ≡ true
others_all test [] n h = refl
others_all test (d ∷ ds) n h = by (not (d.name == n)) (and_parts _ _ h).0 (others_all test ds n (and_parts _ _ h).1)
  where
    by : (b : Bool) → test d ≡ true → list_all test (filter (λ x. not (x.name == n)) ds) ≡ true → list_all test (if b then d ∷ filter (λ x. not (x.name == n)) ds else filter (λ x. not (x.name == n)) ds) ≡ true
    by true g r = and_from _ _ g r
    by false g r = r

-- a change of one name leaves the definitions of the others
defined_others : (ds : List Definition) (n m : ℕ) → (n ≡ m → ⊥) → defined (filter (λ d. not (d.name == n)) ds) m ≡ defined ds m
defined_others [] n m ne = refl
defined_others (d ∷ ds) n m ne = by (d.name == n) refl (defined_others ds n m ne)
  where
    by : (b : Bool) → b ≡ (d.name == n) → defined (filter (λ x. not (x.name == n)) ds) m ≡ defined ds m → defined (if not b then d ∷ filter (λ x. not (x.name == n)) ds else filter (λ x. not (x.name == n)) ds) m ≡ (if d.name == m then Some d.op else defined ds m)
    by false e r = ap (λ o. if d.name == m then Some d.op else o) r
    by true e r = r ∙ sym (ap (λ b. if b then Some d.op else defined ds m) (ne_eqb d.name m (λ g. ne (sym (eqb-true d.name n (sym e)) ∙ g))))

-- and none of its own
defined_left : (ds : List Definition) (n : ℕ) → defined (filter (λ d. not (d.name == n)) ds) n ≡ None
defined_left [] n = refl
defined_left (d ∷ ds) n = by (d.name == n) refl (defined_left ds n)
  where
    by : (b : Bool) → b ≡ (d.name == n) → defined (filter (λ x. not (x.name == n)) ds) n ≡ None → defined (if not b then d ∷ filter (λ x. not (x.name == n)) ds else filter (λ x. not (x.name == n)) ds) n ≡ None
    by true e r = r
    by false e r = ap (λ b. if b then Some d.op else defined (filter (λ x. not (x.name == n)) ds) n) (sym e) ∙ r

-- the changed list has a test passed only by what passed it before
none_left : (test : Definition → Bool) (ds : List Definition) (n : ℕ) → list_any test ds ≡ false → list_any test (filter (λ d. not (d.name == n)) ds) ≡ false
none_left test [] n h = refl
none_left test (d ∷ ds) n h = by (not (d.name == n)) (or_parts _ _ h).0 (none_left test ds n (or_parts _ _ h).1)
  where
    by : (b : Bool) → test d ≡ false → list_any test (filter (λ x. not (x.name == n)) ds) ≡ false → list_any test (if b then d ∷ filter (λ x. not (x.name == n)) ds else filter (λ x. not (x.name == n)) ds) ≡ false
    by true g r = ap (λ b. b || list_any test (filter (λ x. not (x.name == n)) ds)) g ∙ r
    by false g r = r

-- names that stand once

-- a name that is none of these
abbrev IsNew : ℕ → List Definition → Type 0
IsNew n ds = AllByRecursion (λ y. nat_eq n y ≡ false) (map (λ d. d.name) ds)

others_new : (m n : ℕ) (ds : List Definition) → IsNew m ds → IsNew m (filter (λ d. not (d.name == n)) ds)
others_new m n [] h = tt
others_new m n (d ∷ ds) h = by (not (d.name == n)) (others_new m n ds h.1)
  where
    by : (b : Bool) → IsNew m (filter (λ x. not (x.name == n)) ds) → IsNew m (if b then d ∷ filter (λ x. not (x.name == n)) ds else filter (λ x. not (x.name == n)) ds)
    by true r = (h.0, r)
    by false r = r

left_new : (n : ℕ) (ds : List Definition) → IsNew n (filter (λ d. not (d.name == n)) ds)
left_new n [] = tt
left_new n (d ∷ ds) = by (d.name == n) refl (left_new n ds)
  where
    by : (b : Bool) → b ≡ (d.name == n) → IsNew n (filter (λ x. not (x.name == n)) ds) → IsNew n (if not b then d ∷ filter (λ x. not (x.name == n)) ds else filter (λ x. not (x.name == n)) ds)
    by true e r = r
    by false e r = (ne_eqb n d.name (λ g. eqb-false d.name n (sym e) (sym g)), r)

others_once : (n : ℕ) (ds : List Definition) → NamesOnce ds → NamesOnce (filter (λ d. not (d.name == n)) ds)
unfolding IsDistinct
others_once n [] h = tt
others_once n (d ∷ ds) h = by (not (d.name == n)) (others_once n ds h.1)
  where
    by : (b : Bool) → NamesOnce (filter (λ x. not (x.name == n)) ds) → NamesOnce (if b then d ∷ filter (λ x. not (x.name == n)) ds else filter (λ x. not (x.name == n)) ds)
    by true r = (others_new d.name n ds h.0, r)
    by false r = r

-- whether each of some numbers stands once
abbrev pub is_once : List ℕ → Bool
is_once [] = true
is_once (n ∷ ns) = list_all (λ m. not (nat_eq n m)) ns && is_once ns

apart_by : (n : ℕ) (ns : List ℕ) → list_all (λ m. not (nat_eq n m)) ns ≡ true → AllByRecursion (λ m. nat_eq n m ≡ false) ns
apart_by n [] h = tt
apart_by n (m ∷ ns) h = (not-true (nat_eq n m) (and_parts _ _ h).0, apart_by n ns (and_parts _ _ h).1)

pub once_by : (ns : List ℕ) → is_once ns ≡ true → IsDistinct nat_eq ns
unfolding IsDistinct
once_by [] h = tt
once_by (n ∷ ns) h = (apart_by n ns (and_parts _ _ h).0, once_by ns (and_parts _ _ h).1)

-- the changed list

module _ (new : Definition) (ds : List Definition) where
  pub redefined_all : (test : Op → Bool) → (0 < new.op.priority → test new.op ≡ true) → list_all (λ d. test d.op) ds ≡ true → list_all (λ d. test d.op) (redefined new ds) ≡ true
  redefined_all test fits h = by (new.op.priority == 0) refl (others_all (λ d. test d.op) ds new.name h)
    where
      by : (b : Bool) → b ≡ (new.op.priority == 0) → list_all (λ d. test d.op) (filter (λ d. not (d.name == new.name)) ds) ≡ true
          → list_all (λ d. test d.op) (if b then filter (λ d. not (d.name == new.name)) ds else new ∷ filter (λ d. not (d.name == new.name)) ds) ≡ true
      by true e r = r
      by false e r = and_from _ _ (fits (above new.op.priority (eqb-false _ _ (sym e)))) r
        where
          above : (n : ℕ) → (n ≡ 0 → ⊥) → 0 < n
          above n ne = elim (cases_lt 0 n) [ inl l ↦ l | inr l ↦ absurd (ne (omega (arith, l))) ]

  pub redefined_none : (test : Definition → Bool) → test new ≡ false → list_any test ds ≡ false → list_any test (redefined new ds) ≡ false
  redefined_none test g h = by (new.op.priority == 0) (none_left test ds new.name h)
    where
      by : (b : Bool) → list_any test (filter (λ d. not (d.name == new.name)) ds) ≡ false
          → list_any test (if b then filter (λ d. not (d.name == new.name)) ds else new ∷ filter (λ d. not (d.name == new.name)) ds) ≡ false
      by true r = r
      by false r = ap (λ b. b || list_any test (filter (λ d. not (d.name == new.name)) ds)) g ∙ r

  pub redefined_others : (m : ℕ) → (new.name ≡ m → ⊥) → defined (redefined new ds) m ≡ defined ds m
  redefined_others m ne = by (new.op.priority == 0)
    where
      by : (b : Bool) → defined (if b then filter (λ d. not (d.name == new.name)) ds else new ∷ filter (λ d. not (d.name == new.name)) ds) m ≡ defined ds m
      by true = defined_others ds new.name m ne
      by false = ap (λ b. if b then Some new.op else defined (filter (λ d. not (d.name == new.name)) ds) m) (ne_eqb new.name m ne) ∙ defined_others ds new.name m ne

  pub redefined_now : defined (redefined new ds) new.name ≡ op_or_none new.op.priority new.op.kind
  redefined_now = by (new.op.priority == 0)
    where
      by : (b : Bool) → defined (if b then filter (λ d. not (d.name == new.name)) ds else new ∷ filter (λ d. not (d.name == new.name)) ds) new.name ≡ (if b then None else Some new.op)
      by true = defined_left ds new.name
      by false = ap (λ b. if b then Some new.op else defined (filter (λ d. not (d.name == new.name)) ds) new.name) (eq-eqb new.name new.name refl)

  pub redefined_once : NamesOnce ds → NamesOnce (redefined new ds)
  unfolding IsDistinct
  redefined_once h = by (new.op.priority == 0)
    where
      by : (b : Bool) → NamesOnce (if b then filter (λ d. not (d.name == new.name)) ds else new ∷ filter (λ d. not (d.name == new.name)) ds)
      by true = others_once new.name ds h
      by false = (left_new new.name ds, others_once new.name ds h)
