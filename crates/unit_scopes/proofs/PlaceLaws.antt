-- The clauses at the places of a group are those of its predicate.
use Rattle.std.proofs.Common.{◌≡◌, ◌<◌, ℕ, suc, ◌+◌, Bool, true, false, not, ◌||◌, ◌==◌, List, [], ◌∷◌, ◌++◌, length, get_or, cond, refl, ap, sym, ◌∙◌, true≢false, arith}
use Rattle.std.specs.Prelude.{filter, slice_get, position, nat_lt, Option, Some, None, option_and_then}
use Rattle.std.specs.List.{list_any, position_or_len}
use Rattle.std.specs.Option.{option_map_or}
use Rattle.std.proofs.lemmas.Bool.{eqb-true, or_parts}
use Rattle.std.proofs.lemmas.Bool.Decides.{nat_tests}
use Rattle.std.proofs.lemmas.List.Quantifiers.{position-Some}
use Rattle.std.proofs.lemmas.Option.{none-some}
use Rattle.ciao_reader.specs.declared.sentences.Sentence.{Sentence}
use Rattle.body_code.specs.Clauses.{indicator_of}
use Rattle.body_code.specs.declared.faults.Indicator.{Indicator}
use Rattle.unit_scopes.specs.Indicators.{same_indicator, is_among}
use Rattle.unit_scopes.specs.Sayings.{File}
use Rattle.unit_scopes.specs.Numbering.{with_head, heads_behind, indicators, is_clause_of, clauses_of}
use Rattle.unit_scopes.specs.Groups.{is_at, places_of, clause_place}
use Rattle.unit_scopes.specs.Sources.{IsSource}
use Rattle.unit_scopes.specs.Held.{clause_at, clauses_at, group_at, clauses_held}
use Rattle.unit_scopes.specs.declared.sources.Source.{Source}
use Rattle.unit_scopes.proofs.IndexLaws.{same_is, any_added, or_again, or_nothing}

-- what stands in a list from a place on

abbrev pub StandsFrom : {A : Type 0} → List A → ℕ → List A → Type 0
StandsFrom all k [] = Unit {0}
StandsFrom all k (x ∷ xs) = (slice_get all k ≡ Some x) × StandsFrom all (suc k) xs

stands_behind : {A : Type 0} (y : A) (all : List A) (k : ℕ) (xs : List A) → StandsFrom all k xs → StandsFrom (y ∷ all) (suc k) xs
stands_behind y all k [] stands = tt
stands_behind y all k (x ∷ xs) stands = (stands.0, stands_behind y all (suc k) xs stands.1)

-- a list stands in itself from the start on
pub stands_all : {A : Type 0} (xs : List A) → StandsFrom xs 0 xs
stands_all [] = tt
stands_all (x ∷ xs) = (refl, stands_behind x xs 0 xs (stands_all xs))

-- at the places of those that pass stand those that pass
pub at_places : (test : Sentence → Bool) (all : List Sentence) (k : ℕ) (xs : List Sentence) → StandsFrom all k xs → clauses_at all (places_of test k xs) ≡ filter test xs
at_places test all k [] stands = refl
at_places test all k (x ∷ xs) stands = by (test x) (at_places test all (suc k) xs stands.1)
  where
    by : (b : Bool) → clauses_at all (places_of test (suc k) xs) ≡ filter test xs
        → clauses_at all (cond b (k ∷ []) [] ++ places_of test (suc k) xs) ≡ cond b (x ∷ filter test xs) (filter test xs)
    by true rest = λ i. clause_at (stands.0 i) ++ rest i
    by false rest = rest

-- predicates by their places

same_self : (p : Indicator) → same_indicator p p ≡ true
same_self p = grind (arith, nat_tests)

-- a predicate is found at a place just if it is the one that is found there
pub found_at : (p other : Indicator) (ps : List Indicator) (q : ℕ) → position (same_indicator p) ps ≡ Some q → is_at q (position (same_indicator other) ps) ≡ same_indicator p other
found_at p other ps q found = by (same_indicator p other) refl
  where
    self : (n : ℕ) → (n == n) ≡ true
    self n = grind (arith, nat_tests)

    same : (r : ℕ) → r ≡ q → position (same_indicator other) ps ≡ Some r → same_indicator p other ≡ true
    same r at e =
        let here : p ≡ get_or ps q p = same_is p (get_or ps q p) (position-Some (same_indicator p) ps q p found).1 in
        let there : other ≡ get_or ps q p = same_is other (get_or ps q p) (position-Some (same_indicator other) ps q p (e ∙ ap Some at)).1 in
        ap (same_indicator p) (there ∙ sym here) ∙ same_self p

    other_place : (o : Option ℕ) → position (same_indicator other) ps ≡ o → same_indicator p other ≡ false → is_at q o ≡ false
    other_place None e differ = refl
    other_place (Some r) e differ = at (r == q) refl
      where
        at : (b : Bool) → (r == q) ≡ b → b ≡ false
        at true is = absurd (true≢false (sym (same r (eqb-true r q is) e) ∙ differ))
        at false is = refl

    by : (b : Bool) → same_indicator p other ≡ b → is_at q (position (same_indicator other) ps) ≡ b
    by true e = ap (is_at q) (ap (λ x. position (same_indicator x) ps) (sym (same_is p other e)) ∙ found) ∙ self q
    by false e = other_place (position (same_indicator other) ps) refl e

-- the same of a clause
clause_found : (p : Indicator) (ps : List Indicator) (q : ℕ) → position (same_indicator p) ps ≡ Some q → (s : Sentence) → is_at q (clause_place ps s) ≡ is_clause_of p s
clause_found p ps q found s = by (indicator_of s.term)
  where
    by : (o : Option Indicator) → is_at q (option_and_then (λ x. position (same_indicator x) ps) o) ≡ option_map_or (same_indicator p) o false
    by None = refl
    by (Some other) = found_at p other ps q found

-- a predicate that is found nowhere is none of them
found_nowhere : (p : Indicator) (ps : List Indicator) → position (same_indicator p) ps ≡ None → is_among p ps ≡ false
found_nowhere p ps none = by (is_among p ps) refl
  where
    within : (xs : List Indicator) → list_any (same_indicator p) xs ≡ true → position_or_len (same_indicator p) xs < length xs
    within [] any = absurd (true≢false (sym any))
    within (x ∷ xs) any = here (same_indicator p x) any (within xs)
      where
        here : (b : Bool) → (b || list_any (same_indicator p) xs) ≡ true → (list_any (same_indicator p) xs ≡ true → position_or_len (same_indicator p) xs < length xs)
            → cond (not b) (1 + position_or_len (same_indicator p) xs) 0 < suc (length xs)
        here true any rest = omega arith
        here false any rest = omega (arith, rest any)

    place : (n m : ℕ) → n < m → cond (nat_lt n m) (Some n) None ≡ None → ⊥
    place n m lt e = by_test (nat_lt n m) (grind (arith, nat_tests, lt)) e
      where
        by_test : (b : Bool) → b ≡ true → cond b (Some n) None ≡ None → ⊥
        by_test true is e = none-some n (sym e)
        by_test false is e = true≢false (sym is)

    by : (b : Bool) → is_among p ps ≡ b → b ≡ false
    by true e = absurd (place (position_or_len (same_indicator p) ps) (length ps) (within ps e) none)
    by false e = refl

-- clauses and their predicates

-- a predicate is among those of clauses just if one of them is its clause
pub among_heads : (p : Indicator) (ps : List Indicator) (ss : List Sentence) → is_among p (heads_behind ps ss) ≡ (is_among p ps || list_any (is_clause_of p) ss)
among_heads p ps [] = or_nothing (is_among p ps)
among_heads p ps (s ∷ ss) =
    among_heads p (with_head ps (indicator_of s.term)) ss
    ∙ ap (λ b. b || list_any (is_clause_of p) ss) (added (indicator_of s.term))
    ∙ or_again (is_among p ps) (is_clause_of p s) (list_any (is_clause_of p) ss)
  where
    added : (o : Option Indicator) → is_among p (with_head ps o) ≡ (is_among p ps || option_map_or (same_indicator p) o false)
    added None = or_nothing (is_among p ps)
    added (Some other) = any_added same_indicator same_is (same_indicator p) ps other

none_pass : {A : Type 0} (test : A → Bool) (xs : List A) → list_any test xs ≡ false → [] ≡ filter test xs
none_pass test [] none = refl
none_pass test (x ∷ xs) none =
    let both = or_parts (test x) (list_any test xs) none in
    none_pass test xs both.1 ∙ ap (λ b. cond b (x ∷ filter test xs) (filter test xs)) (sym both.0)

-- the clauses that are held of a predicate are its clauses
pub clauses_same : {at first : ℕ} (f : File) (s : Source) → IsSource at first f s → (p : Indicator) → clauses_held s p ≡ clauses_of f p
clauses_same f s h p =
    (λ i. clauses_at (h.parts i).clauses (group_at s.clauses (position (same_indicator p) (h.index.defined i))))
    ∙ by (position (same_indicator p) (indicators f)) refl
  where
    by : (o : Option ℕ) → position (same_indicator p) (indicators f) ≡ o → clauses_at f.parts.clauses (group_at s.clauses o) ≡ clauses_of f p
    by None e = none_pass (is_clause_of p) f.parts.clauses (sym (among_heads p [] f.parts.clauses) ∙ found_nowhere p (indicators f) e)
    by (Some q) e =
        let inside = (position-Some (same_indicator p) (indicators f) q p e).0 in
        ap (clauses_at f.parts.clauses) (h.clauses.each q inside)
        ∙ at_places (λ x. is_at q (clause_place (indicators f) x)) f.parts.clauses 0 f.parts.clauses (stands_all f.parts.clauses)
        ∙ (λ i. filter (λ x. clause_found p (indicators f) q e x i) f.parts.clauses)
