-- Places by predicate: added one after the other, and each predicate's its own.
use Rattle.std.proofs.Common.{◌≡◌, ◌<◌, ℕ, zero, suc, ◌+◌, Bool, true, false, not, ◌&&◌, ◌||◌, ◌==◌, List, [], ◌∷◌, ◌++◌, map, length, get_or, drop, Option, None, Some, cond, refl, sym, ap, subst, ◌∙◌, append_assoc, true≢false, arith}
use Rattle.std.specs.Prelude.{filter, slice_get, slice_index_or, position, nat_lt, option_and_then}
use Rattle.std.specs.List.{list_any, position_or_len}
use Rattle.std.specs.Option.{option_map_or}
use Rattle.std.proofs.lemmas.Bool.{and_parts, and_from, or_parts, not-true, eqb-true}
use Rattle.std.proofs.lemmas.Bool.Decides.{nat_tests}
use Rattle.std.proofs.lemmas.List.Folds.{list_any-append}
use Rattle.std.proofs.lemmas.List.Quantifiers.{position-Some}
use Rattle.std.proofs.lemmas.Option.{none-some, same_Some}
use Rattle.term_core.proofs.Turns.{turn}
use Rattle.ciao_reader.specs.declared.sentences.Sentence.{Sentence}
use Rattle.body_code.specs.Clauses.{indicator_of}
use Rattle.body_code.specs.declared.faults.Indicator.{Indicator}
use Rattle.unit_scopes.specs.Indicators.{same_indicator, is_among, with_indicator}
use Rattle.unit_scopes.specs.Sayings.{File}
use Rattle.unit_scopes.specs.Numbering.{with_head, heads_behind, indicators, is_clause_of, clauses_of, asserted, assertions_of}
use Rattle.unit_scopes.specs.Groups.{is_at, places_of, clause_place, assertion_place, HasPlace, AreGroups}
use Rattle.unit_scopes.specs.SourceLaws.{Picks, PlacesPick}
use Rattle.unit_scopes.proofs.IndexLaws.{same_is}

-- what is done before what is left
pub record Grouping {A : Type 0} (count : ℕ) (at : A → Option ℕ) (xs : List A) (k : ℕ) (groups : List (List ℕ)) : Type 0 where
  pub all : length groups ≡ count
  pub each : (q : ℕ) → q < count → slice_index_or groups q [] ++ places_of (λ x. is_at q (at x)) k (drop k xs) ≡ places_of (λ x. is_at q (at x)) 0 xs

pub grouping_next : {A : Type 0} (count : ℕ) (at : A → Option ℕ) (xs : List A) (k : ℕ) (x : A) (old new : List (List ℕ)) → k < length xs → x ≡ get_or xs k x
    → Grouping count at xs k old → HasPlace old new (at x) k → Grouping count at xs (k + 1) new
grouping_next count at xs k x old new lt e held has = record {
  all = has.count ∙ held.all;
  each = λ q below.
      let left = places_of (λ y. is_at q (at y)) (k + 1) (drop (k + 1) xs) in
      let same : suc k ≡ k + 1 = omega arith in
      ap (λ ns. ns ++ left) (has.each q (subst (λ n. q < n) (sym held.all) below))
      ∙ append_assoc (slice_index_or old q []) (cond (is_at q (at x)) (k ∷ []) []) left
      ∙ ap (λ ns. slice_index_or old q [] ++ ns) (ap (λ n. cond (is_at q (at x)) (k ∷ []) [] ++ places_of (λ y. is_at q (at y)) n (drop (k + 1) xs)) (sym same)
      ∙ sym (turn (λ ys. places_of (λ y. is_at q (at y)) k ys) xs k x lt e))
      ∙ held.each q below;
}

-- places lead to items

later : {A : Type 0} (test : A → Bool) (n : ℕ) (xs : List A) → places_of test (suc n) xs ≡ map (λ m. suc m) (places_of test n xs)
later test n [] = refl
later test n (x ∷ xs) = by (test x) (later test (suc n) xs)
  where
    by : (b : Bool) → places_of test (suc (suc n)) xs ≡ map (λ m. suc m) (places_of test (suc n) xs)
        → cond b (suc n ∷ []) [] ++ places_of test (suc (suc n)) xs ≡ map (λ m. suc m) (cond b (n ∷ []) [] ++ places_of test (suc n) xs)
    by true rest = ap (λ ns. suc n ∷ ns) rest
    by false rest = rest

-- the places of those that pass pick those that pass
picked : {A : Type 0} (test : A → Bool) (xs : List A) → Picks xs (places_of test 0 xs) (filter test xs)
picked test [] = refl
picked test (x ∷ xs) = by (test x) (ap (map (slice_get (x ∷ xs))) (later test 0 xs) ∙ behind (places_of test 0 xs) ∙ picked test xs)
  where
    behind : (ns : List ℕ) → map (slice_get (x ∷ xs)) (map (λ m. suc m) ns) ≡ map (slice_get xs) ns
    behind [] = refl
    behind (n ∷ ns) = ap (λ os. slice_get xs n ∷ os) (behind ns)

    by : (b : Bool) → map (slice_get (x ∷ xs)) (places_of test 1 xs) ≡ map (λ y. Some y) (filter test xs)
        → Picks (x ∷ xs) (cond b (0 ∷ []) [] ++ places_of test 1 xs) (cond b (x ∷ filter test xs) (filter test xs))
    by true rest = ap (λ os. Some x ∷ os) rest
    by false rest = rest

-- a group picks those that pass, where these are those at its number
group_picks : {A : Type 0} (count : ℕ) (at : A → Option ℕ) (xs : List A) (groups : List (List ℕ)) → AreGroups count at xs groups
    → (q : ℕ) → q < count → (test : A → Bool) → ((x : A) → is_at q (at x) ≡ test x) → Picks xs (slice_index_or groups q []) (filter test xs)
group_picks count at xs groups are q within test same =
    ap (map (slice_get xs)) (are.each q within) ∙ picked (λ x. is_at q (at x)) xs ∙ (λ i. map (λ x. Some x) (filter (λ x. same x i) xs))

-- the predicates of clauses are distinct

same_self : (p : Indicator) → same_indicator p p ≡ true
same_self p = grind (arith, nat_tests)

same_turned : (p q : Indicator) → same_indicator p q ≡ same_indicator q p
same_turned p q = λ i. turned p.name q.name i && turned p.arity q.arity i
  where
    turned : (n m : ℕ) → (n == m) ≡ (m == n)
    turned n m = grind (arith, nat_tests)

-- no two of them are the same
abbrev are_distinct : List Indicator → Bool
are_distinct [] = true
are_distinct (p ∷ ps) = not (is_among p ps) && are_distinct ps

distinct_last : (ps : List Indicator) (p : Indicator) → are_distinct ps ≡ true → is_among p ps ≡ false → are_distinct (ps ++ p ∷ []) ≡ true
distinct_last [] p distinct new = refl
distinct_last (x ∷ xs) p distinct new =
    let both = and_parts (not (is_among x xs)) (are_distinct xs) distinct in
    let apart = or_parts (same_indicator p x) (is_among p xs) new in
    let here : is_among x (xs ++ p ∷ []) ≡ false = list_any-append (same_indicator x) xs (p ∷ []) ∙ (λ i. not-true (is_among x xs) both.0 i || ((same_turned x p ∙ apart.0) i || false)) in
    and_from (not (is_among x (xs ++ p ∷ []))) (are_distinct (xs ++ p ∷ [])) (ap not here) (distinct_last xs p both.1 apart.1)

distinct_heads : (ps : List Indicator) (ss : List Sentence) → are_distinct ps ≡ true → are_distinct (heads_behind ps ss) ≡ true
distinct_heads ps [] distinct = distinct
distinct_heads ps (s ∷ ss) distinct = distinct_heads (with_head ps (indicator_of s.term)) ss (added (indicator_of s.term))
  where
    by : (p : Indicator) (b : Bool) → is_among p ps ≡ b → are_distinct (cond b ps (ps ++ p ∷ [])) ≡ true
    by p true e = distinct
    by p false e = distinct_last ps p distinct e

    added : (o : Option Indicator) → are_distinct (with_head ps o) ≡ true
    added None = distinct
    added (Some p) = by p (is_among p ps) refl

-- each is found at its own place

unlike : (test : Indicator → Bool) (ps : List Indicator) (q : ℕ) (p : Indicator) → list_any test ps ≡ false → slice_get ps q ≡ Some p → test p ≡ false
unlike test [] q p none e = absurd (none-some p e)
unlike test (x ∷ xs) zero p none e = ap test (sym (same_Some x p e)) ∙ (or_parts (test x) (list_any test xs) none).0
unlike test (x ∷ xs) (suc q) p none e = unlike test xs q p (or_parts (test x) (list_any test xs) none).1 e

own_place : (ps : List Indicator) (q : ℕ) (p : Indicator) → are_distinct ps ≡ true → slice_get ps q ≡ Some p → (position_or_len (same_indicator p) ps ≡ q) × (q < length ps)
own_place [] q p distinct e = absurd (none-some p e)
own_place (x ∷ xs) zero p distinct e =
    let same : same_indicator p x ≡ true = ap (same_indicator p) (same_Some x p e) ∙ same_self p in
    (ap (λ b. cond (not b) (1 + position_or_len (same_indicator p) xs) 0) same, omega arith)
own_place (x ∷ xs) (suc q) p distinct e =
    let both = and_parts (not (is_among x xs)) (are_distinct xs) distinct in
    let rest = own_place xs q p both.1 e in
    let apart : same_indicator p x ≡ false = same_turned p x ∙ unlike (same_indicator x) xs q p (not-true (is_among x xs) both.0) e in
    let next : 1 + position_or_len (same_indicator p) xs ≡ suc q = omega (arith, rest.0) in
    (ap (λ b. cond (not b) (1 + position_or_len (same_indicator p) xs) 0) apart ∙ next, omega (arith, rest.1))

own_position : (ps : List Indicator) (q : ℕ) (p : Indicator) → (position_or_len (same_indicator p) ps ≡ q) × (q < length ps) → position (same_indicator p) ps ≡ Some q
own_position ps q p place = (λ i. cond (nat_lt (place.0 i) (length ps)) (Some (place.0 i)) None) ∙ ap (λ b. cond b (Some q) None) (below q (length ps) place.1)
  where
    below : (n m : ℕ) → n < m → nat_lt n m ≡ true
    below n m lt = grind (arith, nat_tests, lt)

-- at its place is found what is the same
found_there : (ps : List Indicator) (q : ℕ) (p other : Indicator) → position (same_indicator p) ps ≡ Some q → is_at q (position (same_indicator other) ps) ≡ same_indicator p other
found_there ps q p other found = by (same_indicator p other) refl
  where
    self : (n : ℕ) → (n == n) ≡ true
    self n = grind (arith, nat_tests)

    same : (r : ℕ) → r ≡ q → position (same_indicator other) ps ≡ Some r → same_indicator p other ≡ true
    same r at e =
        let here : p ≡ get_or ps q p = same_is p (get_or ps q p) (position-Some (same_indicator p) ps q p found).1 in
        let there : other ≡ get_or ps q p = same_is other (get_or ps q p) (position-Some (same_indicator other) ps q p (e ∙ ap (λ n. Some n) at)).1 in
        ap (same_indicator p) (there ∙ sym here) ∙ same_self p

    elsewhere : (o : Option ℕ) → position (same_indicator other) ps ≡ o → same_indicator p other ≡ false → is_at q o ≡ false
    elsewhere None e differ = refl
    elsewhere (Some r) e differ = at (r == q) refl
      where
        at : (b : Bool) → (r == q) ≡ b → b ≡ false
        at true is = absurd (true≢false (sym (same r (eqb-true r q is) e) ∙ differ))
        at false is = refl

    by : (b : Bool) → same_indicator p other ≡ b → is_at q (position (same_indicator other) ps) ≡ b
    by true e = ap (λ x. is_at q (position (same_indicator x) ps)) (sym (same_is p other e)) ∙ ap (is_at q) found ∙ self q
    by false e = elsewhere (position (same_indicator other) ps) refl e

module _ (f : File) (q : ℕ) (p : Indicator) (there : slice_get (indicators f) q ≡ Some p) where
  place : (position_or_len (same_indicator p) (indicators f) ≡ q) × (q < length (indicators f))
  place = own_place (indicators f) q p (distinct_heads [] f.parts.clauses refl) there

  said_there : (other : Indicator) → is_at q (position (same_indicator other) (indicators f)) ≡ same_indicator p other
  said_there other = found_there (indicators f) q p other (own_position (indicators f) q p place)

  clause_there : (o : Option Indicator) → is_at q (option_and_then (λ x. position (same_indicator x) (indicators f)) o) ≡ option_map_or (same_indicator p) o false
  clause_there None = refl
  clause_there (Some other) = said_there other

-- the places of each predicate's clauses and assertions pick these
pub places_pick : PlacesPick
places_pick = record {
  clauses = λ f groups are q p there. group_picks (length (indicators f)) (clause_place (indicators f)) f.parts.clauses groups are q (place f q p there).1 (is_clause_of p) (λ s. clause_there f q p there (indicator_of s.term));
  assertions = λ f groups are q p there. group_picks (length (indicators f)) (assertion_place (indicators f)) f.parts.assertions groups are q (place f q p there).1 (λ a. same_indicator p (asserted a)) (λ a. said_there f q p there (asserted a));
}
