-- Predicates by what is held of units are those of their files.
use Rattle.std.proofs.Common.{◌≡◌, ◌<◌, ℕ, zero, suc, ◌+◌, Bool, true, false, not, ◌||◌, ◌==◌, nat_lt, List, [], ◌∷◌, ◌++◌, map, length, get_or, cond, refl, ap, sym, ◌∙◌, append_assoc, true≢false, arith}
use Rattle.std.specs.Prelude.{filter, slice_get, slice_index_or, position, Option, Some, None, option_and_then}
use Rattle.std.specs.List.{list_any, position_or_len}
use Rattle.std.specs.Option.{option_map_or}
use Rattle.std.proofs.lemmas.Bool.{and_parts, eqb-true, or_left, or_right}
use Rattle.std.proofs.lemmas.Bool.Decides.{nat_tests}
use Rattle.std.proofs.lemmas.List.Quantifiers.{position-Some}
use Rattle.std.proofs.lemmas.Option.{none-some}
use Rattle.ciao_reader.specs.declared.sentences.Sentence.{Sentence}
use Rattle.assertion_read.specs.declared.assertions.Assertion.{Assertion}
use Rattle.body_code.specs.Clauses.{indicator_of}
use Rattle.body_code.specs.declared.faults.Indicator.{Indicator}
use Rattle.unit_scopes.specs.Indicators.{same_indicator, is_among}
use Rattle.unit_scopes.specs.Sayings.{File}
use Rattle.unit_scopes.specs.Numbering.{indicators, is_clause_of, clauses_of, asserted, assertions_of}
use Rattle.unit_scopes.specs.Groups.{is_at, places_of, clause_place, assertion_place, AreGroups}
use Rattle.unit_scopes.specs.Sources.{IsSource, AreSources}
use Rattle.unit_scopes.specs.declared.sources.Source.{Source}
use Rattle.program_link.specs.Drafts.{draft_of, drafts_from, drafts}
use Rattle.program_link.specs.HeldPrograms.{pred_at, unit_preds_from, group_of, if_there, items_at, clauses_held, assertions_held, draft_held, drafts_held}
use Rattle.program_link.specs.declared.drafts.Draft.{Draft}

-- what stands in a list from a place on

abbrev pub StandsFrom : {A : Type 0} → List A → ℕ → List A → Type 0
StandsFrom all k [] = Unit {0}
StandsFrom all k (x ∷ xs) = (slice_get all k ≡ Some x) × StandsFrom all (suc k) xs

stands_behind : {A : Type 0} (y : A) (all : List A) (k : ℕ) (xs : List A) → StandsFrom all k xs → StandsFrom (y ∷ all) (suc k) xs
stands_behind y all k [] stands = tt
stands_behind y all k (x ∷ xs) stands = (stands.0, stands_behind y all (suc k) xs stands.1)

-- a list stands in itself from the start on
pub stands_all : {A : Type 0} (xs : List A) → StandsFrom xs 0 xs
stands_all [] = tt
stands_all (x ∷ xs) = (refl, stands_behind x xs 0 xs (stands_all xs))

-- at the places of those that pass stand those that pass
at_places : {A : Type 0} (test : A → Bool) (all : List A) (k : ℕ) (xs : List A) → StandsFrom all k xs → items_at all (places_of test k xs) ≡ filter test xs
at_places test all k [] stands = refl
at_places {A} test all k (x ∷ xs) stands = by (test x) (at_places test all (suc k) xs stands.1)
  where
    by : (b : Bool) → items_at all (places_of test (suc k) xs) ≡ filter test xs
        → items_at all (cond b (k ∷ []) [] ++ places_of test (suc k) xs) ≡ cond b (x ∷ filter test xs) (filter test xs)
    by true rest = λ i. if_there (stands.0 i) ++ rest i
    by false rest = rest

-- predicates by their places

same_is : (p q : Indicator) → same_indicator p q ≡ true → p ≡ q
same_is p q e =
    let both = and_parts (p.name == q.name) (p.arity == q.arity) e in
    let name = eqb-true p.name q.name both.0 in
    let arity = eqb-true p.arity q.arity both.1 in
    λ i. record { name = name i; arity = arity i }

same_self : (p : Indicator) → same_indicator p p ≡ true
same_self p = grind (arith, nat_tests)

-- a predicate is found at a place just if it is the one that is found there
pub found_at : (p other : Indicator) (ps : List Indicator) (q : ℕ) → position (same_indicator p) ps ≡ Some q → is_at q (position (same_indicator other) ps) ≡ same_indicator p other
found_at p other ps q found = by (same_indicator p other) refl
  where
    self : (n : ℕ) → (n == n) ≡ true
    self n = grind (arith, nat_tests)

    same : (r : ℕ) → r ≡ q → position (same_indicator other) ps ≡ Some r → same_indicator p other ≡ true
    same r at e =
        let here : p ≡ get_or ps q p = same_is p (get_or ps q p) (position-Some (same_indicator p) ps q p found).1 in
        let there : other ≡ get_or ps q p = same_is other (get_or ps q p) (position-Some (same_indicator other) ps q p (e ∙ ap Some at)).1 in
        ap (same_indicator p) (there ∙ sym here) ∙ same_self p

    other_place : (o : Option ℕ) → position (same_indicator other) ps ≡ o → same_indicator p other ≡ false → is_at q o ≡ false
    other_place None e differ = refl
    other_place (Some r) e differ = at (r == q) refl
      where
        at : (b : Bool) → (r == q) ≡ b → b ≡ false
        at true is = absurd (true≢false (sym (same r (eqb-true r q is) e) ∙ differ))
        at false is = refl

    by : (b : Bool) → same_indicator p other ≡ b → is_at q (position (same_indicator other) ps) ≡ b
    by true e = ap (is_at q) (ap (λ x. position (same_indicator x) ps) (sym (same_is p other e)) ∙ found) ∙ self q
    by false e = other_place (position (same_indicator other) ps) refl e

-- the same of a clause
clause_found : (p : Indicator) (ps : List Indicator) (q : ℕ) → position (same_indicator p) ps ≡ Some q → (s : Sentence) → is_at q (clause_place ps s) ≡ is_clause_of p s
clause_found p ps q found s = by (indicator_of s.term)
  where
    by : (o : Option Indicator) → is_at q (option_and_then (λ x. position (same_indicator x) ps) o) ≡ option_map_or (same_indicator p) o false
    by None = refl
    by (Some other) = found_at p other ps q found

-- one that is among others has a place
pub placed : (p : Indicator) (ps : List Indicator) → is_among p ps ≡ true → (q : ℕ) × (position (same_indicator p) ps ≡ Some q)
placed p ps among = (position_or_len (same_indicator p) ps, at (position_or_len (same_indicator p) ps) (length ps) (within ps among))
  where
    within : (xs : List Indicator) → list_any (same_indicator p) xs ≡ true → position_or_len (same_indicator p) xs < length xs
    within [] any = absurd (true≢false (sym any))
    within (x ∷ xs) any = here (same_indicator p x) any (within xs)
      where
        here : (b : Bool) → (b || list_any (same_indicator p) xs) ≡ true → (list_any (same_indicator p) xs ≡ true → position_or_len (same_indicator p) xs < length xs)
            → cond (not b) (1 + position_or_len (same_indicator p) xs) 0 < suc (length xs)
        here true any rest = omega arith
        here false any rest = omega (arith, rest any)

    at : (n m : ℕ) → n < m → cond (nat_lt n m) (Some n) None ≡ Some n
    at n m lt = let is : nat_lt n m ≡ true = grind (arith, nat_tests, lt) in ap (λ b. cond b (Some n) None) is

-- those behind others are among all
among_there : (front : List Indicator) (p : Indicator) (ps : List Indicator) → is_among p (front ++ p ∷ ps) ≡ true
among_there [] p ps = or_left (same_indicator p p) (is_among p ps) (same_self p)
among_there (x ∷ xs) p ps = or_right (same_indicator p x) (is_among p (xs ++ p ∷ ps)) (among_there xs p ps)

-- drafts

module _ (f : File) (s : Source) {at first : ℕ} (h : IsSource at first f s) (p : Indicator) (q : ℕ) (found : position (same_indicator p) (indicators f) ≡ Some q) where
  -- the clauses that are held of a predicate are its clauses
  clauses_same : clauses_held p (Some s) ≡ clauses_of f p
  clauses_same =
      (λ i. items_at (h.parts i).clauses (group_of s.clauses (position (same_indicator p) (h.index.defined i))))
      ∙ ap (λ o. items_at f.parts.clauses (group_of s.clauses o)) found
      ∙ ap (items_at f.parts.clauses) (h.clauses.each q (position-Some (same_indicator p) (indicators f) q p found).0)
      ∙ at_places (λ x. is_at q (clause_place (indicators f) x)) f.parts.clauses 0 f.parts.clauses (stands_all f.parts.clauses)
      ∙ (λ i. filter (λ x. clause_found p (indicators f) q found x i) f.parts.clauses)

  -- the assertions that are held of it are those about it
  assertions_same : assertions_held p (Some s) ≡ assertions_of f p
  assertions_same =
      (λ i. items_at (h.parts i).assertions (group_of s.assertions (position (same_indicator p) (h.index.defined i))))
      ∙ ap (λ o. items_at f.parts.assertions (group_of s.assertions o)) found
      ∙ ap (items_at f.parts.assertions) (h.assertions.each q (position-Some (same_indicator p) (indicators f) q p found).0)
      ∙ at_places (λ x. is_at q (assertion_place (indicators f) x)) f.parts.assertions 0 f.parts.assertions (stands_all f.parts.assertions)
      ∙ (λ i. filter (λ x. found_at p (asserted x) (indicators f) q found i) f.parts.assertions)

module _ (sources : List Source) where
  draft_same : (at first : ℕ) (f : File) (s : Source) → slice_get sources at ≡ Some s → IsSource at first f s → (p : Indicator) → is_among p (indicators f) ≡ true → draft_held sources (pred_at at p) ≡ draft_of at f p
  draft_same at first f s there h p among =
      let q = placed p (indicators f) among in
      let clauses = ap (clauses_held p) there ∙ clauses_same f s h p q.0 q.1 in
      let assertions = ap (assertions_held p) there ∙ assertions_same f s h p q.0 q.1 in
      λ i. record { unit = at; indicator = p; clauses = clauses i; assertions = assertions i }

  -- those of a file that are left
  file_drafts : (at first : ℕ) (f : File) (s : Source) → slice_get sources at ≡ Some s → IsSource at first f s → (front ps : List Indicator) → indicators f ≡ front ++ ps
      → map (draft_held sources) (map (pred_at at) ps) ≡ map (draft_of at f) ps
  file_drafts at first f s there h front [] e = refl
  file_drafts at first f s there h front (p ∷ ps) e =
      let one = draft_same at first f s there h p (ap (is_among p) e ∙ among_there front p ps) in
      let rest = file_drafts at first f s there h (front ++ p ∷ []) ps (e ∙ sym (append_assoc front (p ∷ []) ps)) in
      λ i. one i ∷ rest i

  map_behind : (ps qs : List _) → map (draft_held sources) (ps ++ qs) ≡ map (draft_held sources) ps ++ map (draft_held sources) qs
  map_behind [] qs = refl
  map_behind (p ∷ ps) qs = ap (λ ds. draft_held sources p ∷ ds) (map_behind ps qs)

  files_drafts : (at first : ℕ) (fs : List File) (ss : List Source) → StandsFrom sources at ss → AreSources at first fs ss → map (draft_held sources) (unit_preds_from at ss) ≡ drafts_from at fs
  files_drafts at first [] ss stands are = ap (λ xs. map (draft_held sources) (unit_preds_from at xs)) are
  files_drafts at first (f ∷ fs) [] stands are = absurd are
  files_drafts at first (f ∷ fs) (s ∷ ss) stands are =
      let own = ap (λ ps. map (draft_held sources) (map (pred_at at) ps)) are.0.index.defined ∙ file_drafts at first f s stands.0 are.0 [] (indicators f) refl in
      let rest = files_drafts (suc at) (length (indicators f) + first) fs ss stands.1 are.1 in
      map_behind (map (pred_at at) s.index.defined.keys) (unit_preds_from (suc at) ss) ∙ (λ i. own i ++ rest i)

-- the predicates of all units
pub drafts_are : (files : List File) (sources : List Source) → AreSources 0 0 files sources → drafts_held sources ≡ drafts files
drafts_are files sources are = files_drafts sources 0 0 files sources (stands_all sources) are
