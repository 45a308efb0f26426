-- Claims by counts are those of the assertions.
use Rattle.std.proofs.Common.{◌≡◌, ◌<◌, ◌≤◌, ℕ, zero, suc, ◌+◌, Bool, true, false, ◌&&◌, ◌==◌, nat_lt, List, [], ◌∷◌, ◌++◌, map, set, length, get_or, cond, refl, ap, sym, subst, ◌∙◌, length-append, length-set, get_or-set_same, get_or-set_other, true≢false, arith}
use Rattle.std.specs.Prelude.{filter, slice_get, slice_index_or, slice_set, position, Option, Some, None}
use Rattle.std.specs.List.{AllByRecursion, position_or_len}
use Rattle.std.specs.Option.{option_map_or}
use Rattle.std.proofs.lemmas.Bool.{eqb-true}
use Rattle.std.proofs.lemmas.Bool.Decides.{nat_tests}
use Rattle.std.proofs.lemmas.List.Elements.{filter-append}
use Rattle.std.proofs.lemmas.List.Quantifiers.{position-Some}
use Rattle.std.proofs.lemmas.Option.{cond_some}
use Rattle.prog_data.specs.declared.programs.Claim.{Claim}
use Rattle.assertion_read.specs.declared.assertions.Assertion.{Assertion}
use Rattle.assertion_normal.specs.declared.outcomes.Normal.{Normal}
use Rattle.body_code.specs.declared.faults.Indicator.{Indicator}
use Rattle.unit_scopes.specs.Indicators.{same_indicator, is_among, place_of}
use Rattle.unit_scopes.specs.Sayings.{File}
use Rattle.unit_scopes.specs.Numbering.{indicators, defines, asserted}
use Rattle.unit_scopes.specs.Groups.{is_at}
use Rattle.unit_scopes.specs.Sources.{AreSources}
use Rattle.unit_scopes.specs.declared.sources.Source.{Source}
use Rattle.program_link.specs.Programs.{is_reported, claims_about, claim_number, claim_in, claims_behind, claims_from}
use Rattle.program_link.specs.HeldPrograms.{if_there, claims_at, claim_counted, counted_at, reported_at, claims_counted, no_counts, claims_held}
use Rattle.program_link.proofs.DraftLaws.{found_at, placed}

-- a place behind the end changes nothing
pub set_behind : {A : Type 0} (xs : List A) (n : ℕ) (y : A) → length xs ≤ n → slice_set xs n y ≡ xs
set_behind [] n y le = refl
set_behind (x ∷ xs) zero y le = absurd (omega (arith, le))
set_behind (x ∷ xs) (suc n) y le = ap (λ ys. x ∷ ys) (set_behind xs n y (omega (arith, le)))

-- how many reported assertions about a predicate are among some
abbrev reported_of : List Assertion → Indicator → ℕ
reported_of before p = length (filter (λ b. is_reported b && same_indicator p (asserted b)) before)

-- counts are those of the assertions before
record AreCounts (ps : List Indicator) (before : List Assertion) (counts : List ℕ) : Type 0 where
  long : length counts ≡ length ps
  each : (p : Indicator) (q : ℕ) → position (same_indicator p) ps ≡ Some q → slice_index_or counts q 0 ≡ reported_of before p

-- none yet
counts_start : (ps : List Indicator) → AreCounts ps [] (no_counts ps)
counts_start ps = record { long = long ps; each = λ p q e. zeros ps q }
  where
    long : (ps : List Indicator) → length (no_counts ps) ≡ length ps
    long [] = refl
    long (p ∷ ps) = ap suc (long ps)

    zeros : (ps : List Indicator) (q : ℕ) → slice_index_or (no_counts ps) q 0 ≡ 0
    zeros [] q = refl
    zeros (p ∷ ps) zero = refl
    zeros (p ∷ ps) (suc q) = zeros ps q

-- one more assertion, if it passes
reported_next : (before : List Assertion) (a : Assertion) (p : Indicator) (b : Bool) → (is_reported a && same_indicator p (asserted a)) ≡ b → reported_of (before ++ a ∷ []) p ≡ reported_of before p + cond b 1 0
reported_next before a p b e =
    ap length (filter-append (λ c. is_reported c && same_indicator p (asserted c)) before (a ∷ []))
    ∙ length-append (filter (λ c. is_reported c && same_indicator p (asserted c)) before) (filter (λ c. is_reported c && same_indicator p (asserted c)) (a ∷ []))
    ∙ ap (λ n. reported_of before p + n) (ap (λ c. length (cond c (a ∷ []) [])) e ∙ one b)
  where
    one : (b : Bool) → length (cond b (a ∷ []) []) ≡ cond b 1 0
    one true = refl
    one false = refl

-- an assertion that is not reported is not counted
counts_same : (ps : List Indicator) (before : List Assertion) (a : Assertion) (counts : List ℕ) → is_reported a ≡ false → AreCounts ps before counts → AreCounts ps (before ++ a ∷ []) counts
counts_same ps before a counts e are = record {
  long = are.long;
  each = λ p q found.
      let same = reported_next before a p false (ap (λ b. b && same_indicator p (asserted a)) e) in
      let old = are.each p q found in
      omega (arith, same, old);
}

-- one that is reported is counted at its predicate
counts_next : (ps : List Indicator) (before : List Assertion) (a : Assertion) (counts : List ℕ) (r : ℕ) → is_reported a ≡ true → position (same_indicator (asserted a)) ps ≡ Some r → AreCounts ps before counts
    → AreCounts ps (before ++ a ∷ []) (slice_set counts r (slice_index_or counts r 0 + 1))
counts_next ps before a counts r e at are = record {
  long = length-set counts r (slice_index_or counts r 0 + 1) ∙ are.long;
  each = λ p q found. by p q found (r == q) refl;
}
  where
    next : List ℕ
    next = slice_set counts r (slice_index_or counts r 0 + 1)

    below : r < length counts
    below = let inside : r < length ps = (position-Some (same_indicator (asserted a)) ps r (asserted a) at).0 in subst (λ n. r < n) (sym are.long) inside

    -- the assertion is about a predicate just if it is at its place
    about : (p : Indicator) (q : ℕ) → position (same_indicator p) ps ≡ Some q → (r == q) ≡ same_indicator p (asserted a)
    about p q found = ap (is_at q) (sym at) ∙ found_at p (asserted a) ps q found

    by : (p : Indicator) (q : ℕ) → position (same_indicator p) ps ≡ Some q → (b : Bool) → (r == q) ≡ b → slice_index_or next q 0 ≡ reported_of (before ++ a ∷ []) p
    by p q found true is =
        let same : r ≡ q = eqb-true r q is in
        let more = reported_next before a p true (ap (λ b. b && same_indicator p (asserted a)) e ∙ sym (about p q found) ∙ is) in
        let old = are.each p q found in
        subst (λ n. slice_index_or next n 0 ≡ slice_index_or counts n 0 + 1) same (get_or-set_same counts r (slice_index_or counts r 0 + 1) 0 below)
        ∙ ap (λ n. n + 1) old
        ∙ sym more
    by p q found false is =
        let other : q ≡ r → ⊥ = λ same. true≢false (sym (apart r q (sym same)) ∙ is) in
        let more = reported_next before a p false (ap (λ b. b && same_indicator p (asserted a)) e ∙ sym (about p q found) ∙ is) in
        let old = are.each p q found in
        let kept : slice_index_or next q 0 ≡ slice_index_or counts q 0 = get_or-set_other counts r q (slice_index_or counts r 0 + 1) 0 other in
        omega (arith, kept, old, more)
      where
        apart : (n m : ℕ) → n ≡ m → (n == m) ≡ true
        apart n m same = grind (arith, nat_tests, same)

-- the place that is found
place_is : (p : Indicator) (ps : List Indicator) (q : ℕ) → position (same_indicator p) ps ≡ Some q → place_of p ps ≡ q
place_is p ps q found = (cond_some (nat_lt (position_or_len (same_indicator p) ps) (length ps)) (position_or_len (same_indicator p) ps) q found).1

module _ (normals : List Normal) (first : ℕ) (ps : List Indicator) where
  -- by counts, claims are those behind the assertions before
  claims_same : (before rest : List Assertion) (counts : List ℕ) → AllByRecursion (λ a. is_among (asserted a) ps ≡ true) rest → AreCounts ps before counts
      → claims_counted normals first ps counts rest ≡ claims_behind normals first ps before rest
  claims_same before [] counts among are = refl
  claims_same before (a ∷ rest) counts among are = by (is_reported a) refl (λ next h. claims_same (before ++ a ∷ []) rest next among.1 h)
    where
      place : (q : ℕ) × (position (same_indicator (asserted a)) ps ≡ Some q)
      place = placed (asserted a) ps among.0

      -- the claim of a reported one
      claim : is_reported a ≡ true → claim_counted normals first counts (position (same_indicator (asserted a)) ps) ≡ if_there (slice_get (claims_about normals first ps a) (claim_number before a))
      claim e =
          let here = sym (place_is (asserted a) ps place.0 place.1) in
          let count = are.each (asserted a) place.0 place.1 in
          ap (claim_counted normals first counts) place.1 ∙ (λ i. if_there (slice_get (claims_at normals (here i + first)) (count i)))

      by : (b : Bool) → is_reported a ≡ b
          → ((next : List ℕ) → AreCounts ps (before ++ a ∷ []) next → claims_counted normals first ps next rest ≡ claims_behind normals first ps (before ++ a ∷ []) rest)
          → claims_counted normals first ps counts (a ∷ rest) ≡ claims_behind normals first ps before (a ∷ rest)
      by true e later =
          let at : reported_at ps a ≡ position (same_indicator (asserted a)) ps = ap (λ b. cond b (position (same_indicator (asserted a)) ps) None) e in
          let here : claim_in normals first ps before a ≡ if_there (slice_get (claims_about normals first ps a) (claim_number before a)) = ap (λ b. cond b (if_there (slice_get (claims_about normals first ps a) (claim_number before a))) []) e in
          let next = counts_next ps before a counts place.0 e place.1 are in
          let moved : counted_at counts (reported_at ps a) ≡ slice_set counts place.0 (slice_index_or counts place.0 0 + 1) = ap (counted_at counts) (at ∙ place.1) in
          let behind = ap (λ ns. claims_counted normals first ps ns rest) moved ∙ later (slice_set counts place.0 (slice_index_or counts place.0 0 + 1)) next in
          let own = ap (claim_counted normals first counts) at ∙ claim e ∙ sym here in
          λ i. own i ++ behind i
      by false e later =
          let at : reported_at ps a ≡ None = ap (λ b. cond b (position (same_indicator (asserted a)) ps) None) e in
          let here : claim_in normals first ps before a ≡ [] = ap (λ b. cond b (if_there (slice_get (claims_about normals first ps a) (claim_number before a))) []) e in
          let behind = ap (λ o. claims_counted normals first ps (counted_at counts o) rest) at ∙ later counts (counts_same ps before a counts e are) in
          let own = ap (claim_counted normals first counts) at ∙ sym here in
          λ i. own i ++ behind i

-- the claims of files whose assertions are about predicates of theirs
pub claims_are : (normals : List Normal) (number at first : ℕ) (fs : List File) (ss : List Source) → AreSources at first fs ss
    → AllByRecursion (λ f. AllByRecursion (λ a. defines f (asserted a) ≡ true) f.parts.assertions) fs → claims_held normals number ss ≡ claims_from normals number fs
claims_are normals number at first [] ss are among = ap (claims_held normals number) are
claims_are normals number at first (f ∷ fs) [] are among = absurd are
claims_are normals number at first (f ∷ fs) (s ∷ ss) are among =
    let h = are.0 in
    let own = (λ i. claims_counted normals number (h.index.defined i) (no_counts (h.index.defined i)) (h.parts i).assertions) ∙ claims_same normals number (indicators f) [] f.parts.assertions (no_counts (indicators f)) among.0 (counts_start (indicators f)) in
    let rest = ap (λ ps. claims_held normals (length ps + number) ss) h.index.defined ∙ claims_are normals (length (indicators f) + number) (suc at) (length (indicators f) + first) fs ss are.1 among.1 in
    λ i. own i ++ rest i
