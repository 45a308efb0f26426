-- Places of clauses and of assertions, by predicate.
-- The headline does not rest on this file.
use Rattle.std.specs.Prelude.{◌≡◌, ◌<◌, ℕ, suc, ◌==◌, Bool, false, List, [], ◌∷◌, ◌++◌, length, slice_index_or, position, Option, Some, None, option_and_then, if◌then◌else◌}
use Rattle.ciao_reader.specs.declared.sentences.Sentence.{Sentence}
use Rattle.assertion_read.specs.declared.assertions.Assertion.{Assertion}
use Rattle.body_code.specs.Clauses.{indicator_of}
use Rattle.body_code.specs.declared.faults.Indicator.{Indicator}
use Rattle.unit_scopes.specs.Indicators.{same_indicator}
use Rattle.unit_scopes.specs.Numbering.{asserted}

-- whether this place is the number of a predicate
abbrev pub is_at : ℕ → Option ℕ → Bool
is_at q None = false
is_at q (Some at) = at == q

-- the places of those that pass, from this place on
abbrev pub places_of : {A : Type 0} → (A → Bool) → ℕ → List A → List ℕ
places_of test n [] = []
places_of test n (x ∷ xs) = (if test x then n ∷ [] else []) ++ places_of test (suc n) xs

-- where the predicate of a clause is among others
abbrev pub clause_place : List Indicator → Sentence → Option ℕ
clause_place ps s = option_and_then (λ p. position (same_indicator p) ps) (indicator_of s.term)

-- where that of an assertion is
abbrev pub assertion_place : List Indicator → Assertion → Option ℕ
assertion_place ps a = position (same_indicator (asserted a)) ps

-- a place is added to one group, if it is there
pub record HasPlace (old new : List (List ℕ)) (at : Option ℕ) (place : ℕ) : Type 0 where
  pub count : length new ≡ length old
  pub each : (q : ℕ) → q < length old → slice_index_or new q [] ≡ slice_index_or old q [] ++ (if is_at q at then place ∷ [] else [])

-- each group has the places of those whose predicate has its number
pub record AreGroups {A : Type 0} (count : ℕ) (at : A → Option ℕ) (xs : List A) (groups : List (List ℕ)) : Type 0 where
  pub all : length groups ≡ count
  pub each : (q : ℕ) → q < count → slice_index_or groups q [] ≡ places_of (λ x. is_at q (at x)) 0 xs
