-- Who calls whom, by lists of callers.
-- The headline does not rest on this file.
use Rattle.std.specs.Prelude.{◌≡◌, ℕ, ◌==◌, ◌<◌, Bool, true, false, List, [], ◌∷◌, ◌++◌, filter, length, slice_index_or, if◌then◌else◌}
use Rattle.std.specs.List.{list_any}
use Rattle.prog_data.specs.declared.programs.Pred.{Pred}
use Rattle.prog_data.specs.Goals.{no_pred}
use Rattle.name_order.specs.Relations.{names_below}
use Rattle.fixpoint_analyser.specs.Ascent.{calls}

-- whether a number stands in a list
abbrev pub stands_in : List ℕ → ℕ → Bool
stands_in ns n = list_any (λ m. m == n) ns

-- whether it is the last one
abbrev pub ends_in : List ℕ → ℕ → Bool
ends_in [] n = false
ends_in (m ∷ []) n = m == n
ends_in (m ∷ k ∷ ns) n = ends_in (k ∷ ns) n

-- a list that ends in a number
abbrev pub ending_in : List ℕ → ℕ → List ℕ
ending_in ns n = if ends_in ns n then ns else ns ++ n ∷ []

-- a list that ends in a number, where a test holds
abbrev pub ending_where : Bool → List ℕ → ℕ → List ℕ
ending_where true ns n = ending_in ns n
ending_where false ns n = ns

-- the list of each that passes ends in a number, each other one is as before
pub record HasAdded (old new : List (List ℕ)) (n : ℕ) (passes : ℕ → Bool) : Type 0 where
  pub count : length new ≡ length old
  pub each : (q : ℕ) → q < length old → slice_index_or new q [] ≡ ending_where (passes q) (slice_index_or old q []) n

-- those of the first so many predicates that have a clause whose body calls this one, in order
abbrev pub callers_among : List Pred → ℕ → ℕ → List ℕ
callers_among preds first q = filter (λ p. list_any (λ clause. calls q clause.body) (slice_index_or preds p no_pred).clauses) (names_below first)

-- a list for each predicate has its callers among the first so many
pub record HasCallers (preds : List Pred) (first : ℕ) (lists : List (List ℕ)) : Type 0 where
  pub count : length lists ≡ length preds
  pub each : (q : ℕ) → q < length preds → slice_index_or lists q [] ≡ callers_among preds first q
