-- A clause's head against places in a row.
-- The headline does not rest on this file.
use Rattle.std.specs.Prelude.{◌≡◌, ◌≤◌, ◌<◌, ℕ, false, List, map, length, replicate, ◌∷◌}
use Rattle.term_core.specs.declared.terms.Term.{Term, Var}
use Rattle.term_core.specs.declared.equations.Equation.{Equation}
use Rattle.term_core.specs.declared.equations.Outcome.TheVariants as outcome
use Rattle.term_core.specs.Terms.{instance, occurs}
use Rattle.term_core.specs.Unify.{pairs, Unified as EndsIn}
use Rattle.term_core.specs.Variants.{IsMostGeneral}
use Rattle.term_heap.specs.declared.cells.Cell.TheVariants.{Free}
use Rattle.term_heap.specs.Changes.{Change, Grows, places, size_of, value_of, IsMade}
use Rattle.term_heap.specs.Loads.{from_base}
use Rattle.unify_core.specs.declared.unifying.Unified.{Unified}
use Rattle.unify_core.specs.declared.unifying.Unified.TheVariants.{Same, Clash, Cyclic}

-- the equations of places in a row, from the first on, with terms whose variables are places counted from a base on
abbrev pub head_equations : (value : ℕ → Term) → (base first : ℕ) → List Term → List Equation
head_equations value base first ts = pairs (map value (places first (length ts))) (map (instance (from_base value base)) ts)

-- how the equations of places and a head end; where they are solved, each place has its old term under a most general solution
abbrev pub HasMatched : List Change → (base first : ℕ) → List Term → Unified → List Change → Type 0
HasMatched old base first ts Same new = (value : ℕ → Term) × IsMostGeneral (head_equations (value_of old) base first ts) value × ((i : ℕ) → i < size_of old → value_of new i ≡ instance value (value_of old i))
HasMatched old base first ts Clash new = EndsIn (head_equations (value_of old) base first ts) outcome.Clash
HasMatched old base first ts Cyclic new = EndsIn (head_equations (value_of old) base first ts) outcome.Cyclic

-- the places from a base on are variables, each of which stands in the term of no other place
pub record AreNew (changes : List Change) (base : ℕ) : Type 0 where
  pub themselves : (w : ℕ) → base ≤ w → w < size_of changes → value_of changes w ≡ Var w
  pub apart : (w i : ℕ) → base ≤ w → w < size_of changes → i < size_of changes → (i ≡ w → ⊥) → occurs w (value_of changes i) ≡ false

-- new free cells are such places
abbrev pub FreshAreNew : Type 0
FreshAreNew = (changes : List Change) (count s : ℕ) → IsMade changes → AreNew (Grows (replicate count Free) s ∷ changes) (size_of changes)
