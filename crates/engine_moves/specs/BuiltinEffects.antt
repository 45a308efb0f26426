-- What is to be done for a built-in, and what was done with places.
-- The headline does not rest on this file.
use Rattle.std.specs.Prelude.{◌≡◌, ◌<◌, ℕ, ℤ, int_lt, int_le, Bool, true, false, not, List, [], ◌∷◌, ⊤}
use Rattle.std.specs.Ordering.{int_eq}
use Rattle.term_core.specs.declared.terms.Term.{Term}
use Rattle.term_core.specs.declared.terms.Term as term
use Rattle.prog_data.specs.declared.goals.Builtin.TheVariants as builtin
use Rattle.prog_data.specs.declared.goals.Goal as goal
use Rattle.machine_model.specs.Step.{Effect, Succeeds, Fails, Writes, Equates, Becomes, Faults}
use Rattle.term_heap.specs.declared.cells.Cell.{Cell}
use Rattle.term_heap.specs.declared.cells.Cell.TheVariants as cell
use Rattle.term_heap.specs.Changes.{Change, History, size_of, value_of, cell_term, IsEnd}
use Rattle.term_heap.specs.Loads.{HasLoaded}
use Rattle.unify_core.specs.Unifies.{HasUnified}
use Rattle.unify_core.specs.declared.unifying.Unified.{Unified}
use Rattle.engine_state.specs.declared.engine.Engine as code
use Rattle.engine_state.specs.BuiltinMoves.{with_heap, AreUnified}
use Rattle.engine_moves.specs.declared.builtins.effects.Effect as code_effect
use Rattle.engine_moves.specs.declared.builtins.effects.Effect.TheVariants as does
use Rattle.engine_moves.specs.declared.builtins.numbers.Comparison.{Comparison}
use Rattle.engine_moves.specs.declared.builtins.numbers.Comparison.TheVariants as comparison

-- what is to be done as an effect of the semantics, by the terms of places
abbrev pub as_effect : (ℕ → Term) → code_effect.Effect → Effect
as_effect value does.Succeeds = Succeeds
as_effect value does.Fails = Fails
as_effect value (does.Writes text) = Writes text
as_effect value (does.Equates x y) = Equates (value x) (value y)
as_effect value (does.EquatesNumber x n) = Equates (value x) (term.Int n)
as_effect value (does.Differs x y) = Becomes (goal.Not (goal.Builtin builtin.Unify (value x ∷ value y ∷ [])))
as_effect value (does.Faults kind) = Faults kind

-- its places are among so many
abbrev pub AreThere : ℕ → code_effect.Effect → Type 0
AreThere size does.Succeeds = ⊤
AreThere size does.Fails = ⊤
AreThere size (does.Writes text) = ⊤
AreThere size (does.Equates x y) = (x < size) × (y < size)
AreThere size (does.EquatesNumber x n) = x < size
AreThere size (does.Differs x y) = (x < size) × (y < size)
AreThere size (does.Faults kind) = ⊤

-- an effect of the semantics is what is to be done, with places of a heap
pub record HasEffect (h : List Change) (x : Effect) (e : code_effect.Effect) : Type 0 where
  pub is : x ≡ as_effect (value_of h) e
  pub there : AreThere (size_of h) e

-- how two numbers are compared
abbrev pub test_of : Comparison → ℤ → ℤ → Bool
test_of comparison.Less x y = int_lt x y
test_of comparison.Greater x y = int_lt y x
test_of comparison.LessEq x y = int_le x y
test_of comparison.GreaterEq x y = int_le y x
test_of comparison.Equal x y = int_eq x y
test_of comparison.NotEqual x y = not (int_eq x y)

-- a cell is no reference, and says what the term of a place is
pub record IsCellOf (h : List Change) (place : ℕ) (c : Cell) : Type 0 where
  pub root : ℕ
  pub is : value_of h place ≡ cell_term (value_of h) root c
  pub ends : IsEnd c

-- whether a cell has an integer
abbrev pub is_integer_cell : Cell → Bool
is_integer_cell (cell.Int n) = true
is_integer_cell other = false

-- whether it has an atom
abbrev pub is_atom_cell : Cell → Bool
is_atom_cell (cell.Atom a) = true
is_atom_cell other = false

-- two places of an engine were unified
pub record HasUnifiedPlaces (old : code.Engine) (x y : ℕ) (u : Unified) (new : code.Engine) : Type 0 where
  pub heap : History
  pub is_new : new ≡ with_heap old heap
  pub unified : AreUnified old x y u heap

-- a place was unified with a number that was put into a cell
pub record HasUnifiedNumber (old : code.Engine) (x : ℕ) (n : ℤ) (u : Unified) (new : code.Engine) : Type 0 where
  pub mid : History
  pub at : ℕ
  pub loaded : HasLoaded old.heap 0 (term.Int n ∷ []) at mid
  pub unified : HasUnifiedPlaces (with_heap old mid) x at u new

-- two places were unified, and the heap was undone
pub record HasTriedPlaces (old : code.Engine) (x y : ℕ) (u : Unified) (new : code.Engine) : Type 0 where
  pub tried : History
  pub heap : History
  pub is_new : new ≡ with_heap old heap
  pub unified : HasUnified old.heap.changes x y u tried.changes
  pub same : heap.changes ≡ old.heap.changes
