-- Kinds of terms, by the cells of their places.
use Rattle.std.proofs.Common.{◌≡◌, ◌<◌, ℕ, Bool, List, map, refl, sym, ap, ◌∙◌, subst}
use Rattle.std.specs.Prelude.{ℤ, Ok}
use Rattle.term_core.specs.declared.terms.Term.{Term, out-Term}
use Rattle.term_core.specs.declared.terms.Term.TheOpen as layer
use Rattle.term_core.specs.declared.terms.Term.TheVariants.{outs-Var, outs-Int, outs-Atom, outs-Node}
use Rattle.term_heap.specs.declared.cells.Cell.{Cell}
use Rattle.term_heap.specs.declared.cells.Cell.TheVariants as cell
use Rattle.term_heap.specs.Changes.{Change, value_of, size_of, cells_of, cell_at, cell_term, places, IsMade, IsEnd}
use Rattle.term_heap.proofs.ValueLaws.{fits}
use Rattle.term_core.specs.Terms.{is_variable}
use Rattle.term_core.specs.Shapes.{is_atom}
use Rattle.machine_model.specs.Step.{is_integer}
use Rattle.unify_core.specs.Meets.{is_free}
use Rattle.term_core.proofs.TermFolds.{fold-Int}
use Rattle.prog_data.specs.Arithmetic.{Number, value, value_step}
use Rattle.engine_moves.specs.BuiltinEffects.{IsCellOf, is_integer_cell, is_atom_cell}

-- the cell at the end of references
pub end_says : (h : List Change) (place root : ℕ) (c : Cell) → IsMade h → root < size_of h → IsEnd (cell_at (cells_of h) root) → value_of h root ≡ value_of h place → c ≡ cell_at (cells_of h) root → IsCellOf h place c
end_says h place root c made lt end same is = record { root = root; is = sym same ∙ fits h root made lt ∙ ap (cell_term (value_of h) root) (sym is); ends = subst IsEnd (sym is) end }

-- the outermost of a cell's term
abbrev pub cell_layer : (ℕ → Term) → ℕ → Cell → layer.Term-F Term
cell_layer value at cell.Free = layer.Var at
cell_layer value at (cell.Ref to) = out-Term (value to)
cell_layer value at (cell.Int n) = layer.Int n
cell_layer value at (cell.Atom a) = layer.Atom a
cell_layer value at (cell.Node f count first) = layer.Node f (map value (places first count))

pub layer_is : (value : ℕ → Term) (at : ℕ) (c : Cell) → out-Term (cell_term value at c) ≡ cell_layer value at c
layer_is value at cell.Free = outs-Var at
layer_is value at (cell.Ref to) = refl
layer_is value at (cell.Int n) = outs-Int n
layer_is value at (cell.Atom a) = outs-Atom a
layer_is value at (cell.Node f count first) = outs-Node f (map value (places first count))

-- what a test of the outermost says of a place, by its cell
test_at : (test : layer.Term-F Term → Bool) (h : List Change) (place : ℕ) (c : Cell) (says : IsCellOf h place c) → test (out-Term (value_of h place)) ≡ test (cell_layer (value_of h) says.root c)
test_at test h place c says = ap (λ t. test (out-Term t)) says.is ∙ ap test (layer_is (value_of h) says.root c)

-- so by what the cell is
at_cell : (test : layer.Term-F Term → Bool) (h : List Change) (place : ℕ) (c d : Cell) (says : IsCellOf h place c) → c ≡ d → test (cell_layer (value_of h) says.root d) ≡ test (out-Term (value_of h place))
at_cell test h place c d says is = ap (λ x. test (cell_layer (value_of h) says.root x)) (sym is) ∙ sym (test_at test h place c says)

-- the tests of kinds

pub integer_at : (h : List Change) (place : ℕ) (c : Cell) → IsCellOf h place c → is_integer_cell c ≡ is_integer (out-Term (value_of h place))
integer_at h place cell.Free says = at_cell is_integer h place cell.Free cell.Free says refl
integer_at h place (cell.Ref to) says = absurd says.ends
integer_at h place (cell.Int n) says = at_cell is_integer h place (cell.Int n) (cell.Int n) says refl
integer_at h place (cell.Atom a) says = at_cell is_integer h place (cell.Atom a) (cell.Atom a) says refl
integer_at h place (cell.Node f count first) says = at_cell is_integer h place (cell.Node f count first) (cell.Node f count first) says refl

pub atom_at : (h : List Change) (place : ℕ) (c : Cell) → IsCellOf h place c → is_atom_cell c ≡ is_atom (out-Term (value_of h place))
atom_at h place cell.Free says = at_cell is_atom h place cell.Free cell.Free says refl
atom_at h place (cell.Ref to) says = absurd says.ends
atom_at h place (cell.Int n) says = at_cell is_atom h place (cell.Int n) (cell.Int n) says refl
atom_at h place (cell.Atom a) says = at_cell is_atom h place (cell.Atom a) (cell.Atom a) says refl
atom_at h place (cell.Node f count first) says = at_cell is_atom h place (cell.Node f count first) (cell.Node f count first) says refl

pub variable_at : (h : List Change) (place : ℕ) (c : Cell) → IsCellOf h place c → is_free c ≡ is_variable (out-Term (value_of h place))
variable_at h place cell.Free says = at_cell is_variable h place cell.Free cell.Free says refl
variable_at h place (cell.Ref to) says = absurd says.ends
variable_at h place (cell.Int n) says = at_cell is_variable h place (cell.Int n) (cell.Int n) says refl
variable_at h place (cell.Atom a) says = at_cell is_variable h place (cell.Atom a) (cell.Atom a) says refl
variable_at h place (cell.Node f count first) says = at_cell is_variable h place (cell.Node f count first) (cell.Node f count first) says refl

-- a number is its own value
pub number_at : (h : List Change) (place : ℕ) (c : Cell) (n : ℤ) → IsCellOf h place c → c ≡ cell.Int n → value (value_of h place) ≡ Ok n
number_at h place c n says is = ap value (says.is ∙ ap (cell_term (value_of h) says.root) is) ∙ fold-Int Number value_step n
