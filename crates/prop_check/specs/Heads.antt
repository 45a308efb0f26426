-- What a term is at its outermost, without its parts.
-- The headline does not rest on this file.
use Rattle.term_core.specs.declared.terms.Term.{Term}
use Rattle.term_core.specs.declared.terms.Term.TheOpen as layer
use Rattle.term_heap.specs.declared.cells.Cell.{Cell}
use Rattle.term_heap.specs.declared.cells.Cell.TheVariants as cell
use Rattle.prop_check.specs.declared.heads.Head.{Head}
use Rattle.prop_check.specs.declared.heads.Head.TheVariants.{Var, Int, Atom, Node}

-- the outermost of a term
abbrev pub head_of : layer.Term-F Term → Head
head_of (layer.Var v) = Var
head_of (layer.Int n) = Int n
head_of (layer.Atom a) = Atom a
head_of (layer.Node f ts) = Node f

-- that of the term of a cell that is no reference
abbrev pub cell_head : Cell → Head
cell_head cell.Free = Var
cell_head (cell.Ref to) = Var
cell_head (cell.Int n) = Int n
cell_head (cell.Atom a) = Atom a
cell_head (cell.Node f count first) = Node f
