-- The key by which the clauses of a call are chosen.
-- The headline does not rest on this file.
use Rattle.term_heap.specs.declared.cells.Cell.{Cell}
use Rattle.term_heap.specs.declared.cells.Cell.TheVariants as cell
use Rattle.clause_index.specs.declared.keys.Key.{Key}
use Rattle.clause_index.specs.declared.keys.Key.TheVariants as key

-- the key of the term of a cell that is no reference
abbrev pub cell_key : Cell → Key
cell_key cell.Free = key.Free
cell_key (cell.Ref to) = key.Free
cell_key (cell.Int n) = key.Int n
cell_key (cell.Atom a) = key.Atom a
cell_key (cell.Node f count first) = key.Node f count
