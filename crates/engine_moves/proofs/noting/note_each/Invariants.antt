use Rattle.std.proofs.Common.{take}
use Rattle.prop_check.specs.Places.{row_at}
use Rattle.engine_moves.specs.Looking.{IsNoted}
use Rattle.engine_moves.proofs.noting.note_each.Given as goal

abbrev pub invariant-loop-condition : goal.invariant-loop-condition
invariant-loop-condition l = IsNoted l.program (row_at l.heap.changes l.args.first l.args.count) (take l.condition-index l.conditions) l.fn.notes.items l.notes.items l.tests
