use Rattle.std.proofs.Common.{filter, take}
use Rattle.prop_check.specs.Places.{row_at}
use Rattle.prog_data.specs.Conditions.{kind_of}
use Rattle.engine_moves.specs.Looking.{is_of, IsNoted}
use Rattle.engine_moves.proofs.noting.note_all.Given as goal

abbrev pub invariant-loop-condition : goal.invariant-loop-condition
invariant-loop-condition l = IsNoted l.program (row_at l.heap.changes l.args.first l.args.count) (filter (λ c. is_of l.kind (kind_of l.program c)) (take l.condition-index l.conditions)) l.fn.notes.items l.notes.items l.tests
