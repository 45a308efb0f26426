use Rattle.std.proofs.Common.{take}
use Rattle.prop_check.specs.Places.{row_at}
use Rattle.std.specs.Prelude.{flat_map}
use Rattle.engine_moves.specs.Looking.{checked_by, IsNoted}
use Rattle.engine_moves.proofs.noting.note_checks.Given as goal

abbrev pub invariant-loop-check : goal.invariant-loop-check
invariant-loop-check l = IsNoted l.program (row_at l.heap.changes l.args.first l.args.count) (flat_map (checked_by l.kind) (take l.check-index l.checks)) l.fn.notes.items l.notes.items l.tests
