use Rattle.std.proofs.Common.{◌≡◌, length, map}
use Rattle.prog_data.specs.Values.{seen}
use Rattle.fixpoint_analyser.proofs.RowLaws.{joined_to}
use Rattle.fixpoint_analyser.proofs.rows.join_each.Given as goal

abbrev pub invariant-loop-index : goal.invariant-loop-index
invariant-loop-index l = (length l.others ≡ length l.values) × (map seen l.values ≡ joined_to l.index (map seen l.fn.values) (map seen l.others))
