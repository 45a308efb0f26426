use Rattle.std.proofs.Common.{◌≡◌, map}
use Rattle.prog_data.specs.Values.{seen}
use Rattle.fixpoint_analyser.specs.Ascent.{nones}
use Rattle.fixpoint_analyser.proofs.rows.nones.Given as goal

abbrev pub invariant-loop-argument : goal.invariant-loop-argument
invariant-loop-argument l = map seen l.values ≡ nones l._argument
