use Rattle.prog_data.specs.Programs.{IsCond}
use Rattle.analysis_tests.proofs.InRange.{FirstAre}
use Rattle.analysis_tests.proofs.program_ranges.conds_in_range.Given as goal

abbrev pub invariant-loop-number : goal.invariant-loop-number
invariant-loop-number l = FirstAre (IsCond l.program) l.program.conds l.number
