use Rattle.instrumenter.proofs.ProgramRanges.{instrumented_in_range}
use Rattle.instrumenter.proofs.programs.instrumented_range_law.Goals as goal

pub returns : goal.returns
returns c = instrumented_in_range c.program_ranges_law.ensures
