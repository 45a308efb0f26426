use Rattle.prog_data.proofs.RangeLaws.{ranges_are_kept}
use Rattle.prog_data.proofs.ranges.program_ranges_law.Goals as goal

pub returns : goal.returns
returns c = ranges_are_kept c.ranges_law.ensures
