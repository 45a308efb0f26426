use Rattle.prog_data.proofs.ProgramParts.{parts_agree}
use Rattle.prog_data.proofs.ranges.program_parts_law.Goals as goal

pub returns : goal.returns
returns c = parts_agree
