use Rattle.program_link.proofs.LeastLaws.{least_found}
use Rattle.program_link.proofs.laws.least_fault_law.Goals as goal

pub returns : goal.returns
returns c = least_found
