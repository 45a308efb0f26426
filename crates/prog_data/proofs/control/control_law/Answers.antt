use Rattle.prog_data.proofs.ControlTable.{is_one_table}
use Rattle.prog_data.proofs.control.control_law.Goals as goal

pub returns : goal.returns
returns c = is_one_table
