use Rattle.prog_data.proofs.ArithmeticValues.{values_are_ground}
use Rattle.prog_data.proofs.arithmetic.arithmetic_value_law.Goals as goal

pub returns : goal.returns
returns c = values_are_ground
