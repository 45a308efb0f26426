use Rattle.prop_check.proofs.SetLaws.{one_name}
use Rattle.prop_check.proofs.sets.is_single.Goals as goal

pub returns : goal.returns
returns c = λ e. one_name c.args.names.now c.put.new.names c.first_of.result (c.is_same.ensures.0 e) c.put.ensures
