use Rattle.prop_check.proofs.SetLaws.{put_near}
use Rattle.prop_check.proofs.sets.put.Goals as goal

pub returns-then-name-lt512 : goal.returns-then-name-lt512
returns-then-name-lt512 c = put_near c.args.names.now c.args.name c.if-name-lt512.true c.told-names
