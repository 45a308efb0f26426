use Rattle.std.proofs.Common.{[], sym}
use Rattle.name_order.proofs.Lists.{absent_index}
use Rattle.name_order.proofs.users.users_at.Goals as goal

pub returns-in-None : goal.returns-in-None
returns-in-None c = sym (absent_index c.args.users.now c.args.name [] (sym c.in-None.ensures))
