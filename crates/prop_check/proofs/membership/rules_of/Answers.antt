use Rattle.std.proofs.Common.{[], sym}
use Rattle.prop_check.proofs.Absent.{absent_index}
use Rattle.prop_check.proofs.membership.rules_of.Goals as goal

pub returns-in-None : goal.returns-in-None
returns-in-None c = sym (absent_index c.args.grammar.now.rules c.args.name [] (sym c.in-None.ensures.value))
