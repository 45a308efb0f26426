use Rattle.std.proofs.Common.{sym}
use Rattle.name_order.specs.Tables.{has}
use Rattle.name_order.proofs.RelationLaws.{unequal_pairs}
use Rattle.name_order.proofs.meets.each_meets.Goals as goal

pub returns-then-lefts-rights : goal.returns-then-lefts-rights
returns-then-lefts-rights c = sym (unequal_pairs (has c.args.meeting.now) c.args.lefts.now c.args.rights.now c.if-lefts-rights.true)
