use Rattle.name_order.proofs.Gathering.{put_where}
use Rattle.name_order.proofs.sets.put_where.Goals as goal

pub returns-then-wanted : goal.returns-then-wanted
returns-then-wanted c = put_where c.args.words.now c.put.new.words c.args.name c.args.wanted c.if-wanted.true c.put.ensures
