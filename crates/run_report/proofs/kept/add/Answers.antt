use Rattle.run_report.proofs.Sets.{inserted}
use Rattle.run_report.proofs.kept.add.Goals as goal

pub returns : goal.returns
returns c = inserted c.args.set.now.keys c.insert.new.self.keys c.args.number c.in_ok-insert.ensures.keys
