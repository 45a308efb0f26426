use Rattle.regtype_grammar.proofs.OnceLaws.{added}
use Rattle.regtype_grammar.proofs.clauses.add_new.Goals as goal

pub returns : goal.returns
returns c = (added c.args.set.now.keys c.insert.new.self.keys c.args.number c.in_ok-insert.ensures.keys c.requires, c.requires)
