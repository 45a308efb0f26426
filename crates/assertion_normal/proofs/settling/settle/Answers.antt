use Rattle.assertion_normal.proofs.GrownLaws.{grown_then}
use Rattle.assertion_normal.proofs.settling.settle.Goals as goal

pub returns-in_err-post-clause-grown : goal.returns-in_err-post-clause-grown
returns-in_err-post-clause-grown c = grown_then c.args.visible.now c.args.grammar.now c.all_asked.new.grammar c.post_asked.new.grammar c.all_asked.ensures.grown c.post_asked.ensures.grown

pub returns-in_err-comp-clause-grown : goal.returns-in_err-comp-clause-grown
returns-in_err-comp-clause-grown c = grown_then c.args.visible.now c.args.grammar.now c.all_asked.new.grammar c.post_asked.new.grammar c.all_asked.ensures.grown c.post_asked.ensures.grown

pub returns-clause-grown : goal.returns-clause-grown
returns-clause-grown c = grown_then c.args.visible.now c.args.grammar.now c.all_asked.new.grammar c.post_asked.new.grammar c.all_asked.ensures.grown c.post_asked.ensures.grown
