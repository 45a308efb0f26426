use Rattle.fixpoint_analyser.proofs.Entered.{settled_then, least_then}
use Rattle.fixpoint_analyser.proofs.analysis.ascend.Goals as goal

pub run_waiting-requires-clause-settled : goal.run_waiting-requires-clause-settled
run_waiting-requires-clause-settled c = λ p.
    settled_then c.args.program.now (c.relied_law.ensures c.args.program.now c.requires.range).ordered c.args.rows.now c.enter_all.new.rows c.args.waiting.now c.enter_all.new.exits c.enter_all.new.waiting c.in_ok-enter_all.ensures.steps c.requires.bottom p

pub returns : goal.returns
returns c =
    least_then c.args.program.now (c.relied_law.ensures c.args.program.now c.requires.range).ordered c.enter_all.new.rows c.run_waiting.new.rows c.run_waiting.new.exits c.run_waiting.new.waiting c.in_ok-run_waiting.ensures.under_way
    c.in_ok-run_waiting.ensures.grown c.in_ok-enter_all.ensures.entered c.in_ok-run_waiting.ensures.done
