use Rattle.std.proofs.Common.{map}
use Rattle.goal_transfer.specs.Tables.{row_seen}
use Rattle.fixpoint_analyser.proofs.Turns.{pred_there, taken_off, less_work, all_done, turned_first, turned_more}
use Rattle.fixpoint_analyser.proofs.analysis.run_waiting.Goals as goal

pub loop-pred-init : goal.loop-pred-init
loop-pred-init c = turned_first c.args.program.now (c.relied_law.ensures c.args.program.now c.requires.range).ordered c.args.rows.now c.args.exits.now c.args.waiting.now c.requires.under_way c.requires.settled

pub turn-requires-clause-under_way : goal.turn-requires-clause-under_way
turn-requires-clause-under_way c = taken_off c.args.program.now c.loop-pred.rows c.loop-pred.exits c.loop-pred.waiting c.take.new.self c.in-Some.pred c.in-Some.ensures.left c.loop-pred.invariant.under_way

pub turn-requires-clause-pred : goal.turn-requires-clause-pred
turn-requires-clause-pred c = pred_there c.args.program.now c.loop-pred.rows c.loop-pred.exits c.loop-pred.waiting c.loop-pred.invariant.under_way c.in-Some.pred c.in-Some.ensures.taken

pub loop-pred-preserved : goal.loop-pred-preserved
loop-pred-preserved c =
    turned_more c.args.program.now (c.relied_law.ensures c.args.program.now c.requires.range).ordered c.args.rows.now c.loop-pred.rows c.loop-pred.exits c.loop-pred.waiting c.take.new.self c.in-Some.pred c.turn.new.rows c.turn.new.exits c.turn.new.waiting
    c.in-Some.ensures.left c.loop-pred.invariant c.in_ok-turn.ensures.steps c.in_ok-turn.ensures.settled

pub loop-pred-smaller : goal.loop-pred-smaller
loop-pred-smaller c =
    less_work c.args.program.now (map row_seen c.loop-pred.rows) c.loop-pred.waiting c.take.new.self c.in-Some.pred (map row_seen c.turn.new.rows) c.turn.new.waiting c.in-Some.ensures.left c.in-Some.ensures.taken c.in_ok-turn.ensures.steps.ascends

pub returns-clause-done : goal.returns-clause-done
returns-clause-done c = all_done c.args.program.now (map row_seen c.loop-pred.rows) c.loop-pred.waiting c.loop-pred.invariant.settled c.in_default.ensures.taken
