use Rattle.name_order.specs.Relations.{order}
use Rattle.goal_transfer.specs.Range.{CallGiven}
use Rattle.goal_transfer.specs.States.{call_seen}
use Rattle.fixpoint_analyser.specs.Laws.{AllReach}
use Rattle.fixpoint_analyser.proofs.Places.{all_read}
use Rattle.fixpoint_analyser.proofs.CallAnswers.{taken_none, taken_more, taken_all}
use Rattle.fixpoint_analyser.proofs.steps.take_calls.Goals as goal

pub loop-call-init : goal.loop-call-init
loop-call-init c = taken_none c.args.program.now (c.relied_law.ensures c.args.program.now c.requires.range).ordered c.args.rows.now c.args.exits.now c.args.waiting.now c.args.calls.now c.requires.under_way

pub take_call-requires-clause-under_way : goal.take_call-requires-clause-under_way
take_call-requires-clause-under_way c = c.loop-call.invariant.steps.under_way

pub take_call-requires-clause-given : goal.take_call-requires-clause-given
take_call-requires-clause-given c = all_read (CallGiven c.args.program.now (order c.args.program.now.grammar)) call_seen c.args.calls.now c.loop-call.call-index c.call-item.result c.loop-call-test.true c.call-item.is c.requires.given

pub take_call-requires-clause-all : goal.take_call-requires-clause-all
take_call-requires-clause-all c = all_read (AllReach c.args.program.now) call_seen c.args.calls.now c.loop-call.call-index c.call-item.result c.loop-call-test.true c.call-item.is c.requires.all

pub loop-call-preserved : goal.loop-call-preserved
loop-call-preserved c =
    taken_more c.args.program.now (c.relied_law.ensures c.args.program.now c.requires.range).ordered c.args.rows.now c.args.waiting.now c.loop-call.rows c.loop-call.exits c.loop-call.waiting c.args.calls.now c.loop-call.call-index
    c.take_call.new.rows c.take_call.new.exits c.take_call.new.waiting c.call-item.result c.loop-call.invariant c.in_ok-take_call.ensures.steps c.loop-call-test.true c.call-item.is c.in_ok-take_call.ensures.reached

pub returns : goal.returns
returns c = record {
  steps = c.loop-call.invariant.steps;
  reached = taken_all c.args.program.now c.args.rows.now c.args.waiting.now c.loop-call.rows c.loop-call.exits c.loop-call.waiting c.args.calls.now c.loop-call.call-index c.loop-call-test.false c.loop-call.invariant;
}
