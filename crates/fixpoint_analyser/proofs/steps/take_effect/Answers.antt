use Rattle.std.proofs.Common.{map, sym, subst}
use Rattle.std.specs.List.{AllByRecursion}
use Rattle.name_order.specs.Relations.{order}
use Rattle.goal_transfer.specs.Range.{CallGiven}
use Rattle.goal_transfer.specs.States.{call_seen}
use Rattle.goal_transfer.specs.Tables.{row_seen, IsReached}
use Rattle.fixpoint_analyser.specs.Laws.{AllReach}
use Rattle.fixpoint_analyser.specs.ReliedOn.{ReliedOn}
use Rattle.fixpoint_analyser.proofs.RowOrder.{all_still_reached}
use Rattle.fixpoint_analyser.proofs.Growth.{steps_over}
use Rattle.fixpoint_analyser.proofs.steps.take_effect.Goals as goal

pub take_calls-requires-clause-given : goal.take_calls-requires-clause-given
take_calls-requires-clause-given c = subst (λ cs. AllByRecursion (CallGiven c.args.program.now (order c.args.program.now.grammar)) (map call_seen cs)) (sym c.deref.ensures.value) c.requires.effect.calls

pub take_calls-requires-clause-all : goal.take_calls-requires-clause-all
take_calls-requires-clause-all c = subst (λ cs. AllByRecursion (AllReach c.args.program.now) (map call_seen cs)) (sym c.deref.ensures.value) c.requires.effect.reach

pub take_exit-requires-clause-under_way : goal.take_exit-requires-clause-under_way
take_exit-requires-clause-under_way c = c.in_ok-take_calls.ensures.steps.under_way

pub take_exit-requires-clause-reached : goal.take_exit-requires-clause-reached
take_exit-requires-clause-reached c = (c.in_ok-take_calls.ensures.steps.ascends.table c.args.pred).reached c.requires.reached

pub returns : goal.returns
returns c =
    let relied : ReliedOn c.args.program.now = c.relied_law.ensures c.args.program.now c.requires.range in record {
      steps = steps_over c.args.program.now relied.ordered c.args.rows.now c.args.waiting.now c.take_calls.new.rows c.take_calls.new.exits c.take_calls.new.waiting c.take_exit.new.rows c.take_exit.new.exits c.take_exit.new.waiting
          c.in_ok-take_calls.ensures.steps c.in_ok-take_exit.ensures.steps;
      reached = all_still_reached (order c.args.program.now.grammar) relied.ordered (map row_seen c.take_calls.new.rows) (map row_seen c.take_exit.new.rows) c.in_ok-take_exit.ensures.steps.ascends.table _
          (subst (λ cs. AllByRecursion (IsReached (map row_seen c.take_calls.new.rows)) (map call_seen cs)) c.deref.ensures.value c.in_ok-take_calls.ensures.reached);
      had = c.in_ok-take_exit.ensures.had;
    }
