use Rattle.std.proofs.Common.{true, false, refl, sym, subst, ◌<◌, []}
use Rattle.std.specs.Prelude.{◌==◌, ◌||◌, ◌&&◌, slice_index_or}
use Rattle.fixpoint_analyser.specs.Callers.{stands_in}
use Rattle.fixpoint_analyser.specs.Progress.{Wakes}
use Rattle.fixpoint_analyser.specs.ReliedOn.{ReliedOn}
use Rattle.fixpoint_analyser.proofs.CallAnswers.{row_in, exit_in, flag_in, callers_in, args_count, now_reached, call_unchanged, call_changed}
use Rattle.fixpoint_analyser.proofs.steps.take_call.Goals as goal

pub join_call-requires-clause-pred : goal.join_call-requires-clause-pred
join_call-requires-clause-pred c = row_in c.args.program.now c.args.rows.now c.args.exits.now c.args.waiting.now c.requires.under_way c.args.call.now.pred c.requires.given.0

pub join_call-requires-clause-count : goal.join_call-requires-clause-count
join_call-requires-clause-count c = args_count c.args.program.now c.args.rows.now c.args.exits.now c.args.waiting.now c.requires.under_way c.args.call.now c.requires.given c.as_slice.result.now c.as_slice.ensures

pub store_exit-requires-clause-row : goal.store_exit-requires-clause-row
store_exit-requires-clause-row c =
    subst (λ n. c.args.call.now.pred < n) (sym c.join_call.auto.rows) (row_in c.args.program.now c.args.rows.now c.args.exits.now c.args.waiting.now c.requires.under_way c.args.call.now.pred c.requires.given.0)

pub store_exit-requires-clause-place : goal.store_exit-requires-clause-place
store_exit-requires-clause-place c = exit_in c.args.program.now c.args.rows.now c.args.exits.now c.args.waiting.now c.requires.under_way c.args.call.now.pred c.requires.given.0

pub bounds-rows-pred : goal.bounds-rows-pred
bounds-rows-pred c =
    subst (λ n. c.args.call.now.pred < n) (sym c.join_call.auto.rows) (row_in c.args.program.now c.args.rows.now c.args.exits.now c.args.waiting.now c.requires.under_way c.args.call.now.pred c.requires.given.0)

pub wake-requires-clause-pred : goal.wake-requires-clause-pred
wake-requires-clause-pred c = flag_in c.args.program.now c.args.rows.now c.args.exits.now c.args.waiting.now c.requires.under_way c.args.call.now.pred c.requires.given.0

pub wake-requires-clause-callers : goal.wake-requires-clause-callers
wake-requires-clause-callers c = callers_in c.args.program.now c.args.callers.now c.requires.callers c.args.call.now.pred c.requires.given.0

pub returns-then-not-join_call : goal.returns-then-not-join_call
returns-then-not-join_call c =
    let relied : ReliedOn c.args.program.now = c.relied_law.ensures c.args.program.now c.requires.range in record {
      steps = call_unchanged c.args.program.now relied c.args.rows.now c.join_call.new.rows c.args.exits.now c.args.waiting.now c.args.call.now c.as_slice.result.now c.as_slice.ensures c.requires.under_way c.requires.given c.if-not-join_call.ensures.rows false
          c.if-not-join_call.ensures.changed refl;
      reached = now_reached c.args.program.now relied c.args.rows.now c.join_call.new.rows c.args.exits.now c.args.waiting.now c.args.call.now c.as_slice.result.now c.as_slice.ensures c.requires.under_way c.requires.given c.if-not-join_call.ensures.rows;
    }

pub returns : goal.returns
returns c =
    let relied : ReliedOn c.args.program.now = c.relied_law.ensures c.args.program.now c.requires.range in record {
      steps = call_changed c.args.program.now relied c.args.rows.now c.join_call.new.rows c.args.exits.now c.args.waiting.now c.args.call.now c.as_slice.result.now c.as_slice.ensures c.requires.under_way c.requires.given c.if-not-join_call.ensures.rows true
          c.if-not-join_call.ensures.changed refl c.requires.all c.args.rel.now c.requires.grammar c.store_exit.new.exits c.store_exit.auto.exits c.in_ok-store_exit.ensures.stored c.in_ok-store_exit.ensures.others c.wake.new.waiting c.index-rows-pred.result
          c.args.callers.now (slice_index_or c.args.callers.now c.args.call.now.pred []) c.requires.callers (c.requires.callers.each c.args.call.now.pred c.requires.given.0)
          (subst (λ n. c.args.call.now.pred < n) (sym c.join_call.auto.rows) (row_in c.args.program.now c.args.rows.now c.args.exits.now c.args.waiting.now c.requires.under_way c.args.call.now.pred c.requires.given.0)) c.index-rows-pred.is
          (subst (λ r. Wakes c.args.waiting.now c.wake.new.waiting (λ p. (c.args.call.now.pred == p) || (r.exits && stands_in (slice_index_or c.args.callers.now c.args.call.now.pred []) p))) (sym c.index-rows-pred.is) c.in_ok-wake.ensures);
      reached = now_reached c.args.program.now relied c.args.rows.now c.join_call.new.rows c.args.exits.now c.args.waiting.now c.args.call.now c.as_slice.result.now c.as_slice.ensures c.requires.under_way c.requires.given c.if-not-join_call.ensures.rows;
    }
