use Rattle.std.proofs.Common.{true, false, refl, sym, subst, ◌<◌, []}
use Rattle.std.specs.Prelude.{slice_index_or}
use Rattle.fixpoint_analyser.specs.ReliedOn.{ReliedOn}
use Rattle.fixpoint_analyser.proofs.CallAnswers.{row_in, exit_in, callers_in}
use Rattle.fixpoint_analyser.proofs.ExitAnswers.{exit_count, now_had, exit_unchanged, exit_changed}
use Rattle.fixpoint_analyser.proofs.steps.take_exit.Goals as goal

pub join_exit-requires-clause-pred : goal.join_exit-requires-clause-pred
join_exit-requires-clause-pred c = row_in c.args.program.now c.args.rows.now c.args.exits.now c.args.waiting.now c.requires.under_way c.args.pred c.requires.pred

pub join_exit-requires-clause-count : goal.join_exit-requires-clause-count
join_exit-requires-clause-count c = exit_count c.args.program.now c.args.rows.now c.args.exits.now c.args.waiting.now c.requires.under_way c.args.pred c.requires.pred c.args.exit.now c.requires.given

pub store_exit-requires-clause-row : goal.store_exit-requires-clause-row
store_exit-requires-clause-row c =
    subst (λ n. c.args.pred < n) (sym c.join_exit.auto.rows) (row_in c.args.program.now c.args.rows.now c.args.exits.now c.args.waiting.now c.requires.under_way c.args.pred c.requires.pred)

pub store_exit-requires-clause-place : goal.store_exit-requires-clause-place
store_exit-requires-clause-place c = exit_in c.args.program.now c.args.rows.now c.args.exits.now c.args.waiting.now c.requires.under_way c.args.pred c.requires.pred

pub wake_callers-requires : goal.wake_callers-requires
wake_callers-requires c = callers_in c.args.program.now c.args.callers.now c.requires.callers c.args.pred c.requires.pred

pub returns-then-not-join_exit : goal.returns-then-not-join_exit
returns-then-not-join_exit c =
    let relied : ReliedOn c.args.program.now = c.relied_law.ensures c.args.program.now c.requires.range in record {
      steps = exit_unchanged c.args.program.now relied c.args.rows.now c.join_exit.new.rows c.args.exits.now c.args.waiting.now c.args.pred c.requires.pred c.args.exit.now c.requires.under_way c.requires.given c.if-not-join_exit.ensures.rows false
          c.if-not-join_exit.ensures.changed refl;
      had = now_had c.args.program.now relied c.args.rows.now c.join_exit.new.rows c.args.exits.now c.args.waiting.now c.args.pred c.requires.pred c.args.exit.now c.requires.under_way c.requires.given c.if-not-join_exit.ensures.rows;
    }

pub returns : goal.returns
returns c =
    let relied : ReliedOn c.args.program.now = c.relied_law.ensures c.args.program.now c.requires.range in record {
      steps = exit_changed c.args.program.now relied c.args.rows.now c.join_exit.new.rows c.args.exits.now c.args.waiting.now c.args.pred c.requires.pred c.args.exit.now c.requires.under_way c.requires.given c.if-not-join_exit.ensures.rows true
          c.if-not-join_exit.ensures.changed refl c.requires.reached c.requires.all c.args.rel.now c.requires.grammar c.store_exit.new.exits c.store_exit.auto.exits c.in_ok-store_exit.ensures.stored c.in_ok-store_exit.ensures.others c.wake_callers.new.waiting
          (slice_index_or c.args.callers.now c.args.pred []) (c.requires.callers.each c.args.pred c.requires.pred) c.in_ok-wake_callers.ensures;
      had = now_had c.args.program.now relied c.args.rows.now c.join_exit.new.rows c.args.exits.now c.args.waiting.now c.args.pred c.requires.pred c.args.exit.now c.requires.under_way c.requires.given c.if-not-join_exit.ensures.rows;
    }
