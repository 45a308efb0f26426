use Rattle.std.proofs.Common.{◌≡◌, ◌≤◌, length, subst}
use Rattle.std.specs.Prelude.{slice_get, Some}
use Rattle.fixpoint_analyser.proofs.Places.{read_got}
use Rattle.fixpoint_analyser.proofs.Entered.{entered_none, entered_more, entered_all}
use Rattle.fixpoint_analyser.proofs.analysis.enter_all.Goals as goal

pub loop-entry-init : goal.loop-entry-init
loop-entry-init c = entered_none c.args.program.now (c.relied_law.ensures c.args.program.now c.requires.range).ordered c.args.rows.now c.args.exits.now c.args.waiting.now c.requires.under_way

pub loop-entry-preserved : goal.loop-entry-preserved
loop-entry-preserved c =
    entered_more c.args.program.now (c.relied_law.ensures c.args.program.now c.requires.range).ordered c.args.rows.now c.args.waiting.now c.loop-entry.rows c.loop-entry.exits c.loop-entry.waiting c.loop-entry.entry-index
    c.enter.new.rows c.enter.new.exits c.enter.new.waiting c.loop-entry.invariant c.entry-item.result
    (subst (λ es. slice_get es c.loop-entry.entry-index ≡ Some c.entry-item.result) c.as_slice-entry-items.ensures (read_got c.as_slice-entry-items.result.now c.loop-entry.entry-index c.entry-item.result c.loop-entry-test.true c.entry-item.is))
    c.in_ok-enter.ensures.steps c.in_ok-enter.ensures.entered

pub returns-clause-entered : goal.returns-clause-entered
returns-clause-entered c =
    entered_all c.args.program.now c.args.rows.now c.args.waiting.now c.loop-entry.rows c.loop-entry.exits c.loop-entry.waiting c.loop-entry.entry-index
    (subst (λ es. length es ≤ c.loop-entry.entry-index) c.as_slice-entry-items.ensures c.loop-entry-test.false) c.loop-entry.invariant
