use Rattle.std.proofs.Common.{true, false, ◌≡◌, ◌<◌, length, map, sym, ap, subst, ◌∙◌, true≢false}
use Rattle.std.specs.List.{list_all}
use Rattle.prog_data.specs.Values.{seen}
use Rattle.name_order.specs.Relations.{order}
use Rattle.goal_transfer.specs.Conditions.{all_set, types_of}
use Rattle.goal_transfer.specs.Range.{CallGiven, is_named}
use Rattle.goal_transfer.specs.Tables.{row_seen, IsReached, entry_call}
use Rattle.fixpoint_analyser.specs.Laws.{AllReach}
use Rattle.fixpoint_analyser.specs.ReliedOn.{ReliedOn}
use Rattle.fixpoint_analyser.proofs.Growth.{steps_itself}
use Rattle.fixpoint_analyser.proofs.StaysBelow.{stays_below}
use Rattle.fixpoint_analyser.proofs.Entered.{entry_pred, entry_named, entry_args}
use Rattle.fixpoint_analyser.proofs.analysis.enter.Goals as goal

pub bounds-as_slice-pred : goal.bounds-as_slice-pred
bounds-as_slice-pred c = subst (λ ps. c.args.entry.now.pred < length ps) (sym c.as_slice.ensures) (entry_pred c.args.program.now c.requires.range c.args.entry.now c.requires.entry)

pub types_of-requires : goal.types_of-requires
types_of-requires c =
    subst (λ ps. list_all (is_named (length c.args.rel.now.rules)) ps ≡ true) (sym c.as_slice-2.ensures)
    (subst (λ g. list_all (is_named (length g.rules)) c.args.entry.now.pre ≡ true) (sym c.requires.grammar) (entry_named c.args.program.now c.requires.range c.args.entry.now c.requires.entry))

pub returns-then-not-all_set : goal.returns-then-not-all_set
returns-then-not-all_set c =
    let args : map seen c.in_ok-args.args ≡ (entry_call c.args.program.now c.args.entry.now).1 =
    entry_args c.args.program.now c.requires.range c.args.entry.now c.requires.entry c.as_slice.result.now c.index-as_slice-pred.result c.args.rel.now c.as_slice-2.result.now c.in_ok-args.args c.as_slice.ensures c.index-as_slice-pred.is c.requires.grammar c.as_slice-2.ensures
    (c.in_ok-args.ensures ∙ ap (λ p. types_of (order c.args.rel.now) p.arity c.as_slice-2.result.now) (sym c.index-as_slice-pred.is)) in
    let none : all_set (entry_call c.args.program.now c.args.entry.now).1 ≡ false = ap all_set (sym args) ∙ ap (λ vs. all_set (map seen vs)) (sym c.as_slice-3.ensures) ∙ sym c.if-not-all_set.ensures in record {
      steps = steps_itself c.args.program.now (c.relied_law.ensures c.args.program.now c.requires.range).ordered c.args.rows.now c.args.exits.now c.args.waiting.now c.requires.under_way;
      entered = λ set. absurd (true≢false (sym set ∙ none));
    }

pub take_call-requires-clause-given : goal.take_call-requires-clause-given
take_call-requires-clause-given c =
    let program = c.args.program.now in
    let entry = c.args.entry.now in
    let relied : ReliedOn c.args.program.now = c.relied_law.ensures program c.requires.range in
    let args : map seen c.in_ok-args.args ≡ (entry_call c.args.program.now c.args.entry.now).1 =
    entry_args program c.requires.range entry c.requires.entry c.as_slice.result.now c.index-as_slice-pred.result c.args.rel.now c.as_slice-2.result.now c.in_ok-args.args c.as_slice.ensures c.index-as_slice-pred.is c.requires.grammar c.as_slice-2.ensures
    (c.in_ok-args.ensures ∙ ap (λ p. types_of (order c.args.rel.now) p.arity c.as_slice-2.result.now) (sym c.index-as_slice-pred.is)) in
    let set : all_set (entry_call c.args.program.now c.args.entry.now).1 ≡ true = ap all_set (sym args) ∙ ap (λ vs. all_set (map seen vs)) (sym c.as_slice-3.ensures) ∙ sym c.if-not-all_set.ensures in
    subst (λ vs. CallGiven c.args.program.now (order c.args.program.now.grammar) (c.args.entry.now.pred, vs)) (sym args) (relied.clauses.entries entry c.requires.entry set)

pub take_call-requires-clause-all : goal.take_call-requires-clause-all
take_call-requires-clause-all c =
    let program = c.args.program.now in
    let entry = c.args.entry.now in
    let relied : ReliedOn c.args.program.now = c.relied_law.ensures program c.requires.range in
    let args : map seen c.in_ok-args.args ≡ (entry_call c.args.program.now c.args.entry.now).1 =
    entry_args program c.requires.range entry c.requires.entry c.as_slice.result.now c.index-as_slice-pred.result c.args.rel.now c.as_slice-2.result.now c.in_ok-args.args c.as_slice.ensures c.index-as_slice-pred.is c.requires.grammar c.as_slice-2.ensures
    (c.in_ok-args.ensures ∙ ap (λ p. types_of (order c.args.rel.now) p.arity c.as_slice-2.result.now) (sym c.index-as_slice-pred.is)) in
    let set : all_set (entry_call c.args.program.now c.args.entry.now).1 ≡ true = ap all_set (sym args) ∙ ap (λ vs. all_set (map seen vs)) (sym c.as_slice-3.ensures) ∙ sym c.if-not-all_set.ensures in
    subst (λ vs. AllReach c.args.program.now (c.args.entry.now.pred, vs)) (sym args) ((stays_below program relied.ordered relied.monotone).entry entry c.requires.entry set)

pub returns-clause-entered : goal.returns-clause-entered
returns-clause-entered c = λ set.
    let args : map seen c.in_ok-args.args ≡ (entry_call c.args.program.now c.args.entry.now).1 =
    entry_args c.args.program.now c.requires.range c.args.entry.now c.requires.entry c.as_slice.result.now c.index-as_slice-pred.result c.args.rel.now c.as_slice-2.result.now c.in_ok-args.args c.as_slice.ensures c.index-as_slice-pred.is c.requires.grammar c.as_slice-2.ensures
    (c.in_ok-args.ensures ∙ ap (λ p. types_of (order c.args.rel.now) p.arity c.as_slice-2.result.now) (sym c.index-as_slice-pred.is)) in
    subst (λ vs. IsReached (map row_seen c.take_call.new.rows) (c.args.entry.now.pred, vs)) args c.in_ok-take_call.ensures.reached
