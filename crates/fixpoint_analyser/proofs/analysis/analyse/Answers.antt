use Rattle.std.proofs.Common.{◌≡◌, length, map, ap, sym, subst, ◌∙◌, arith, false}
use Rattle.std.proofs.lemmas.List.{length-map, length-replicate}
use Rattle.name_order.specs.Relations.{order}
use Rattle.goal_transfer.specs.States.{exits_seen}
use Rattle.goal_transfer.specs.Tables.{row_seen, Least}
use Rattle.fixpoint_analyser.specs.Ascent.{unreached}
use Rattle.fixpoint_analyser.proofs.Places.{written_back}
use Rattle.fixpoint_analyser.proofs.Entered.{under_way_first}
use Rattle.fixpoint_analyser.proofs.analysis.analyse.Goals as goal

pub ascend-requires-clause-under_way : goal.ascend-requires-clause-under_way
ascend-requires-clause-under_way c =
    let count : length c.deref_mut.result.now ≡ length c.args.program.now.preds =
    ap length c.deref_mut.ensures.value ∙ sym (length-map c.in_ok-rows.rows.items row_seen) ∙ ap length c.in_ok-rows.ensures ∙ length-map c.args.program.now.preds (λ p. unreached p.arity) in
    under_way_first c.args.program.now (c.relied_law.ensures c.args.program.now c.requires) c.deref_mut.result.now c.deref_mut-2.result.now c.in_ok-waiting.waiting
    (ap (map row_seen) c.deref_mut.ensures.value ∙ c.in_ok-rows.ensures) (ap exits_seen c.deref_mut-2.ensures.value ∙ c.in_ok-exits.ensures.exits (order c.args.program.now.grammar)) (ap length c.deref_mut-2.ensures.value ∙ c.in_ok-exits.ensures.count)
    (ap length c.in_ok-waiting.ensures ∙ length-replicate c.len.result false ∙ c.len.ensures ∙ sym c.deref_mut.ensures.len ∙ count)

pub returns : goal.returns
returns c =
    let count : c.in_ok-rows.rows.len ≡ length c.ascend.new.rows = omega (arith, c.deref_mut.ensures.len, c.ascend.auto.rows) in
    subst (λ rows. Least c.args.program.now (map row_seen rows)) (sym (c.from_vec.ensures ∙ written_back c.ascend.new.rows c.in_ok-rows.rows.items c.in_ok-rows.rows.len count)) c.in_ok-ascend.ensures
