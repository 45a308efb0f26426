use Rattle.std.proofs.Common.{ℕ, List, ◌+◌, drop, ap, ◌∙◌, sym}
use Rattle.std.specs.Prelude.{flat_map}
use Rattle.std.proofs.lemmas.List.{at_drop_all}
use Rattle.term_core.specs.Terms.{with_all_new, occurrences, occurrences_step}
use Rattle.term_core.proofs.TermFolds.{fold_at_node}
use Rattle.term_core.proofs.VarLemmas.{with_all_new_append, flat_map_map}
use Rattle.term_core.proofs.Turns.{turn}
use Rattle.term_core.proofs.terms.+add_variables.Goals as goal

pub loop-part-preserved : goal.loop-part-preserved
loop-part-preserved t c =
    let left = flat_map occurrences (drop (c.loop-part.part-index + 1) c.as_slice-part-items.result.now) in
    let next = turn (λ ts. with_all_new c.loop-part.seen.items (flat_map occurrences ts)) c.as_slice-part-items.result.now c.loop-part.part-index c.part-item.result c.loop-part-test.true c.part-item.is in
    ap (λ s. with_all_new s left) (c.in_ok-add_variables-in-Node.ensures) ∙ sym (with_all_new_append c.loop-part.seen.items (occurrences c.part-item.result) left) ∙ sym next ∙ c.loop-part.invariant

pub returns-after-loop-part : goal.returns-after-loop-part
returns-after-loop-part t c =
    let start = c.args.seen.now.items in
    sym (at_drop_all (λ ts. with_all_new c.loop-part.seen.items (flat_map occurrences ts)) c.as_slice-part-items.result.now c.loop-part.part-index c.loop-part-test.false)
    ∙ c.loop-part.invariant
    ∙ ap (λ ts. with_all_new start (flat_map occurrences ts)) c.as_slice-part-items.ensures
    ∙ ap (with_all_new start) (sym (flat_map_map occurrences _))
    ∙ ap (with_all_new start) (sym (fold_at_node (List ℕ) occurrences_step c.args.term.now _ _ c.in-Node.is))
