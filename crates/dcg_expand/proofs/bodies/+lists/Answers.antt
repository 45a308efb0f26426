use Rattle.std.proofs.Common.{ap, sym, ◌∙◌, arith}
use Rattle.std.specs.Prelude.{Some}
use Rattle.term_core.specs.declared.fixed.TheConstants.{CELL}
use Rattle.term_core.specs.declared.terms.Term as term
use Rattle.dcg_expand.specs.Expansion.{pair}
use Rattle.dcg_expand.proofs.Lines.{cell_tailed}
use Rattle.dcg_expand.proofs.bodies.+lists.Goals as goal

pub compound_with_tail-returns-in_ok-pair-in-Some : goal.compound_with_tail-returns-in_ok-pair-in-Some
compound_with_tail-returns-in_ok-pair-in-Some t c =
    ap Some (c.in_ok-pair-in-Some.ensures ∙ ap (λ head. pair CELL head c.in-Some.items) c.in_ok-head-in-Some.ensures)
    ∙ sym (cell_tailed c.args.name c.args.parts.now c.head-item.result c.rest-item.result c.in-Some.items (term.Var c.args.tail) (omega (arith, c.in-len2.len_at_least, c.in-len2.len_below)) c.head-item.is c.rest-item.is c.if-name-eq-CELL.true (sym c.in_ok-with_tail-in-len2.ensures ∙ c.in-Some.is))
