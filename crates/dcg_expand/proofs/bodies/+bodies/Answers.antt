use Rattle.std.proofs.Common.{◌≡◌, length, subst, ap, sym, ◌∙◌, arith, rules}
use Rattle.std.specs.Prelude.{Some}
use Rattle.dcg_expand.specs.Making.{Makes}
use Rattle.dcg_expand.specs.Expansion.{reading_nothing}
use Rattle.dcg_expand.proofs.Lines.{at_braces, one_plain, two_plain, many_plain}
use Rattle.dcg_expand.proofs.bodies.+bodies.Goals.{translate_compound-in_default-via-then-parts-lt1, translate_compound-in_default-via-else-parts-lt1+else-parts-lt2+else-parts-lt3}
use Rattle.dcg_expand.proofs.bodies.+bodies.Goals as goal

pub translate_compound-returns-in_ok-reading_nothing-in-len1 : goal.translate_compound-returns-in_ok-reading_nothing-in-len1
translate_compound-returns-in_ok-reading_nothing-in-len1 t c =
    at_braces c.args.name c.args.parts.now c.part-item.result c.args.from c.args.to c.args.next.now (omega (arith, c.in-len1.len_at_least, c.in-len1.len_below)) c.part-item.is c.if-name-eq-BRACES.true
    ∙ ap (λ goal. Some (reading_nothing goal c.args.from c.args.to, c.args.next.now)) (sym c.in_ok-goal-in-len1-2.ensures)
    ∙ ap (λ whole. Some (whole, c.args.next.now)) (sym c.in_ok-reading_nothing-in-len1.ensures)

pub translate_compound-returns-else-name-eq-BRACES : goal.translate_compound-returns-else-name-eq-BRACES
translate_compound-returns-else-name-eq-BRACES t c =
    subst (Makes c.with_two_variables.result c.args.next.now) (sym (one_plain c.args.name c.args.parts.now c.args.from c.args.to c.args.next.now (omega (arith, c.in-len1.len_at_least, c.in-len1.len_below)) c.if-name-eq-NEGATION.false c.if-name-eq-BRACES.false)) c.with_two_variables.ensures

pub translate_compound-returns-else-name-eq-CELL : goal.translate_compound-returns-else-name-eq-CELL
translate_compound-returns-else-name-eq-CELL t c =
    subst (Makes c.with_two_variables-else-name-eq-CELL.result c.args.next.now) (sym (two_plain c.args.name c.args.parts.now c.args.from c.args.to c.args.next.now (omega (arith, c.in-len2.len_at_least, c.in-len2.len_below)) (sym c.is_sequence.ensures ∙ c.if-is_sequence.false) (sym c.is_choice.ensures ∙ c.if-is_choice.false) c.if-name-eq-CELL.false)) c.with_two_variables-else-name-eq-CELL.ensures

pub translate_compound-returns-in_default : goal.translate_compound-returns-in_default
translate_compound-returns-in_default t c =
    let one : length c.args.parts.now ≡ 1 → ⊥ = elim c.in_default.branch [ translate_compound-in_default-via-then-parts-lt1 w ↦ search rules | translate_compound-in_default-via-else-parts-lt1+else-parts-lt2+else-parts-lt3 w ↦ search rules ] in
    let two : length c.args.parts.now ≡ 2 → ⊥ = elim c.in_default.branch [ translate_compound-in_default-via-then-parts-lt1 w ↦ search rules | translate_compound-in_default-via-else-parts-lt1+else-parts-lt2+else-parts-lt3 w ↦ search rules ] in
    subst (Makes c.with_two_variables-in_default.result c.args.next.now) (sym (many_plain c.args.name c.args.parts.now c.args.from c.args.to c.args.next.now one two)) c.with_two_variables-in_default.ensures
