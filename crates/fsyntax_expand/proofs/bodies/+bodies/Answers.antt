use Rattle.std.proofs.Common.{◌≡◌, length, subst, sym, ◌∙◌, arith, rules}
use Rattle.dcg_expand.specs.Making.{Makes}
use Rattle.fsyntax_expand.proofs.Lines.{one_body, two_body, many_body}
use Rattle.fsyntax_expand.proofs.bodies.+bodies.Goals.{expand_compound-in_default-via-then-parts-lt1, expand_compound-in_default-via-else-parts-lt1+else-parts-lt2+else-parts-lt3}
use Rattle.fsyntax_expand.proofs.bodies.+bodies.Goals as goal

pub expand_compound-returns-else-name-eq-NEGATION : goal.expand_compound-returns-else-name-eq-NEGATION
expand_compound-returns-else-name-eq-NEGATION t c =
    subst (Makes c.compound_goal_body.result c.compound_goal_body.new.next) (sym (one_body c.args.name c.args.parts.now c.args.next.now (omega (arith, c.in-len1.len_at_least, c.in-len1.len_below)) c.if-name-eq-NEGATION.false)) c.compound_goal_body.ensures

pub expand_compound-returns-else-is_connective : goal.expand_compound-returns-else-is_connective
expand_compound-returns-else-is_connective t c =
    subst (Makes c.compound_goal_body-else-is_connective.result c.compound_goal_body-else-is_connective.new.next) (sym (two_body c.args.name c.args.parts.now c.args.next.now (omega (arith, c.in-len2.len_at_least, c.in-len2.len_below)) (sym c.is_connective.ensures ∙ c.if-is_connective.false))) c.compound_goal_body-else-is_connective.ensures

pub expand_compound-returns-in_default : goal.expand_compound-returns-in_default
expand_compound-returns-in_default t c =
    let one : length c.args.parts.now ≡ 1 → ⊥ = elim c.in_default.branch [ expand_compound-in_default-via-then-parts-lt1 w ↦ search rules | expand_compound-in_default-via-else-parts-lt1+else-parts-lt2+else-parts-lt3 w ↦ search rules ] in
    let two : length c.args.parts.now ≡ 2 → ⊥ = elim c.in_default.branch [ expand_compound-in_default-via-then-parts-lt1 w ↦ search rules | expand_compound-in_default-via-else-parts-lt1+else-parts-lt2+else-parts-lt3 w ↦ search rules ] in
    subst (Makes c.compound_goal_body-in_default.result c.compound_goal_body-in_default.new.next) (sym (many_body c.args.name c.args.parts.now c.args.next.now one two)) c.compound_goal_body-in_default.ensures
