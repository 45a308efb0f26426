use Rattle.std.proofs.Common.{FitsSigned, rules, sym, ap, subst, ◌∙◌}
use Rattle.std.specs.Int.{w64}
use Rattle.std.proofs.lemmas.Int.{to_z-of_z}
use Rattle.machine_model.specs.Step.{truth, with_value}
use Rattle.engine_moves.specs.BuiltinEffects.{HasEffect, test_of}
use Rattle.engine_moves.proofs.builtins.numbers.decided.Goals as goal

pub returns-in-Ok-other : goal.returns-in-Ok-other
returns-in-Ok-other c =
    let l = c.in-Ok.left in
    let r = c.in-Ok-other.right in
    let l_fits : FitsSigned w64 l = search rules in
    let r_fits : FitsSigned w64 r = search rules in
    let test = test_of c.args.comparison in
    λ h. subst (λ t. HasEffect h t c.tested.result)
    (ap truth (c.holds.ensures ∙ (λ i. test (to_z-of_z w64 l l_fits i) (to_z-of_z w64 r r_fits i))) ∙ sym (λ i. with_value (λ x. with_value (λ y. truth (test x y)) (c.in-Ok-other.is i)) (c.in-Ok.is i)))
    (c.tested.ensures h)
