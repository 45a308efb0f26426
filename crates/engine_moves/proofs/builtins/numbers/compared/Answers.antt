use Rattle.std.proofs.Common.{◌+◌, subst}
use Rattle.prog_data.specs.Arithmetic.{value}
use Rattle.term_heap.specs.Changes.{value_of}
use Rattle.machine_model.specs.Step.{truth, with_value}
use Rattle.engine_moves.specs.BuiltinEffects.{HasEffect, test_of}
use Rattle.engine_moves.proofs.builtins.numbers.compared.Goals as goal

pub returns : goal.returns
returns c =
    let h = c.args.heap.now.changes in
    let test = test_of c.args.comparison in
    subst (λ v. HasEffect h (with_value (λ x. with_value (λ y. truth (test x y)) (value (value_of h (c.args.first + 1)))) v) c.decided.result) c.in_ok-one.ensures
    (subst (λ v. HasEffect h (with_value (λ x. with_value (λ y. truth (test x y)) v) c.in_ok-one.one) c.decided.result) c.in_ok-other.ensures (c.decided.ensures h))
