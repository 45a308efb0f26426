use Rattle.std.proofs.Common.{not, subst}
use Rattle.machine_model.specs.Step.{truth}
use Rattle.engine_moves.specs.BuiltinEffects.{HasEffect}
use Rattle.engine_moves.proofs.builtins.kinds.bound_effect.Goals as goal

pub returns : goal.returns
returns c = let h = c.args.heap.now.changes in subst (λ b. HasEffect h (truth (not b)) c.tested.result) c.is_variable_at-is_free.ensures (c.tested.ensures h)
