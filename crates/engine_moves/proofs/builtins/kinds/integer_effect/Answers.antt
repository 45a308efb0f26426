use Rattle.std.proofs.Common.{subst}
use Rattle.machine_model.specs.Step.{truth}
use Rattle.engine_moves.specs.BuiltinEffects.{HasEffect}
use Rattle.engine_moves.proofs.builtins.kinds.integer_effect.Goals as goal

pub returns : goal.returns
returns c = let h = c.args.heap.now.changes in subst (λ b. HasEffect h (truth b) c.tested.result) c.is_integer_at-holds.ensures (c.tested.ensures h)
