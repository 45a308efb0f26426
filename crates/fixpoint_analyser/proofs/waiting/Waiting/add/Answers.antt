use Rattle.std.proofs.Common.{◌≡◌, false, Some, subst}
use Rattle.std.specs.Prelude.{slice_get}
use Rattle.fixpoint_analyser.proofs.WaitLaws.{pushed_queue}
use Rattle.fixpoint_analyser.proofs.waiting.Waiting.add.Goals as goal

pub invariant_of-self-2 : goal.invariant_of-self-2
invariant_of-self-2 c =
    pushed_queue c.self.inside.flags.items c.self.inside.queue.items c.push_back.new.self.items c.args.pred (subst (λ fs. slice_get fs c.args.pred ≡ Some false) c.as_slice.ensures.value c.if-not-is_idle.ensures) c.in_ok-push_back.ensures.items c.self.invariant
