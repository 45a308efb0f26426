use Rattle.term_core.proofs.ConjunctLoop.{item_turn, item_smaller, sides_turn, sides_smaller}
use Rattle.term_core.proofs.operands.conjuncts.Goals as goal

pub loop-next-smaller-in-Continue-branch-2 : goal.loop-next-smaller-in-Continue-branch-2
loop-next-smaller-in-Continue-branch-2 c = item_smaller (λ t. t.now) c.loop-next.pending c.pop.new.self c.in-Some.next c.in-Some.ensures

pub loop-next-preserved-in-Continue-branch-2 : goal.loop-next-preserved-in-Continue-branch-2
loop-next-preserved-in-Continue-branch-2 c =
    item_turn (λ t. t.now) c.loop-next.pending c.pop.new.self c.in-Some.next c.in-Some.ensures c.loop-next.terms c.push-in-None.new.self _ c.in_ok-push-in-None.ensures.ok c.in-None.ensures.shape c.loop-next.invariant

pub loop-next-smaller : goal.loop-next-smaller
loop-next-smaller c =
    sides_smaller (λ t. t.now) c.loop-next.pending c.pop.new.self c.in-Some.next c.in-Some.ensures c.in-Some-operands.left c.in-Some-operands.right c.push-in-Some-operands.new.self c.push-in-Some-operands-2.new.self
    c.in_ok-push-in-Some-operands.ensures.ok c.in_ok-push-in-Some-operands-2.ensures.ok c.in-Some-operands.ensures.whole

pub loop-next-preserved : goal.loop-next-preserved
loop-next-preserved c =
    sides_turn (λ t. t.now) c.loop-next.pending c.pop.new.self c.in-Some.next c.in-Some.ensures c.in-Some-operands.left c.in-Some-operands.right c.push-in-Some-operands.new.self c.push-in-Some-operands-2.new.self
    c.in_ok-push-in-Some-operands.ensures.ok c.in_ok-push-in-Some-operands-2.ensures.ok c.in-Some-operands.ensures.whole c.loop-next.terms _ c.loop-next.invariant
