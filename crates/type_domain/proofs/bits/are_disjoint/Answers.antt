use Rattle.std.proofs.Common.{refl, sym, arith, true≢false}
use Rattle.type_domain.proofs.BitLaws.{apart_all, not_apart}
use Rattle.type_domain.proofs.bits.are_disjoint.Goals as goal

pub returns-then-a-index-ne0 : goal.returns-then-a-index-ne0
returns-then-a-index-ne0 c = ((λ h. absurd (true≢false (sym h))), (λ h. absurd (not_apart c.args.a.now c.args.b.now c.loop-index.index (omega arith) c.if-a-index-ne0.true h)))

pub returns : goal.returns
returns c = ((λ _. apart_all c.args.a.now c.args.b.now c.told-b (λ i lt. c.loop-index.invariant i (omega (arith, lt, c.loop-index-test.false)))), (λ _. refl))
