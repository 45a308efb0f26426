use Rattle.type_domain.proofs.BitLaws.{Covered}
use Rattle.type_domain.proofs.bits.holds_all.Given as goal

abbrev pub invariant-loop-index : goal.invariant-loop-index
invariant-loop-index l = Covered l.a l.b l.index
