use Rattle.type_domain.proofs.BitLaws.{Apart}
use Rattle.type_domain.proofs.bits.are_disjoint.Given as goal

abbrev pub invariant-loop-index : goal.invariant-loop-index
invariant-loop-index l = Apart l.a l.b l.index
