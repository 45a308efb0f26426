use Rattle.type_domain.proofs.BitLaws.{bits_in_both}
use Rattle.type_domain.proofs.bits.in_both.Goals as goal

pub returns : goal.returns
returns c = bits_in_both c.args.a.now c.args.b.now c.told-a c.told-b
