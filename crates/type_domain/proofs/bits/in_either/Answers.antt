use Rattle.type_domain.proofs.BitLaws.{bits_in_either}
use Rattle.type_domain.proofs.bits.in_either.Goals as goal

pub returns : goal.returns
returns c = bits_in_either c.args.a.now c.args.b.now c.told-a c.told-b
