use Rattle.name_order.proofs.SetLaws.{bits_put}
use Rattle.name_order.proofs.sets.put.Goals as goal

pub returns : goal.returns
returns c = bits_put c.args.words.now c.args.name c.requires c.told-words
