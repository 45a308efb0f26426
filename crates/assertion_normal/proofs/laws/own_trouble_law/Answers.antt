use Rattle.assertion_normal.proofs.OwnTroubles.{own_trouble_told}
use Rattle.assertion_normal.proofs.laws.own_trouble_law.Goals as goal

pub returns : goal.returns
returns c = own_trouble_told
