use Rattle.ciao_reader.proofs.Numbering.{numbered_from_zero}
use Rattle.ciao_reader.proofs.laws.numbers_law.Goals as goal

pub returns : goal.returns
returns c = numbered_from_zero
