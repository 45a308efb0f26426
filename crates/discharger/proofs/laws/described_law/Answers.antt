use Rattle.discharger.proofs.Sound.{described}
use Rattle.discharger.proofs.laws.described_law.Goals as goal

pub returns : goal.returns
returns c = λ program table is closed. described program table (c.relied_law.ensures program.grammar is.grammar) closed
