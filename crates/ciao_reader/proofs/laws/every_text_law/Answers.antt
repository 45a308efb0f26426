use Rattle.ciao_reader.proofs.EveryText.{every_text}
use Rattle.ciao_reader.proofs.laws.every_text_law.Goals as goal

pub returns : goal.returns
returns c = every_text
