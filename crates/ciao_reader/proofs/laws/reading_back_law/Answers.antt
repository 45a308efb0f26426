use Rattle.ciao_reader.proofs.ReadBack.{reads_back}
use Rattle.ciao_reader.proofs.laws.reading_back_law.Goals as goal

pub returns : goal.returns
returns c = reads_back c.written_law.ensures
