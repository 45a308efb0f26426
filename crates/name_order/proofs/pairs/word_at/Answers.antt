use Rattle.std.proofs.Common.{sym}
use Rattle.name_order.proofs.Lists.{absent_index}
use Rattle.name_order.proofs.pairs.word_at.Goals as goal

pub returns-in-None : goal.returns-in-None
returns-in-None c = sym (absent_index c.args.words.now c.args.at 0 (sym c.in-None.ensures.value))
