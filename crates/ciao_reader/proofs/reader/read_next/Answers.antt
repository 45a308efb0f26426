use Rattle.std.proofs.Common.{refl, ap, Err}
use Rattle.ciao_reader.proofs.reader.read_next.Goals as goal

pub returns-in-OpRefused-clause-err : goal.returns-in-OpRefused-clause-err
returns-in-OpRefused-clause-err c = (record { sentence = c.in_ok-sentence.sentence; is = c.in_ok-sentence.ensures.ok; refused = c.in-Err.ensures.refused (ap Err c.in-OpRefused.is) }, refl)
