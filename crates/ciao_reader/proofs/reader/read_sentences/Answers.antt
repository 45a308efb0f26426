use Rattle.std.proofs.lemmas.Result.{IfOk-weaker}
use Rattle.ciao_reader.proofs.reader.read_sentences.Goals as goal

pub returns-clause-in_range : goal.returns-clause-in_range
returns-clause-in_range c = IfOk-weaker c.read_source.result _ _ (λ source has. c.in_range_law.ensures.sentences c.args.bytes.now c.args.names.now c.read_source.new.names source c.len.ensures.begins has) c.read_source.ensures.ok
