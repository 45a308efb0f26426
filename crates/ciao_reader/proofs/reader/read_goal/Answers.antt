use Rattle.std.proofs.lemmas.Result.{IfOk-weaker}
use Rattle.ciao_reader.proofs.ReadBackAnswers.{are_names, answers}
use Rattle.ciao_reader.proofs.reader.read_goal.Goals as goal

pub returns-clause-reads_back : goal.returns-clause-reads_back
returns-clause-reads_back c t readable is shallow =
    answers c.written_law.ensures c.args.names.now c.args.ops.now (are_names c.args.names.now c.len.ensures.begins c.len.ensures.distinct c.len.ensures.utf8) c.made.ensures c.args.text.now t readable is shallow
    c.read_text.new.names c.read_text.result c.read_text.ensures.ok c.read_text.ensures.fault

pub returns-clause-in_range : goal.returns-clause-in_range
returns-clause-in_range c = IfOk-weaker c.read_text.result _ _ (λ read has. c.in_range_law.ensures.goals c.args.ops.now c.args.text.now c.args.names.now c.read_text.new.names read c.len.ensures.begins has) c.read_text.ensures.ok
