use Rattle.std.proofs.Common.{subst}
use Rattle.ciao_reader.specs.Faults.{IsUnreadOr}
use Rattle.ciao_reader.proofs.TextFaults.{unread_goal}
use Rattle.std.proofs.lemmas.Result.{IfErr-weaker}
use Rattle.ciao_reader.proofs.reader.read_alone.Goals as goal

pub returns-in-Some-clause-err : goal.returns-in-Some-clause-err
returns-in-Some-clause-err c =
    IfErr-weaker c.read_sentence.result _ _
    (λ fault w. unread_goal c.args.names.now c.args.ops.now c.args.tokens.now c.in-Some.inner.now c.in-Some.ensures fault
    (subst (λ line. IsUnreadOr c.args.names.now c.args.ops.now c.in-Some.inner.now line fault) c.line_of-line.ensures w))
    c.read_sentence.ensures.err
