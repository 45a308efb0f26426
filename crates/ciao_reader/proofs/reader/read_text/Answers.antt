use Rattle.std.proofs.Common.{sym, subst}
use Rattle.ciao_tokens.specs.Faults as token_faults
use Rattle.ciao_tokens.specs.Tokens.{HasTokens}
use Rattle.ciao_reader.specs.Faults.{FailsAsGoalOr, IsGoalFaultOf}
use Rattle.ciao_reader.proofs.TextFaults.{tokens_goal_fault, goal_fault}
use Rattle.std.proofs.lemmas.Result.{IfErr-weaker}
use Rattle.ciao_reader.proofs.reader.read_text.Goals as goal

pub returns-in-Ok-clause-fault : goal.returns-in-Ok-clause-fault
returns-in-Ok-clause-fault c =
    IfErr-weaker c.read_alone.result _ _
    (λ fault w. goal_fault c.args.text.now c.args.names.now c.tokens.new.names c.in-Ok.tokens
    (subst (λ bytes. HasTokens bytes c.args.names.now c.tokens.new.names c.in-Ok.tokens) c.as_bytes.ensures.value c.in-Ok.ensures.ok) c.args.ops.now fault
    (subst (λ ts. FailsAsGoalOr c.tokens.new.names c.args.ops.now ts fault) c.as_slice.ensures w))
    c.read_alone.ensures.err

pub returns-in-Err-clause-fault : goal.returns-in-Err-clause-fault
returns-in-Err-clause-fault c =
    subst (IsGoalFaultOf c.args.ops.now c.args.text.now c.args.names.now) (sym c.of_text.ensures)
    (tokens_goal_fault c.args.text.now c.args.names.now c.args.ops.now c.in-Err.fault
    (subst (λ bytes. token_faults.IsFaultOf bytes c.in-Err.fault) c.as_bytes.ensures.value c.in-Err.ensures.fault))
