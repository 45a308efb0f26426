use Rattle.std.proofs.Common.{sym, subst}
use Rattle.term_core.specs.Standard.{standard}
use Rattle.ciao_reader.specs.Faults.{FirstFaultOr, IsFaultOf}
use Rattle.ciao_reader.proofs.TextFaults.{tokens_fault, sentences_fault}
use Rattle.std.proofs.lemmas.Result.{IfErr-weaker}
use Rattle.ciao_reader.proofs.reader.read_source.Goals as goal

pub returns-in-Ok-clause-fault : goal.returns-in-Ok-clause-fault
returns-in-Ok-clause-fault c =
    IfErr-weaker c.read_all.result _ _
    (λ fault w. sentences_fault c.args.bytes.now c.args.names.now c.tokens.new.names c.in-Ok.tokens c.in-Ok.ensures.ok fault
    (subst (λ ts. FirstFaultOr c.tokens.new.names standard ts fault) c.as_slice.ensures w))
    c.read_all.ensures.err

pub returns-in-Err-clause-fault : goal.returns-in-Err-clause-fault
returns-in-Err-clause-fault c = subst (IsFaultOf c.args.bytes.now c.args.names.now) (sym c.of_text.ensures) (tokens_fault c.args.bytes.now c.args.names.now c.in-Err.fault c.in-Err.ensures.fault)
