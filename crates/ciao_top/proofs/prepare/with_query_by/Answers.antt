use Rattle.std.proofs.lemmas.Option.{MatchOption-at_some}
use Rattle.std.proofs.Common.{refl}
use Rattle.ciao_top.proofs.FileLaws.{fault_of, prepared_in_range}
use Rattle.ciao_top.proofs.prepare.with_query_by.Goals as goal

pub returns-in-Some-call_fault-clause-err : goal.returns-in-Some-call_fault-clause-err
returns-in-Some-call_fault-clause-err c =
    fault_of c.args.program c.args.ops.now c.args.text.now _ c.in-Some.query c.in-Some-call_fault.reason
    (record { names = c.read_query.new.names; read = MatchOption-at_some _ _ _ c.in-Some.is c.in_ok-read_query.ensures.some; program_is = refl }) c.in-Some-call_fault.ensures.fault

pub returns-in-None-call_fault-clause-range : goal.returns-in-None-call_fault-clause-range
returns-in-None-call_fault-clause-range c =
    prepared_in_range c.program_ranges_law.ensures c.args.program c.read_query.new.names c.in-Some.query c.in_ok-read_query.ensures.kept c.requires.range c.requires.as_linked
    (MatchOption-at_some _ _ _ c.in-Some.is c.in_ok-read_query.ensures.in_range)
