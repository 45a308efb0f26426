use Rattle.std.proofs.Common.{inl}
use Rattle.ciao_top.proofs.FileLaws.{in_ok, in_err}
use Rattle.ciao_top.proofs.prepare.prepare_units.Goals as goal

pub returns-in-Ok-clause-ok : goal.returns-in-Ok-clause-ok
returns-in-Ok-clause-ok c = in_ok c.args.names c.args.units.now c.args.text.now c.in-Ok.program c.in-Ok.ensures.linked c.with_query.result c.with_query.ensures.ok

pub returns-in-Ok-clause-err : goal.returns-in-Ok-clause-err
returns-in-Ok-clause-err c = in_err c.args.names c.args.units.now c.args.text.now c.in-Ok.program c.in-Ok.ensures.linked c.with_query.result c.with_query.ensures.err

pub returns-in-Err-clause-err : goal.returns-in-Err-clause-err
returns-in-Err-clause-err c = inl c.in-Err.ensures.err
