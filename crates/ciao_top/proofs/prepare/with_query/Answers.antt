use Rattle.std.proofs.Common.{ap, sym, ◌∙◌}
use Rattle.ciao_top.specs.Queries.{main_operators}
use Rattle.ciao_top.proofs.FileLaws.{stops_by, no_units}
use Rattle.ciao_top.proofs.prepare.with_query.Goals as goal

pub returns-in-Some-clause-err : goal.returns-in-Some-clause-err
returns-in-Some-clause-err c = stops_by c.args.program _ _ c.args.text.now c.with_query_by.result (ap main_operators c.in-Some.ensures.cases.0) c.with_query_by.ensures.err

pub returns-in_ok-ops-in-None-clause-err : goal.returns-in_ok-ops-in-None-clause-err
returns-in_ok-ops-in-None-clause-err c =
    stops_by c.args.program _ _ c.args.text.now c.with_query_by-in-None.result (no_units c.args.units.now c.in-None.ensures.cases ∙ sym c.in_ok-ops-in-None.ensures) c.with_query_by-in-None.ensures.err
