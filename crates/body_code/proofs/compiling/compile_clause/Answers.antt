use Rattle.std.proofs.Common.{sym, ◌∙◌}
use Rattle.body_code.proofs.Outcomes.{range_outcome}
use Rattle.body_code.proofs.compiling.compile_clause.Goals as goal

pub returns-in-None-body_problem-clause-range : goal.returns-in-None-body_problem-clause-range
returns-in-None-body_problem-clause-range c =
    range_outcome c.args.scope.now c.args.file c.args.sentence.now c.args.grammar.now c.in-Some.indicator (sym c.clause_indicator.ensures ∙ c.in-Some.is) c.clause_of.new.grammar
    (sym c.body_problem.ensures ∙ c.in-None-body_problem.is) c.clause_of.result c.clause_of.ensures.made
