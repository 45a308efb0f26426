use Rattle.std.proofs.Common.{sym, subst}
use Rattle.std.proofs.lemmas.Result.{IfOk-weaker}
use Rattle.prog_data.specs.Programs.{IsProgram}
use Rattle.instrumenter.proofs.programs.instrument.Goals as goal

pub returns-clause-range : goal.returns-clause-range
returns-clause-range c = λ is linked.
    IfOk-weaker c.with_checks.result _ _ (λ p made. subst IsProgram (sym made) (c.instrumented_range_law.ensures c.args.program c.args.statuses.now is linked)) c.with_checks.ensures
