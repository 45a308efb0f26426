use Rattle.std.proofs.Common.{sym, refl}
use Rattle.sld_engine.proofs.RunLaws.{run_starts}
use Rattle.sld_engine.proofs.state.RunState.new.Goals as goal

pub returns-clause-starts : goal.returns-clause-starts
returns-clause-starts c =
    run_starts c.leaner_law.ensures c.args.program.now c.requires.program c.args.query.now c.in-Some.pred c.args.bound c.args.reading _ (sym c.in-Some.ensures) c.in_ok-first-in-Some.ensures c.new.ensures.items refl
