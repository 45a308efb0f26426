use Rattle.std.proofs.Common.{refl}
use Rattle.sld_engine.proofs.RunLaws.{gives}
use Rattle.sld_engine.proofs.state.RunState.give.Goals as goal

pub returns-clause-told : goal.returns-clause-told
returns-clause-told c =
    let condition = c.index-condition.result.now in
    gives c.args.self.now _ condition condition c.requires.phase.0 c.requires.phase.1 c.requires.some c.index-condition.ensures refl refl refl refl refl c.requires.running.counted
