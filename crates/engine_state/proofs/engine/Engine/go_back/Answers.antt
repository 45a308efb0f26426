use Rattle.engine_state.proofs.GoneBackLaws.{gone_back}
use Rattle.engine_state.proofs.engine.Engine.go_back.Goals as goal

pub returns-in-Some-clause-back : goal.returns-in-Some-clause-back
returns-in-Some-clause-back c = gone_back c.args.self.now c.take_choice.new.self c.in-Some.alternative c.leaner_states_law.ensures c.requires c.in-Some.ensures.taken c.len-size.ensures.made
