use Rattle.std.proofs.Common.{arith}
use Rattle.engine_state.proofs.BuiltinArguments.{placed_terms_at, bare_ready, loaded_ready}
use Rattle.engine_state.proofs.engine.Engine.load_builtin.Goals as goal

pub load_all-requires : goal.load_all-requires
load_all-requires c = placed_terms_at c.args.self.now c.args.builtin c.args.args.now c.args.setting c.requires

pub returns-then-count-eq0 : goal.returns-then-count-eq0
returns-then-count-eq0 c = bare_ready c.args.self.now c.args.builtin c.args.args.now c.args.setting (omega (arith, c.if-count-eq0.true)) c.requires

pub returns : goal.returns
returns c =
    loaded_ready c.leaner_states_law.ensures c.args.self.now c.load_all.new.self c.args.builtin c.in_ok-first.first _ c.args.args.now c.args.setting c.requires c.in_ok-first.ensures.ok c.len-size.ensures.made (omega arith)
