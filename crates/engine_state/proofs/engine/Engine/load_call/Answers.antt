use Rattle.std.proofs.Common.{◌≡◌, ◌∙◌, sym, length, arith}
use Rattle.engine_state.proofs.CallLaws.{placed_args, called_bare, called_loaded}
use Rattle.engine_state.proofs.engine.Engine.load_call.Goals as goal

pub load_all-requires : goal.load_all-requires
load_all-requires c = placed_args c.args.self.now c.args.pred c.args.args.now c.args.setting c.requires

pub returns-then-count-eq0 : goal.returns-then-count-eq0
returns-then-count-eq0 c = called_bare c.args.self.now c.args.pred c.args.args.now c.args.setting (omega (arith, c.if-count-eq0.true)) c.requires

pub returns : goal.returns
returns c =
    called_loaded c.leaner_states_law.ensures c.args.self.now c.load_all.new.self c.args.pred c.in_ok-first.first _ c.args.args.now c.args.setting c.requires c.in_ok-first.ensures.ok c.len-size.ensures.made (omega arith)
