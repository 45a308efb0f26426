use Rattle.std.proofs.Common.{arith}
use Rattle.engine_moves.proofs.CallLaws.{not_marked, is_marked}
use Rattle.engine_moves.proofs.calls.add_mark.Goals as goal

pub returns-then-conditions-eq0 : goal.returns-then-conditions-eq0
returns-then-conditions-eq0 c = not_marked c.args.engine.now c.args.pred c.args.conditions c.requires.kept c.requires.noted (omega (arith, c.if-conditions-eq0.true))

pub returns : goal.returns
returns c =
    is_marked c.pushed_law.ensures c.args.engine.now c.add_point.new.self c.args.pred c.args.conditions c.in_ok-height.height c.requires.noted (λ none. c.if-conditions-eq0.false none) c.in_ok-height.ensures c.in_ok-add_point.ensures
