use Rattle.std.proofs.Common.{◌≡◌, subst, arith}
use Rattle.engine_moves.specs.Tries.{HasVariables}
use Rattle.engine_moves.proofs.TryLaws.{no_variables, new_variables}
use Rattle.engine_moves.proofs.tries.add_variables.Goals as goal

pub returns-then-count-eq0 : goal.returns-then-count-eq0
returns-then-count-eq0 c =
    let none : 0 ≡ c.args.count = omega (arith, c.if-count-eq0.true) in
    subst (λ n. HasVariables c.args.heap.now n c.len-base.result c.args.heap.now) none (no_variables c.args.heap.now c.len-base.result c.len-base.ensures.len c.len-base.ensures.made)

pub returns : goal.returns
returns c =
    new_variables c.clauses_law.ensures c.new_law.ensures c.args.heap.now c.fresh.new.self c.args.count c.in_ok-first.first c.in_ok-first.ensures.place c.len-base.ensures.made c.in_ok-first.ensures.ok c.len-size.ensures.made
