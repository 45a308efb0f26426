use Rattle.std.proofs.Common.{arith}
use Rattle.name_order.proofs.SetLaws.{no_rows, row_turn}
use Rattle.name_order.proofs.sets.all_lacking.Goals as goal

pub loop-first-init : goal.loop-first-init
loop-first-init c = no_rows c.args.table.now c.new-rows.result c.new-rows.ensures

pub loop-first-preserved : goal.loop-first-preserved
loop-first-preserved c = row_turn c.args.table.now c.loop-first.first c.loop-first.rows c.push.new.self c.lacking.result c.loop-first.invariant c.lacking.ensures c.in_ok-push.ensures.ok

pub returns : goal.returns
returns c = λ n lt. c.loop-first.invariant.1 n (omega (arith, lt, c.loop-first-test.false))
