use Rattle.std.proofs.Common.{arith}
use Rattle.name_order.specs.Tables.{lacks}
use Rattle.name_order.proofs.Gathering.{gathered_none, gathered_more, gathered_all}
use Rattle.name_order.proofs.BitLaws.{lacks_inside}
use Rattle.name_order.proofs.sets.lacking.Goals as goal

pub loop-second-init : goal.loop-second-init
loop-second-init c = gathered_none (λ n. lacks c.args.table.now (c.args.first, n))

pub loop-second-preserved : goal.loop-second-preserved
loop-second-preserved c = gathered_more (λ n. lacks c.args.table.now (c.args.first, n)) c.loop-second.second c.lacks.result c.loop-second.names c.put_where.new.words c.loop-second.invariant c.lacks.ensures c.put_where.ensures

pub returns : goal.returns
returns c =
    gathered_all (λ n. lacks c.args.table.now (c.args.first, n)) c.loop-second.second c.loop-second.names c.loop-second.invariant
    (λ n e. let lt = lacks_inside c.args.table.now c.args.first n e in omega (arith, lt, c.loop-second-test.false))
