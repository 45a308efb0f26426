use Rattle.std.proofs.Common.{◌≡◌, ◌+◌, [], ◌∷◌, length, ap, ◌∙◌, arith, length-append}
use Rattle.name_order.specs.Relations.{order}
use Rattle.goal_transfer.proofs.StoredExits.{unknown_none, unknown_more}
use Rattle.goal_transfer.proofs.clauses.nothing_known.Goals as goal

pub loop-all-init : goal.loop-all-init
loop-all-init c = (omega (arith, ap length c.new-made.ensures.items), unknown_none (order c.args.rel.now) c.new-made.result.items c.new-made.ensures.items)

pub loop-all-preserved : goal.loop-all-preserved
loop-all-preserved c =
    let count : length c.push.new.self.items ≡ length c.loop-all.made.items + 1 = ap length c.in_ok-push.ensures.items ∙ length-append c.loop-all.made.items (c.of_name-all.result ∷ []) in (
      omega (arith, count, c.len.ensures, c.loop-all-test.true, c.loop-all.made.ok.0),
      unknown_more (order c.args.rel.now) c.loop-all.made.items c.push.new.self.items c.of_name-all.result c.in_ok-push.ensures.items c.of_name-all.ensures.value c.loop-all.invariant.1,
    )
