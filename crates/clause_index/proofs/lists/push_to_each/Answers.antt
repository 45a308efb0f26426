use Rattle.std.proofs.Common.{length, ap, arith}
use Rattle.clause_index.proofs.FoundLaws.{length-placed_first, next_entry, each_found}
use Rattle.clause_index.proofs.lists.push_to_each.Goals as goal

pub push_at-requires : goal.push_at-requires
push_at-requires c =
    let same = ap length c.loop-at.invariant in
    let all = length-placed_first c.loop-at.at c.args.place c.args.lists.now.entries in
    omega (arith, same, all, c.loop-at-test.true, c.len-at-end.ensures.len)

pub loop-at-preserved : goal.loop-at-preserved
loop-at-preserved c = next_entry c.loop-at.at c.args.place c.args.lists.now.entries c.loop-at.lists.entries c.push_at.new.lists.entries c.in_ok-push_at.ensures c.loop-at.invariant

pub returns : goal.returns
returns c =
    each_found c.loop-at.at c.args.place c.args.lists.now.entries c.loop-at.lists.entries c.loop-at.invariant
    (λ lt. omega (arith, lt, c.loop-at-test.false, c.len-at-end.ensures.len))
