use Rattle.std.specs.Cmp.{both_ways}
use Rattle.type_domain.proofs.lookups.do_meet.Goals as goal

pub returns : goal.returns
returns c =
    let same = (c.order_law.ensures c.args.rel.now).meets c.args.first c.args.second in
    both_ways _ _ (λ e. same.1 (c.meets.ensures.relation.0 e)) (λ e. c.meets.ensures.relation.1 (same.0 e))
