use Rattle.std.specs.Cmp.{both_ways}
use Rattle.prog_data.specs.Values.{bit_at}
use Rattle.type_domain.proofs.RowLaws.{all_met, none_apart}
use Rattle.type_domain.proofs.sets.meets_all.Goals as goal

pub returns : goal.returns
returns c =
    let met = all_met c.args.rel.now (c.order_law.ensures c.args.rel.now) (c.meets_law.ensures c.args.rel.now) c.args.name c.requires (bit_at c.args.names.now) (bit_at c.apart.result) c.apart.ensures in
    let apart = none_apart c.args.rel.now (c.order_law.ensures c.args.rel.now) (c.meets_law.ensures c.args.rel.now) c.args.name c.requires (bit_at c.args.names.now) (bit_at c.apart.result) c.apart.ensures in
    both_ways _ _ (λ e. met (c.are_disjoint.ensures.0 e)) (λ e. c.are_disjoint.ensures.1 (apart e))
