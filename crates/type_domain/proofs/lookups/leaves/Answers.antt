use Rattle.std.proofs.Common.{ap, sym, ◌∙◌}
use Rattle.std.specs.List.{list_any}
use Rattle.type_domain.proofs.LeafLists.{found_range, found_few}
use Rattle.type_domain.proofs.lookups.leaves.Goals as goal

pub returns-clause-same : goal.returns-clause-same
returns-clause-same c = λ test. c.leaves.ensures test ∙ ap (λ f. list_any test (f c.args.name)) (sym (c.order_law.ensures c.args.rel.now).leaves)

pub returns-clause-range : goal.returns-clause-range
returns-clause-range c = found_range c.args.rel.now c.range.ensures c.args.name c.leaves.result.now c.leaves.ensures

pub returns-clause-few : goal.returns-clause-few
returns-clause-few c = found_few c.args.rel.now c.range.ensures c.args.name c.leaves.result.now c.leaves.ensures
