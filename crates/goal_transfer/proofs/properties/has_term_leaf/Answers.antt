use Rattle.std.proofs.Common.{ap, sym, ◌∙◌}
use Rattle.std.specs.List.{list_any}
use Rattle.goal_transfer.specs.Conditions.{is_term}
use Rattle.goal_transfer.proofs.properties.has_term_leaf.Goals as goal

pub returns : goal.returns
returns c = c.some_term.ensures ∙ c.leaves.ensures is_term ∙ ap (λ f. list_any is_term (f c.args.name)) (sym (c.order_law.ensures c.args.rel.now).leaves)
