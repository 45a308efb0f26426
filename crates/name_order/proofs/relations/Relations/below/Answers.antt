use Rattle.std.proofs.Common.{ap, ◌∙◌}
use Rattle.name_order.specs.Relations.{below}
use Rattle.name_order.proofs.MakeLaws.{by_test}
use Rattle.name_order.proofs.RelationLaws.{below_law}
use Rattle.name_order.proofs.relations.Relations.below.Goals as goal

pub returns-clause-test : goal.returns-clause-test
returns-clause-test c = c.lacks.ensures ∙ c.self.invariant.are_below c.args.first c.args.second ∙ ap (λ g. below g c.args.first c.args.second) c.self.view_is

pub returns-clause-relation : goal.returns-clause-relation
returns-clause-relation c = by_test _ _ _ (returns-clause-test c) (below_law c.args.self.now c.args.first c.args.second)
