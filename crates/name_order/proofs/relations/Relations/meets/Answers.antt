use Rattle.std.proofs.Common.{ap, ◌∙◌}
use Rattle.name_order.specs.Relations.{meets}
use Rattle.name_order.proofs.MakeLaws.{by_test}
use Rattle.name_order.proofs.RelationLaws.{meets_law}
use Rattle.name_order.proofs.relations.Relations.meets.Goals as goal

pub returns-clause-test : goal.returns-clause-test
returns-clause-test c = c.has.ensures ∙ c.self.invariant.are_meeting c.args.first c.args.second ∙ ap (λ g. meets g c.args.first c.args.second) c.self.view_is

pub returns-clause-relation : goal.returns-clause-relation
returns-clause-relation c = by_test _ _ _ (returns-clause-test c) (meets_law c.args.self.now c.args.first c.args.second)
