use Rattle.std.proofs.Common.{ap, ◌∙◌}
use Rattle.name_order.specs.Relations.{has_member}
use Rattle.name_order.proofs.MakeLaws.{by_test}
use Rattle.name_order.proofs.RelationLaws.{member_law}
use Rattle.name_order.proofs.relations.Relations.has_member.Goals as goal

pub returns-clause-test : goal.returns-clause-test
returns-clause-test c = c.has.ensures ∙ c.self.invariant.has_members c.args.name ∙ ap (λ g. has_member g c.args.name) c.self.view_is

pub returns-clause-relation : goal.returns-clause-relation
returns-clause-relation c = by_test _ _ _ (returns-clause-test c) (member_law c.args.self.now c.args.name)
