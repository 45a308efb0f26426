use Rattle.std.proofs.Common.{◌∙◌}
use Rattle.name_order.specs.Relations.{order}
use Rattle.type_domain.specs.Values.{leaf_part}
use Rattle.type_domain.proofs.Parts.{joined_same}
use Rattle.type_domain.proofs.compounds.name_part.Goals as goal

pub returns : goal.returns
returns c = c.joined_parts.ensures ∙ joined_same (leaf_part (order c.args.rel.now) c.args.place.name c.args.place.arity c.args.place.part) c.leaves.result.now ((order c.args.rel.now).leaves c.args.says) c.leaves.ensures.same
