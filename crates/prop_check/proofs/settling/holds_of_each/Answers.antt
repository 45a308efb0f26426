use Rattle.std.proofs.Common.{subst, sym}
use Rattle.prog_data.specs.Values.{bit_at}
use Rattle.prop_check.specs.declared.heads.Head.TheVariants.{Node}
use Rattle.prop_check.specs.Sets.{head_holds}
use Rattle.prop_check.specs.OneOf.{SomeRule}
use Rattle.prop_check.proofs.OneOfLaws.{rule_whole, whole_rule}
use Rattle.prop_check.proofs.settling.holds_of_each.Goals as goal

pub returns-clause-some : goal.returns-clause-some
returns-clause-some c = λ e.
    rule_whole c.args.grammar.now (bit_at c.args.names.now) c.args.name (subst (λ sets. SomeRule c.args.grammar.now (bit_at c.args.names.now) (head_holds sets (Node c.args.name))) c.link-part.ensures (c.some_holds.ensures.some e))

pub returns-clause-none : goal.returns-clause-none
returns-clause-none c = λ s.
    c.some_holds.ensures.none (subst (λ sets. SomeRule c.args.grammar.now (bit_at c.args.names.now) (head_holds sets (Node c.args.name))) (sym c.link-part.ensures) (whole_rule c.args.grammar.now (bit_at c.args.names.now) c.args.name s))
