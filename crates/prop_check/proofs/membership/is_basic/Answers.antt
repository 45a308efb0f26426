use Rattle.std.proofs.Common.{sym, ap, ◌∙◌}
use Rattle.prog_data.specs.declared.grammars.Rule.TheVariants as rule
use Rattle.prog_data.specs.Membership.{admits}
use Rattle.prog_data.proofs.MembershipLaws.{ground_same}
use Rattle.prop_check.proofs.membership.is_basic.Goals as goal

pub returns-in-Gnd : goal.returns-in-Gnd
returns-in-Gnd c = λ g. c.is_ground.ensures ∙ sym (ap (λ b. admits g c.args.term.now (rule.Basic b)) c.in-Gnd.is ∙ ground_same g c.args.term.now)
