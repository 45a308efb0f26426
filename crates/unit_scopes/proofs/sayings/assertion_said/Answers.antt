use Rattle.std.proofs.Common.{sym, ap, subst, ◌∙◌}
use Rattle.assertion_read.specs.Written.{IsNoAssertion}
use Rattle.unit_scopes.specs.Sayings.{assertion_said}
use Rattle.unit_scopes.proofs.ReadLaws.{no_assertion}
use Rattle.unit_scopes.proofs.sayings.assertion_said.Goals as goal

pub returns-in-Err-BadAssertion : goal.returns-in-Err-BadAssertion
returns-in-Err-BadAssertion c =
    let s = c.args.sentence.now in
    c.breaks.ensures ∙ sym (ap (assertion_said s.line) (no_assertion s c.assertion_law.ensures (subst (IsNoAssertion s) c.in-Err-BadAssertion.field-0-is c.in-Err-BadAssertion.ensures.none).1))
