use Rattle.std.proofs.Common.{◌≡◌, drop}
use Rattle.prog_data.specs.Conditions.{all_hold}
use Rattle.prop_check.proofs.properties.all_hold.Given as goal

abbrev pub invariant-loop-property : goal.invariant-loop-property
invariant-loop-property l = all_hold l.grammar l.args (drop l.property-index l.properties) ≡ all_hold l.grammar l.args l.properties
