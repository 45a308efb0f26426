use Rattle.std.proofs.Common.{◌≡◌, drop}
use Rattle.prog_data.specs.Conditions.{all_hold}
use Rattle.prop_check.specs.Places.{row_at}
use Rattle.prop_check.proofs.properties_at.all_hold_at.Given as goal

abbrev pub invariant-loop-property : goal.invariant-loop-property
invariant-loop-property l = all_hold l.grammar (row_at l.heap.changes l.first l.count) (drop l.property-index l.properties) ≡ all_hold l.grammar (row_at l.heap.changes l.first l.count) l.properties
