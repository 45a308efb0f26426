use Rattle.std.proofs.Common.{◌≡◌, drop}
use Rattle.assertion_normal.specs.Settling.{counting, in_order, settled, all_settled}
use Rattle.assertion_normal.specs.Ranges.{IsGrown}
use Rattle.assertion_normal.proofs.settling.all_settled.Given as goal

abbrev pub invariant-loop-assertion : goal.invariant-loop-assertion
invariant-loop-assertion l = record {
  order : in_order (settled l.names l.visible) (l.grammar, l.all) (counting (drop l.assertion-index l.list)) ≡ all_settled l.names l.visible l.fn.grammar l.list;
  grown : IsGrown l.visible l.fn.grammar l.grammar;
}
