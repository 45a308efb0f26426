use Rattle.std.proofs.Common.{◌≡◌, drop}
use Rattle.assertion_normal.specs.Properties.{asked}
use Rattle.assertion_normal.specs.Settling.{in_order, all_asked}
use Rattle.assertion_normal.specs.Ranges.{IsGrown}
use Rattle.assertion_normal.proofs.settling.all_asked.Given as goal

abbrev pub invariant-loop-written : goal.invariant-loop-written
invariant-loop-written l = record {
  order : in_order (asked l.visible) (l.grammar, l.props) (drop l.written-index l.list) ≡ all_asked l.visible l.fn.grammar l.list;
  grown : IsGrown l.visible l.fn.grammar l.grammar;
}
