use Rattle.std.proofs.Common.{◌≡◌, ◌++◌, drop}
use Rattle.assertion_normal.specs.Settling.{comp_props}
use Rattle.assertion_normal.proofs.settling.comp_props.Given as goal

abbrev pub invariant-loop-name : goal.invariant-loop-name
invariant-loop-name l = l.props ++ comp_props l.names (drop l.name-index l.list) ≡ comp_props l.names l.list
