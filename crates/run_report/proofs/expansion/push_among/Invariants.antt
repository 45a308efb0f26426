use Rattle.std.proofs.Common.{◌≡◌, ◌++◌, map, filter, drop}
use Rattle.std.specs.Prelude.{nat_eq}
use Rattle.std.specs.List.{list_any}
use Rattle.run_report.specs.Expansion.{numbered_line}
use Rattle.run_report.proofs.expansion.push_among.Given as goal

abbrev pub invariant-loop-condition : goal.invariant-loop-condition
invariant-loop-condition l =
    l.lines ++ map (numbered_line l.program) (filter (λ c. list_any (nat_eq c) l.kept.keys) (drop l.condition-index l.condition-items))
    ≡ l.fn.lines ++ map (numbered_line l.program) (filter (λ c. list_any (nat_eq c) l.kept.keys) l.condition-items)
