use Rattle.std.proofs.Common.{◌≡◌, ◌++◌, drop}
use Rattle.std.specs.Prelude.{flat_map}
use Rattle.run_report.specs.Expansion.{conds_of}
use Rattle.run_report.proofs.kept.checked_conditions.Given as goal

abbrev pub invariant-loop-check : goal.invariant-loop-check
invariant-loop-check l = l.conditions ++ flat_map conds_of (drop l.check-index l.check-items) ≡ flat_map conds_of l.check-items
