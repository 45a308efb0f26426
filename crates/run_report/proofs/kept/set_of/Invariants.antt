use Rattle.std.proofs.Common.{◌≡◌, ℕ, drop}
use Rattle.std.specs.Prelude.{◌||◌, nat_eq}
use Rattle.std.specs.List.{list_any}
use Rattle.run_report.proofs.kept.set_of.Given as goal

abbrev pub invariant-loop-number : goal.invariant-loop-number
invariant-loop-number l = (n : ℕ) → (list_any (nat_eq n) (drop l.number-index l.numbers) || list_any (nat_eq n) l.set.keys) ≡ list_any (nat_eq n) l.numbers
