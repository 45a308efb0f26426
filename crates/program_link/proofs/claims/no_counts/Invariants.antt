use Rattle.std.proofs.Common.{◌≡◌, ◌++◌, drop}
use Rattle.program_link.specs.HeldPrograms.{no_counts}
use Rattle.program_link.proofs.claims.no_counts.Given as goal

abbrev pub invariant-loop-pred : goal.invariant-loop-pred
invariant-loop-pred l = l.counts ++ no_counts (drop l._pred-index l.defined) ≡ no_counts l.defined
