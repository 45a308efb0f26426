use Rattle.std.proofs.Common.{◌≤◌, ◌<◌, ◌-◌, length, take, drop}
use Rattle.std.specs.List.{AllByRecursion}
use Rattle.engine_state.proofs.marks.place_at.Given as goal

abbrev pub invariant-halves : goal.invariant-halves
invariant-halves l = record {
  ends : l.low ≤ l.high;
  within : l.high ≤ length l.points;
  lower : AllByRecursion (λ p. p.below < l.height) (take l.low l.points);
  upper : AllByRecursion (λ p. l.height < p.below) (drop l.high l.points);
}

abbrev pub decreases-halves : goal.decreases-halves
decreases-halves l = l.high - l.low
