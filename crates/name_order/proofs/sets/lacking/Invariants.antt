use Rattle.name_order.specs.Tables.{lacks}
use Rattle.name_order.proofs.Gathering.{Gathered}
use Rattle.name_order.proofs.sets.lacking.Given as goal

abbrev pub invariant-loop-second : goal.invariant-loop-second
invariant-loop-second l = Gathered (λ n. lacks l.table (l.first, n)) l.second l.names
