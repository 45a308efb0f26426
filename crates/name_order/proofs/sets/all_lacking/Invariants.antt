use Rattle.name_order.proofs.SetLaws.{FirstRows}
use Rattle.name_order.proofs.sets.all_lacking.Given as goal

abbrev pub invariant-loop-first : goal.invariant-loop-first
invariant-loop-first l = FirstRows l.table l.first l.rows
