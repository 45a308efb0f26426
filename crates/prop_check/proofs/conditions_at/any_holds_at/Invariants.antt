use Rattle.std.proofs.Common.{◌≡◌, drop}
use Rattle.std.specs.List.{list_any}
use Rattle.prog_data.specs.Conditions.{all_hold}
use Rattle.prop_check.specs.Places.{row_at}
use Rattle.prop_check.proofs.conditions_at.any_holds_at.Given as goal

abbrev pub invariant-loop-disjunct : goal.invariant-loop-disjunct
invariant-loop-disjunct l =
    list_any (all_hold l.grammar (row_at l.heap.changes l.first l.count)) (drop l.disjunct-index l.disjuncts) ≡ list_any (all_hold l.grammar (row_at l.heap.changes l.first l.count)) l.disjuncts
