use Rattle.std.proofs.Common.{◌≡◌, true, length, map, drop}
use Rattle.std.specs.List.{list_all}
use Rattle.prog_data.specs.Values.{seen}
use Rattle.name_order.specs.Relations.{order}
use Rattle.goal_transfer.specs.Conditions.{some_excluded}
use Rattle.goal_transfer.specs.Range.{is_named}
use Rattle.discharger.proofs.by_row.each_excluded.Given as goal

abbrev pub invariant-loop-disjunct : goal.invariant-loop-disjunct
invariant-loop-disjunct l =
    (list_all (list_all (is_named (length l.rel.rules))) (drop l.disjunct-index l.disjuncts) ≡ true)
    × (list_all (some_excluded (order l.rel) (map seen l.values)) (drop l.disjunct-index l.disjuncts) ≡ list_all (some_excluded (order l.rel) (map seen l.values)) l.disjuncts)
