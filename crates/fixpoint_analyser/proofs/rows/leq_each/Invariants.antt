use Rattle.std.proofs.Common.{◌↔◌, drop, map}
use Rattle.prog_data.specs.Values.{seen}
use Rattle.type_domain.specs.Laws.{LeqEach}
use Rattle.fixpoint_analyser.proofs.rows.leq_each.Given as goal

abbrev pub invariant-loop-index : goal.invariant-loop-index
invariant-loop-index l = LeqEach (map seen (drop l.index l.left)) (map seen (drop l.index l.right)) ↔ LeqEach (map seen l.left) (map seen l.right)
