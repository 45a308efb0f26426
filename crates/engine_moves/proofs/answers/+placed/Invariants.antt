use Rattle.std.proofs.Common.{◌≡◌, ◌++◌, drop, map}
use Rattle.term_core.specs.Terms.{instance}
use Rattle.engine_moves.specs.Answers.{by_place}
use Rattle.engine_moves.proofs.answers.+placed.Given as goal

abbrev pub invariant-loop-part : goal.invariant-loop-part
invariant-loop-part l = l.made ++ map (instance (by_place l.variables)) (drop l.part-index l.part-items) ≡ map (instance (by_place l.variables)) l.part-items
