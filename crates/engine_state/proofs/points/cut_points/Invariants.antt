use Rattle.std.proofs.Common.{◌≡◌, ℕ, List, length}
use Rattle.prog_data.specs.declared.programs.Program.{Program}
use Rattle.clause_index.specs.declared.keys.Key.{Key}
use Rattle.term_heap.specs.Changes.{Change}
use Rattle.engine_state.specs.declared.tasks.Link.{Link}
use Rattle.engine_state.specs.Stacks.{cut_points}
use Rattle.engine_state.specs.Views.{as_points}
use Rattle.engine_state.specs.Moments.{HasMoments}
use Rattle.engine_state.proofs.points.cut_points.Given as goal

abbrev pub invariant-loop-point : goal.invariant-loop-point
invariant-loop-point l = record {
  cut : (index : List (List Key)) (notes : List ℕ) → cut_points l.height (as_points index notes l.points.items) ≡ cut_points l.height (as_points index notes l.fn.points.items);
  moments : (program : Program) (query : ℕ) (changes : List Change) (notes : List ℕ) (links : List Link) → HasMoments program query changes notes links l.fn.points.items → HasMoments program query changes notes links l.points.items;
}

abbrev pub decreases-loop-point : goal.decreases-loop-point
decreases-loop-point l = length l.points.items
