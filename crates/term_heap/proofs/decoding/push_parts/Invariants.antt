use Rattle.std.proofs.Common.{◌≡◌, ◌≤◌, ◌-◌, ◌++◌, ◌∷◌, map}
use Rattle.term_heap.specs.declared.decoding.Step.TheVariants.{Open, Close}
use Rattle.term_heap.specs.Changes.{places}
use Rattle.term_heap.proofs.decoding.push_parts.Given as goal

abbrev pub invariant-loop-at : goal.invariant-loop-at
invariant-loop-at l = record {
  within : l.at ≤ l.end;
  all : l.left.items ++ map Open (places l.at (l.end - l.at)) ≡ l.fn.left.items ++ Close l.fn.name l.fn.count ∷ map Open (places l.fn.first l.fn.count);
}

abbrev pub decreases-loop-at : goal.decreases-loop-at
decreases-loop-at l = l.end - l.at
