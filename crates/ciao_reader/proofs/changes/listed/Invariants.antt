use Rattle.std.proofs.Common.{◌≡◌, ◌≤◌, ◌++◌}
use Rattle.std.specs.Prelude.{option_map}
use Rattle.term_core.specs.declared.terms.Term.{size-Term}
use Rattle.ciao_reader.specs.Changes.{listed}
use Rattle.ciao_reader.proofs.changes.listed.Given as goal

abbrev pub invariant-loop-item : goal.invariant-loop-item
invariant-loop-item l = (option_map (λ rest. l.names ++ rest) (listed l.left) ≡ listed l.fn.term) × (size-Term l.left ≤ size-Term l.fn.term)
