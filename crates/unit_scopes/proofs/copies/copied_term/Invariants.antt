use Rattle.std.proofs.Common.{◌≡◌}
use Rattle.term_core.specs.declared.terms.Term.{size-Term}
use Rattle.unit_scopes.specs.Copies.{closed_all}
use Rattle.unit_scopes.proofs.copies.copied_term.Given as goal

abbrev pub invariant-loop-name : goal.invariant-loop-name
invariant-loop-name l = closed_all l.compounds l.here ≡ l.fn.term

abbrev pub decreases-loop-name : goal.decreases-loop-name
decreases-loop-name l = size-Term l.here
