use Rattle.std.proofs.Common.{◌≡◌, drop}
use Rattle.std.specs.Prelude.{flat_map}
use Rattle.term_core.specs.Terms.{with_all_new, occurrences}
use Rattle.term_core.proofs.terms.+add_variables.Given as goal

abbrev pub invariant-loop-part : goal.invariant-loop-part
invariant-loop-part l = with_all_new l.seen.items (flat_map occurrences (drop l.part-index l.part-items)) ≡ with_all_new l.fn.seen.items (flat_map occurrences l.part-items)
