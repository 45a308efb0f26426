use Rattle.std.proofs.Common.{◌≡◌, drop}
use Rattle.std.specs.Prelude.{◌==◌, ◌&&◌}
use Rattle.std.specs.List.{list_any}
use Rattle.term_core.specs.Shapes.{parts_of}
use Rattle.term_core.specs.declared.terms.Term.{out-Term}
use Rattle.prog_data.specs.Conditions.{all_hold}
use Rattle.ciao_top.specs.Queries.{query_meets_entry}
use Rattle.ciao_top.proofs.queries.query_meets_entry.Given as goal

-- those that are left decide
abbrev pub invariant-loop-entry : goal.invariant-loop-entry
invariant-loop-entry l =
    list_any (λ e. (e.pred == l.pred) && all_hold l.program.grammar (parts_of (out-Term l.query)) e.pre) (drop l.entry-index l.entry-items) ≡ query_meets_entry l.program l.pred l.query
