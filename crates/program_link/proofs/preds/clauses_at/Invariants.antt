use Rattle.std.proofs.Common.{◌≡◌, [], drop}
use Rattle.assertion_normal.specs.Settling.{in_order}
use Rattle.program_link.specs.Programs.{clause_made}
use Rattle.program_link.specs.HeldPrograms.{items_at}
use Rattle.program_link.proofs.preds.clauses_at.Given as goal

abbrev pub invariant-loop-place : goal.invariant-loop-place
invariant-loop-place l =
    in_order (clause_made l.setting) (l.grammar, l.made) (items_at l.clauses (drop l.place-index l.places)) ≡ in_order (clause_made l.setting) (l.fn.grammar, []) (items_at l.clauses l.places)
