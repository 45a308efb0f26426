use Rattle.std.proofs.Common.{◌≡◌, drop}
use Rattle.std.specs.Prelude.{find}
use Rattle.prog_data.specs.Goals.{is_called}
use Rattle.prog_data.proofs.queries.called_by.Given as goal

-- those that are left decide
abbrev pub invariant-loop-number : goal.invariant-loop-number
invariant-loop-number l = find (is_called l.program l.query) (drop l.number-index l.number-items) ≡ find (is_called l.program l.query) l.number-items
