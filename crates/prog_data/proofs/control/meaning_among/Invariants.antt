use Rattle.std.proofs.Common.{◌≡◌, drop}
use Rattle.prog_data.specs.Control.{meaning_among}
use Rattle.prog_data.proofs.control.meaning_among.Given as goal

-- those that are left decide
abbrev pub invariant-loop-row : goal.invariant-loop-row
invariant-loop-row l = meaning_among (drop l.row-index l.table) l.name l.arity ≡ meaning_among l.table l.name l.arity
