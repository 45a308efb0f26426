-- The program without its conditions.
-- The headline does not rest on this file.
use Rattle.std.specs.Prelude.{[], map}
use Rattle.prog_data.specs.declared.programs.Clause.{Clause}
use Rattle.prog_data.specs.declared.programs.Pred.{Pred}
use Rattle.prog_data.specs.declared.programs.Program.{Program}
use Rattle.prog_data.specs.Goals.{without_exit}

-- its body loses the Exit that it is or ends in
abbrev pub erase_clause : Clause → Clause
erase_clause c = record c { body = without_exit c.body }

-- a predicate without conditions and call checks
abbrev pub erase_pred : Pred → Pred
erase_pred p = record p { clauses = map erase_clause p.clauses; conds = []; call_checks = [] }

-- a program without conditions, claims, call checks and Exit; its entries stay
abbrev pub erase : Program → Program
erase program = record program { preds = map erase_pred program.preds; conds = []; claims = [] }
