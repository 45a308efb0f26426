-- A closed table of each program: that in which each predicate is called, and exits, with any terms.
-- The headline does not rest on this file.
use Rattle.std.specs.Prelude.{true, List, map, replicate}
use Rattle.prog_data.specs.declared.programs.Pred.{Pred}
use Rattle.prog_data.specs.declared.programs.Program.{Program}
use Rattle.prog_data.specs.Programs.{IsProgram}
use Rattle.name_order.specs.Relations.{Order, order}
use Rattle.type_domain.specs.Values.{term_name, of_name}
use Rattle.goal_transfer.specs.Tables.{Facts, Closed}

-- the row of a predicate that is called, and exits, with any terms
abbrev pub any_row : Order → Pred → Facts
any_row o pred = record { reached = true; entry = replicate pred.arity (of_name o term_name); exits = true; exit = replicate pred.arity (of_name o term_name) }

-- such a row for each predicate
abbrev pub any_rows : Program → List Facts
any_rows program = map (any_row (order program.grammar)) program.preds

-- they are a closed table of a program in range
abbrev pub AnyRowsAreClosed : Program → Type 0
AnyRowsAreClosed program = IsProgram program → Closed program (any_rows program)
