-- The status of a condition by a table.
-- The headline does not rest on this file.
use Rattle.std.specs.Prelude.{ℕ, Bool, true, false, ◌&&◌, ◌||◌, not, List, map}
use Rattle.std.specs.List.{list_any, list_all}
use Rattle.prog_data.specs.declared.conditions.Cond.{Cond}
use Rattle.prog_data.specs.declared.conditions.CondKind.{CondKind}
use Rattle.prog_data.specs.declared.conditions.CondKind.TheVariants.{Calls, Success, Comp}
use Rattle.prog_data.specs.declared.conditions.CompProp.{CompProp}
use Rattle.prog_data.specs.declared.conditions.CompProp.TheVariants.{NotFails, Fails, IsDet}
use Rattle.prog_data.specs.declared.programs.Program.{Program}
use Rattle.prog_data.specs.declared.tables.Status.{Status}
use Rattle.prog_data.specs.declared.tables.Status.TheVariants.{Checked, Check, False}
use Rattle.prog_data.specs.Goals.{pred_of}
use Rattle.name_order.specs.Relations.{Order, order}
use Rattle.goal_transfer.specs.Conditions.{all_set, meet_each, types_of, all_implied, some_excluded}
use Rattle.goal_transfer.specs.Tables.{Facts, facts_of}

-- the status of which two tests say whether it is checked and whether it is false; checked where both do
abbrev pub status_by : (is_checked is_false : Bool) → Status
status_by true other = Checked
status_by false true = False
status_by false false = Check

-- a condition on the computation is checked where what could break it does not come
abbrev pub comp_checked : Facts → CompProp → Bool
comp_checked row Fails = not row.reached || not row.exits
comp_checked row IsDet = not row.reached || not row.exits
comp_checked row NotFails = not row.reached

-- whether a condition is checked, by the row of its predicate of this arity
abbrev pub kind_checked : Order → ℕ → Facts → CondKind → Bool
kind_checked o arity row (Calls ds) = not row.reached || list_any (all_implied o row.entry) ds
kind_checked o arity row (Success pre post) =
    let met = meet_each o row.exit (types_of o arity pre) in
    (not row.reached || not row.exits) || (not (all_set met) || all_implied o met post)
kind_checked o arity row (Comp pre property) = comp_checked row property

-- whether it is false
abbrev pub kind_false : Order → Facts → CondKind → Bool
kind_false o row (Calls ds) = row.reached && list_all (some_excluded o row.entry) ds
kind_false o row (Success pre post) = (row.reached && all_implied o row.entry pre) && (row.exits && some_excluded o row.exit post)
kind_false o row (Comp pre property) = false

-- the status of a condition
abbrev pub status_of : Program → List Facts → Cond → Status
status_of program rows cond =
    status_by (kind_checked (order program.grammar) (pred_of program cond.pred).arity (facts_of rows cond.pred) cond.kind) (kind_false (order program.grammar) (facts_of rows cond.pred) cond.kind)

-- the status of each condition, in order
abbrev pub statuses_of : Program → List Facts → List Status
statuses_of program rows = map (status_of program rows) program.conds
