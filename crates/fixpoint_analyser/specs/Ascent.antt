-- How a table grows towards the least closed one.
-- The headline does not rest on this file.
use Rattle.std.specs.Prelude.{ℕ, zero, suc, ◌==◌, Bool, true, false, ◌||◌, List, [], ◌∷◌, map, filter, length, replicate, Option, None, Some, Contains}
use Rattle.std.specs.List.{list_any, AllByRecursion}
use Rattle.prog_data.specs.declared.goals.Goal.{Goal}
use Rattle.prog_data.specs.declared.goals.Goal.TheOpen.{Goal-F, Call, Conj, Disj, IfElse, Not}
use Rattle.prog_data.specs.declared.goals.Goal.TheFolds.{fold-Goal}
use Rattle.prog_data.specs.declared.programs.Clause.{Clause}
use Rattle.prog_data.specs.declared.programs.Program.{Program}
use Rattle.prog_data.specs.Goals.{pred_of}
use Rattle.prog_data.specs.Values.{TypeValue}
use Rattle.name_order.specs.Relations.{names_below, order}
use Rattle.goal_transfer.specs.Transfer.{ReachedCall}
use Rattle.goal_transfer.specs.Conditions.{join_each}
use Rattle.goal_transfer.specs.Tables.{Facts, facts_of, Closed, IsReached, HasExit, TableLeq, clause_effect}

-- none of each argument
abbrev pub nones : ℕ → List TypeValue
nones arity = replicate arity None

-- a row that is not reached
abbrev pub unreached : ℕ → Facts
unreached arity = record { reached = false; entry = nones arity; exits = false; exit = nones arity }

-- nothing is reached
abbrev pub bottom : Program → List Facts
bottom program = map (λ p. unreached p.arity) program.preds

-- a row in its place
abbrev pub with_row : List Facts → ℕ → Facts → List Facts
with_row [] p r = []
with_row (x ∷ xs) zero r = r ∷ xs
with_row (x ∷ xs) (suc p) r = x ∷ with_row xs p r

-- a row with the values of a call joined into its entry
abbrev pub called_row : List TypeValue → Facts → Facts
called_row vs r = record r { reached = true; entry = join_each r.entry vs }

-- a row with the values of an exit joined into its exit
abbrev pub exited_row : List TypeValue → Facts → Facts
exited_row vs r = record r { exits = true; exit = join_each r.exit vs }

-- a table with a call joined into its row
abbrev pub with_call : List Facts → ReachedCall → List Facts
with_call rows c = with_row rows c.0 (called_row c.1 (facts_of rows c.0))

-- a table with the exit of a predicate, if there is one, joined into its row
abbrev pub with_exit : List Facts → ℕ → Option (List TypeValue) → List Facts
with_exit rows p None = rows
with_exit rows p (Some vs) = with_row rows p (exited_row vs (facts_of rows p))

-- a table that is below every closed one
abbrev pub IsBelow : Program → List Facts → Type 0
IsBelow program rows = (others : List Facts) → Closed program others → TableLeq rows others

-- nothing is left to be done for a clause of a predicate: the table has what it gives
pub record IsDoneFor (program : Program) (rows : List Facts) (p : ℕ) (clause : Clause) : Type 0 where
  pub calls : AllByRecursion (IsReached rows) (clause_effect program (order program.grammar) rows p clause).calls
  pub exit : HasExit (facts_of rows p) (clause_effect program (order program.grammar) rows p clause).exit

-- nothing is left to be done for a predicate
abbrev pub IsDone : Program → List Facts → ℕ → Type 0
IsDone program rows p = (clause : Clause) → Contains (pred_of program p).clauses clause → IsDoneFor program rows p clause

-- whether a goal calls a predicate, by whether its parts do
abbrev pub calls_step : ℕ → Goal-F Bool → Bool
calls_step p (Call q ts) = p == q
calls_step p (Conj a b) = a || b
calls_step p (Disj a b) = a || b
calls_step p (IfElse c a b) = c || (a || b)
calls_step p (Not a) = a
calls_step p other = false

-- whether a goal calls a predicate
abbrev pub calls : ℕ → Goal → Bool
calls p = fold-Goal Bool (calls_step p)

-- the predicates that have a clause whose body calls this one, in order
abbrev pub callers_of : Program → ℕ → List ℕ
callers_of program q = filter (λ p. list_any (λ clause. calls q clause.body) (pred_of program p).clauses) (names_below (length program.preds))
