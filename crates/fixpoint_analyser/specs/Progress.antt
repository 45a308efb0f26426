-- What each step of the analysis keeps of what the code holds. What is promised of the analysis does not name it.
-- The headline does not rest on this file.
use Rattle.std.specs.Prelude.{◌≡◌, ◌⊎◌, ℕ, suc, ◌+◌, ◌*◌, ◌<◌, ◌≤◌, Bool, true, ◌||◌, List, [], map, length, slice_get, slice_index_or, Option, Some, Contains, IsTrue}
use Rattle.std.specs.List.{AllByRecursion}
use Rattle.prog_data.specs.declared.programs.Clause.{Clause}
use Rattle.prog_data.specs.declared.programs.Entry.{Entry}
use Rattle.prog_data.specs.declared.programs.Program.{Program}
use Rattle.prog_data.specs.declared.tables.Row.{Row}
use Rattle.prog_data.specs.declared.tables.Value.{Value}
use Rattle.prog_data.specs.Goals.{pred_of}
use Rattle.name_order.specs.Relations.{order}
use Rattle.goal_transfer.specs.Conditions.{all_set}
use Rattle.goal_transfer.specs.Range.{CallGiven}
use Rattle.goal_transfer.specs.Laws.{ExitGiven}
use Rattle.goal_transfer.specs.States.{exits_seen}
use Rattle.goal_transfer.specs.Tables.{Facts, row_seen, facts_of, exits_of, ClauseEffect, clause_effect, IsTable, IsReached, entry_call, TableLeq}
use Rattle.fixpoint_analyser.specs.Ascent.{IsBelow, IsDoneFor, IsDone, callers_of}
use Rattle.fixpoint_analyser.specs.Heights.{table_height}
use Rattle.fixpoint_analyser.specs.Laws.{AllReach, AllExit}
use Rattle.fixpoint_analyser.specs.Waits.{waits, number_waiting}

-- the stored lists are those of the callers of each predicate
pub record AreCallers (program : Program) (lists : List (List ℕ)) : Type 0 where
  pub count : length lists ≡ length program.preds
  pub each : (q : ℕ) → q < length program.preds → slice_index_or lists q [] ≡ callers_of program q

-- what is so at each moment: the rows are a table below every closed one, and its narrowed exits are stored
pub record IsUnderWay (program : Program) (rows : List Row) (stored : List (Option (List Value))) (flags : List Bool) : Type 0 where
  pub table : IsTable program (map row_seen rows)
  pub below : IsBelow program (map row_seen rows)
  pub exits : exits_seen stored ≡ exits_of program (order program.grammar) (map row_seen rows)
  pub stored_count : length stored ≡ length program.preds
  pub flag_count : length flags ≡ length program.preds

-- a predicate is reached by one table just if it is by another, and its clauses give the same
pub record GivesTheSame (program : Program) (old new : List Facts) (p : ℕ) : Type 0 where
  pub reached : (facts_of new p).reached ≡ (facts_of old p).reached
  pub effects : (clause : Clause) → Contains (pred_of program p).clauses clause → clause_effect program (order program.grammar) new p clause ≡ clause_effect program (order program.grammar) old p clause

-- how often a predicate can still be looked at: each fall of the table may make all of them wait
abbrev pub work_left : Program → List Facts → List Bool → ℕ
work_left program rows flags = table_height (order program.grammar) rows * suc (length program.preds) + number_waiting flags

-- a table has grown, and each predicate whose clauses may give something else waits, with those that waited before
pub record Ascends (program : Program) (old : List Facts) (before : List Bool) (new : List Facts) (after : List Bool) : Type 0 where
  pub table : TableLeq old new
  pub waiting : (p : ℕ) → waits before p ≡ true → waits after p ≡ true
  pub others : (p : ℕ) → (waits after p ≡ true) ⊎ GivesTheSame program old new p
  pub work : work_left program new after ≤ work_left program old before

-- what is so at each moment is so after a step, in which the table has grown
pub record Steps (program : Program) (old : List Row) (before : List Bool) (new : List Row) (stored : List (Option (List Value))) (after : List Bool) : Type 0 where
  pub under_way : IsUnderWay program new stored after
  pub ascends : Ascends program (map row_seen old) before (map row_seen new) after

-- besides the predicates that waited those wait that pass
pub record Wakes (before after : List Bool) (woken : ℕ → Bool) : Type 0 where
  pub count : length after ≡ length before
  pub each : (p : ℕ) → p < length before → waits after p ≡ (waits before p || woken p)

-- what a clause of a predicate gives is given, and every closed table has it
pub record IsFit (program : Program) (p : ℕ) (effect : ClauseEffect) : Type 0 where
  pub calls : AllByRecursion (CallGiven program (order program.grammar)) effect.calls
  pub reach : AllByRecursion (AllReach program) effect.calls
  pub exit : ExitGiven program (order program.grammar) p effect.exit
  pub all : AllExit program p effect.exit

-- a predicate waits, or nothing is left to be done for its first clauses
abbrev pub FirstSettled : Program → List Facts → List Bool → ℕ → ℕ → Type 0
FirstSettled program rows flags p k =
    (waits flags p ≡ true) ⊎ ((i : ℕ) (clause : Clause) → i < k → slice_get (pred_of program p).clauses i ≡ Some clause → IsDoneFor program rows p clause)

-- a predicate that is reached waits, or nothing is left to be done for it
abbrev pub IsSettled : Program → List Facts → List Bool → ℕ → Type 0
IsSettled program rows flags p = IsTrue (facts_of rows p).reached → (waits flags p ≡ true) ⊎ IsDone program rows p

-- the call of an entry is reached, if a query can meet it
abbrev pub IsEntered : Program → List Facts → Entry → Type 0
IsEntered program rows e = all_set (entry_call program e).1 ≡ true → IsReached rows (entry_call program e)
