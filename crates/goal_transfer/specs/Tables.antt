-- Tables that are closed for a program.
-- The headline does not rest on this file.
use Rattle.std.specs.Prelude.{◌≡◌, ℕ, ◌<◌, Bool, true, false, List, [], map, length, slice_index_or, Option, None, Some, Contains, IsTrue}
use Rattle.std.specs.List.{AllByRecursion}
use Rattle.term_core.specs.declared.terms.Term.{Term}
use Rattle.prog_data.specs.declared.programs.Clause.{Clause}
use Rattle.prog_data.specs.declared.programs.Entry.{Entry}
use Rattle.prog_data.specs.declared.programs.Program.{Program}
use Rattle.prog_data.specs.declared.tables.Row.{Row}
use Rattle.prog_data.specs.declared.tables.Table.{Table}
use Rattle.prog_data.specs.Goals.{pred_of}
use Rattle.prog_data.specs.Values.{TypeValue, seen}
use Rattle.name_order.specs.Relations.{Order, order}
use Rattle.type_domain.specs.Values.{term_name, is_set, IsValue, of_name}
use Rattle.type_domain.specs.Laws.{LeqEach}
use Rattle.goal_transfer.specs.Transfer.{Values, Known, ReachedCall, Outcome, Exits, from_known, push_each, run_goal, term_value}
use Rattle.goal_transfer.specs.Conditions.{all_set, types_of, narrowed_entry, narrowed_exit}

-- what is known of a predicate's calls and exits
pub record Facts : Type 0 where
  pub reached : Bool
  pub entry : List TypeValue
  pub exits : Bool
  pub exit : List TypeValue

-- the facts of a stored row
abbrev pub row_seen : Row → Facts
row_seen r = record { reached = r.reached; entry = map seen r.entry; exits = r.exits; exit = map seen r.exit }

-- the facts of a stored table
abbrev pub table_seen : Table → List Facts
table_seen t = map row_seen t.rows

-- in the place of a row that is not there
abbrev pub no_facts : Facts
no_facts = record { reached = false; entry = []; exits = false; exit = [] }

-- the facts of a predicate
abbrev pub facts_of : List Facts → ℕ → Facts
facts_of rows p = slice_index_or rows p no_facts

-- the values of a row of a predicate of this arity: all none, or none of them is
abbrev pub AreValues : Order → ℕ → Bool → List TypeValue → Type 0
AreValues o arity is_there vs = (length vs ≡ arity) × AllByRecursion (λ v. IsValue o v × (is_set v ≡ is_there)) vs

-- a row of a table: what is not reached does not exit
pub record IsRow (o : Order) (arity : ℕ) (r : Facts) : Type 0 where
  pub entry : AreValues o arity r.reached r.entry
  pub exit : AreValues o arity r.exits r.exit
  pub after : IsTrue r.exits → IsTrue r.reached

-- a row for each predicate
pub record IsTable (program : Program) (rows : List Facts) : Type 0 where
  pub count : length rows ≡ length program.preds
  pub each : (p : ℕ) → p < length program.preds → IsRow (order program.grammar) (pred_of program p).arity (facts_of rows p)

-- clauses

-- the values of an exit, none where a test fails
abbrev pub exit_where : Bool → List TypeValue → Option (List TypeValue)
exit_where true vs = Some vs
exit_where false vs = None

-- the narrowed exit of each predicate, none where it does not exit
abbrev pub exits_of : Program → Order → List Facts → Exits
exits_of program o rows p = exit_where (facts_of rows p).exits (narrowed_exit program o p (facts_of rows p).entry (facts_of rows p).exit)

-- each variable has the value of all terms
abbrev pub unknown : Order → Values
unknown o v = of_name o term_name

-- what is known behind a head: the narrowed entry is pushed into its arguments; none where no clause is run
abbrev pub behind_head : Order → Option (List TypeValue) → Clause → Known
behind_head o None clause = None
behind_head o (Some ws) clause = push_each o clause.head ws (unknown o)

-- what comes of a clause
abbrev pub clause_outcome : Program → Order → List Facts → ℕ → Clause → Outcome
clause_outcome program o rows p clause =
    from_known (behind_head o (narrowed_entry program o p (facts_of rows p).entry) clause) (run_goal o (exits_of program o rows) clause.body)

-- the values of terms, none where the state is
abbrev pub values_known : Order → Known → List Term → Option (List TypeValue)
values_known o None ts = None
values_known o (Some vs) ts = Some (map (term_value o vs) ts)

-- a clause's exit, if its state is not none, and the calls that it reaches
pub record ClauseEffect : Type 0 where
  pub exit : Option (List TypeValue)
  pub calls : List ReachedCall

-- the effect of a clause by what comes of it
abbrev pub effect_of : Order → Clause → Outcome → ClauseEffect
effect_of o clause out = record { exit = values_known o out.known clause.head; calls = out.calls }

-- the effect of a clause of a predicate, by the rows of a table
abbrev pub clause_effect : Program → Order → List Facts → ℕ → Clause → ClauseEffect
clause_effect program o rows p clause = effect_of o clause (clause_outcome program o rows p clause)

-- closed

-- the row of a call is reached and has values that say no more
abbrev pub IsReached : List Facts → ReachedCall → Type 0
IsReached rows call = IsTrue (facts_of rows call.0).reached × LeqEach call.1 (facts_of rows call.0).entry

-- an exit, if there is one, is one of the row
abbrev pub HasExit : Facts → Option (List TypeValue) → Type 0
HasExit row None = Unit {0}
HasExit row (Some vs) = IsTrue row.exits × LeqEach vs row.exit

-- the call of an entry, with Pre's types
abbrev pub entry_call : Program → Entry → ReachedCall
entry_call program e = (e.pred, types_of (order program.grammar) (pred_of program e.pred).arity e.pre)

-- a table whose rows have all entries, and what each clause of a predicate that is reached gives by it
pub record Closed (program : Program) (rows : List Facts) : Type 0 where
  pub table : IsTable program rows
  pub entries : (e : Entry) → Contains program.entries e → all_set (entry_call program e).1 ≡ true → IsReached rows (entry_call program e)
  pub calls : (p : ℕ) (clause : Clause) → IsTrue (facts_of rows p).reached → Contains (pred_of program p).clauses clause →
      AllByRecursion (IsReached rows) (clause_effect program (order program.grammar) rows p clause).calls
  pub exits : (p : ℕ) (clause : Clause) → IsTrue (facts_of rows p).reached → Contains (pred_of program p).clauses clause →
      HasExit (facts_of rows p) (clause_effect program (order program.grammar) rows p clause).exit

-- a row says at least as much as another
pub record RowLeq (a b : Facts) : Type 0 where
  pub reached : IsTrue a.reached → IsTrue b.reached
  pub entry : LeqEach a.entry b.entry
  pub exits : IsTrue a.exits → IsTrue b.exits
  pub exit : LeqEach a.exit b.exit

-- a table says at least as much as another, row by row
abbrev pub TableLeq : List Facts → List Facts → Type 0
TableLeq a b = (p : ℕ) → RowLeq (facts_of a p) (facts_of b p)

-- closed, and below every closed table
pub record Least (program : Program) (rows : List Facts) : Type 0 where
  pub closed : Closed program rows
  pub below : (others : List Facts) → Closed program others → TableLeq rows others
