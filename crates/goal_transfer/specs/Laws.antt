-- What is claimed of transfer, of closed tables and of statuses.
-- The headline does not rest on this file.
use Rattle.std.specs.Prelude.{◌≡◌, ℕ, ◌<◌, true, List, map, length, Option, None, Some, Contains}
use Rattle.term_core.specs.declared.terms.Term.{Term}
use Rattle.std.specs.List.{AllByRecursion}
use Rattle.prog_data.specs.declared.programs.Clause.{Clause}
use Rattle.prog_data.specs.declared.programs.Entry.{Entry}
use Rattle.prog_data.specs.declared.programs.Program.{Program}
use Rattle.prog_data.specs.declared.goals.Goal.{Goal}
use Rattle.prog_data.specs.Goals.{pred_of, without_exit}
use Rattle.prog_data.specs.Ranges.{is_goal_of}
use Rattle.name_order.specs.Relations.{Order, order}
use Rattle.type_domain.specs.Laws.{LeqEach}
use Rattle.prog_data.specs.Values.{TypeValue}
use Rattle.goal_transfer.specs.Conditions.{all_set}
use Rattle.goal_transfer.specs.Transfer.{Exits, Values, term_value, run_goal}
use Rattle.goal_transfer.specs.Range.{IsGiven, AllGiven, CallGiven, ExitsGiven, OutcomeGiven}
use Rattle.goal_transfer.specs.Tables.{Facts, IsTable, TableLeq, entry_call, clause_effect}
use Rattle.goal_transfer.specs.Lower.{AllLeq, ArgumentsLeq, OutcomeLeq, EffectLeq}

-- lower values of variables give terms lower values
abbrev pub ValuesMonotone : Order → Type 0
ValuesMonotone o = (vs ws : Values) → AllLeq vs ws → (ts : List Term) → LeqEach (map (term_value o vs) ts) (map (term_value o ws) ts)

-- lower exits and lower values give a lower outcome
abbrev pub GoalsMonotone : Order → Type 0
GoalsMonotone o = (exits exits' : Exits) → ((p : ℕ) → ArgumentsLeq (exits p) (exits' p)) → (g : Goal) (vs ws : Values) → AllLeq vs ws →
    OutcomeLeq (run_goal o exits g vs) (run_goal o exits' g ws)

-- a lower table gives a clause of a predicate that it reaches a lower effect
abbrev pub ClausesMonotone : Program → Type 0
ClausesMonotone program = (a b : List Facts) → IsTable program a → IsTable program b → TableLeq a b → (p : ℕ) (clause : Clause) → p < length program.preds →
    EffectLeq (clause_effect program (order program.grammar) a p clause) (clause_effect program (order program.grammar) b p clause)

-- the exit that a body is or ends in changes nothing
abbrev pub ExitsChangeNothing : Order → Type 0
ExitsChangeNothing o = (exits : Exits) (body : Goal) (vs : Values) → run_goal o exits (without_exit body) vs ≡ run_goal o exits body vs

-- from values that the analysis keeps, and exits that have such values, come such values
abbrev pub GoalsGive : Program → Type 0
GoalsGive program = (exits : Exits) → ((p : ℕ) → ExitsGiven (order program.grammar) (exits p)) → (g : Goal) (vars : ℕ) → is_goal_of program vars g ≡ true → (vs : Values) → AllGiven (order program.grammar) vs →
    OutcomeGiven program (order program.grammar) (run_goal (order program.grammar) exits g vs)

-- an exit of a predicate, if there is one, has such a value for each argument
abbrev pub ExitGiven : Program → Order → ℕ → Option (List TypeValue) → Type 0
ExitGiven program o p None = Unit {0}
ExitGiven program o p (Some vs) = (length vs ≡ (pred_of program p).arity) × AllByRecursion (IsGiven o) vs

-- by a table each entry, and each clause, gives such values
pub record ClausesGive (program : Program) : Type 0 where
  pub entries : (e : Entry) → Contains program.entries e → all_set (entry_call program e).1 ≡ true → CallGiven program (order program.grammar) (entry_call program e)
  pub calls : (rows : List Facts) → IsTable program rows → (p : ℕ) (clause : Clause) → p < length program.preds → Contains (pred_of program p).clauses clause → AllByRecursion (CallGiven program (order program.grammar)) (clause_effect program (order program.grammar) rows p clause).calls
  pub exits : (rows : List Facts) → IsTable program rows → (p : ℕ) (clause : Clause) → p < length program.preds → Contains (pred_of program p).clauses clause → ExitGiven program (order program.grammar) p (clause_effect program (order program.grammar) rows p clause).exit
