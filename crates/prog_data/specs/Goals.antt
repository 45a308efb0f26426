-- Goals, clauses and calls.
use Rattle.std.specs.Prelude.{ℕ, ◌==◌, Bool, true, false, ◌&&◌, List, [], ◌∷◌, map, length, slice_get, slice_index_or, Option, find, if◌then◌else◌}
use Rattle.std.specs.List.{list_any}
use Rattle.std.specs.Option.{option_map_or}
use Rattle.term_core.specs.declared.fixed.TheConstants.{NIL}
use Rattle.term_core.specs.declared.terms.Term.{Term, out-Term}
use Rattle.term_core.specs.declared.terms.Term.TheOpen as layer
use Rattle.term_core.specs.Terms.{instance}
use Rattle.prog_data.specs.declared.goals.Goal.{Goal, out-Goal}
use Rattle.prog_data.specs.declared.goals.Goal as goal
use Rattle.prog_data.specs.declared.goals.Goal.TheOpen.{Goal-F, True, Fail, Cut, Call, Builtin, Conj, Disj, IfElse, Not, Exit}
use Rattle.prog_data.specs.declared.goals.Goal.TheFolds.{fold-Goal}
use Rattle.prog_data.specs.declared.programs.Check.{Check}
use Rattle.prog_data.specs.declared.programs.Check.TheVariants as check
use Rattle.prog_data.specs.declared.programs.Pred.{Pred}
use Rattle.prog_data.specs.declared.programs.Program.{Program}
use Rattle.prog_data.specs.Conditions.{all_hold}

-- a goal whose terms are instances, its parts being so already
abbrev pub goal_instance_step : (ℕ → Term) → Goal-F Goal → Goal
goal_instance_step value True = goal.True
goal_instance_step value Fail = goal.Fail
goal_instance_step value Cut = goal.Cut
goal_instance_step value (Call p ts) = goal.Call p (map (instance value) ts)
goal_instance_step value (Builtin b ts) = goal.Builtin b (map (instance value) ts)
goal_instance_step value (Conj a b) = goal.Conj a b
goal_instance_step value (Disj a b) = goal.Disj a b
goal_instance_step value (IfElse c a b) = goal.IfElse c a b
goal_instance_step value (Not a) = goal.Not a
goal_instance_step value Exit = goal.Exit

-- a goal, each variable replaced by its value
abbrev pub goal_instance : (ℕ → Term) → Goal → Goal
goal_instance value = fold-Goal Goal (goal_instance_step value)

-- whether a goal is Exit
abbrev pub is_exit : Goal-F Goal → Bool
is_exit Exit = true
is_exit other = false

-- whether a body is Exit or ends in it, by its outermost construct
abbrev pub ends_in_exit_at : Goal-F Goal → Bool
ends_in_exit_at Exit = true
ends_in_exit_at (Conj a b) = is_exit (out-Goal b)
ends_in_exit_at other = false

-- whether a body is Exit or ends in it
abbrev pub ends_in_exit : Goal → Bool
ends_in_exit body = ends_in_exit_at (out-Goal body)

-- a body without the Exit that it is or ends in, by its outermost construct
abbrev pub without_exit_at : Goal → Goal-F Goal → Goal
without_exit_at body Exit = goal.True
without_exit_at body (Conj a b) = if is_exit (out-Goal b) then a else body
without_exit_at body other = body

-- a body without the Exit that it is or ends in
abbrev pub without_exit : Goal → Goal
without_exit body = without_exit_at body (out-Goal body)

-- a predicate with no clauses and no conditions; its names do not matter, and are `[]`
abbrev pub no_pred : Pred
no_pred = record { «module» = NIL; name = NIL; arity = 0; clauses = []; conds = []; call_checks = [] }

-- the predicate with a number, or one with no clauses where it is not there
abbrev pub pred_of : Program → ℕ → Pred
pred_of program p = slice_index_or program.preds p no_pred

-- whether a term is a call of the predicate: it has its name and as many arguments
abbrev pub calls_pred : Pred → layer.Term-F Term → Bool
calls_pred pred (layer.Atom a) = (a == pred.name) && (pred.arity == 0)
calls_pred pred (layer.Node f ts) = (f == pred.name) && (pred.arity == length ts)
calls_pred pred other = false

-- whether a query calls the predicate with this number, if it is there
abbrev pub is_called : Program → Term → ℕ → Bool
is_called program query p = option_map_or (λ pred. calls_pred pred (out-Term query)) (slice_get program.preds p) false

-- the exported predicate that a query calls, if there is one
abbrev pub called_by : Program → Term → Option ℕ
called_by program query = find (is_called program query) program.exports

-- whether a call of the predicate with these arguments meets one of its entries
abbrev pub meets_entry : Program → ℕ → List Term → Bool
meets_entry program p args = list_any (λ e. (e.pred == p) && all_hold program.grammar args e.pre) program.entries

-- call checks

-- the condition of a check Calls
abbrev pub checked_at_call : Check → List ℕ
checked_at_call (check.Calls c) = c ∷ []
checked_at_call other = []

-- the condition of a check Note
abbrev pub checked_by_note : Check → List ℕ
checked_by_note (check.Note c) = c ∷ []
checked_by_note other = []
