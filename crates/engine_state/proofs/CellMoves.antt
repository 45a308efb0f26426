-- Moves by what was done with cells.
use Rattle.std.proofs.Common.{◌≡◌, ◌≤◌, ◌<◌, ℕ, zero, suc, ◌+◌, Bool, true, false, List, [], ◌∷◌, length, Some, refl, sym, ap, ◌∙◌, subst, arith}
use Rattle.std.specs.Prelude.{if◌then◌else◌, ◌==◌, ◌&&◌, slice_get, slice_index_or}
use Rattle.std.specs.List.{list_all}
use Rattle.std.proofs.lemmas.Bool.{and_parts}
use Rattle.std.proofs.lemmas.Bool.Decides.{nat_tests}
use Rattle.std.proofs.lemmas.Option.{none-some, same_Some}
use Rattle.term_core.specs.declared.terms.Term.{Term}
use Rattle.term_core.specs.declared.equations.Equation.{Equation}
use Rattle.term_core.specs.declared.equations.Outcome.{Outcome}
use Rattle.term_core.specs.declared.equations.Outcome.TheVariants as outcome
use Rattle.term_core.specs.Terms.{instance}
use Rattle.term_core.specs.Unify.{Unified}
use Rattle.term_core.specs.Solutions.{HasOneOutcome}
use Rattle.term_core.specs.Variants.{IsMostGeneral}
use Rattle.prog_data.specs.declared.goals.Builtin.{Builtin}
use Rattle.prog_data.specs.declared.goals.Goal.{Goal}
use Rattle.prog_data.specs.declared.goals.Goal as goal
use Rattle.prog_data.specs.declared.programs.Clause.{Clause}
use Rattle.prog_data.specs.declared.programs.Place.{Place}
use Rattle.prog_data.specs.declared.programs.Pred.{Pred}
use Rattle.prog_data.specs.declared.programs.Program.{Program}
use Rattle.prog_data.specs.declared.events.Ending.TheVariants as ending
use Rattle.prog_data.specs.Goals.{goal_instance, no_pred, pred_of, without_exit}
use Rattle.prog_data.specs.Programs.{IsProgram}
use Rattle.prog_data.specs.Ranges.{is_term_of, is_body_of, is_clause_of}
use Rattle.machine_model.specs.State.{Frame, Choice, State, Going, Over, frame_instance}
use Rattle.machine_model.specs.Tests.{Tests}
use Rattle.machine_model.specs.Step.{Equates, entered, quietly}
use Rattle.machine_model.specs.Leaner.{clause_at, IsLeaner}
use Rattle.machine_model.specs.LeanerLaws.{LeanerTellsTheSame, LeanerStatesAreFound, below, AreBelow, IsFrameBelow, before_goal, before_try, after_try, head_equations}
use Rattle.term_heap.specs.Changes.{Change, size_of, value_of, IsMade}
use Rattle.unify_core.specs.Heads as heads
use Rattle.unify_core.specs.Unifies.{HasUnified}
use Rattle.unify_core.specs.declared.unifying.Unified as code
use Rattle.unify_core.specs.declared.unifying.Unified.TheVariants.{Same, Clash, Cyclic}
use Rattle.engine_state.specs.Engines.{Exit, Task, Leaves, Pending, frame_with, call_with}
use Rattle.engine_state.specs.Within.{IsTaskWithin, AreTasksWithin}
use Rattle.engine_state.specs.Moves.{Moves}
use Rattle.engine_state.specs.StepsMade.{doing, failing, equation, effect_of}
use Rattle.engine_state.specs.MoveLaws.{entered_tasks}
use Rattle.engine_state.specs.CellMoves.{IsRanged, IsMatched, CellsMove}
use Rattle.engine_state.proofs.WithinLaws.{tasks_within, variables_within, goal_closed}
use Rattle.engine_state.proofs.Composing.{made_moves, moves_compose}
use Rattle.engine_state.proofs.MadeSteps.{failures_make}
use Rattle.engine_state.proofs.EnteredLaws.{clauses_enter}
use Rattle.engine_state.proofs.SolvedMoves.{solved_move}
use Rattle.engine_state.proofs.LeanerMoves.{leaners_move}

-- clauses in range

each_pred : (P : Pred → Type 0) → P no_pred → (preds : List Pred) → ((p : ℕ) (pred : Pred) → slice_get preds p ≡ Some pred → P pred) → (p : ℕ) → P (slice_index_or preds p no_pred)
each_pred P none [] all p = none
each_pred P none (pred ∷ preds) all zero = all zero pred refl
each_pred P none (pred ∷ preds) all (suc p) = each_pred P none preds (λ q one there. all (suc q) one there) p

found_clause : (test : Clause → Bool) (cl : List Clause) → list_all test cl ≡ true → (k : ℕ) (clause : Clause) → slice_get cl k ≡ Some clause → test clause ≡ true
found_clause test [] all k clause there = absurd (none-some clause there)
found_clause test (c ∷ cl) all zero clause there = subst (λ x. test x ≡ true) (same_Some c clause there) (and_parts (test c) _ all).0
found_clause test (c ∷ cl) all (suc k) clause there = found_clause test cl (and_parts (test c) _ all).1 k clause there

as_many : (a b : ℕ) → (a == b) ≡ true → a ≡ b
as_many a b e = grind (arith, nat_tests)

clause_ranged : (program : Program) (p : ℕ) (clause : Clause) → is_clause_of program (pred_of program p).arity clause ≡ true → IsRanged program p clause
clause_ranged program p clause e =
    let arity = (pred_of program p).arity in
    let parts = and_parts ((length clause.head == arity) && list_all (is_term_of program clause.vars) clause.head) _ e in
    let head = and_parts (length clause.head == arity) _ parts.0 in
    let rest = and_parts (is_body_of program clause.vars clause.body) _ parts.1 in
    record { arity = as_many (length clause.head) arity head.0; closed = goal_closed program clause.vars (without_exit clause.body) rest.0 }

pub ranged : (program : Program) → IsProgram program → (p k : ℕ) (clause : Clause) → clause_at program p k ≡ Some clause → IsRanged program p clause
ranged program is p k clause there =
    let pred = pred_of program p in
    let all : list_all (is_clause_of program pred.arity) pred.clauses ≡ true =
    each_pred (λ pred. list_all (is_clause_of program pred.arity) pred.clauses ≡ true) refl program.preds (λ q one found. (is.preds q one found).clauses) p in
    clause_ranged program p clause (found_clause (is_clause_of program pred.arity) pred.clauses all k clause there)

-- the tasks of a clause

exit_within : (cells : ℕ) (e : Exit) (tasks : List Task) (b : Bool) → e.first + e.count ≤ cells → AreTasksWithin cells tasks → AreTasksWithin cells (if b then Leaves e ∷ tasks else tasks)
exit_within cells e tasks true args are = (args, are)
exit_within cells e tasks false args are = are

entered_within : (what : Tests) (clause : Clause) (base cells : ℕ) (c : Pending) (tasks : List Task) → goal_instance (below clause.vars) (without_exit clause.body) ≡ without_exit clause.body → base + clause.vars ≤ cells → c.exit.first + c.exit.count ≤ cells →
    AreTasksWithin cells tasks → AreTasksWithin cells (entered_tasks what clause base c tasks)
entered_within what clause base cells c tasks closed le args are = ((clause.vars, closed, le), exit_within cells c.exit tasks (what.exits clause.body) args are)

module _ (one : (es : List Equation) → HasOneOutcome es) (tells : LeanerTellsTheSame) (found : LeanerStatesAreFound) (what : Tests) (program : Program) (bound : ℕ) (is : IsProgram program) (made : ℕ) (cs : List Choice) where
  -- a move to a frame, which is that of tasks over cells
  to_cells : (old : State) (n : ℕ) (f : Frame) (tasks : List Task) (query : ℕ) (new : List Change) → Moves what program bound (Going old) (quietly (Going (doing made n cs f))) × IsLeaner program (doing made n cs f) (doing made n cs f) →
      frame_with (value_of new) tasks query ≡ f → IsMade new → AreTasksWithin (size_of new) tasks → query < size_of new → AreBelow (size_of new) cs →
      Moves what program bound (Going old) (quietly (Going (doing made (size_of new) cs (frame_with (value_of new) tasks query))))
      × IsLeaner program (doing made (size_of new) cs (frame_with (value_of new) tasks query)) (doing made (size_of new) cs (frame_with (value_of new) tasks query))
  to_cells old n f tasks query new move same made_new within lt choices =
      let now : IsFrameBelow (size_of new) f = subst (IsFrameBelow (size_of new)) same (variables_within.frames new tasks query made_new within lt) in
      let laws = leaners_move tells found what program bound is in
      let numbered = laws.numbered (size_of new) (doing made n cs f) move.1 choices now in
      let further = laws.after (Going old) [] 0 (doing made n cs f) (doing made (size_of new) cs f) move.0 numbered.0 in
      subst (λ x. Moves what program bound (Going old) (quietly (Going (doing made (size_of new) cs x))) × IsLeaner program (doing made (size_of new) cs x) (doing made (size_of new) cs x)) (sym same) (further, numbered.1)

  module _ (k : ℕ) (clause : Clause) (c : Pending) (tasks : List Task) (query : ℕ) (old own new : List Change) (there : clause_at program c.exit.pred k ≡ Some clause) where
    abbrev tried : State
    tried = before_try made (size_of old) k (call_with (value_of old) tasks query c) cs

    equations_are : (o : code.Unified) → IsMatched old own new clause c o → heads.head_equations (value_of own) (size_of old) c.exit.first clause.head ≡ head_equations (size_of old) clause (call_with (value_of old) tasks query c)
    equations_are o m = ap (λ v. heads.head_equations v (size_of old) c.exit.first clause.head) m.values ∙ clauses_enter.head old tasks query c clause m.made m.arity

    enters : IsMatched old own new clause c Same → AreTasksWithin (size_of old) tasks → query < size_of old → AreBelow (size_of new) cs → IsLeaner program tried tried →
        Moves what program bound (Going tried) (quietly (Going (doing made (size_of new) cs (frame_with (value_of new) (entered_tasks what clause (size_of old) c tasks) query))))
        × IsLeaner program (doing made (size_of new) cs (frame_with (value_of new) (entered_tasks what clause (size_of old) c tasks) query)) (doing made (size_of new) cs (frame_with (value_of new) (entered_tasks what clause (size_of old) c tasks) query))
    enters m within lt choices is_own =
        let n = size_of old in
        let call = call_with (value_of old) tasks query c in
        let all = entered_tasks what clause n c tasks in
        let value : ℕ → Term = m.matched.0 in
        let general : IsMostGeneral (head_equations n clause call) value = subst (λ es. IsMostGeneral es value) (equations_are Same m) m.matched.1 in
        let move = (solved_move one tells found what program bound is).tried made n k call cs clause value there is_own general in
        let cells : size_of own ≡ n + clause.vars = m.cells in
        let more : size_of own ≤ size_of new = m.more in
        let args : c.exit.first + c.exit.count ≤ n = m.args in
        let closed = (ranged program is c.exit.pred k clause there).closed in
        let inside : AreTasksWithin (size_of own) all = entered_within what clause n (size_of own) c tasks closed (omega (arith, cells)) (omega (arith, cells, args)) (tasks_within.more n (size_of own) tasks (omega (arith, cells)) within) in
        let follows : (i : ℕ) → i < size_of own → value_of new i ≡ instance value (value_of old i) = λ i less. m.matched.2 i less ∙ ap (λ v. instance value (v i)) m.values in
        let same : frame_with (value_of new) all query ≡ frame_instance value (entered what program bound n clause call) =
        tasks_within.follow (size_of own) value (value_of old) (value_of new) follows all query inside (omega (arith, cells, lt)) ∙ ap (frame_instance value) (clauses_enter.frame what program bound old tasks query c clause m.made) in
        to_cells tried (n + clause.vars) (frame_instance value (entered what program bound n clause call)) all query new move same m.made_new (tasks_within.more (size_of own) (size_of new) all more inside) (omega (arith, cells, more, lt)) choices

    clashes : IsMatched old own new clause c Clash → AreBelow (size_of new) cs → IsLeaner program tried tried →
        Moves what program bound (Going tried) (quietly (Going (failing made (size_of new) cs))) × IsLeaner program (failing made (size_of new) cs) (failing made (size_of new) cs)
    clashes m choices is_own =
        let n = size_of old in
        let call = call_with (value_of old) tasks query c in
        let ends : Unified (head_equations n clause call) outcome.Clash = subst (λ es. Unified es outcome.Clash) (equations_are Clash m) m.matched in
        let makes = (failures_make what program bound made n cs).try k call clause outcome.Clash there ends in
        let failed = failing made (n + clause.vars) cs in
        let laws = leaners_move tells found what program bound is in
        let still = (moves_compose what program bound).own (found program is) tried failed _ is_own makes refl tt in
        let numbered = laws.numbered (size_of new) failed still choices tt in
        (laws.after (Going tried) [] 0 failed (failing made (size_of new) cs) (made_moves what program bound tried _ makes) numbered.0, numbered.1)

    cycles : IsMatched old own new clause c Cyclic → Moves what program bound (Going tried) (quietly (Over (ending.Cyclic clause.place)))
    cycles m =
        let n = size_of old in
        let call = call_with (value_of old) tasks query c in
        let ends : Unified (head_equations n clause call) outcome.Cyclic = subst (λ es. Unified es outcome.Cyclic) (equations_are Cyclic m) m.matched in
        made_moves what program bound tried _ ((failures_make what program bound made n cs).try k call clause outcome.Cyclic there ends)

  equates : (g : Goal) (b : Builtin) (args : List Term) (h : ℕ) (place : Place) (tasks : List Task) (query x y : ℕ) (old new : List Change) → g ≡ goal.Builtin b args → effect_of program b args ≡ Equates (value_of old x) (value_of old y) →
      HasUnified old x y Same new → IsMade new → AreTasksWithin (size_of new) tasks → query < size_of new → AreBelow (size_of new) cs →
      IsLeaner program (before_goal made (size_of old) cs g h place (frame_with (value_of old) tasks query)) (before_goal made (size_of old) cs g h place (frame_with (value_of old) tasks query)) →
      Moves what program bound (Going (before_goal made (size_of old) cs g h place (frame_with (value_of old) tasks query))) (quietly (Going (doing made (size_of new) cs (frame_with (value_of new) tasks query))))
      × IsLeaner program (doing made (size_of new) cs (frame_with (value_of new) tasks query)) (doing made (size_of new) cs (frame_with (value_of new) tasks query))
  equates g b args h place tasks query x y old new e effect unified made_new within lt choices own =
      let n = size_of old in
      let rest = frame_with (value_of old) tasks query in
      let value : ℕ → Term = unified.0 in
      let move = (solved_move one tells found what program bound is).equated made n cs g b args h place rest (value_of old x) (value_of old y) value e effect own unified.1 in
      let same : frame_with (value_of new) tasks query ≡ frame_instance value rest = tasks_within.follow (size_of new) value (value_of old) (value_of new) (λ i less. unified.2 i) tasks query within lt in
      to_cells (before_goal made n cs g h place rest) n (frame_instance value rest) tasks query new move same made_new within lt choices

  pub cells_move : CellsMove what program bound made cs
  cells_move = record {
    ranged = ranged program is;
    entered = λ k clause c tasks query old own new there m within lt choices is_own. enters k clause c tasks query old own new there m within lt choices is_own;
    clashed = λ k clause c tasks query old own new there m choices is_own. clashes k clause c tasks query old own new there m choices is_own;
    cyclic = λ k clause c tasks query old own new there m. cycles k clause c tasks query old own new there m;
    equated = equates;
  }
