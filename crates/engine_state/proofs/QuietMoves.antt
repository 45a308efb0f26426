-- Moves that are exact steps.
use Rattle.std.proofs.Common.{◌≡◌, ◌<◌, ℕ, zero, suc, List, [], ◌∷◌, length, Some, sym, ap, subst, ◌∙◌, arith}
use Rattle.std.proofs.lemmas.Bool.{and_parts}
use Rattle.std.specs.Prelude.{Bool}
use Rattle.prog_data.specs.declared.goals.Goal.{Goal, out-Goal}
use Rattle.prog_data.specs.declared.goals.Goal as goal
use Rattle.prog_data.specs.declared.goals.Goal.TheVariants.{outs-True, outs-Fail, outs-Cut, outs-Conj, outs-Disj, outs-IfElse, outs-Not}
use Rattle.prog_data.specs.declared.goals.Goal.TheOpen.{Goal-F}
use Rattle.prog_data.specs.declared.events.Ending.{Ending}
use Rattle.prog_data.specs.declared.programs.Program.{Program}
use Rattle.prog_data.specs.Goals.{goal_instance}
use Rattle.prog_data.specs.Programs.{IsProgram}
use Rattle.prog_data.specs.Ranges.{is_goal_of, goal_step as range_step}
use Rattle.prog_data.proofs.GoalFolds.{fold-Conj, fold-Disj, fold-IfElse, fold-Not}
use Rattle.machine_model.specs.State.{Does, CutTo, Resume, Doing, Failed, State, Phase, Going, Over, cut}
use Rattle.machine_model.specs.Tests.{Tests, every_condition}
use Rattle.machine_model.specs.Step.{step, goal_step, frame_of, quietly}
use Rattle.machine_model.specs.Continues.{at_phase, left_after, Leads}
use Rattle.machine_model.specs.Leaner.{IsLeaner}
use Rattle.machine_model.specs.LeanerLaws.{IsDone, LeanerStatesAreFound}
use Rattle.machine_model.proofs.Continuing.{step_leads}
use Rattle.term_heap.specs.Changes.{value_of}
use Rattle.term_heap.specs.Loads.{from_base}
use Rattle.engine_state.specs.declared.engine.Engine as code
use Rattle.engine_state.specs.declared.stages.Setting.{Setting}
use Rattle.engine_state.specs.declared.stages.Stage as code_stage
use Rattle.engine_state.specs.Engines.{Task, Runs, Cuts, as_state}
use Rattle.engine_state.specs.Fewest.{IsOverAfter}
use Rattle.engine_state.specs.Moments.{IsGoalPlaced}
use Rattle.engine_state.specs.Stages.{as_engine, choices_at, tasks_at, frame_now, doing, goal_state, phase_of, IsWhole}
use Rattle.engine_state.specs.Moves.{Moves}
use Rattle.engine_state.specs.Turns.{IsQuietMove, HasMoved}
use Rattle.engine_state.proofs.GoalInstances.{at_true, at_fail, at_cut, at_conj, at_disj, at_if, at_not}

going_over : (s : State) (e : Ending) → Going s ≡ Over e → ⊥
going_over s e x = cc

-- one step

module _ (what : Tests) (program : Program) (bound : ℕ) where
  -- fewer steps end the run after one
  one_fewer : (s : State) (k : ℕ) → IsOverAfter what program bound k (Going s) → (j : ℕ) × (j < k) × IsOverAfter what program bound j (step what program bound s).phase
  one_fewer s zero is = absurd (going_over s is.0 is.1)
  one_fewer s (suc j) is = (j, omega arith, is)

  -- a step without event and test is a move
  pub quiet_move : (s : State) (p : Phase) → step what program bound s ≡ quietly p → Moves what program bound (Going s) (quietly p)
  quiet_move s p e = record {
    leads = subst (λ t. Leads what program bound (at_phase (Going s)) [] t.tests (left_after t)) e (step_leads what program bound s);
    fewer = λ k over.
        let less = one_fewer s k over in
        let next : (step what program bound s).phase ≡ p = ap (λ t. t.phase) e in
        (less.0, less.1, subst (IsOverAfter what program bound less.0) next less.2);
  }

  -- what is its own leaner state leads to such a state
  pub own_after : (s s' : State) → LeanerStatesAreFound → IsProgram program → step what program bound s ≡ quietly (Going s') → IsDone s'.current → IsLeaner program s s → IsLeaner program s' s'
  own_after s s' found ok e done own = (found program ok).reached what bound s s' own (record { count = 1; phase = ap (λ t. t.phase) e }) done

-- the engine moved by one step to a state
pub moved_to : (old new : code.Engine) (from s : State) (to : code_stage.Stage) → new.program.now ≡ old.program.now → LeanerStatesAreFound → IsProgram old.program.now → ((what : Tests) (bound : ℕ) → step what old.program.now bound from ≡ quietly (Going s)) → IsDone s.current →
    IsLeaner old.program.now from from → phase_of new to ≡ Some (Going s) → (IsLeaner new.program.now s s → IsWhole new to) → HasMoved old from new to
moved_to old new from s to same found ok steps done own phase whole = record {
  program = same;
  moves = λ what bound. subst (IsQuietMove what old.program.now bound from) (sym phase) (quiet_move what old.program.now bound from (Going s) (steps what bound));
  whole = whole (subst (λ p. IsLeaner p s s) (sym same) (own_after (every_condition old.program.now) old.program.now 0 from s found ok (steps (every_condition old.program.now) 0) done own));
}

-- parts of goals that are placed

module _ (program : Program) (cells base : ℕ) where
  pub placed_conj : (a b : Goal) → IsGoalPlaced program cells (goal.Conj a b) base → IsGoalPlaced program cells a base × IsGoalPlaced program cells b base
  placed_conj a b is = let both = and_parts (is_goal_of program is.0 a) (is_goal_of program is.0 b) (sym (fold-Conj Bool (range_step program is.0) a b) ∙ is.1) in ((is.0, both.0, is.2), (is.0, both.1, is.2))

  pub placed_disj : (a b : Goal) → IsGoalPlaced program cells (goal.Disj a b) base → IsGoalPlaced program cells a base × IsGoalPlaced program cells b base
  placed_disj a b is = let both = and_parts (is_goal_of program is.0 a) (is_goal_of program is.0 b) (sym (fold-Disj Bool (range_step program is.0) a b) ∙ is.1) in ((is.0, both.0, is.2), (is.0, both.1, is.2))

  pub placed_if : (c a b : Goal) → IsGoalPlaced program cells (goal.IfElse c a b) base → IsGoalPlaced program cells c base × IsGoalPlaced program cells a base × IsGoalPlaced program cells b base
  placed_if c a b is =
      let first = and_parts (is_goal_of program is.0 c) _ (sym (fold-IfElse Bool (range_step program is.0) c a b) ∙ is.1) in
      let both = and_parts (is_goal_of program is.0 a) (is_goal_of program is.0 b) first.1 in
      ((is.0, first.0, is.2), (is.0, both.0, is.2), (is.0, both.1, is.2))

  pub placed_not : (a : Goal) → IsGoalPlaced program cells (goal.Not a) base → IsGoalPlaced program cells a base
  placed_not a is = (is.0, sym (fold-Not Bool (range_step program is.0) a) ∙ is.1, is.2)

-- the steps of goals

module _ (what : Tests) (program : Program) (bound : ℕ) (e : code.Engine) (s : Setting) where
  abbrev rest : List Task
  rest = tasks_at e s.rest

  abbrev goal_task : Goal → Task
  goal_task g = Runs g s.base s.height s.place

  at_layer : (g : Goal) (x : Goal-F Goal) → out-Goal (goal_instance (from_base (value_of e.heap.changes) s.base) g) ≡ x → step what program bound (goal_state e g s) ≡ goal_step what program bound (goal_state e g s) x s.height s.place (frame_now e rest)
  at_layer g x is = ap (λ y. goal_step what program bound (goal_state e g s) y s.height s.place (frame_now e rest)) is

  pub true_step : step what program bound (goal_state e goal.True s) ≡ quietly (Going (doing e rest))
  true_step = at_layer goal.True _ (ap out-Goal (at_true _) ∙ outs-True)

  pub fail_step : step what program bound (goal_state e goal.Fail s) ≡ quietly (Going (as_state (as_engine e) Failed))
  fail_step = at_layer goal.Fail _ (ap out-Goal (at_fail _) ∙ outs-Fail)

  pub cut_step : step what program bound (goal_state e goal.Cut s) ≡ quietly (Going (record (doing e rest) { choices = cut s.height (choices_at e) }))
  cut_step = at_layer goal.Cut _ (ap out-Goal (at_cut _) ∙ outs-Cut)

  pub conj_step : (a b : Goal) → step what program bound (goal_state e (goal.Conj a b) s) ≡ quietly (Going (doing e (goal_task a ∷ goal_task b ∷ rest)))
  conj_step a b = at_layer (goal.Conj a b) _ (ap out-Goal (at_conj _ a b) ∙ outs-Conj _ _)

  pub disj_step : (a b : Goal) → step what program bound (goal_state e (goal.Disj a b) s) ≡ quietly (Going (record (doing e (goal_task a ∷ rest)) { choices = Resume (frame_now e (goal_task b ∷ rest)) ∷ choices_at e }))
  disj_step a b = at_layer (goal.Disj a b) _ (ap out-Goal (at_disj _ a b) ∙ outs-Disj _ _)

  pub if_step : (c a b : Goal) → step what program bound (goal_state e (goal.IfElse c a b) s)
      ≡ quietly (Going (record (doing e (Runs c s.base (suc (length (choices_at e))) s.place ∷ Cuts (length (choices_at e)) ∷ goal_task a ∷ rest)) { choices = Resume (frame_now e (goal_task b ∷ rest)) ∷ choices_at e }))
  if_step c a b = at_layer (goal.IfElse c a b) _ (ap out-Goal (at_if _ c a b) ∙ outs-IfElse _ _ _)

  pub not_step : (a : Goal) → step what program bound (goal_state e (goal.Not a) s)
      ≡ quietly (Going (record (doing e (Runs a s.base (suc (length (choices_at e))) s.place ∷ Cuts (length (choices_at e)) ∷ Runs goal.Fail 0 s.height s.place ∷ rest)) { choices = Resume (frame_now e rest) ∷ choices_at e }))
  not_step a = at_layer (goal.Not a) _ (ap out-Goal (at_not _ a) ∙ outs-Not _)
      ∙ ap (λ g. quietly (Going (record (doing e rest) {
        choices = Resume (frame_now e rest) ∷ choices_at e;
        current = Doing (frame_of (Does (goal_instance (from_base (value_of e.heap.changes) s.base) a) (suc (length (choices_at e))) s.place ∷ CutTo (length (choices_at e)) ∷ Does g s.height s.place ∷ (frame_now e rest).items) (frame_now e rest));
      }))) (sym (at_fail (from_base (value_of e.heap.changes) 0)))
