-- A clause that was entered, and the exit of its call.
use Rattle.std.proofs.Common.{◌≡◌, ◌≤◌, ℕ, Bool, true, false, List, [], ◌∷◌, map, take, drop, length, Option, None, Some, refl, sym, ap, subst, ◌∙◌, arith, true≢false}
use Rattle.std.specs.Prelude.{if◌then◌else◌, ◌==◌}
use Rattle.std.proofs.lemmas.Bool.Decides.{nat_tests}
use Rattle.term_core.specs.declared.terms.Term.{Term}
use Rattle.prog_data.specs.declared.goals.Goal.{Goal, out-Goal}
use Rattle.prog_data.specs.declared.goals.Goal as goal
use Rattle.prog_data.specs.declared.goals.Goal.TheVariants.{outs-Exit}
use Rattle.prog_data.specs.declared.programs.Clause.{Clause}
use Rattle.prog_data.specs.declared.programs.Program.{Program}
use Rattle.prog_data.specs.Goals.{goal_instance, goal_instance_step, without_exit, without_exit_at}
use Rattle.prog_data.proofs.GoalFolds.{fold-True}
use Rattle.machine_model.specs.State.{Item, Does, Exits, Frame, Doing, State, Going}
use Rattle.machine_model.specs.Tests.{Tests}
use Rattle.machine_model.specs.Step.{frame_of, quietly}
use Rattle.machine_model.specs.Leaner.{IsLeaner}
use Rattle.machine_model.specs.LeanerLaws.{LeanerStates}
use Rattle.term_heap.specs.Changes.{size_of, value_of, places}
use Rattle.term_heap.specs.Loads.{from_base}
use Rattle.engine_state.specs.declared.engine.Engine as code
use Rattle.engine_state.specs.declared.points.Pending as code_pending
use Rattle.engine_state.specs.declared.stages.Setting.{Setting}
use Rattle.engine_state.specs.declared.stages.Stage as code_stage
use Rattle.engine_state.specs.declared.stages.Stage.TheVariants as stage
use Rattle.engine_state.specs.Engines.{Exit, Task, Runs, Leaves, item_of}
use Rattle.engine_state.specs.Views.{as_exit, row_of}
use Rattle.engine_state.specs.Moments.{is_idle, is_idle_by}
use Rattle.engine_state.specs.Stages.{choices_at, tasks_at, frame_now, doing, goal_state, phase_of, IsKept, IsDue, IsWhole}
use Rattle.engine_state.specs.Turns.{GoesTo, HasExit}
use Rattle.engine_state.specs.Moves.{Moves}
use Rattle.engine_moves.specs.declared.readings.Reading.{Reading}
use Rattle.engine_moves.specs.Readings.{tests_by}
use Rattle.engine_moves.specs.Relied.{Relied}
use Rattle.engine_moves.specs.Turned.{IsMoveTo, HasTurned}
use Rattle.engine_moves.specs.Tries.{IsPendingPlaced, behind_body, HasBehind, entered_state, IsEntered}
use Rattle.engine_moves.proofs.MadeTurns.{stays, state_after, placed_after}

-- an exit that tests nothing

idle_mark : (mark : Option ℕ) (noted : ℕ) → is_idle_by mark noted ≡ true → mark ≡ None
idle_mark None noted e = refl
idle_mark (Some h) noted e = absurd (true≢false (sym e))

eq_of : (a b : ℕ) → (a == b) ≡ true → a ≡ b
eq_of a b e = grind (arith, nat_tests)

idle_count : (mark : Option ℕ) (noted : ℕ) → is_idle_by mark noted ≡ true → noted ≡ 0
idle_count None noted e = eq_of noted 0 e
idle_count (Some h) noted e = absurd (true≢false (sym e))

-- the tasks behind a body

module _ (reading : Reading) (old : code.Engine) (body : Goal) (c : code_pending.Pending) (kept : IsKept old) (placed : IsPendingPlaced old c) where
  abbrev exit_of : Exit
  exit_of = as_exit old.notes.items c.exit

  pub behind_none : false ≡ (tests_by old.program.now reading).exits body → HasBehind reading old body c c.rest old
  behind_none e = record {
    goes = stays old c.rest kept placed.rest;
    tasks = ap (λ b. behind_body b (is_idle c.exit) exit_of (tasks_at old c.rest)) e;
    there = placed.rest;
  }

  same_behind : (idle : Bool) (e : Exit) (tasks : List Task) → (if idle then tasks else Leaves e ∷ tasks) ≡ behind_body true idle e tasks
  same_behind true e tasks = refl
  same_behind false e tasks = refl

  pub behind_exit : (new : code.Engine) (k : ℕ) → true ≡ (tests_by old.program.now reading).exits body → HasExit old c.exit c.rest k new → HasBehind reading old body c k new
  behind_exit new k e put = record {
    goes = put.goes;
    tasks = put.first ∙ same_behind (is_idle c.exit) exit_of (tasks_at old c.rest) ∙ ap (λ b. behind_body b (is_idle c.exit) exit_of (tasks_at old c.rest)) e;
    there = put.first_there;
  }

module _ (law : Relied) (reading : Reading) (bound : ℕ) (from : State) (old new : code.Engine) (clause : Clause) (base : ℕ) (c : code_pending.Pending) (k : ℕ) (at : IsEntered reading old clause base c) (behind : HasBehind reading old clause.body c k new)
    (move : IsMoveTo (tests_by old.program.now reading) old.program.now bound from [] 0 (Some (Going (entered_state reading old clause base c)))) where
  abbrev program : Program
  program = old.program.now

  abbrev what : Tests
  what = tests_by program reading

  abbrev body : Task
  body = Runs (without_exit clause.body) base c.height clause.place

  abbrev exit_task : Exit
  exit_task = as_exit old.notes.items c.exit

  abbrev tasks : List Task
  tasks = tasks_at old c.rest

  abbrev first : State
  first = entered_state reading old clause base c

  abbrev second : State
  second = doing new (body ∷ tasks_at new k)

  -- the exit is left out where it tests nothing
  lean : (has_exit tests_nothing : Bool) → what.exits clause.body ≡ has_exit → is_idle c.exit ≡ tests_nothing → IsLeaner program first (doing old (body ∷ behind_body has_exit tests_nothing exit_task tasks))
  lean false tests_nothing e idle = subst (λ b. IsLeaner program first (doing old (body ∷ (if b then Leaves exit_task ∷ tasks else tasks)))) e at.own
  lean true false e idle = subst (λ b. IsLeaner program first (doing old (body ∷ (if b then Leaves exit_task ∷ tasks else tasks)))) e at.own
  lean true true e idle =
      let value : ℕ → Term = value_of old.heap.changes in
      let with_exit : State = doing old (body ∷ Leaves exit_task ∷ tasks) in
      let kept : IsLeaner program first with_exit = subst (λ b. IsLeaner program first (doing old (body ∷ (if b then Leaves exit_task ∷ tasks else tasks)))) e at.own in
      let rest : Frame = frame_now old tasks in
      let args : List Term = map value (places c.exit.args.first c.exit.args.count) in
      let g : Goal = goal_instance (from_base value base) (without_exit clause.body) in
      let no_mark : c.exit.mark ≡ None = idle_mark c.exit.mark c.exit.noted.count idle in
      let no_notes : row_of old.notes.items c.exit.noted ≡ [] = ap (λ n. take n (drop c.exit.noted.first old.notes.items)) (idle_count c.exit.mark c.exit.noted.count idle) in
      let is : with_exit.current ≡ Doing (frame_of (Does g c.height clause.place ∷ Exits c.exit.pred args [] None ∷ rest.items) rest) =
      λ i. Doing (frame_of (Does g c.height clause.place ∷ Exits c.exit.pred args (no_notes i) (no_mark i) ∷ rest.items) rest) in
      (law.leaners what program bound at.kept.in_range).without_exit first with_exit g c.height clause.place c.exit.pred args rest is kept

  abbrev states : LeanerStates program
  states = law.found program at.kept.in_range

  same : IsLeaner program first second
  same =
      let is : doing old (body ∷ behind_body (what.exits clause.body) (is_idle c.exit) exit_task tasks) ≡ second =
      sym (state_after old new c.rest (body ∷ tasks_at new k) behind.goes ∙ ap (λ ts. doing old (body ∷ ts)) behind.tasks) in
      subst (IsLeaner program first) is (lean (what.exits clause.body) (is_idle c.exit) refl refl)

  moved : Moves what program bound (Going from) (quietly (Going second))
  moved = (law.leaners what program bound at.kept.in_range).after (Going from) [] 0 first second move same

  -- the body is due
  pub entered_goal : (g : Goal) (s : Setting) (to : code_stage.Stage) → g ≡ without_exit clause.body → s ≡ record { base = base; height = c.height; place = clause.place; rest = k } → phase_of new to ≡ Some (Going (goal_state new g s)) → (IsDue new g s → IsWhole new to) →
      HasTurned reading bound old from [] 0 new to
  entered_goal g s to is is_s phase whole =
      let state : goal_state new g s ≡ second = λ i. goal_state new (is i) (is_s i) in
      let placed = placed_after old new c.rest (choices_at old) (without_exit clause.body) base behind.goes at.in_hand.0 in
      let own : IsLeaner new.program.now second second = subst (λ p. IsLeaner p second second) (sym behind.goes.program) (states.own first second same) in
      let due : IsDue new (without_exit clause.body) (record { base = base; height = c.height; place = clause.place; rest = k }) = record { kept = behind.goes.kept; own = own; in_hand = (placed, behind.there) } in
      record {
        program = behind.goes.program;
        tests = 0;
        counted_are = refl;
        moves = subst (IsMoveTo what program bound from [] 0) (sym (phase ∙ ap (λ x. Some (Going x)) state)) moved;
        whole = whole (subst (IsDue new g) (sym is_s) (subst (λ x. IsDue new x (record { base = base; height = c.height; place = clause.place; rest = k })) (sym is) due));
      }

  -- the body was the exit alone
  pub entered_exit : clause.body ≡ goal.Exit → HasTurned reading bound old from [] 0 new (stage.Doing k)
  entered_exit is =
      let value : ℕ → Term = value_of new.heap.changes in
      let third : State = doing new (tasks_at new k) in
      let nothing : without_exit clause.body ≡ goal.True = ap without_exit is ∙ ap (without_exit_at goal.Exit) outs-Exit in
      let g : Goal = goal_instance (from_base value base) (without_exit clause.body) in
      let is_true : g ≡ goal.True = ap (goal_instance (from_base value base)) nothing ∙ fold-True Goal (goal_instance_step (from_base value base)) in
      let makes = (law.goals what program bound new.calls (size_of new.heap.changes) (choices_at new)).trues g c.height clause.place (frame_now new (tasks_at new k)) is_true in
      let compose = law.compose what program bound in
      let next : Moves what program bound (Going second) (quietly (Going third)) = compose.made second (quietly (Going third)) makes in
      let own_second : IsLeaner program second second = states.own first second same in
      let own : IsLeaner program third third = compose.own states second third (quietly (Going third)) own_second makes refl tt in
      record {
        program = behind.goes.program;
        tests = 0;
        counted_are = refl;
        moves = compose.onward (Going from) (quietly (Going second)) (quietly (Going third)) moved next;
        whole = record { kept = behind.goes.kept; own = subst (λ p. IsLeaner p third third) (sym behind.goes.program) own; in_hand = behind.there };
      }
