-- Moves of an engine whose links, notes and choice points changed.
use Rattle.std.proofs.Common.{◌≡◌, ◌≤◌, ℕ, suc, List, ◌∷◌, length, Some, refl, sym, ap, subst, ◌∙◌, arith}
use Rattle.prog_data.specs.declared.goals.Goal.{Goal}
use Rattle.prog_data.specs.declared.goals.Goal as goal
use Rattle.prog_data.specs.Programs.{IsProgram}
use Rattle.machine_model.specs.State.{Choice, Resume, Failed, State, Going, cut}
use Rattle.machine_model.specs.Tests.{Tests}
use Rattle.machine_model.specs.Step.{step, quietly}
use Rattle.machine_model.specs.Leaner.{IsLeaner}
use Rattle.machine_model.specs.LeanerLaws.{LeanerStatesAreFound}
use Rattle.term_heap.specs.Changes.{size_of}
use Rattle.engine_state.specs.declared.engine.Engine as code
use Rattle.engine_state.specs.declared.stages.Setting.{Setting}
use Rattle.engine_state.specs.declared.stages.Stage as code_stage
use Rattle.engine_state.specs.declared.stages.Stage.TheVariants as stage
use Rattle.engine_state.specs.Engines.{Task, Runs, Cuts, as_state}
use Rattle.engine_state.specs.Moments.{IsGoalPlaced}
use Rattle.engine_state.specs.Stages.{as_engine, choices_at, tasks_at, frame_now, doing, goal_state, phase_of, IsKept, IsAt, IsDue, IsWhole}
use Rattle.engine_state.specs.Turns.{GoesTo, HasPushed, IsOnce, HasMoved}
use Rattle.engine_state.proofs.EngineLaws.{goes_on, state_after, frame_after}
use Rattle.engine_state.proofs.QuietMoves.{moved_to, placed_conj, placed_disj, placed_if, placed_not, true_step, fail_step, cut_step, conj_step, disj_step, if_step, not_step}

-- the heap and the program stay
pub placed_after : (old new : code.Engine) (rest : ℕ) (cs : List Choice) (g : Goal) (base : ℕ) → GoesTo old rest cs new → IsGoalPlaced old.program.now (size_of old.heap.changes) g base → IsGoalPlaced new.program.now (size_of new.heap.changes) g base
placed_after old new rest cs g base goes is =
    subst (λ h. IsGoalPlaced new.program.now (size_of h.changes) g base) (sym goes.heap) (subst (λ p. IsGoalPlaced p (size_of old.heap.changes) g base) (sym goes.program) is)

module _ (old new : code.Engine) (from : State) (rest : ℕ) (cs : List Choice) (tasks : List Task) (found : LeanerStatesAreFound) (ok : IsProgram old.program.now) (own : IsLeaner old.program.now from from) (goes : GoesTo old rest cs new) where
  -- to a goal
  pub due_moved : (g : Goal) (s : Setting) (to : code_stage.Stage) → tasks_at new s.rest ≡ tasks → s.rest ≤ length new.links.items → IsGoalPlaced old.program.now (size_of old.heap.changes) g s.base →
      ((what : Tests) (bound : ℕ) → step what old.program.now bound from ≡ quietly (Going (record (doing old (Runs g s.base s.height s.place ∷ tasks)) { choices = cs }))) →
      phase_of new to ≡ Some (Going (goal_state new g s)) → (IsDue new g s → IsWhole new to) → HasMoved old from new to
  due_moved g s to behind there placed steps phase whole =
      let after : State = record (doing old (Runs g s.base s.height s.place ∷ tasks)) { choices = cs } in
      let is : goal_state new g s ≡ after = ap (λ ts. doing new (Runs g s.base s.height s.place ∷ ts)) behind ∙ state_after old new rest cs (Runs g s.base s.height s.place ∷ tasks) goes in
      moved_to old new from after to goes.program found ok steps tt own (phase ∙ ap (λ x. Some (Going x)) is)
      (λ is_own. whole (record { kept = goes.kept; own = subst (λ x. IsLeaner new.program.now x x) (sym is) is_own; in_hand = (placed_after old new rest cs g s.base goes placed, there) }))

  -- to the tasks from a link on
  pub doing_moved : (k : ℕ) → tasks_at new k ≡ tasks → k ≤ length new.links.items →
      ((what : Tests) (bound : ℕ) → step what old.program.now bound from ≡ quietly (Going (record (doing old tasks) { choices = cs }))) → HasMoved old from new (stage.Doing k)
  doing_moved k behind there steps =
      let after : State = record (doing old tasks) { choices = cs } in
      let is : doing new (tasks_at new k) ≡ after = ap (doing new) behind ∙ state_after old new rest cs tasks goes in
      moved_to old new from after (stage.Doing k) goes.program found ok steps tt own (ap (λ x. Some (Going x)) is)
      (λ is_own. record { kept = goes.kept; own = subst (λ x. IsLeaner new.program.now x x) (sym is) is_own; in_hand = there })

-- an engine that stays
pub stays : (e : code.Engine) (rest : ℕ) → IsKept e → rest ≤ length e.links.items → GoesTo e rest (choices_at e) e
stays e rest kept there = record { program = refl; heap = refl; calls = refl; query = refl; choices_are = refl; tasks = λ j le. refl; kept = kept; there = there }

-- a cut to a height

module _ (found : LeanerStatesAreFound) (old new : code.Engine) where
  pub cuts_moved : (h rest most : ℕ) → IsAt old (doing old (Cuts h ∷ tasks_at old rest)) (rest ≤ length old.links.items) → rest ≤ most → GoesTo old most (cut h (choices_at old)) new → HasMoved old (doing old (Cuts h ∷ tasks_at old rest)) new (stage.Doing rest)
  cuts_moved h rest most at le goes =
      doing_moved old new (doing old (Cuts h ∷ tasks_at old rest)) most (cut h (choices_at old)) (tasks_at old rest) found at.kept.in_range at.own goes rest (goes.tasks rest le) (omega (arith, le, goes.there)) (λ what bound. refl)

-- each goal

module _ (found : LeanerStatesAreFound) (old new : code.Engine) (s : Setting) where
  pub true_moved : IsDue old goal.True s → HasMoved old (goal_state old goal.True s) old (stage.Doing s.rest)
  true_moved due = doing_moved old old (goal_state old goal.True s) s.rest (choices_at old) (tasks_at old s.rest) found due.kept.in_range due.own (stays old s.rest due.kept due.in_hand.1) s.rest refl due.in_hand.1 (λ what bound. true_step what old.program.now bound old s)

  pub fail_moved : IsDue old goal.Fail s → HasMoved old (goal_state old goal.Fail s) old stage.Failed
  fail_moved due = moved_to old old (goal_state old goal.Fail s) (as_state (as_engine old) Failed) stage.Failed refl found due.kept.in_range (λ what bound. fail_step what old.program.now bound old s) tt due.own refl (λ own. record { kept = due.kept; own = own; in_hand = tt })

  pub cut_moved : (most : ℕ) → IsDue old goal.Cut s → s.rest ≤ most → GoesTo old most (cut s.height (choices_at old)) new → HasMoved old (goal_state old goal.Cut s) new (stage.Doing s.rest)
  cut_moved most due le goes =
      doing_moved old new (goal_state old goal.Cut s) most (cut s.height (choices_at old)) (tasks_at old s.rest) found due.kept.in_range due.own goes s.rest (goes.tasks s.rest le) (omega (arith, le, goes.there)) (λ what bound. cut_step what old.program.now bound old s)

  pub conj_moved : (a b : Goal) (behind : ℕ) (to : code_stage.Stage) → IsDue old (goal.Conj a b) s → HasPushed old (Runs b s.base s.height s.place) s.rest behind new →
      phase_of new to ≡ Some (Going (goal_state new a (record s { rest = behind }))) → (IsDue new a (record s { rest = behind }) → IsWhole new to) → HasMoved old (goal_state old (goal.Conj a b) s) new to
  conj_moved a b behind to due pushed phase whole =
      due_moved old new (goal_state old (goal.Conj a b) s) s.rest (choices_at old) (Runs b s.base s.height s.place ∷ tasks_at old s.rest) found due.kept.in_range due.own pushed.goes a (record s { rest = behind }) to
      pushed.first pushed.first_there (placed_conj old.program.now (size_of old.heap.changes) s.base a b due.in_hand.0).0
      (λ what bound. conj_step what old.program.now bound old s a b) phase whole

  -- a choice point with a link of its own was made
  module _ (less mid : code.Engine) (g : Goal) (other : ℕ) (lets_go : GoesTo old s.rest (choices_at old) less) (pushed : HasPushed less (Runs g s.base s.height s.place) s.rest other mid)
      (pointed : GoesTo mid (length mid.links.items) (Resume (frame_now mid (tasks_at mid other)) ∷ choices_at mid) new) where
    pub with_other : GoesTo old s.rest (Resume (frame_now old (Runs g s.base s.height s.place ∷ tasks_at old s.rest)) ∷ choices_at old) new
    with_other =
        let to_mid : GoesTo old s.rest (choices_at less) mid = goes_on old less mid s.rest s.rest (choices_at old) (choices_at less) lets_go pushed.goes (omega arith) in
        let tasks : tasks_at mid other ≡ Runs g s.base s.height s.place ∷ tasks_at old s.rest =
        pushed.first ∙ ap (λ ts. Runs g s.base s.height s.place ∷ ts) (lets_go.tasks s.rest (omega arith)) in
        let frame : frame_now mid (tasks_at mid other) ≡ frame_now old (Runs g s.base s.height s.place ∷ tasks_at old s.rest) =
        ap (frame_now mid) tasks ∙ frame_after old mid s.rest (choices_at less) (Runs g s.base s.height s.place ∷ tasks_at old s.rest) to_mid in
        let choices : choices_at mid ≡ choices_at old = pushed.goes.choices_are ∙ lets_go.choices_are in
        subst (λ cs. GoesTo old s.rest cs new) (λ i. Resume (frame i) ∷ choices i)
        (goes_on old mid new s.rest (length mid.links.items) (choices_at less) (Resume (frame_now mid (tasks_at mid other)) ∷ choices_at mid) to_mid pointed pushed.goes.there)

  pub disj_moved : (a b : Goal) (to : code_stage.Stage) → IsDue old (goal.Disj a b) s → GoesTo old s.rest (Resume (frame_now old (Runs b s.base s.height s.place ∷ tasks_at old s.rest)) ∷ choices_at old) new →
      phase_of new to ≡ Some (Going (goal_state new a s)) → (IsDue new a s → IsWhole new to) → HasMoved old (goal_state old (goal.Disj a b) s) new to
  disj_moved a b to due goes phase whole =
      due_moved old new (goal_state old (goal.Disj a b) s) s.rest (Resume (frame_now old (Runs b s.base s.height s.place ∷ tasks_at old s.rest)) ∷ choices_at old) (tasks_at old s.rest) found due.kept.in_range due.own goes a s to
      (goes.tasks s.rest (omega arith)) goes.there (placed_disj old.program.now (size_of old.heap.changes) s.base a b due.in_hand.0).0
      (λ what bound. disj_step what old.program.now bound old s a b) phase whole

-- a goal that is run once

module _ (found : LeanerStatesAreFound) (old top mid new : code.Engine) (from : State) (g : Goal) (s to_s : Setting) (second : Task) (choice : Choice) (behind now : ℕ) (to : code_stage.Stage) where
  pub once_moved : IsProgram old.program.now → IsLeaner old.program.now from from → GoesTo old s.rest (choice ∷ choices_at old) top → HasPushed top second s.rest behind mid → IsOnce mid s now behind to_s new →
      now ≡ length (choices_at old) → IsGoalPlaced old.program.now (size_of old.heap.changes) g s.base →
      ((what : Tests) (bound : ℕ) → step what old.program.now bound from
      ≡ quietly (Going (record (doing old (Runs g s.base (suc (length (choices_at old))) s.place ∷ Cuts (length (choices_at old)) ∷ second ∷ tasks_at old s.rest)) { choices = choice ∷ choices_at old }))) →
      phase_of new to ≡ Some (Going (goal_state new g to_s)) → (IsDue new g to_s → IsWhole new to) → HasMoved old from new to
  once_moved ok own goes pushed once is_now placed steps phase whole =
      let cs : List Choice = choice ∷ choices_at old in
      let mid_choices : choices_at mid ≡ cs = pushed.goes.choices_are ∙ goes.choices_are in
      let to_mid : GoesTo old s.rest (choices_at top) mid = goes_on old top mid s.rest s.rest cs (choices_at top) goes pushed.goes (omega arith) in
      let to_new : GoesTo old s.rest cs new = subst (λ ds. GoesTo old s.rest ds new) mid_choices (goes_on old mid new s.rest behind (choices_at top) (choices_at mid) to_mid once.pushed.goes (omega (arith, pushed.above))) in
      let tasks : tasks_at new to_s.rest ≡ Cuts now ∷ second ∷ tasks_at old s.rest =
      once.pushed.first ∙ ap (λ ts. Cuts now ∷ ts) (pushed.first ∙ ap (λ ts. second ∷ ts) (goes.tasks s.rest (omega arith))) in
      let height : suc (length (choices_at old)) ≡ to_s.height = sym (once.height ∙ ap length mid_choices) in
      let base : s.base ≡ to_s.base = sym once.base in
      let place : s.place ≡ to_s.place = sym once.place in
      let cut : length (choices_at old) ≡ now = sym is_now in
      due_moved old new from s.rest cs (Cuts now ∷ second ∷ tasks_at old s.rest) found ok own to_new g to_s to tasks once.pushed.first_there (subst (IsGoalPlaced old.program.now (size_of old.heap.changes) g) base placed)
      (λ what bound. steps what bound ∙ (λ i. quietly (Going (record (doing old (Runs g (base i) (height i) (place i) ∷ Cuts (cut i) ∷ second ∷ tasks_at old s.rest)) { choices = cs })))) phase whole

module _ (found : LeanerStatesAreFound) (old less top mid new : code.Engine) (s to_s : Setting) (behind now : ℕ) (to : code_stage.Stage) where
  pub if_moved : (c a b : Goal) → IsDue old (goal.IfElse c a b) s → GoesTo old s.rest (Resume (frame_now old (Runs b s.base s.height s.place ∷ tasks_at old s.rest)) ∷ choices_at old) top → HasPushed top (Runs a s.base s.height s.place) s.rest behind mid →
      IsOnce mid s now behind to_s new → now ≡ length (choices_at old) → phase_of new to ≡ Some (Going (goal_state new c to_s)) → (IsDue new c to_s → IsWhole new to) →
      HasMoved old (goal_state old (goal.IfElse c a b) s) new to
  if_moved c a b due goes pushed once is_now phase whole =
      once_moved found old top mid new (goal_state old (goal.IfElse c a b) s) c s to_s (Runs a s.base s.height s.place) (Resume (frame_now old (Runs b s.base s.height s.place ∷ tasks_at old s.rest))) behind now to due.kept.in_range due.own goes pushed once is_now
      (placed_if old.program.now (size_of old.heap.changes) s.base c a b due.in_hand.0).0 (λ what bound. if_step what old.program.now bound old s c a b) phase whole

  pub not_moved : (a : Goal) → IsDue old (goal.Not a) s → GoesTo old s.rest (choices_at old) less → GoesTo less (length less.links.items) (Resume (frame_now less (tasks_at less s.rest)) ∷ choices_at less) top → HasPushed top (Runs goal.Fail 0 s.height s.place) s.rest behind mid →
      IsOnce mid s now behind to_s new → now ≡ length (choices_at old) → phase_of new to ≡ Some (Going (goal_state new a to_s)) → (IsDue new a to_s → IsWhole new to) →
      HasMoved old (goal_state old (goal.Not a) s) new to
  not_moved a due lets_go pointed pushed once is_now phase whole =
      let frame : frame_now less (tasks_at less s.rest) ≡ frame_now old (tasks_at old s.rest) =
      ap (frame_now less) (lets_go.tasks s.rest (omega arith)) ∙ frame_after old less s.rest (choices_at old) (tasks_at old s.rest) lets_go in
      let choices : choices_at less ≡ choices_at old = lets_go.choices_are in
      let goes : GoesTo old s.rest (Resume (frame_now old (tasks_at old s.rest)) ∷ choices_at old) top =
      subst (λ cs. GoesTo old s.rest cs top) (λ i. Resume (frame i) ∷ choices i)
      (goes_on old less top s.rest (length less.links.items) (choices_at old) (Resume (frame_now less (tasks_at less s.rest)) ∷ choices_at less) lets_go pointed lets_go.there) in
      once_moved found old top mid new (goal_state old (goal.Not a) s) a s to_s (Runs goal.Fail 0 s.height s.place) (Resume (frame_now old (tasks_at old s.rest))) behind now to due.kept.in_range due.own goes pushed once is_now
      (placed_not old.program.now (size_of old.heap.changes) s.base a due.in_hand.0) (λ what bound. not_step what old.program.now bound old s a) phase whole
