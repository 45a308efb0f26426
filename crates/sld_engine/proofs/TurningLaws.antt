-- Moves as turns of a run.
use Rattle.std.proofs.Common.{◌≡◌, ℕ, ◌+◌, ◌-◌, ◌^◌, min, Bool, true, false, List, [], ◌∷◌, ◌++◌, map, Option, None, Some, refl, sym, ap, subst, ◌∙◌, arith, true≢false}
use Rattle.std.specs.Prelude.{⊤}
use Rattle.term_core.specs.declared.terms.Term.{Term}
use Rattle.prog_data.specs.declared.goals.Goal.{Goal}
use Rattle.prog_data.specs.declared.goals.Goal as goal
use Rattle.prog_data.specs.declared.programs.Program.{Program}
use Rattle.prog_data.specs.declared.events.Event.{Event}
use Rattle.prog_data.specs.declared.events.Event.TheVariants.{Out, Answer, End, Broken}
use Rattle.prog_data.specs.declared.events.Ending.{Ending}
use Rattle.prog_data.specs.Ranges.{is_goal_of, goal_step as range_step}
use Rattle.prog_data.proofs.GoalFolds.{fold-Exit}
use Rattle.machine_model.specs.State.{State, Phase, Going, Over}
use Rattle.machine_model.specs.Tests.{Tests}
use Rattle.machine_model.specs.Step.{quietly}
use Rattle.machine_model.specs.Leaner.{IsLeaner}
use Rattle.machine_model.specs.Continues.{Left, at_phase, Leads, IsNext}
use Rattle.machine_model.proofs.Continuing.{stay, then_leads, tell}
use Rattle.engine_state.specs.declared.engine.Engine as code
use Rattle.engine_state.specs.declared.stages.Setting.{Setting}
use Rattle.engine_state.specs.declared.stages.Stage as code_stage
use Rattle.engine_state.specs.declared.stages.Stage.TheVariants as stage
use Rattle.engine_state.specs.declared.tasks.Row.{Row}
use Rattle.engine_state.specs.Moves.{Moves}
use Rattle.engine_state.specs.Stages.{tasks_at, doing, goal_state, phase_of, IsAt, IsDue, IsWhole}
use Rattle.engine_state.specs.Turns.{IsQuietMove, HasMoved, HasBecome}
use Rattle.std.proofs.lemmas.Option.{same_Some}
use Rattle.engine_moves.specs.declared.readings.Reading.{Reading}
use Rattle.sld_engine.specs.declared.turning.Told.{Told}
use Rattle.engine_moves.specs.Texts.{events_of}
use Rattle.engine_moves.specs.Calling.{call_state}
use Rattle.sld_engine.specs.Going.{IsTurn, HasGone}
use Rattle.engine_moves.specs.Readings.{tests_by}
use Rattle.engine_moves.specs.Relied.{Relied}
use Rattle.engine_moves.specs.Turned.{IsMoveTo, HasTurned}
use Rattle.sld_engine.proofs.RunLaws.{told_first}
use Rattle.engine_moves.proofs.MadeTurns.{moved_before}

-- a body of a goal is no exit
pub no_exit : (e : code.Engine) (s : Setting) → IsDue e goal.Exit s → ⊥
no_exit e s due = let vars = due.in_hand.0.0 in true≢false (sym due.in_hand.0.1 ∙ fold-Exit Bool (range_step e.program.now vars))

module _ (reading : Reading) (bound : ℕ) (old new : code.Engine) (from : State) (to : code_stage.Stage) where
  abbrev program : Program
  program = old.program.now

  abbrev what : Tests
  what = tests_by program reading

  phase_in : (events : List Event) (tests : ℕ) (o : Option Phase) → IsMoveTo what program bound from events tests o → (p : Phase) × (o ≡ Some p) × Moves what program bound (Going from) (record { events = events; tests = tests; phase = p })
  phase_in events tests None m = absurd m
  phase_in events tests (Some p) m = (p, refl, m)

  -- conditions were told, or nothing
  pub turned_gone : (told : List ℕ) (counted : ℕ) → HasTurned reading bound old from (map Broken told) counted new to → HasGone reading bound program (Going from) None told counted new to
  turned_gone told counted t =
      let found = phase_in (map Broken told) t.tests (phase_of new to) t.moves in
      record { program_is = t.program; tests = t.tests; counted_are = t.counted_are; now = found.0; is = found.1; gone = found.2; whole = t.whole }

  -- an answer
  pub turned_answer : (told : List ℕ) (counted : ℕ) (t : Term) → told ≡ [] → HasTurned reading bound old from (Answer t ∷ []) counted new to → HasGone reading bound program (Going from) (Some (Answer t)) told counted new to
  turned_answer told counted t none turned =
      let found = phase_in (Answer t ∷ []) turned.tests (phase_of new to) turned.moves in
      let next = told_first what program bound (at_phase (Going from)) turned.tests (Answer t) [] found.0 found.2.leads in
      record { program_is = turned.program; tests = turned.tests; counted_are = turned.counted_are; now = found.0; is = found.1; gone = (none, next); whole = turned.whole }

  -- text
  pub turned_out : (told : List ℕ) (counted : ℕ) (text : List ℕ) → told ≡ [] → HasTurned reading bound old from (Out text ∷ []) counted new to → HasGone reading bound program (Going from) (Some (Out text)) told counted new to
  turned_out told counted text none turned =
      let found = phase_in (Out text ∷ []) turned.tests (phase_of new to) turned.moves in
      let next = told_first what program bound (at_phase (Going from)) turned.tests (Out text) [] found.0 found.2.leads in
      record { program_is = turned.program; tests = turned.tests; counted_are = turned.counted_are; now = found.0; is = found.1; gone = (none, next); whole = turned.whole }

  quiet_in : (o : Option Phase) → IsQuietMove what program bound from o → IsMoveTo what program bound from [] 0 o
  quiet_in None m = m
  quiet_in (Some p) m = m

  -- a move that tests nothing
  pub moved_gone : (told : List ℕ) → told ≡ [] → HasMoved old from new to → HasGone reading bound program (Going from) None told 0 new to
  moved_gone told none moved =
      subst (λ ts. HasGone reading bound program (Going from) None ts 0 new to) (sym none)
      (turned_gone [] 0 (record { program = moved.program; tests = 0; counted_are = refl; moves = quiet_in (phase_of new to) (moved.moves what bound); whole = moved.whole }))

-- so of a goal
pub goal_gone : (reading : Reading) (bound : ℕ) (old new : code.Engine) (s : Setting) (to : code_stage.Stage) (g g' : Goal) (told : List ℕ) → g ≡ g' → told ≡ [] → HasMoved old (goal_state old g' s) new to → HasGone reading bound old.program.now (Going (goal_state old g s)) None told 0 new to
goal_gone reading bound old new s to g g' told is none moved = subst (λ x. HasGone reading bound old.program.now (Going (goal_state old x s)) None told 0 new to) (sym is) (moved_gone reading bound old new (goal_state old g' s) to told none moved)

-- and of a turn that has no event
pub quiet_gone : (reading : Reading) (bound : ℕ) (old new : code.Engine) (s : Setting) (to : code_stage.Stage) (g g' : Goal) (told : List ℕ) (t : Told) → t ≡ record { stage = to; tests = 0; event = None } → g ≡ g' → told ≡ [] → HasMoved old (goal_state old g' s) new to →
    HasGone reading bound old.program.now (Going (goal_state old g s)) t.event told t.tests new t.stage
quiet_gone reading bound old new s to g g' told t is_t is none moved =
    subst (λ u. HasGone reading bound old.program.now (Going (goal_state old g s)) u.event told u.tests new u.stage) (sym is_t) (goal_gone reading bound old new s to g g' told is none moved)

-- a built-in
pub text_gone : (reading : Reading) (bound : ℕ) (old new : code.Engine) (from : State) (to : code_stage.Stage) (t : Told) (o : Option (List ℕ)) → t ≡ record { stage = to; tests = 0; event = None } → o ≡ None → HasTurned reading bound old from (events_of o) 0 new to →
    HasGone reading bound old.program.now (Going from) t.event [] t.tests new t.stage
text_gone reading bound old new from to t o is_t none turned =
    subst (λ u. HasGone reading bound old.program.now (Going from) u.event [] u.tests new u.stage) (sym is_t)
    (turned_gone reading bound old new from to [] 0 (subst (λ x. HasTurned reading bound old from (events_of x) 0 new to) none turned))

-- nothing is left to be done
pub answer_at : (old mid : code.Engine) (k : ℕ) → IsWhole old (stage.Doing k) → tasks_at old k ≡ [] → mid ≡ old → IsAt mid (doing mid []) ⊤
answer_at old mid k whole none same =
    subst (λ e. IsAt e (doing e []) ⊤) (sym same) (record { kept = whole.kept; own = subst (λ ts. IsLeaner old.program.now (doing old ts) (doing old ts)) none whole.own; in_hand = tt })

pub answer_gone : (reading : Reading) (bound : ℕ) (old mid : code.Engine) (k : ℕ) (t : Term) (told : List ℕ) → tasks_at old k ≡ [] → mid ≡ old → told ≡ [] → HasTurned reading bound mid (doing mid []) (Answer t ∷ []) 0 mid stage.Failed →
    HasGone reading bound old.program.now (Going (doing old (tasks_at old k))) (Some (Answer t)) told 0 mid stage.Failed
answer_gone reading bound old mid k t told none same told_none turned =
    let here : HasTurned reading bound old (doing old []) (Answer t ∷ []) 0 mid stage.Failed = subst (λ e. HasTurned reading bound e (doing e []) (Answer t ∷ []) 0 mid stage.Failed) same turned in
    subst (λ ts. HasGone reading bound old.program.now (Going (doing old ts)) (Some (Answer t)) told 0 mid stage.Failed) (sym none)
    (turned_answer reading bound old mid (doing old []) stage.Failed told 0 t told_none here)

-- the phase of a stage is one
pub phase_same : (e : code.Engine) (to to' : code_stage.Stage) (q p : Phase) → to ≡ to' → phase_of e to' ≡ Some q → phase_of e to ≡ Some p → q ≡ p
phase_same e to to' q p is here there = same_Some q p (sym here ∙ ap (phase_of e) (sym is) ∙ there)

-- a call whose arguments were put into cells
pub called_gone : Relied → (reading : Reading) (bound : ℕ) (old mid new : code.Engine) (g : Goal) (p : ℕ) (row : Row) (s : Setting) (told : List ℕ) (counted : ℕ) (to : code_stage.Stage) → IsDue old g s →
    HasBecome old (goal_state old g s) mid (stage.Calling p row s.height s.place s.rest) → HasTurned reading bound mid (call_state mid p row s.height s.place s.rest) (map Broken told) counted new to →
    HasGone reading bound old.program.now (Going (goal_state old g s)) None told counted new to
called_gone law reading bound old mid new g p row s told counted to due became turned =
    let from : State = call_state mid p row s.height s.place s.rest in
    let moves : IsMoveTo (tests_by old.program.now reading) old.program.now bound from (map Broken told) turned.tests (phase_of new to) =
    subst (λ q. IsMoveTo (tests_by q reading) q bound from (map Broken told) turned.tests (phase_of new to)) became.program turned.moves in
    turned_gone reading bound old new (goal_state old g s) to told counted
    (record {
      program = turned.program ∙ became.program;
      tests = turned.tests;
      counted_are = turned.counted_are;
      moves = moved_before law (tests_by old.program.now reading) old.program.now bound (goal_state old g s) from (map Broken told) turned.tests (phase_of new to) due.kept.in_range became.same moves;
      whole = turned.whole;
    })

-- a goal of a link
pub link_gone : (reading : Reading) (bound : ℕ) (old mid new : code.Engine) (g : Goal) (s : Setting) (k : ℕ) (event : Option Event) (told : List ℕ) (counted : ℕ) (to : code_stage.Stage) → goal_state old g s ≡ doing old (tasks_at old k) → mid ≡ old →
    HasGone reading bound mid.program.now (Going (goal_state mid g s)) event told counted new to → HasGone reading bound old.program.now (Going (doing old (tasks_at old k))) event told counted new to
link_gone reading bound old mid new g s k event told counted to state same gone =
    subst (λ x. HasGone reading bound old.program.now (Going x) event told counted new to) state (subst (λ e. HasGone reading bound e.program.now (Going (goal_state e g s)) event told counted new to) same gone)

-- the run is over
pub over_gone : (reading : Reading) (bound : ℕ) (e : code.Engine) (ending : Ending) (told : List ℕ) → told ≡ [] → HasGone reading bound e.program.now (Over ending) (Some (End ending)) told 0 e (stage.Over ending)
over_gone reading bound e ending told none = record {
  program_is = refl;
  tests = 0;
  counted_are = refl;
  now = Over ending;
  is = refl;
  gone = (none, record { over = refl; leads = stay (tests_by e.program.now reading) e.program.now bound (at_phase (Over ending)) });
  whole = tt;
}
