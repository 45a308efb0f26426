-- Each step keeps what a closed table says of the state, and so does each run.
use Rattle.std.proofs.Common.{ℕ, zero, suc, Bool, List, [], ◌∷◌, refl}
use Rattle.std.specs.Prelude.{not, slice_get}
use Rattle.std.specs.List.{AllByRecursion}
use Rattle.term_core.specs.declared.equations.Outcome.TheVariants.{Solved, Clash, Cyclic}
use Rattle.term_core.specs.Unify.{Stage, Open, Ended}
use Rattle.prog_data.specs.declared.programs.Place.{Place}
use Rattle.prog_data.specs.declared.programs.Program.{Program}
use Rattle.prog_data.specs.Conditions.{kind_of, failure_breaks}
use Rattle.prog_data.specs.Goals.{pred_of}
use Rattle.machine_model.specs.State.{Item, Does, CutTo, Exits, Frame, Choice, Resume, Try, Mark, Current, Doing, Solving, Failed, State, Phase, Going, Over}
use Rattle.machine_model.specs.Step.{step, step_at, frame_step, failure_step, solving_step, quietly}
use Rattle.machine_model.specs.Run.{steps}
use Rattle.discharger.proofs.Narrowing.{tests_of, narrowing}
use Rattle.discharger.specs.ReliedOn.{ReliedOn}
use Rattle.goal_transfer.specs.Tables.{Facts, Closed}
use Rattle.discharger.proofs.Described.{FrameDescribed, ChoiceDescribed, CurrentDescribed, StateDescribed}
use Rattle.discharger.proofs.DescribedBuiltins.{IfGoing}
use Rattle.discharger.proofs.DescribedCalls.{tests_keep, exit_keeps}
use Rattle.discharger.proofs.DescribedGoals.{cut_described, goal_keeps}
use Rattle.discharger.proofs.DescribedClauses.{try_keeps}

module _ (stops : Bool) (program : Program) (rows : List Facts) (relied : ReliedOn program.grammar) (closed : Closed (narrowing stops program) rows) (limit : ℕ) where
  frame_keeps : (s : State) → AllByRecursion (ChoiceDescribed stops program rows) s.choices → (f : Frame) (items : List Item) → FrameDescribed stops program rows items →
      IfGoing stops program rows (frame_step (tests_of stops program) program limit s f items).phase
  frame_keeps s choices f [] d = record { choices = choices; current = tt }
  frame_keeps s choices f (Does h height place ∷ items) d = goal_keeps stops program rows relied closed limit s choices height place (record f { items = items }) d.value d.head d.known d.belong h d.goes
  frame_keeps s choices f (CutTo height ∷ items) d =
      record { choices = cut_described stops program rows relied height s.choices choices; current = record { value = d.value; head = d.head; known = d.known; belong = d.belong; goes = d.goes } }
  frame_keeps s choices f (Exits p args noted mark ∷ items) d = exit_keeps stops program rows relied closed limit s p args noted mark (record f { items = items }) d.value d.head d.known d.belong choices d.goes

  failure_keeps : (s : State) (cs : List Choice) → AllByRecursion (ChoiceDescribed stops program rows) cs → IfGoing stops program rows (failure_step (tests_of stops program) program limit s cs).phase
  failure_keeps s [] d = tt
  failure_keeps s (Resume f ∷ cs) d = record { choices = d.1; current = d.0 }
  failure_keeps s (Try k call ∷ cs) d = try_keeps stops program rows relied closed limit s k call cs d.1 d.0 (slice_get (pred_of program call.pred).clauses k) refl
  failure_keeps s (Mark p conds exited ∷ cs) d =
      tests_keep stops program rows relied closed 0 (λ c. not (failure_breaks exited (kind_of program c))) conds (quietly (Going (record s { choices = cs; current = Failed }))) (λ e. record { choices = d.1; current = tt })

  solving_keeps : (s : State) → AllByRecursion (ChoiceDescribed stops program rows) s.choices → (place : Place) (stage : Stage) (f : Frame) → CurrentDescribed stops program rows (Solving place stage f) →
      IfGoing stops program rows (solving_step (tests_of stops program) program limit s place stage f).phase
  solving_keeps s choices place (Open es bs) f d = record { choices = choices; current = λ k cs e. d (suc k) cs e }
  solving_keeps s choices place (Ended (Solved bs)) f d = record { choices = choices; current = d 0 bs refl }
  solving_keeps s choices place (Ended Clash) f d = record { choices = choices; current = tt }
  solving_keeps s choices place (Ended Cyclic) f d = tt

  current_keeps : (s : State) → AllByRecursion (ChoiceDescribed stops program rows) s.choices → (c : Current) → CurrentDescribed stops program rows c → IfGoing stops program rows (step_at (tests_of stops program) program limit s c).phase
  current_keeps s choices (Doing f) d = frame_keeps s choices f f.items d
  current_keeps s choices (Solving place stage f) d = solving_keeps s choices place stage f d
  current_keeps s choices Failed d = failure_keeps s s.choices choices

  step_keeps : (s : State) → StateDescribed stops program rows s → IfGoing stops program rows (step (tests_of stops program) program limit s).phase
  step_keeps s d = current_keeps s d.choices s.current d.current

  pub steps_keep : (k : ℕ) (p : Phase) → IfGoing stops program rows p → IfGoing stops program rows (steps (tests_of stops program) program limit k p).phase
  steps_keep zero p d = d
  steps_keep (suc k) (Over e) d = tt
  steps_keep (suc k) (Going s) d = steps_keep k (step (tests_of stops program) program limit s).phase (step_keeps s d)
