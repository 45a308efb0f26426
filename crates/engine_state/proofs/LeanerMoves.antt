-- Moves to and from leaner states.
use Rattle.std.proofs.Common.{◌≡◌, ℕ, ◌+◌, List, [], ◌∷◌, ◌++◌, map, length, Option, None, Some, refl, ap, ◌∙◌, subst}
use Rattle.term_core.specs.declared.terms.Term.{Term}
use Rattle.prog_data.specs.declared.goals.Goal.{Goal, out-Goal}
use Rattle.prog_data.specs.declared.goals.Goal.TheVariants.{outs-Call}
use Rattle.prog_data.specs.declared.events.Ending.{Ending}
use Rattle.prog_data.specs.declared.events.Event.{Event}
use Rattle.prog_data.specs.declared.events.Event.TheVariants.{Broken}
use Rattle.prog_data.specs.Goals.{pred_of}
use Rattle.prog_data.specs.declared.programs.Place.{Place}
use Rattle.prog_data.specs.declared.programs.Program.{Program}
use Rattle.prog_data.specs.Programs.{IsProgram}
use Rattle.machine_model.specs.State.{Item, Does, Exits, Frame, Current, Doing, State, Phase, Going}
use Rattle.machine_model.specs.Tests.{Tests}
use Rattle.machine_model.specs.Step.{frame_of, tries}
use Rattle.machine_model.specs.Leaner.{Kind, ItemsAgree, does, exits, idle, no_mark, FramesAgree, frames, CurrentsAgree, doing, failed, IsLeaner, leaner}
use Rattle.machine_model.specs.LeanerLaws.{LeanerTellsTheSame, LeanerStatesAreFound, AreBelow, IsCurrentBelow, chosen, before_goal, call_above, after_call}
use Rattle.engine_state.specs.Tested.{tested_trace}
use Rattle.engine_state.specs.Moves.{Moves}
use Rattle.engine_state.specs.StepsMade.{whose_pre_holds, looks_at}
use Rattle.engine_state.specs.MoveLaws.{LeanersMove, CallsMove}
use Rattle.engine_state.proofs.Composing.{made_moves, moves_compose}
use Rattle.engine_state.proofs.MadeSteps.{calls_make}

-- an exit that tests nothing, behind the first goal

one_idle : {there back : ℕ → Term} {ks : List Kind} {is : List Item} (p : ℕ) (args : List Term) (rest : List Item) → ItemsAgree there back ks is (Exits p args [] None ∷ rest) → ItemsAgree there back ks is rest
one_idle p args rest (exits terms no_mark items) = idle items
one_idle p args rest (idle items) = idle (one_idle p args rest items)

first_kept : {there back : ℕ → Term} {ks : List Kind} {is : List Item} (g : Goal) (h : ℕ) (place : Place) (p : ℕ) (args : List Term) (rest : List Item) → ItemsAgree there back ks is (Does g h place ∷ Exits p args [] None ∷ rest) →
    ItemsAgree there back ks is (Does g h place ∷ rest)
first_kept g h place p args rest (does js goals heights items) = does js goals heights (one_idle p args rest items)
first_kept g h place p args rest (idle items) = idle (first_kept g h place p args rest items)

frames_kept : {ks : List Kind} {n n' : ℕ} {f : Frame} (g : Goal) (h : ℕ) (place : Place) (p : ℕ) (args : List Term) (rest : List Item) (query : Term) →
    FramesAgree ks n n' f (record { items = Does g h place ∷ Exits p args [] None ∷ rest; query = query }) → FramesAgree ks n n' f (record { items = Does g h place ∷ rest; query = query })
frames_kept g h place p args rest query (frames names items queries) = frames names (first_kept g h place p args rest items) queries

doing_inside : (f g : Frame) → Doing f ≡ Doing g → f ≡ g
doing_inside f g e = cc

currents_kept : {ks : List Kind} {n n' : ℕ} (c c' : Current) (g : Goal) (h : ℕ) (place : Place) (p : ℕ) (args : List Term) (rest : Frame) → c' ≡ Doing (frame_of (Does g h place ∷ Exits p args [] None ∷ rest.items) rest) →
    CurrentsAgree ks n n' c c' → CurrentsAgree ks n n' c (Doing (frame_of (Does g h place ∷ rest.items) rest))
currents_kept {ks} {n} {n'} c c' g h place p args rest e (doing {f = f} {f' = f'} are) =
    doing (frames_kept g h place p args rest.items rest.query (subst (FramesAgree ks n n' f) (doing_inside f' _ e) are))
currents_kept c c' g h place p args rest e failed = cc

exit_left_out : (program : Program) (s s' : State) (g : Goal) (h : ℕ) (place : Place) (p : ℕ) (args : List Term) (rest : Frame) → s'.current ≡ Doing (frame_of (Does g h place ∷ Exits p args [] None ∷ rest.items) rest) → IsLeaner program s s' →
    IsLeaner program s (record s' { current = Doing (frame_of (Does g h place ∷ rest.items) rest) })
exit_left_out program s s' g h place p args rest e (leaner {c = c} {c' = c'} ch are) = leaner ch (currents_kept c c' g h place p args rest e are)

module _ (tells : LeanerTellsTheSame) (found : LeanerStatesAreFound) (what : Tests) (program : Program) (bound : ℕ) (is : IsProgram program) where
  after_ended : (p : Phase) (told : List ℕ) (count : ℕ) (ended : Option Ending) (events : List Event) (tests : ℕ) (s s' : State) → IsLeaner program s s' →
      Moves what program bound p (tested_trace (record { told = told; tests = count; ended = ended }) (record { events = events; tests = tests; phase = Going s })) →
      Moves what program bound p (tested_trace (record { told = told; tests = count; ended = ended }) (record { events = events; tests = tests; phase = Going s' }))
  after_ended p told count None events tests s s' are m = (moves_compose what program bound).after p (map Broken told ++ events) (count + tests) s s' m (tells program is s s' are)
  after_ended p told count (Some e) events tests s s' are m = m

  numbered : (n : ℕ) (s : State) → IsLeaner program s s → AreBelow n s.choices → IsCurrentBelow n s.current → IsLeaner program s (record s { fresh = n }) × IsLeaner program (record s { fresh = n }) (record s { fresh = n })
  numbered n s own choices now =
      let lower = (found program is).lower n s s choices now own in
      (lower, (found program is).own s (record s { fresh = n }) lower)

  pub leaners_move : LeanersMove what program bound
  leaners_move = record {
    after = λ p events tests s s' m are. (moves_compose what program bound).after p events tests s s' m (tells program is s s' are);
    after_tests = λ p r events tests s s' m are. after_ended p r.told r.tests r.ended events tests s s' are m;
    before = λ s s' t are m. (moves_compose what program bound).before s s' t (tells program is s s' are) m;
    numbered = numbered;
    without_exit = exit_left_out program;
  }

  pub calls_move : CallsMove what program bound
  calls_move = record {
    chosen_clauses = λ made n p cs g args h place rest r chooses e lt has own others.
        let noted = whose_pre_holds program args (looks_at what program bound p).notes in
        let marked = whose_pre_holds program args (looks_at what program bound p).marks in
        let clauses = (pred_of program p).clauses in
        let call = call_above cs p args noted marked rest in
        let fuller = after_call made n cs p marked (tries 0 clauses call) in
        let picked = after_call made n cs p marked (chosen chooses 0 clauses call) in
        let are : IsLeaner program fuller picked = (found program is).called made n p g args noted marked h place cs rest clauses chooses (ap out-Goal e ∙ outs-Call p args) own others in
        let makes = (calls_make what program bound made n cs).tested g p args h place rest r e lt has in
        after_ended (Going (before_goal made n cs g h place rest)) r.told r.tests r.ended [] (length (looks_at what program bound p).notes + length (looks_at what program bound p).marks) fuller picked are
        (made_moves what program bound (before_goal made n cs g h place rest) _ makes);
  }
