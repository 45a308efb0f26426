-- Turns of built-ins.
use Rattle.std.proofs.Common.{◌≡◌, ◌≤◌, ℕ, List, [], ◌∷◌, length, Option, None, Some, refl, sym, ap, ◌∙◌, subst, arith, true≢false}
use Rattle.std.specs.Prelude.{ℤ, Bool}
use Rattle.std.proofs.lemmas.List.{length-append}
use Rattle.term_core.specs.declared.terms.Term.{Term, Int}
use Rattle.term_core.specs.Terms.{occurs_step}
use Rattle.term_core.proofs.TermFolds.{fold-Int}
use Rattle.prog_data.specs.declared.programs.Program.{Program}
use Rattle.prog_data.specs.declared.events.Event.{Event}
use Rattle.machine_model.specs.State.{State, Phase}
use Rattle.machine_model.specs.Tests.{Tests}
use Rattle.term_heap.specs.Changes.{History, Grows, size_of, next_serial, undone}
use Rattle.term_heap.specs.PastStays.{GoesOn}
use Rattle.term_heap.specs.Loads.{IsPlaced, HasLoaded}
use Rattle.term_heap.proofs.HistoryLaws.{undone_here}
use Rattle.term_heap.proofs.PastLaws.{lengths_stay, sizes_stay}
use Rattle.engine_state.specs.declared.engine.Engine as code
use Rattle.engine_state.specs.declared.stages.Stage as code_stage
use Rattle.engine_state.specs.Stages.{phase_of}
use Rattle.engine_state.specs.BuiltinMoves.{IsUntestedMove, HasDone}
use Rattle.engine_moves.specs.declared.readings.Reading.{Reading}
use Rattle.engine_moves.specs.Texts.{events_of}
use Rattle.engine_moves.specs.Readings.{tests_by}
use Rattle.engine_moves.specs.Turned.{IsMoveTo, HasTurned}

-- a move without test, by what a reading tests
same_move : (what : Tests) (program : Program) (bound : ℕ) (s : State) (events : List Event) (p : Option Phase) → IsUntestedMove what program bound s events p → IsMoveTo what program bound s events 0 p
same_move what program bound s events None move = move
same_move what program bound s events (Some p) move = move

pub turned : (old new : code.Engine) (from : State) (events : List Event) (to : code_stage.Stage) → HasDone old from events new to → (reading : Reading) (bound : ℕ) → HasTurned reading bound old from events 0 new to
turned old new from events to done reading bound = record {
  program = done.program;
  tests = 0;
  counted_are = refl;
  moves = same_move (tests_by old.program.now reading) old.program.now bound from events (phase_of new to) (done.moves (tests_by old.program.now reading) bound);
  whole = done.whole;
}

-- a number has no variable

pub number_placed : (size base : ℕ) (n : ℤ) → IsPlaced size base (Int n)
number_placed size base n v o = absurd (true≢false (sym o ∙ fold-Int Bool (occurs_step v) n))

-- a heap that is undone to where it was

pub longer : (old new : History) → GoesOn old new → length old.changes ≤ length new.changes
longer old new on = omega (arith, ap length on.is_new, length-append on.more old.changes)

pub undone_there : (old new : History) (n : ℕ) → n ≡ length old.changes → GoesOn old new → undone n new.changes ≡ old.changes
undone_there old new n is on =
    ap (undone n) on.is_new ∙ lengths_stay n on.more old.changes (omega (arith, is)) ∙ undone_here n old.changes (omega (arith, is))

-- a heap that grew
pub loaded_more : (old new : History) (base at : ℕ) (ts : List Term) → HasLoaded old base ts at new → size_of old.changes ≤ size_of new.changes
loaded_more old new base at ts loaded =
    let is : new.changes ≡ Grows loaded.cells (next_serial old.last) ∷ old.changes = ap (λ h. h.changes) loaded.is_new in
    subst (λ cs. size_of old.changes ≤ size_of cs) (sym is) (sizes_stay (Grows loaded.cells (next_serial old.last) ∷ []) old.changes)

-- a turn that tells nothing
pub quiet_turn : (old new made : code.Engine) (from : State) (to stage : code_stage.Stage) (text : Option (List ℕ)) → new ≡ made → stage ≡ to → text ≡ None → HasDone old from [] made to → HasDone old from (events_of text) new stage
quiet_turn old new made from to stage text engine stages none done =
    subst (λ e. HasDone old from (events_of text) e stage) (sym engine)
    (subst (λ s. HasDone old from (events_of text) made s) (sym stages) (subst (λ x. HasDone old from (events_of x) made to) (sym none) done))
