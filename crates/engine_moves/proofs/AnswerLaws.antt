-- The answer of a run.
use Rattle.std.proofs.Common.{◌≡◌, ℕ, List, [], ◌∷◌, refl, sym, subst}
use Rattle.std.specs.Prelude.{⊤}
use Rattle.term_core.specs.declared.terms.Term.{Term}
use Rattle.term_core.specs.Terms.{numbered}
use Rattle.prog_data.specs.declared.programs.Program.{Program}
use Rattle.prog_data.specs.declared.events.Event.TheVariants.{Answer}
use Rattle.machine_model.specs.State.{Failed, State, Going}
use Rattle.machine_model.specs.Tests.{Tests}
use Rattle.machine_model.specs.Step.{telling}
use Rattle.term_heap.specs.Changes.{size_of, value_of}
use Rattle.engine_state.specs.declared.engine.Engine as code
use Rattle.engine_state.specs.declared.stages.Stage.TheVariants as stage
use Rattle.engine_state.specs.Engines.{as_state}
use Rattle.engine_state.specs.Stages.{as_engine, choices_at, frame_now, doing, IsAt}
use Rattle.engine_moves.specs.declared.readings.Reading.{Reading}
use Rattle.engine_moves.specs.Readings.{tests_by}
use Rattle.engine_moves.specs.Relied.{Relied}
use Rattle.engine_moves.specs.Turned.{HasTurned}

pub answered : Relied → (reading : Reading) (bound : ℕ) (e : code.Engine) (t : Term) → IsAt e (doing e []) ⊤ → t ≡ numbered (value_of e.heap.changes e.query) → HasTurned reading bound e (doing e []) (Answer t ∷ []) 0 e stage.Failed
answered law reading bound e t at is =
    let program : Program = e.program.now in
    let what : Tests = tests_by program reading in
    let failed : State = as_state (as_engine e) Failed in
    let compose = law.compose what program bound in
    let makes = (law.goals what program bound e.calls (size_of e.heap.changes) (choices_at e)).answers (frame_now e []) refl in
    let own = compose.own (law.found program at.kept.in_range) (doing e []) failed _ at.own makes refl tt in
    subst (λ u. HasTurned reading bound e (doing e []) (Answer u ∷ []) 0 e stage.Failed) (sym is)
    (record {
      program = refl;
      tests = 0;
      counted_are = refl;
      moves = compose.made (doing e []) _ makes;
      whole = record { kept = at.kept; own = own; in_hand = tt };
    })
