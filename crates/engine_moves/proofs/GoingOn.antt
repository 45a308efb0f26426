-- An engine that goes over into others, one after the other.
use Rattle.std.proofs.Common.{◌≡◌, ◌≤◌, ℕ, List, length, refl, sym, subst, ◌∙◌, arith}
use Rattle.machine_model.specs.State.{Choice}
use Rattle.term_heap.specs.Changes.{size_of}
use Rattle.prop_check.specs.Places.{row_at}
use Rattle.engine_state.specs.declared.engine.Engine as code
use Rattle.engine_state.specs.declared.tasks.Row.{Row}
use Rattle.engine_state.specs.StepsMade.{whose_pre_holds}
use Rattle.engine_state.specs.Moments.{IsCallPlaced}
use Rattle.engine_state.specs.Stages.{choices_at, IsKept}
use Rattle.engine_state.specs.Turns.{GoesTo}
use Rattle.engine_moves.specs.declared.looking.Kind.{Kind}
use Rattle.engine_moves.specs.declared.readings.Reading.{Reading}
use Rattle.engine_moves.specs.Looking.{looked_by, looks_by}
use Rattle.engine_moves.specs.Calling.{looked_at, noted_at}

pub goes_on : (first mid last : code.Engine) (rest more : ℕ) (cs ds : List Choice) → GoesTo first rest cs mid → GoesTo mid more ds last → rest ≤ more → GoesTo first rest ds last
goes_on first mid last rest more cs ds a b le = record {
  program = b.program ∙ a.program;
  heap = b.heap ∙ a.heap;
  calls = b.calls ∙ a.calls;
  query = b.query ∙ a.query;
  choices_are = b.choices_are;
  tasks = λ j under. b.tasks j (omega (arith, under, le)) ∙ a.tasks j under;
  kept = b.kept;
  there = omega (arith, le, b.there);
}

-- an engine that stays
pub stays : (e : code.Engine) (rest : ℕ) → IsKept e → rest ≤ length e.links.items → GoesTo e rest (choices_at e) e
stays e rest kept there = record { program = refl; heap = refl; calls = refl; query = refl; choices_are = refl; tasks = λ j le. refl; kept = kept; there = there }

-- what is looked at and noted stays
module _ (old new : code.Engine) (rest : ℕ) (cs : List Choice) (goes : GoesTo old rest cs new) (reading : Reading) (kind : Kind) (pred : ℕ) where
  pub looked_same : looked_at new reading kind pred ≡ looked_at old reading kind pred
  looked_same = λ i. looked_by kind (looks_by (goes.program i) reading pred)

  pub noted_same : (args : Row) → noted_at new reading kind pred args ≡ noted_at old reading kind pred args
  noted_same args = λ i. whose_pre_holds (goes.program i) (row_at ((goes.heap i).changes) args.first args.count) (looked_by kind (looks_by (goes.program i) reading pred))

-- a call's cells stay there
pub call_there : (old new : code.Engine) (rest : ℕ) (cs : List Choice) (pred : ℕ) (args : Row) → GoesTo old rest cs new → IsCallPlaced old.program.now (size_of old.heap.changes) pred args → IsCallPlaced new.program.now (size_of new.heap.changes) pred args
call_there old new rest cs pred args goes placed =
    subst (λ h. IsCallPlaced new.program.now (size_of h.changes) pred args) (sym goes.heap) (subst (λ p. IsCallPlaced p (size_of old.heap.changes) pred args) (sym goes.program) placed)
