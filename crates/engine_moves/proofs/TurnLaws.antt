-- Turns that make steps of the semantics.
use Rattle.std.proofs.Common.{◌≡◌, ◌+◌, ◌-◌, ◌^◌, ℕ, min, List, [], ◌++◌, map, Option, Some, None, refl, sym, ap, subst, ◌∙◌, arith}
use Rattle.std.proofs.lemmas.List.{append-nil}
use Rattle.prog_data.specs.declared.events.Ending.{Ending}
use Rattle.prog_data.specs.declared.events.Event.TheVariants.{Broken}
use Rattle.prog_data.specs.declared.programs.Program.{Program}
use Rattle.prog_data.specs.Programs.{IsProgram}
use Rattle.machine_model.specs.State.{State, Phase, Going, Over, Trace}
use Rattle.machine_model.specs.Step.{quietly}
use Rattle.machine_model.specs.Tests.{Tests}
use Rattle.machine_model.specs.Leaner.{IsLeaner}
use Rattle.machine_model.specs.LeanerLaws.{IsDone, LeanerStatesAreFound}
use Rattle.engine_state.specs.declared.engine.Engine as code
use Rattle.engine_state.specs.declared.stages.Stage as code_stage
use Rattle.engine_state.specs.declared.stages.Stage.TheVariants as stage
use Rattle.engine_state.specs.Tested.{Tested, tested_trace, unless_ended}
use Rattle.engine_state.specs.Findings.{IsAdded}
use Rattle.engine_state.specs.Moves.{Makes, Moves, MovesCompose}
use Rattle.engine_state.specs.Stages.{phase_of, IsWhole}
use Rattle.engine_state.specs.Turns.{IsQuietMove, HasMoved}
use Rattle.engine_moves.specs.declared.readings.Reading.{Reading}
use Rattle.engine_moves.specs.Readings.{tests_by}
use Rattle.engine_moves.specs.Turned.{IsMoveTo, HasTurned}

-- the trace of tests that ended the run
ended_trace : (r : Tested) (next : Trace) (told : List ℕ) (e : Ending) → told ≡ r.told → Some e ≡ r.ended → tested_trace r next ≡ record { events = map Broken told; tests = r.tests; phase = Over e }
ended_trace r next told e is ends =
    let none : r.tests + 0 ≡ r.tests = omega arith in
    (λ i. record { events = map Broken (sym is i) ++ (unless_ended (sym ends i) next).events; tests = r.tests + (unless_ended (sym ends i) next).tests; phase = (unless_ended (sym ends i) next).phase })
    ∙ (λ i. record { events = append-nil (map Broken told) i; tests = none i; phase = Over e })

-- and of those that did not, before what told nothing
open_trace : (r : Tested) (next : Trace) (told : List ℕ) (p : Phase) → told ≡ r.told → None ≡ r.ended → next.events ≡ [] → next.phase ≡ p → tested_trace r next ≡ record { events = map Broken told; tests = r.tests + next.tests; phase = p }
open_trace r next told p is ends quiet phase =
    (λ i. record { events = map Broken (sym is i) ++ (unless_ended (sym ends i) next).events; tests = r.tests + (unless_ended (sym ends i) next).tests; phase = (unless_ended (sym ends i) next).phase })
    ∙ (λ i. record { events = (ap (λ es. map Broken told ++ es) quiet ∙ append-nil (map Broken told)) i; tests = r.tests + next.tests; phase = phase i })

-- a move without event and test
quiet_to : (what : Tests) (program : Program) (bound : ℕ) (s : State) (p : Option Phase) → IsQuietMove what program bound s p → IsMoveTo what program bound s [] 0 p
quiet_to what program bound s None m = m
quiet_to what program bound s (Some p) m = m

module _ (reading : Reading) (old : code.Engine) (from : State) where
  -- what moved is a turn that told and tested nothing
  pub quiet_turn : (bound : ℕ) (new : code.Engine) (to : code_stage.Stage) (told : List ℕ) → told ≡ [] → HasMoved old from new to → HasTurned reading bound old from (map Broken told) 0 new to
  quiet_turn bound new to told none moved = record {
    program = moved.program;
    tests = 0;
    counted_are = omega arith;
    moves = subst (λ ts. IsMoveTo (tests_by old.program.now reading) old.program.now bound from (map Broken ts) 0 (phase_of new to)) (sym none)
        (quiet_to (tests_by old.program.now reading) old.program.now bound from (phase_of new to) (moved.moves (tests_by old.program.now reading) bound));
    whole = moved.whole;
  }

  module _ (bound : ℕ) (compose : MovesCompose (tests_by old.program.now reading) old.program.now bound) where
    abbrev what : Tests
    what = tests_by old.program.now reading

    -- a step without test that ends the run
    pub over_turn : (told : List ℕ) (e : Ending) → told ≡ [] → Makes what old.program.now bound from (quietly (Over e)) → HasTurned reading bound old from (map Broken told) 0 old (stage.Over e)
    over_turn told e none makes = record {
      program = refl;
      tests = 0;
      counted_are = omega arith;
      moves = subst (λ ts. IsMoveTo what old.program.now bound from (map Broken ts) 0 (Some (Over e))) (sym none) (compose.made from (quietly (Over e)) makes);
      whole = tt;
    }

    -- tests that ended the run
    pub ended_turn : (r : Tested) (next : Trace) (none told : List ℕ) (tests : ℕ) (e : Ending) → none ≡ [] → IsAdded none 0 r told tests (Some e) → Makes what old.program.now bound from (tested_trace r next) → HasTurned reading bound old from (map Broken told) tests old (stage.Over e)
    ended_turn r next none told tests e is_none added makes =
        let is : told ≡ r.told = added.told_is ∙ ap (λ ts. ts ++ r.told) is_none in
        record {
          program = refl;
          tests = r.tests;
          counted_are = omega (arith, added.tests_are);
          moves = subst (Moves what old.program.now bound (Going from)) (ended_trace r next told e is added.ended_is) (compose.made from (tested_trace r next) makes);
          whole = tt;
        }

    -- tests that did not, and what came after them
    pub open_moved : (r : Tested) (next : Trace) (none told : List ℕ) (tests counted : ℕ) (new : code.Engine) (s : State) (to : code_stage.Stage) → none ≡ [] → IsAdded none 0 r told tests None → Moves what old.program.now bound (Going from) (tested_trace r next) →
        next.events ≡ [] → next.phase ≡ Going s → counted ≡ min (r.tests + next.tests) (2 ^ 64 - 1) → new.program.now ≡ old.program.now → phase_of new to ≡ Some (Going s) →
        IsLeaner old.program.now s s → (IsLeaner new.program.now s s → IsWhole new to) → HasTurned reading bound old from (map Broken told) counted new to
    open_moved r next none told tests counted new s to is_none added moves quiet phase sum same to_is own whole =
        let is : told ≡ r.told = added.told_is ∙ ap (λ ts. ts ++ r.told) is_none in
        let trace : tested_trace r next ≡ record { events = map Broken told; tests = r.tests + next.tests; phase = Going s } = open_trace r next told (Going s) is added.ended_is quiet phase in
        record {
          program = same;
          tests = r.tests + next.tests;
          counted_are = sum;
          moves = subst (λ p. IsMoveTo what old.program.now bound from (map Broken told) (r.tests + next.tests) p) (sym to_is) (subst (Moves what old.program.now bound (Going from)) trace moves);
          whole = whole (subst (λ p. IsLeaner p s s) (sym same) own);
        }

    -- so by steps of the semantics
    pub open_turn : (r : Tested) (next : Trace) (none told : List ℕ) (tests counted : ℕ) (new : code.Engine) (s : State) (to : code_stage.Stage) → none ≡ [] → IsAdded none 0 r told tests None → Makes what old.program.now bound from (tested_trace r next) →
        next.events ≡ [] → next.phase ≡ Going s → counted ≡ min (r.tests + next.tests) (2 ^ 64 - 1) → new.program.now ≡ old.program.now → phase_of new to ≡ Some (Going s) →
        LeanerStatesAreFound → IsProgram old.program.now → IsLeaner old.program.now from from → IsDone s.current → (IsLeaner new.program.now s s → IsWhole new to) → HasTurned reading bound old from (map Broken told) counted new to
    open_turn r next none told tests counted new s to is_none added makes quiet phase sum same to_is found ok own done whole =
        let is : told ≡ r.told = added.told_is ∙ ap (λ ts. ts ++ r.told) is_none in
        let trace : tested_trace r next ≡ record { events = map Broken told; tests = r.tests + next.tests; phase = Going s } = open_trace r next told (Going s) is added.ended_is quiet phase in
        let own_new : IsLeaner old.program.now s s = compose.own (found old.program.now ok) from s (tested_trace r next) own makes (ap (λ t. t.phase) trace) done in
        open_moved r next none told tests counted new s to is_none added (compose.made from (tested_trace r next) makes) quiet phase sum same to_is own_new whole
