-- What a run does where it has failed.
use Rattle.std.proofs.Common.{◌≡◌, ◌≤◌, ◌<◌, ℕ, zero, suc, ◌-◌, ◌+◌, ◌^◌, Bool, List, [], ◌∷◌, ◌++◌, map, min, length, Option, None, Some, refl, sym, ap, subst, ◌∙◌, arith}
use Rattle.std.proofs.lemmas.List.{append-nil, length-map}
use Rattle.prog_data.specs.declared.programs.Program.{Program}
use Rattle.prog_data.specs.declared.events.Event.{Event}
use Rattle.prog_data.specs.declared.events.Event.TheVariants.{Broken}
use Rattle.prog_data.specs.declared.events.Ending.{Ending}
use Rattle.prog_data.specs.declared.events.Ending.TheVariants as ending
use Rattle.machine_model.specs.State.{Call, Try, Failed, State, Phase, Going, Over, Trace}
use Rattle.machine_model.specs.Tests.{Tests}
use Rattle.machine_model.specs.Step.{quietly}
use Rattle.machine_model.specs.Leaner.{IsLeaner}
use Rattle.clause_index.specs.declared.keys.Key.{Key}
use Rattle.term_heap.specs.Changes.{size_of, value_of, places}
use Rattle.engine_state.specs.declared.engine.Engine as code
use Rattle.engine_state.specs.declared.points.Pending as code_pending
use Rattle.engine_state.specs.declared.points.Alternative as code_alternative
use Rattle.engine_state.specs.declared.points.Alternative.TheVariants as alternative
use Rattle.engine_state.specs.declared.stages.Stage as code_stage
use Rattle.engine_state.specs.declared.stages.Stage.TheVariants as stage
use Rattle.engine_state.specs.declared.tasks.Row.{Row}
use Rattle.engine_state.specs.Engines.{frame_with, call_with, as_state}
use Rattle.engine_state.specs.Views.{row_of, as_alternative, as_pending}
use Rattle.engine_state.specs.Selections.{selected_at, clause_number}
use Rattle.engine_state.specs.Stacks.{width}
use Rattle.engine_state.specs.Stages.{as_engine, choices_at, tasks_at, frame_now, doing, phase_of, IsAt, IsWhole}
use Rattle.engine_state.specs.Turns.{back_state, HasGoneBack}
use Rattle.engine_state.specs.Moves.{Moves}
use Rattle.engine_state.specs.StepsMade.{failing, found_at_failure}
use Rattle.engine_state.specs.Tested.{Tested, HasTested, tested_trace}
use Rattle.engine_state.specs.Findings.{HasAdded}
use Rattle.engine_moves.specs.declared.readings.Reading.{Reading}
use Rattle.engine_moves.specs.Readings.{tests_by}
use Rattle.engine_moves.specs.Relied.{Relied}
use Rattle.engine_moves.specs.Turned.{IsMoveTo, HasTurned}
use Rattle.engine_moves.specs.Tries.{try_state, IsToTry}
use Rattle.engine_moves.specs.Failures.{IsBackAt, failed_unless}
use Rattle.engine_moves.proofs.MadeTurns.{moved_before}

-- what went back

pub is_back : (old new : code.Engine) (a : code_alternative.Alternative) → HasGoneBack old a new → IsBackAt new a
is_back old new a h = record { kept = h.taken.kept; own = h.own; placed = h.taken.placed; noted = h.taken.noted; wide = h.taken.wide; single = h.taken.single }

-- no choice is left
pub none_left : Relied → (reading : Reading) (bound : ℕ) (old new : code.Engine) (told : List ℕ) → new.program.now ≡ old.program.now → choices_at old ≡ [] → told ≡ [] →
    HasTurned reading bound old (as_state (as_engine old) Failed) (map Broken told) 0 new (stage.Over ending.NoMore)
none_left law reading bound old new told same none told_none =
    let program : Program = old.program.now in
    let what : Tests = tests_by program reading in
    let size : ℕ = size_of old.heap.changes in
    let move : Moves what program bound (Going (failing old.calls size [])) (quietly (Over ending.NoMore)) =
    (law.compose what program bound).made (failing old.calls size []) (quietly (Over ending.NoMore)) (law.failures what program bound old.calls size []).none in
    record {
      program = same;
      tests = 0;
      counted_are = refl;
      moves = subst (λ ts. Moves what program bound (Going (as_state (as_engine old) Failed)) (record { events = map Broken ts; tests = 0; phase = Over ending.NoMore })) (sym told_none)
          (subst (λ cs. Moves what program bound (Going (failing old.calls size cs)) (quietly (Over ending.NoMore))) (sym none) move);
      whole = tt;
    }

-- a choice was gone on with
pub gone_on : Relied → (reading : Reading) (bound : ℕ) (old mid new : code.Engine) (a : code_alternative.Alternative) (events : List Event) (counted : ℕ) (to : code_stage.Stage) → IsWhole old stage.Failed → HasGoneBack old a mid →
    HasTurned reading bound mid (back_state mid a) events counted new to → HasTurned reading bound old (as_state (as_engine old) Failed) events counted new to
gone_on law reading bound old mid new a events counted to whole back turned =
    let failed : State = as_state (as_engine old) Failed in
    let from : State = back_state mid a in
    let same : IsLeaner old.program.now failed from = subst (λ p. IsLeaner p failed from) back.taken.program back.same in
    let moves : IsMoveTo (tests_by old.program.now reading) old.program.now bound from events turned.tests (phase_of new to) =
    subst (λ p. IsMoveTo (tests_by p reading) p bound from events turned.tests (phase_of new to)) back.taken.program turned.moves in
    record {
      program = turned.program ∙ back.taken.program;
      tests = turned.tests;
      counted_are = turned.counted_are;
      moves = moved_before law (tests_by old.program.now reading) old.program.now bound failed from events turned.tests (phase_of new to) whole.kept.in_range same moves;
      whole = turned.whole;
    }

-- a link is gone on with
pub resumed : Relied → (reading : Reading) (bound : ℕ) (e : code.Engine) (rest : ℕ) (told : List ℕ) → told ≡ [] → IsBackAt e (alternative.Resumes rest) → HasTurned reading bound e (back_state e (alternative.Resumes rest)) (map Broken told) 0 e (stage.Doing rest)
resumed law reading bound e rest told none back =
    let program : Program = e.program.now in
    let what : Tests = tests_by program reading in
    let from : State = back_state e (alternative.Resumes rest) in
    let to : State = doing e (tasks_at e rest) in
    let compose = law.compose what program bound in
    let makes = (law.failures what program bound e.calls (size_of e.heap.changes) (choices_at e)).resume (frame_now e (tasks_at e rest)) in
    record {
      program = refl;
      tests = 0;
      counted_are = refl;
      moves = subst (λ ts. Moves what program bound (Going from) (record { events = map Broken ts; tests = 0; phase = Going to })) (sym none) (compose.made from (quietly (Going to)) makes);
      whole = record { kept = back.kept; own = compose.own (law.found program back.kept.in_range) from to (quietly (Going to)) back.own makes refl tt; in_hand = back.placed };
    }

-- a clause is tried

length-places : (first count : ℕ) → length (places first count) ≡ count
length-places first zero = refl
length-places first (suc count) = ap suc (length-places (suc first) count)

module _ (e : code.Engine) (key : Key) (next end : ℕ) (c : code_pending.Pending) (back : IsBackAt e (alternative.Retries key next end c)) where
  abbrev number : ℕ
  number = clause_number e.index c.exit.pred key next

  -- there is one at its place
  pub is_selected : next < length (selected_at e.index c.exit.pred key)
  is_selected =
      let less : next < end = back.wide in
      let most : end ≤ length (selected_at e.index c.exit.pred key) = subst (λ keys. end ≤ length (selected_at keys c.exit.pred key)) (sym back.kept.indexed) back.placed.1 in
      omega (arith, less, most)

  pub clause_state : back_state e (alternative.Retries key next end c) ≡ try_state e number c
  clause_state =
      let left = length-map (places next (end - next)) (clause_number e.index c.exit.pred key) in
      let one : end - next ≡ suc zero = let less : next < end = back.wide in omega (arith, less, back.single, left, length-places next (end - next)) in
      let call : Call = call_with (value_of e.heap.changes) (tasks_at e c.rest) e.query (as_pending e.notes.items c) in
      ap (λ n. record { calls = e.calls; fresh = size_of e.heap.changes; choices = map (λ k. Try k call) (map (clause_number e.index c.exit.pred key) (places next n)) ++ choices_at e; current = Failed }) one

  pub is_to_try : IsToTry e number c
  is_to_try = record {
    kept = back.kept;
    own = subst (λ s. IsLeaner e.program.now s s) clause_state back.own;
    in_hand = record { call = back.placed.0; noted = back.noted; rest = back.placed.2 };
  }

  pub clause_tried : (reading : Reading) (bound : ℕ) (new : code.Engine) (told : List ℕ) (counted : ℕ) (to : code_stage.Stage) → told ≡ [] →
      HasTurned reading bound e (try_state e number c) [] counted new to → HasTurned reading bound e (back_state e (alternative.Retries key next end c)) (map Broken told) counted new to
  clause_tried reading bound new told counted to none turned =
      subst (λ ts. HasTurned reading bound e (back_state e (alternative.Retries key next end c)) (map Broken ts) counted new to) (sym none)
      (subst (λ s. HasTurned reading bound e s [] counted new to) (sym clause_state) turned)

-- a mark is tested

-- the phase behind tests
abbrev behind_tests : Option Ending → Phase → Phase
behind_tests None p = p
behind_tests (Some ending) p = Over ending

module _ (told : List ℕ) (tests : ℕ) where
  quiet_trace : (ended : Option Ending) (p : Phase) → tested_trace (record { told = told; tests = tests; ended = ended }) (quietly p) ≡ record { events = map Broken told; tests = tests; phase = behind_tests ended p }
  quiet_trace None p = let none : tests + 0 ≡ tests = omega arith in λ i. record { events = append-nil (map Broken told) i; tests = none i; phase = p }
  quiet_trace (Some ending) p = let none : tests + 0 ≡ tests = omega arith in λ i. record { events = append-nil (map Broken told) i; tests = none i; phase = Over ending }

module _ (law : Relied) (reading : Reading) (bound : ℕ) (e : code.Engine) (p : ℕ) (conds : Row) (exited : Bool) (back : IsBackAt e (alternative.Marks p conds exited)) where
  abbrev program : Program
  program = e.program.now

  abbrev what : Tests
  what = tests_by program reading

  abbrev from : State
  from = back_state e (alternative.Marks p conds exited)

  abbrev failed : State
  failed = as_state (as_engine e) Failed

  phase_behind : (ended : Option Ending) → phase_of e (failed_unless ended) ≡ Some (behind_tests ended (Going failed))
  phase_behind None = refl
  phase_behind (Some ending) = refl

  whole_behind : (ended : Option Ending) → (ended ≡ None → IsLeaner program failed failed) → IsWhole e (failed_unless ended)
  whole_behind None own = record { kept = back.kept; own = own refl; in_hand = tt }
  whole_behind (Some ending) own = tt

  pub mark_tested : (told told' : List ℕ) (counted : ℕ) (ended : Option Ending) → told ≡ [] → HasAdded what.stops 0 (found_at_failure program exited) (row_of e.notes.items conds) told told' counted ended →
      HasTurned reading bound e from (map Broken told') counted e (failed_unless ended)
  mark_tested told told' counted ended none has =
      let r : Tested = has.r in
      let next : Trace = quietly (Going failed) in
      let compose = law.compose what program bound in
      let makes = (law.failures what program bound e.calls (size_of e.heap.changes) (choices_at e)).mark p (row_of e.notes.items conds) exited r has.has in
      let told_is : r.told ≡ told' = sym (has.added.told_is ∙ ap (λ ts. ts ++ r.told) none) in
      let ended_is : r.ended ≡ ended = sym has.added.ended_is in
      let trace : tested_trace r next ≡ record { events = map Broken told'; tests = r.tests; phase = behind_tests ended (Going failed) } =
      quiet_trace r.told r.tests r.ended (Going failed) ∙ (λ i. record { events = map Broken (told_is i); tests = r.tests; phase = behind_tests (ended_is i) (Going failed) }) in
      let count : 0 + r.tests ≡ r.tests = omega arith in
      record {
        program = refl;
        tests = r.tests;
        counted_are = has.added.tests_are ∙ ap (λ n. min n (2 ^ 64 - 1)) count;
        moves = subst (IsMoveTo what program bound from (map Broken told') r.tests) (sym (phase_behind ended)) (subst (Moves what program bound (Going from)) trace (compose.made from (tested_trace r next) makes));
        whole = whole_behind ended (λ e_none. compose.own (law.found program back.kept.in_range) from failed (tested_trace r next) back.own makes (ap (λ t. t.phase) trace ∙ ap (λ o. behind_tests o (Going failed)) e_none) tt);
      }
