-- Exits of calls.
use Rattle.std.proofs.Common.{◌≡◌, ◌+◌, ◌-◌, ◌^◌, ℕ, min, Bool, List, [], ◌∷◌, ◌++◌, map, length, Option, Some, None, refl, sym, ap, subst, ◌∙◌, append_assoc, arith}
use Rattle.std.proofs.lemmas.List.{append-nil}
use Rattle.prog_data.specs.declared.events.Ending.{Ending}
use Rattle.prog_data.specs.declared.events.Event.TheVariants.{Broken}
use Rattle.machine_model.specs.State.{Doing, Going, Trace, exit_mark}
use Rattle.machine_model.specs.Step.{Finding, quietly, mark_of, mark_conds, mark_exited}
use Rattle.machine_model.specs.LeanerLaws.{LeanerStatesAreFound}
use Rattle.term_heap.specs.Changes.{size_of, value_of}
use Rattle.engine_state.specs.declared.engine.Engine as code
use Rattle.engine_state.specs.declared.findings.Counted.{Counted}
use Rattle.engine_state.specs.declared.tasks.Exit as code_exit
use Rattle.engine_state.specs.declared.stages.Stage.TheVariants as stage
use Rattle.engine_state.specs.Engines.{frame_with}
use Rattle.engine_state.specs.Views.{row_of}
use Rattle.engine_state.specs.Tested.{Tested, untested, HasTested, tested_on, tested_then, tested_trace, found, TestsJoin}
use Rattle.engine_state.specs.Findings.{IsAdded, HasAdded}
use Rattle.engine_state.specs.Moves.{Makes, MovesCompose}
use Rattle.engine_state.specs.StepsMade.{found_at_exit, found_at_mark, ExitsMake}
use Rattle.engine_state.specs.StepsMade as made
use Rattle.engine_state.specs.Stages.{choices_at, tasks_at, frame_now, doing, IsAt}
use Rattle.engine_state.specs.Turns.{GoesTo}
use Rattle.engine_moves.specs.declared.readings.Reading.{Reading}
use Rattle.engine_moves.specs.Readings.{tests_by}
use Rattle.engine_moves.specs.Turned.{HasTurned}
use Rattle.engine_moves.specs.Calling.{terms_at}
use Rattle.engine_moves.specs.Exiting.{exit_state, IsExitPlaced, HasTestedExit}
use Rattle.engine_moves.proofs.TurnLaws.{ended_turn, open_turn}

module _ (join : TestsJoin) (stops : Bool) (counts : ℕ) (find : ℕ → Finding) where
  -- nothing was tested
  pub none_added : (told : List ℕ) → HasAdded stops counts find [] told told 0 None
  none_added told = record { r = untested; has = join.none stops counts find; added = record { told_is = sym (append-nil told); tests_are = omega arith; ended_is = refl } }

  -- tests of any conditions give something
  some_tested : (cs : List ℕ) → (r : Tested) × HasTested stops counts find cs r
  some_tested [] = (untested, join.none stops counts find)
  some_tested (c ∷ cs) =
      let others = some_tested cs in
      let first = found stops counts c (find c) in
      (tested_then first others.0, join.both stops counts find (c ∷ []) cs first others.0 (join.one stops counts find c) others.1)

module _ (join : TestsJoin) (reading : Reading) (e : code.Engine) (exit : code_exit.Exit) where
  abbrev stops : Bool
  stops = (tests_by e.program.now reading).stops

  abbrev find_notes : ℕ → Finding
  find_notes = found_at_exit e.program.now (terms_at e exit.args)

  abbrev find_mark : ℕ → Finding
  find_mark = found_at_mark e.program.now (mark_exited (mark_of exit.mark (choices_at e)))

  abbrev notes : List ℕ
  notes = row_of e.notes.items exit.noted

  abbrev conds : List ℕ
  conds = mark_conds (mark_of exit.mark (choices_at e))

  -- those of the notes ended the run
  pub ended_first : (told told' : List ℕ) (counted : Counted) (end : Ending) → counted.ended ≡ Some end → HasAdded stops 1 find_notes notes told told' counted.tests counted.ended → HasTestedExit reading e exit told told' counted
  ended_first told told' counted end is first =
      let r = first.r in
      let others = some_tested join stops 0 find_mark conds in
      let ended : r.ended ≡ Some end = sym first.added.ended_is ∙ is in
      let joined : tested_then r others.0 ≡ record { told = r.told; tests = r.tests; ended = Some end } = ap (λ o. tested_on r.told r.tests o others.0) ended in
      record {
        first = r;
        second = others.0;
        notes = first.has;
        mark = others.1;
        added = subst (λ t. IsAdded told 0 t told' counted.tests counted.ended) (sym joined) (record { told_is = first.added.told_is; tests_are = first.added.tests_are; ended_is = is });
      }

  -- they did not, and those of the mark were made
  pub both_tested : (told mid told' : List ℕ) (m n total : ℕ) (ended : Option Ending) → HasAdded stops 1 find_notes notes told mid m None → HasAdded stops 0 find_mark conds mid told' n ended → total ≡ min (m + n) (2 ^ 64 - 1) →
      HasTestedExit reading e exit told told' (record { tests = total; ended = ended })
  both_tested told mid told' m n total ended first second sum =
      let r = first.r in
      let r' = second.r in
      let joined : tested_then r r' ≡ record { told = r.told ++ r'.told; tests = r.tests + r'.tests; ended = r'.ended } = ap (λ o. tested_on r.told r.tests o r') (sym first.added.ended_is) in
      record {
        first = r;
        second = r';
        notes = first.has;
        mark = second.has;
        added = subst (λ t. IsAdded told 0 t told' total ended) (sym joined)
            (record {
              told_is = second.added.told_is ∙ ap (λ ts. ts ++ r'.told) first.added.told_is ∙ append_assoc told r.told r'.told;
              tests_are = omega (arith, sum, first.added.tests_are, second.added.tests_are);
              ended_is = second.added.ended_is;
            });
      }

-- the turn

module _ (reading : Reading) (bound : ℕ) (e : code.Engine) (exit : code_exit.Exit) (rest : ℕ) (compose : MovesCompose (tests_by e.program.now reading) e.program.now bound)
    (make : ExitsMake (tests_by e.program.now reading) e.program.now bound e.calls (size_of e.heap.changes) (choices_at e)) (none told : List ℕ) (is_none : none ≡ []) (counted : Counted) (tested : HasTestedExit reading e exit none told counted) where
  abbrev next : Trace
  next = quietly (Going (made.doing e.calls (size_of e.heap.changes) (exit_mark exit.mark (choices_at e)) (frame_now e (tasks_at e rest))))

  abbrev given : Tested
  given = tested_then tested.first tested.second

  makes : Makes (tests_by e.program.now reading) e.program.now bound (exit_state e exit rest) (tested_trace given next)
  makes = make.tested exit.pred (terms_at e exit.args) (row_of e.notes.items exit.noted) exit.mark (frame_now e (tasks_at e rest)) tested.first tested.second tested.notes tested.mark

  pub exit_ended : (end : Ending) → counted.ended ≡ Some end → HasTurned reading bound e (exit_state e exit rest) (map Broken told) counted.tests e (stage.Over end)
  exit_ended end is =
      ended_turn reading e (exit_state e exit rest) bound compose given next none told counted.tests end is_none (subst (λ o. IsAdded none 0 given told counted.tests o) is tested.added) makes

  pub exited : (new : code.Engine) → counted.ended ≡ None → GoesTo e (length e.links.items) (exit_mark exit.mark (choices_at e)) new → LeanerStatesAreFound → IsAt e (exit_state e exit rest) (IsExitPlaced e exit rest) →
      HasTurned reading bound e (exit_state e exit rest) (map Broken told) counted.tests new (stage.Doing rest)
  exited new is goes found at =
      let behind : tasks_at new rest ≡ tasks_at e rest = goes.tasks rest at.in_hand.2 in
      let phase : next.phase ≡ Going (doing new (tasks_at new rest)) = λ i. Going (record {
        calls = sym goes.calls i;
        fresh = size_of ((sym goes.heap i).changes);
        choices = sym goes.choices_are i;
        current = Doing (frame_with (value_of ((sym goes.heap i).changes)) (sym behind i) (sym goes.query i));
      }) in
      open_turn reading e (exit_state e exit rest) bound compose given next none told counted.tests counted.tests new (doing new (tasks_at new rest)) (stage.Doing rest) is_none
      (subst (λ o. IsAdded none 0 given told counted.tests o) is tested.added) makes refl phase (omega (arith, tested.added.tests_are)) goes.program refl found at.kept.in_range at.own tt
      (λ own. record { kept = goes.kept; own = own; in_hand = omega (arith, at.in_hand.2, goes.there) })
