-- A call that is made.
use Rattle.std.proofs.Common.{◌≡◌, ◌≤◌, ◌<◌, ◌+◌, ◌-◌, ◌^◌, ℕ, suc, min, false, List, [], ◌∷◌, ◌++◌, map, length, drop, Option, Some, None, refl, sym, ap, subst, ◌∙◌, arith}
use Rattle.std.proofs.lemmas.List.{length-append, length-drop, length-take-le}
use Rattle.std.specs.Prelude.{Vec}
use Rattle.std.specs.declared.alloc.Global.{Global}
use Rattle.prog_data.specs.declared.events.Ending.{Ending}
use Rattle.prog_data.specs.declared.events.Ending.TheVariants as ending
use Rattle.prog_data.specs.declared.events.Event.TheVariants.{Broken}
use Rattle.prog_data.specs.declared.goals.Goal as goal
use Rattle.prog_data.specs.declared.goals.Goal.TheVariants.{outs-Call}
use Rattle.prog_data.specs.declared.programs.Clause.{Clause}
use Rattle.prog_data.specs.declared.programs.Place.{Place}
use Rattle.prog_data.specs.declared.programs.Program.{Program}
use Rattle.prog_data.specs.Goals.{pred_of}
use Rattle.machine_model.specs.State.{Call, Choice, Failed, State, Phase, Going, Over, Trace}
use Rattle.machine_model.specs.Step.{tries, with_mark, mark_height}
use Rattle.machine_model.specs.Leaner.{IsLeaner}
use Rattle.machine_model.specs.LeanerLaws.{LeanerStatesAreFound, chosen, call_above, after_call}
use Rattle.clause_index.specs.declared.keys.Key.{Key}
use Rattle.clause_index.specs.Keys.{first_key}
use Rattle.clause_index.specs.Selected.{can_match}
use Rattle.clause_index.specs.Laws.{SelectsInOrder, LeftOutClash}
use Rattle.term_heap.specs.Changes.{size_of, value_of}
use Rattle.prop_check.specs.Places.{row_at}
use Rattle.engine_state.specs.declared.engine.Engine as code
use Rattle.engine_state.specs.declared.findings.Counted.{Counted}
use Rattle.engine_state.specs.declared.tasks.Row.{Row}
use Rattle.engine_state.specs.declared.tasks.Exit as code_exit
use Rattle.engine_state.specs.declared.points.Alternative.TheVariants as code_alternative
use Rattle.engine_state.specs.declared.stages.Stage.TheVariants as stage
use Rattle.engine_state.specs.Engines.{Pending, Retries, frame_with, alternative_choices, as_state}
use Rattle.engine_state.specs.Views.{row_of, as_links, as_exit, as_alternative}
use Rattle.engine_state.specs.Selections.{selected_at, clauses_left}
use Rattle.engine_state.specs.Notes.{IsRowWithin, NotesStay}
use Rattle.engine_state.specs.Moments.{MomentsStay, MomentsGive}
use Rattle.engine_state.specs.PointMoves.{PointsPushed}
use Rattle.engine_state.specs.Findings.{IsAdded, HasAdded}
use Rattle.engine_state.specs.Moves.{MovesCompose}
use Rattle.engine_state.specs.StepsMade.{found_at_call, after_calls_tests, CallsMake}
use Rattle.engine_state.specs.MoveLaws.{CallsMove}
use Rattle.engine_state.specs.Stages.{as_engine, choices_at, tasks_at, frame_now, IsKept, IsWhole}
use Rattle.engine_state.specs.Turns.{GoesTo}
use Rattle.engine_moves.specs.declared.calls.Noted.{Noted}
use Rattle.engine_moves.specs.declared.looking.Kind.{Kind}
use Rattle.engine_moves.specs.declared.looking.Kind.TheVariants.{Success, Comp}
use Rattle.engine_moves.specs.declared.readings.Reading.{Reading}
use Rattle.engine_moves.specs.Readings.{tests_by}
use Rattle.engine_moves.specs.Turned.{HasTurned}
use Rattle.engine_moves.specs.Looking.{looks_by, IsNoted}
use Rattle.engine_moves.specs.Calling.{terms_at, call_state, looked_at, noted_at, HasNoted, HasMarked, call_now, matches_at, chosen_now, after_tests_at, HasCalled}
use Rattle.engine_moves.proofs.ChoosingLaws.{all_left, others_out}
use Rattle.engine_moves.proofs.GoingOn.{goes_on, stays, looked_same, noted_same}
use Rattle.engine_moves.proofs.NotesTaken.{added_row, goes_noted}
use Rattle.engine_moves.proofs.TurnLaws.{over_turn, ended_turn, open_moved}

-- notes

pub has_noted : (reading : Reading) (kind : Kind) (pred : ℕ) (args : Row) (e : code.Engine) → IsKept e → NotesStay → MomentsStay e.program.now → MomentsGive e.program.now → (notes : Vec ℕ Global) (first count tests : ℕ) →
    IsNoted e.program.now (terms_at e args) (looked_at e reading kind pred) e.notes.items notes.items tests → first ≡ length e.notes.items → count ≡ length notes.items - first →
    HasNoted reading kind pred args e (record { row = record { first = first; count = count }; tests = tests }) (record e { notes = notes })
has_noted reading kind pred args e kept notes_stay moments give notes first count tests is start many =
    let more = noted_at e reading kind pred args in
    let size : length e.notes.items ≤ length notes.items = omega (arith, ap length is.notes_are, length-append e.notes.items more) in
    record {
      goes = goes_noted e kept notes_stay moments give notes more is.notes_are;
      within = omega (arith, start, many, size);
      row_is = added_row e.notes.items notes.items more first count is.notes_are start many;
      tests_are = is.tests_are;
    }

-- marks

-- a row has as many notes as it says
row_length : (notes : List ℕ) (row : Row) → IsRowWithin (length notes) row → length (row_of notes row) ≡ row.count
row_length notes row within =
    let left : length (drop row.first notes) ≡ length notes - row.first = length-drop row.first notes in
    length-take-le row.count (drop row.first notes) (omega (arith, left, within))

none_in : (conds : List ℕ) → length conds ≡ 0 → conds ≡ []
none_in [] e = refl
none_in (c ∷ conds) e = absurd (omega (arith, e))

height_is : (conds : List ℕ) (cs : List Choice) (h : ℕ) → (conds ≡ [] → ⊥) → h ≡ length cs → Some h ≡ mark_height conds cs
height_is [] cs h some is = absurd (some refl)
height_is (c ∷ conds) cs h some is = ap (λ n. Some n) is

pub not_marked : (e : code.Engine) (pred : ℕ) (row : Row) → IsKept e → IsRowWithin (length e.notes.items) row → row.count ≡ 0 → HasMarked e pred (row_of e.notes.items row) None e
not_marked e pred row kept within none =
    let empty : row_of e.notes.items row ≡ [] = none_in (row_of e.notes.items row) (row_length e.notes.items row within ∙ none) in
    subst (λ conds. HasMarked e pred conds None e) (sym empty) (record { goes = stays e (length e.links.items) kept (omega arith); mark_is = refl })

pub is_marked : PointsPushed → (e new : code.Engine) (pred : ℕ) (row : Row) (height : ℕ) → IsRowWithin (length e.notes.items) row → (row.count ≡ 0 → ⊥) → height ≡ length (choices_at e) →
    GoesTo e (length e.links.items) (alternative_choices (value_of e.heap.changes) (as_links e.notes.items e.links.items) e.query (as_alternative e.index e.notes.items (code_alternative.Marks pred row false)) ++ choices_at e) new →
    HasMarked e pred (row_of e.notes.items row) (Some height) new
is_marked pushed e new pred row height within some is goes =
    let conds = row_of e.notes.items row in
    let not_empty : conds ≡ [] → ⊥ = λ empty. some (sym (row_length e.notes.items row within) ∙ ap length empty) in
    record {
      goes = subst (λ cs. GoesTo e (length e.links.items) cs new) (pushed.marked (value_of e.heap.changes) (as_links e.notes.items e.links.items) e.query pred conds (choices_at e) not_empty) goes;
      mark_is = height_is conds (choices_at e) height not_empty is;
    }

-- clauses

module _ (pushed : PointsPushed) (selects : SelectsInOrder) (e : code.Engine) (exit : code_exit.Exit) (rest : ℕ) (kept : IsKept e) (k : Key) (k_is : k ≡ first_key (terms_at e exit.args)) (count : ℕ) (many : count ≡ length (selected_at e.index exit.pred k)) where
  abbrev clauses : List Clause
  clauses = (pred_of e.program.now exit.pred).clauses

  abbrev choices_with : List ℕ → (height : ℕ) → List Choice
  choices_with left height = alternative_choices (value_of e.heap.changes) (as_links e.notes.items e.links.items) e.query (Retries left (record { exit = as_exit e.notes.items exit; height = height; rest = rest }))

  -- the clauses that are selected are those that can match
  chosen_are : (height : ℕ) → height ≡ length (choices_at e) → choices_with (clauses_left e.index exit.pred k 0 count) height ≡ chosen_now e exit rest
  chosen_are height is =
      let pending : Pending = record { exit = as_exit e.notes.items exit; height = length (choices_at e); rest = rest } in
      (λ i. choices_with (all_left selects e.program.now e.index exit.pred k count kept.indexed many i) (is i))
      ∙ sym (pushed.chosen_clauses (value_of e.heap.changes) (as_links e.notes.items e.links.items) e.query pending clauses (can_match e.program.now exit.pred k))
      ∙ ap (λ key. chosen (can_match e.program.now exit.pred key) 0 clauses (call_now e exit rest)) k_is

  pub no_clauses : count ≡ 0 → GoesTo e (length e.links.items) (chosen_now e exit rest ++ choices_at e) e
  no_clauses none =
      let empty : choices_with (clauses_left e.index exit.pred k 0 count) (length (choices_at e)) ≡ [] = ap (λ n. choices_with (clauses_left e.index exit.pred k 0 n) (length (choices_at e))) none in
      subst (λ ts. GoesTo e (length e.links.items) (ts ++ choices_at e) e) (sym empty ∙ chosen_are (length (choices_at e)) refl) (stays e (length e.links.items) kept (omega arith))

  pub some_clauses : (new : code.Engine) (height : ℕ) → height ≡ length (choices_at e) →
      GoesTo e (length e.links.items) (alternative_choices (value_of e.heap.changes) (as_links e.notes.items e.links.items) e.query (as_alternative e.index e.notes.items (code_alternative.Retries k 0 count (record { exit = exit; height = height; rest = rest }))) ++ choices_at e) new →
      GoesTo e (length e.links.items) (chosen_now e exit rest ++ choices_at e) new
  some_clauses new height is goes = subst (λ ts. GoesTo e (length e.links.items) (ts ++ choices_at e) new) (chosen_are height is) goes

-- all of it

module _ (reading : Reading) (pred : ℕ) (args : Row) (rest : ℕ) (e0 e1 e2 e3 : code.Engine) (marked : Noted) (mark : Option ℕ)
    (lets_go : GoesTo e0 rest (choices_at e0) e1) (notes_marks : HasNoted reading Comp pred args e1 marked e2) (makes_mark : HasMarked e2 pred (row_of e2.notes.items marked.row) mark e3) where
  abbrev conds2 : List ℕ
  conds2 = row_of e2.notes.items marked.row

  abbrev conds0 : List ℕ
  conds0 = noted_at e0 reading Comp pred args

  abbrev notes0 : List ℕ
  notes0 = noted_at e0 reading Success pred args

  abbrev below0 : List Choice
  below0 = with_mark pred conds0 (choices_at e0)

  abbrev call0 : Call
  call0 = call_above (choices_at e0) pred (terms_at e0 args) notes0 conds0 (frame_now e0 (tasks_at e0 rest))

  to_second : GoesTo e0 rest (choices_at e1) e2
  to_second = goes_on e0 e1 e2 rest (length e1.links.items) (choices_at e0) (choices_at e1) lets_go notes_marks.goes lets_go.there

  pub to_third : GoesTo e0 rest (with_mark pred conds2 (choices_at e2)) e3
  to_third = goes_on e0 e2 e3 rest (length e2.links.items) (choices_at e1) (with_mark pred conds2 (choices_at e2)) to_second makes_mark.goes to_second.there

  second_choices : choices_at e2 ≡ choices_at e0
  second_choices = notes_marks.goes.choices_are ∙ lets_go.choices_are

  conds_are : conds2 ≡ conds0
  conds_are = notes_marks.row_is ∙ noted_same e0 e1 rest (choices_at e0) lets_go reading Comp pred args

  third_choices : choices_at e3 ≡ below0
  third_choices = makes_mark.goes.choices_are ∙ (λ i. with_mark pred (conds_are i) (second_choices i))

  mark_is : mark ≡ mark_height conds0 (choices_at e0)
  mark_is = makes_mark.mark_is ∙ (λ i. mark_height (conds_are i) (second_choices i))

  module _ (e4 : code.Engine) (noted : Noted) (takes_notes : HasNoted reading Success pred args e3 noted e4) where
    abbrev exit : code_exit.Exit
    exit = record { pred = pred; args = args; noted = noted.row; mark = mark }

    pub to_fourth : GoesTo e0 rest (choices_at e3) e4
    to_fourth = goes_on e0 e3 e4 rest (length e3.links.items) (with_mark pred conds2 (choices_at e2)) (choices_at e3) to_third takes_notes.goes to_third.there

    fourth_choices : choices_at e4 ≡ below0
    fourth_choices = takes_notes.goes.choices_are ∙ third_choices

    notes_are : row_of e4.notes.items noted.row ≡ notes0
    notes_are = takes_notes.row_is ∙ noted_same e0 e3 rest (with_mark pred conds2 (choices_at e2)) to_third reading Success pred args

    call_is : call_now e4 exit rest ≡ call0
    call_is = λ i. record {
      pred = pred;
      args = row_at ((to_fourth.heap i).changes) args.first args.count;
      noted = notes_are i;
      mark = mark_is i;
      height = length (fourth_choices i);
      rest = frame_with (value_of ((to_fourth.heap i).changes)) (to_fourth.tasks rest (omega arith) i) (to_fourth.query i);
    }

    module _ (e5 : code.Engine) (adds : GoesTo e4 (length e4.links.items) (chosen_now e4 exit rest ++ choices_at e4) e5) where
      pub to_fifth : GoesTo e0 rest (chosen_now e4 exit rest ++ choices_at e4) e5
      to_fifth = goes_on e0 e4 e5 rest (length e4.links.items) (choices_at e3) (chosen_now e4 exit rest ++ choices_at e4) to_fourth adds to_fourth.there

      fifth_choices : choices_at e5 ≡ chosen (matches_at e0 pred args) 0 (pred_of e0.program.now pred).clauses call0 ++ below0
      fifth_choices = to_fifth.choices_are
          ∙ (λ i. chosen (can_match (to_fourth.program i) pred (first_key (row_at ((to_fourth.heap i).changes) args.first args.count))) 0 (pred_of (to_fourth.program i) pred).clauses (call_is i) ++ fourth_choices i)

      pub has_called : (bound tests : ℕ) → tests ≡ min (noted.tests + marked.tests) (2 ^ 64 - 1) → HasCalled reading bound pred args rest e0 tests (record e5 { calls = e5.calls + 1 })
      has_called bound tests sum =
          let one_more : suc e0.calls ≡ e5.calls + 1 = omega (arith, to_fifth.calls) in
          let same_notes = ap length (looked_same e0 e3 rest (with_mark pred conds2 (choices_at e2)) to_third reading Success pred) in
          let same_marks = ap length (looked_same e0 e1 rest (choices_at e0) lets_go reading Comp pred) in
          record {
            program = to_fifth.program;
            kept = record { in_range = to_fifth.kept.in_range; indexed = to_fifth.kept.indexed; counted = to_fifth.kept.counted; moments = to_fifth.kept.moments };
            phase_is = λ i. Going (record { calls = one_more i; fresh = size_of ((sym to_fifth.heap i).changes); choices = sym fifth_choices i; current = Failed });
            tests_are = omega (arith, sum, takes_notes.tests_are, notes_marks.tests_are, same_notes, same_marks);
          }

-- the turn

module _ (reading : Reading) (bound : ℕ) (e : code.Engine) (pred : ℕ) (args : Row) (height : ℕ) (place : Place) (rest : ℕ) (compose : MovesCompose (tests_by e.program.now reading) e.program.now bound)
    (make : CallsMake (tests_by e.program.now reading) e.program.now bound e.calls (size_of e.heap.changes) (choices_at e)) where
  pub refused : (told : List ℕ) → told ≡ [] → bound ≤ e.calls → HasTurned reading bound e (call_state e pred args height place rest) (map Broken told) 0 e (stage.Over ending.Bound)
  refused told none le =
      over_turn reading e (call_state e pred args height place rest) bound compose told ending.Bound none
      (make.refused (goal.Call pred (terms_at e args)) pred (terms_at e args) height place (frame_now e (tasks_at e rest)) refl le)

  module _ (none told : List ℕ) (is_none : none ≡ []) (less : e.calls < bound) (counted : Counted)
      (tested : HasAdded (tests_by e.program.now reading).stops 1 (found_at_call e.program.now (terms_at e args)) (looks_by e.program.now reading pred).calls none told counted.tests counted.ended) where
    -- what would come after the tests, if all clauses were tried
    abbrev after_all : Trace
    after_all = after_calls_tests (tests_by e.program.now reading) e.program.now bound e.calls (size_of e.heap.changes) (choices_at e) pred (terms_at e args) (frame_now e (tasks_at e rest))

    pub broken : (end : Ending) → counted.ended ≡ Some end → HasTurned reading bound e (call_state e pred args height place rest) (map Broken told) counted.tests e (stage.Over end)
    broken end is =
        ended_turn reading e (call_state e pred args height place rest) bound compose tested.r after_all none told counted.tests end is_none (subst (λ o. IsAdded none 0 tested.r told counted.tests o) is tested.added)
        (make.tested (goal.Call pred (terms_at e args)) pred (terms_at e args) height place (frame_now e (tasks_at e rest)) tested.r refl less tested.has)

    module _ (whole : IsWhole e (stage.Calling pred args height place rest)) (found : LeanerStatesAreFound) (left_out : LeftOutClash) where
      abbrev program : Program
      program = e.program.now

      abbrev conds : List ℕ
      conds = noted_at e reading Comp pred args

      abbrev call : Call
      call = call_above (choices_at e) pred (terms_at e args) (noted_at e reading Success pred args) conds (frame_now e (tasks_at e rest))

      abbrev after : List Choice → State
      after choices = after_call e.calls (size_of e.heap.changes) (choices_at e) pred conds choices

      abbrev picked : State
      picked = after (chosen (matches_at e pred args) 0 (pred_of program pred).clauses call)

      -- the state with the clauses that can match has its heights and its variables in order
      picked_own : IsLeaner program picked picked
      picked_own =
          let clauses = (pred_of program pred).clauses in
          let states = found program whole.kept.in_range in
          states.own (after (tries 0 clauses call)) picked
          (states.called e.calls (size_of e.heap.changes) pred (goal.Call pred (terms_at e args)) (terms_at e args) (noted_at e reading Success pred args) conds height place (choices_at e) (frame_now e (tasks_at e rest)) clauses (matches_at e pred args)
          (outs-Call pred (terms_at e args)) whole.own (others_out left_out program call))

      abbrev state_in : State → Phase → State
      state_in d (Going s) = s
      state_in d (Over end) = d

      pub called : (new : code.Engine) (looked total : ℕ) → counted.ended ≡ None → HasCalled reading bound pred args rest e looked new → total ≡ min (counted.tests + looked) (2 ^ 64 - 1) →
          CallsMove (tests_by program reading) program bound → HasTurned reading bound e (call_state e pred args height place rest) (map Broken told) total new stage.Failed
      called new looked total is made sum moves =
          let s = as_state (as_engine new) Failed in
          let same : picked ≡ s = ap (state_in s) made.phase_is in
          open_moved reading e (call_state e pred args height place rest) bound compose tested.r (after_tests_at reading bound e pred args rest) none told counted.tests total new s stage.Failed is_none
          (subst (λ o. IsAdded none 0 tested.r told counted.tests o) is tested.added)
          (moves.chosen_clauses e.calls (size_of e.heap.changes) pred (choices_at e) (goal.Call pred (terms_at e args)) (terms_at e args) height place (frame_now e (tasks_at e rest)) tested.r (matches_at e pred args) refl less tested.has whole.own
          (others_out left_out program call)) refl made.phase_is (omega (arith, sum, made.tests_are, tested.added.tests_are)) made.program refl (subst (λ x. IsLeaner program x x) same picked_own)
          (λ own. record { kept = made.kept; own = own; in_hand = tt })
