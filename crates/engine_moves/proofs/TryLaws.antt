-- The trying of a clause over cells.
use Rattle.std.proofs.Common.{◌≡◌, ◌≤◌, ◌<◌, ℕ, ◌+◌, List, [], ◌∷◌, ◌++◌, length, replicate, None, Some, refl, sym, ap, subst, ◌∙◌, arith}
use Rattle.std.proofs.lemmas.List.{append_assoc, length-append, length-replicate}
use Rattle.std.specs.List.{AllByRecursion}
use Rattle.term_core.specs.declared.terms.Term.{Term}
use Rattle.prog_data.specs.declared.programs.Clause.{Clause}
use Rattle.prog_data.specs.declared.programs.Program.{Program}
use Rattle.prog_data.specs.declared.events.Ending.TheVariants as ending
use Rattle.prog_data.specs.Goals.{without_exit}
use Rattle.machine_model.specs.State.{Call, Choice, Doing, State, Going, Over}
use Rattle.machine_model.specs.Tests.{Tests}
use Rattle.machine_model.specs.Step.{quietly}
use Rattle.machine_model.specs.Leaner.{clause_at, IsLeaner}
use Rattle.machine_model.specs.LeanerLaws.{AreBelow}
use Rattle.term_heap.specs.declared.cells.Cell.TheVariants.{Free}
use Rattle.term_heap.specs.Changes.{Change, Grows, History, cells_of, size_of, value_of, next_serial, IsMade}
use Rattle.term_heap.specs.Loads.{IsPlaced}
use Rattle.term_heap.specs.PastStays.{GoesOn}
use Rattle.term_heap.proofs.PastLaws.{sizes_stay}
use Rattle.unify_core.specs.Heads.{HasMatched, AreNew, FreshAreNew}
use Rattle.unify_core.specs.declared.unifying.Unified.{Unified}
use Rattle.unify_core.specs.declared.unifying.Unified.TheVariants.{Same, Clash, Cyclic}
use Rattle.engine_state.specs.declared.engine.Engine as code
use Rattle.engine_state.specs.declared.points.Pending as code_pending
use Rattle.engine_state.specs.declared.stages.Stage.TheVariants as stage
use Rattle.engine_state.specs.Engines.{Pending, Task, frame_with, call_with, as_state}
use Rattle.engine_state.specs.Views.{as_pending}
use Rattle.engine_state.specs.Moments.{IsGoalPlaced}
use Rattle.engine_state.specs.Within.{AreTasksWithin}
use Rattle.engine_state.specs.Stages.{as_engine, choices_at, tasks_at, IsKept}
use Rattle.engine_state.specs.Moves.{Moves}
use Rattle.engine_state.specs.StepsMade.{doing, failing}
use Rattle.engine_state.specs.MoveLaws.{ClausesEnter, entered_tasks}
use Rattle.engine_state.specs.CellMoves.{IsRanged, IsMatched, CellsMove}
use Rattle.engine_moves.specs.declared.readings.Reading.{Reading}
use Rattle.engine_moves.specs.Readings.{tests_by}
use Rattle.engine_moves.specs.Relied.{Relied}
use Rattle.engine_moves.specs.Turned.{IsMoveTo, HasTurned}
use Rattle.engine_moves.specs.Tries.{IsPendingPlaced, try_state, IsToTry, HasVariables, entered_state, IsEntered}
use Rattle.engine_moves.proofs.ClauseRanges.{clause_in_range, placed_terms}
use Rattle.engine_moves.proofs.HeapLaws.{query_there, tasks_there, later_kept, later_choices, later_below}

-- a head that was matched

pub matched_as : (own : List Change) (base first : ℕ) (ts ts' : List Term) (u u' : Unified) (new : List Change) → ts ≡ ts' → u ≡ u' → HasMatched own base first ts u new → HasMatched own base first ts' u' new
matched_as own base first ts ts' u u' new same is matched = subst (λ us. HasMatched own base first us u' new) same (subst (λ x. HasMatched own base first ts x new) is matched)

-- variables

pub no_variables : (old : History) (base : ℕ) → base ≡ size_of old.changes → IsMade old.changes → HasVariables old 0 base old
no_variables old base is made = record {
  base_is = is;
  was_made = made;
  made = made;
  more = [];
  is_new = refl;
  values = refl;
  cells = omega arith;
  are_new = record { themselves = λ w le lt. absurd (omega (arith, is, le, lt)); apart = λ w i le lt other different. absurd (omega (arith, is, le, lt)) };
}

pub new_variables : ClausesEnter → FreshAreNew → (old new : History) (count base : ℕ) → base ≡ size_of old.changes → IsMade old.changes → new ≡ record { changes = Grows (replicate count Free) (next_serial old.last) ∷ old.changes; last = next_serial old.last } → IsMade new.changes →
    HasVariables old count base new
new_variables enter fresh old new count base is made e made_new =
    let serial = next_serial old.last in
    let grown : List Change = Grows (replicate count Free) serial ∷ old.changes in
    let changes : new.changes ≡ grown = ap (λ h. h.changes) e in
    let size : size_of grown ≡ size_of old.changes + length (replicate count Free) = length-append (cells_of old.changes) (replicate count Free) in
    let counted : length (replicate count Free) ≡ count = length-replicate count Free in
    let size_new : size_of new.changes ≡ size_of grown = ap size_of changes in
    record {
      base_is = is;
      was_made = made;
      made = made_new;
      more = Grows (replicate count Free) serial ∷ [];
      is_new = changes;
      values = ap value_of changes ∙ enter.free old.changes count serial made;
      cells = size_new ∙ size ∙ ap (λ n. size_of old.changes + n) counted;
      are_new = subst (AreNew new.changes) (sym is) (subst (λ xs. AreNew xs (size_of old.changes)) (sym changes) (fresh old.changes count serial made));
    }

module _ (law : Relied) (reading : Reading) (bound : ℕ) (old : code.Engine) (k : ℕ) (c : code_pending.Pending) (to_try : IsToTry old k c) where
  abbrev program : Program
  program = old.program.now

  abbrev what : Tests
  what = tests_by program reading

  abbrev pend : Pending
  pend = as_pending old.notes.items c

  abbrev tasks : List Task
  tasks = tasks_at old c.rest

  abbrev call : Call
  call = call_with (value_of old.heap.changes) tasks old.query pend

  abbrev cs : List Choice
  cs = choices_at old

  abbrev from : State
  from = try_state old k c

  -- no such clause
  pub tried_none : clause_at program c.exit.pred k ≡ None → HasTurned reading bound old from [] 0 old stage.Failed
  tried_none none =
      let failed : State = failing old.calls (size_of old.heap.changes) cs in
      let makes = (law.failures what program bound old.calls (size_of old.heap.changes) cs).missing k call none in
      record {
        program = refl;
        tests = 0;
        counted_are = refl;
        moves = (law.compose what program bound).made from (quietly (Going failed)) makes;
        whole = record { kept = to_try.kept; own = (law.compose what program bound).own (law.found program to_try.kept.in_range) from failed (quietly (Going failed)) to_try.own makes refl tt; in_hand = tt };
      }

  module _ (clause : Clause) (there : clause_at program c.exit.pred k ≡ Some clause) where
    abbrev laws : CellsMove what program bound old.calls cs
    laws = law.cells what program bound old.calls cs to_try.kept.in_range

    abbrev range : IsRanged program c.exit.pred clause
    range = laws.ranged c.exit.pred k clause there

    as_many : c.exit.args.count ≡ length clause.head
    as_many = to_try.in_hand.call.count ∙ sym range.arity

    -- the arguments are below the clause's own variables
    pub args_below : (base : ℕ) → base ≡ size_of old.heap.changes → c.exit.args.first + length clause.head ≤ base
    args_below base is = let within = to_try.in_hand.call.within in omega (arith, within, as_many, is)

    -- the head's terms are placed
    pub head_placed : (base : ℕ) (own : History) → HasVariables old.heap clause.vars base own → AllByRecursion (IsPlaced (size_of own.changes) base) clause.head
    head_placed base own v =
        let cells = v.cells in
        let is = v.base_is in
        placed_terms program clause.vars (size_of own.changes) base (omega (arith, cells, is)) clause.head (clause_in_range program to_try.kept.in_range c.exit.pred k clause there).head

    module _ (base : ℕ) (own heap : History) (made_variables : HasVariables old.heap clause.vars base own) (later : GoesOn own heap) (made : IsMade heap.changes) where
      abbrev more : List Change
      more = later.more ++ made_variables.more

      is_later : heap.changes ≡ more ++ old.heap.changes
      is_later = later.is_new ∙ ap (λ xs. later.more ++ xs) made_variables.is_new ∙ sym (append_assoc later.more made_variables.more old.heap.changes)

      abbrev mid : code.Engine
      mid = record old { heap = heap }

      mid_kept : IsKept mid
      mid_kept = later_kept law old heap more is_later to_try.kept

      mid_choices : cs ≡ choices_at mid
      mid_choices = sym (later_choices law old heap more is_later to_try.kept)

      below : AreBelow (size_of heap.changes) cs
      below = later_below law old heap more is_later to_try.kept made

      more_cells : size_of own.changes ≤ size_of heap.changes
      more_cells = subst (λ xs. size_of own.changes ≤ size_of xs) (sym later.is_new) (sizes_stay later.more own.changes)

      enough : base + clause.vars ≤ size_of heap.changes
      enough = let cells = made_variables.cells in let is = made_variables.base_is in omega (arith, cells, is, more_cells)

      matches : (found : Unified) → HasMatched own.changes base c.exit.args.first clause.head found heap.changes → IsMatched old.heap.changes own.changes heap.changes clause pend found
      matches found matched = record {
        made = made_variables.was_made;
        values = made_variables.values;
        cells = made_variables.cells;
        arity = as_many;
        args = to_try.in_hand.call.within;
        matched = subst (λ b. HasMatched own.changes b c.exit.args.first clause.head found heap.changes) made_variables.base_is matched;
        made_new = made;
        more = more_cells;
      }

      -- the head is the same as the call
      module _ (matched : HasMatched own.changes base c.exit.args.first clause.head Same heap.changes) where
        entered_cells : Moves what program bound (Going from) (quietly (Going (doing old.calls (size_of heap.changes) cs (frame_with (value_of heap.changes) (entered_tasks what clause (size_of old.heap.changes) pend tasks) old.query))))
            × IsLeaner program (doing old.calls (size_of heap.changes) cs (frame_with (value_of heap.changes) (entered_tasks what clause (size_of old.heap.changes) pend tasks) old.query))
            (doing old.calls (size_of heap.changes) cs (frame_with (value_of heap.changes) (entered_tasks what clause (size_of old.heap.changes) pend tasks) old.query))
        entered_cells =
            laws.entered k clause pend tasks old.query old.heap.changes own.changes heap.changes there (matches Same matched) (tasks_there law old c.rest to_try.kept) (query_there old to_try.kept) below to_try.own

        is_state : doing old.calls (size_of heap.changes) cs (frame_with (value_of heap.changes) (entered_tasks what clause (size_of old.heap.changes) pend tasks) old.query) ≡ entered_state reading mid clause base c
        is_state = λ i. record {
          calls = old.calls;
          fresh = size_of heap.changes;
          choices = mid_choices i;
          current = Doing (frame_with (value_of heap.changes) (entered_tasks what clause (sym made_variables.base_is i) pend tasks) old.query);
        }

        pub entered_move : Moves what program bound (Going from) (quietly (Going (entered_state reading mid clause base c)))
        entered_move = subst (λ s. Moves what program bound (Going from) (quietly (Going s))) is_state entered_cells.0

        pub is_entered : IsEntered reading mid clause base c
        is_entered =
            let placed = to_try.in_hand in
            let within = placed.call.within in
            let cells = made_variables.cells in
            record {
              kept = mid_kept;
              own = subst (λ s. IsLeaner program s s) is_state entered_cells.1;
              in_hand = (
                (clause.vars, (clause_in_range program to_try.kept.in_range c.exit.pred k clause there).body, enough),
                record {
                  call = record { there = placed.call.there; count = placed.call.count; within = omega (arith, within, cells, more_cells) };
                  noted = placed.noted;
                  rest = placed.rest;
                },
              );
            }

      -- they clash
      pub tried_clash : HasMatched own.changes base c.exit.args.first clause.head Clash heap.changes → HasTurned reading bound old from [] 0 mid stage.Failed
      tried_clash matched =
          let clashed = laws.clashed k clause pend tasks old.query old.heap.changes own.changes heap.changes there (matches Clash matched) below to_try.own in
          record {
            program = refl;
            tests = 0;
            counted_are = refl;
            moves = subst (λ ds. Moves what program bound (Going from) (quietly (Going (failing old.calls (size_of heap.changes) ds)))) mid_choices clashed.0;
            whole = record { kept = mid_kept; own = subst (λ ds. IsLeaner program (failing old.calls (size_of heap.changes) ds) (failing old.calls (size_of heap.changes) ds)) mid_choices clashed.1; in_hand = tt };
          }

      -- a variable would occur in its own value
      pub tried_cyclic : HasMatched own.changes base c.exit.args.first clause.head Cyclic heap.changes → HasTurned reading bound old from [] 0 mid (stage.Over (ending.Cyclic clause.place))
      tried_cyclic matched = record {
        program = refl;
        tests = 0;
        counted_are = refl;
        moves = laws.cyclic k clause pend tasks old.query old.heap.changes own.changes heap.changes there (matches Cyclic matched);
        whole = tt;
      }
