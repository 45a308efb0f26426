-- Failure that went back to the newest choice.
use Rattle.std.proofs.Common.{◌≡◌, ◌<◌, ◌≤◌, ◌-◌, ℕ, zero, suc, List, [], ◌∷◌, ◌++◌, map, reverse, length, refl, sym, ap, subst, ◌∙◌, arith}
use Rattle.std.specs.Prelude.{⊤}
use Rattle.prog_data.specs.declared.programs.Program.{Program}
use Rattle.clause_index.specs.declared.keys.Key.{Key}
use Rattle.machine_model.specs.State.{Call, Choice, Try, Failed, State, Going, Over}
use Rattle.machine_model.specs.Tests.{every_condition}
use Rattle.machine_model.specs.Step.{failure_step, quietly}
use Rattle.machine_model.specs.Leaner.{IsLeaner}
use Rattle.machine_model.specs.LeanerLaws.{AreBelow, before_try, LeanerStatesAreFound, LeanerTellsTheSame}
use Rattle.term_heap.specs.Changes.{Change, size_of, value_of, places, undone, IsMade}
use Rattle.term_heap.proofs.HistoryLaws.{undone_here}
use Rattle.engine_state.specs.declared.engine.Engine as code
use Rattle.engine_state.specs.declared.points.Pending as code_pending
use Rattle.engine_state.specs.declared.points.Alternative as code_alternative
use Rattle.engine_state.specs.declared.points.Alternative.TheVariants as alternative
use Rattle.engine_state.specs.declared.stages.Stage.TheVariants as stage
use Rattle.prog_data.specs.declared.events.Ending.TheVariants as ending
use Rattle.engine_state.specs.Engines.{Link, Alternative, ChoicePoint, call_with, alternative_choices, choices_of, as_state}
use Rattle.engine_state.specs.Views.{as_alternative, as_pending, as_links, as_points}
use Rattle.engine_state.specs.Selections.{clause_number}
use Rattle.engine_state.specs.Stacks.{width}
use Rattle.engine_state.specs.Moments.{IsAlternativePlaced, IsMoment}
use Rattle.engine_state.specs.Within.{AreLinksWithin, IsAlternativeWithin, IsPointWithin, ArePointsWithin}
use Rattle.engine_state.specs.Stages.{as_engine, choices_at, tasks_at, doing, IsKept, IsAt}
use Rattle.engine_state.specs.Turns.{HasMoved, HasTaken, back_state, HasGoneBack}
use Rattle.engine_state.proofs.ChoiceLaws.{now_choices}
use Rattle.engine_state.proofs.Composing.{moves_compose}
use Rattle.engine_state.proofs.MomentLaws.{moment_now}
use Rattle.engine_state.proofs.PointLaws.{length-left}
use Rattle.engine_state.proofs.QuietMoves.{quiet_move, own_after}
use Rattle.engine_state.proofs.WithinLaws.{variables_within}
use Rattle.engine_state.proofs.WithinMoments.{links_within, alternative_within, moments_within}

-- an alternative of now, as a choice point
abbrev point_of : (trail : ℕ) → Alternative → ChoicePoint
point_of trail a = record { trail = trail; links = 0; below = 0; alternative = a }

-- the variables of the choices of an engine, and of those that an alternative stands for, are cells
module _ (e : code.Engine) (a : code_alternative.Alternative) (kept : IsKept e) (made : IsMade e.heap.changes) (placed : IsAlternativePlaced e.program.now (size_of e.heap.changes) (length e.links.items) a) where
  abbrev links : List Link
  links = as_links e.notes.items e.links.items

  abbrev points : List ChoicePoint
  points = as_points e.index e.notes.items e.points.items

  abbrev alt : Alternative
  alt = as_alternative e.index e.notes.items a

  are_placed : IsMoment e.program.now e.query (size_of e.heap.changes) (length e.notes.items) (reverse e.links.items)
  are_placed = moment_now e.program.now e.query e.heap.changes (length e.notes.items) (reverse e.links.items) (reverse e.points.items) kept.moments

  within_links : AreLinksWithin (size_of e.heap.changes) links
  within_links = links_within e.program.now e.notes.items (size_of e.heap.changes) (length e.notes.items) (reverse e.links.items) are_placed.1

  within_own : IsAlternativeWithin (size_of e.heap.changes) links alt
  within_own = alternative_within e.program.now e.notes.items e.index e.query e.heap.changes (reverse e.links.items) (size_of e.heap.changes) (length e.links.items) (reverse e.links.items) a within_links (λ j le. refl) placed

  within_point : IsPointWithin e.heap.changes links e.query (point_of (length e.heap.changes) alt)
  within_point =
      subst (λ cs. (e.query < size_of cs) × IsAlternativeWithin (size_of cs) links alt) (sym (undone_here (length e.heap.changes) e.heap.changes (omega arith))) (are_placed.0, within_own)

  within_points : ArePointsWithin e.heap.changes links e.query points
  within_points = (moments_within e.program.now).points_are e.index e.notes.items e.query e.heap.changes (length e.notes.items) (reverse e.links.items) (reverse e.points.items) kept.moments

  pub all_below : AreBelow (size_of e.heap.changes) (alternative_choices (value_of e.heap.changes) links e.query alt ++ choices_at e)
  all_below =
      subst (AreBelow (size_of e.heap.changes)) (ap (λ cs. cs ++ choices_at e) (now_choices e.heap.changes links e.query (point_of (length e.heap.changes) alt) (omega arith)))
      (variables_within.choices e.heap.changes links e.query (point_of (length e.heap.changes) alt ∷ points) made (within_point, within_points))

pub gone_back : (old new : code.Engine) (a : code_alternative.Alternative) → LeanerStatesAreFound → IsAt old (as_state (as_engine old) Failed) ⊤ → HasTaken old a new → IsMade new.heap.changes → HasGoneBack old a new
gone_back old new a found at taken made =
    let program : Program = old.program.now in
    let size : ℕ = size_of new.heap.changes in
    let failed : State = as_state (as_engine old) Failed in
    let below : AreBelow size (choices_at old) = subst (AreBelow size) (sym taken.choices) (all_below new a taken.kept made taken.placed) in
    let states = found program at.kept.in_range in
    let lower : IsLeaner program failed (record failed { fresh = size }) = states.lower size failed failed below tt at.own in
    let is : record failed { fresh = size } ≡ back_state new a = λ i. record { calls = sym taken.calls i; fresh = size; choices = taken.choices i; current = Failed } in
    let same : IsLeaner program failed (back_state new a) = subst (IsLeaner program failed) is lower in
    record {
      taken = taken;
      same = subst (λ p. IsLeaner p failed (back_state new a)) (sym taken.program) same;
      own = subst (λ p. IsLeaner p (back_state new a) (back_state new a)) (sym taken.program) (states.own failed (back_state new a) same);
    }

-- where the newest choice is a clause of a call, it is to be tried
pub before_clause : (e : code.Engine) (key : Key) (next end : ℕ) (c : code_pending.Pending) → next < end → width (as_alternative e.index e.notes.items (alternative.Retries key next end c)) ≤ 1 → back_state e (alternative.Retries key next end c)
    ≡ before_try e.calls (size_of e.heap.changes) (clause_number e.index c.exit.pred key next) (call_with (value_of e.heap.changes) (tasks_at e c.rest) e.query (as_pending e.notes.items c)) (choices_at e)
before_clause e key next end c less single =
    let one : end - next ≡ suc zero = omega (arith, less, single, length-left e.index c.exit.pred key next end) in
    let number = clause_number e.index c.exit.pred key in
    let call : Call = call_with (value_of e.heap.changes) (tasks_at e c.rest) e.query (as_pending e.notes.items c) in
    ap (λ n. record { calls = e.calls; fresh = size_of e.heap.changes; choices = map (λ k. Try k call) (map number (places next n)) ++ choices_at e; current = Failed }) one

-- where no choice is left the run is over
pub none_moved : (old new : code.Engine) → new.program.now ≡ old.program.now → choices_at old ≡ [] → HasMoved old (as_state (as_engine old) Failed) new (stage.Over ending.NoMore)
none_moved old new same none = record {
  program = same;
  moves = λ what bound. quiet_move what old.program.now bound (as_state (as_engine old) Failed) (Over ending.NoMore) (ap (failure_step what old.program.now bound (as_state (as_engine old) Failed)) none);
  whole = tt;
}

-- where the newest choice is a link, its tasks are to be done
pub resumed_moved : (old new : code.Engine) (rest : ℕ) → LeanerStatesAreFound → LeanerTellsTheSame → IsAt old (as_state (as_engine old) Failed) ⊤ → HasGoneBack old (alternative.Resumes rest) new → HasMoved old (as_state (as_engine old) Failed) new (stage.Doing rest)
resumed_moved old new rest found tells at back =
    let program : Program = old.program.now in
    let failed : State = as_state (as_engine old) Failed in
    let from : State = back_state new (alternative.Resumes rest) in
    let after : State = doing new (tasks_at new rest) in
    let same : IsLeaner program failed from = subst (λ p. IsLeaner p failed from) back.taken.program back.same in
    record {
      program = back.taken.program;
      moves = λ what bound. (moves_compose what program bound).before failed from (quietly (Going after)) (tells program at.kept.in_range failed from same) (quiet_move what program bound from (Going after) refl);
      whole = record {
        kept = back.taken.kept;
        own = own_after (every_condition new.program.now) new.program.now 0 from after found back.taken.kept.in_range refl tt back.own;
        in_hand = back.taken.placed;
      };
    }
