-- A call whose arguments are in cells.
use Rattle.std.proofs.Common.{◌≡◌, ◌≤◌, ◌<◌, ◌⊎◌, inl, inr, ◌+◌, ℕ, zero, List, [], ◌∷◌, ◌++◌, map, reverse, length, refl, sym, ap, subst, ◌∙◌, arith, true≢false}
use Rattle.std.specs.Prelude.{Bool, true, false, nat_le, ◌==◌, ◌||◌}
use Rattle.std.specs.List.{list_all, list_any, AllByRecursion}
use Rattle.std.proofs.lemmas.Bool.{cases_lt, and_parts, ne_eqb}
use Rattle.std.proofs.lemmas.Bool.Decides.{nat_tests}
use Rattle.term_core.specs.declared.terms.Term.{Term, Var}
use Rattle.term_core.specs.Terms.{instance, occurs, occurs_step, above, above_step, greatest}
use Rattle.term_core.specs.Ranges.{has_names}
use Rattle.term_core.proofs.TermFolds.{fold-Var, fold-Int, fold-Atom, fold-Node, ind_terms}
use Rattle.term_core.proofs.Occurrences.{occurs-Node, occurs-Var}
use Rattle.prog_data.specs.declared.goals.Goal.{Goal}
use Rattle.prog_data.specs.declared.goals.Goal as goal
use Rattle.prog_data.specs.declared.programs.Program.{Program}
use Rattle.prog_data.specs.Goals.{goal_instance, pred_of}
use Rattle.prog_data.specs.Ranges.{is_term_of, is_pred_of, is_call_of, is_goal_of, goal_step}
use Rattle.prog_data.proofs.GoalFolds.{fold-Call}
use Rattle.machine_model.specs.State.{Does, Doing, Choice, State, Frame}
use Rattle.machine_model.specs.Leaner.{IsLeaner}
use Rattle.machine_model.specs.LeanerLaws.{AreBelow, IsFrameBelow, LeanerStatesAreFound}
use Rattle.term_heap.specs.Changes.{Change, Grows, History, size_of, value_of, places, next_serial, IsMade}
use Rattle.term_heap.specs.Loads.{IsPlaced, from_base, HasLoaded}
use Rattle.term_heap.proofs.PastLaws.{sizes_stay}
use Rattle.engine_state.specs.declared.tasks.Row.{Row}
use Rattle.engine_state.specs.declared.engine.Engine as code
use Rattle.engine_state.specs.declared.stages.Setting.{Setting}
use Rattle.engine_state.specs.declared.stages.Stage.TheVariants as stage
use Rattle.engine_state.specs.Engines.{Task, Runs, choices_of, as_state}
use Rattle.engine_state.specs.Views.{as_links, as_points}
use Rattle.engine_state.specs.Moments.{IsCallPlaced, IsGoalPlaced, HasMoments}
use Rattle.engine_state.specs.Within.{AreTasksWithin, ArePointsWithin}
use Rattle.engine_state.specs.Stages.{as_engine, choices_at, tasks_at, frame_now, goal_state, call_frame, IsKept, IsDue}
use Rattle.engine_state.specs.Turns.{HasBecome}
use Rattle.engine_state.proofs.ChoiceLaws.{later_choices}
use Rattle.engine_state.proofs.GoalInstances.{at_call}
use Rattle.engine_state.proofs.GivenLaws.{in_order}
use Rattle.engine_state.proofs.MomentLaws.{moment_now, later}
use Rattle.engine_state.proofs.WithinLaws.{tasks_within, variables_within}
use Rattle.engine_state.proofs.WithinMoments.{links_within, moments_within}

-- terms that are placed

none_of : (a b : Bool) → a ≡ false → b ≡ false → (a || b) ≡ false
none_of true b e h = absurd (true≢false e)
none_of false b e h = h

absent_above : (v : ℕ) (t : Term) → above t ≤ v → occurs v t ≡ false
absent_above v =
    ind_terms (λ t. above t ≤ v → occurs v t ≡ false)
    (λ u le. occurs-Var v u ∙ ne_eqb v u (λ e. let p : above (Var u) ≡ u + 1 = fold-Var ℕ above_step u in omega (arith, le, e, p)))
    (λ n le. fold-Int Bool (occurs_step v) n)
    (λ a le. fold-Atom Bool (occurs_step v) a)
    (λ f ts ih le. occurs-Node v f ts ∙ each ts ih (subst (λ k. k ≤ v) (fold-Node ℕ above_step f ts) le))
  where
    each : (ts : List Term) → AllByRecursion (λ t. above t ≤ v → occurs v t ≡ false) ts → greatest (map above ts) ≤ v → list_any (λ b. b) (map (occurs v) ts) ≡ false
    each [] ih le = refl
    each (t ∷ ts) ih le = none_of _ _ (ih.0 (omega (arith, le))) (each ts ih.1 (omega (arith, le)))

le_of : (a b : ℕ) → nat_le a b ≡ true → a ≤ b
le_of a b e = grind (arith, nat_tests)

eq_of : (a b : ℕ) → (a == b) ≡ true → a ≡ b
eq_of a b e = grind (arith, nat_tests)

module _ (program : Program) (vars size base : ℕ) (enough : base + vars ≤ size) where
  placed_term : (t : Term) → is_term_of program vars t ≡ true → IsPlaced size base t
  placed_term t e v o = by_number (cases_lt v vars) where
    by_number : (v < vars) ⊎ (vars ≤ v) → v + base < size
    by_number (inl lt) = omega (arith, lt, enough)
    by_number (inr le) = absurd (true≢false (sym o ∙ absent_above v t (omega (arith, le, le_of (above t) vars (and_parts (has_names (length program.names) t) _ e).1))))

  pub placed_terms : (ts : List Term) → list_all (is_term_of program vars) ts ≡ true → AllByRecursion (IsPlaced size base) ts
  placed_terms [] e = tt
  placed_terms (t ∷ ts) e = let parts = and_parts (is_term_of program vars t) _ e in (placed_term t parts.0, placed_terms ts parts.1)

call_parts : (program : Program) (vars p : ℕ) (ts : List Term) → is_goal_of program vars (goal.Call p ts) ≡ true → (is_call_of program p ts ≡ true) × (list_all (is_term_of program vars) ts ≡ true)
call_parts program vars p ts e = and_parts (is_call_of program p ts) _ (sym (fold-Call Bool (goal_step program vars) p ts) ∙ e)

-- the arguments of a call that is due are placed
pub placed_args : (e : code.Engine) (p : ℕ) (ts : List Term) (s : Setting) → IsDue e (goal.Call p ts) s → AllByRecursion (IsPlaced (size_of e.heap.changes) s.base) ts
placed_args e p ts s due =
    let placed = due.in_hand.0 in
    placed_terms e.program.now placed.0 (size_of e.heap.changes) s.base placed.2 ts (call_parts e.program.now placed.0 p ts placed.1).1

call_placed : (program : Program) (cells vars p : ℕ) (ts : List Term) (row : Row) → is_goal_of program vars (goal.Call p ts) ≡ true → row.count ≡ length ts → row.first + row.count ≤ cells → IsCallPlaced program cells p row
call_placed program cells vars p ts row e count within =
    let parts = and_parts (is_pred_of program p) _ (call_parts program vars p ts e).0 in
    record { there = parts.0; count = count ∙ eq_of (length ts) (pred_of program p).arity parts.1; within = within }

-- the tasks from a link on are among the cells
pub links_tasks : (e : code.Engine) (k : ℕ) → IsKept e → AreTasksWithin (size_of e.heap.changes) (tasks_at e k)
links_tasks e k kept =
    tasks_within.chained (size_of e.heap.changes) (as_links e.notes.items e.links.items) k
    (links_within e.program.now e.notes.items (size_of e.heap.changes) (length e.notes.items) (reverse e.links.items)
    (moment_now e.program.now e.query e.heap.changes (length e.notes.items) (reverse e.links.items) (reverse e.points.items) kept.moments).1)

pub query_there : (e : code.Engine) → IsKept e → e.query < size_of e.heap.changes
query_there e kept = (moment_now e.program.now e.query e.heap.changes (length e.notes.items) (reverse e.links.items) (reverse e.points.items) kept.moments).0

-- no arguments

pub called_bare : (e : code.Engine) (p : ℕ) (ts : List Term) (s : Setting) → length ts ≡ zero → IsDue e (goal.Call p ts) s → HasBecome e (goal_state e (goal.Call p ts) s) e (stage.Calling p (record { first = 0; count = 0 }) s.height s.place s.rest)
called_bare e p [] s none due =
    let behind : Frame = frame_now e (tasks_at e s.rest) in
    let is : goal_state e (goal.Call p []) s ≡ as_state (as_engine e) (Doing (call_frame e p (record { first = 0; count = 0 }) s.height s.place s.rest)) =
    ap (λ g. as_state (as_engine e) (Doing (record behind { items = Does g s.height s.place ∷ behind.items }))) (at_call (from_base (value_of e.heap.changes) s.base) p []) in
    let own = subst (λ x. IsLeaner e.program.now (goal_state e (goal.Call p []) s) x) is due.own in
    record {
      program = refl;
      same = own;
      whole = record {
        kept = due.kept;
        own = subst (λ x. IsLeaner e.program.now x x) is due.own;
        in_hand = (call_placed e.program.now (size_of e.heap.changes) due.in_hand.0.0 p [] (record { first = 0; count = 0 }) due.in_hand.0.1 refl (omega arith), due.in_hand.1);
      };
    }
called_bare e p (t ∷ ts) s none due = absurd (omega (arith, none))

-- arguments that were put into cells

module _ (found : LeanerStatesAreFound) (old : code.Engine) (heap : History) (p first count : ℕ) (ts : List Term) (s : Setting) (due : IsDue old (goal.Call p ts) s) (loaded : HasLoaded old.heap s.base ts first heap) (made : IsMade heap.changes) (count_is : count ≡ length ts) where
  abbrev new : code.Engine
  new = record old { heap = heap }

  abbrev change : Change
  change = Grows loaded.cells (next_serial old.heap.last)

  changes_are : heap.changes ≡ change ∷ old.heap.changes
  changes_are = ap (λ h. h.changes) loaded.is_new

  more_cells : size_of old.heap.changes ≤ size_of heap.changes
  more_cells = subst (λ cs. size_of old.heap.changes ≤ size_of cs) (sym changes_are) (sizes_stay (change ∷ []) old.heap.changes)

  same_values : (i : ℕ) → i < size_of old.heap.changes → value_of heap.changes i ≡ value_of old.heap.changes i
  same_values i lt = ap (λ cs. value_of cs i) changes_are ∙ tasks_within.grown old.heap.changes loaded.cells (next_serial old.heap.last) i lt

  moments : HasMoments old.program.now old.query heap.changes old.notes.items old.links.items old.points.items
  moments =
      subst (λ cs. HasMoments old.program.now old.query cs old.notes.items old.links.items old.points.items) (sym changes_are)
      (later old.program.now old.query (change ∷ []) old.heap.changes (length old.notes.items) (reverse old.links.items) (reverse old.points.items) due.kept.moments)

  kept : IsKept new
  kept = record { in_range = due.kept.in_range; indexed = due.kept.indexed; counted = due.kept.counted; moments = moments }

  same_choices : choices_at new ≡ choices_at old
  same_choices =
      let links = as_links old.notes.items old.links.items in
      let points = as_points old.index old.notes.items old.points.items in
      ap (λ cs. choices_of cs links old.query points) changes_are
      ∙ later_choices (change ∷ []) old.heap.changes links old.query points
      (in_order old.program.now old.index old.notes.items old.query old.heap.changes (length old.notes.items) (reverse old.links.items) (reverse old.points.items) due.kept.moments)

  abbrev tasks : List Task
  tasks = tasks_at old s.rest

  abbrev whole_tasks : List Task
  whole_tasks = Runs (goal.Call p ts) s.base s.height s.place ∷ tasks

  all_within : AreTasksWithin (size_of old.heap.changes) whole_tasks
  all_within =
      let placed = due.in_hand.0 in
      (tasks_within.ranged old.program.now (size_of old.heap.changes) placed.0 s.base s.height (goal.Call p ts) s.place placed.1 placed.2, links_tasks old s.rest due.kept)

  same_frame : (some : List Task) → AreTasksWithin (size_of old.heap.changes) some → frame_now new some ≡ frame_now old some
  same_frame some are = tasks_within.stay (size_of old.heap.changes) (value_of old.heap.changes) (value_of heap.changes) same_values some old.query are (query_there old due.kept)

  choices_below : AreBelow (size_of heap.changes) (choices_at old)
  choices_below =
      let within : ArePointsWithin heap.changes (as_links old.notes.items old.links.items) old.query (as_points old.index old.notes.items old.points.items) =
      (moments_within old.program.now).points_are old.index old.notes.items old.query heap.changes (length old.notes.items) (reverse old.links.items) (reverse old.points.items) moments in
      subst (AreBelow (size_of heap.changes)) same_choices
      (variables_within.choices heap.changes (as_links old.notes.items old.links.items) old.query (as_points old.index old.notes.items old.points.items) made within)

  frame_below : IsFrameBelow (size_of heap.changes) (frame_now old whole_tasks)
  frame_below =
      subst (IsFrameBelow (size_of heap.changes)) (same_frame whole_tasks all_within)
      (variables_within.frames heap.changes whole_tasks old.query made (tasks_within.more (size_of old.heap.changes) (size_of heap.changes) whole_tasks more_cells all_within) (query_there new kept))

  abbrev from : State
  from = goal_state old (goal.Call p ts) s

  abbrev row : Row
  row = record { first = first; count = count }

  abbrev to : State
  to = as_state (as_engine new) (Doing (call_frame new p row s.height s.place s.rest))

  same_goal : goal_instance (from_base (value_of old.heap.changes) s.base) (goal.Call p ts) ≡ goal.Call p (map (value_of heap.changes) (places first count))
  same_goal =
      at_call (from_base (value_of old.heap.changes) s.base) p ts
      ∙ ap (goal.Call p) (sym (ap (λ n. map (value_of heap.changes) (places first n)) count_is ∙ loaded.are_terms))

  is : record from { fresh = size_of heap.changes } ≡ to
  is =
      let behind : frame_now old tasks ≡ frame_now new tasks = sym (same_frame tasks (links_tasks old s.rest due.kept)) in
      λ i. record {
        calls = old.calls;
        fresh = size_of heap.changes;
        choices = sym same_choices i;
        current = Doing (record (behind i) { items = Does (same_goal i) s.height s.place ∷ (behind i).items });
      }

  pub called_loaded : HasBecome old from new (stage.Calling p row s.height s.place s.rest)
  called_loaded =
      let states = found old.program.now due.kept.in_range in
      let lower : IsLeaner old.program.now from (record from { fresh = size_of heap.changes }) = states.lower (size_of heap.changes) from from choices_below frame_below due.own in
      let same : IsLeaner old.program.now from to = subst (IsLeaner old.program.now from) is lower in
      record {
        program = refl;
        same = same;
        whole = record {
          kept = kept;
          own = states.own from to same;
          in_hand = (call_placed old.program.now (size_of heap.changes) due.in_hand.0.0 p ts row due.in_hand.0.1 count_is (omega (arith, loaded.within, count_is)), due.in_hand.1);
        };
      }
