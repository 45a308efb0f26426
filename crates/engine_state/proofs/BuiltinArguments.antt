-- Built-ins whose arguments are in cells, in an engine whose heap was changed.
use Rattle.std.proofs.Common.{◌≡◌, ◌≤◌, ◌<◌, ◌+◌, ℕ, zero, List, [], ◌∷◌, ◌++◌, map, reverse, length, refl, sym, ap, subst, ◌∙◌, arith}
use Rattle.std.specs.Prelude.{Bool, true, false, ◌==◌}
use Rattle.std.specs.List.{AllByRecursion, list_all}
use Rattle.std.proofs.lemmas.Bool.{and_parts}
use Rattle.std.proofs.lemmas.Bool.Decides.{nat_tests}
use Rattle.term_core.specs.declared.terms.Term.{Term}
use Rattle.prog_data.specs.declared.goals.Builtin.{Builtin}
use Rattle.prog_data.specs.declared.goals.Builtin.TheVariants as builtin
use Rattle.prog_data.specs.declared.goals.Goal.{Goal}
use Rattle.prog_data.specs.declared.goals.Goal as goal
use Rattle.prog_data.specs.declared.programs.Place.{Place}
use Rattle.prog_data.specs.declared.programs.Program.{Program}
use Rattle.prog_data.specs.Goals.{goal_instance}
use Rattle.prog_data.specs.Ranges.{is_term_of, is_builtin_of, is_goal_of, goal_step, arity_of}
use Rattle.prog_data.proofs.GoalFolds.{fold-Builtin}
use Rattle.machine_model.specs.State.{Item, Does, Doing, Frame, State}
use Rattle.machine_model.specs.Step.{frame_of}
use Rattle.machine_model.specs.Leaner.{IsLeaner}
use Rattle.machine_model.specs.LeanerLaws.{below, AreBelow, IsFrameBelow, LeanerStatesAreFound, before_goal}
use Rattle.term_heap.specs.declared.cells.Cell.{Cell}
use Rattle.term_heap.specs.Changes.{Change, Grows, History, size_of, value_of, places, next_serial, IsMade}
use Rattle.term_heap.specs.Loads.{IsPlaced, from_base, HasLoaded}
use Rattle.term_heap.proofs.PastLaws.{sizes_stay}
use Rattle.term_heap.proofs.ValueLaws.{map_places}
use Rattle.engine_state.specs.declared.tasks.Row.{Row}
use Rattle.engine_state.specs.declared.engine.Engine as code
use Rattle.engine_state.specs.declared.stages.Setting.{Setting}
use Rattle.engine_state.specs.Engines.{Task, Runs, choices_of}
use Rattle.engine_state.specs.Views.{as_links, as_points}
use Rattle.engine_state.specs.Moments.{HasMoments}
use Rattle.engine_state.specs.Within.{AreTasksWithin, ArePointsWithin}
use Rattle.engine_state.specs.Stages.{choices_at, tasks_at, frame_now, goal_state, IsKept, IsDue}
use Rattle.engine_state.specs.BuiltinMoves.{terms_at, builtin_state, IsReady, HasArguments, with_heap}
use Rattle.engine_state.proofs.CallLaws.{placed_terms, links_tasks, query_there}
use Rattle.engine_state.proofs.ChoiceLaws.{later_choices}
use Rattle.engine_state.proofs.GivenLaws.{in_order}
use Rattle.engine_state.proofs.GoalInstances.{at_builtin}
use Rattle.engine_state.proofs.MomentLaws.{later}
use Rattle.engine_state.proofs.WithinLaws.{tasks_within, variables_within, frame_below, args_below}
use Rattle.engine_state.proofs.WithinMoments.{moments_within}

-- an engine whose heap was changed further
module _ (old : code.Engine) (kept : IsKept old) (heap : History) (more : List Change) (is_new : heap.changes ≡ more ++ old.heap.changes) where
  pub more_cells : size_of old.heap.changes ≤ size_of heap.changes
  more_cells = subst (λ cs. size_of old.heap.changes ≤ size_of cs) (sym is_new) (sizes_stay more old.heap.changes)

  still_moments : HasMoments old.program.now old.query heap.changes old.notes.items old.links.items old.points.items
  still_moments =
      subst (λ cs. HasMoments old.program.now old.query cs old.notes.items old.links.items old.points.items) (sym is_new)
      (later old.program.now old.query more old.heap.changes (length old.notes.items) (reverse old.links.items) (reverse old.points.items) kept.moments)

  pub still_kept : IsKept (with_heap old heap)
  still_kept = record { in_range = kept.in_range; indexed = kept.indexed; counted = kept.counted; moments = still_moments }

  pub same_choices : choices_at (with_heap old heap) ≡ choices_at old
  same_choices =
      let links = as_links old.notes.items old.links.items in
      let points = as_points old.index old.notes.items old.points.items in
      ap (λ cs. choices_of cs links old.query points) is_new
      ∙ later_choices more old.heap.changes links old.query points
      (in_order old.program.now old.index old.notes.items old.query old.heap.changes (length old.notes.items) (reverse old.links.items) (reverse old.points.items) kept.moments)

  pub choices_below : IsMade heap.changes → AreBelow (size_of heap.changes) (choices_at old)
  choices_below made =
      let within : ArePointsWithin heap.changes (as_links old.notes.items old.links.items) old.query (as_points old.index old.notes.items old.points.items) =
      (moments_within old.program.now).points_are old.index old.notes.items old.query heap.changes (length old.notes.items) (reverse old.links.items) (reverse old.points.items) still_moments in
      subst (AreBelow (size_of heap.changes)) same_choices
      (variables_within.choices heap.changes (as_links old.notes.items old.links.items) old.query (as_points old.index old.notes.items old.points.items) made within)

  pub tasks_there : (k : ℕ) → AreTasksWithin (size_of heap.changes) (tasks_at old k)
  tasks_there k = tasks_within.more (size_of old.heap.changes) (size_of heap.changes) (tasks_at old k) more_cells (links_tasks old k kept)

  pub query_still : old.query < size_of heap.changes
  query_still = omega (arith, query_there old kept, more_cells)

-- an engine whose heap grew, before a goal whose variables are cells
module _ (found : LeanerStatesAreFound) (old : code.Engine) (kept : IsKept old) (heap : History) (cells : List Cell) (serial : ℕ) (is_new : heap.changes ≡ Grows cells serial ∷ old.heap.changes) (made : IsMade heap.changes) where
  abbrev new : code.Engine
  new = with_heap old heap

  pub made_before : IsMade old.heap.changes
  made_before = (subst IsMade is_new made).1

  pub grown_cells : size_of old.heap.changes ≤ size_of heap.changes
  grown_cells = more_cells old kept heap (Grows cells serial ∷ []) is_new

  pub same_values : (i : ℕ) → i < size_of old.heap.changes → value_of heap.changes i ≡ value_of old.heap.changes i
  same_values i lt = ap (λ cs. value_of cs i) is_new ∙ tasks_within.grown old.heap.changes cells serial i lt

  module _ (rest : ℕ) (g : Goal) (h : ℕ) (place : Place) where
    abbrev tasks : List Task
    tasks = tasks_at old rest

    abbrev from : State
    from = before_goal old.calls (size_of old.heap.changes) (choices_at old) g h place (frame_now old tasks)

    abbrev to : State
    to = before_goal old.calls (size_of heap.changes) (choices_at new) g h place (frame_now new tasks)

    same_frame : frame_now new tasks ≡ frame_now old tasks
    same_frame = tasks_within.stay (size_of old.heap.changes) (value_of old.heap.changes) (value_of heap.changes) same_values tasks old.query (links_tasks old rest kept) (query_there old kept)

    goal_below : goal_instance (below (size_of heap.changes)) g ≡ g → IsFrameBelow (size_of heap.changes) (frame_of (Does g h place ∷ (frame_now old tasks).items) (frame_now old tasks))
    goal_below closed =
        let behind : IsFrameBelow (size_of heap.changes) (frame_now old tasks) = frame_below old.heap.changes made_before (size_of heap.changes) grown_cells tasks old.query (links_tasks old rest kept) (query_there old kept) in
        λ i. record { items = Does (closed i) h place ∷ (behind i).items; query = (behind i).query }

    pub grown_same : goal_instance (below (size_of heap.changes)) g ≡ g → IsLeaner old.program.now from from → IsLeaner old.program.now from to × IsLeaner old.program.now to to
    grown_same closed own =
        let states = found old.program.now kept.in_range in
        let choices : AreBelow (size_of heap.changes) (choices_at old) = choices_below old kept heap (Grows cells serial ∷ []) is_new made in
        let lower : IsLeaner old.program.now from (record from { fresh = size_of heap.changes }) = states.lower (size_of heap.changes) from from choices (goal_below closed) own in
        let same : choices_at old ≡ choices_at new = sym (same_choices old kept heap (Grows cells serial ∷ []) is_new) in
        let frames : frame_now old tasks ≡ frame_now new tasks = sym same_frame in
        let is : record from { fresh = size_of heap.changes } ≡ to = λ i. record {
          calls = old.calls;
          fresh = size_of heap.changes;
          choices = same i;
          current = Doing (frame_of (Does g h place ∷ (frames i).items) (frames i));
        } in
        let leaner : IsLeaner old.program.now from to = subst (IsLeaner old.program.now from) is lower in
        (leaner, states.own from to leaner)

-- as many arguments as a built-in takes

eq_of : (a b : ℕ) → (a == b) ≡ true → a ≡ b
eq_of a b e = grind (arith, nat_tests)

all_of : (a b : ℕ) → (a == b) ≡ true → b ≤ a
all_of a b e = omega (arith, eq_of a b e)

none_false : (false ≡ true) → ⊥
none_false e = cc

enough_terms : (size : ℕ) (b : Builtin) (ts : List Term) → is_builtin_of size b ts ≡ true → arity_of b ≤ length ts
enough_terms size builtin.Unify ts e = all_of (length ts) 2 e
enough_terms size builtin.NotUnify ts e = all_of (length ts) 2 e
enough_terms size builtin.Same ts e = all_of (length ts) 2 e
enough_terms size builtin.NotSame ts e = all_of (length ts) 2 e
enough_terms size builtin.Is ts e = all_of (length ts) 2 e
enough_terms size builtin.Less ts e = all_of (length ts) 2 e
enough_terms size builtin.Greater ts e = all_of (length ts) 2 e
enough_terms size builtin.LessEq ts e = all_of (length ts) 2 e
enough_terms size builtin.GreaterEq ts e = all_of (length ts) 2 e
enough_terms size builtin.NumEq ts e = all_of (length ts) 2 e
enough_terms size builtin.NumNotEq ts e = all_of (length ts) 2 e
enough_terms size builtin.Integer ts e = all_of (length ts) 1 e
enough_terms size builtin.Atom ts e = all_of (length ts) 1 e
enough_terms size builtin.Write ts e = all_of (length ts) 1 e
enough_terms size builtin.Writeq ts e = all_of (length ts) 1 e
enough_terms size builtin.Nl ts e = omega arith
enough_terms size (builtin.Belongs n) [] e = absurd (none_false e)
enough_terms size (builtin.Belongs n) (t ∷ ts) e = omega arith
enough_terms size builtin.IsVar ts e = all_of (length ts) 1 e
enough_terms size builtin.IsNonvar ts e = all_of (length ts) 1 e
enough_terms size builtin.IsGround ts e = all_of (length ts) 1 e

builtin_parts : (program : Program) (vars : ℕ) (b : Builtin) (ts : List Term) → is_goal_of program vars (goal.Builtin b ts) ≡ true → (is_builtin_of (length program.grammar.rules) b ts ≡ true) × (list_all (is_term_of program vars) ts ≡ true)
builtin_parts program vars b ts e = and_parts (is_builtin_of (length program.grammar.rules) b ts) _ (sym (fold-Builtin Bool (goal_step program vars) b ts) ∙ e)

-- the arguments of a built-in that is due are placed
pub placed_terms_at : (e : code.Engine) (b : Builtin) (ts : List Term) (s : Setting) → IsDue e (goal.Builtin b ts) s → AllByRecursion (IsPlaced (size_of e.heap.changes) s.base) ts
placed_terms_at e b ts s due =
    let placed = due.in_hand.0 in
    placed_terms e.program.now placed.0 (size_of e.heap.changes) s.base placed.2 ts (builtin_parts e.program.now placed.0 b ts placed.1).1

-- no arguments

pub bare_ready : (e : code.Engine) (b : Builtin) (ts : List Term) (s : Setting) → length ts ≡ zero → IsDue e (goal.Builtin b ts) s → HasArguments e (goal_state e (goal.Builtin b ts) s) b (record { first = 0; count = 0 }) s e
bare_ready e b [] s none due =
    let behind : Frame = frame_now e (tasks_at e s.rest) in
    let row : Row = record { first = 0; count = 0 } in
    let is : goal_state e (goal.Builtin b []) s ≡ builtin_state e b row s =
    ap (λ g. before_goal e.calls (size_of e.heap.changes) (choices_at e) g s.height s.place behind) (at_builtin (from_base (value_of e.heap.changes) s.base) b []) in
    let own = subst (λ x. IsLeaner e.program.now (goal_state e (goal.Builtin b []) s) x) is due.own in
    record {
      program = refl;
      same = own;
      ready = record {
        kept = due.kept;
        own = subst (λ x. IsLeaner e.program.now x x) is due.own;
        enough = enough_terms (length e.program.now.grammar.rules) b [] (builtin_parts e.program.now due.in_hand.0.0 b [] due.in_hand.0.1).0;
        within = omega arith;
        there = due.in_hand.1;
      };
    }
bare_ready e b (t ∷ ts) s none due = absurd (omega (arith, none))

-- arguments that were put into cells

-- the first goal of items
abbrev first_goal : List Item → Goal
first_goal (Does g h place ∷ items) = g
first_goal other = goal.Fail

pub loaded_ready : (found : LeanerStatesAreFound) (e : code.Engine) (heap : History) (b : Builtin) (first count : ℕ) (ts : List Term) (s : Setting) → IsDue e (goal.Builtin b ts) s → HasLoaded e.heap s.base ts first heap → IsMade heap.changes → count ≡ length ts →
    HasArguments e (goal_state e (goal.Builtin b ts) s) b (record { first = first; count = count }) s (with_heap e heap)
loaded_ready found e heap b first count ts s due loaded made count_is =
    let program : Program = e.program.now in
    let n : ℕ = size_of heap.changes in
    let cells : List Cell = loaded.cells in
    let serial : ℕ = next_serial e.heap.last in
    let is_new : heap.changes ≡ Grows cells serial ∷ e.heap.changes = ap (λ x. x.changes) loaded.is_new in
    let row : Row = record { first = first; count = count } in
    let placed = due.in_hand.0 in
    let value : ℕ → Term = value_of e.heap.changes in
    let g : Goal = goal_instance (from_base value s.base) (goal.Builtin b ts) in
    let made_old : IsMade e.heap.changes = made_before found e due.kept heap cells serial is_new made in
    let grows : size_of e.heap.changes ≤ n = grown_cells found e due.kept heap cells serial is_new made in
    let alone : AreTasksWithin (size_of e.heap.changes) (Runs (goal.Builtin b ts) s.base s.height s.place ∷ []) =
    (tasks_within.ranged program (size_of e.heap.changes) placed.0 s.base s.height (goal.Builtin b ts) s.place placed.1 placed.2, tt) in
    let closed : goal_instance (below n) g ≡ g = ap (λ f. first_goal f.items) (frame_below e.heap.changes made_old n grows (Runs (goal.Builtin b ts) s.base s.height s.place ∷ []) e.query alone (query_there e due.kept)) in
    let same = grown_same found e due.kept heap cells serial is_new made s.rest g s.height s.place closed due.own in
    let is : g ≡ goal.Builtin b (terms_at (with_heap e heap) row) =
    at_builtin (from_base value s.base) b ts ∙ ap (goal.Builtin b) (sym (ap (λ k. map (value_of heap.changes) (places first k)) count_is ∙ loaded.are_terms)) in
    let state : Goal → State = λ x. before_goal e.calls n (choices_at (with_heap e heap)) x s.height s.place (frame_now (with_heap e heap) (tasks_at e s.rest)) in
    let enough : arity_of b ≤ length ts = enough_terms (length program.grammar.rules) b ts (builtin_parts program placed.0 b ts placed.1).0 in
    record {
      program = refl;
      same = subst (λ x. IsLeaner program (goal_state e (goal.Builtin b ts) s) (state x)) is same.0;
      ready = record {
        kept = still_kept e due.kept heap (Grows cells serial ∷ []) is_new;
        own = subst (λ x. IsLeaner program (state x) (state x)) is same.1;
        enough = omega (arith, enough, count_is);
        within = omega (arith, loaded.within, count_is);
        there = due.in_hand.1;
      };
    }

-- the arguments are still there where the heap grew

pub same_terms : (found : LeanerStatesAreFound) (e : code.Engine) (kept : IsKept e) (heap : History) (cells : List Cell) (serial : ℕ) (is_new : heap.changes ≡ Grows cells serial ∷ e.heap.changes) → IsMade heap.changes → (args : Row) → args.first + args.count ≤ size_of e.heap.changes →
    terms_at e args ≡ terms_at (with_heap e heap) args
same_terms found e kept heap cells serial is_new made args within =
    sym (map_places (value_of heap.changes) (value_of e.heap.changes) (size_of e.heap.changes) args.count args.first (same_values found e kept heap cells serial is_new made) within)

pub grown_ready : (found : LeanerStatesAreFound) (e : code.Engine) (heap : History) (b : Builtin) (args : Row) (s : Setting) (cells : List Cell) (serial : ℕ) → IsReady e b args s → heap.changes ≡ Grows cells serial ∷ e.heap.changes → IsMade heap.changes →
    HasArguments e (builtin_state e b args s) b args s (with_heap e heap)
grown_ready found e heap b args s cells serial ready is_new made =
    let program : Program = e.program.now in
    let n : ℕ = size_of heap.changes in
    let g : Goal = goal.Builtin b (terms_at e args) in
    let made_old : IsMade e.heap.changes = made_before found e ready.kept heap cells serial is_new made in
    let grows : size_of e.heap.changes ≤ n = grown_cells found e ready.kept heap cells serial is_new made in
    let closed : goal_instance (below n) g ≡ g = at_builtin (below n) b (terms_at e args) ∙ ap (goal.Builtin b) (args_below e.heap.changes made_old n grows args.first args.count ready.within) in
    let same = grown_same found e ready.kept heap cells serial is_new made s.rest g s.height s.place closed ready.own in
    let is : g ≡ goal.Builtin b (terms_at (with_heap e heap) args) = ap (goal.Builtin b) (same_terms found e ready.kept heap cells serial is_new made args ready.within) in
    let state : Goal → State = λ x. before_goal e.calls n (choices_at (with_heap e heap)) x s.height s.place (frame_now (with_heap e heap) (tasks_at e s.rest)) in
    record {
      program = refl;
      same = subst (λ x. IsLeaner program (builtin_state e b args s) (state x)) is same.0;
      ready = record {
        kept = still_kept e ready.kept heap (Grows cells serial ∷ []) is_new;
        own = subst (λ x. IsLeaner program (state x) (state x)) is same.1;
        enough = ready.enough;
        within = omega (arith, ready.within, grows);
        there = ready.there;
      };
    }
