-- Frames and choices whose cells are among so many.
use Rattle.std.proofs.Common.{◌≡◌, ◌≤◌, ◌<◌, ◌⊎◌, inl, inr, ℕ, zero, suc, ◌+◌, Bool, true, false, List, [], ◌∷◌, ◌++◌, map, length, refl, sym, ap, ◌∙◌, arith}
use Rattle.std.specs.Prelude.{if◌then◌else◌, nat_le, ◌==◌, ◌&&◌}
use Rattle.std.specs.List.{AllByRecursion, list_all}
use Rattle.std.proofs.lemmas.Bool.{cases_lt, le-leb, lt-leb, and_parts}
use Rattle.std.proofs.lemmas.Bool.Decides.{nat_tests}
use Rattle.term_core.specs.declared.terms.Term.{Term, Var, Atom, Node}
use Rattle.term_core.specs.Ranges.{has_names}
use Rattle.term_core.specs.Terms.{instance, instance_step, occurs, above, above_step, greatest}
use Rattle.term_core.proofs.TermFolds.{fold-Var, fold-Int, fold-Atom, fold-Node, ind_terms}
use Rattle.term_core.proofs.TermLaws.{instance-Var, instance-Node, instance-itself, instance_agrees, map_map}
use Rattle.prog_data.specs.declared.goals.Goal.{Goal}
use Rattle.prog_data.specs.declared.goals.Goal as goal
use Rattle.prog_data.specs.declared.programs.Program.{Program}
use Rattle.prog_data.specs.declared.programs.Place.{Place}
use Rattle.prog_data.specs.Goals.{goal_instance}
use Rattle.prog_data.specs.Ranges.{is_term_of, is_builtin_of, is_call_of, goal_step, is_goal_of}
use Rattle.prog_data.proofs.GoalFolds.{ind_goals, fold-Call, fold-Builtin, fold-Conj, fold-Disj, fold-IfElse, fold-Not}
use Rattle.prog_data.proofs.GoalInstances.{goal_instance-instance, at_true, at_fail, at_cut, at_call, at_builtin, at_conj, at_disj, at_if, at_not, at_exit}
use Rattle.machine_model.specs.State.{Does, Exits, Call, Choice, Resume, Try, Mark, item_instance, frame_instance}
use Rattle.machine_model.specs.LeanerLaws.{below, IsFrameBelow, IsCallBelow, AreBelow}
use Rattle.term_heap.specs.declared.cells.Cell.{Cell}
use Rattle.term_heap.specs.Changes.{Change, Grows, Binds, size_of, value_of, places, undone, IsMade}
use Rattle.term_heap.specs.Loads.{from_base}
use Rattle.term_heap.proofs.PastLaws.{sizes_stay}
use Rattle.term_heap.proofs.ValueLaws.{grown_below, map_places}
use Rattle.engine_state.specs.Engines.{Task, Runs, Cuts, Leaves, Link, chain, Alternative, Resumes, Retries, Marks, ChoicePoint, Pending, item_of, frame_with, call_with, alternative_choices, point_choices, choices_of}
use Rattle.engine_state.specs.Within.{IsTaskWithin, AreTasksWithin, AreLinksWithin, IsAlternativeWithin, IsPointWithin, ArePointsWithin, TasksWithin, VariablesWithin}
use Rattle.engine_state.proofs.BelowLaws.{stands_below}

-- goals

-- values that agree below a number give one instance of a goal whose variables are below it
module _ (vars : ℕ) (f g : ℕ → Term) (agree : (v : ℕ) → v < vars → f v ≡ g v) where
  at_variable : (v : ℕ) → (v < vars) ⊎ (vars ≤ v) → instance f (below vars v) ≡ instance g (below vars v)
  at_variable v (inl lt) =
      let here : below vars v ≡ Var v = ap (λ b. if b then Atom 0 else Var v) (lt-leb vars v lt) in
      ap (instance f) here ∙ instance-Var f v ∙ agree v lt ∙ sym (instance-Var g v) ∙ sym (ap (instance g) here)
  at_variable v (inr le) =
      let past : below vars v ≡ Atom 0 = ap (λ b. if b then Atom 0 else Var v) (le-leb vars v le) in
      ap (instance f) past ∙ fold-Atom Term (instance_step f) 0 ∙ sym (fold-Atom Term (instance_step g) 0) ∙ sym (ap (instance g) past)

  pub goals_agree : (x : Goal) → goal_instance (below vars) x ≡ x → goal_instance f x ≡ goal_instance g x
  goals_agree x closed =
      ap (goal_instance f) (sym closed) ∙ goal_instance-instance f (below vars) x
      ∙ (λ i. goal_instance (λ v. at_variable v (cases_lt v vars) i) x)
      ∙ sym (goal_instance-instance g (below vars) x) ∙ ap (goal_instance g) closed

-- frames

module _ (cells : ℕ) (value old new : ℕ → Term) (follows : (i : ℕ) → i < cells → new i ≡ instance value (old i)) where
  item_follows : (task : Task) → IsTaskWithin cells task → item_of new task ≡ item_instance value (item_of old task)
  item_follows (Runs g base h place) is =
      let enough : base + is.0 ≤ cells = is.2 in
      ap (λ x. Does x h place) (goals_agree is.0 (from_base new base) (λ v. instance value (from_base old base v)) (λ v lt. follows (v + base) (omega (arith, lt, enough))) g is.1 ∙ sym (goal_instance-instance value (from_base old base) g))
  item_follows (Cuts h) is = refl
  item_follows (Leaves e) is =
      ap (λ ts. Exits e.pred ts e.noted e.mark) (map_places new (λ i. instance value (old i)) cells e.count e.first follows is ∙ sym (map_map (instance value) old (places e.first e.count)))

  items_follow : (tasks : List Task) → AreTasksWithin cells tasks → map (item_of new) tasks ≡ map (item_instance value) (map (item_of old) tasks)
  items_follow [] are = refl
  items_follow (task ∷ tasks) are = λ i. item_follows task are.0 i ∷ items_follow tasks are.1 i

  pub frame_follows : (tasks : List Task) (query : ℕ) → AreTasksWithin cells tasks → query < cells → frame_with new tasks query ≡ frame_instance value (frame_with old tasks query)
  frame_follows tasks query are lt = λ i. record { items = items_follow tasks are i; query = follows query lt i }

module _ (cells : ℕ) (old new : ℕ → Term) (same : (i : ℕ) → i < cells → new i ≡ old i) where
  item_stays : (task : Task) → IsTaskWithin cells task → item_of new task ≡ item_of old task
  item_stays (Runs g base h place) is =
      let enough : base + is.0 ≤ cells = is.2 in
      ap (λ x. Does x h place) (goals_agree is.0 (from_base new base) (from_base old base) (λ v lt. same (v + base) (omega (arith, lt, enough))) g is.1)
  item_stays (Cuts h) is = refl
  item_stays (Leaves e) is = ap (λ ts. Exits e.pred ts e.noted e.mark) (map_places new old cells e.count e.first same is)

  items_stay : (tasks : List Task) → AreTasksWithin cells tasks → map (item_of new) tasks ≡ map (item_of old) tasks
  items_stay [] are = refl
  items_stay (task ∷ tasks) are = λ i. item_stays task are.0 i ∷ items_stay tasks are.1 i

  frame_stays : (tasks : List Task) (query : ℕ) → AreTasksWithin cells tasks → query < cells → frame_with new tasks query ≡ frame_with old tasks query
  frame_stays tasks query are lt = λ i. record { items = items_stay tasks are i; query = same query lt i }

-- more cells

task_more : (cells most : ℕ) (task : Task) → cells ≤ most → IsTaskWithin cells task → IsTaskWithin most task
task_more cells most (Runs g base h place) le is = let enough : base + is.0 ≤ cells = is.2 in (is.0, is.1, omega (arith, le, enough))
task_more cells most (Cuts h) le is = tt
task_more cells most (Leaves e) le is = omega (arith, le, is)

tasks_more : (cells most : ℕ) (tasks : List Task) → cells ≤ most → AreTasksWithin cells tasks → AreTasksWithin most tasks
tasks_more cells most [] le are = tt
tasks_more cells most (task ∷ tasks) le are = (task_more cells most task le are.0, tasks_more cells most tasks le are.1)

-- links

chain_within : (cells : ℕ) (links : List Link) (k : ℕ) → AreLinksWithin cells links → AreTasksWithin cells (chain links k)
chain_within cells [] k are = tt
chain_within cells (l ∷ older) k are = by_number (k == suc (length older)) (chain_within cells older l.next are.1) (chain_within cells older k are.1) where
  by_number : (b : Bool) → AreTasksWithin cells (chain older l.next) → AreTasksWithin cells (chain older k) → AreTasksWithin cells (if b then l.task ∷ chain older l.next else chain older k)
  by_number true first other = (are.0, first)
  by_number false first other = other

-- goals in range

-- a term all of whose variables are below a number is unchanged
above_below : (n : ℕ) (t : Term) → above t ≤ n → instance (below n) t ≡ t
above_below n = ind_terms (λ t. above t ≤ n → instance (below n) t ≡ t)
    (λ v le. let e = fold-Var ℕ above_step v in instance-Var (below n) v ∙ ap (λ b. if b then Atom 0 else Var v) (lt-leb n v (omega (arith, e, le))))
    (λ k le. fold-Int Term (instance_step (below n)) k)
    (λ a le. fold-Atom Term (instance_step (below n)) a)
    (λ f ts h le. let e = fold-Node ℕ above_step f ts in instance-Node (below n) f ts ∙ ap (Node f) (each ts h (omega (arith, e, le))))
  where
    each : (ts : List Term) → AllByRecursion (λ t. above t ≤ n → instance (below n) t ≡ t) ts → greatest (map above ts) ≤ n → map (instance (below n)) ts ≡ ts
    each [] h le = refl
    each (t ∷ ts) h le = λ i. h.0 (omega (arith, le)) i ∷ each ts h.1 (omega (arith, le)) i

le_of : (a b : ℕ) → nat_le a b ≡ true → a ≤ b
le_of a b e = grind (arith, nat_tests)

module _ (program : Program) (vars : ℕ) where
  term_closed : (t : Term) → is_term_of program vars t ≡ true → instance (below vars) t ≡ t
  term_closed t e = above_below vars t (le_of (above t) vars (and_parts (has_names (length program.names) t) _ e).1)

  terms_closed : (ts : List Term) → list_all (is_term_of program vars) ts ≡ true → map (instance (below vars)) ts ≡ ts
  terms_closed [] e = refl
  terms_closed (t ∷ ts) e =
      let parts = and_parts (is_term_of program vars t) _ e in
      ap (λ x. x ∷ map (instance (below vars)) ts) (term_closed t parts.0) ∙ ap (λ xs. t ∷ xs) (terms_closed ts parts.1)

  pub goal_closed : (g : Goal) → is_goal_of program vars g ≡ true → goal_instance (below vars) g ≡ g
  goal_closed = ind_goals (λ g. is_goal_of program vars g ≡ true → goal_instance (below vars) g ≡ g)
      (λ e. at_true (below vars))
      (λ e. at_fail (below vars))
      (λ e. at_cut (below vars))
      (λ p ts e. let parts = and_parts (is_call_of program p ts) _ (sym (fold-Call Bool (goal_step program vars) p ts) ∙ e) in
      at_call (below vars) p ts ∙ ap (goal.Call p) (terms_closed ts parts.1))
      (λ b ts e. let parts = and_parts (is_builtin_of (length program.grammar.rules) b ts) _ (sym (fold-Builtin Bool (goal_step program vars) b ts) ∙ e) in
      at_builtin (below vars) b ts ∙ ap (goal.Builtin b) (terms_closed ts parts.1))
      (λ x y h k e. let parts = and_parts (is_goal_of program vars x) _ (sym (fold-Conj Bool (goal_step program vars) x y) ∙ e) in
      at_conj (below vars) x y ∙ (λ i. goal.Conj (h parts.0 i) (k parts.1 i)))
      (λ x y h k e. let parts = and_parts (is_goal_of program vars x) _ (sym (fold-Disj Bool (goal_step program vars) x y) ∙ e) in
      at_disj (below vars) x y ∙ (λ i. goal.Disj (h parts.0 i) (k parts.1 i)))
      (λ x y z h k l e.
      let parts = and_parts (is_goal_of program vars x) _ (sym (fold-IfElse Bool (goal_step program vars) x y z) ∙ e) in
      let branches = and_parts (is_goal_of program vars y) _ parts.1 in
      at_if (below vars) x y z ∙ (λ i. goal.IfElse (h parts.0 i) (k branches.0 i) (l branches.1 i)))
      (λ x h e. at_not (below vars) x ∙ ap goal.Not (h (sym (fold-Not Bool (goal_step program vars) x) ∙ e)))
      (λ e. at_exit (below vars))

pub tasks_within : TasksWithin
tasks_within = record {
  follow = frame_follows;
  stay = frame_stays;
  grown = λ changes cells s i lt. grown_below (value_of changes) (size_of changes) cells i lt;
  more = tasks_more;
  chained = chain_within;
  ranged = λ program cells vars base h g place is le. (vars, goal_closed program vars g is, le);
}

-- variables

-- a term is unchanged where each variable that stands in it is below the number
occurring_below : (n : ℕ) (t : Term) → ((v : ℕ) → occurs v t ≡ true → v < n) → instance (below n) t ≡ t
occurring_below n t all = instance_agrees (below n) Var t (λ v o. ap (λ b. if b then Atom 0 else Var v) (lt-leb n v (all v o))) ∙ instance-itself t

module _ (changes : List Change) (made : IsMade changes) (n : ℕ) (le : size_of changes ≤ n) where
  value_below : (i : ℕ) → i < size_of changes → value_of changes i ≡ instance (below n) (value_of changes i)
  value_below i lt = sym (occurring_below n (value_of changes i) (λ v o. let stands : v < size_of changes = stands_below changes i v made lt o in omega (arith, stands, le)))

  pub frame_below : (tasks : List Task) (query : ℕ) → AreTasksWithin (size_of changes) tasks → query < size_of changes → IsFrameBelow n (frame_with (value_of changes) tasks query)
  frame_below tasks query are lt = sym (frame_follows (size_of changes) (below n) (value_of changes) (value_of changes) value_below tasks query are lt)

  pub args_below : (first count : ℕ) → first + count ≤ size_of changes → map (instance (below n)) (map (value_of changes) (places first count)) ≡ map (value_of changes) (places first count)
  args_below first count enough =
      map_map (instance (below n)) (value_of changes) (places first count)
      ∙ sym (map_places (value_of changes) (λ i. instance (below n) (value_of changes i)) (size_of changes) count first value_below enough)

  tries_below : (call : Call) (left : List ℕ) → IsCallBelow n call → AreBelow n (map (λ k. Try k call) left)
  tries_below call [] is = tt
  tries_below call (k ∷ left) is = (is, tries_below call left is)

  pub alternative_below : (links : List Link) (query : ℕ) (a : Alternative) → query < size_of changes → IsAlternativeWithin (size_of changes) links a → AreBelow n (alternative_choices (value_of changes) links query a)
  alternative_below links query (Resumes rest) lt is = (frame_below (chain links rest) query is lt, tt)
  alternative_below links query (Retries left c) lt is =
      tries_below (call_with (value_of changes) (chain links c.rest) query c) left (args_below c.exit.first c.exit.count is.0, frame_below (chain links c.rest) query is.1 lt)
  alternative_below links query (Marks p conds exited) lt is = tt

-- changes that are undone

made_before : (c : Change) (older : List Change) → IsMade (c ∷ older) → IsMade older
made_before (Grows cells s) older made = made.1
made_before (Binds at to s) older made = made.1

pub undone_made : (n : ℕ) (changes : List Change) → IsMade changes → IsMade (undone n changes)
undone_made n [] made = tt
undone_made n (c ∷ older) made = by_test (nat_le (suc (length older)) n) (undone_made n older (made_before c older made)) where
  by_test : (b : Bool) → IsMade (undone n older) → IsMade (if b then c ∷ older else undone n older)
  by_test true further = made
  by_test false further = further

pub undone_size : (n : ℕ) (changes : List Change) → size_of (undone n changes) ≤ size_of changes
undone_size n [] = omega arith
undone_size n (c ∷ older) = by_test (nat_le (suc (length older)) n) (undone_size n older) (sizes_stay (c ∷ []) older) where
  by_test : (b : Bool) → size_of (undone n older) ≤ size_of older → size_of older ≤ size_of (c ∷ older) → size_of (if b then c ∷ older else undone n older) ≤ size_of (c ∷ older)
  by_test true further grown = omega arith
  by_test false further grown = omega (arith, further, grown)

pub both_below : (n : ℕ) (xs ys : List Choice) → AreBelow n xs → AreBelow n ys → AreBelow n (xs ++ ys)
both_below n [] ys are others = others
both_below n (Resume f ∷ xs) ys are others = (are.0, both_below n xs ys are.1 others)
both_below n (Try k call ∷ xs) ys are others = (are.0, both_below n xs ys are.1 others)
both_below n (Mark p conds exited ∷ xs) ys are others = both_below n xs ys are others

module _ (changes : List Change) (links : List Link) (query : ℕ) (made : IsMade changes) where
  points_below : (points : List ChoicePoint) → ArePointsWithin changes links query points → AreBelow (size_of changes) (choices_of changes links query points)
  points_below [] are = tt
  points_below (p ∷ ps) are =
      both_below (size_of changes) (point_choices changes links query p) (choices_of changes links query ps)
      (alternative_below (undone p.trail changes) (undone_made p.trail changes made) (size_of changes) (undone_size p.trail changes) links query p.alternative are.0.0 are.0.1)
      (points_below ps are.1)

pub variables_within : VariablesWithin
variables_within = record {
  frames = λ changes tasks query made are lt. frame_below changes made (size_of changes) (omega arith) tasks query are lt;
  choices = λ changes links query points made are. points_below changes links query made points are;
}
