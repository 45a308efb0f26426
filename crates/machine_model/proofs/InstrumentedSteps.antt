-- The run of an instrumented program by its checks is that of the program with only the kept conditions, but for exits that test nothing.
use Rattle.std.proofs.Common.{zero, map, arith, ◌≡◌, ℕ, suc, ◌+◌, Bool, true, false, List, [], ◌∷◌, ◌++◌, length, refl, ap, sym, ◌∙◌, subst}
use Rattle.std.specs.Prelude.{nat_le, not, filter, slice_get, slice_index_or, Option, None, Some, if◌then◌else◌}
use Rattle.term_core.specs.declared.terms.Term.{Term}
use Rattle.term_core.specs.declared.terms.Term as term
use Rattle.term_core.specs.declared.equations.Outcome.TheVariants.{Solved, Clash, Cyclic}
use Rattle.term_core.specs.Unify.{Stage, Open, Ended, values}
use Rattle.prog_data.specs.declared.goals.Goal.{Goal, out-Goal}
use Rattle.prog_data.specs.declared.goals.Goal as goal
use Rattle.prog_data.specs.declared.goals.Goal.TheOpen.{Goal-F, True, Fail, Cut, Call as CallGoal, Builtin as BuiltinGoal, Conj, Disj, IfElse, Not, Exit}
use Rattle.prog_data.specs.declared.programs.Clause.{Clause}
use Rattle.prog_data.specs.declared.programs.Place.{Place}
use Rattle.prog_data.specs.declared.programs.Program.{Program}
use Rattle.prog_data.specs.declared.events.Event.TheVariants as event
use Rattle.prog_data.specs.declared.events.Ending.{Ending}
use Rattle.prog_data.specs.declared.events.Ending.TheVariants as ending
use Rattle.prog_data.specs.Conditions.{kind_of, pre_holds, calls_hold, exit_breaks, failure_breaks}
use Rattle.prog_data.specs.Goals.{pred_of, ends_in_exit, without_exit, goal_instance}
use Rattle.machine_model.specs.State.{Item, Does, CutTo, Exits, Frame, Call, Choice, Resume, Try, Mark, Current, Doing, Solving, Failed, State, Phase, Going, Over, Trace, item_instance, cut, choice_at, exited, exit_mark}
use Rattle.machine_model.specs.Tests.{Tests, Looks, every_condition, kept_checks, all_looks, only_looks, only_kept}
use Rattle.machine_model.specs.Step.{step, frame_step, goal_step, call_step, call_made, builtin_step, failure_step, try_step, solving_step, Finding, Holds, Breaks, Unknown, finding, after_test, after_tests, tries, with_mark, mark_height, mark_of, mark_conds, mark_exited, quietly, Effect, Succeeds, Fails, Writes, Equates, Becomes, Faults, effect}
use Rattle.std.specs.List.{AllByRecursion}
use Rattle.std.specs.Prelude.{option_map, ◌==◌}
use Rattle.term_core.specs.Terms.{higher}
use Rattle.prog_data.specs.declared.tables.Status.{Status}
use Rattle.prog_data.specs.Programs.{HasNoExit}
use Rattle.machine_model.specs.Instrumented.{is_kept, has_exit, with_exit, with_exit_at, instrumented, instrumented_pred}
use Rattle.machine_model.proofs.InstrumentedLooks.{looks_same, body_same, body_ends, pred_at, clause_at}
use Rattle.machine_model.proofs.ErasureRuns.{no_exit}

-- the same items, but for exits that test nothing
pub data Items : List Item → List Item → Type 0 where
  none : Items [] []
  same : {i : Item} {is is' : List Item} → Items is is' → Items (i ∷ is) (i ∷ is')
  extra : {p : ℕ} {args : List Term} {is is' : List Item} → Items is is' → Items (Exits p args [] None ∷ is) is'

pub items_instance : {is is' : List Item} (value : ℕ → Term) → Items is is' → Items (map (item_instance value) is) (map (item_instance value) is')
items_instance value none = none
items_instance value (same rest) = same (items_instance value rest)
items_instance value (extra rest) = extra (items_instance value rest)

pub data Frames : Frame → Frame → Type 0 where
  frames : {is is' : List Item} {query : Term} → Items is is' → Frames (record { items = is; query = query }) (record { items = is'; query = query })

-- nothing is noted and there is no mark where the predicate's bodies name no exit
abbrev pub TestsNothing : Bool → List ℕ → Option ℕ → Type 0
TestsNothing has noted mark = has ≡ false → (noted ≡ []) × (mark ≡ None)

module _ (program : Program) (statuses : List Status) where
  abbrev pub looks : ℕ → Looks
  looks p = only_looks (is_kept statuses) (all_looks program (pred_of program p))

  abbrev pub has : ℕ → Bool
  has p = has_exit (looks p).notes (looks p).marks

  pub data Calls : Call → Call → Type 0 where
    calls : {p : ℕ} {args : List Term} {noted : List ℕ} {mark mark' : Option ℕ} {h h' : ℕ} {rest rest' : Frame} → TestsNothing (has p) noted mark → mark ≡ mark' → h ≡ h' → Frames rest rest' →
        Calls (record { pred = p; args = args; noted = noted; mark = mark; height = h; rest = rest }) (record { pred = p; args = args; noted = noted; mark = mark'; height = h'; rest = rest' })

  pub data Choices : List Choice → List Choice → Type 0 where
    none : Choices [] []
    resume : {f f' : Frame} {cs cs' : List Choice} → Frames f f' → Choices cs cs' → Choices (Resume f ∷ cs) (Resume f' ∷ cs')
    try : {k : ℕ} {call call' : Call} {cs cs' : List Choice} → Calls call call' → Choices cs cs' → Choices (Try k call ∷ cs) (Try k call' ∷ cs')
    mark : {p : ℕ} {conds : List ℕ} {e : Bool} {cs cs' : List Choice} → Choices cs cs' → Choices (Mark p conds e ∷ cs) (Mark p conds e ∷ cs')

  pub length_same : {cs cs' : List Choice} → Choices cs cs' → length cs ≡ length cs'
  length_same none = refl
  length_same (resume f rest) = ap suc (length_same rest)
  length_same (try call rest) = ap suc (length_same rest)
  length_same (mark rest) = ap suc (length_same rest)

  pub data Currents : Current → Current → Type 0 where
    doing : {f f' : Frame} → Frames f f' → Currents (Doing f) (Doing f')
    solving : {place : Place} {stage : Stage} {f f' : Frame} → Frames f f' → Currents (Solving place stage f) (Solving place stage f')
    failed : Currents Failed Failed

  pub data States : State → State → Type 0 where
    states : {calls fresh : ℕ} {cs cs' : List Choice} {c c' : Current} → Choices cs cs' → Currents c c' →
        States (record { calls = calls; fresh = fresh; choices = cs; current = c }) (record { calls = calls; fresh = fresh; choices = cs'; current = c' })

  -- cuts and exits

  cut_both : (h : ℕ) (c c' : Choice) (cs cs' : List Choice) → Choices (c ∷ cs) (c' ∷ cs') → length cs ≡ length cs' → Choices (cut h cs) (cut h cs') → Choices (cut h (c ∷ cs)) (cut h (c' ∷ cs'))
  cut_both h c c' cs cs' whole e below = subst (λ b. Choices (cut h (c ∷ cs)) (if b then cut h cs' else c' ∷ cs')) (ap (nat_le h) e) (pick (nat_le h (length cs)))
    where
      pick : (b : Bool) → Choices (if b then cut h cs else c ∷ cs) (if b then cut h cs' else c' ∷ cs')
      pick true = below
      pick false = whole

  pub cut_choices : {cs cs' : List Choice} (h : ℕ) → Choices cs cs' → Choices (cut h cs) (cut h cs')
  cut_choices h none = none
  cut_choices h (resume {f} {f'} {cs} {cs'} r rest) = cut_both h (Resume f) (Resume f') cs cs' (resume r rest) (length_same rest) (cut_choices h rest)
  cut_choices h (try {k} {call} {call'} {cs} {cs'} r rest) = cut_both h (Try k call) (Try k call') cs cs' (try r rest) (length_same rest) (cut_choices h rest)
  cut_choices h (mark {p} {conds} {e} {cs} {cs'} rest) = cut_both h (Mark p conds e) (Mark p conds e) cs cs' (mark rest) (length_same rest) (cut_choices h rest)

  pub record Exited (m : Option ℕ) (cs cs' : List Choice) : Type 0 where
    pub choices : Choices (exit_mark m cs) (exit_mark m cs')
    pub conds : mark_conds (mark_of m cs) ≡ mark_conds (mark_of m cs')
    pub exits : mark_exited (mark_of m cs) ≡ mark_exited (mark_of m cs')

  exit_both : (h : ℕ) (c c' : Choice) (cs cs' : List Choice) → length cs ≡ length cs' → Choices (exited c ∷ cs) (exited c' ∷ cs') → mark_conds (Some c) ≡ mark_conds (Some c') → mark_exited (Some c) ≡ mark_exited (Some c') →
      ((ds ds' : List Choice) → Choices ds ds' → Choices (c ∷ ds) (c' ∷ ds')) → Exited (Some h) cs cs' → Exited (Some h) (c ∷ cs) (c' ∷ cs')
  exit_both h c c' cs cs' e whole conds exits build below = record {
    choices = subst (λ b. Choices (exit_mark (Some h) (c ∷ cs)) (if b then exited c' ∷ cs' else c' ∷ exit_mark (Some h) cs')) (ap (λ n. h == n) e) (pick (h == length cs));
    conds = pick_conds (h == length cs) ∙ ap (λ n. mark_conds (if h == n then Some c' else choice_at h cs')) e;
    exits = pick_exits (h == length cs) ∙ ap (λ n. mark_exited (if h == n then Some c' else choice_at h cs')) e;
  }
    where
      pick : (b : Bool) → Choices (if b then exited c ∷ cs else c ∷ exit_mark (Some h) cs) (if b then exited c' ∷ cs' else c' ∷ exit_mark (Some h) cs')
      pick true = whole
      pick false = build _ _ below.choices

      pick_conds : (b : Bool) → mark_conds (if b then Some c else choice_at h cs) ≡ mark_conds (if b then Some c' else choice_at h cs')
      pick_conds true = conds
      pick_conds false = below.conds

      pick_exits : (b : Bool) → mark_exited (if b then Some c else choice_at h cs) ≡ mark_exited (if b then Some c' else choice_at h cs')
      pick_exits true = exits
      pick_exits false = below.exits

  pub exit_choices : {cs cs' : List Choice} (m : Option ℕ) → Choices cs cs' → Exited m cs cs'
  exit_choices None r = record { choices = r; conds = refl; exits = refl }
  exit_choices (Some h) none = record { choices = none; conds = refl; exits = refl }
  exit_choices (Some h) (resume {f} {f'} {cs} {cs'} r rest) = exit_both h (Resume f) (Resume f') cs cs' (length_same rest) (resume r rest) refl refl (λ ds ds' x. resume r x) (exit_choices (Some h) rest)
  exit_choices (Some h) (try {k} {call} {call'} {cs} {cs'} r rest) = exit_both h (Try k call) (Try k call') cs cs' (length_same rest) (try r rest) refl refl (λ ds ds' x. try r x) (exit_choices (Some h) rest)
  exit_choices (Some h) (mark {p} {conds} {e} {cs} {cs'} rest) = exit_both h (Mark p conds e) (Mark p conds e) cs cs' (length_same rest) (mark rest) refl refl (λ ds ds' x. mark x) (exit_choices (Some h) rest)

  -- what a call puts among the choices

  pub tries_choices : (k : ℕ) (cl cl' : List Clause) → length cl ≡ length cl' → (call call' : Call) (below below' : List Choice) → Calls call call' → Choices below below' → Choices (tries k cl call ++ below) (tries k cl' call' ++ below')
  tries_choices k [] [] e call call' below below' r ch = ch
  tries_choices k [] (c ∷ cl') e call call' below below' r ch = cc
  tries_choices k (c ∷ cl) [] e call call' below below' r ch = cc
  tries_choices k (c ∷ cl) (c' ∷ cl') e call call' below below' r ch = try r (tries_choices (suc k) cl cl' (tails _ _ e) call call' below below' r ch)
    where
      tails : (a b : ℕ) → suc a ≡ suc b → a ≡ b
      tails a b e = omega (arith, e)

  pub with_mark_choices : (p : ℕ) (marked : List ℕ) (cs cs' : List Choice) → Choices cs cs' → Choices (with_mark p marked cs) (with_mark p marked cs')
  with_mark_choices p [] cs cs' ch = ch
  with_mark_choices p (c ∷ marked) cs cs' ch = mark ch

  -- phases that go on alike, or are over alike
  pub data Phases : Phase → Phase → Type 0 where
    on : {s s' : State} → States s s' → Phases (Going s) (Going s')
    over : {e : Ending} → Phases (Over e) (Over e)

  pub record Alike (t t' : Trace) : Type 0 where
    pub events : t.events ≡ t'.events
    pub phases : Phases t.phase t'.phase

  -- a step is followed by one, or by none
  pub data Follows (t : Trace) (s' : State) (t' : Trace) : Type 0 where
    moves : Alike t t' → Follows t s' t'
    stays : (s : State) → t.events ≡ [] → t.phase ≡ Going s → States s s' → Follows t s' t'

  recount : (t t' : Trace) (n n' : ℕ) → Alike t t' → Alike (record t { tests = n }) (record t' { tests = n' })
  recount t t' n n' a = record { events = a.events; phases = a.phases }

  -- one test in both
  one_tested : (stops : Bool) (counts counts' c : ℕ) (found : Finding) (t t' : Trace) → Alike t t' → Alike (after_test stops counts c found t) (after_test stops counts' c found t')
  one_tested stops counts counts' c Holds t t' a = recount t t' (counts + t.tests) (counts' + t'.tests) a
  one_tested true counts counts' c Breaks t t' a = record { events = refl; phases = over }
  one_tested false counts counts' c Breaks t t' a = record { events = ap (λ es. event.Broken c ∷ es) a.events; phases = a.phases }
  one_tested stops counts counts' c Unknown t t' a = record { events = refl; phases = over }

  -- the same tests in both
  pub tested : (stops : Bool) (counts counts' : ℕ) (find : ℕ → Finding) (cs : List ℕ) (next next' : Trace) → Alike next next' → Alike (after_tests stops counts find cs next) (after_tests stops counts' find cs next')
  tested stops counts counts' find [] next next' a = a
  tested stops counts counts' find (c ∷ cs) next next' a = one_tested stops counts counts' c (find c) _ _ (tested stops counts counts' find cs next next' a)

  nothing : (notes marks : List ℕ) → has_exit notes marks ≡ false → (notes ≡ []) × (marks ≡ [])
  nothing [] [] e = (refl, refl)
  nothing [] (c ∷ marks) e = cc
  nothing (c ∷ notes) marks e = cc

  mark_height_same : (marked : List ℕ) (cs cs' : List Choice) → length cs ≡ length cs' → mark_height marked cs ≡ mark_height marked cs'
  mark_height_same [] cs cs' e = refl
  mark_height_same (c ∷ marked) cs cs' e = ap Some e

  length_map : (cl : List Clause) → length cl ≡ length (map with_exit cl)
  length_map [] = refl
  length_map (c ∷ cl) = ap suc (length_map cl)

  length_if : (b : Bool) (cl : List Clause) → length cl ≡ length (if b then map with_exit cl else cl)
  length_if true cl = length_map cl
  length_if false cl = refl

module _ (stops : Bool) (program : Program) (statuses : List Status) (linked : HasNoExit program) (bound : ℕ) where
  abbrev pub keeps : ℕ → Bool
  keeps = is_kept statuses

  abbrev pub some : Tests
  some = record (only_kept keeps (every_condition program)) { stops = stops }

  abbrev pub checks : Program
  checks = instrumented program statuses

  abbrev pub by_checks : Tests
  by_checks = record (kept_checks checks) { stops = stops }

  abbrev pub one : State → Trace
  one = step some program bound

  abbrev pub other : State → Trace
  other = step by_checks checks bound

  -- the tests of two marks that are alike
  marks_tested : (o o' : Option Choice) → mark_conds o ≡ mark_conds o' → mark_exited o ≡ mark_exited o' → (next next' : Trace) → Alike program statuses next next' →
      Alike program statuses (after_tests stops 0 (λ c. finding (not (exit_breaks (mark_exited o) (kind_of program c)))) (mark_conds o) next) (after_tests stops 0 (λ c. finding (not (exit_breaks (mark_exited o') (kind_of program c)))) (mark_conds o') next')
  marks_tested o o' conds exits next next' a =
      subst (λ e. Alike program statuses here (there e (mark_conds o'))) exits (subst (λ ds. Alike program statuses here (there (mark_exited o) ds)) conds (tested program statuses stops 0 0 _ (mark_conds o) next next' a))
    where
      here : Trace
      here = after_tests stops 0 (λ c. finding (not (exit_breaks (mark_exited o) (kind_of program c)))) (mark_conds o) next

      there : Bool → List ℕ → Trace
      there e ds = after_tests stops 0 (λ c. finding (not (exit_breaks e (kind_of program c)))) ds next'

  module _ (n fresh : ℕ) where
    abbrev pub at : List Choice → Current → State
    at cs c = record { calls = n; fresh = fresh; choices = cs; current = c }

    goes : {cs cs' : List Choice} {c c' : Current} → Choices program statuses cs cs' → Currents program statuses c c' → Alike program statuses (quietly (Going (at cs c))) (quietly (Going (at cs' c')))
    goes a b = record { events = refl; phases = on (states a b) }

    builtin_alike : (cs cs' : List Choice) (c c' : Current) (e : Effect) (h : ℕ) (place : Place) (is is' : List Item) (query : Term) → Choices program statuses cs cs' → Items is is' →
        Alike program statuses (builtin_step some program bound (at cs c) e h place (record { items = is; query = query })) (builtin_step by_checks checks bound (at cs' c') e h place (record { items = is'; query = query }))
    builtin_alike cs cs' c c' Succeeds h place is is' query ch items = goes ch (doing (frames items))
    builtin_alike cs cs' c c' Fails h place is is' query ch items = goes ch failed
    builtin_alike cs cs' c c' (Writes bytes) h place is is' query ch items = record { events = refl; phases = on (states ch (doing (frames items))) }
    builtin_alike cs cs' c c' (Equates a b) h place is is' query ch items = goes ch (solving (frames items))
    builtin_alike cs cs' c c' (Becomes g) h place is is' query ch items = goes ch (doing (frames (same items)))
    builtin_alike cs cs' c c' (Faults kind) h place is is' query ch items = record { events = refl; phases = over }

    call_alike : (cs cs' : List Choice) (c c' : Current) (p : ℕ) (args : List Term) (is is' : List Item) (query : Term) → Choices program statuses cs cs' → Items is is' →
        Alike program statuses (call_step some program bound (at cs c) p (pred_of program p) args (record { items = is; query = query })) (call_step by_checks checks bound (at cs' c') p (pred_of checks p) args (record { items = is'; query = query }))
    call_alike cs cs' c c' p args is is' query ch items =
        subst (λ pred. Alike program statuses (call_step some program bound (at cs c) p (pred_of program p) args (record { items = is; query = query })) (call_step by_checks checks bound (at cs' c') p pred args (record { items = is'; query = query })))
        (sym (pred_at program statuses program.preds p)) (by_bound (nat_le bound n))
      where
        made : Alike program statuses (call_made some program bound (at cs c) p (pred_of program p) args (record { items = is; query = query })) (call_made by_checks checks bound (at cs' c') p (instrumented_pred program statuses (pred_of program p)) args (record { items = is'; query = query }))
        made =
            let l = only_looks (is_kept statuses) (all_looks program (pred_of program p)) in
            let pre : ℕ → Bool = λ c. pre_holds program.grammar args (kind_of program c) in
            let marked = filter pre l.marks in
            let below = with_mark_choices program statuses p marked cs cs' ch in
            subst (λ k. Alike program statuses (call_made some program bound (at cs c) p (pred_of program p) args (record { items = is; query = query }))
            (call_made (record by_checks { looks = λ pred. k }) checks bound (at cs' c') p (instrumented_pred program statuses (pred_of program p)) args (record { items = is'; query = query })))
            (sym (looks_same program statuses (pred_of program p)))
            (tested program statuses stops 1 1 (λ c. finding (calls_hold program.grammar args (kind_of program c))) l.calls _ _ (record {
              events = refl;
              phases = on (states (tries_choices program statuses 0 (pred_of program p).clauses (instrumented_pred program statuses (pred_of program p)).clauses (length_if program statuses (has program statuses p) (pred_of program p).clauses)
                  (record { pred = p; args = args; noted = filter pre l.notes; mark = mark_height marked cs; height = length (with_mark p marked cs); rest = record { items = is; query = query } })
                  (record { pred = p; args = args; noted = filter pre l.notes; mark = mark_height marked cs'; height = length (with_mark p marked cs'); rest = record { items = is'; query = query } })
                  (with_mark p marked cs) (with_mark p marked cs')
                  (calls (λ no. let e = nothing program statuses l.notes l.marks no in (ap (filter pre) e.0, ap (λ ms. mark_height (filter pre ms) cs) e.1)) (mark_height_same program statuses marked cs cs' (length_same program statuses ch)) (length_same program statuses below) (frames items)) below) failed);
            }))

        by_bound : (b : Bool) → Alike program statuses (if b then quietly (Over ending.Bound) else call_made some program bound (at cs c) p (pred_of program p) args (record { items = is; query = query }))
            (if b then quietly (Over ending.Bound) else call_made by_checks checks bound (at cs' c') p (instrumented_pred program statuses (pred_of program p)) args (record { items = is'; query = query }))
        by_bound true = record { events = refl; phases = over }
        by_bound false = made

    goal_alike : (cs cs' : List Choice) (c c' : Current) (g : Goal-F Goal) (h : ℕ) (place : Place) (is is' : List Item) (query : Term) → Choices program statuses cs cs' → Items is is' →
        Alike program statuses (goal_step some program bound (at cs c) g h place (record { items = is; query = query })) (goal_step by_checks checks bound (at cs' c') g h place (record { items = is'; query = query }))
    goal_alike cs cs' c c' True h place is is' query ch items = goes ch (doing (frames items))
    goal_alike cs cs' c c' Fail h place is is' query ch items = goes ch failed
    goal_alike cs cs' c c' Cut h place is is' query ch items = goes (cut_choices program statuses h ch) (doing (frames items))
    goal_alike cs cs' c c' (CallGoal p args) h place is is' query ch items = call_alike cs cs' c c' p args is is' query ch items
    goal_alike cs cs' c c' (BuiltinGoal b args) h place is is' query ch items =
        builtin_alike cs cs' c c' (effect program b (slice_index_or args 0 (term.Atom 0)) (slice_index_or args 1 (term.Atom 0))) h place is is' query ch items
    goal_alike cs cs' c c' (Conj a b) h place is is' query ch items = goes ch (doing (frames (same (same items))))
    goal_alike cs cs' c c' (Disj a b) h place is is' query ch items = goes (resume (frames (same items)) ch) (doing (frames (same items)))
    goal_alike cs cs' c c' (IfElse t a b) h place is is' query ch items =
        subst (λ k. Alike program statuses (goal_step some program bound (at cs c) (IfElse t a b) h place (record { items = is; query = query }))
        (quietly (Going (at (Resume (record { items = Does b h place ∷ is'; query = query }) ∷ cs') (Doing (record { items = Does t (suc k) place ∷ CutTo k ∷ Does a h place ∷ is'; query = query }))))))
        (length_same program statuses ch) (goes (resume (frames (same items)) ch) (doing (frames (same (same (same items))))))
    goal_alike cs cs' c c' (Not a) h place is is' query ch items =
        subst (λ k. Alike program statuses (goal_step some program bound (at cs c) (Not a) h place (record { items = is; query = query }))
        (quietly (Going (at (Resume (record { items = is'; query = query }) ∷ cs') (Doing (record { items = Does a (suc k) place ∷ CutTo k ∷ Does goal.Fail h place ∷ is'; query = query }))))))
        (length_same program statuses ch) (goes (resume (frames items) ch) (doing (frames (same (same (same items))))))
    goal_alike cs cs' c c' Exit h place is is' query ch items = goes ch (doing (frames items))

    item_alike : (cs cs' : List Choice) (c c' : Current) (i : Item) (is is' : List Item) (query : Term) → Choices program statuses cs cs' → Items is is' →
        Alike program statuses (frame_step some program bound (at cs c) (record { items = i ∷ is; query = query }) (i ∷ is)) (frame_step by_checks checks bound (at cs' c') (record { items = i ∷ is'; query = query }) (i ∷ is'))
    item_alike cs cs' c c' (Does g h place) is is' query ch items = goal_alike cs cs' c c' (out-Goal g) h place is is' query ch items
    item_alike cs cs' c c' (CutTo h) is is' query ch items = goes (cut_choices program statuses h ch) (doing (frames items))
    item_alike cs cs' c c' (Exits p args noted m) is is' query ch items =
        let x = exit_choices program statuses m ch in
        tested program statuses stops 1 1 _ noted _ _ (marks_tested (mark_of m cs) (mark_of m cs') x.conds x.exits _ _ (goes x.choices (doing (frames items))))

    frame_follows : (cs cs' : List Choice) (c c' : Current) (is is' : List Item) (query : Term) → Choices program statuses cs cs' → Items is is' → c' ≡ Doing (record { items = is'; query = query }) →
        Follows program statuses (frame_step some program bound (at cs c) (record { items = is; query = query }) is) (at cs' c') (frame_step by_checks checks bound (at cs' c') (record { items = is'; query = query }) is')
    frame_follows cs cs' c c' is is' query ch none now = moves (record { events = refl; phases = on (states ch failed) })
    frame_follows cs cs' c c' is is' query ch (same {i = i} {is = rest} {is' = rest'} items) now = moves (item_alike cs cs' c c' i rest rest' query ch items)
    frame_follows cs cs' c c' is is' query ch (extra {is = rest} items) now =
        stays (at cs (Doing (record { items = rest; query = query }))) refl refl (states ch (subst (λ x. Currents program statuses (Doing (record { items = rest; query = query })) x) (sym now) (doing (frames items))))

    clause_alike : (cs cs' ds ds' : List Choice) (p : ℕ) (clause : Clause) (args : List Term) (noted : List ℕ) (m m' : Option ℕ) (h h' : ℕ) (is is' : List Item) (query : Term) (b : Bool) → ends_in_exit clause.body ≡ false → has program statuses p ≡ b →
        Choices program statuses cs cs' → TestsNothing (has program statuses p) noted m → m ≡ m' → h ≡ h' → Items is is' →
        Alike program statuses (try_step some program bound (at ds Failed) (Some clause) (record { pred = p; args = args; noted = noted; mark = m; height = h; rest = record { items = is; query = query } }) cs)
        (try_step by_checks checks bound (at ds' Failed) (Some (if b then with_exit clause else clause)) (record { pred = p; args = args; noted = noted; mark = m'; height = h'; rest = record { items = is'; query = query } }) cs')
    clause_alike cs cs' ds ds' p clause args noted m m' h h' is is' query true whole e ch empty em eh items =
        let body' = with_exit_at clause.body (out-Goal clause.body) in
        let value : ℕ → Term = higher fresh in
        let L : List Item = Does (goal_instance value (without_exit clause.body)) h clause.place ∷ Exits p args noted m ∷ is in
        let base : Items L (Does (goal_instance value (without_exit clause.body)) h clause.place ∷ Exits p args noted m ∷ is') = same (same items) in
        let by_mark : Items L (Does (goal_instance value (without_exit clause.body)) h clause.place ∷ Exits p args noted m' ∷ is') = subst (λ x. Items L (Does (goal_instance value (without_exit clause.body)) h clause.place ∷ Exits p args noted x ∷ is')) em base in
        let by_height : Items L (Does (goal_instance value (without_exit clause.body)) h' clause.place ∷ Exits p args noted m' ∷ is') = subst (λ x. Items L (Does (goal_instance value (without_exit clause.body)) x clause.place ∷ Exits p args noted m' ∷ is')) eh by_mark in
        let by_end : Items L (Does (goal_instance value (without_exit clause.body)) h' clause.place ∷ (if ends_in_exit body' then Exits p args noted m' ∷ is' else is')) =
        subst (λ x. Items L (Does (goal_instance value (without_exit clause.body)) h' clause.place ∷ (if x then Exits p args noted m' ∷ is' else is'))) (sym (body_ends clause.body (out-Goal clause.body))) by_height in
        let by_body : Items L (Does (goal_instance value (without_exit body')) h' clause.place ∷ (if ends_in_exit body' then Exits p args noted m' ∷ is' else is')) =
        subst (λ x. Items L (Does (goal_instance value x) h' clause.place ∷ (if ends_in_exit body' then Exits p args noted m' ∷ is' else is'))) (no_exit clause.body (out-Goal clause.body) whole ∙ sym (body_same clause.body (out-Goal clause.body) refl whole)) by_end in
        record { events = refl; phases = on (states ch (solving (frames by_body))) }
    clause_alike cs cs' ds ds' p clause args noted m m' h h' is is' query false whole e ch empty em eh items =
        let value : ℕ → Term = higher fresh in
        let R : List Item = Does (goal_instance value (without_exit clause.body)) h clause.place ∷ is' in
        let base : Items (Does (goal_instance value (without_exit clause.body)) h clause.place ∷ Exits p args [] None ∷ is) R = same (extra items) in
        let by_noted : Items (Does (goal_instance value (without_exit clause.body)) h clause.place ∷ Exits p args noted None ∷ is) R = subst (λ x. Items (Does (goal_instance value (without_exit clause.body)) h clause.place ∷ Exits p args x None ∷ is) R) (sym (empty e).0) base in
        let by_mark : Items (Does (goal_instance value (without_exit clause.body)) h clause.place ∷ Exits p args noted m ∷ is) R = subst (λ x. Items (Does (goal_instance value (without_exit clause.body)) h clause.place ∷ Exits p args noted x ∷ is) R) (sym (empty e).1) by_noted in
        let L : List Item = Does (goal_instance value (without_exit clause.body)) h clause.place ∷ Exits p args noted m ∷ is in
        let by_height : Items L (Does (goal_instance value (without_exit clause.body)) h' clause.place ∷ is') = subst (λ x. Items L (Does (goal_instance value (without_exit clause.body)) x clause.place ∷ is')) eh by_mark in
        let by_end : Items L (Does (goal_instance value (without_exit clause.body)) h' clause.place ∷ (if ends_in_exit clause.body then Exits p args noted m' ∷ is' else is')) =
        subst (λ x. Items L (Does (goal_instance value (without_exit clause.body)) h' clause.place ∷ (if x then Exits p args noted m' ∷ is' else is'))) (sym whole) by_height in
        record { events = refl; phases = on (states ch (solving (frames by_end))) }

    no_exit_at : (cl : List Clause) (k : ℕ) (c : Clause) → AllByRecursion (λ c. ends_in_exit c.body ≡ false) cl → slice_get cl k ≡ Some c → ends_in_exit c.body ≡ false
    no_exit_at [] k c h e = cc
    no_exit_at (x ∷ cl) zero c h e = subst (λ x. ends_in_exit x.body ≡ false) (inside x c e) h.0
      where
        inside : (x c : Clause) → Some x ≡ Some c → x ≡ c
        inside x c e = cc
    no_exit_at (x ∷ cl) (suc k) c h e = no_exit_at cl k c h.1 e

    clause_if : (b : Bool) (cl : List Clause) (k : ℕ) → slice_get (if b then map with_exit cl else cl) k ≡ option_map (λ c. if b then with_exit c else c) (slice_get cl k)
    clause_if true cl k = clause_at cl k
    clause_if false cl k = itself (slice_get cl k)
      where
        itself : (o : Option Clause) → o ≡ option_map (λ c. c) o
        itself None = refl
        itself (Some c) = refl

    try_alike : (cs cs' ds ds' : List Choice) (k p : ℕ) (args : List Term) (noted : List ℕ) (m m' : Option ℕ) (h h' : ℕ) (rest rest' : Frame) →
        Choices program statuses cs cs' → TestsNothing (has program statuses p) noted m → m ≡ m' → h ≡ h' → Frames rest rest' →
        Alike program statuses (try_step some program bound (at ds Failed) (slice_get (pred_of program p).clauses k) (record { pred = p; args = args; noted = noted; mark = m; height = h; rest = rest }) cs)
        (try_step by_checks checks bound (at ds' Failed) (slice_get (pred_of checks p).clauses k) (record { pred = p; args = args; noted = noted; mark = m'; height = h'; rest = rest' }) cs')
    try_alike cs cs' ds ds' k p args noted m m' h h' rest rest' ch empty em eh (frames {is} {is'} {query} items) =
        let cl = (pred_of program p).clauses in
        let call : Call = record { pred = p; args = args; noted = noted; mark = m; height = h; rest = rest } in
        let call' : Call = record { pred = p; args = args; noted = noted; mark = m'; height = h'; rest = rest' } in
        let step' : Option Clause → Trace = λ o. try_step by_checks checks bound (at ds' Failed) o call' cs' in
        subst (λ o. Alike program statuses (try_step some program bound (at ds Failed) (slice_get cl k) call cs) (step' o))
        (sym (ap (λ pred. slice_get pred.clauses k) (pred_at program statuses program.preds p) ∙ clause_if (has program statuses p) cl k)) (by_clause (slice_get cl k) refl)
      where
        by_clause : (o : Option Clause) → slice_get (pred_of program p).clauses k ≡ o → Alike program statuses (try_step some program bound (at ds Failed) o (record { pred = p; args = args; noted = noted; mark = m; height = h; rest = record { items = is; query = query } }) cs)
            (try_step by_checks checks bound (at ds' Failed) (option_map (λ c. if has program statuses p then with_exit c else c) o) (record { pred = p; args = args; noted = noted; mark = m'; height = h'; rest = record { items = is'; query = query } }) cs')
        by_clause None e = goes ch failed
        by_clause (Some clause) e = clause_alike cs cs' ds ds' p clause args noted m m' h h' is is' query (has program statuses p) (no_exit_at (pred_of program p).clauses k clause (linked p) e) refl ch empty em eh items

    failure_follows : (cs cs' : List Choice) → Choices program statuses cs cs' → Alike program statuses (failure_step some program bound (at cs Failed) cs) (failure_step by_checks checks bound (at cs' Failed) cs')
    failure_follows cs cs' none = record { events = refl; phases = over }
    failure_follows cs cs' (resume r ch) = goes ch (doing r)
    failure_follows cs cs' (try {k = k} {cs = older} {cs' = older'} (calls {p = p} {args = args} {noted = noted} {mark = m} {mark' = m'} {h = h} {h' = h'} {rest = rest} {rest' = rest'} empty em eh r) ch) = try_alike older older' cs cs' k p args noted m m' h h' rest rest' ch empty em eh r
    failure_follows cs cs' (mark {conds = conds} {e = e} ch) = tested program statuses stops 0 0 (λ c. finding (not (failure_breaks e (kind_of program c)))) conds _ _ (goes ch failed)

    solving_alike : (cs cs' : List Choice) (c c' : Current) (place : Place) (stage : Stage) (f f' : Frame) → Choices program statuses cs cs' → Frames f f' →
        Alike program statuses (solving_step some program bound (at cs c) place stage f) (solving_step by_checks checks bound (at cs' c') place stage f')
    solving_alike cs cs' c c' place (Open es bs) f f' ch r = goes ch (solving r)
    solving_alike cs cs' c c' place (Ended (Solved bs)) f f' ch (frames items) = goes ch (doing (frames (items_instance (values bs) items)))
    solving_alike cs cs' c c' place (Ended Clash) f f' ch r = goes ch failed
    solving_alike cs cs' c c' place (Ended Cyclic) f f' ch r = record { events = refl; phases = over }

    current_follows : (cs cs' : List Choice) (c c' : Current) → Choices program statuses cs cs' → Currents program statuses c c' → Follows program statuses (one (at cs c)) (at cs' c') (other (at cs' c'))
    current_follows cs cs' c c' ch (doing (frames {is} {is'} {query} items)) = frame_follows cs cs' c c' is is' query ch items refl
    current_follows cs cs' c c' ch (solving {place} {stage} {f} {f'} r) = moves (solving_alike cs cs' c c' place stage f f' ch r)
    current_follows cs cs' c c' ch failed = moves (failure_follows cs cs' ch)

  pub step_follows : (s s' : State) → States program statuses s s' → Follows program statuses (one s) s' (other s')
  step_follows s s' (states {calls = n} {fresh = fresh} {cs = cs} {cs' = cs'} {c = c} {c' = c'} ch r) = current_follows n fresh cs cs' c c' ch r
