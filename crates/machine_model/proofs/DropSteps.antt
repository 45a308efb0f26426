-- Each step of a run that tests every condition is followed by the run that has only some, until one of the others is broken.
use Rattle.std.proofs.Common.{◌≡◌, ℕ, suc, Bool, true, false, ◌+◌, List, [], ◌∷◌, ◌++◌, length, refl, ap, sym, ◌∙◌, subst, cond, ◌⊎◌, inl, inr}
use Rattle.std.specs.Prelude.{nat_le, not, ◌||◌, filter, slice_get, slice_index_or, Option, None, Some, if◌then◌else◌}
use Rattle.term_core.specs.declared.terms.Term.{Term}
use Rattle.term_core.specs.declared.terms.Term as term
use Rattle.term_core.specs.declared.equations.Outcome.TheVariants.{Solved, Clash, Cyclic}
use Rattle.term_core.specs.Unify.{Stage, Open, Ended, values}
use Rattle.prog_data.specs.declared.goals.Goal.{Goal, out-Goal}
use Rattle.prog_data.specs.declared.goals.Goal.TheOpen.{Goal-F, True, Fail, Cut, Call as CallGoal, Builtin as BuiltinGoal, Conj, Disj, IfElse, Not, Exit}
use Rattle.prog_data.specs.declared.programs.Clause.{Clause}
use Rattle.prog_data.specs.declared.programs.Claim.{Claim}
use Rattle.prog_data.specs.declared.programs.Pred.{Pred}
use Rattle.prog_data.specs.declared.conditions.Cond.{Cond}
use Rattle.prog_data.specs.declared.conditions.CondKind.{CondKind}
use Rattle.prog_data.specs.declared.programs.Place.{Place}
use Rattle.prog_data.specs.declared.programs.Program.{Program}
use Rattle.prog_data.specs.declared.events.Event.{Event}
use Rattle.prog_data.specs.declared.events.Event.TheVariants as event
use Rattle.prog_data.specs.declared.events.Ending.{Ending}
use Rattle.prog_data.specs.declared.events.Ending.TheVariants.{Violated}
use Rattle.prog_data.specs.declared.events.Ending.TheVariants as ending
use Rattle.prog_data.specs.Conditions.{kind_of, pre_holds, calls_hold, post_holds, exit_breaks, failure_breaks}
use Rattle.prog_data.specs.Goals.{pred_of}
use Rattle.machine_model.specs.State.{Item, Frame, Call, Choice, Try, Current, Doing, Failed, State, Phase, Going, Over, Trace, cut}
use Rattle.machine_model.specs.Tests.{Tests, Looks, all_looks, only_looks}
use Rattle.machine_model.specs.Step.{step, frame_step, goal_step, call_step, call_made, builtin_step, failure_step, try_step, solving_step, finding, after_test, after_tests, tries, with_mark, mark_height, mark_conds, mark_exited, quietly, Effect, Succeeds, Fails, Writes, Equates, Becomes, Faults, effect}
use Rattle.machine_model.proofs.DropRelation.{Kind, Plain, plain, Older, whole, newer, Items, does, cuts, exits, items_over, items_instance, Frames, frames, Calls, calls, calls_over, Choices, resume, try, kept, dropped, Currents, doing, solving, failed, States, states, length_kinds, plain_kinds, cut_choices, filter_keep, filter_drop, Agree, filter_kept, Found, exit_related, mark_new}
use Rattle.machine_model.proofs.DropRelation as rel

-- the events that the run with fewer tests has too: of broken conditions that are told, those that are kept
abbrev pub is_seen : Bool → (ℕ → Bool) → Event → Bool
is_seen stops keeps (event.Broken c) = stops || keeps c
is_seen stops keeps other = true

-- phases that go on alike, or are over alike
pub data Phases (keeps : ℕ → Bool) : Phase → Phase → Type 0 where
  on : {s s' : State} → States keeps s s' → Phases keeps (Going s) (Going s')
  over : {e : Ending} → Phases keeps (Over e) (Over e)

-- the one is as the other
pub record Alike (stops : Bool) (keeps : ℕ → Bool) (t t' : Trace) : Type 0 where
  pub events : t'.events ≡ filter (is_seen stops keeps) t.events
  pub phases : Phases keeps t.phase t'.phase

-- the one is over by a condition that is not kept
pub record BreaksOff (stops : Bool) (keeps : ℕ → Bool) (t : Trace) : Type 0 where
  pub cond : ℕ
  pub stopping : stops ≡ true
  pub events : t.events ≡ []
  pub over : t.phase ≡ Over (Violated cond)
  pub other : keeps cond ≡ false

-- the one is as the other, or over by a condition that is not kept
pub data Answers (stops : Bool) (keeps : ℕ → Bool) (t t' : Trace) : Type 0 where
  alike : Alike stops keeps t t' → Answers stops keeps t t'
  off : BreaksOff stops keeps t → Answers stops keeps t t'

-- a step is followed by one, by none, or breaks a condition that is not kept
pub data Follows (stops : Bool) (keeps : ℕ → Bool) (t : Trace) (s' : State) (t' : Trace) : Type 0 where
  moves : Alike stops keeps t t' → Follows stops keeps t s' t'
  stays : Alike stops keeps t (quietly (Going s')) → Follows stops keeps t s' t'
  breaks : BreaksOff stops keeps t → Follows stops keeps t s' t'

module _ (keeps : ℕ → Bool) where
  -- both make tests
  pub answered : (stops : Bool) (t : Trace) (s' : State) (t' : Trace) → Answers stops keeps t t' → Follows stops keeps t s' t'
  answered stops t s' t' (alike a) = moves a
  answered stops t s' t' (off o) = breaks o

  -- tests of which the other run makes none
  pub answered_here : (stops : Bool) (t : Trace) (s' : State) (t' : Trace) → Answers stops keeps t (quietly (Going s')) → Follows stops keeps t s' t'
  answered_here stops t s' t' (alike a) = stays a
  answered_here stops t s' t' (off o) = breaks o

  recount : (stops : Bool) (t t' : Trace) (n n' : ℕ) → Answers stops keeps t t' → Answers stops keeps (record t { tests = n }) (record t' { tests = n' })
  recount stops t t' n n' (alike a) = alike (record { events = a.events; phases = a.phases })
  recount stops t t' n n' (off o) = off (record { cond = o.cond; stopping = o.stopping; events = o.events; over = o.over; other = o.other })

  -- the same test in both
  one_kept : (stops : Bool) (counts counts' c : ℕ) (b : Bool) (t t' : Trace) → keeps c ≡ true → Answers stops keeps t t' → Answers stops keeps (after_test stops counts c (finding b) t) (after_test stops counts' c (finding b) t')
  one_kept stops counts counts' c true t t' k h = recount stops t t' (counts + t.tests) (counts' + t'.tests) h
  one_kept true counts counts' c false t t' k h = alike (record { events = refl; phases = over })
  one_kept false counts counts' c false t t' k (alike a) = alike (record {
    events = ap (λ es. event.Broken c ∷ es) a.events ∙ ap (λ b. cond b (event.Broken c ∷ filter (is_seen false keeps) t.events) (filter (is_seen false keeps) t.events)) (sym k);
    phases = a.phases;
  })
  one_kept false counts counts' c false t t' k (off o) = absurd (not_stopping o.stopping)
    where
      not_stopping : false ≡ true → ⊥
      not_stopping e = cc

  -- a test that the other run does not make
  one_dropped : (stops : Bool) (counts c : ℕ) (b : Bool) (t t' : Trace) → keeps c ≡ false → Answers stops keeps t t' → Answers stops keeps (after_test stops counts c (finding b) t) t'
  one_dropped stops counts c true t t' k h = recount stops t t' (counts + t.tests) t'.tests h
  one_dropped true counts c false t t' k h = off (record { cond = c; stopping = refl; events = refl; over = refl; other = k })
  one_dropped false counts c false t t' k (alike a) = alike (record {
    events = a.events ∙ ap (λ b. cond b (event.Broken c ∷ filter (is_seen false keeps) t.events) (filter (is_seen false keeps) t.events)) (sym k);
    phases = a.phases;
  })
  one_dropped false counts c false t t' k (off o) = absurd (not_stopping o.stopping)
    where
      not_stopping : false ≡ true → ⊥
      not_stopping e = cc

  -- tests, of which the other run makes those that are kept, and where there is one, in the same mode
  tested_kept : (stops stops' : Bool) → ((c : ℕ) → keeps c ≡ true → stops' ≡ stops) → (counts counts' : ℕ) (test test' : ℕ → Bool) → Agree keeps test' test → (cs : List ℕ) (next next' : Trace) → Answers stops keeps next next' →
      Answers stops keeps (after_tests stops counts (λ c. finding (test c)) cs next) (after_tests stops' counts' (λ c. finding (test' c)) (filter keeps cs) next')
  tested_kept stops stops' mode counts counts' test test' agree [] next next' h = h
  tested_kept stops stops' mode counts counts' test test' agree (c ∷ cs) next next' h = by_keep (keeps c) refl (tested_kept stops stops' mode counts counts' test test' agree cs next next' h)
    where
      these : Trace
      these = after_tests stops counts (λ c. finding (test c)) cs next

      those : List ℕ → Trace
      those ds = after_tests stops' counts' (λ c. finding (test' c)) ds next'

      by_keep : (b : Bool) → keeps c ≡ b → Answers stops keeps these (those (filter keeps cs)) → Answers stops keeps (after_test stops counts c (finding (test c)) these) (those (filter keeps (c ∷ cs)))
      by_keep true k ih =
          subst (λ ds. Answers stops keeps (after_test stops counts c (finding (test c)) these) (those ds)) (sym (filter_keep keeps keeps c cs k))
          (subst (λ b. Answers stops keeps (after_test stops counts c (finding (test c)) these) (after_test stops' counts' c (finding b) (those (filter keeps cs)))) (sym (agree c k))
          (subst (λ x. Answers stops keeps (after_test stops counts c (finding (test c)) these) (after_test x counts' c (finding (test c)) (those (filter keeps cs)))) (sym (mode c k))
          (one_kept stops counts counts' c (test c) these (those (filter keeps cs)) k ih)))
      by_keep false k ih =
          subst (λ ds. Answers stops keeps (after_test stops counts c (finding (test c)) these) (those ds)) (sym (filter_drop keeps keeps c cs k))
          (one_dropped stops counts c (test c) these (those (filter keeps cs)) k ih)

  pub tested : (stops stops' : Bool) → ((c : ℕ) → keeps c ≡ true → stops' ≡ stops) → (counts counts' : ℕ) (test test' : ℕ → Bool) → Agree keeps test' test → (cs cs' : List ℕ) → cs' ≡ filter keeps cs → (next next' : Trace) → Answers stops keeps next next' →
      Answers stops keeps (after_tests stops counts (λ c. finding (test c)) cs next) (after_tests stops' counts' (λ c. finding (test' c)) cs' next')
  tested stops stops' mode counts counts' test test' agree cs cs' same next next' h =
      subst (λ ds. Answers stops keeps (after_tests stops counts (λ c. finding (test c)) cs next) (after_tests stops' counts' (λ c. finding (test' c)) ds next')) (sym same)
      (tested_kept stops stops' mode counts counts' test test' agree cs next next' h)

  -- tests of which none is kept
  pub tested_here : (stops : Bool) (counts : ℕ) (test : ℕ → Bool) (cs : List ℕ) (next next' : Trace) → [] ≡ filter keeps cs → Answers stops keeps next next' → Answers stops keeps (after_tests stops counts (λ c. finding (test c)) cs next) next'
  tested_here stops counts test cs next next' same h = tested stops stops (λ c k. refl) counts counts test test (λ c k. refl) cs [] same next next' h

  -- what a call puts among the choices

  pub tries_choices : (ks : List Kind) (k : ℕ) (cl : List Clause) (call call' : Call) (below below' : List Choice) → Calls keeps ks call call' → Choices keeps ks below below' →
      (js : List Kind) × Older js ks × Choices keeps js (tries k cl call ++ below) (tries k cl call' ++ below')
  tries_choices ks k [] call call' below below' r ch = (ks, whole, ch)
  tries_choices ks k (c ∷ cl) call call' below below' r ch =
      let t = tries_choices ks (suc k) cl call call' below below' r ch in
      (Plain ∷ t.0, newer t.1, try (calls_over keeps t.1 r) t.2)

-- the looks of a program with the same clauses are the kept ones of this program's, and where there is one, a broken condition is taken alike
pub record Fewer (stops stops' : Bool) (keeps : ℕ → Bool) (program less : Program) (looks : Pred → Looks) : Type 0 where
  pub mode_is : (c : ℕ) → keeps c ≡ true → stops' ≡ stops
  pub looks_are : (p : ℕ) → looks (pred_of less p) ≡ only_looks keeps (all_looks program (pred_of program p))
  pub clauses_are : (p : ℕ) → (pred_of less p).clauses ≡ (pred_of program p).clauses
  pub kinds_are : (c : ℕ) → keeps c ≡ true → kind_of less c ≡ kind_of program c

-- the program with these predicates, conditions and claims
abbrev pub with_preds : Program → List Pred → List Cond → List Claim → Program
with_preds program preds conds claims = record program { preds = preds; conds = conds; claims = claims }

-- these looks, and an exit after each body
abbrev pub looking : Bool → (Pred → Looks) → Tests
looking stops looks = record { looks = looks; exits = λ body. true; stops = stops }

module _ (stops stops' : Bool) (program : Program) (keeps : ℕ → Bool) (preds : List Pred) (conds : List Cond) (claims : List Claim) (looks : Pred → Looks) (fewer : Fewer stops stops' keeps program (with_preds program preds conds claims) looks) (bound : ℕ) where
  abbrev pub every : Tests
  every = looking stops (all_looks program)

  abbrev pub less : Program
  less = with_preds program preds conds claims

  abbrev pub some : Tests
  some = looking stops' looks

  abbrev pub one : State → Trace
  one = step every program bound

  abbrev pub other : State → Trace
  other = step some less bound

  -- tests of conditions by their kinds agree on those that are kept
  agrees : (test : Option CondKind → Bool) → Agree keeps (λ c. test (kind_of less c)) (λ c. test (kind_of program c))
  agrees test c e = ap test (fewer.kinds_are c e)

  -- the tests of the marks that were found
  found_follows : (o o' : Option Choice) → Found keeps o o' → (next next' : Trace) → Answers stops keeps next next' →
      Answers stops keeps (after_tests stops 0 (λ c. finding (not (exit_breaks (mark_exited o) (kind_of program c)))) (mark_conds o) next) (after_tests stops' 0 (λ c. finding (not (exit_breaks (mark_exited o') (kind_of less c)))) (mark_conds o') next')
  found_follows o o' found next next' h = subst (λ ds. Answers stops keeps here (there ds)) (sym found.conds) (by_exits found.exits)
    where
      here : Trace
      here = after_tests stops 0 (λ c. finding (not (exit_breaks (mark_exited o) (kind_of program c)))) (mark_conds o) next

      there : List ℕ → Trace
      there ds = after_tests stops' 0 (λ c. finding (not (exit_breaks (mark_exited o') (kind_of less c)))) ds next'

      by_exits : (mark_exited o' ≡ mark_exited o) ⊎ ([] ≡ filter keeps (mark_conds o)) → Answers stops keeps here (there (filter keeps (mark_conds o)))
      by_exits (inl e) = tested keeps stops stops' fewer.mode_is 0 0 _ _ (λ c k. ap (λ x. not (exit_breaks x (kind_of less c))) e ∙ ap (λ k. not (exit_breaks (mark_exited o) k)) (fewer.kinds_are c k)) (mark_conds o) _ refl next next' h
      by_exits (inr none) = subst (λ ds. Answers stops keeps here (there ds)) none (tested_here keeps stops 0 (λ c. not (exit_breaks (mark_exited o) (kind_of program c))) (mark_conds o) next next' none h)

  module _ (n fresh : ℕ) where
    -- the states of one number of calls and one next variable
    abbrev pub at : List Choice → Current → State
    at cs c = record { calls = n; fresh = fresh; choices = cs; current = c }

    -- what is quiet goes on alike
    goes : {ks : List Kind} {cs cs' : List Choice} {c c' : Current} → Choices keeps ks cs cs' → Currents keeps ks c c' → Alike stops keeps (quietly (Going (at cs c))) (quietly (Going (at cs' c')))
    goes a b = record { events = refl; phases = on (states a b) }

    -- after a cut
    goes_cut : {ks : List Kind} {cs cs' : List Choice} {h h' : ℕ} (js : List Kind) {is is' : List Item} {query : Term} → Choices keeps ks cs cs' → Older ks js → h ≡ length js → h' ≡ plain js → Items keeps js is is' →
        Alike stops keeps (quietly (Going (at (cut h cs) (Doing (record { items = is; query = query }))))) (quietly (Going (at (cut h' cs') (Doing (record { items = is'; query = query })))))
    goes_cut {ks} {cs} {cs'} {h} {h'} js {is} {is'} {query} ch o e e' items =
        let r : Choices keeps js (cut h cs) (cut h' cs') = subst (λ x. Choices keeps js (cut x cs) (cut h' cs')) (sym e) (subst (λ x. Choices keeps js (cut (length js) cs) (cut x cs')) (sym e') (cut_choices keeps ch o)) in
        goes r (doing (frames items))

    builtin_alike : {ks : List Kind} (cs cs' : List Choice) (c c' : Current) (e : Effect) (h h' : ℕ) (place : Place) (is is' : List Item) (query : Term) (js : List Kind) → Choices keeps ks cs cs' → Older ks js → h ≡ length js → h' ≡ plain js → Items keeps js is is' →
        Alike stops keeps (builtin_step every program bound (at cs c) e h place (record { items = is; query = query })) (builtin_step some less bound (at cs' c') e h' place (record { items = is'; query = query }))
    builtin_alike cs cs' c c' Succeeds h h' place is is' query js ch o e e' items = goes ch (doing (frames (items_over keeps o items)))
    builtin_alike cs cs' c c' Fails h h' place is is' query js ch o e e' items = goes ch failed
    builtin_alike cs cs' c c' (Writes bytes) h h' place is is' query js ch o e e' items = record { events = refl; phases = on (states ch (doing (frames (items_over keeps o items)))) }
    builtin_alike cs cs' c c' (Equates a b) h h' place is is' query js ch o e e' items = goes ch (solving (frames (items_over keeps o items)))
    builtin_alike cs cs' c c' (Becomes g) h h' place is is' query js ch o e e' items = goes ch (doing (frames (does js o e e' items)))
    builtin_alike cs cs' c c' (Faults kind) h h' place is is' query js ch o e e' items = record { events = refl; phases = over }

    call_follows : {ks : List Kind} (cs cs' : List Choice) (c c' : Current) (p : ℕ) (args : List Term) (is is' : List Item) (query : Term) → Choices keeps ks cs cs' → Items keeps ks is is' →
        Follows stops keeps (call_step every program bound (at cs c) p (pred_of program p) args (record { items = is; query = query })) (at cs' c') (call_step some less bound (at cs' c') p (pred_of less p) args (record { items = is'; query = query }))
    call_follows {ks} cs cs' c c' p args is is' query ch items = by_bound (nat_le bound n)
      where
        -- the call is made with these looks and clauses
        other_made : Looks → List Clause → Trace
        other_made l cl = call_made (looking stops' (λ pred. l)) less bound (at cs' c') p (record (pred_of less p) { clauses = cl }) args (record { items = is'; query = query })

        made_with : Follows stops keeps (call_made every program bound (at cs c) p (pred_of program p) args (record { items = is; query = query })) (at cs' c') (other_made (only_looks keeps (all_looks program (pred_of program p))) (pred_of program p).clauses)
        made_with =
            let l = all_looks program (pred_of program p) in
            let pre : ℕ → Bool = λ c. pre_holds program.grammar args (kind_of program c) in
            let pre' : ℕ → Bool = λ c. pre_holds program.grammar args (kind_of less c) in
            let agree = agrees (pre_holds program.grammar args) in
            let m = mark_new keeps p (filter pre l.marks) (filter pre' (filter keeps l.marks)) (filter_kept keeps pre' pre agree l.marks) ch in
            let t = tries_choices keeps m.kinds 0 (pred_of program p).clauses
            (record { pred = p; args = args; noted = filter pre l.notes; mark = mark_height (filter pre l.marks) cs; height = length (with_mark p (filter pre l.marks) cs); rest = record { items = is; query = query } })
            (record { pred = p; args = args; noted = filter pre' (filter keeps l.notes); mark = mark_height (filter pre' (filter keeps l.marks)) cs'; height = length (with_mark p (filter pre' (filter keeps l.marks)) cs'); rest = record { items = is'; query = query } })
            _ _ (calls m.kinds whole (sym (length_kinds keeps m.choices)) (sym (plain_kinds keeps m.choices)) (filter_kept keeps pre' pre agree l.notes) m.mark (frames (items_over keeps m.older items))) m.choices in
            answered keeps stops _ _ _
            (tested keeps stops stops' fewer.mode_is 1 1 _ _ (agrees (calls_hold program.grammar args)) l.calls _ refl _ _ (alike (record { events = refl; phases = on (states {ks = t.0} t.2 failed) })))

        made : Follows stops keeps (call_made every program bound (at cs c) p (pred_of program p) args (record { items = is; query = query })) (at cs' c') (call_made some less bound (at cs' c') p (pred_of less p) args (record { items = is'; query = query }))
        made = subst (λ l. Follows stops keeps (call_made every program bound (at cs c) p (pred_of program p) args (record { items = is; query = query })) (at cs' c') (other_made l (pred_of less p).clauses)) (sym (fewer.looks_are p))
            (subst (λ cl. Follows stops keeps (call_made every program bound (at cs c) p (pred_of program p) args (record { items = is; query = query })) (at cs' c') (other_made (only_looks keeps (all_looks program (pred_of program p))) cl)) (sym (fewer.clauses_are p)) made_with)

        by_bound : (b : Bool) → Follows stops keeps (if b then quietly (Over ending.Bound) else call_made every program bound (at cs c) p (pred_of program p) args (record { items = is; query = query })) (at cs' c')
            (if b then quietly (Over ending.Bound) else call_made some less bound (at cs' c') p (pred_of less p) args (record { items = is'; query = query }))
        by_bound true = moves (record { events = refl; phases = over })
        by_bound false = made

    goal_follows : {ks : List Kind} (cs cs' : List Choice) (c c' : Current) (g : Goal-F Goal) (h h' : ℕ) (place : Place) (is is' : List Item) (query : Term) (js : List Kind) → Choices keeps ks cs cs' → Older ks js → h ≡ length js → h' ≡ plain js → Items keeps js is is' →
        Follows stops keeps (goal_step every program bound (at cs c) g h place (record { items = is; query = query })) (at cs' c') (goal_step some less bound (at cs' c') g h' place (record { items = is'; query = query }))
    goal_follows cs cs' c c' True h h' place is is' query js ch o e e' items = moves (goes ch (doing (frames (items_over keeps o items))))
    goal_follows cs cs' c c' Fail h h' place is is' query js ch o e e' items = moves (goes ch failed)
    goal_follows cs cs' c c' Cut h h' place is is' query js ch o e e' items = moves (goes_cut js ch o e e' items)
    goal_follows cs cs' c c' (CallGoal p args) h h' place is is' query js ch o e e' items = call_follows cs cs' c c' p args is is' query ch (items_over keeps o items)
    goal_follows cs cs' c c' (BuiltinGoal b args) h h' place is is' query js ch o e e' items =
        moves (builtin_alike cs cs' c c' (effect program b (slice_index_or args 0 (term.Atom 0)) (slice_index_or args 1 (term.Atom 0))) h h' place is is' query js ch o e e' items)
    goal_follows cs cs' c c' (Conj a b) h h' place is is' query js ch o e e' items = moves (goes ch (doing (frames (does js o e e' (does js whole e e' items)))))
    goal_follows cs cs' c c' (Disj a b) h h' place is is' query js ch o e e' items =
        moves (goes (resume (frames (does js o e e' items)) ch) (doing (frames (does js (newer o) e e' items))))
    goal_follows {ks} cs cs' c c' (IfElse t a b) h h' place is is' query js ch o e e' items =
        moves (goes (resume (frames (does js o e e' items)) ch)
        (doing (frames (does (Plain ∷ ks) whole (ap suc (sym (length_kinds keeps ch))) (ap suc (sym (plain_kinds keeps ch))) (cuts ks (newer whole) (sym (length_kinds keeps ch)) (sym (plain_kinds keeps ch)) (does js o e e' items))))))
    goal_follows {ks} cs cs' c c' (Not a) h h' place is is' query js ch o e e' items =
        moves (goes (resume (frames (items_over keeps o items)) ch)
        (doing (frames (does (Plain ∷ ks) whole (ap suc (sym (length_kinds keeps ch))) (ap suc (sym (plain_kinds keeps ch))) (cuts ks (newer whole) (sym (length_kinds keeps ch)) (sym (plain_kinds keeps ch)) (does js o e e' items))))))
    goal_follows cs cs' c c' Exit h h' place is is' query js ch o e e' items = moves (goes ch (doing (frames (items_over keeps o items))))

    frame_follows : {ks : List Kind} (cs cs' : List Choice) (c c' : Current) (is is' : List Item) (query : Term) → Choices keeps ks cs cs' → Items keeps ks is is' →
        Follows stops keeps (frame_step every program bound (at cs c) (record { items = is; query = query }) is) (at cs' c') (frame_step some less bound (at cs' c') (record { items = is'; query = query }) is')
    frame_follows cs cs' c c' is is' query ch rel.none = moves (record { events = refl; phases = on (states ch failed) })
    frame_follows cs cs' c c' is is' query ch (does {g = g} {h = h} {h' = h'} {place = place} {rest = rest} {rest' = rest'} js o e e' items) = goal_follows cs cs' c c' (out-Goal g) h h' place rest rest' query js ch o e e' items
    frame_follows cs cs' c c' is is' query ch (cuts js o e e' items) = moves (goes_cut js ch o e e' items)
    frame_follows {ks} cs cs' c c' is is' query ch (exits {p = p} {args = args} {noted = noted} {noted' = noted'} {mark = m} {mark' = m'} same marks items) =
        let x = exit_related keeps ch marks in
        answered keeps stops _ _ _
        (tested keeps stops stops' fewer.mode_is 1 1 _ _ (agrees (post_holds program.grammar args)) noted noted' same _ _
        (found_follows _ _ x.found _ _ (alike (goes x.choices (doing (frames items))))))

    try_follows : {ks : List Kind} (ds ds' cs cs' : List Choice) (clause : Option Clause) (call call' : Call) → Choices keeps ks cs cs' → Calls keeps ks call call' →
        Follows stops keeps (try_step every program bound (at ds Failed) clause call cs) (at ds' Failed) (try_step some less bound (at ds' Failed) clause call' cs')
    try_follows ds ds' cs cs' None call call' ch r = moves (goes ch failed)
    try_follows ds ds' cs cs' (Some clause) call call' ch (calls js o e e' same m (frames items)) =
        moves (record { events = refl; phases = on (states ch (solving (frames (does js o e e' (exits same m items))))) })

    failure_follows : {ks : List Kind} (cs cs' : List Choice) → Choices keeps ks cs cs' →
        Follows stops keeps (failure_step every program bound (at cs Failed) cs) (at cs' Failed) (failure_step some less bound (at cs' Failed) cs')
    failure_follows cs cs' rel.none = moves (record { events = refl; phases = over })
    failure_follows cs cs' (resume r ch) = moves (goes ch (doing r))
    failure_follows cs cs' (try {k = k} {cs = older} {cs' = older'} (calls {p = p} {args = args} {noted = noted} {noted' = noted'} {mark = m} {mark' = m'} {h = h} {h' = h'} {rest = rest} {rest' = rest'} js o e e' same r f) ch) =
        let call : Call = record { pred = p; args = args; noted = noted; mark = m; height = h; rest = rest } in
        let call' : Call = record { pred = p; args = args; noted = noted'; mark = m'; height = h'; rest = rest' } in
        subst (λ cl. Follows stops keeps (try_step every program bound (at (Try k call ∷ older) Failed) (slice_get (pred_of program p).clauses k) call older) (at (Try k call' ∷ older') Failed) (try_step some less bound (at (Try k call' ∷ older') Failed) (slice_get cl k) call' older'))
        (sym (fewer.clauses_are p)) (try_follows (Try k call ∷ older) (Try k call' ∷ older') older older' (slice_get (pred_of program p).clauses k) call call' ch (calls js o e e' same r f))
    failure_follows cs cs' (kept {p = p} {conds = conds} {conds' = conds'} {e = e} {cs = older} {cs' = older'} same ch) =
        answered keeps stops _ _ _
        (tested keeps stops stops' fewer.mode_is 0 0 _ _ (agrees (λ k. not (failure_breaks e k))) conds conds' same _ _ (alike (goes ch failed)))
    failure_follows cs cs' (dropped {p = p} {conds = conds} {e = e} {cs = older} same ch) =
        answered_here keeps stops _ _ _ (tested_here keeps stops 0 (λ c. not (failure_breaks e (kind_of program c))) conds _ _ same (alike (goes ch failed)))

    solving_follows : {ks : List Kind} (cs cs' : List Choice) (c c' : Current) (place : Place) (stage : Stage) (f f' : Frame) → Choices keeps ks cs cs' → Frames keeps ks f f' →
        Follows stops keeps (solving_step every program bound (at cs c) place stage f) (at cs' c') (solving_step some less bound (at cs' c') place stage f')
    solving_follows cs cs' c c' place (Open es bs) f f' ch r = moves (goes ch (solving r))
    solving_follows cs cs' c c' place (Ended (Solved bs)) f f' ch (frames items) = moves (goes ch (doing (frames (items_instance keeps (values bs) items))))
    solving_follows cs cs' c c' place (Ended Clash) f f' ch r = moves (goes ch failed)
    solving_follows cs cs' c c' place (Ended Cyclic) f f' ch r = moves (record { events = refl; phases = over })

    current_follows : {ks : List Kind} (cs cs' : List Choice) (c c' : Current) → Choices keeps ks cs cs' → Currents keeps ks c c' → Follows stops keeps (one (at cs c)) (at cs' c') (other (at cs' c'))
    current_follows cs cs' c c' ch (doing (frames {is} {is'} {query} items)) = frame_follows cs cs' c c' is is' query ch items
    current_follows cs cs' c c' ch (solving {place} {stage} {f} {f'} r) = solving_follows cs cs' c c' place stage f f' ch r
    current_follows cs cs' c c' ch failed = failure_follows cs cs' ch

  pub step_follows : (s s' : State) → States keeps s s' → Follows stops keeps (one s) s' (other s')
  step_follows s s' (states {calls = n} {fresh = fresh} {cs = cs} {cs' = cs'} {c = c} {c' = c'} ch r) = current_follows n fresh cs cs' c c' ch r
