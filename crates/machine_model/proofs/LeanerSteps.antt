-- Each step of a state is followed by the leaner one, which takes one step or none.
use Rattle.std.proofs.Common.{◌≡◌, ◌≤◌, ◌<◌, ℕ, suc, ◌+◌, Bool, true, false, List, [], ◌∷◌, ◌++◌, length, map, refl, ap, sym, ◌∙◌, subst, arith}
use Rattle.std.specs.List.{AllByRecursion}
use Rattle.std.specs.Prelude.{nat_le, not, filter, slice_index_or, Option, None, Some, if◌then◌else◌}
use Rattle.term_core.specs.declared.terms.Term.{Term, Atom}
use Rattle.term_core.specs.declared.equations.Equation.{Equation}
use Rattle.term_core.specs.declared.equations.Outcome.{Outcome}
use Rattle.term_core.specs.declared.equations.Outcome.TheVariants.{Solved, Clash, Cyclic}
use Rattle.term_core.specs.Terms.{instance, rename, numbered}
use Rattle.term_core.specs.Unify.{Stage, Open, Ended, Clashes, move, after, solve, solves, values, pairs}
use Rattle.prog_data.specs.declared.goals.Goal.{Goal, out-Goal}
use Rattle.prog_data.specs.declared.goals.Goal.TheOpen.{Goal-F}
use Rattle.prog_data.specs.declared.programs.Clause.{Clause}
use Rattle.prog_data.specs.declared.programs.Place.{Place}
use Rattle.prog_data.specs.declared.programs.Program.{Program}
use Rattle.prog_data.specs.declared.events.Ending.{Ending}
use Rattle.prog_data.specs.declared.events.Ending.TheVariants as ending
use Rattle.prog_data.specs.declared.events.Event.TheVariants.{Answer, Broken}
use Rattle.prog_data.specs.Conditions.{kind_of, pre_holds, calls_hold, post_holds, exit_breaks, failure_breaks}
use Rattle.prog_data.specs.Goals.{pred_of}
use Rattle.machine_model.specs.State.{Item, Exits, Frame, Call, Choice, Try, Current, Doing, Solving, Failed, State, Phase, Going, Over, Trace, exit_mark}
use Rattle.machine_model.specs.Tests.{Tests}
use Rattle.machine_model.specs.Step.{step, frame_step, goal_step, call_step, call_made, exit_step, builtin_step, failure_step, try_step, solving_step, Finding, Holds, Breaks, Unknown, finding, after_test, after_tests, tries, with_mark, mark_height, mark_of, mark_conds, mark_exited, quietly, Effect, effect}
use Rattle.term_core.specs.Variants.{AreVariants, SameKind}
use Rattle.term_core.proofs.NameLaws.{Returns, numbered_same}
use Rattle.term_core.proofs.KindLaws.{equation}
use Rattle.term_core.proofs.VariantStages.{Stages, both_open, both_ended, solve_alike, solves_next, is_general}
use Rattle.term_core.proofs.VariantTests.{all_return}
use Rattle.machine_model.specs.Leaner.{clause_at, Kind, Kept, kept, whole, newer, HeightsAgree, at, MarksAgree, CannotMatch, Renaming, TermsAgree, ItemsAgree, does, cuts, exits, idle, FramesAgree, frames, CallsAgree, calls, ChoicesAgree, resume, try, mark, left_out}
use Rattle.machine_model.specs.Leaner as rel
use Rattle.machine_model.proofs.LeanerChoices.{at_over, items_over, choices_more, at_top, cut_choices, exit_related, mark_new, tries_choices}
use Rattle.machine_model.proofs.LeanerGoals.{OneForm, both_true, both_fail, both_cut, both_call, both_builtin, both_conj, both_disj, both_if, both_not, both_exit, one_form, fails}
use Rattle.machine_model.proofs.LeanerConditions.{argument, calls_same, pre_same, post_same}
use Rattle.machine_model.proofs.LeanerClauses.{IsClosed, AreClosed}
use Rattle.machine_model.proofs.LeanerEffects.{Effects, effect_alike}
use Rattle.machine_model.proofs.LeanerEffects as effects
use Rattle.machine_model.proofs.LeanerNames.{frames_solved, names_entered, terms_entered, items_entered, clause_terms, clause_goal, pairs_variants}

-- states and leaner ones, also between the moments at which frames are done

-- equations of a clause that the leaner state lacks
abbrev pub IsClashing : Stage → Type 0
IsClashing (Open [] bs) = ⊥
IsClashing (Open (e ∷ es) bs) = move e ≡ Clashes
IsClashing (Ended Clash) = Unit {0}
IsClashing (Ended (Solved bs)) = ⊥
IsClashing (Ended Cyclic) = ⊥

-- what is current; equations are the same number of steps from equations that are variants
pub data Currents (ks : List Kind) (n n' : ℕ) : Current → Current → Type 0 where
  doing : {f f' : Frame} → FramesAgree ks n n' f f' → Currents ks n n' (Doing f) (Doing f')
  solving : {place : Place} {stage stage' : Stage} {is is' : List Item} {query query' : Term} (names : Renaming n n') (es es' : List Equation) (k : ℕ) → AreVariants names.there names.back es es' →
      stage ≡ solves k (Open es []) → stage' ≡ solves k (Open es' []) → Stages stage stage' → ItemsAgree names.there names.back ks is is' → TermsAgree names.there names.back (query ∷ []) (query' ∷ []) →
      Currents ks n n' (Solving place stage (record { items = is; query = query })) (Solving place stage' (record { items = is'; query = query' }))
  clashing : {place : Place} {f : Frame} (stage : Stage) → IsClashing stage → Currents ks n n' (Solving place stage f) Failed
  failed : Currents ks n n' Failed Failed

pub data States (program : Program) : State → State → Type 0 where
  states : {ks : List Kind} {calls n n' : ℕ} {cs cs' : List Choice} {c c' : Current} → ChoicesAgree program n n' ks cs cs' → Currents ks n n' c c' →
      States program (record { calls = calls; fresh = n; choices = cs; current = c }) (record { calls = calls; fresh = n'; choices = cs'; current = c' })

-- phases that go on alike, or are over alike
pub data Phases (program : Program) : Phase → Phase → Type 0 where
  on : {s s' : State} → States program s s' → Phases program (Going s) (Going s')
  over : {e : Ending} → Phases program (Over e) (Over e)

-- one step is as the other
pub record Alike (program : Program) (t t' : Trace) : Type 0 where
  pub events : t.events ≡ t'.events
  pub tests : t.tests ≡ t'.tests
  pub phases : Phases program t.phase t'.phase

-- three for each choice
abbrev pub three_each : List Choice → ℕ
three_each [] = 0
three_each (c ∷ cs) = 3 + three_each cs

-- as many as there are steps that the leaner state may lack
abbrev pub weight_at : Current → ℕ
weight_at (Doing f) = length f.items
weight_at (Solving place (Open es bs) f) = 2
weight_at (Solving place (Ended o) f) = 1
weight_at Failed = 0

abbrev pub weight : State → ℕ
weight s = three_each s.choices + weight_at s.current

-- a step is followed by one, or by none where the other state is lighter
pub data Follows (program : Program) (s : State) (t : Trace) (s' : State) (t' : Trace) : Type 0 where
  moves : Alike program t t' → Follows program s t s' t'
  stays : (next : State) → t.events ≡ [] → t.tests ≡ 0 → t.phase ≡ Going next → States program next s' → weight s' < weight s → Follows program s t s' t'

pub choices_lighter : {program : Program} {n n' : ℕ} {ks : List Kind} {cs cs' : List Choice} → ChoicesAgree program n n' ks cs cs' → three_each cs' ≤ three_each cs
choices_lighter rel.none = omega arith
choices_lighter (resume f ch) = let p = choices_lighter ch in omega (arith, p)
choices_lighter (try call ch) = let p = choices_lighter ch in omega (arith, p)
choices_lighter (mark ch) = let p = choices_lighter ch in omega (arith, p)
choices_lighter (left_out d ch) = let p = choices_lighter ch in omega (arith, p)

items_lighter : {f g : ℕ → Term} {ks : List Kind} {is is' : List Item} → ItemsAgree f g ks is is' → length is' ≤ length is
items_lighter rel.none = omega arith
items_lighter (does js are place_at items) = let p = items_lighter items in omega (arith, p)
items_lighter (cuts js place_at items) = let p = items_lighter items in omega (arith, p)
items_lighter (exits terms marks items) = let p = items_lighter items in omega (arith, p)
items_lighter (idle items) = let p = items_lighter items in omega (arith, p)

-- arguments

one_term : {there back : ℕ → Term} (t t' : Term) → TermsAgree there back (t ∷ []) (t' ∷ []) → (instance there t ≡ t') × (instance back t' ≡ t)
one_term t t' are = (first _ _ are.is_there, first _ _ are.is_back) where
  first : (x y : Term) → ◌≡◌ {A = List Term} (x ∷ []) (y ∷ []) → x ≡ y
  first x y e = cc

numbered_alike : {there back : ℕ → Term} (t t' : Term) → TermsAgree there back (t ∷ []) (t' ∷ []) → numbered t ≡ numbered t'
numbered_alike {there} {back} t t' are = let e = one_term t t' are in sym (numbered_same there back t (ap (instance back) e.0 ∙ e.1)) ∙ ap numbered e.0

-- one test before two traces
one_tested : (program : Program) (stops : Bool) (counts k : ℕ) (found : Finding) (t t' : Trace) → Alike program t t' → Alike program (after_test stops counts k found t) (after_test stops counts k found t')
one_tested program stops counts k Holds t t' h = record { events = h.events; tests = ap (λ n. counts + n) h.tests; phases = h.phases }
one_tested program true counts k Breaks t t' h = record { events = refl; tests = refl; phases = over }
one_tested program false counts k Breaks t t' h = record { events = ap (λ es. Broken k ∷ es) h.events; tests = ap (λ n. counts + n) h.tests; phases = h.phases }
one_tested program stops counts k Unknown t t' h = record { events = refl; tests = refl; phases = over }

-- the same tests before two traces
tested : (program : Program) (stops : Bool) (counts : ℕ) (find : ℕ → Finding) (ks : List ℕ) (t t' : Trace) → Alike program t t' → Alike program (after_tests stops counts find ks t) (after_tests stops counts find ks t')
tested program stops counts find [] t t' h = h
tested program stops counts find (k ∷ ks) t t' h = one_tested program stops counts k (find k) _ _ (tested program stops counts find ks t t' h)

-- the exit behind a clause's body, where there is one
pub exit_behind : {f g : ℕ → Term} {ks : List Kind} (b : Bool) (p : ℕ) {args args' : List Term} (noted : List ℕ) {m m' : Option ℕ} {is is' : List Item} → TermsAgree f g args args' → MarksAgree ks m m' → ItemsAgree f g ks is is' →
    ItemsAgree f g ks (if b then Exits p args noted m ∷ is else is) (if b then Exits p args' noted m' ∷ is' else is')
exit_behind true p noted terms marks items = exits terms marks items
exit_behind false p noted terms marks items = items

module _ (what : Tests) (program : Program) (closed : AreClosed program) (bound : ℕ) where
  abbrev pub Next : State → Trace → State → Trace → Type 0
  Next = Follows program

  -- the tests of conditions by arguments

  abbrev holds_at_call : List Term → ℕ → Bool
  holds_at_call args k = calls_hold program.grammar args (kind_of program k)

  abbrev meets_pre : List Term → ℕ → Bool
  meets_pre args k = pre_holds program.grammar args (kind_of program k)

  abbrev holds_at_exit : List Term → ℕ → Bool
  holds_at_exit args k = post_holds program.grammar args (kind_of program k)

  -- the test of a condition of a mark, as that is exited or not
  abbrev found_at_mark : Bool → ℕ → Finding
  found_at_mark exited k = finding (not (exit_breaks exited (kind_of program k)))

  marks_tested : (o o' : Option Choice) → mark_conds o ≡ mark_conds o' → mark_exited o ≡ mark_exited o' → (t t' : Trace) → Alike program t t' →
      Alike program (after_tests what.stops 0 (found_at_mark (mark_exited o)) (mark_conds o) t) (after_tests what.stops 0 (found_at_mark (mark_exited o')) (mark_conds o') t')
  marks_tested o o' conds was t t' h =
      subst (λ ks. Alike program (after_tests what.stops 0 (found_at_mark (mark_exited o)) (mark_conds o) t) (after_tests what.stops 0 (found_at_mark (mark_exited o')) ks t')) conds
      (subst (λ b. Alike program (after_tests what.stops 0 (found_at_mark (mark_exited o)) (mark_conds o) t) (after_tests what.stops 0 (found_at_mark b) (mark_conds o) t')) was
      (tested program what.stops 0 (found_at_mark (mark_exited o)) (mark_conds o) t t' h))

  module _ (made n n' : ℕ) where
    -- the states of one number of calls and two next variables
    abbrev pub full : List Choice → Current → State
    full cs c = record { calls = made; fresh = n; choices = cs; current = c }

    abbrev pub lean : List Choice → Current → State
    lean cs c = record { calls = made; fresh = n'; choices = cs; current = c }

    -- what is quiet goes on alike
    goes : {ks : List Kind} {cs cs' : List Choice} {c c' : Current} → ChoicesAgree program n n' ks cs cs' → Currents ks n n' c c' → Alike program (quietly (Going (full cs c))) (quietly (Going (lean cs' c')))
    goes ch r = (record { events = refl; tests = refl; phases = on (states ch r) })

    module _ {ks : List Kind} (cs cs' : List Choice) (c c' : Current) (ch : ChoicesAgree program n n' ks cs cs') (names : Renaming n n') where
      builtin_follows : (e e' : Effect) (h h' : ℕ) (place : Place) (is is' : List Item) (query query' : Term) (js : List Kind) → HeightsAgree ks h h' js → ItemsAgree names.there names.back js is is' → TermsAgree names.there names.back (query ∷ []) (query' ∷ []) →
          Effects names.there names.back e e' →
          Alike program (builtin_step what program bound (full cs c) e h place (record { items = is; query = query })) (builtin_step what program bound (lean cs' c') e' h' place (record { items = is'; query = query' }))
      builtin_follows e e' h h' place is is' query query' js (at o eh eh') items q effects.succeeds = goes ch (doing (frames names (items_over names.there names.back o items) q))
      builtin_follows e e' h h' place is is' query query' js place_at items q effects.fails = goes ch failed
      builtin_follows e e' h h' place is is' query query' js (at o eh eh') items q (effects.writes bytes) = (record { events = refl; tests = refl; phases = on (states ch (doing (frames names (items_over names.there names.back o items) q))) })
      builtin_follows e e' h h' place is is' query query' js (at o eh eh') items q (effects.equates a b a' b' are) =
          goes ch (solving names (equation a b ∷ []) (equation a' b' ∷ []) 0 are refl refl (both_open names.there names.back are) (items_over names.there names.back o items) q)
      builtin_follows e e' h h' place is is' query query' js place_at items q (effects.becomes g g' are) = goes ch (doing (frames names (does js are place_at items) q))
      builtin_follows e e' h h' place is is' query query' js place_at items q (effects.faults kind) = (record { events = refl; tests = refl; phases = over })

      -- a call with these tests
      abbrev made_by : (ℕ → Bool) → (ℕ → Bool) → State → ℕ → List Term → Frame → Trace
      made_by holds pre s p args rest =
          let looks = what.looks (pred_of program p) in
          let noted = filter pre looks.notes in
          let marked = filter pre looks.marks in
          let under = with_mark p marked s.choices in
          let call : Call = record { pred = p; args = args; noted = noted; mark = mark_height marked s.choices; height = length under; rest = rest } in
          let next = Going (record { calls = suc s.calls; fresh = s.fresh; choices = tries 0 (pred_of program p).clauses call ++ under; current = Failed }) in
          after_tests what.stops 1 (λ k. finding (holds k)) looks.calls (record { events = []; tests = length looks.notes + length looks.marks; phase = next })

      made_follows : (holds pre : ℕ → Bool) (p : ℕ) (args args' : List Term) (is is' : List Item) (query query' : Term) → TermsAgree names.there names.back args args' → ItemsAgree names.there names.back ks is is' → TermsAgree names.there names.back (query ∷ []) (query' ∷ []) →
          Alike program (made_by holds pre (full cs c) p args (record { items = is; query = query })) (made_by holds pre (lean cs' c') p args' (record { items = is'; query = query' }))
      made_follows holds pre p args args' is is' query query' terms items q =
          let looks = what.looks (pred_of program p) in
          let marked = filter pre looks.marks in
          let m = mark_new program n n' p marked ch in
          let t = tries_choices program n n' m.kinds 0 (pred_of program p).clauses
          (record { pred = p; args = args; noted = filter pre looks.notes; mark = mark_height marked cs; height = length (with_mark p marked cs); rest = record { items = is; query = query } })
          (record { pred = p; args = args'; noted = filter pre looks.notes; mark = mark_height marked cs'; height = length (with_mark p marked cs'); rest = record { items = is'; query = query' } })
          _ _ (calls names m.kinds terms (at_top program n n' m.choices) m.marks (items_over names.there names.back m.older items) q) m.choices in
          tested program what.stops 1 (λ k. finding (holds k)) looks.calls _ _ (record { events = refl; tests = refl; phases = on (states {ks = t.0} t.2 failed) })

      call_follows : (p : ℕ) (args args' : List Term) (is is' : List Item) (query query' : Term) → TermsAgree names.there names.back args args' → ItemsAgree names.there names.back ks is is' → TermsAgree names.there names.back (query ∷ []) (query' ∷ []) →
          Alike program (call_step what program bound (full cs c) p (pred_of program p) args (record { items = is; query = query })) (call_step what program bound (lean cs' c') p (pred_of program p) args' (record { items = is'; query = query' }))
      call_follows p args args' is is' query query' terms items q = by_bound (nat_le bound made)
        where
          all : AllByRecursion (Returns names.there names.back) args
          all = all_return names.there names.back args (ap (map (instance names.back)) terms.is_there ∙ terms.is_back)

          calls_alike : (kind : _) → calls_hold program.grammar args' kind ≡ calls_hold program.grammar args kind
          calls_alike kind = ap (λ xs. calls_hold program.grammar xs kind) (sym terms.is_there) ∙ calls_same names.there names.back program.grammar args all kind

          pre_alike : (kind : _) → pre_holds program.grammar args' kind ≡ pre_holds program.grammar args kind
          pre_alike kind = ap (λ xs. pre_holds program.grammar xs kind) (sym terms.is_there) ∙ pre_same names.there names.back program.grammar args all kind

          called : Alike program (made_by (holds_at_call args) (meets_pre args) (full cs c) p args (record { items = is; query = query })) (made_by (holds_at_call args') (meets_pre args') (lean cs' c') p args' (record { items = is'; query = query' }))
          called = subst (λ b. Alike program (made_by (holds_at_call args) (meets_pre args) (full cs c) p args (record { items = is; query = query })) (made_by b (meets_pre args') (lean cs' c') p args' (record { items = is'; query = query' }))) (λ i k. sym (calls_alike (kind_of program k)) i)
              (subst (λ b. Alike program (made_by (holds_at_call args) (meets_pre args) (full cs c) p args (record { items = is; query = query })) (made_by (holds_at_call args) b (lean cs' c') p args' (record { items = is'; query = query' }))) (λ i k. sym (pre_alike (kind_of program k)) i)
              (made_follows (holds_at_call args) (meets_pre args) p args args' is is' query query' terms items q))

          by_bound : (b : Bool) → Alike program (if b then quietly (Over ending.Bound) else call_made what program bound (full cs c) p (pred_of program p) args (record { items = is; query = query }))
              (if b then quietly (Over ending.Bound) else call_made what program bound (lean cs' c') p (pred_of program p) args' (record { items = is'; query = query' }))
          by_bound true = (record { events = refl; tests = refl; phases = over })
          by_bound false = called

      -- a built-in by its arguments
      applied : (b : _) (args args' : List Term) → TermsAgree names.there names.back args args' →
          Effects names.there names.back (effect program b (slice_index_or args 0 (Atom 0)) (slice_index_or args 1 (Atom 0))) (effect program b (slice_index_or args' 0 (Atom 0)) (slice_index_or args' 1 (Atom 0)))
      applied b args args' terms =
          subst (λ t. Effects names.there names.back (effect program b (slice_index_or args 0 (Atom 0)) (slice_index_or args 1 (Atom 0))) (effect program b t (slice_index_or args' 1 (Atom 0)))) (given 0)
          (subst (λ t. Effects names.there names.back (effect program b (slice_index_or args 0 (Atom 0)) (slice_index_or args 1 (Atom 0))) (effect program b (instance names.there (slice_index_or args 0 (Atom 0))) t)) (given 1)
          (effect_alike names.there names.back program (slice_index_or args 0 (Atom 0)) (slice_index_or args 1 (Atom 0)) (comes_back 0) (comes_back 1) b))
        where
          given : (i : ℕ) → instance names.there (slice_index_or args i (Atom 0)) ≡ slice_index_or args' i (Atom 0)
          given i = argument names.there args i ∙ ap (λ xs. slice_index_or xs i (Atom 0)) terms.is_there

          comes_back : (i : ℕ) → Returns names.there names.back (slice_index_or args i (Atom 0))
          comes_back i = ap (instance names.back) (given i) ∙ argument names.back args' i ∙ ap (λ xs. slice_index_or xs i (Atom 0)) terms.is_back

      goal_follows : (g g' : Goal-F Goal) (h h' : ℕ) (place : Place) (is is' : List Item) (query query' : Term) (js : List Kind) → HeightsAgree ks h h' js → ItemsAgree names.there names.back js is is' → TermsAgree names.there names.back (query ∷ []) (query' ∷ []) →
          OneForm names.there names.back g g' →
          Alike program (goal_step what program bound (full cs c) g h place (record { items = is; query = query })) (goal_step what program bound (lean cs' c') g' h' place (record { items = is'; query = query' }))
      goal_follows g g' h h' place is is' query query' js (at o e e') items q both_true = goes ch (doing (frames names (items_over names.there names.back o items) q))
      goal_follows g g' h h' place is is' query query' js (at o e e') items q both_fail = goes ch failed
      goal_follows g g' h h' place is is' query query' js place_at items q both_cut = goes (cut_choices program n n' ch place_at) (doing (frames names items q))
      goal_follows g g' h h' place is is' query query' js (at o e e') items q (both_call p ts ts' terms) = call_follows p ts ts' is is' query query' terms (items_over names.there names.back o items) q
      goal_follows g g' h h' place is is' query query' js place_at items q (both_builtin b ts ts' terms) = builtin_follows _ _ h h' place is is' query query' js place_at items q (applied b ts ts' terms)
      goal_follows g g' h h' place is is' query query' js place_at items q (both_conj x x' y y' a b) = goes ch (doing (frames names (does js a place_at (does js b (at whole (at_first place_at) (at_second place_at)) items)) q))
        where
          at_first : HeightsAgree ks h h' js → h ≡ length js
          at_first (at o e e') = e

          at_second : HeightsAgree ks h h' js → h' ≡ kept js
          at_second (at o e e') = e'
      goal_follows g g' h h' place is is' query query' js place_at items q (both_disj x x' y y' a b) =
          goes (resume (frames names (does js b place_at items) q) ch) (doing (frames names (does js a (at_over (newer whole) place_at) items) q))
      goal_follows g g' h h' place is is' query query' js place_at items q (both_if x x' y y' z z' a b d) =
          let more = resume (frames names (does js d place_at items) q) ch in
          goes more (doing (frames names (does (Kept ∷ ks) a (at_top program n n' more) (cuts ks (at_over (newer whole) (at_top program n n' ch)) (does js b place_at items))) q))
      goal_follows g g' h h' place is is' query query' js (at o e e') items q (both_not x x' a) =
          let more = resume (frames names (items_over names.there names.back o items) q) ch in
          goes more (doing (frames names (does (Kept ∷ ks) a (at_top program n n' more) (cuts ks (at_over (newer whole) (at_top program n n' ch)) (does js (fails names.there names.back) (at o e e') items))) q))
      goal_follows g g' h h' place is is' query query' js (at o e e') items q both_exit = goes ch (doing (frames names (items_over names.there names.back o items) q))

      -- an exit with these tests
      abbrev exit_by : (ℕ → Bool) → State → List ℕ → Option ℕ → Frame → Trace
      exit_by holds s noted m rest =
          let found = mark_of m s.choices in
          after_tests what.stops 1 (λ k. finding (holds k)) noted
          (after_tests what.stops 0 (found_at_mark (mark_exited found)) (mark_conds found)
          (quietly (Going (record s { choices = exit_mark m s.choices; current = Doing rest }))))

      exit_tested : (holds : ℕ → Bool) (noted : List ℕ) (m m' : Option ℕ) (is is' : List Item) (query query' : Term) → MarksAgree ks m m' → ItemsAgree names.there names.back ks is is' → TermsAgree names.there names.back (query ∷ []) (query' ∷ []) →
          Alike program (exit_by holds (full cs c) noted m (record { items = is; query = query })) (exit_by holds (lean cs' c') noted m' (record { items = is'; query = query' }))
      exit_tested holds noted m m' is is' query query' marks items q =
          let x = exit_related program n n' ch marks in
          tested program what.stops 1 (λ k. finding (holds k)) noted _ _ (marks_tested (mark_of m cs) (mark_of m' cs') x.conds x.was_exited _ _ (goes x.choices (doing (frames names items q))))

      exit_follows : (p : ℕ) (args args' : List Term) (noted : List ℕ) (m m' : Option ℕ) (is is' : List Item) (query query' : Term) → TermsAgree names.there names.back args args' → MarksAgree ks m m' → ItemsAgree names.there names.back ks is is' → TermsAgree names.there names.back (query ∷ []) (query' ∷ []) →
          Alike program (exit_step what program bound (full cs c) p args noted m (record { items = is; query = query })) (exit_step what program bound (lean cs' c') p args' noted m' (record { items = is'; query = query' }))
      exit_follows p args args' noted m m' is is' query query' terms marks items q =
          subst (λ b. Alike program (exit_by (holds_at_exit args) (full cs c) noted m (record { items = is; query = query })) (exit_by b (lean cs' c') noted m' (record { items = is'; query = query' }))) (λ i k. sym (post_alike (kind_of program k)) i)
          (exit_tested (holds_at_exit args) noted m m' is is' query query' marks items q)
        where
          post_alike : (kind : _) → post_holds program.grammar args' kind ≡ post_holds program.grammar args kind
          post_alike kind = ap (λ xs. post_holds program.grammar xs kind) (sym terms.is_there) ∙ post_same names.there names.back program.grammar args (all_return names.there names.back args (ap (map (instance names.back)) terms.is_there ∙ terms.is_back)) kind

    frame_follows : {ks : List Kind} (cs cs' : List Choice) (names : Renaming n n') (is is' : List Item) (query query' : Term) → ChoicesAgree program n n' ks cs cs' → ItemsAgree names.there names.back ks is is' → TermsAgree names.there names.back (query ∷ []) (query' ∷ []) →
        Next (full cs (Doing (record { items = is; query = query }))) (frame_step what program bound (full cs (Doing (record { items = is; query = query }))) (record { items = is; query = query }) is) (lean cs' (Doing (record { items = is'; query = query' })))
        (frame_step what program bound (lean cs' (Doing (record { items = is'; query = query' }))) (record { items = is'; query = query' }) is')
    frame_follows cs cs' names is is' query query' ch rel.none q = moves (record { events = ap (λ t. Answer t ∷ []) (numbered_alike query query' q); tests = refl; phases = on (states ch failed) })
    frame_follows cs cs' names is is' query query' ch (does {g = g} {g' = g'} {h = h} {h' = h'} {place = place} {rest = rest} {rest' = rest'} js are place_at items) q =
        moves (goal_follows cs cs' (Doing (record { items = is; query = query })) (Doing (record { items = is'; query = query' })) ch names (out-Goal g) (out-Goal g') h h' place rest rest' query query' js place_at items q (one_form names.there names.back g g' are))
    frame_follows cs cs' names is is' query query' ch (cuts js place_at items) q = moves (goes (cut_choices program n n' ch place_at) (doing (frames names items q)))
    frame_follows cs cs' names is is' query query' ch (exits {p = p} {args = args} {args' = args'} {noted = noted} {mark = m} {mark' = m'} {rest = rest} {rest' = rest'} terms marks items) q =
        moves (exit_follows cs cs' (Doing (record { items = is; query = query })) (Doing (record { items = is'; query = query' })) ch names p args args' noted m m' rest rest' query query' terms marks items q)
    frame_follows cs cs' names is is' query query' ch (idle {rest = rest} items) q =
        let choices = choices_lighter ch in
        let fewer = items_lighter items in
        stays (full cs (Doing (record { items = rest; query = query }))) refl refl refl (states ch (doing (frames names items q))) (omega (arith, choices, fewer))

    try_follows : {ks : List Kind} (ds ds' cs cs' : List Choice) (clause : Option Clause) (call call' : Call) → ((one : Clause) → clause ≡ Some one → IsClosed one) → ChoicesAgree program n n' ks cs cs' → CallsAgree ks n n' call call' →
        Alike program (try_step what program bound (full ds Failed) clause call cs) (try_step what program bound (lean ds' Failed) clause call' cs')
    try_follows ds ds' cs cs' None call call' is_closed ch are = goes ch failed
    try_follows ds ds' cs cs' (Some clause) call call' is_closed ch (calls names js terms place_at marks items q) =
        let c = is_closed clause refl in
        let vars = clause.vars in
        let all = names_entered names vars in
        let es = pairs_variants (terms_entered names vars terms) (clause_terms names vars c.head) in
        (record {
          events = refl;
          tests = refl;
          phases = on (states (choices_more (omega arith) (omega arith) ch) (solving all _ _ 0 es refl refl (both_open all.there all.back es)
              (does js (clause_goal names vars c.body) place_at (exit_behind (what.exits clause.body) _ _ (terms_entered names vars terms) marks (items_entered names vars items))) (terms_entered names vars q)));
        })

    -- a clause that the other lacks
    left_out_stays : {ks : List Kind} (k : ℕ) (call : Call) (cs cs' : List Choice) (t' : Trace) → CannotMatch program k call → ChoicesAgree program n n' ks cs cs' →
        Next (full (Try k call ∷ cs) Failed) (try_step what program bound (full (Try k call ∷ cs) Failed) (clause_at program call.pred k) call cs) (lean cs' Failed) t'
    left_out_stays k call cs cs' t' d ch =
        let clashes : IsClashing (Open (pairs call.args (map (rename n) d.clause.head)) []) =
        subst (λ xs. IsClashing (Open (pairs xs (map (rename n) d.clause.head)) [])) (sym d.args_are) (subst (λ ys. IsClashing (Open (pairs (d.arg ∷ d.args) (map (rename n) ys)) [])) (sym d.head_is) (d.clashes n)) in
        let choices = choices_lighter ch in
        subst (λ o. Next (full (Try k call ∷ cs) Failed) (try_step what program bound (full (Try k call ∷ cs) Failed) o call cs) (lean cs' Failed) t') (sym d.is_there)
        (stays _ refl refl refl (states (choices_more (omega arith) (omega arith) ch) (clashing _ clashes)) (omega (arith, choices)))

    failure_follows : {ks : List Kind} (cs cs' : List Choice) → ChoicesAgree program n n' ks cs cs' → Next (full cs Failed) (failure_step what program bound (full cs Failed) cs) (lean cs' Failed) (failure_step what program bound (lean cs' Failed) cs')
    failure_follows cs cs' rel.none = moves (record { events = refl; tests = refl; phases = over })
    failure_follows cs cs' (resume f ch) = moves (goes ch (doing f))
    failure_follows cs cs' (try {k = k} {cs = older} {cs' = older'} (calls {p = p} {args = args} {args' = args'} {noted = noted} {mark = m} {mark' = m'} {h = h} {h' = h'} {is = is} {is' = is'} {query = query} {query' = query'} names js terms place_at marks items q) ch) =
        moves (try_follows cs cs' older older' (clause_at program p k) (record { pred = p; args = args; noted = noted; mark = m; height = h; rest = record { items = is; query = query } })
        (record { pred = p; args = args'; noted = noted; mark = m'; height = h'; rest = record { items = is'; query = query' } }) (closed p k) ch (calls names js terms place_at marks items q))
    failure_follows cs cs' (mark {conds = conds} {e = e} ch) = moves (tested program what.stops 0 (λ k. finding (not (failure_breaks e (kind_of program k)))) conds _ _ (goes ch failed))
    failure_follows cs cs' (left_out {k = k} {call = call} {cs = older} d ch) = left_out_stays k call older cs' _ d ch

    solving_follows : {ks : List Kind} (cs cs' : List Choice) (place : Place) (stage stage' : Stage) (is is' : List Item) (query query' : Term) (names : Renaming n n') (es es' : List Equation) (k : ℕ) → ChoicesAgree program n n' ks cs cs' → AreVariants names.there names.back es es' →
        stage ≡ solves k (Open es []) → stage' ≡ solves k (Open es' []) → Stages stage stage' → ItemsAgree names.there names.back ks is is' → TermsAgree names.there names.back (query ∷ []) (query' ∷ []) →
        Alike program (solving_step what program bound (full cs (Solving place stage (record { items = is; query = query }))) place stage (record { items = is; query = query }))
        (solving_step what program bound (lean cs' (Solving place stage' (record { items = is'; query = query' }))) place stage' (record { items = is'; query = query' }))
    solving_follows cs cs' place stage stage' is is' query query' names es es' k ch are e e' (both_open {es = now} {es' = now'} {bs = bs} {bs' = bs'} f g now_are) items q =
        goes ch (solving names es es' (suc k) are (ap solve e ∙ sym (solves_next k (Open es []))) (ap solve e' ∙ sym (solves_next k (Open es' []))) (solve_alike (both_open {es = now} {es' = now'} {bs = bs} {bs' = bs'} f g now_are)) items q)
    solving_follows cs cs' place stage stage' is is' query query' names es es' k ch are e e' (both_ended {o} {o'} same) items q = by_end o o' same (sym e) (sym e')
      where
        by_end : (o o' : Outcome) → SameKind o o' → solves k (Open es []) ≡ Ended o → solves k (Open es' []) ≡ Ended o' →
            Alike program (solving_step what program bound (full cs (Solving place (Ended o) (record { items = is; query = query }))) place (Ended o) (record { items = is; query = query }))
            (solving_step what program bound (lean cs' (Solving place (Ended o') (record { items = is'; query = query' }))) place (Ended o') (record { items = is'; query = query' }))
        by_end (Solved bs) (Solved bs') same e e' =
            goes ch (doing (frames_solved names es es' (values bs) (values bs') are (is_general es bs (k, e)) (is_general es' bs' (k, e')) items q))
        by_end Clash Clash same e e' = goes ch failed
        by_end Cyclic Cyclic same e e' = (record { events = refl; tests = refl; phases = over })
        by_end (Solved bs) Clash same e e' = absurd same
        by_end (Solved bs) Cyclic same e e' = absurd same
        by_end Clash (Solved bs) same e e' = absurd same
        by_end Clash Cyclic same e e' = absurd same
        by_end Cyclic (Solved bs) same e e' = absurd same
        by_end Cyclic Clash same e e' = absurd same

    clashing_stays : {ks : List Kind} (cs cs' : List Choice) (place : Place) (stage : Stage) (f : Frame) (t' : Trace) → IsClashing stage → ChoicesAgree program n n' ks cs cs' →
        Next (full cs (Solving place stage f)) (solving_step what program bound (full cs (Solving place stage f)) place stage f) (lean cs' Failed) t'
    clashing_stays cs cs' place (Open [] bs) f t' clashes ch = absurd clashes
    clashing_stays cs cs' place (Open (e ∷ es) bs) f t' clashes ch =
        let choices = choices_lighter ch in
        subst (λ m. Next (full cs (Solving place (Open (e ∷ es) bs) f)) (quietly (Going (full cs (Solving place (after m es bs) f)))) (lean cs' Failed) t') (sym clashes) (stays (full cs (Solving place (Ended Clash) f)) refl refl refl (states ch (clashing (Ended Clash) tt)) (omega (arith, choices)))
    clashing_stays cs cs' place (Ended Clash) f t' clashes ch = let choices = choices_lighter ch in stays (full cs Failed) refl refl refl (states ch failed) (omega (arith, choices))
    clashing_stays cs cs' place (Ended (Solved bs)) f t' clashes ch = absurd clashes
    clashing_stays cs cs' place (Ended Cyclic) f t' clashes ch = absurd clashes

    current_follows : {ks : List Kind} (cs cs' : List Choice) (c c' : Current) → ChoicesAgree program n n' ks cs cs' → Currents ks n n' c c' → Next (full cs c) (step what program bound (full cs c)) (lean cs' c') (step what program bound (lean cs' c'))
    current_follows cs cs' c c' ch (doing (frames {is = is} {is' = is'} {query = query} {query' = query'} names items q)) = frame_follows cs cs' names is is' query query' ch items q
    current_follows cs cs' c c' ch (solving {place = place} {stage = stage} {stage' = stage'} {is = is} {is' = is'} {query = query} {query' = query'} names es es' k are e e' both items q) =
        moves (solving_follows cs cs' place stage stage' is is' query query' names es es' k ch are e e' both items q)
    current_follows cs cs' c c' ch (clashing {place = place} {f = f} stage clashes) = clashing_stays cs cs' place stage f _ clashes ch
    current_follows cs cs' c c' ch failed = failure_follows cs cs' ch

  pub step_follows : (s s' : State) → States program s s' → Next s (step what program bound s) s' (step what program bound s')
  step_follows s s' (states {calls = made} {n = n} {n' = n'} {cs = cs} {cs' = cs'} {c = c} {c' = c'} ch are) = current_follows made n n' cs cs' c c' ch are

  -- a state that is no lighter takes each step as well
  pub step_alike : (s s' : State) → States program s s' → weight s ≤ weight s' → Alike program (step what program bound s) (step what program bound s')
  step_alike s s' are le = by_case (step_follows s s' are) where
    by_case : Next s (step what program bound s) s' (step what program bound s') → Alike program (step what program bound s) (step what program bound s')
    by_case (moves h) = h
    by_case (stays next e n p more lighter) = absurd (omega (arith, le, lighter))
