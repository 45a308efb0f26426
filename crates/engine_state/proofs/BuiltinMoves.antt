-- What built-ins do whose arguments are in cells.
use Rattle.std.proofs.Common.{◌≡◌, ◌≤◌, ◌<◌, ◌+◌, ℕ, zero, suc, List, [], ◌∷◌, ◌++◌, map, length, Option, None, Some, refl, sym, ap, subst, ◌∙◌, arith}
use Rattle.std.specs.Prelude.{ℤ, slice_index_or}
use Rattle.term_core.specs.declared.fixed.TheConstants.{NIL}
use Rattle.term_core.specs.declared.terms.Term.{Term}
use Rattle.term_core.specs.declared.terms.Term as term
use Rattle.term_core.specs.declared.equations.Binding.{Binding}
use Rattle.term_core.specs.declared.equations.Equation.{Equation}
use Rattle.term_core.specs.declared.equations.Outcome.{Outcome}
use Rattle.term_core.specs.declared.equations.Outcome.TheVariants as outcome
use Rattle.term_core.specs.Terms.{instance_step}
use Rattle.term_core.specs.Unify.{Unified, values}
use Rattle.term_core.specs.Solutions.{HasOneOutcome}
use Rattle.term_core.proofs.TermFolds.{fold-Int}
use Rattle.prog_data.specs.declared.goals.Builtin.{Builtin}
use Rattle.prog_data.specs.declared.goals.Builtin.TheVariants as builtin
use Rattle.prog_data.specs.declared.goals.Goal.{Goal}
use Rattle.prog_data.specs.declared.goals.Goal as goal
use Rattle.prog_data.specs.declared.programs.Program.{Program}
use Rattle.prog_data.specs.declared.events.ArithKind.{ArithKind}
use Rattle.prog_data.specs.declared.events.Ending.TheVariants as ending
use Rattle.prog_data.specs.declared.events.Event.{Event}
use Rattle.prog_data.specs.declared.events.Event.TheVariants.{Out}
use Rattle.prog_data.specs.Goals.{goal_instance}
use Rattle.prog_data.specs.Programs.{IsProgram}
use Rattle.prog_data.specs.Ranges.{arity_of}
use Rattle.machine_model.specs.State.{Does, CutTo, Frame, Choice, Resume, State, Phase, Going, Over, frame_instance, cut}
use Rattle.machine_model.specs.Tests.{Tests, every_condition}
use Rattle.machine_model.specs.Step.{Succeeds, Fails, Writes, Equates, Becomes, Faults, effect, frame_of, quietly, telling}
use Rattle.machine_model.specs.Leaner.{IsLeaner}
use Rattle.machine_model.specs.LeanerLaws.{LeanerTellsTheSame, LeanerStatesAreFound, IsDone, before_goal}
use Rattle.term_heap.specs.Changes.{Change, Grows, History, size_of, value_of, places, next_serial}
use Rattle.term_heap.specs.Loads.{from_base, HasLoaded}
use Rattle.unify_core.specs.Unifies.{HasUnified}
use Rattle.unify_core.specs.declared.unifying.Unified as code_unified
use Rattle.unify_core.specs.declared.unifying.Unified.TheVariants.{Same, Clash, Cyclic}
use Rattle.engine_state.specs.declared.tasks.Row.{Row}
use Rattle.engine_state.specs.declared.engine.Engine as code
use Rattle.engine_state.specs.declared.stages.Setting.{Setting}
use Rattle.engine_state.specs.declared.stages.Stage as code_stage
use Rattle.engine_state.specs.declared.stages.Stage.TheVariants as stage
use Rattle.engine_state.specs.Moves.{Makes, Moves}
use Rattle.engine_state.specs.StepsMade.{failing, solved_phase, equation, effect_of}
use Rattle.engine_state.specs.StepsMade as steps
use Rattle.engine_state.specs.Stages.{choices_at, tasks_at, frame_now, doing, phase_of, IsKept}
use Rattle.engine_state.specs.BuiltinMoves.{terms_at, builtin_state, effect_at, IsReady, HasArguments, IsUntestedMove, HasDone, equated_stage, refuted_stage, with_heap, AreUnified, BuiltinsMove}
use Rattle.engine_state.proofs.BuiltinArguments.{still_kept, same_choices, choices_below, tasks_there, query_still, same_values, same_terms, grown_ready}
use Rattle.engine_state.proofs.CellMoves.{cells_move}
use Rattle.engine_state.proofs.Composing.{made_moves, onward, quiet_twice, moves_compose}
use Rattle.engine_state.proofs.CutStays.{cuts_stay}
use Rattle.engine_state.proofs.GoalInstances.{at_fail}
use Rattle.engine_state.proofs.LeanerMoves.{leaners_move}
use Rattle.engine_state.proofs.MadeSteps.{goals_make, builtins_make, failures_make}
use Rattle.engine_state.proofs.SolvedMoves.{solved_have}

-- the effect by the first two places

module _ (program : Program) (value : ℕ → Term) (first : ℕ) where
  abbrev row : ℕ → List Term
  row count = map value (places first count)

  abbrev nil : Term
  nil = term.Atom NIL

  first_is : (count : ℕ) → 1 ≤ count → slice_index_or (row count) 0 nil ≡ value first
  first_is zero le = absurd (omega (arith, le))
  first_is (suc count) le = refl

  second_is : (count : ℕ) → 2 ≤ count → slice_index_or (row count) 1 nil ≡ value (first + 1)
  second_is zero le = absurd (omega (arith, le))
  second_is (suc zero) le = absurd (omega (arith, le))
  second_is (suc (suc count)) le = let next : suc first ≡ first + 1 = omega arith in ap value next

  two : (b : Builtin) (count : ℕ) → 2 ≤ count → effect_of program b (row count) ≡ effect program b (value first) (value (first + 1))
  two b count le = let less : 1 ≤ count = omega (arith, le) in λ i. effect program b (first_is count less i) (second_is count le i)

  one : (b : Builtin) (count : ℕ) → ((t x y : Term) → effect program b t x ≡ effect program b t y) → 1 ≤ count → effect_of program b (row count) ≡ effect program b (value first) (value (first + 1))
  one b count alike le = alike (slice_index_or (row count) 0 nil) (slice_index_or (row count) 1 nil) (value (first + 1)) ∙ ap (λ t. effect program b t (value (first + 1))) (first_is count le)

  pub effect_is : (b : Builtin) (count : ℕ) → arity_of b ≤ count → effect_of program b (row count) ≡ effect program b (value first) (value (first + 1))
  effect_is builtin.Unify count le = two builtin.Unify count le
  effect_is builtin.NotUnify count le = two builtin.NotUnify count le
  effect_is builtin.Same count le = two builtin.Same count le
  effect_is builtin.NotSame count le = two builtin.NotSame count le
  effect_is builtin.Is count le = two builtin.Is count le
  effect_is builtin.Less count le = two builtin.Less count le
  effect_is builtin.Greater count le = two builtin.Greater count le
  effect_is builtin.LessEq count le = two builtin.LessEq count le
  effect_is builtin.GreaterEq count le = two builtin.GreaterEq count le
  effect_is builtin.NumEq count le = two builtin.NumEq count le
  effect_is builtin.NumNotEq count le = two builtin.NumNotEq count le
  effect_is builtin.Integer count le = one builtin.Integer count (λ t x y. refl) le
  effect_is builtin.Atom count le = one builtin.Atom count (λ t x y. refl) le
  effect_is builtin.Write count le = one builtin.Write count (λ t x y. refl) le
  effect_is builtin.Writeq count le = one builtin.Writeq count (λ t x y. refl) le
  effect_is builtin.Nl count le = refl
  effect_is (builtin.Belongs n) count le = one (builtin.Belongs n) count (λ t x y. refl) le
  effect_is builtin.IsVar count le = one builtin.IsVar count (λ t x y. refl) le
  effect_is builtin.IsNonvar count le = one builtin.IsNonvar count (λ t x y. refl) le
  effect_is builtin.IsGround count le = one builtin.IsGround count (λ t x y. refl) le

-- what binds nothing

module _ (found : LeanerStatesAreFound) (e : code.Engine) (b : Builtin) (args : Row) (s : Setting) (ready : IsReady e b args s) where
  abbrev program : Program
  program = e.program.now

  abbrev ts : List Term
  ts = terms_at e args

  abbrev due : Goal
  due = goal.Builtin b ts

  abbrev rest : Frame
  rest = frame_now e (tasks_at e s.rest)

  abbrev cs : List Choice
  cs = choices_at e

  abbrev n : ℕ
  n = size_of e.heap.changes

  abbrev from : State
  from = builtin_state e b args s

  -- a state after a step is its own leaner one
  own_next : (s' : State) (events : List Event) → Makes (every_condition program) program 0 from (record { events = events; tests = 0; phase = Going s' }) → IsDone s'.current → IsLeaner program s' s'
  own_next s' events makes done =
      (moves_compose (every_condition program) program 0).own (found program ready.kept.in_range) from s' (record { events = events; tests = 0; phase = Going s' }) ready.own makes refl done

  module _ (what : Tests) (bound : ℕ) where
    makes_success : effect_at e b args ≡ Succeeds → Makes what program bound from (quietly (Going (doing e (tasks_at e s.rest))))
    makes_success is = (builtins_make what program bound e.calls n cs).succeeds due b ts s.height s.place rest refl is

    makes_failure : effect_at e b args ≡ Fails → Makes what program bound from (quietly (Going (failing e.calls n cs)))
    makes_failure is = (builtins_make what program bound e.calls n cs).fails due b ts s.height s.place rest refl is

    makes_text : (bytes : List ℕ) → effect_at e b args ≡ Writes bytes → Makes what program bound from (telling (Out bytes) (Going (doing e (tasks_at e s.rest))))
    makes_text bytes is = (builtins_make what program bound e.calls n cs).writes due b ts s.height s.place rest bytes refl is

    makes_fault : (kind : ArithKind) → effect_at e b args ≡ Faults kind → Makes what program bound from (quietly (Over (ending.Arithmetic kind s.place)))
    makes_fault kind is = (builtins_make what program bound e.calls n cs).faults due b ts s.height s.place rest kind refl is

  pub has_succeeded : effect_at e b args ≡ Succeeds → HasDone e from [] e (stage.Doing s.rest)
  has_succeeded is = record {
    program = refl;
    moves = λ what bound. made_moves what program bound from (quietly (Going (doing e (tasks_at e s.rest)))) (makes_success what bound is);
    whole = record { kept = ready.kept; own = own_next (doing e (tasks_at e s.rest)) [] (makes_success (every_condition program) 0 is) tt; in_hand = ready.there };
  }

  pub has_failed : effect_at e b args ≡ Fails → HasDone e from [] e stage.Failed
  has_failed is = record {
    program = refl;
    moves = λ what bound. made_moves what program bound from (quietly (Going (failing e.calls n cs))) (makes_failure what bound is);
    whole = record { kept = ready.kept; own = own_next (failing e.calls n cs) [] (makes_failure (every_condition program) 0 is) tt; in_hand = tt };
  }

  pub has_written : (bytes : List ℕ) → effect_at e b args ≡ Writes bytes → HasDone e from (Out bytes ∷ []) e (stage.Doing s.rest)
  has_written bytes is = record {
    program = refl;
    moves = λ what bound. made_moves what program bound from (telling (Out bytes) (Going (doing e (tasks_at e s.rest)))) (makes_text what bound bytes is);
    whole = record { kept = ready.kept; own = own_next (doing e (tasks_at e s.rest)) (Out bytes ∷ []) (makes_text (every_condition program) 0 bytes is) tt; in_hand = ready.there };
  }

  pub has_faulted : (kind : ArithKind) → effect_at e b args ≡ Faults kind → HasDone e from [] e (stage.Over (ending.Arithmetic kind s.place))
  has_faulted kind is = record {
    program = refl;
    moves = λ what bound. made_moves what program bound from (quietly (Over (ending.Arithmetic kind s.place))) (makes_fault what bound kind is);
    whole = tt;
  }

  -- two places that are to become the same

  module _ (x y : ℕ) (equates : effect_at e b args ≡ Equates (value_of e.heap.changes x) (value_of e.heap.changes y)) where
    makes_outcome : (what : Tests) (bound : ℕ) (o : Outcome) → Unified (equation (value_of e.heap.changes x) (value_of e.heap.changes y)) o → Makes what program bound from (quietly (solved_phase e.calls n cs s.place rest o))
    makes_outcome what bound o ends = (builtins_make what program bound e.calls n cs).equates due b ts s.height s.place rest (value_of e.heap.changes x) (value_of e.heap.changes y) o refl equates ends

    module _ (single : (es : List Equation) → HasOneOutcome es) (tells : LeanerTellsTheSame) (heap : History) where
      abbrev new : code.Engine
      new = with_heap e heap

      pub has_equated : (u : code_unified.Unified) → AreUnified e x y u heap → HasDone e from [] new (equated_stage s u)
      has_equated Same pair =
          let more = pair.later.goes_on.more in
          let is_new : heap.changes ≡ more ++ e.heap.changes = pair.later.goes_on.is_new in
          let same : cs ≡ choices_at new = sym (same_choices e ready.kept heap more is_new) in
          let frame : Frame = frame_now new (tasks_at e s.rest) in
          let to : List Choice → State = λ choices. steps.doing e.calls (size_of heap.changes) choices frame in
          let moved : (what : Tests) (bound : ℕ) → Moves what program bound (Going from) (quietly (Going (to cs))) × IsLeaner program (to cs) (to cs) =
          λ what bound. (cells_move single tells found what program bound ready.kept.in_range e.calls cs).equated due b ts s.height s.place (tasks_at e s.rest) e.query x y e.heap.changes heap.changes refl equates
          pair.unified pair.still_made (tasks_there e ready.kept heap more is_new s.rest) (query_still e ready.kept heap more is_new) (choices_below e ready.kept heap more is_new pair.still_made) ready.own in
          record {
            program = refl;
            moves = λ what bound. subst (λ choices. Moves what program bound (Going from) (quietly (Going (to choices)))) same (moved what bound).0;
            whole = record {
              kept = still_kept e ready.kept heap more is_new;
              own = subst (λ choices. IsLeaner program (to choices) (to choices)) same (moved (every_condition program) 0).1;
              in_hand = ready.there;
            };
          }
      has_equated Clash pair =
          let more = pair.later.goes_on.more in
          let is_new : heap.changes ≡ more ++ e.heap.changes = pair.later.goes_on.is_new in
          let same : cs ≡ choices_at new = sym (same_choices e ready.kept heap more is_new) in
          let failed : State = failing e.calls n cs in
          let to : List Choice → State = λ choices. failing e.calls (size_of heap.changes) choices in
          let own : IsLeaner program failed failed = own_next failed [] (makes_outcome (every_condition program) 0 outcome.Clash pair.unified) tt in
          let numbered : (what : Tests) (bound : ℕ) → IsLeaner program failed (to cs) × IsLeaner program (to cs) (to cs) =
          λ what bound. (leaners_move tells found what program bound ready.kept.in_range).numbered (size_of heap.changes) failed own (choices_below e ready.kept heap more is_new pair.still_made) tt in
          let moved : (what : Tests) (bound : ℕ) → Moves what program bound (Going from) (quietly (Going (to cs))) =
          λ what bound. (leaners_move tells found what program bound ready.kept.in_range).after (Going from) [] 0 failed (to cs)
          (made_moves what program bound from (quietly (Going failed)) (makes_outcome what bound outcome.Clash pair.unified)) (numbered what bound).0 in
          record {
            program = refl;
            moves = λ what bound. subst (λ choices. Moves what program bound (Going from) (quietly (Going (to choices)))) same (moved what bound);
            whole = record {
              kept = still_kept e ready.kept heap more is_new;
              own = subst (λ choices. IsLeaner program (to choices) (to choices)) same (numbered (every_condition program) 0).1;
              in_hand = tt;
            };
          }
      has_equated Cyclic pair = record {
        program = refl;
        moves = λ what bound. made_moves what program bound from (quietly (Over (ending.Cyclic s.place))) (makes_outcome what bound outcome.Cyclic pair.unified);
        whole = tt;
      }

  -- a state that is led to in steps without event and test

  record LeadsTo (s' : State) : Type 0 where
    moves : (what : Tests) (bound : ℕ) → Moves what program bound (Going from) (quietly (Going s'))
    own : IsLeaner program s' s'

  abbrev MakesQuietly : State → Phase → Type 0
  MakesQuietly s' p = (what : Tests) (bound : ℕ) → Makes what program bound s' (quietly p)

  led_first : (s' : State) → MakesQuietly from (Going s') → IsDone s'.current → LeadsTo s'
  led_first s' makes done = record {
    moves = λ what bound. made_moves what program bound from (quietly (Going s')) (makes what bound);
    own = own_next s' [] (makes (every_condition program) 0) done;
  }

  led_on : (s' : State) (p : Phase) → LeadsTo s' → MakesQuietly s' p → (what : Tests) (bound : ℕ) → Moves what program bound (Going from) (quietly p)
  led_on s' p led makes what bound =
      subst (Moves what program bound (Going from)) (quiet_twice (Going s') p)
      (onward what program bound (Going from) (quietly (Going s')) (quietly p) (led.moves what bound) (made_moves what program bound s' (quietly p) (makes what bound)))

  led_next : (s' s'' : State) → LeadsTo s' → MakesQuietly s' (Going s'') → IsDone s''.current → LeadsTo s''
  led_next s' s'' led makes done = record {
    moves = led_on s' (Going s'') led makes;
    own = (moves_compose (every_condition program) program 0).own (found program ready.kept.in_range) s' s'' (quietly (Going s'')) led.own (makes (every_condition program) 0) refl done;
  }

  -- two places that can not become the same

  module _ (x y : ℕ) (becomes : effect_at e b args ≡ Becomes (goal.Not (goal.Builtin builtin.Unify (value_of e.heap.changes x ∷ value_of e.heap.changes y ∷ [])))) where
    abbrev pair : List Term
    pair = value_of e.heap.changes x ∷ value_of e.heap.changes y ∷ []

    abbrev tried : Goal
    tried = goal.Builtin builtin.Unify pair

    abbrev above : List Choice
    above = Resume rest ∷ cs

    abbrev behind : Frame
    behind = frame_of (CutTo (length cs) ∷ Does goal.Fail s.height s.place ∷ rest.items) rest

    abbrev before_tried : State
    before_tried = before_goal e.calls n above tried (suc (length cs)) s.place behind

    led_to_tried : LeadsTo before_tried
    led_to_tried =
        let negated : State = before_goal e.calls n cs (goal.Not tried) s.height s.place rest in
        let first : LeadsTo negated = led_first negated (λ what bound. (builtins_make what program bound e.calls n cs).becomes due b ts s.height s.place rest (goal.Not tried) refl becomes) tt in
        led_next negated before_tried first (λ what bound. (goals_make what program bound e.calls n cs).nots (goal.Not tried) tried s.height s.place rest refl) tt

    ends_tried : (o : Outcome) → Unified (equation (value_of e.heap.changes x) (value_of e.heap.changes y)) o → MakesQuietly before_tried (solved_phase e.calls n above s.place behind o)
    ends_tried o ends what bound =
        (builtins_make what program bound e.calls n above).equates tried builtin.Unify pair (suc (length cs)) s.place behind (value_of e.heap.changes x) (value_of e.heap.changes y) o refl refl ends

    led_to_failure : (bs : List Binding) → Unified (equation (value_of e.heap.changes x) (value_of e.heap.changes y)) (outcome.Solved bs) → LeadsTo (failing e.calls n cs)
    led_to_failure bs ends =
        let value : ℕ → Term = values bs in
        let last : Frame = frame_instance value rest in
        let failing_goal : Goal = goal_instance value goal.Fail in
        let fails : Frame = frame_of (Does failing_goal s.height s.place ∷ last.items) last in
        let solved : State = steps.doing e.calls n above (frame_instance value behind) in
        let cut_state : List Choice → State = λ choices. steps.doing e.calls n choices fails in
        let cut_is : cut (length cs) above ≡ cs = cuts_stay.newer (Resume rest ∷ []) cs in
        let to_solved : LeadsTo solved = led_next before_tried solved led_to_tried (ends_tried (outcome.Solved bs) ends) tt in
        let cuts : MakesQuietly solved (Going (cut_state (cut (length cs) above))) = λ what bound. (goals_make what program bound e.calls n above).cuts_to (length cs) fails in
        let to_cut : LeadsTo (cut_state cs) = subst (λ choices. LeadsTo (cut_state choices)) cut_is (led_next solved (cut_state (cut (length cs) above)) to_solved cuts tt) in
        led_next (cut_state cs) (failing e.calls n cs) to_cut (λ what bound. (goals_make what program bound e.calls n cs).fails failing_goal s.height s.place last (at_fail value)) tt

    led_to_rest : Unified (equation (value_of e.heap.changes x) (value_of e.heap.changes y)) outcome.Clash → LeadsTo (doing e (tasks_at e s.rest))
    led_to_rest ends =
        let failed : State = failing e.calls n above in
        let to_failed : LeadsTo failed = led_next before_tried failed led_to_tried (ends_tried outcome.Clash ends) tt in
        led_next failed (doing e (tasks_at e s.rest)) to_failed (λ what bound. (failures_make what program bound e.calls n cs).resume rest) tt

    module _ (single : (es : List Equation) → HasOneOutcome es) (last : ℕ) (after : List Change) where
      -- the engine with the heap undone
      abbrev undone_engine : code.Engine
      undone_engine = with_heap e (record { changes = e.heap.changes; last = last })

      kept_there : IsKept undone_engine
      kept_there = record { in_range = ready.kept.in_range; indexed = ready.kept.indexed; counted = ready.kept.counted; moments = ready.kept.moments }

      pub has_refuted : (u : code_unified.Unified) → HasUnified e.heap.changes x y u after → HasDone e from [] undone_engine (refuted_stage s u)
      has_refuted Same unified =
          let solved = solved_have single (equation (value_of e.heap.changes x) (value_of e.heap.changes y)) unified.0 unified.1.solves in
          let led : LeadsTo (failing e.calls n cs) = led_to_failure solved.0 solved.1 in
          record { program = refl; moves = led.moves; whole = record { kept = kept_there; own = led.own; in_hand = tt } }
      has_refuted Clash unified =
          let led : LeadsTo (doing e (tasks_at e s.rest)) = led_to_rest unified in
          record { program = refl; moves = led.moves; whole = record { kept = kept_there; own = led.own; in_hand = ready.there } }
      has_refuted Cyclic unified = record {
        program = refl;
        moves = led_on before_tried (Over (ending.Cyclic s.place)) led_to_tried (ends_tried outcome.Cyclic unified);
        whole = tt;
      }

-- behind the loading of arguments

module _ (tells : LeanerTellsTheSame) (found : LeanerStatesAreFound) where
  before_told : (what : Tests) (program : Program) (bound : ℕ) → IsProgram program → (s s' : State) (events : List Event) (p : Option Phase) → IsLeaner program s s' → IsUntestedMove what program bound s' events p → IsUntestedMove what program bound s events p
  before_told what prog bound ok s s' events None same move = move
  before_told what prog bound ok s s' events (Some p) same move = (leaners_move tells found what prog bound ok).before s s' (record { events = events; tests = 0; phase = p }) same move

  pub has_loaded : (old : code.Engine) (from : State) (b : Builtin) (args : Row) (s : Setting) (mid new : code.Engine) (events : List Event) (to : code_stage.Stage) → HasArguments old from b args s mid → HasDone mid (builtin_state mid b args s) events new to → HasDone old from events new to
  has_loaded old from b args s mid new events to has done =
      let ok : IsProgram old.program.now = subst IsProgram has.program has.ready.kept.in_range in
      record {
        program = done.program ∙ has.program;
        moves = λ what bound. before_told what old.program.now bound ok from (builtin_state mid b args s) events (phase_of new to) has.same
            (subst (λ p. IsUntestedMove what p bound (builtin_state mid b args s) events (phase_of new to)) has.program (done.moves what bound));
        whole = done.whole;
      }

-- a number that was put into a cell

number_there : (old later : History) (base y : ℕ) (n : ℤ) → HasLoaded old base (term.Int n ∷ []) y later → value_of later.changes y ≡ term.Int n
number_there old later base y n loaded =
    ap (λ xs. slice_index_or xs 0 (term.Int n)) loaded.are_terms ∙ fold-Int Term (instance_step (from_base (value_of old.changes) base)) n

module _ (single : (es : List Equation) → HasOneOutcome es) (tells : LeanerTellsTheSame) (found : LeanerStatesAreFound) where
  has_number : (e : code.Engine) (b : Builtin) (args : Row) (s : Setting) (x y base : ℕ) (n : ℤ) (u : code_unified.Unified) (mid heap : History) → IsReady e b args s → effect_at e b args ≡ Equates (value_of e.heap.changes x) (term.Int n) → x < size_of e.heap.changes →
      HasLoaded e.heap base (term.Int n ∷ []) y mid → AreUnified (with_heap e mid) x y u heap → HasDone e (builtin_state e b args s) [] (with_heap e heap) (equated_stage s u)
  has_number e b args s x y base n u mid heap ready is lt loaded pair =
      let serial : ℕ = next_serial e.heap.last in
      let is_new : mid.changes ≡ Grows loaded.cells serial ∷ e.heap.changes = ap (λ h. h.changes) loaded.is_new in
      let has : HasArguments e (builtin_state e b args s) b args s (with_heap e mid) = grown_ready found e mid b args s loaded.cells serial ready is_new pair.made in
      let left : value_of mid.changes x ≡ value_of e.heap.changes x = same_values found e ready.kept mid loaded.cells serial is_new pair.made x lt in
      let right : value_of mid.changes y ≡ term.Int n = number_there e.heap mid base y n loaded in
      let terms : terms_at e args ≡ terms_at (with_heap e mid) args = same_terms found e ready.kept mid loaded.cells serial is_new pair.made args ready.within in
      let effect_there : effect_at (with_heap e mid) b args ≡ Equates (value_of mid.changes x) (value_of mid.changes y) =
      sym (ap (effect_of e.program.now b) terms) ∙ is ∙ (λ i. Equates (sym left i) (sym right i)) in
      has_loaded tells found e (builtin_state e b args s) b args s (with_heap e mid) (with_heap e heap) [] (equated_stage s u) has
      (has_equated found (with_heap e mid) b args s has.ready x y effect_there single tells heap u pair)

  pub builtins_move : BuiltinsMove
  builtins_move = record {
    effects = λ e b args enough. effect_is e.program.now (value_of e.heap.changes) args.first b args.count enough;
    succeeds = λ e b args s ready is. has_succeeded found e b args s ready is;
    fails = λ e b args s ready is. has_failed found e b args s ready is;
    faults = λ e b args s kind ready is. has_faulted found e b args s ready kind is;
    writes = λ e b args s bytes ready is. has_written found e b args s ready bytes is;
    equates = λ e b args s x y u heap ready is pair. has_equated found e b args s ready x y is single tells heap u pair;
    equates_number = has_number;
    refutes = λ e b args s x y u tried heap ready is unified same.
        subst (λ changes. HasDone e (builtin_state e b args s) [] (with_heap e (record { changes = changes; last = heap.last })) (refuted_stage s u)) (sym same)
        (has_refuted found e b args s ready x y is single heap.last tried.changes u unified);
    loaded = λ old from b args s mid new events to has done. has_loaded tells found old from b args s mid new events to has done;
  }
