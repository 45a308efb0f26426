-- Moves are made of steps, one after the other, and of states that tell the same.
use Rattle.std.proofs.Common.{◌≡◌, ◌≤◌, ◌<◌, ℕ, zero, suc, ◌+◌, List, [], ◌∷◌, ◌++◌, refl, sym, ap, ◌∙◌, subst, arith}
use Rattle.std.proofs.lemmas.List.{append-nil}
use Rattle.prog_data.specs.declared.programs.Program.{Program}
use Rattle.prog_data.specs.declared.events.Event.{Event}
use Rattle.prog_data.specs.declared.events.Ending.{Ending}
use Rattle.machine_model.specs.State.{State, Phase, Going, Over, Trace}
use Rattle.machine_model.specs.Tests.{Tests}
use Rattle.machine_model.specs.Step.{step, quietly}
use Rattle.machine_model.specs.Run.{steps, then_trace, RunsFrom}
use Rattle.machine_model.specs.Continues.{Left, at_phase, left_after, ContinuesAfter, Continues, Leads}
use Rattle.machine_model.specs.Leaner.{IsLeaner}
use Rattle.machine_model.specs.LeanerLaws.{IsDone, LeanerStates, TellTheSame}
use Rattle.machine_model.proofs.Continuing.{then_leads, step_leads}
use Rattle.engine_state.specs.Fewest.{IsOverAfter}
use Rattle.engine_state.specs.Moves.{Makes, Moves, MovesCompose}

going_over : (s : State) (e : Ending) → Going s ≡ Over e → ⊥
going_over s e x = cc

none_more : (n : ℕ) → n ≡ 0 + n
none_more n = omega arith

-- a trace, and nothing more
pub quiet_after : (t : Trace) → then_trace t (quietly t.phase) ≡ t
quiet_after t =
    let none : t.tests + 0 ≡ t.tests = omega arith in
    λ i. record { events = append-nil t.events i; tests = none i; phase = t.phase }

-- two quiet traces
pub quiet_twice : (p q : Phase) → then_trace (quietly p) (quietly q) ≡ quietly q
quiet_twice p q = sym (λ i. record { events = []; tests = none_more 0 i; phase = q })

module _ (what : Tests) (program : Program) (bound : ℕ) where
  abbrev OverAfter : ℕ → Phase → Type 0
  OverAfter = IsOverAfter what program bound

  -- events that are still to be told stand before what comes
  module _ (p q : Phase) (more : List Event) (made : ℕ) (a : Leads what program bound (at_phase p) [] made (record { untold = more; phase = q })) where
    forth_before : (es : List Event) (rest : List Event) (tests : ℕ) (e : Ending) → ContinuesAfter what program bound (es ++ more) q rest tests e → ContinuesAfter what program bound es p rest (made + tests) e
    forth_before [] rest tests e h = a.forth rest tests e h
    forth_before (x ∷ es) rest tests e h = (h.0, h.1, forth_before es h.0 tests e h.2)

    back_before : (es : List Event) (all : List Event) (tests : ℕ) (e : Ending) → ContinuesAfter what program bound es p all tests e →
        (rest : List Event) × (n : ℕ) × (all ≡ rest) × (tests ≡ made + n) × ContinuesAfter what program bound (es ++ more) q rest n e
    back_before [] all tests e h = a.back all tests e h
    back_before (x ∷ es) all tests e h =
        let b = back_before es h.0 tests e h.2 in
        (x ∷ b.0, b.1, h.1 ∙ ap (λ xs. x ∷ xs) b.2, b.3, (b.0, refl, b.4))

    told_before : (es : List Event) → Leads what program bound (record { untold = es; phase = p }) [] made (record { untold = es ++ more; phase = q })
    told_before es = record { forth = forth_before es; back = back_before es }

  -- two moves in a row
  pub onward : (p : Phase) (t u : Trace) → Moves what program bound p t → Moves what program bound t.phase u → Moves what program bound p (then_trace t u)
  onward p t u a b = record {
    leads = then_leads what program bound (at_phase p) (left_after t) (left_after (then_trace t u)) [] [] t.tests u.tests a.leads (told_before t.phase u.phase u.events u.tests b.leads t.events);
    fewer = λ k over.
        let x = a.fewer k over in
        let y = b.fewer x.0 x.2 in
        let one = x.1 in
        let two = y.1 in
        (y.0, omega (arith, one, two), y.2);
  }

  -- steps

  first_move : (s : State) → Moves what program bound (Going s) (step what program bound s)
  first_move s = record { leads = step_leads what program bound s; fewer = fewer } where
    fewer : (k : ℕ) → OverAfter k (Going s) → (j : ℕ) × (j < k) × OverAfter j (step what program bound s).phase
    fewer zero over = absurd (going_over s over.0 over.1)
    fewer (suc k) over = (k, omega arith, over)

  then_steps : (k : ℕ) (p q : Phase) (events : List Event) (tests : ℕ) → Moves what program bound p (record { events = events; tests = tests; phase = q }) →
      Moves what program bound p (then_trace (record { events = events; tests = tests; phase = q }) (steps what program bound k q))
  then_steps zero p q events tests m = subst (Moves what program bound p) (sym (quiet_after (record { events = events; tests = tests; phase = q }))) m
  then_steps (suc k) p (Over e) events tests m = subst (Moves what program bound p) (sym (quiet_after (record { events = events; tests = tests; phase = Over e }))) m
  then_steps (suc k) p (Going s) events tests m =
      let t = step what program bound s in
      onward p (record { events = events; tests = tests; phase = Going s }) (steps what program bound (suc k) (Going s)) m (then_steps k (Going s) t.phase t.events t.tests (first_move s))

  pub made_moves : (s : State) (t : Trace) → Makes what program bound s t → Moves what program bound (Going s) t
  made_moves s t makes =
      let first = step what program bound s in
      subst (Moves what program bound (Going s)) makes.trace (then_steps makes.more (Going s) first.phase first.events first.tests (first_move s))

  pub one_step : (s : State) (t : Trace) → step what program bound s ≡ t → Makes what program bound s t
  one_step s t is = record { more = 0; trace = quiet_after (step what program bound s) ∙ is }

  -- a quiet step, and then steps that are quiet together
  pub quiet_step : (s s' : State) (p : Phase) → step what program bound s ≡ quietly (Going s') → Makes what program bound s' (quietly p) → Makes what program bound s (quietly p)
  quiet_step s s' p is makes = record {
    more = suc makes.more;
    trace = ap (λ t. then_trace t (steps what program bound (suc makes.more) t.phase)) is ∙ ap (then_trace (quietly (Going s'))) makes.trace ∙ quiet_twice (Going s') p;
  }

  -- states that tell the same

  same_leads : (s s' : State) → TellTheSame program s s' → Leads what program bound (at_phase (Going s)) [] 0 (at_phase (Going s'))
  same_leads s s' same = record {
    forth = λ rest tests e run. subst (λ n. RunsFrom what program bound s rest n e) (none_more tests) (same.forth what bound rest tests e run);
    back = λ all tests e run. (all, tests, refl, none_more tests, (same.back what bound all tests e run).0);
  }

  pub same_over : (s s' : State) → TellTheSame program s s' → (k : ℕ) → OverAfter k (Going s) → (j : ℕ) × (j ≤ k) × OverAfter j (Going s')
  same_over s s' same k over =
      let t = steps what program bound k (Going s) in
      let whole : RunsFrom what program bound s t.events t.tests over.0 = record { count = k; trace = λ i. record { events = t.events; tests = t.tests; phase = over.1 i } } in
      let run = same.back what bound t.events t.tests over.0 whole in
      (run.0.count, run.1, (over.0, ap (λ t. t.phase) run.0.trace))

  after_same : (p : Phase) (events : List Event) (tests : ℕ) (s s' : State) → Moves what program bound p (record { events = events; tests = tests; phase = Going s }) → TellTheSame program s s' →
      Moves what program bound p (record { events = events; tests = tests; phase = Going s' })
  after_same p events tests s s' m same =
      let none : tests + 0 ≡ tests = omega arith in
      let mid : Left = record { untold = events; phase = Going s } in
      let new : Left = record { untold = events; phase = Going s' } in
      let leads : Leads what program bound mid [] 0 new =
      subst (λ es. Leads what program bound mid [] 0 (record { untold = es; phase = Going s' })) (append-nil events) (told_before (Going s) (Going s') [] 0 (same_leads s s' same) events) in
      record {
        leads = subst (λ n. Leads what program bound (at_phase p) [] n new) none (then_leads what program bound (at_phase p) mid new [] [] tests 0 m.leads leads);
        fewer = λ k over.
            let x = m.fewer k over in
            let y = same_over s s' same x.0 x.2 in
            let one = x.1 in
            let two = y.1 in
            (y.0, omega (arith, one, two), y.2);
      }

  before_same : (s s' : State) (t : Trace) → TellTheSame program s s' → Moves what program bound (Going s') t → Moves what program bound (Going s) t
  before_same s s' t same m = record {
    leads = subst (λ n. Leads what program bound (at_phase (Going s)) [] n (left_after t)) (sym (none_more t.tests)) (then_leads what program bound (at_phase (Going s)) (at_phase (Going s')) (left_after t) [] [] 0 t.tests (same_leads s s' same) m.leads);
    fewer = λ k over.
        let y = same_over s s' same k over in
        let x = m.fewer y.0 y.2 in
        let one = x.1 in
        let two = y.1 in
        (x.0, omega (arith, one, two), x.2);
  }

  made_own : LeanerStates program → (s s' : State) (t : Trace) → IsLeaner program s s → Makes what program bound s t → t.phase ≡ Going s' → IsDone s'.current → IsLeaner program s' s'
  made_own states s s' t own makes is done = states.reached what bound s s' own (record { count = suc makes.more; phase = ap (λ t. t.phase) makes.trace ∙ is }) done

  pub moves_compose : MovesCompose what program bound
  moves_compose = record { one_step = one_step; made = made_moves; onward = onward; after = after_same; before = before_same; own = made_own }
