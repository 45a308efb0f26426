-- What is left of a run: one step on, and further.
use Rattle.std.proofs.Common.{◌≡◌, ℕ, zero, suc, ◌+◌, List, [], ◌∷◌, ◌++◌, refl, ap, sym, ◌∙◌, subst, append_assoc, arith}
use Rattle.prog_data.specs.declared.programs.Program.{Program}
use Rattle.prog_data.specs.declared.events.Event.{Event}
use Rattle.prog_data.specs.declared.events.Ending.{Ending}
use Rattle.machine_model.specs.State.{State, Phase, Going, Over, Trace}
use Rattle.machine_model.specs.Tests.{Tests}
use Rattle.machine_model.specs.Step.{step, quietly}
use Rattle.machine_model.specs.Run.{steps, then_trace, RunsFrom}
use Rattle.machine_model.specs.Continues.{Left, at_phase, left_after, ContinuesAfter, Continues, Leads}
use Rattle.machine_model.specs.Laws.{LeftLaws}
use Rattle.machine_model.proofs.OneRun.{over_stays, one_run}
use Rattle.machine_model.proofs.Ends.{ends}

none_more : (n : ℕ) → 0 + n ≡ n
none_more n = omega arith

plus_assoc : (a b c : ℕ) → (a + b) + c ≡ a + (b + c)
plus_assoc a b c = omega arith

module _ (what : Tests) (program : Program) (bound : ℕ) where
  -- nothing is done
  pub stay : (left : Left) → Leads what program bound left [] 0 left
  stay left = record { forth = λ rest tests e h. subst (λ n. Continues what program bound left rest n e) (sym (none_more tests)) h; back = λ all tests e h. (all, tests, refl, sym (none_more tests), h) }

  -- one after the other
  pub then_leads : (old mid new : Left) (events more : List Event) (made further : ℕ) → Leads what program bound old events made mid → Leads what program bound mid more further new → Leads what program bound old (events ++ more) (made + further) new
  then_leads old mid new events more made further a b = record { forth = forth; back = back }
    where
      forth : (rest : List Event) (tests : ℕ) (e : Ending) → Continues what program bound new rest tests e → Continues what program bound old ((events ++ more) ++ rest) (made + further + tests) e
      forth rest tests e h =
          subst (λ es. Continues what program bound old es (made + further + tests) e) (sym (append_assoc events more rest))
          (subst (λ n. Continues what program bound old (events ++ (more ++ rest)) n e) (sym (plus_assoc made further tests)) (a.forth (more ++ rest) (further + tests) e (b.forth rest tests e h)))

      back : (all : List Event) (tests : ℕ) (e : Ending) → Continues what program bound old all tests e → (rest : List Event) × (n : ℕ) × (all ≡ (events ++ more) ++ rest) × (tests ≡ made + further + n) × Continues what program bound new rest n e
      back all tests e h =
          let x = a.back all tests e h in
          let y = b.back x.0 x.1 e x.4 in
          (y.0, y.1, x.2 ∙ ap (λ es. events ++ es) y.2 ∙ sym (append_assoc events more y.0), x.3 ∙ ap (λ n. made + n) y.3 ∙ sym (plus_assoc made further y.1), y.4)

  -- an event that is still to be told
  pub tell : (event : Event) (untold : List Event) (p : Phase) → Leads what program bound (record { untold = event ∷ untold; phase = p }) (event ∷ []) 0 (record { untold = untold; phase = p })
  tell event untold p = record {
    forth = λ rest tests e h. (rest, refl, subst (λ n. ContinuesAfter what program bound untold p rest n e) (sym (none_more tests)) h);
    back = λ all tests e h. (h.0, tests, h.1, sym (none_more tests), h.2);
  }

  -- a step: what it tells is still to be told
  tell_all : (events : List Event) (p : Phase) (rest : List Event) (tests : ℕ) (e : Ending) → ContinuesAfter what program bound [] p rest tests e → ContinuesAfter what program bound events p (events ++ rest) tests e
  tell_all [] p rest tests e h = h
  tell_all (event ∷ events) p rest tests e h = (events ++ rest, refl, tell_all events p rest tests e h)

  told_all : (events : List Event) (p : Phase) (all : List Event) (tests : ℕ) (e : Ending) → ContinuesAfter what program bound events p all tests e → (rest : List Event) × (all ≡ events ++ rest) × ContinuesAfter what program bound [] p rest tests e
  told_all [] p all tests e h = (all, refl, h)
  told_all (event ∷ events) p all tests e h =
      let more = told_all events p h.0 tests e h.2 in
      (more.0, h.1 ∙ ap (λ es. event ∷ es) more.1, more.2)

  -- the steps from a phase on
  from_phase : (k : ℕ) (p : Phase) (events : List Event) (tests : ℕ) (e : Ending) → steps what program bound k p ≡ record { events = events; tests = tests; phase = Over e } → ContinuesAfter what program bound [] p events tests e
  from_phase k (Going s) events tests e is = record { count = k; trace = is }
  from_phase k (Over o) events tests e is =
      let same : quietly (Over o) ≡ record { events = events; tests = tests; phase = Over e } = sym (over_stays what program bound k o) ∙ is in
      (sym (ap (λ t. t.events) same), sym (ap (λ t. t.tests) same), sym (inside (ap (λ t. t.phase) same)))
    where
      inside : Over o ≡ Over e → o ≡ e
      inside e = cc

  -- and back
  to_steps : (p : Phase) (events : List Event) (tests : ℕ) (e : Ending) → ContinuesAfter what program bound [] p events tests e → (k : ℕ) × (steps what program bound k p ≡ record { events = events; tests = tests; phase = Over e })
  to_steps (Going s) events tests e h = (h.count, h.trace)
  to_steps (Over o) events tests e h = (0, λ i. record { events = sym h.0 i; tests = sym h.1 i; phase = Over (sym h.2 i) })

  pub step_leads : (s : State) → Leads what program bound (at_phase (Going s)) [] (step what program bound s).tests (left_after (step what program bound s))
  step_leads s = record { forth = forth; back = back }
    where
      t : Trace
      t = step what program bound s

      forth : (rest : List Event) (tests : ℕ) (e : Ending) → Continues what program bound (left_after t) rest tests e → RunsFrom what program bound s rest (t.tests + tests) e
      forth rest tests e h =
          let told = told_all t.events t.phase rest tests e h in
          let k = to_steps t.phase told.0 tests e told.2 in
          record { count = suc k.0; trace = ap (then_trace t) k.1 ∙ λ i. record { events = sym told.1 i; tests = t.tests + tests; phase = Over e } }

      back : (all : List Event) (tests : ℕ) (e : Ending) → RunsFrom what program bound s all tests e → (rest : List Event) × (n : ℕ) × (all ≡ rest) × (tests ≡ t.tests + n) × Continues what program bound (left_after t) rest n e
      back all tests e h = by_count h.count h.trace
        where
          by_count : (k : ℕ) → steps what program bound k (Going s) ≡ record { events = all; tests = tests; phase = Over e } → (rest : List Event) × (n : ℕ) × (all ≡ rest) × (tests ≡ t.tests + n) × Continues what program bound (left_after t) rest n e
          by_count zero is = absurd (apart (ap (λ t. t.phase) is))
            where
              apart : Going s ≡ Over e → ⊥
              apart e = cc
          by_count (suc k) is =
              let u : Trace = steps what program bound k t.phase in
              let rest = from_phase k t.phase u.events u.tests e (λ i. record { events = u.events; tests = u.tests; phase = ap (λ t. t.phase) is i }) in
              (t.events ++ u.events, u.tests, sym (ap (λ t. t.events) is), sym (ap (λ t. t.tests) is), tell_all t.events t.phase u.events u.tests e rest)

  -- what is left is of one kind: some events, number of tests and ending come
  pub all_left : (left : Left) → (events : List Event) × (tests : ℕ) × (e : Ending) × Continues what program bound left events tests e
  all_left left = found left.untold left.phase
    where
      found : (untold : List Event) (p : Phase) → (events : List Event) × (tests : ℕ) × (e : Ending) × ContinuesAfter what program bound untold p events tests e
      found [] (Going s) = ends what program bound s
      found [] (Over e) = ([], 0, e, (refl, refl, refl))
      found (event ∷ untold) p = let more = found untold p in (event ∷ more.0, more.1, more.2, (more.0, refl, more.3))

  -- and only these
  pub one_left : (left : Left) (events events' : List Event) (n n' : ℕ) (e e' : Ending) → Continues what program bound left events n e → Continues what program bound left events' n' e' → (events ≡ events') × (n ≡ n') × (e ≡ e')
  one_left left events events' n n' e e' a b = same left.untold left.phase events events' n n' e e' a b
    where
      same : (untold : List Event) (p : Phase) (events events' : List Event) (n n' : ℕ) (e e' : Ending) → ContinuesAfter what program bound untold p events n e → ContinuesAfter what program bound untold p events' n' e' → (events ≡ events') × (n ≡ n') × (e ≡ e')
      same [] (Going s) events events' n n' e e' a b = one_run what program bound s events events' n n' e e' a b
      same [] (Over o) events events' n n' e e' a b = (a.0 ∙ sym b.0, a.1 ∙ sym b.1, a.2 ∙ sym b.2)
      same (event ∷ untold) p events events' n n' e e' a b =
          let more = same untold p a.0 b.0 n n' e e' a.2 b.2 in
          (a.1 ∙ ap (λ es. event ∷ es) more.0 ∙ sym b.1, more.1, more.2)

  pub left_laws : LeftLaws what program bound
  left_laws = record { steps = step_leads; tells = tell; goes_on = then_leads; all = all_left; one = one_left }
