-- A state and a leaner one tell the same.
use Rattle.std.proofs.Common.{◌≡◌, ◌≤◌, ℕ, zero, suc, ◌+◌, List, ◌++◌, refl, ap, sym, ◌∙◌, subst, arith}
use Rattle.prog_data.specs.declared.programs.Program.{Program}
use Rattle.prog_data.specs.declared.events.Event.{Event}
use Rattle.prog_data.specs.declared.events.Ending.{Ending}
use Rattle.machine_model.specs.State.{Current, State, Phase, Going, Over, Trace}
use Rattle.machine_model.specs.Tests.{Tests}
use Rattle.machine_model.specs.Step.{step}
use Rattle.machine_model.specs.Run.{steps, then_trace, RunsFrom}
use Rattle.machine_model.proofs.OneRun.{one_run}
use Rattle.machine_model.proofs.Ends.{ends}
use Rattle.machine_model.specs.Leaner.{Kind, CurrentsAgree, IsLeaner, leaner}
use Rattle.machine_model.specs.Leaner as rel
use Rattle.machine_model.specs.LeanerLaws.{TellTheSame, LeanerTellsTheSame}
use Rattle.machine_model.proofs.LeanerClauses.{AreClosed, clauses_closed}
use Rattle.machine_model.proofs.LeanerSteps.{Currents, doing, failed, States, states, Phases, on, over, Follows, moves, stays, step_follows}

module _ (what : Tests) (program : Program) (closed : AreClosed program) (bound : ℕ) where
  abbrev run : ℕ → Phase → Trace
  run = steps what program bound

  abbrev one : State → Trace
  one = step what program bound

  -- as many steps or fewer from the leaner phase tell what k steps tell
  record Matched (k : ℕ) (t : Trace) (p' : Phase) : Type 0 where
    count : ℕ
    most : count ≤ k
    events : (run count p').events ≡ t.events
    tests : (run count p').tests ≡ t.tests
    phases : Phases program t.phase (run count p').phase

  after_step : (k : ℕ) (s s' : State) (t : Trace) → ((p p' : Phase) → Phases program p p' → Matched k (run k p) p') → Follows program s t s' (one s') → Matched (suc k) (then_trace t (run k t.phase)) (Going s')
  after_step k s s' t next (moves h) =
      let m = next t.phase (one s').phase h.phases in
      let le = m.most in
      record {
        count = suc m.count;
        most = omega (arith, le);
        events = λ i. sym h.events i ++ m.events i;
        tests = λ i. sym h.tests i + m.tests i;
        phases = m.phases;
      }
  after_step k old s' t next (stays s e n p are lighter) =
      let m = next (Going s) (Going s') (on are) in
      let le = m.most in
      let rest : (run m.count (Going s')).tests ≡ (run k t.phase).tests = m.tests ∙ ap (λ q. (run k q).tests) (sym p) in
      record {
        count = m.count;
        most = omega (arith, le);
        events = m.events ∙ ap (λ q. (run k q).events) (sym p) ∙ ap (λ es. es ++ (run k t.phase).events) (sym e);
        tests = omega (arith, rest, n);
        phases = subst (λ q. Phases program (run k q).phase (run m.count (Going s')).phase) (sym p) m.phases;
      }

  run_follows : (k : ℕ) (p p' : Phase) → Phases program p p' → Matched k (run k p) p'
  run_follows zero p p' h = record { count = 0; most = omega arith; events = refl; tests = refl; phases = h }
  run_follows (suc k) p p' (over {e = e}) = record { count = 0; most = omega arith; events = refl; tests = refl; phases = over }
  run_follows (suc k) p p' (on {s} {s'} are) = after_step k s s' (one s) (run_follows k) (step_follows what program closed bound s s' are)

  over_alike : (e : Ending) (p' : Phase) → Phases program (Over e) p' → p' ≡ Over e
  over_alike e p' over = refl

  joined : (t : Trace) (es : List Event) (n : ℕ) (e : Ending) → t.events ≡ es → t.tests ≡ n → t.phase ≡ Over e → t ≡ record { events = es; tests = n; phase = Over e }
  joined t es n e a b c = λ i. record { events = a i; tests = b i; phase = c i }

  -- the leaner state's run has no more steps
  pub run_back : (s s' : State) → States program s s' → (es : List Event) (n : ℕ) (e : Ending) (whole : RunsFrom what program bound s es n e) → (fewer : RunsFrom what program bound s' es n e) × (fewer.count ≤ whole.count)
  run_back s s' are es n e whole =
      let m = run_follows whole.count (Going s) (Going s') (on are) in
      let t = whole.trace in
      let end = over_alike e _ (subst (λ q. Phases program q (run m.count (Going s')).phase) (ap (λ t. t.phase) t) m.phases) in
      (record { count = m.count; trace = joined (run m.count (Going s')) es n e (m.events ∙ ap (λ t. t.events) t) (m.tests ∙ ap (λ t. t.tests) t) end }, m.most)

  -- the other way round, since each run ends and has one outcome
  pub run_forth : (s s' : State) → States program s s' → (es : List Event) (n : ℕ) (e : Ending) → RunsFrom what program bound s' es n e → RunsFrom what program bound s es n e
  run_forth s s' are es n e fewer =
      let found = ends what program bound s in
      let there = run_back s s' are found.0 found.1 found.2 found.3 in
      let same = one_run what program bound s' found.0 es found.1 n found.2 e there.0 fewer in
      subst (λ xs. RunsFrom what program bound s xs n e) same.0 (subst (λ k. RunsFrom what program bound s found.0 k e) same.1 (subst (λ x. RunsFrom what program bound s found.0 found.1 x) same.2 found.3))

-- frames or none
current_of : {ks : List Kind} {n n' : ℕ} {c c' : Current} → CurrentsAgree ks n n' c c' → Currents ks n n' c c'
current_of (rel.doing f) = doing f
current_of rel.failed = failed

state_of : (program : Program) (s s' : State) → IsLeaner program s s' → States program s s'
state_of program s s' (leaner ch are) = states ch (current_of are)

pub leaner_tells : LeanerTellsTheSame
leaner_tells program is s s' are = record {
  forth = λ what bound es n e. run_forth what program (clauses_closed program is) bound s s' (state_of program s s' are) es n e;
  back = λ what bound es n e. run_back what program (clauses_closed program is) bound s s' (state_of program s s' are) es n e;
}

-- one state after the other
pub tells_then : (program : Program) (s s' s'' : State) → TellTheSame program s s' → TellTheSame program s' s'' → TellTheSame program s s''
tells_then program s s' s'' a b = record {
  forth = λ what bound es n e run. a.forth what bound es n e (b.forth what bound es n e run);
  back = λ what bound es n e run.
      let first = a.back what bound es n e run in
      let second = b.back what bound es n e first.0 in
      let less = first.1 in
      let more = second.1 in
      (second.0, omega (arith, less, more));
}
