-- A run has one outcome.
use Rattle.std.proofs.Common.{◌≡◌, ℕ, zero, suc, List, ◌++◌, refl, ap, sym, ◌∙◌, append_assoc}
use Rattle.prog_data.specs.declared.programs.Program.{Program}
use Rattle.prog_data.specs.declared.events.Event.{Event}
use Rattle.prog_data.specs.declared.events.Ending.{Ending}
use Rattle.machine_model.specs.State.{Phase, Going, Over}
use Rattle.machine_model.specs.Tests.{Tests}
use Rattle.machine_model.specs.Step.{step, quietly}
use Rattle.machine_model.specs.Run.{steps, then_trace}
use Rattle.machine_model.specs.Laws.{OneRun}

module _ (what : Tests) (program : Program) (bound : ℕ) where
  -- a run that is over stays so
  pub over_stays : (k : ℕ) (e : Ending) → steps what program bound k (Over e) ≡ quietly (Over e)
  over_stays zero e = refl
  over_stays (suc k) e = refl

  -- two counts at which the run is over give one trace
  pub one_end : (j k : ℕ) (p : Phase) (e e' : Ending) → (steps what program bound j p).phase ≡ Over e → (steps what program bound k p).phase ≡ Over e' → steps what program bound j p ≡ steps what program bound k p
  one_end j k (Over e0) e e' x y = over_stays j e0 ∙ sym (over_stays k e0)
  one_end zero k (Going s) e e' x y = cc
  one_end (suc j) zero (Going s) e e' x y = cc
  one_end (suc j) (suc k) (Going s) e e' x y = ap (then_trace (step what program bound s)) (one_end j k (step what program bound s).phase e e' x y)

  -- the events of some steps begin those of the run when it is over
  pub begins_run : (j k : ℕ) (p : Phase) (e : Ending) → (steps what program bound k p).phase ≡ Over e → (rest : List Event) × ((steps what program bound j p).events ++ rest ≡ (steps what program bound k p).events)
  begins_run zero k p e x = ((steps what program bound k p).events, refl)
  begins_run (suc j) k (Over e0) e x = ((steps what program bound k (Over e0)).events, refl)
  begins_run (suc j) zero (Going s) e x = cc
  begins_run (suc j) (suc k) (Going s) e x =
      let t = step what program bound s in
      let more = begins_run j k t.phase e x in
      (more.0, append_assoc t.events _ more.0 ∙ ap (λ es. t.events ++ es) more.1)

  phase_inside : (e e' : Ending) → Over e ≡ Over e' → e ≡ e'
  phase_inside e e' x = cc

  pub one_run : OneRun what program bound
  one_run s es es' n n' e e' a b =
      let same : record { events = es; tests = n; phase = Over e } ≡ record { events = es'; tests = n'; phase = Over e' } = sym a.trace ∙ one_end a.count b.count (Going s) e e' (ap (λ t. t.phase) a.trace) (ap (λ t. t.phase) b.trace) ∙ b.trace in
      (ap (λ t. t.events) same, ap (λ t. t.tests) same, phase_inside e e' (ap (λ t. t.phase) same))
