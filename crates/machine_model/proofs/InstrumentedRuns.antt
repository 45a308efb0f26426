-- Where the statuses are sound, the instrumented program's run by its checks is the program's.
use Rattle.prog_data.specs.Goals.{called_by, calls_pred, is_called}
use Rattle.std.specs.Prelude.{find, Option, None, Some, slice_get, option_map}
use Rattle.std.specs.Option.{option_map_or}
use Rattle.std.proofs.lemmas.Option.{slice_get-map}
use Rattle.prog_data.specs.declared.programs.Pred.{Pred}
use Rattle.std.proofs.Common.{◌≡◌, ℕ, zero, suc, true, false, List, ◌++◌, refl, ap, sym, ◌∙◌, subst}
use Rattle.term_core.specs.declared.terms.Term.{Term, out-Term}
use Rattle.prog_data.specs.declared.programs.Program.{Program}
use Rattle.prog_data.specs.declared.events.Event.{Event}
use Rattle.prog_data.specs.declared.events.Ending.{Ending}
use Rattle.machine_model.specs.State.{State, Phase, Going, Over, Trace}
use Rattle.machine_model.specs.Tests.{every_condition, only_kept, kept_checks}
use Rattle.machine_model.specs.Step.{step}
use Rattle.machine_model.specs.Run.{steps, then_trace, start_of, Run, RunsBy}
use Rattle.machine_model.specs.Laws.{Simulates}
use Rattle.machine_model.specs.Instrumented.{instrumented, instrumented_pred, is_kept}
use Rattle.machine_model.proofs.SoundRuns.{suffices}
use Rattle.machine_model.proofs.BothWays.{back}
use Rattle.prog_data.specs.declared.tables.Status.{Status}
use Rattle.prog_data.specs.Programs.{HasNoExit}
use Rattle.machine_model.proofs.InstrumentedSteps.{Phases, on, over, Follows, moves, stays, step_follows, States, states, frames, doing, same}
use Rattle.machine_model.proofs.InstrumentedSteps as rel

module _ (program : Program) (statuses : List Status) (linked : HasNoExit program) (bound : ℕ) where
  abbrev pub those : ℕ → Phase → Trace
  those = steps (only_kept (is_kept statuses) (every_condition program)) program bound

  abbrev pub these : ℕ → Phase → Trace
  these = steps (kept_checks (instrumented program statuses)) (instrumented program statuses) bound

  -- some number of steps of the run by checks has the events of k steps of the other
  abbrev pub Matched : ℕ → Phase → Phase → Type 0
  Matched k p p' = (j : ℕ) × ((these j p').events ≡ (those k p).events) × Phases program statuses (those k p).phase (these j p').phase

  after_step : (k : ℕ) (s' : State) (t : Trace) → ((p p' : Phase) → Phases program statuses p p' → Matched k p p') → Follows program statuses t s' (step (kept_checks (instrumented program statuses)) (instrumented program statuses) bound s') →
      (j : ℕ) × ((these j (Going s')).events ≡ (then_trace t (those k t.phase)).events) × Phases program statuses (then_trace t (those k t.phase)).phase (these j (Going s')).phase
  after_step k s' t ih (moves h) =
      let next = (step (kept_checks (instrumented program statuses)) (instrumented program statuses) bound s').phase in
      let m = ih t.phase next h.phases in
      (suc m.0, ap (λ es. es ++ (these m.0 next).events) (sym h.events) ∙ ap (λ es. t.events ++ es) m.1, m.2)
  after_step k s' t ih (stays s e p r) =
      let m = ih (Going s) (Going s') (on r) in
      (m.0, m.1 ∙ ap (λ q. (those k q).events) (sym p) ∙ ap (λ es. es ++ (those k t.phase).events) (sym e), subst (λ q. Phases program statuses (those k q).phase (these m.0 (Going s')).phase) (sym p) m.2)

  pub run_follows : (k : ℕ) (p p' : Phase) → Phases program statuses p p' → Matched k p p'
  run_follows zero p p' h = (0, refl, h)
  run_follows (suc k) p p' (over {e = e}) = (0, refl, over)
  run_follows (suc k) p p' (on {s} {s'} r) = after_step k s' (step (only_kept (is_kept statuses) (every_condition program)) program bound s) (run_follows k) (step_follows true program statuses linked bound s s' r)

  start_states : (p : ℕ) (query : Term) → States program statuses (start_of p query) (start_of p query)
  start_states p query = states rel.none (doing (frames (same rel.none)))

  -- an instrumented predicate is called where the predicate is
  still_called : (query : Term) (found : Option Pred) → option_map_or (λ pred. calls_pred pred (out-Term query)) (option_map (instrumented_pred program statuses) found) false ≡ option_map_or (λ pred. calls_pred pred (out-Term query)) found false
  still_called query None = refl
  still_called query (Some pred) = refl

  same_call : (query : Term) (p : ℕ) → is_called (instrumented program statuses) query p ≡ is_called program query p
  same_call query p = ap (λ found. option_map_or (λ pred. calls_pred pred (out-Term query)) found false) (slice_get-map (instrumented_pred program statuses) program.preds p) ∙ still_called query (slice_get program.preds p)

  called_same : (query : Term) → called_by (instrumented program statuses) query ≡ called_by program query
  called_same query = λ i. find (λ p. same_call query p i) program.exports

  same_end : (e : Ending) (p' : Phase) → Phases program statuses (Over e) p' → p' ≡ Over e
  same_end e p' over = refl

pub simulates : (program : Program) (statuses : List Status) → Simulates program statuses
simulates program statuses linked sound query bound p es e calls meets = (there es e, back (kept_checks (instrumented program statuses)) program (instrumented program statuses) query bound p es e calls there)
  where
    there : (es : List Event) (e : Ending) → Run program query bound es e → (tests : ℕ) × RunsBy (kept_checks (instrumented program statuses)) (instrumented program statuses) query bound es tests e
    there es e run =
        let kept = (suffices program statuses sound query bound p es e calls meets).0 run in
        let r = kept.1.runs in
        let s = start_of kept.1.pred query in
        let m = run_follows program statuses linked bound r.count (Going s) (Going s) (on (start_states program statuses linked bound kept.1.pred query)) in
        let here = m.1 ∙ ap (λ t. t.events) r.trace in
        let done = subst (λ q. Phases program statuses q (these program statuses linked bound m.0 (Going s)).phase) (ap (λ t. t.phase) r.trace) m.2 in
        let tests = (these program statuses linked bound m.0 (Going s)).tests in
        (tests, record { pred = kept.1.pred; calls = called_same program statuses linked bound query ∙ kept.1.calls; runs = record { count = m.0; trace = joined (these program statuses linked bound m.0 (Going s)) es e here (same_end program statuses linked bound e _ done) } })
      where
        joined : (t : Trace) (es : List Event) (e : Ending) → t.events ≡ es → t.phase ≡ Over e → t ≡ record { events = es; tests = t.tests; phase = Over e }
        joined t es e a b = λ i. record { events = a i; tests = t.tests; phase = b i }
