-- With sound statuses no run is ended by a condition that is checked.
use Rattle.std.proofs.Common.{◌≡◌, ℕ, zero, suc, true, false, List, refl, ap, sym, ◌∙◌, subst, true≢false}
use Rattle.std.specs.Prelude.{Option, None, Some, not, slice_get}
use Rattle.term_core.specs.declared.terms.Term.{Term, out-Term}
use Rattle.term_core.specs.Shapes.{parts_of}
use Rattle.prog_data.specs.declared.events.Event.{Event}
use Rattle.prog_data.specs.declared.events.Ending.{Ending}
use Rattle.prog_data.specs.declared.events.Ending.TheVariants as ending
use Rattle.prog_data.specs.declared.programs.Program.{Program}
use Rattle.prog_data.specs.declared.tables.Status.{Status}
use Rattle.prog_data.specs.declared.tables.Status.TheVariants as status
use Rattle.prog_data.specs.Goals.{called_by, meets_entry}
use Rattle.machine_model.specs.State.{State, Phase, Going, Over}
use Rattle.machine_model.specs.Tests.{Tests, every_condition, only_kept}
use Rattle.machine_model.specs.Step.{step}
use Rattle.machine_model.specs.Run.{steps, Reaches, start_of, Run, KeptRun}
use Rattle.machine_model.specs.Points.{Sound, Tells}
use Rattle.machine_model.specs.Instrumented.{is_checked, is_kept}
use Rattle.machine_model.specs.Laws.{BreaksOther, Suffices}
use Rattle.machine_model.proofs.BrokenDue.{step_broken}
use Rattle.machine_model.proofs.DropRuns.{drops}
use Rattle.machine_model.proofs.BothWays.{back, unbroken}

module _ (what : Tests) (program : Program) (bound : ℕ) where
  -- the state in which a run is before it is over
  abbrev pub Last : State → Ending → Type 0
  Last s e = (s' : State) × Reaches what program bound s s' × ((step what program bound s').phase ≡ Over e)

  over_ends : (k : ℕ) (e e' : Ending) → (steps what program bound k (Over e)).phase ≡ Over e' → Over e ≡ Over e'
  over_ends zero e e' h = h
  over_ends (suc k) e e' h = h

  pub last_state : (k : ℕ) (s : State) (e : Ending) → (steps what program bound k (Going s)).phase ≡ Over e → Last s e
  last_state zero s e h = cc
  last_state (suc k) s e h = by_phase (step what program bound s).phase refl h (last_state k)
    where
      by_phase : (p : Phase) → (step what program bound s).phase ≡ p → (steps what program bound k (step what program bound s).phase).phase ≡ Over e →
          ((u : State) (e : Ending) → (steps what program bound k (Going u)).phase ≡ Over e → (s' : State) × Reaches what program bound u s' × ((step what program bound s').phase ≡ Over e)) → (s' : State) × Reaches what program bound s s' × ((step what program bound s').phase ≡ Over e)
      by_phase (Over e0) is h ih = (s, record { count = 0; phase = refl }, is ∙ over_ends k e0 e (sym (ap (λ q. (steps what program bound k q).phase) is) ∙ h))
      by_phase (Going u) is h ih =
          let m = ih u e (sym (ap (λ q. (steps what program bound k q).phase) is) ∙ h) in
          (m.0, record { count = suc m.1.count; phase = ap (λ q. (steps what program bound m.1.count q).phase) is ∙ m.1.phase }, m.2)

checked_tells : (st : Option Status) → not (is_checked st) ≡ false → Tells st false → ⊥
checked_tells (Some status.Checked) e tells = true≢false (sym tells)
checked_tells (Some status.Check) e tells = true≢false e
checked_tells (Some status.False) e tells = true≢false e
checked_tells None e tells = true≢false e

-- no run of a query that meets an entry breaks a condition that is checked
pub none_broken : (program : Program) (statuses : List Status) → Sound program statuses → (query : Term) (bound p : ℕ) (es : List Event) (e : Ending) →
    called_by program query ≡ Some p → meets_entry program p (parts_of (out-Term query)) ≡ true → Run program query bound es e → BreaksOther (is_kept statuses) e → ⊥
none_broken program statuses sound query bound p es (ending.Violated c) calls meets run no_keep =
    let same : run.1.pred ≡ p = some_same (sym run.1.calls ∙ calls) in
    let l = last_state (every_condition program) program bound run.1.runs.count (start_of run.1.pred query) (ending.Violated c) (ap (λ t. t.phase) run.1.runs.trace) in
    checked_tells (slice_get statuses c) no_keep (sound c false (record {
      bound = bound;
      state = l.0;
      reached = record { query = query; pred = p; calls = calls; meets = meets; reaches = subst (λ q. Reaches (every_condition program) program bound (start_of q query) l.0) same l.1 };
      due = step_broken program bound c l.0 l.2;
    }))
  where
    some_same : {a b : ℕ} → Some a ≡ Some b → a ≡ b
    some_same e = cc
none_broken program statuses sound query bound p es other calls meets run no_keep = no_keep

pub suffices : (program : Program) (statuses : List Status) → Suffices program statuses
suffices program statuses sound query bound p es e calls meets = (there es e, back (only_kept (is_kept statuses) (every_condition program)) program program query bound p es e calls there)
  where
    there : (es : List Event) (e : Ending) → Run program query bound es e → KeptRun (is_kept statuses) program query bound es e
    there es e run = unbroken _ _ _ (drops program (is_kept statuses) query bound) es e run (none_broken program statuses sound query bound p es e calls meets run)
