-- A run in parts.
use Rattle.std.proofs.Common.{◌≡◌, ℕ, zero, suc, ◌+◌, ap, sym, ◌∙◌, append_assoc, add_assoc, zero-add, suc-add}
use Rattle.prog_data.specs.declared.programs.Program.{Program}
use Rattle.machine_model.specs.State.{Phase, Going, Over, Trace}
use Rattle.machine_model.specs.Tests.{Tests}
use Rattle.machine_model.specs.Step.{step, quietly}
use Rattle.machine_model.specs.Run.{steps, then_trace}
use Rattle.machine_model.proofs.OneRun.{over_stays}

-- three traces, one after the other, in either grouping
pub then_assoc : (a b c : Trace) → then_trace a (then_trace b c) ≡ then_trace (then_trace a b) c
then_assoc a b c = λ i. record { events = sym (append_assoc a.events b.events c.events) i; tests = sym (add_assoc a.tests b.tests c.tests) i; phase = c.phase }

-- nothing, and then a trace
pub after_none : (p : Phase) (t : Trace) → then_trace (quietly p) t ≡ t
after_none p t = λ i. record { events = t.events; tests = zero-add t.tests i; phase = t.phase }

module _ (what : Tests) (program : Program) (bound : ℕ) where
  -- some steps and then some more
  pub in_parts : (j k : ℕ) (p : Phase) → steps what program bound (j + k) p ≡ then_trace (steps what program bound j p) (steps what program bound k (steps what program bound j p).phase)
  in_parts zero k p = ap (λ n. steps what program bound n p) (zero-add k) ∙ sym (after_none p (steps what program bound k p))
  in_parts (suc j) k (Over e) = ap (λ n. steps what program bound n (Over e)) (suc-add j k) ∙ sym (ap (then_trace (quietly (Over e))) (over_stays what program bound k e))
  in_parts (suc j) k (Going s) =
      let t = step what program bound s in
      ap (λ n. steps what program bound n (Going s)) (suc-add j k) ∙ ap (then_trace t) (in_parts j k t.phase) ∙ then_assoc t (steps what program bound j t.phase) (steps what program bound k (steps what program bound j t.phase).phase)

  -- a run to a state without events and tests, and what comes of this state
  pub goes_on : (j k : ℕ) (p p' : Phase) (last : Trace) → steps what program bound j p ≡ quietly p' → steps what program bound k p' ≡ last → steps what program bound (j + k) p ≡ last
  goes_on j k p p' last x y = in_parts j k p ∙ ap (λ t. then_trace t (steps what program bound k t.phase)) x ∙ after_none p' (steps what program bound k p') ∙ y
