-- How many events of a run are left.
use Rattle.std.proofs.Common.{◌≡◌, ℕ, ◌<◌, [], ◌∷◌, length, sym, ap, subst, Option, Some, None, arith}
use Rattle.prog_data.specs.declared.programs.Program.{Program}
use Rattle.prog_data.specs.declared.events.Event.{Event}
use Rattle.machine_model.specs.Tests.{every_condition}
use Rattle.machine_model.specs.Continues.{Left, Leads}
use Rattle.machine_model.proofs.Continuing.{all_left, one_left}
use Rattle.ciao_top.specs.InnerAnswers.{GoesOn}

module _ (program : Program) (bound : ℕ) where
  -- the number of events that are left
  pub events_left : Option Left → ℕ
  events_left None = 0
  events_left (Some left) = length (all_left (every_condition program) program bound left).0

  fewer_at : (before after : Left) (event : Event) (made : ℕ) → Leads (every_condition program) program bound before (event ∷ []) made after
      → length (all_left (every_condition program) program bound after).0 < length (all_left (every_condition program) program bound before).0
  fewer_at before after event made tells =
      let old = all_left (every_condition program) program bound before in
      let new = all_left (every_condition program) program bound after in
      let more = tells.back old.0 old.1 old.2 old.3 in
      let same : length new.0 ≡ length more.0 = ap length (one_left (every_condition program) program bound after new.0 more.0 new.1 more.1 new.2 old.2 new.3 more.4).0 in
      let all : length old.0 ≡ length (event ∷ more.0) = ap length more.2 in
      omega (same, all, arith)

  -- where a run goes on, fewer are left
  pub fewer_left : (o n : Option Left) → GoesOn program bound o n → events_left n < events_left o
  unfolding events_left
  fewer_left o n goes =
      subst (λ x. events_left x < events_left o) (sym goes.is)
      (subst (λ x. length (all_left (every_condition program) program bound goes.after).0 < events_left x) (sym goes.was) (fewer_at goes.before goes.after goes.event goes.made goes.tells))
