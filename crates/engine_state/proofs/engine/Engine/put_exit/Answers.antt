use Rattle.std.proofs.Common.{◌≡◌, ◌∷◌, sym, ap, ◌∙◌, true, false}
use Rattle.std.specs.Prelude.{if◌then◌else◌}
use Rattle.engine_state.specs.Engines.{Leaves}
use Rattle.engine_state.specs.Views.{as_exit}
use Rattle.engine_state.specs.Moments.{is_idle}
use Rattle.engine_state.specs.Stages.{tasks_at}
use Rattle.engine_state.proofs.ControlLaws.{stays}
use Rattle.engine_state.proofs.engine.Engine.put_exit.Goals as goal

pub push-requires-clause-placed : goal.push-requires-clause-placed
push-requires-clause-placed c = (c.requires.placed, sym c.is_idle.ensures ∙ c.if-is_idle.false)

pub returns-then-is_idle : goal.returns-then-is_idle
returns-then-is_idle c =
    let e = c.args.self.now in
    let tasks = tasks_at e c.args.rest in
    let idle : is_idle c.args.exit ≡ true = sym c.is_idle.ensures ∙ c.if-is_idle.true in
    record {
      goes = stays e c.args.rest c.requires.kept c.requires.rest;
      first = sym (ap (λ b. if b then tasks else Leaves (as_exit e.notes.items c.args.exit) ∷ tasks) idle);
      first_there = c.requires.rest;
    }

pub returns : goal.returns
returns c =
    let e = c.args.self.now in
    let tasks = tasks_at e c.args.rest in
    let idle : is_idle c.args.exit ≡ false = sym c.is_idle.ensures ∙ c.if-is_idle.false in
    let pushed = c.in_ok-number.ensures in
    record {
      goes = pushed.goes;
      first = pushed.first ∙ sym (ap (λ b. if b then tasks else Leaves (as_exit e.notes.items c.args.exit) ∷ tasks) idle);
      first_there = pushed.first_there;
    }
