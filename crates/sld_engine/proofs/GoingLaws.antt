-- Turns of a run, one after the other.
use Rattle.std.proofs.Common.{◌≡◌, ◌<◌, ℕ, ◌+◌, ◌-◌, ◌^◌, min, List, [], ◌∷◌, ◌++◌, map, Option, None, Some, refl, sym, subst, ◌∙◌, arith}
use Rattle.std.specs.Option.{option_map_or}
use Rattle.prog_data.specs.declared.programs.Program.{Program}
use Rattle.prog_data.specs.declared.events.Event.{Event}
use Rattle.prog_data.specs.declared.events.Event.TheVariants.{Out, Answer, End, Broken}
use Rattle.machine_model.specs.State.{Phase, Trace}
use Rattle.machine_model.specs.Tests.{Tests}
use Rattle.machine_model.specs.Continues.{Left, at_phase, Leads, IsNext}
use Rattle.machine_model.proofs.Continuing.{stay, then_leads}
use Rattle.engine_state.specs.declared.engine.Engine as code
use Rattle.engine_state.specs.declared.stages.Stage as code_stage
use Rattle.engine_state.specs.Stages.{phase_of, IsWhole}
use Rattle.engine_state.proofs.StepsLeft.{steps_left, fewer_left}
use Rattle.engine_moves.specs.declared.readings.Reading.{Reading}
use Rattle.engine_moves.specs.Readings.{tests_by}
use Rattle.sld_engine.specs.Going.{IsTurn, IsCome, HasGone, HasCome}

-- how many steps are left of an engine
pub left_at : (reading : Reading) (bound : ℕ) → code.Engine → code_stage.Stage → ℕ
left_at reading bound e to = option_map_or (steps_left (tests_by e.program.now reading) e.program.now bound) (phase_of e to) 0

module _ (what : Tests) (program : Program) (bound : ℕ) (first : Phase) (a b : ℕ) (mid : Phase) (before : Leads what program bound (at_phase first) [] a (at_phase mid)) where
  next_after : (event : Event) (new : Left) → IsNext what program bound (at_phase mid) event b new → IsNext what program bound (at_phase first) event (a + b) new
  next_after (Out text) new n = then_leads what program bound (at_phase first) (at_phase mid) new [] (Out text ∷ []) a b before n
  next_after (Answer t) new n = then_leads what program bound (at_phase first) (at_phase mid) new [] (Answer t ∷ []) a b before n
  next_after (Broken c) new n = then_leads what program bound (at_phase first) (at_phase mid) new [] (Broken c ∷ []) a b before n
  next_after (End e) new n = record { over = n.over; leads = then_leads what program bound (at_phase first) (at_phase mid) new [] [] a b before n.leads }

  come_after : (event : Option Event) (told : List ℕ) (new : Phase) → IsTurn what program bound mid event told b new → IsCome what program bound first event told (a + b) new
  come_after None told new turn = then_leads what program bound (at_phase first) (at_phase mid) (record { untold = map Broken told; phase = new }) [] [] a b before turn.leads
  come_after (Some event) told new turn = (turn.0, next_after event (at_phase new) turn.1)

sums : (a b x y : ℕ) → x ≡ min a (2 ^ 64 - 1) → y ≡ min b (2 ^ 64 - 1) → min (x + y) (2 ^ 64 - 1) ≡ min (a + b) (2 ^ 64 - 1)
sums a b x y e h = omega (arith, e, h)

module _ (reading : Reading) (bound : ℕ) where
  -- nothing was done
  pub come_none : (e : code.Engine) (to : code_stage.Stage) (first : Phase) (told : List ℕ) → told ≡ [] → phase_of e to ≡ Some first → IsWhole e to → HasCome reading bound e.program.now first None told 0 e to
  come_none e to first told none is whole =
      subst (λ ts. HasCome reading bound e.program.now first None ts 0 e to) (sym none)
      (record { program_is = refl; tests = 0; counted_are = refl; now = first; is = is; come = stay (tests_by e.program.now reading) e.program.now bound (at_phase first); whole = whole })

  -- a further turn
  pub come_further : (program : Program) (first : Phase) (mid new : code.Engine) (at to : code_stage.Stage) (told_before : List ℕ) (counted more all : ℕ) (event : Option Event) (told : List ℕ) → told_before ≡ [] → (come : HasCome reading bound program first None told_before counted mid at) →
      HasGone reading bound mid.program.now come.now event told more new to → all ≡ min (counted + more) (2 ^ 64 - 1) → HasCome reading bound program first event told all new to
  come_further program first mid new at to told_before counted more all event told none come gone is =
      let before : Leads (tests_by program reading) program bound (at_phase first) [] come.tests (at_phase come.now) =
      subst (λ ts. IsCome (tests_by program reading) program bound first None ts come.tests come.now) none come.come in
      let turn : IsTurn (tests_by program reading) program bound come.now event told gone.tests gone.now =
      subst (λ p. IsTurn (tests_by p reading) p bound come.now event told gone.tests gone.now) come.program_is gone.gone in
      record {
        program_is = gone.program_is ∙ come.program_is;
        tests = come.tests + gone.tests;
        counted_are = is ∙ sums come.tests gone.tests counted more come.counted_are gone.counted_are;
        now = gone.now;
        is = gone.is;
        come = come_after (tests_by program reading) program bound first come.tests gone.tests come.now before event told gone.now turn;
        whole = gone.whole;
      }

  -- fewer steps are left
  pub fewer_after : (mid new : code.Engine) (at to : code_stage.Stage) (p : Phase) (told : List ℕ) (counted : ℕ) → phase_of mid at ≡ Some p → HasGone reading bound mid.program.now p None told counted new to → left_at reading bound new to < left_at reading bound mid at
  unfolding left_at
  fewer_after mid new at to p told counted was gone =
      let program : Program = mid.program.now in
      let what : Tests = tests_by program reading in
      let t : Trace = record { events = map Broken told; tests = gone.tests; phase = gone.now } in
      let one : steps_left what program bound gone.now < steps_left what program bound p = fewer_left what program bound p t gone.gone in
      let two : steps_left what program bound gone.now < option_map_or (steps_left what program bound) (phase_of mid at) 0 = subst (λ o. steps_left what program bound gone.now < option_map_or (steps_left what program bound) o 0) (sym was) one in
      let three : option_map_or (steps_left what program bound) (phase_of new to) 0 < option_map_or (steps_left what program bound) (phase_of mid at) 0 =
      subst (λ o. option_map_or (steps_left what program bound) o 0 < option_map_or (steps_left what program bound) (phase_of mid at) 0) (sym gone.is) two in
      subst (λ q. option_map_or (steps_left (tests_by q reading) q bound) (phase_of new to) 0 < option_map_or (steps_left what program bound) (phase_of mid at) 0) (sym gone.program_is) three
