-- What is due at a link.
use Rattle.std.proofs.Common.{◌≡◌, ℕ, List, [], ◌∷◌, map, sym, ap, subst, ◌∙◌}
use Rattle.prog_data.specs.declared.events.Event.TheVariants.{Broken}
use Rattle.machine_model.specs.State.{State}
use Rattle.engine_state.specs.declared.engine.Engine as code
use Rattle.engine_state.specs.declared.tasks.Link as code_link
use Rattle.engine_state.specs.declared.tasks.Task as code_task
use Rattle.engine_state.specs.declared.stages.Stage as code_stage
use Rattle.engine_state.specs.Views.{as_task}
use Rattle.engine_state.specs.Stages.{tasks_at, doing}
use Rattle.engine_state.specs.Turns.{IsFirst, HasMoved}
use Rattle.engine_moves.specs.declared.readings.Reading.{Reading}
use Rattle.engine_moves.specs.Turned.{HasTurned}
use Rattle.engine_moves.proofs.TurnLaws.{quiet_turn}

module _ (e : code.Engine) (k : ℕ) (l : code_link.Link) (t : code_task.Task) (is : l.task ≡ t) (first : IsFirst e k l) where
  -- the state with that task
  pub state_is : doing e (as_task e.notes.items t ∷ tasks_at e l.next) ≡ doing e (tasks_at e k)
  state_is = sym (ap (doing e) (first.tasks ∙ ap (λ x. as_task e.notes.items x ∷ tasks_at e l.next) is))

-- a move from there
pub moved_from : (reading : Reading) (e new : code.Engine) (k : ℕ) (from : State) (to : code_stage.Stage) (told : List ℕ) → from ≡ doing e (tasks_at e k) → told ≡ [] → HasMoved e from new to → (bound : ℕ) → HasTurned reading bound e (doing e (tasks_at e k)) (map Broken told) 0 new to
moved_from reading e new k from to told is none moved bound = subst (λ s. HasTurned reading bound e s (map Broken told) 0 new to) is (quiet_turn reading e from bound new to told none moved)
