-- What is due at a link.
-- The headline does not rest on this file.
use Rattle.std.specs.Prelude.{◌≡◌, ℕ, List, [], map}
use Rattle.prog_data.specs.declared.events.Event.TheVariants.{Broken}
use Rattle.engine_state.specs.declared.engine.Engine as code
use Rattle.engine_state.specs.Stages.{tasks_at, doing, goal_state, IsDue}
use Rattle.engine_moves.specs.declared.links.Due as code_due
use Rattle.engine_moves.specs.declared.links.Due.TheVariants as due
use Rattle.engine_moves.specs.declared.readings.Reading.{Reading}
use Rattle.engine_moves.specs.Turned.{HasTurned}

-- a goal is due, or nothing is, in the state of the tasks from a link on, and nothing was changed and told; or its task was done
abbrev pub IsDueAt : Reading → (old : code.Engine) → (k : ℕ) → (told : List ℕ) → (new : code.Engine) → code_due.Due → Type 0
IsDueAt reading old k told new (due.Goal g s) = (goal_state old g.now s ≡ doing old (tasks_at old k)) × IsDue old g.now s × (new ≡ old) × (told ≡ [])
IsDueAt reading old k told new due.Answer = (tasks_at old k ≡ []) × (new ≡ old) × (told ≡ [])
IsDueAt reading old k told new (due.Done turn) = (bound : ℕ) → HasTurned reading bound old (doing old (tasks_at old k)) (map Broken told) turn.tests new turn.stage
