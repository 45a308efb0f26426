-- The links and choice points that the code's are: its last is the newest.
-- The headline does not rest on this file.
use Rattle.std.specs.Prelude.{◌≤◌, ℕ, List, [], ◌∷◌, map, take, drop, length, reverse, ⊤}
use Rattle.prog_data.specs.declared.goals.Goal.{Fail}
use Rattle.clause_index.specs.declared.keys.Key.{Key}
use Rattle.engine_state.specs.declared.tasks.Row.{Row}
use Rattle.engine_state.specs.declared.tasks.Exit as code
use Rattle.engine_state.specs.declared.tasks.Task as code_task
use Rattle.engine_state.specs.declared.tasks.Task.TheVariants as task
use Rattle.engine_state.specs.declared.tasks.Link as code_link
use Rattle.engine_state.specs.declared.points.Pending as code_pending
use Rattle.engine_state.specs.declared.points.Alternative as code_alternative
use Rattle.engine_state.specs.declared.points.Alternative.TheVariants as alternative
use Rattle.engine_state.specs.declared.points.ChoicePoint as code_point
use Rattle.engine_state.specs.declared.marks.Marked as code_marked
use Rattle.engine_state.specs.Selections.{clauses_left}
use Rattle.engine_state.specs.Stacks.{Marked}
use Rattle.engine_state.specs.Engines.{Exit, Task, Runs, Cuts, Leaves, Link, Pending, Alternative, Resumes, Retries, Marks, ChoicePoint}

-- the numbers of a row
abbrev pub row_of : List ℕ → Row → List ℕ
row_of notes row = take row.count (drop row.first notes)

module _ (notes : List ℕ) where
  abbrev pub as_exit : code.Exit → Exit
  as_exit e = record { pred = e.pred; first = e.args.first; count = e.args.count; noted = row_of notes e.noted; mark = e.mark }

  abbrev pub as_task : code_task.Task → Task
  as_task (task.Runs goal base h place) = Runs goal.now base h place
  as_task (task.Cuts h) = Cuts h
  as_task (task.Fails h place) = Runs Fail 0 h place
  as_task (task.Leaves e) = Leaves (as_exit e)

  abbrev pub as_link : code_link.Link → Link
  as_link l = record { task = as_task l.task; next = l.next }

  -- links, the newest first
  abbrev pub as_links : List code_link.Link → List Link
  as_links links = map as_link (reverse links)

  abbrev pub as_pending : code_pending.Pending → Pending
  as_pending c = record { exit = as_exit c.exit; height = c.height; rest = c.rest }

  abbrev pub as_marked : code_marked.Marked → Marked
  as_marked m = record { conds = row_of notes m.conds; exited = m.exited }

-- choice points whose clauses an index selects
module _ (index : List (List Key)) (notes : List ℕ) where
  abbrev pub as_alternative : code_alternative.Alternative → Alternative
  as_alternative (alternative.Resumes rest) = Resumes rest
  as_alternative (alternative.Retries key next end c) = Retries (clauses_left index c.exit.pred key next end) (as_pending notes c)
  as_alternative (alternative.Marks p conds exited) = Marks p (row_of notes conds) exited

  abbrev pub as_point : code_point.ChoicePoint → ChoicePoint
  as_point p = record { trail = p.trail; links = p.links; below = p.below; alternative = as_alternative p.alternative }

  -- choice points, the newest first
  abbrev pub as_points : List code_point.ChoicePoint → List ChoicePoint
  as_points points = map as_point (reverse points)

-- each link leads on to one below it; the newest stands first
abbrev pub LeadDown : List code_link.Link → Type 0
LeadDown [] = ⊤
LeadDown (l ∷ older) = (l.next ≤ length older) × LeadDown older
