-- An engine whose heap has gone on.
use Rattle.std.proofs.Common.{◌≡◌, ◌<◌, ℕ, List, [], ◌∷◌, ◌++◌, map, reverse, length, sym, ap, subst, ◌∙◌}
use Rattle.prog_data.specs.declared.programs.Program.{Program}
use Rattle.machine_model.specs.State.{Choice}
use Rattle.machine_model.specs.LeanerLaws.{AreBelow}
use Rattle.term_heap.specs.Changes.{Change, History, size_of, IsMade}
use Rattle.engine_state.specs.declared.engine.Engine as code
use Rattle.engine_state.specs.declared.tasks.Link as code_link
use Rattle.engine_state.specs.declared.points.ChoicePoint as code_point
use Rattle.engine_state.specs.Engines.{Link, ChoicePoint, choices_of}
use Rattle.engine_state.specs.Views.{as_links, as_points}
use Rattle.engine_state.specs.Moments.{Moments, HasMoments}
use Rattle.engine_state.specs.Within.{AreTasksWithin}
use Rattle.engine_state.specs.Stages.{choices_at, tasks_at, IsKept}
use Rattle.engine_moves.specs.Relied.{Relied}

-- the query is a cell
query_now : (program : Program) (query : ℕ) (changes : List Change) (notes : ℕ) (links : List code_link.Link) (points : List code_point.ChoicePoint) → Moments program query changes notes links points → query < size_of changes
query_now program query changes notes links [] is = is.0
query_now program query changes notes links (p ∷ ps) is = is.0.0

pub query_there : (e : code.Engine) → IsKept e → e.query < size_of e.heap.changes
query_there e kept = query_now e.program.now e.query e.heap.changes (length e.notes.items) (reverse e.links.items) (reverse e.points.items) kept.moments

-- the tasks from a link on are among the cells
pub tasks_there : Relied → (e : code.Engine) (k : ℕ) → IsKept e → AreTasksWithin (size_of e.heap.changes) (tasks_at e k)
tasks_there law e k kept =
    law.tasks.chained (size_of e.heap.changes) (as_links e.notes.items e.links.items) k
    ((law.within e.program.now).links_are e.notes.items e.query e.heap.changes (length e.notes.items) (reverse e.links.items) (reverse e.points.items) kept.moments)

module _ (law : Relied) (old : code.Engine) (heap : History) (more : List Change) (is : heap.changes ≡ more ++ old.heap.changes) (kept : IsKept old) where
  abbrev links : List Link
  links = as_links old.notes.items old.links.items

  abbrev points : List ChoicePoint
  points = as_points old.index old.notes.items old.points.items

  later_moments : HasMoments old.program.now old.query heap.changes old.notes.items old.links.items old.points.items
  later_moments =
      subst (λ cs. HasMoments old.program.now old.query cs old.notes.items old.links.items old.points.items) (sym is)
      ((law.stay old.program.now).later old.query more old.heap.changes (length old.notes.items) (reverse old.links.items) (reverse old.points.items) kept.moments)

  -- it keeps what it kept
  pub later_kept : IsKept (record old { heap = heap })
  later_kept = record { in_range = kept.in_range; indexed = kept.indexed; counted = kept.counted; moments = later_moments }

  -- its choices are the same
  pub later_choices : choices_of heap.changes links old.query points ≡ choices_at old
  later_choices =
      ap (λ cs. choices_of cs links old.query points) is
      ∙ law.choices.later more old.heap.changes links old.query points
      ((law.give old.program.now).in_order old.index old.notes.items old.query old.heap.changes (length old.notes.items) (reverse old.links.items) (reverse old.points.items) kept.moments)

  -- their variables are cells
  pub later_below : IsMade heap.changes → AreBelow (size_of heap.changes) (choices_at old)
  later_below made =
      let within = (law.within old.program.now).points_are old.index old.notes.items old.query heap.changes (length old.notes.items) (reverse old.links.items) (reverse old.points.items) later_moments in
      subst (AreBelow (size_of heap.changes)) later_choices (law.variables.choices heap.changes links old.query points made within)
