-- What the engine holds, over the cells of a heap, and the state that it is.
-- The headline does not rest on this file.
use Rattle.std.specs.Prelude.{◌≤◌, ℕ, suc, ◌==◌, Bool, List, [], ◌∷◌, map, length, Option, if◌then◌else◌, flat_map, ⊤}
use Rattle.term_core.specs.declared.terms.Term.{Term}
use Rattle.prog_data.specs.declared.goals.Goal.{Goal}
use Rattle.prog_data.specs.declared.programs.Place.{Place}
use Rattle.prog_data.specs.Goals.{goal_instance}
use Rattle.machine_model.specs.State.{Item, Does, CutTo, Exits, Frame, Call, Choice, Resume, Try, Mark, Current, State}
use Rattle.term_heap.specs.Changes.{Change, size_of, value_of, places, undone}
use Rattle.term_heap.specs.Loads.{from_base}

-- what the engine holds

-- the exit of a call: its predicate, so many places from one on for its arguments, the conditions noted at the call, and the height of its mark
pub record Exit : Type 0 where
  pub pred : ℕ
  pub first : ℕ
  pub count : ℕ
  pub noted : List ℕ
  pub mark : Option ℕ

-- what is to be done, over cells
pub data Task : Type 0 where
  -- a goal of the program, whose variables are places from a base on
  Runs : Goal → (base : ℕ) → (height : ℕ) → Place → Task
  Cuts : (height : ℕ) → Task
  Leaves : Exit → Task

-- a task, and the number of the link with the task after it
pub record Link : Type 0 where
  pub task : Task
  pub next : ℕ

-- the tasks from a link on; the links stand with the newest first, and are numbered from the oldest, which is 1
abbrev pub chain : List Link → ℕ → List Task
chain [] k = []
chain (link ∷ older) k = if k == suc (length older) then link.task ∷ chain older link.next else chain older k

-- a call with clauses left to be tried, the height before them, and the link behind it
pub record Pending : Type 0 where
  pub exit : Exit
  pub height : ℕ
  pub rest : ℕ

-- what failure goes back to
pub data Alternative : Type 0 where
  Resumes : (rest : ℕ) → Alternative
  -- the clauses that are left, by number
  Retries : (left : List ℕ) → Pending → Alternative
  Marks : (pred : ℕ) → (conds : List ℕ) → (exited : Bool) → Alternative

-- an alternative, with the length of the trail and the number of links when it was made, and how many choices were below it
pub record ChoicePoint : Type 0 where
  pub trail : ℕ
  pub links : ℕ
  pub below : ℕ
  pub alternative : Alternative

-- the calls made, the heap's changes, the links and the choice points, each with the newest first, and the place of the query
pub record Engine : Type 0 where
  pub calls : ℕ
  pub changes : List Change
  pub links : List Link
  pub points : List ChoicePoint
  pub query : ℕ

-- the state that it is

-- a task with the values of its places
abbrev pub item_of : (ℕ → Term) → Task → Item
item_of value (Runs g base h place) = Does (goal_instance (from_base value base) g) h place
item_of value (Cuts h) = CutTo h
item_of value (Leaves e) = Exits e.pred (map value (places e.first e.count)) e.noted e.mark

-- tasks and the query with these values
abbrev pub frame_with : (ℕ → Term) → List Task → (query : ℕ) → Frame
frame_with value tasks query = record { items = map (item_of value) tasks; query = value query }

-- a call, before these tasks, with the values of its places
abbrev pub call_with : (ℕ → Term) → List Task → (query : ℕ) → Pending → Call
call_with value tasks query c = record {
  pred = c.exit.pred;
  args = map value (places c.exit.first c.exit.count);
  noted = c.exit.noted;
  mark = c.exit.mark;
  height = c.height;
  rest = frame_with value tasks query;
}

-- the choices that an alternative stands for: one for each clause that is left
abbrev pub alternative_choices : (ℕ → Term) → List Link → (query : ℕ) → Alternative → List Choice
alternative_choices value links query (Resumes rest) = Resume (frame_with value (chain links rest) query) ∷ []
alternative_choices value links query (Retries left c) = map (λ k. Try k (call_with value (chain links c.rest) query c)) left
alternative_choices value links query (Marks p conds exited) = Mark p conds exited ∷ []

-- those of a choice point, with the heap undone to its moment
abbrev pub point_choices : List Change → List Link → (query : ℕ) → ChoicePoint → List Choice
point_choices changes links query p = alternative_choices (value_of (undone p.trail changes)) links query p.alternative

-- those of all choice points
abbrev pub choices_of : List Change → List Link → (query : ℕ) → List ChoicePoint → List Choice
choices_of changes links query points = flat_map (point_choices changes links query) points

-- the frame of a link
abbrev pub frame_of : Engine → (link : ℕ) → Frame
frame_of e link = frame_with (value_of e.changes) (chain e.links link) e.query

-- the state, with this current; the variables are cells, numbered from 0, so that their number is above all of them
abbrev pub as_state : Engine → Current → State
as_state e now = record { calls = e.calls; fresh = size_of e.changes; choices = choices_of e.changes e.links e.query e.points; current = now }

-- what choice points keep

-- none has a longer trail than the one above it, or than this
abbrev pub AreInOrder : (trail : ℕ) → List ChoicePoint → Type 0
AreInOrder trail [] = ⊤
AreInOrder trail (p ∷ ps) = (p.trail ≤ trail) × AreInOrder p.trail ps

-- the link behind an alternative
abbrev pub rest_of : Alternative → ℕ
rest_of (Resumes rest) = rest
rest_of (Retries left c) = c.rest
rest_of (Marks p conds exited) = 0

-- each has its link among those that it holds, and holds no more links than the one above it, or than this
abbrev pub AreHeld : (links : ℕ) → List ChoicePoint → Type 0
AreHeld links [] = ⊤
AreHeld links (p ∷ ps) = (p.links ≤ links) × (rest_of p.alternative ≤ p.links) × AreHeld p.links ps
