-- States of a run.
use Rattle.std.specs.Prelude.{ℕ, ◌==◌, nat_le, Bool, true, List, [], ◌∷◌, map, length, if◌then◌else◌, Option, None, Some}
use Rattle.term_core.specs.declared.terms.Term.{Term}
use Rattle.term_core.specs.Terms.{instance}
use Rattle.term_core.specs.Unify.{Stage}
use Rattle.prog_data.specs.declared.goals.Goal.{Goal}
use Rattle.prog_data.specs.declared.programs.Place.{Place}
use Rattle.prog_data.specs.declared.events.Event.{Event}
use Rattle.prog_data.specs.declared.events.Ending.{Ending}
use Rattle.prog_data.specs.Goals.{goal_instance}

-- What a frame has to do. A height is a length of the list of choices.
pub data Item : Type 0 where
  -- a goal, the height that a cut in it leaves, and the place of its clause
  Does : Goal → (height : ℕ) → Place → Item
  CutTo : (height : ℕ) → Item
  -- a call is exited: its predicate and arguments, the conditions noted at the call, and the height of its mark
  Exits : (pred : ℕ) → (args : List Term) → (noted : List ℕ) → (mark : Option ℕ) → Item

-- the items, the next one first, and the query's instance
pub record Frame : Type 0 where
  pub items : List Item
  pub query : Term

-- a call of which clauses are still to be tried, and the frame behind it
pub record Call : Type 0 where
  pub pred : ℕ
  pub args : List Term
  pub noted : List ℕ
  pub mark : Option ℕ
  pub height : ℕ
  pub rest : Frame

-- what failure goes back to
pub data Choice : Type 0 where
  Resume : Frame → Choice
  Try : (clause : ℕ) → Call → Choice
  -- a call's comp conditions, and whether the call was exited
  Mark : (pred : ℕ) → (conds : List ℕ) → (exited : Bool) → Choice

-- what is current: a frame, one whose equations are being solved, or none
pub data Current : Type 0 where
  Doing : Frame → Current
  Solving : Place → Stage → Frame → Current
  Failed : Current

-- the calls made, a number above all variables, the choices with the newest first, and what is current
pub record State : Type 0 where
  pub calls : ℕ
  pub fresh : ℕ
  pub choices : List Choice
  pub current : Current

-- a run goes on, or is over
pub data Phase : Type 0 where
  Going : State → Phase
  Over : Ending → Phase

-- the events of some steps in order, the number of tests that they made, and what comes after them
pub record Trace : Type 0 where
  pub events : List Event
  pub tests : ℕ
  pub phase : Phase

-- instances

-- an item, each variable replaced by its value
abbrev pub item_instance : (ℕ → Term) → Item → Item
item_instance value (Does g h place) = Does (goal_instance value g) h place
item_instance value (CutTo h) = CutTo h
item_instance value (Exits p args noted mark) = Exits p (map (instance value) args) noted mark

-- a frame, each variable replaced by its value
abbrev pub frame_instance : (ℕ → Term) → Frame → Frame
frame_instance value f = record { items = map (item_instance value) f.items; query = instance value f.query }

-- choices

-- the newest are taken off until that many are left
abbrev pub cut : ℕ → List Choice → List Choice
cut height [] = []
cut height (c ∷ cs) = if nat_le height (length cs) then cut height cs else c ∷ cs

-- the choice with that many below it
abbrev pub choice_at : ℕ → List Choice → Option Choice
choice_at height [] = None
choice_at height (c ∷ cs) = if height == length cs then Some c else choice_at height cs

-- a mark as exited
abbrev pub exited : Choice → Choice
exited (Mark p conds e) = Mark p conds true
exited other = other

-- the mark with that many choices below it is exited
abbrev pub exit_mark : Option ℕ → List Choice → List Choice
exit_mark None cs = cs
exit_mark (Some height) [] = []
exit_mark (Some height) (c ∷ cs) = if height == length cs then exited c ∷ cs else c ∷ exit_mark (Some height) cs
