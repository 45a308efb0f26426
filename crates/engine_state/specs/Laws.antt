-- What changes of the heap, of links and of choice points do to the state that an engine is.
-- The headline does not rest on this file.
use Rattle.std.specs.Prelude.{◌≡◌, ◌≤◌, ◌<◌, ℕ, true, List, ◌∷◌, ◌++◌, map, length, replicate, Some}
use Rattle.term_core.specs.declared.terms.Term.{Term}
use Rattle.term_core.specs.Terms.{instance, occurs, higher, rename}
use Rattle.prog_data.specs.declared.goals.Goal.{Goal}
use Rattle.prog_data.specs.declared.programs.Clause.{Clause}
use Rattle.prog_data.specs.Goals.{goal_instance}
use Rattle.machine_model.specs.State.{Call, Try, frame_instance, cut, exit_mark}
use Rattle.machine_model.specs.Step.{tries, mark_of}
use Rattle.term_heap.specs.declared.cells.Cell.TheVariants.{Free}
use Rattle.term_heap.specs.Changes.{Change, Grows, value_of, size_of, places, undone, IsMade}
use Rattle.term_heap.specs.Loads.{from_base}
use Rattle.engine_state.specs.Engines.{Task, Link, chain, ChoicePoint, frame_with, alternative_choices, point_choices, choices_of, AreInOrder, AreHeld}
use Rattle.engine_state.specs.Stacks.{height_of, AreCounted, cut_points, exit_points, mark_at_height, mark_seen}

-- what leaves the choices as they are: changes made later, changes undone that are as old as the newest choice point, and links beside those that are held
pub record ChoicesStay : Type 0 where
  pub later : (more changes : List Change) (links : List Link) (query : ℕ) (points : List ChoicePoint) → AreInOrder (length changes) points →
      choices_of (more ++ changes) links query points ≡ choices_of changes links query points
  pub back : (n : ℕ) (changes : List Change) (links : List Link) (query : ℕ) (points : List ChoicePoint) → AreInOrder n points →
      choices_of (undone n changes) links query points ≡ choices_of changes links query points
  pub pushed : (changes : List Change) (old new : List Link) (held query : ℕ) (points : List ChoicePoint) → ((j : ℕ) → j ≤ held → chain new j ≡ chain old j) → AreHeld held points →
      choices_of changes new query points ≡ choices_of changes old query points

-- values that are instances of others make the whole frame an instance
abbrev pub FramesFollow : Type 0
FramesFollow = (value old new : ℕ → Term) → ((i : ℕ) → new i ≡ instance value (old i)) → (tasks : List Task) (query : ℕ) → frame_with new tasks query ≡ frame_instance value (frame_with old tasks query)

-- new free cells give each place the term that it has, and are the new variables of a clause
pub record FreesAreNew : Type 0 where
  pub values : (changes : List Change) (count s i : ℕ) → IsMade changes → value_of (Grows (replicate count Free) s ∷ changes) i ≡ value_of changes i
  pub head : (changes : List Change) (count s : ℕ) (t : Term) → IsMade changes →
      rename (size_of changes) t ≡ instance (from_base (value_of (Grows (replicate count Free) s ∷ changes)) (size_of changes)) t
  pub body : (changes : List Change) (count s : ℕ) (g : Goal) → IsMade changes →
      goal_instance (higher (size_of changes)) g ≡ goal_instance (from_base (value_of (Grows (replicate count Free) s ∷ changes)) (size_of changes)) g

-- a choice point that is made now stands for choices of the current terms, and the clauses of a predicate are numbered from 0
pub record NewPoints : Type 0 where
  pub now : (changes : List Change) (links : List Link) (query : ℕ) (p : ChoicePoint) → length changes ≤ p.trail → point_choices changes links query p ≡ alternative_choices (value_of changes) links query p.alternative
  pub clauses : (k : ℕ) (cs : List Clause) (call : Call) → tries k cs call ≡ map (λ j. Try j call) (places k (length cs))

-- the choices are as many as the newest choice point tells, and are cut as the choice points are, which keep what they kept
pub record PointsCut : Type 0 where
  pub heights : (changes : List Change) (links : List Link) (query : ℕ) (points : List ChoicePoint) → AreCounted points → length (choices_of changes links query points) ≡ height_of points
  pub cuts : (changes : List Change) (links : List Link) (query height : ℕ) (points : List ChoicePoint) → AreCounted points →
      choices_of changes links query (cut_points height points) ≡ cut height (choices_of changes links query points)
  pub counted : (height : ℕ) (points : List ChoicePoint) → AreCounted points → AreCounted (cut_points height points)
  pub in_order : (height trail : ℕ) (points : List ChoicePoint) → AreInOrder trail points → AreInOrder trail (cut_points height points)
  pub held : (height links : ℕ) (points : List ChoicePoint) → AreHeld links points → AreHeld links (cut_points height points)

-- marks are exited as the choice points are that stand for them, which keep what they kept
pub record PointsExit : Type 0 where
  pub exits : (changes : List Change) (links : List Link) (query height : ℕ) (points : List ChoicePoint) → AreCounted points →
      choices_of changes links query (exit_points height points) ≡ exit_mark (Some height) (choices_of changes links query points)
  pub counted : (height : ℕ) (points : List ChoicePoint) → AreCounted points → AreCounted (exit_points height points)
  pub in_order : (height trail : ℕ) (points : List ChoicePoint) → AreInOrder trail points → AreInOrder trail (exit_points height points)
  pub held : (height links : ℕ) (points : List ChoicePoint) → AreHeld links points → AreHeld links (exit_points height points)

-- what there is of a mark among the choices is what the choice point at its height has
abbrev pub MarksAreFound : Type 0
MarksAreFound = (changes : List Change) (links : List Link) (query height : ℕ) (points : List ChoicePoint) → AreCounted points →
    mark_at_height height points ≡ mark_seen (mark_of (Some height) (choices_of changes links query points))

-- the variables of a place's term are cells
abbrev pub TermsAreBelow : Type 0
TermsAreBelow = (changes : List Change) (i v : ℕ) → IsMade changes → i < size_of changes → occurs v (value_of changes i) ≡ true → v < size_of changes
