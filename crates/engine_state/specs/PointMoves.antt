-- Choice points that a call and control make, and the newest one that failure goes back to, as choices of the state.
-- The headline does not rest on this file.
use Rattle.std.specs.Prelude.{◌≡◌, ◌≤◌, ◌<◌, ℕ, Bool, false, List, [], ◌∷◌, ◌++◌, map, filter, length}
use Rattle.term_core.specs.declared.terms.Term.{Term}
use Rattle.prog_data.specs.declared.programs.Clause.{Clause}
use Rattle.prog_data.specs.declared.programs.Program.{Program}
use Rattle.machine_model.specs.State.{Choice}
use Rattle.machine_model.specs.Step.{tries, with_mark, mark_height}
use Rattle.machine_model.specs.Leaner.{IsLeaner}
use Rattle.machine_model.specs.LeanerLaws.{call_above, chosen}
use Rattle.term_heap.specs.Changes.{Change, size_of, value_of, places, undone, IsMade}
use Rattle.engine_state.specs.Engines.{Task, Link, chain, Alternative, Retries, Marks, ChoicePoint, Pending, frame_with, call_with, alternative_choices, choices_of, AreInOrder, rest_of, AreHeld}
use Rattle.engine_state.specs.Stacks.{IsTaken}
use Rattle.engine_state.specs.Within.{IsAlternativeWithin, ArePointsWithin}
use Rattle.engine_state.specs.StepsMade.{failing}

-- what new choice points stand for
pub record PointsPushed : Type 0 where
  -- one that is made now, before links that leave those that are held
  pub now : (changes : List Change) (old new : List Link) (held query : ℕ) (p : ChoicePoint) (points : List ChoicePoint) → p.trail ≡ length changes → ((j : ℕ) → j ≤ held → chain new j ≡ chain old j) → AreHeld held points →
      choices_of changes new query (p ∷ points) ≡ alternative_choices (value_of changes) new query p.alternative ++ choices_of changes old query points
  -- a call's mark
  pub marked : (value : ℕ → Term) (links : List Link) (query pred : ℕ) (conds : List ℕ) (cs : List Choice) → (conds ≡ [] → ⊥) → alternative_choices value links query (Marks pred conds false) ++ cs ≡ with_mark pred conds cs
  -- a call, by its mark and its height
  pub call : (value : ℕ → Term) (tasks : List Task) (query : ℕ) (c : Pending) (cs : List Choice) (conds : List ℕ) → c.exit.mark ≡ mark_height conds cs → c.height ≡ length (with_mark c.exit.pred conds cs) →
      call_above cs c.exit.pred (map value (places c.exit.first c.exit.count)) c.exit.noted conds (frame_with value tasks query) ≡ call_with value tasks query c
  -- its clauses, all of them or those that are chosen
  pub clauses : (value : ℕ → Term) (links : List Link) (query : ℕ) (c : Pending) (cl : List Clause) → tries 0 cl (call_with value (chain links c.rest) query c) ≡ alternative_choices value links query (Retries (places 0 (length cl)) c)
  pub chosen_clauses : (value : ℕ → Term) (links : List Link) (query : ℕ) (c : Pending) (cl : List Clause) (chooses : ℕ → Bool) →
      chosen chooses 0 cl (call_with value (chain links c.rest) query c) ≡ alternative_choices value links query (Retries (filter chooses (places 0 (length cl))) c)

-- the newest choice was taken off, the heap undone to its moment, and the links that it holds were kept
pub record IsBack (changes past : List Change) (links kept : List Link) (query : ℕ) (points : List ChoicePoint) (p : ChoicePoint) (rest : List ChoicePoint) : Type 0 where
  pub made : IsMade changes
  pub past_is : past ≡ undone p.trail changes
  pub in_order : AreInOrder (length changes) points
  pub taken : IsTaken points p rest
  pub held : AreHeld p.links rest
  pub behind : rest_of p.alternative ≤ p.links
  pub same : (j : ℕ) → j ≤ p.links → chain kept j ≡ chain links j
  pub query_within : query < size_of past
  pub within : IsAlternativeWithin (size_of past) kept p.alternative
  pub others : ArePointsWithin past kept query rest

module _ (program : Program) where
  -- the choices are then those of the newest alternative at its moment, and the others; and the state with them is a leaner one
  pub record GoesBack : Type 0 where
    pub choices : (changes past : List Change) (links kept : List Link) (query : ℕ) (points : List ChoicePoint) (p : ChoicePoint) (rest : List ChoicePoint) → IsBack changes past links kept query points p rest →
        choices_of changes links query points ≡ alternative_choices (value_of past) kept query p.alternative ++ choices_of past kept query rest
    pub leaner : (made : ℕ) (changes past : List Change) (links kept : List Link) (query : ℕ) (points : List ChoicePoint) (p : ChoicePoint) (rest : List ChoicePoint) → IsBack changes past links kept query points p rest →
        IsLeaner program (failing made (size_of changes) (choices_of changes links query points)) (failing made (size_of changes) (choices_of changes links query points)) →
        IsLeaner program (failing made (size_of changes) (choices_of changes links query points)) (failing made (size_of past) (alternative_choices (value_of past) kept query p.alternative ++ choices_of past kept query rest))
        × IsLeaner program (failing made (size_of past) (alternative_choices (value_of past) kept query p.alternative ++ choices_of past kept query rest)) (failing made (size_of past) (alternative_choices (value_of past) kept query p.alternative ++ choices_of past kept query rest))
