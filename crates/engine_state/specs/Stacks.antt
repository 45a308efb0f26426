-- What is done to links and choice points.
-- The headline does not rest on this file.
use Rattle.std.specs.Prelude.{◌≡◌, ◌≤◌, ◌<◌, ℕ, ◌+◌, ◌-◌, ◌==◌, nat_le, true, List, [], ◌∷◌, ◌++◌, length, max, drop, Bool, false, Option, if◌then◌else◌, ⊤}
use Rattle.machine_model.specs.State.{Choice}
use Rattle.machine_model.specs.Step.{mark_conds, mark_exited}
use Rattle.term_heap.specs.Changes.{Change}
use Rattle.engine_state.specs.Engines.{Task, Link, chain, Alternative, Resumes, Retries, Marks, ChoicePoint, point_choices, choices_of, AreInOrder, AreHeld}

-- links

-- a link with this task was put before those from one on, and has this number; the chains of those links and of the links that are held stay
pub record IsPushed (held rest : ℕ) (old : List Link) (task : Task) (k : ℕ) (new : List Link) : Type 0 where
  pub first : chain new k ≡ task ∷ chain old rest
  pub stay : (j : ℕ) → j ≤ max held rest → chain new j ≡ chain old j
  pub number : k ≡ length new
  pub above : rest < k

-- heights

-- how many choices an alternative stands for
abbrev pub width : Alternative → ℕ
width (Resumes rest) = 1
width (Retries left c) = length left
width (Marks p conds exited) = 1

-- how many choices there are, by the newest choice point
abbrev pub height_of : List ChoicePoint → ℕ
height_of [] = 0
height_of (p ∷ ps) = p.below + width p.alternative

-- each choice point tells how many choices are below it
abbrev pub AreCounted : List ChoicePoint → Type 0
AreCounted [] = ⊤
AreCounted (p ∷ ps) = (p.below ≡ height_of ps) × AreCounted ps

-- an alternative with only so many of its clauses left, the last ones
abbrev pub shortened : ℕ → Alternative → Alternative
shortened n (Resumes rest) = Resumes rest
shortened n (Retries left c) = Retries (drop (length left - n) left) c
shortened n (Marks p conds exited) = Marks p conds exited

-- the newest are taken off, also those within one choice point, until that many choices are left
abbrev pub cut_points : ℕ → List ChoicePoint → List ChoicePoint
cut_points height [] = []
cut_points height (p ∷ ps) = if nat_le height p.below then cut_points height ps else record p { alternative = shortened (height - p.below) p.alternative } ∷ ps

-- a mark as exited
abbrev pub exited_alternative : Alternative → Alternative
exited_alternative (Resumes rest) = Resumes rest
exited_alternative (Retries left c) = Retries left c
exited_alternative (Marks p conds exited) = Marks p conds true

-- the mark with that many choices below it is exited
abbrev pub exit_points : ℕ → List ChoicePoint → List ChoicePoint
exit_points height [] = []
exit_points height (p ∷ ps) = if height == p.below then record p { alternative = exited_alternative p.alternative } ∷ ps else p ∷ exit_points height ps

-- what there is of a mark: its conditions, and whether it is exited
pub record Marked : Type 0 where
  pub conds : List ℕ
  pub exited : Bool

-- nothing of a mark
abbrev pub no_mark : Marked
no_mark = record { conds = []; exited = false }

-- what an alternative has of a mark
abbrev pub mark_in : Alternative → Marked
mark_in (Resumes rest) = no_mark
mark_in (Retries left c) = no_mark
mark_in (Marks p conds exited) = record { conds = conds; exited = exited }

-- what the choice point with that many choices below it has of a mark
abbrev pub mark_at_height : ℕ → List ChoicePoint → Marked
mark_at_height height [] = no_mark
mark_at_height height (p ∷ ps) = if height == p.below then mark_in p.alternative else mark_at_height height ps

-- what there is of a mark in the choice that was found
abbrev pub mark_seen : Option Choice → Marked
mark_seen found = record { conds = mark_conds found; exited = mark_exited found }

-- the newest choice was taken off, as a choice point of its own
pub record IsTaken (old : List ChoicePoint) (p : ChoicePoint) (new : List ChoicePoint) : Type 0 where
  pub choices : (changes : List Change) (links : List Link) (query : ℕ) → choices_of changes links query old ≡ point_choices changes links query p ++ choices_of changes links query new
  pub single : width p.alternative ≤ 1
  pub counted : AreCounted old → AreCounted new
  pub in_order : (trail : ℕ) → AreInOrder trail old → (p.trail ≤ trail) × AreInOrder p.trail new
  pub held : (links : ℕ) → AreHeld links old → (p.links ≤ links) × AreHeld p.links new
