-- What holds of links and choice points now, and at the moment of each choice point: the cells, links and notes that they name were there.
-- The headline does not rest on this file.
use Rattle.std.specs.Prelude.{◌≡◌, ◌≤◌, ◌<◌, ◌+◌, ◌-◌, ℕ, ◌==◌, Bool, true, false, List, [], ◌∷◌, ◌++◌, map, drop, reverse, length, Option, None, Some, ⊤}
use Rattle.prog_data.specs.declared.goals.Goal.{Goal}
use Rattle.prog_data.specs.declared.programs.Program.{Program}
use Rattle.prog_data.specs.Goals.{pred_of}
use Rattle.prog_data.specs.Ranges.{is_goal_of, is_pred_of}
use Rattle.clause_index.specs.declared.keys.Key.{Key}
use Rattle.clause_index.specs.Selected.{program_keys}
use Rattle.term_heap.specs.Changes.{Change, size_of, undone}
use Rattle.engine_state.specs.declared.tasks.Row.{Row}
use Rattle.engine_state.specs.declared.tasks.Exit as code_exit
use Rattle.engine_state.specs.declared.tasks.Task as code_task
use Rattle.engine_state.specs.declared.tasks.Task.TheVariants as task
use Rattle.engine_state.specs.declared.tasks.Link as code_link
use Rattle.engine_state.specs.declared.points.Alternative as code_alternative
use Rattle.engine_state.specs.declared.points.Alternative.TheVariants as alternative
use Rattle.engine_state.specs.declared.points.ChoicePoint as code_point
use Rattle.engine_state.specs.Engines.{AreInOrder, AreHeld}
use Rattle.engine_state.specs.Selections.{selected_at}
use Rattle.engine_state.specs.Stacks.{AreCounted}
use Rattle.engine_state.specs.Views.{as_point, LeadDown}
use Rattle.engine_state.specs.Newest.{AreRising}
use Rattle.engine_state.specs.Notes.{IsTaskNoted, IsAlternativeNoted, AreLinksNoted, ArePointsNoted}

-- whether so many notes and this mark are nothing to be tested
abbrev pub is_idle_by : Option ℕ → (noted : ℕ) → Bool
is_idle_by None noted = noted == 0
is_idle_by (Some h) noted = false

-- whether an exit tests nothing
abbrev pub is_idle : code_exit.Exit → Bool
is_idle e = is_idle_by e.mark e.noted.count

-- how many links the newest choice point holds
abbrev pub links_held : List code_point.ChoicePoint → ℕ
links_held [] = 0
links_held (p ∷ ps) = p.links

-- how many notes it holds
abbrev pub notes_held : List code_point.ChoicePoint → ℕ
notes_held [] = 0
notes_held (p ∷ ps) = p.notes

-- how many notes the newest link and those below it use
abbrev pub notes_used : List code_link.Link → ℕ
notes_used [] = 0
notes_used (l ∷ older) = l.notes

-- an alternative stands for one choice at least
abbrev pub IsWide : code_alternative.Alternative → Type 0
IsWide (alternative.Resumes rest) = ⊤
IsWide (alternative.Retries key next end c) = next < end
IsWide (alternative.Marks p conds exited) = ⊤

module _ (program : Program) where
  -- a call's predicate is there, it has as many arguments, and their cells are among so many
  pub record IsCallPlaced (cells pred : ℕ) (args : Row) : Type 0 where
    pub there : is_pred_of program pred ≡ true
    pub count : args.count ≡ (pred_of program pred).arity
    pub within : args.first + args.count ≤ cells

  -- a goal is in range, and its variables are places from a base on, among so many
  abbrev pub IsGoalPlaced : ℕ → Goal → (base : ℕ) → Type 0
  IsGoalPlaced cells goal base = (vars : ℕ) × (is_goal_of program vars goal ≡ true) × (base + vars ≤ cells)

  -- a task's goal is in range, its cells are among so many, and an exit tests something
  abbrev pub IsTaskPlaced : ℕ → code_task.Task → Type 0
  IsTaskPlaced cells (task.Runs goal base h place) = IsGoalPlaced cells goal.now base
  IsTaskPlaced cells (task.Cuts h) = ⊤
  IsTaskPlaced cells (task.Fails h place) = ⊤
  IsTaskPlaced cells (task.Leaves e) = IsCallPlaced cells e.pred e.args × (is_idle e ≡ false)

  -- a link's cells, notes and next link are among so many
  pub record IsLinkPlaced (cells notes links : ℕ) (l : code_link.Link) : Type 0 where
    pub placed : IsTaskPlaced cells l.task
    pub noted : IsTaskNoted notes l.task
    pub next : l.next ≤ links

  -- an alternative has its cells among so many, its link among so many, and its clauses among those that are selected
  abbrev pub IsAlternativePlaced : (cells links : ℕ) → code_alternative.Alternative → Type 0
  IsAlternativePlaced cells links (alternative.Resumes rest) = rest ≤ links
  IsAlternativePlaced cells links (alternative.Retries key next end c) = IsCallPlaced cells c.exit.pred c.exit.args × (end ≤ length (selected_at (program_keys program) c.exit.pred key)) × (c.rest ≤ links)
  IsAlternativePlaced cells links (alternative.Marks p conds exited) = ⊤

  -- links lead down, their cells are among so many, and their notes among so many that no older one has more; the newest stands first
  abbrev pub ArePlaced : (cells notes : ℕ) → List code_link.Link → Type 0
  ArePlaced cells notes [] = ⊤
  ArePlaced cells notes (l ∷ older) = IsTaskPlaced cells l.task × IsTaskNoted l.notes l.task × (l.notes ≤ notes) × (l.next ≤ length older) × ArePlaced cells l.notes older

  -- the query is a cell, and links are placed
  abbrev pub IsMoment : (query cells notes : ℕ) → List code_link.Link → Type 0
  IsMoment query cells notes links = (query < cells) × ArePlaced cells notes links

  -- a choice point was made when there were no more changes, links and notes than now, names only what there was then, and stands for one choice at least
  pub record IsMadeBefore (changes : List Change) (notes : ℕ) (links : List code_link.Link) (p : code_point.ChoicePoint) : Type 0 where
    pub trail : p.trail ≤ length changes
    pub fewer_links : p.links ≤ length links
    pub fewer_notes : p.notes ≤ notes
    pub placed : IsAlternativePlaced (size_of (undone p.trail changes)) p.links p.alternative
    pub noted : IsAlternativeNoted p.notes p.alternative
    pub wide : IsWide p.alternative

  -- so now, and at the moment of each choice point, with what there was then
  abbrev pub Moments : (query : ℕ) → List Change → (notes : ℕ) → List code_link.Link → List code_point.ChoicePoint → Type 0
  Moments query changes notes links [] = IsMoment query (size_of changes) notes links
  Moments query changes notes links (p ∷ ps) = IsMoment query (size_of changes) notes links × IsMadeBefore changes notes links p × Moments query (undone p.trail changes) p.notes (drop (length links - p.links) links) ps

  -- so of what the code has, its last the newest
  abbrev pub HasMoments : (query : ℕ) → List Change → List ℕ → List code_link.Link → List code_point.ChoicePoint → Type 0
  HasMoments query changes notes links points = Moments query changes (length notes) (reverse links) (reverse points)

  -- an alternative may stand in the place of another
  pub record MayBecome (old new : code_alternative.Alternative) : Type 0 where
    pub placed : (cells links : ℕ) → IsAlternativePlaced cells links old → IsAlternativePlaced cells links new
    pub noted : (held : ℕ) → IsAlternativeNoted held old → IsAlternativeNoted held new
    pub wide : IsWide old → IsWide new

  -- a choice was taken off: it was made before, and at its moment the others have their moments
  pub record HasItsMoment (query : ℕ) (changes : List Change) (notes : List ℕ) (links : List code_link.Link) (p : code_point.ChoicePoint) (left : List code_point.ChoicePoint) : Type 0 where
    pub before : IsMadeBefore changes (length notes) (reverse links) p
    pub moments : Moments query (undone p.trail changes) p.notes (drop (length links - p.links) (reverse links)) (reverse left)

-- what keeps that; lists stand with the newest first
pub record MomentsStay (program : Program) : Type 0 where
  -- changes are made
  pub later : (query : ℕ) (more changes : List Change) (notes : ℕ) (links : List code_link.Link) (points : List code_point.ChoicePoint) → Moments program query changes notes links points → Moments program query (more ++ changes) notes links points
  -- the newest choice point is taken off
  pub off : (query : ℕ) (changes : List Change) (notes : ℕ) (links : List code_link.Link) (p : code_point.ChoicePoint) (ps : List code_point.ChoicePoint) → Moments program query changes notes links (p ∷ ps) → Moments program query changes notes links ps
  -- the newest moment is gone back to
  pub back : (query : ℕ) (changes : List Change) (notes : ℕ) (links : List code_link.Link) (p : code_point.ChoicePoint) (ps : List code_point.ChoicePoint) → Moments program query changes notes links (p ∷ ps) →
      Moments program query (undone p.trail changes) p.notes (drop (length links - p.links) links) ps
  -- a choice point is made now
  pub made : (query : ℕ) (changes : List Change) (notes : ℕ) (links : List code_link.Link) (p : code_point.ChoicePoint) (ps : List code_point.ChoicePoint) → p.trail ≡ length changes → p.links ≡ length links → p.notes ≡ notes →
      IsAlternativePlaced program (size_of changes) (length links) p.alternative → IsAlternativeNoted notes p.alternative → IsWide p.alternative → Moments program query changes notes links ps → Moments program query changes notes links (p ∷ ps)
  -- notes are added
  pub more_notes : (query : ℕ) (changes : List Change) (notes more : ℕ) (links : List code_link.Link) (points : List code_point.ChoicePoint) → notes ≤ more → Moments program query changes notes links points → Moments program query changes more links points
  -- a link is added, which may use all notes
  pub added : (query : ℕ) (changes : List Change) (notes : ℕ) (l : code_link.Link) (links : List code_link.Link) (points : List code_point.ChoicePoint) → IsTaskPlaced program (size_of changes) l.task → IsTaskNoted notes l.task →
      l.notes ≡ notes → l.next ≤ length links → Moments program query changes notes links points → Moments program query changes notes (l ∷ links) points
  -- links are let go that no choice point holds, and notes that neither the newest link that is left nor the newest choice point uses
  pub let_go : (query : ℕ) (changes : List Change) (notes left n : ℕ) (links : List code_link.Link) (points : List code_point.ChoicePoint) → n ≤ length links → links_held points ≤ length links - n → notes_used (drop n links) ≤ left → notes_held points ≤ left →
      Moments program query changes notes links points → Moments program query changes left (drop n links) points

-- what follows of choice points and links that have their moments
pub record MomentsGive (program : Program) : Type 0 where
  pub in_order : (index : List (List Key)) (all : List ℕ) (query : ℕ) (changes : List Change) (notes : ℕ) (links : List code_link.Link) (points : List code_point.ChoicePoint) → Moments program query changes notes links points → AreInOrder (length changes) (map (as_point index all) points)
  pub held : (index : List (List Key)) (all : List ℕ) (query : ℕ) (changes : List Change) (notes : ℕ) (links : List code_link.Link) (points : List code_point.ChoicePoint) → Moments program query changes notes links points → AreHeld (length links) (map (as_point index all) points)
  pub down : (query : ℕ) (changes : List Change) (notes : ℕ) (links : List code_link.Link) (points : List code_point.ChoicePoint) → Moments program query changes notes links points → LeadDown links
  pub links_noted : (query : ℕ) (changes : List Change) (notes : ℕ) (links : List code_link.Link) (points : List code_point.ChoicePoint) → Moments program query changes notes links points → AreLinksNoted notes links
  pub points_noted : (query : ℕ) (changes : List Change) (notes : ℕ) (links : List code_link.Link) (points : List code_point.ChoicePoint) → Moments program query changes notes links points → ArePointsNoted notes points
  pub rising : (index : List (List Key)) (all : List ℕ) (query : ℕ) (changes : List Change) (notes : ℕ) (links : List code_link.Link) (points : List code_point.ChoicePoint) → Moments program query changes notes links points → AreCounted (map (as_point index all) points) → AreRising (reverse points)
