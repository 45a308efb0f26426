-- That a state and a leaner one tell the same, and how leaner states are found.
-- The headline does not rest on this file.
use Rattle.std.specs.Prelude.{◌≡◌, ◌≤◌, ◌<◌, ℕ, ◌+◌, suc, nat_le, Bool, false, List, [], ◌∷◌, ◌++◌, map, length, None, Some, if◌then◌else◌}
use Rattle.term_core.specs.declared.terms.Term.{Term, Var, Atom}
use Rattle.term_core.specs.declared.equations.Equation.{Equation}
use Rattle.term_core.specs.declared.equations.Binding.{Binding}
use Rattle.term_core.specs.declared.equations.Outcome.TheVariants.{Solved}
use Rattle.term_core.specs.Terms.{instance, rename, above}
use Rattle.term_core.specs.Unify.{pairs, values, Unified}
use Rattle.term_core.specs.Variants.{IsMostGeneral}
use Rattle.prog_data.specs.declared.goals.Goal.{Goal, out-Goal}
use Rattle.prog_data.specs.declared.goals.Goal.TheOpen.{Call as CallGoal}
use Rattle.prog_data.specs.declared.programs.Clause.{Clause}
use Rattle.prog_data.specs.declared.programs.Place.{Place}
use Rattle.prog_data.specs.declared.programs.Program.{Program}
use Rattle.prog_data.specs.declared.events.Event.{Event}
use Rattle.prog_data.specs.declared.events.Ending.{Ending}
use Rattle.prog_data.specs.Programs.{IsProgram}
use Rattle.machine_model.specs.State.{Item, Does, CutTo, Exits, Frame, Call, Choice, Resume, Try, Mark, Current, Doing, Solving, Failed, State, Going, frame_instance}
use Rattle.machine_model.specs.Tests.{Tests}
use Rattle.machine_model.specs.Step.{entered, frame_of, tries, with_mark, mark_height}
use Rattle.machine_model.specs.Run.{RunsFrom, Reaches, start_of}
use Rattle.machine_model.specs.Continues.{at_phase, Leads}
use Rattle.machine_model.specs.Leaner.{clause_at, CannotMatch, IsLeaner}

-- by whatever tests, runs from either state tell the same events and the same ending, and make as many tests; the second state's takes no more steps
pub record TellTheSame (program : Program) (s s' : State) : Type 0 where
  pub forth : (what : Tests) (bound : ℕ) (events : List Event) (tests : ℕ) (e : Ending) → RunsFrom what program bound s' events tests e → RunsFrom what program bound s events tests e
  pub back : (what : Tests) (bound : ℕ) (events : List Event) (tests : ℕ) (e : Ending) → (run : RunsFrom what program bound s events tests e) → (run' : RunsFrom what program bound s' events tests e) × (run'.count ≤ run.count)

-- the law of leaner states, for a program in range
abbrev pub LeanerTellsTheSame : Type 0
LeanerTellsTheSame = (program : Program) → IsProgram program → (s s' : State) → IsLeaner program s s' → TellTheSame program s s'

-- variables below a number

-- each variable below n for itself, and an atom for the others
abbrev pub below : ℕ → ℕ → Term
below n v = if nat_le n v then Atom 0 else Var v

-- all variables of the frame are below n
abbrev pub IsFrameBelow : ℕ → Frame → Type 0
IsFrameBelow n f = frame_instance (below n) f ≡ f

-- all variables of the call and of the frame behind it are
abbrev pub IsCallBelow : ℕ → Call → Type 0
IsCallBelow n c = (map (instance (below n)) c.args ≡ c.args) × IsFrameBelow n c.rest

-- all variables of the choices are
abbrev pub AreBelow : ℕ → List Choice → Type 0
AreBelow n [] = Unit {0}
AreBelow n (Resume f ∷ cs) = IsFrameBelow n f × AreBelow n cs
AreBelow n (Try k call ∷ cs) = IsCallBelow n call × AreBelow n cs
AreBelow n (Mark p conds e ∷ cs) = AreBelow n cs

-- no equations are being solved, and all variables of the current frame are
abbrev pub IsCurrentBelow : ℕ → Current → Type 0
IsCurrentBelow n (Doing f) = IsFrameBelow n f
IsCurrentBelow n (Solving place stage f) = ⊥
IsCurrentBelow n Failed = Unit {0}

-- what is left out

-- no equations are being solved
abbrev pub IsDone : Current → Type 0
IsDone (Doing f) = Unit {0}
IsDone Failed = Unit {0}
IsDone (Solving place stage f) = ⊥

-- the items without the exits that test nothing
abbrev pub lean : List Item → List Item
lean [] = []
lean (Does g h place ∷ is) = Does g h place ∷ lean is
lean (CutTo h ∷ is) = CutTo h ∷ lean is
lean (Exits p args [] None ∷ is) = lean is
lean (Exits p args [] (Some h) ∷ is) = Exits p args [] (Some h) ∷ lean is
lean (Exits p args (c ∷ noted) mark ∷ is) = Exits p args (c ∷ noted) mark ∷ lean is

-- a Try for each clause that is chosen by its number, the first one newest
abbrev pub chosen : (ℕ → Bool) → ℕ → List Clause → Call → List Choice
chosen chooses k [] call = []
chosen chooses k (c ∷ cs) call = if chooses k then Try k call ∷ chosen chooses (suc k) cs call else chosen chooses (suc k) cs call

-- of so many clauses from the first, those that are not chosen cannot match
abbrev pub OthersCannotMatch : Program → (ℕ → Bool) → (first count : ℕ) → Call → Type 0
OthersCannotMatch program chooses first count call = (k : ℕ) → first ≤ k → k < first + count → chooses k ≡ false → CannotMatch program k call

-- a state before a clause of a call is tried
abbrev pub before_try : (made n k : ℕ) → Call → List Choice → State
before_try made n k call cs = record { calls = made; fresh = n; choices = Try k call ∷ cs; current = Failed }

-- the state after its equations were solved, with these values of variables
abbrev pub after_try : Tests → Program → (bound made n : ℕ) → Clause → Call → List Choice → (ℕ → Term) → State
after_try what program bound made n clause call cs value = record { calls = made; fresh = n + clause.vars; choices = cs; current = Doing (frame_instance value (entered what program bound n clause call)) }

-- the equations of a clause that is tried
abbrev pub head_equations : ℕ → Clause → Call → List Equation
head_equations n clause call = pairs call.args (map (rename n) clause.head)

-- a state before a goal
abbrev pub before_goal : (made n : ℕ) → List Choice → Goal → (height : ℕ) → Place → Frame → State
before_goal made n cs g h place rest = record { calls = made; fresh = n; choices = cs; current = Doing (frame_of (Does g h place ∷ rest.items) rest) }

-- a call of a predicate above these choices, with these notes and a mark of these conditions
abbrev pub call_above : List Choice → (pred : ℕ) → (args : List Term) → (noted marked : List ℕ) → Frame → Call
call_above cs p args noted marked rest = record { pred = p; args = args; noted = noted; mark = mark_height marked cs; height = length (with_mark p marked cs); rest = rest }

-- the state after a call, with these clauses to try
abbrev pub after_call : (made n : ℕ) → List Choice → (pred : ℕ) → (marked : List ℕ) → List Choice → State
after_call made n cs p marked clauses = record { calls = suc made; fresh = n; choices = clauses ++ with_mark p marked cs; current = Failed }

-- how leaner states are found; a state that is its own leaner one has its heights in order, and its variables below its next one
pub record LeanerStates (program : Program) : Type 0 where
  -- the start, with any greater number above its variables
  pub start : (p : ℕ) (query : Term) (n : ℕ) → above query ≤ n → IsLeaner program (start_of p query) (record (start_of p query) { fresh = n })
  -- a leaner state is its own leaner one
  pub own : (s s' : State) → IsLeaner program s s' → IsLeaner program s' s'
  -- so is each state that such a state reaches, if no equations are being solved there
  pub reached : (what : Tests) (bound : ℕ) (s s' : State) → IsLeaner program s s → Reaches what program bound s s' → IsDone s'.current → IsLeaner program s' s'
  -- any number above the variables of the leaner state may be its next one
  pub lower : (n : ℕ) (s s' : State) → AreBelow n s'.choices → IsCurrentBelow n s'.current → IsLeaner program s s' → IsLeaner program s (record s' { fresh = n })
  -- exits that test nothing may be left out of the current frame
  pub without_exits : (s s' : State) (f : Frame) → s'.current ≡ Doing f → IsLeaner program s s' → IsLeaner program s (record s' { current = Doing (frame_of (lean f.items) f) })
  -- the equations of a clause may be solved by any most general values
  pub tried : (what : Tests) (bound made n k : ℕ) (clause : Clause) (call : Call) (cs : List Choice) (bs : List Binding) (value : ℕ → Term) →
      clause_at program call.pred k ≡ Some clause → IsLeaner program (before_try made n k call cs) (before_try made n k call cs) → Unified (head_equations n clause call) (Solved bs) → IsMostGeneral (head_equations n clause call) value →
      IsLeaner program (after_try what program bound made n clause call cs (values bs)) (after_try what program bound made n clause call cs value)
  -- clauses that cannot match may be left out at a call
  pub called : (made n p : ℕ) (g : Goal) (args : List Term) (noted marked : List ℕ) (h : ℕ) (place : Place) (cs : List Choice) (rest : Frame) (clauses : List Clause) (chooses : ℕ → Bool) →
      out-Goal g ≡ CallGoal p args → IsLeaner program (before_goal made n cs g h place rest) (before_goal made n cs g h place rest) → OthersCannotMatch program chooses 0 (length clauses) (call_above cs p args noted marked rest) →
      IsLeaner program (after_call made n cs p marked (tries 0 clauses (call_above cs p args noted marked rest))) (after_call made n cs p marked (chosen chooses 0 clauses (call_above cs p args noted marked rest)))
  -- states that tell the same follow one another
  pub onward : (s s' s'' : State) → TellTheSame program s s' → TellTheSame program s' s'' → TellTheSame program s s''
  -- and what is left of a run is then left of the other
  pub leads : (s s' : State) → TellTheSame program s s' → (what : Tests) (bound : ℕ) → Leads what program bound (at_phase (Going s)) [] 0 (at_phase (Going s'))

-- how leaner states are found, for a program in range
abbrev pub LeanerStatesAreFound : Type 0
LeanerStatesAreFound = (program : Program) → IsProgram program → LeanerStates program
