-- The states in which a condition is due, and what tables and statuses say of them.
-- The headline does not rest on this file.
use Rattle.std.specs.Prelude.{◌≡◌, ◌<◌, ℕ, Bool, true, false, List, ◌∷◌, map, slice_get, Option, Some, Contains, IsTrue}
use Rattle.term_core.specs.declared.terms.Term.{Term, out-Term}
use Rattle.term_core.specs.Shapes.{parts_of}
use Rattle.prog_data.specs.declared.goals.Goal.{out-Goal}
use Rattle.prog_data.specs.declared.goals.Goal.TheOpen.{Call as CallGoal}
use Rattle.prog_data.specs.declared.conditions.CondKind.{CondKind}
use Rattle.prog_data.specs.declared.conditions.CondKind.TheVariants.{Calls, Success, Comp}
use Rattle.prog_data.specs.declared.conditions.CompProp.TheVariants.{NotFails, Fails, IsDet}
use Rattle.prog_data.specs.declared.programs.Program.{Program}
use Rattle.prog_data.specs.declared.tables.Status.{Status}
use Rattle.prog_data.specs.declared.tables.Status.TheVariants as status
use Rattle.prog_data.specs.declared.tables.Table.{Table}
use Rattle.prog_data.specs.Values.{seen, AreIn}
use Rattle.prog_data.specs.Conditions.{kind_of, calls_hold, post_holds}
use Rattle.prog_data.specs.Goals.{called_by, pred_of, meets_entry}
use Rattle.machine_model.specs.State.{Item, Does, Exits, Frame, Choice, Mark, Doing, Failed, State}
use Rattle.machine_model.specs.Tests.{Tests, every_condition}
use Rattle.machine_model.specs.Step.{mark_of}
use Rattle.machine_model.specs.Run.{Reaches, start_of}

-- the state is about to make this call, and the bound allows it
pub record IsCall (bound : ℕ) (s : State) (p : ℕ) (args : List Term) : Type 0 where
  pub may : s.calls < bound
  pub frame : Frame
  pub now : s.current ≡ Doing frame
  pub first : (g : _) × (h : ℕ) × (place : _) × (rest : List Item) × (frame.items ≡ Does g h place ∷ rest) × (out-Goal g ≡ CallGoal p args)

-- the state is about to make this exit
pub record IsExit (s : State) (p : ℕ) (args : List Term) (noted : List ℕ) (mark : Option ℕ) : Type 0 where
  pub frame : Frame
  pub now : s.current ≡ Doing frame
  pub first : (rest : List Item) × (frame.items ≡ Exits p args noted mark ∷ rest)

-- failure has come to this mark
pub record IsFailure (s : State) (conds : List ℕ) (exited : Bool) : Type 0 where
  pub now : s.current ≡ Failed
  pub first : (p : ℕ) × (rest : List Choice) × (s.choices ≡ Mark p conds exited ∷ rest)

-- the mark of this height is there and has the condition
pub record HasMarked (s : State) (mark : Option ℕ) (c : ℕ) (exited : Bool) : Type 0 where
  pub pred : ℕ
  pub conds : List ℕ
  pub is : mark_of mark s.choices ≡ Some (Mark pred conds exited)
  pub has : Contains conds c

module _ (program : Program) (bound : ℕ) (c : ℕ) (s : State) where
  -- the condition is due at a call, at an exit that noted it, at an exit whose mark has it, or at a mark that failure has come to; and whether it holds there
  pub data Due : Option CondKind → Bool → Type 0 where
    at_call : {ds : _} (p : ℕ) (args : List Term) → IsCall bound s p args → Contains (pred_of program p).conds c → Due (Some (Calls ds)) (calls_hold program.grammar args (Some (Calls ds)))
    at_exit : {pre post : _} (p : ℕ) (args : List Term) (noted : List ℕ) (mark : Option ℕ) → IsExit s p args noted mark → Contains noted c → Due (Some (Success pre post)) (post_holds program.grammar args (Some (Success pre post)))
    at_fails : {pre : _} (p : ℕ) (args : List Term) (noted : List ℕ) (mark : Option ℕ) (exited : Bool) → IsExit s p args noted mark → HasMarked s mark c exited → Due (Some (Comp pre Fails)) false
    at_first_exit : {pre : _} (p : ℕ) (args : List Term) (noted : List ℕ) (mark : Option ℕ) → IsExit s p args noted mark → HasMarked s mark c false → Due (Some (Comp pre IsDet)) true
    at_later_exit : {pre : _} (p : ℕ) (args : List Term) (noted : List ℕ) (mark : Option ℕ) → IsExit s p args noted mark → HasMarked s mark c true → Due (Some (Comp pre IsDet)) false
    at_not_fails : {pre : _} (p : ℕ) (args : List Term) (noted : List ℕ) (mark : Option ℕ) (exited : Bool) → IsExit s p args noted mark → HasMarked s mark c exited → Due (Some (Comp pre NotFails)) true
    at_failure : {pre : _} (conds : List ℕ) → IsFailure s conds false → Contains conds c → Due (Some (Comp pre NotFails)) false

-- a state that the run of a query that meets an entry reaches, by its tests
pub record Reached (what : Tests) (program : Program) (bound : ℕ) (s : State) : Type 0 where
  pub query : Term
  pub pred : ℕ
  pub calls : called_by program query ≡ Some pred
  pub meets : meets_entry program pred (parts_of (out-Term query)) ≡ true
  pub reaches : Reaches what program bound (start_of pred query) s

-- a point of a condition, and whether it holds there
pub record Point (what : Tests) (program : Program) (c : ℕ) (is_held : Bool) : Type 0 where
  pub bound : ℕ
  pub state : State
  pub reached : Reached what program bound state
  pub due : Due program bound c state (kind_of program c) is_held

-- what the status of a condition says of whether it holds at a point
abbrev pub Tells : Option Status → Bool → Type 0
Tells (Some status.Checked) is_held = is_held ≡ true
Tells (Some status.False) is_held = is_held ≡ false
Tells other is_held = Unit {0}

-- each status is true of each point, by its tests
abbrev pub SoundBy : Tests → Program → List Status → Type 0
SoundBy what program statuses = (c : ℕ) (is_held : Bool) → Point what program c is_held → Tells (slice_get statuses c) is_held

-- each status is true of each point of the run that tests every condition
abbrev pub Sound : Program → List Status → Type 0
Sound program = SoundBy (every_condition program) program

-- the table describes each call and each exit that a reached state is about to make
pub record Described (program : Program) (table : Table) : Type 0 where
  pub calls : (bound : ℕ) (s : State) (p : ℕ) (args : List Term) → Reached (every_condition program) program bound s → IsCall bound s p args →
      (row : _) × (slice_get table.rows p ≡ Some row) × IsTrue row.reached × AreIn program.grammar args (map seen row.entry)
  pub exits : (bound : ℕ) (s : State) (p : ℕ) (args : List Term) (noted : List ℕ) (mark : Option ℕ) → Reached (every_condition program) program bound s → IsExit s p args noted mark →
      (row : _) × (slice_get table.rows p ≡ Some row) × IsTrue row.exits × AreIn program.grammar args (map seen row.exit)
