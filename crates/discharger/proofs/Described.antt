-- What a closed table says of each part of a state: the invariant of runs.
use Rattle.std.proofs.Common.{◌≡◌, ℕ, Bool, true, List, [], ◌∷◌, map}
use Rattle.std.specs.Prelude.{None, Some, IsTrue}
use Rattle.std.specs.List.{AllByRecursion}
use Rattle.term_core.specs.declared.terms.Term.{Term}
use Rattle.term_core.specs.declared.equations.Outcome.TheVariants.{Solved}
use Rattle.term_core.specs.declared.equations.Binding.{Binding}
use Rattle.term_core.specs.Terms.{instance}
use Rattle.term_core.specs.Unify.{Ended, solves, values}
use Rattle.prog_data.specs.declared.goals.Goal.{Goal}
use Rattle.prog_data.specs.declared.conditions.Prop.{Prop}
use Rattle.prog_data.specs.declared.conditions.CondKind.TheVariants.{Success}
use Rattle.prog_data.specs.declared.programs.Program.{Program}
use Rattle.prog_data.specs.Conditions.{kind_of}
use Rattle.prog_data.specs.Goals.{goal_instance, pred_of}
use Rattle.prog_data.specs.Values.{TypeValue, AreIn}
use Rattle.prog_data.proofs.Leaves.{In}
use Rattle.name_order.specs.Relations.{order}
use Rattle.machine_model.specs.State.{Item, Does, CutTo, Exits, Call, Choice, Resume, Try, Mark, Current, Doing, Solving, Failed, State, frame_instance}
use Rattle.goal_transfer.specs.Transfer.{Values, Known, Outcome, from_known, behind_call, run_goal, term_value}
use Rattle.goal_transfer.specs.Conditions.{all_implied, types_of, narrowed_entry}
use Rattle.goal_transfer.specs.Tables.{Facts, facts_of, exits_of, HasExit, IsReached}
use Rattle.discharger.proofs.Narrowing.{narrowing}
use Rattle.discharger.proofs.InValues.{AllIn}

module _ (stops : Bool) (program : Program) (rows : List Facts) where
  -- what comes of a goal from what is known on
  abbrev pub run : Known → Goal → Outcome
  run k g = from_known k (run_goal (order program.grammar) (exits_of (narrowing stops program) (order program.grammar) rows) g)

  -- behind the exit of a call
  abbrev pub resumed : ℕ → List Term → Values → Known
  resumed p ts vs = behind_call (order program.grammar) (exits_of (narrowing stops program) (order program.grammar) rows) (exits_of (narrowing stops program) (order program.grammar) rows p) ts vs

  -- an exit with these arguments has the head's terms as its arguments, and values that its row has; where none is known no exit comes
  abbrev pub ExitsAs : (ℕ → Term) → List Term → Known → ℕ → List Term → Type 0
  ExitsAs value head None p args = Unit {0}
  ExitsAs value head (Some vs) p args = (map (instance value) head ≡ args) × HasExit (facts_of rows p) (Some (map (term_value (order program.grammar) vs) head))

  -- the conditions noted at a call: each success condition whose Pre the row's entry implies; and each is one of the predicate's, whose Pre's types the arguments are in
  pub record NotedAt (p : ℕ) (args : List Term) (noted : List ℕ) : Type 0 where
    pub implied : (c : ℕ) (pre post : List Prop) → In c (pred_of program p).conds → kind_of program c ≡ Some (Success pre post) → all_implied (order program.grammar) (facts_of rows p).entry pre ≡ true → In c noted
    pub own : (c : ℕ) → In c noted → In c (pred_of program p).conds
    pub pre : (c : ℕ) (pre post : List Prop) → In c noted → kind_of program c ≡ Some (Success pre post) → AreIn program.grammar args (types_of (order program.grammar) (pred_of program p).arity pre)

  -- a call whose exit is to come: under some values of its clause's variables, which are in what was known before it; and what comes behind
  pub record Behind (Goes : (ℕ → Term) → List Term → Known → Type 0) (p : ℕ) (args : List Term) : Type 0 where
    pub value : ℕ → Term
    pub head : List Term
    pub known : Values
    pub terms : List Term
    pub called : map (instance value) terms ≡ args
    pub belong : AllIn program.grammar value known
    pub goes : Goes value head (resumed p terms known)

  -- a goal under these values, which from what is known reaches only calls of the table; and what comes behind it
  pub record GoalDescribed (Goes : Known → Type 0) (value : ℕ → Term) (k : Known) (h : Goal) : Type 0 where
    pub goal : Goal
    pub is : goal_instance value goal ≡ h
    pub calls : AllByRecursion (IsReached rows) (run k goal).calls
    pub goes : Goes (run k goal).known

  -- an exit with these arguments and noted conditions, and what comes behind it
  pub record ExitDescribed (Goes : (ℕ → Term) → List Term → Known → Type 0) (value : ℕ → Term) (head : List Term) (k : Known) (p : ℕ) (args : List Term) (notes : List ℕ) : Type 0 where
    pub exits : ExitsAs value head k p args
    pub noted : NotedAt p args notes
    pub rest : Behind Goes p args

  -- from what is known of a clause's variables, with these values and this head, the items reach only what the table has
  abbrev pub ItemsDescribed : (ℕ → Term) → List Term → Known → List Item → Type 0
  ItemsDescribed value head k [] = Unit {0}
  ItemsDescribed value head k (Does h height place ∷ items) = GoalDescribed (λ l. ItemsDescribed value head l items) value k h
  ItemsDescribed value head k (CutTo height ∷ items) = ItemsDescribed value head k items
  ItemsDescribed value head k (Exits p args noted mark ∷ items) = ExitDescribed (λ w h l. ItemsDescribed w h l items) value head k p args noted

  -- a frame, with values of variables that are in what is known of them
  pub record FrameDescribed (items : List Item) : Type 0 where
    pub value : ℕ → Term
    pub head : List Term
    pub known : Values
    pub belong : AllIn program.grammar value known
    pub goes : ItemsDescribed value head (Some known) items

  -- a call of which clauses are still to be tried
  pub record CallDescribed (call : Call) : Type 0 where
    pub reached : IsTrue (facts_of rows call.pred).reached
    pub entered : AreIn program.grammar call.args (facts_of rows call.pred).entry
    pub entry : List TypeValue
    pub narrowed : narrowed_entry (narrowing stops program) (order program.grammar) call.pred (facts_of rows call.pred).entry ≡ Some entry
    pub args : AreIn program.grammar call.args entry
    pub noted : NotedAt call.pred call.args call.noted
    pub rest : Behind (λ w h l. ItemsDescribed w h l call.rest.items) call.pred call.args

  -- a mark is of a call that was made, and has conditions of its predicate
  abbrev pub ChoiceDescribed : Choice → Type 0
  ChoiceDescribed (Resume frame) = FrameDescribed frame.items
  ChoiceDescribed (Try clause call) = CallDescribed call
  ChoiceDescribed (Mark p conds exited) = IsTrue (facts_of rows p).reached × ((c : ℕ) → In c conds → In c (pred_of program p).conds)

  -- a frame whose equations are being solved is described under each solution
  abbrev pub CurrentDescribed : Current → Type 0
  CurrentDescribed (Doing frame) = FrameDescribed frame.items
  CurrentDescribed (Solving place stage frame) = (k : ℕ) (bs : List Binding) → solves k stage ≡ Ended (Solved bs) → FrameDescribed (frame_instance (values bs) frame).items
  CurrentDescribed Failed = Unit {0}

  pub record StateDescribed (s : State) : Type 0 where
    pub choices : AllByRecursion ChoiceDescribed s.choices
    pub current : CurrentDescribed s.current
