-- One step of a run.
use Rattle.std.specs.Prelude.{ℕ, suc, ◌+◌, nat_le, Bool, true, false, not, List, [], ◌∷◌, ◌++◌, map, length, filter, slice_get, slice_index_or, if◌then◌else◌, Option, None, Some, ℤ, int_lt, int_le, Ok, Err}
use Rattle.std.specs.Ordering.{int_eq}
use Rattle.std.specs.Str.{byte}
use Rattle.term_core.specs.declared.fixed.TheConstants.{NIL}
use Rattle.term_core.specs.declared.terms.Term.{Term, out-Term}
use Rattle.term_core.specs.declared.terms.Term as term
use Rattle.term_core.specs.declared.terms.Term.TheOpen as layer
use Rattle.term_core.specs.declared.equations.Outcome.TheVariants.{Solved, Clash, Cyclic}
use Rattle.term_core.specs.Terms.{higher, rename, numbered, same, is_ground, is_variable}
use Rattle.term_core.specs.Unify.{Stage, Open, Ended, pairs, solve, values}
use Rattle.term_core.specs.Printing.{Printed}
use Rattle.term_core.specs.Shapes.{is_atom}
use Rattle.prog_data.specs.declared.goals.Goal.{Goal, out-Goal}
use Rattle.prog_data.specs.declared.goals.Goal as goal
use Rattle.prog_data.specs.declared.goals.Goal.TheOpen.{Goal-F, True, Fail, Cut, Call as CallGoal, Builtin as BuiltinGoal, Conj, Disj, IfElse, Not, Exit}
use Rattle.prog_data.specs.declared.goals.Builtin.{Builtin}
use Rattle.prog_data.specs.declared.goals.Builtin.TheVariants as builtin
use Rattle.prog_data.specs.declared.programs.Clause.{Clause}
use Rattle.prog_data.specs.declared.programs.Pred.{Pred}
use Rattle.prog_data.specs.declared.programs.Place.{Place}
use Rattle.prog_data.specs.declared.programs.Program.{Program}
use Rattle.prog_data.specs.declared.events.Event.{Event}
use Rattle.prog_data.specs.declared.events.Event.TheVariants.{Out, Answer, Broken}
use Rattle.prog_data.specs.declared.events.Ending.TheVariants as ending
use Rattle.prog_data.specs.declared.events.ArithKind.{ArithKind}
use Rattle.prog_data.specs.Arithmetic.{Number, value}
use Rattle.prog_data.specs.Membership.{belongs}
use Rattle.prog_data.specs.Conditions.{kind_of, calls_hold, pre_holds, post_holds, exit_breaks, failure_breaks}
use Rattle.prog_data.specs.Goals.{goal_instance, pred_of, without_exit}
use Rattle.machine_model.specs.State.{Item, Does, CutTo, Exits, Frame, Call, Choice, Resume, Try, Mark, Current, Doing, Solving, Failed, State, Phase, Going, Over, Trace, frame_instance, cut, choice_at, exit_mark}
use Rattle.machine_model.specs.Tests.{Tests}

-- built-ins

-- what a built-in does to its frame
pub data Effect : Type 0 where
  Succeeds : Effect
  Fails : Effect
  Writes : List ℕ → Effect
  Equates : Term → Term → Effect
  Becomes : Goal → Effect
  Faults : ArithKind → Effect

-- a test succeeds where it is true
abbrev pub truth : Bool → Effect
truth true = Succeeds
truth false = Fails

-- what is done with a number, or its fault
abbrev pub with_value : (ℤ → Effect) → Number → Effect
with_value f (Ok n) = f n
with_value f (Err fault) = Faults fault

-- a comparison of two values, the left one taken first
abbrev pub compare : (ℤ → ℤ → Bool) → Term → Term → Effect
compare test a b = with_value (λ x. with_value (λ y. truth (test x y)) (value b)) (value a)

-- whether a term is an integer
abbrev pub is_integer : layer.Term-F Term → Bool
is_integer (layer.Int n) = true
is_integer other = false

module _ (program : Program) where
  -- what a built-in does, by its first two arguments; one that is not there counts as `[]`
  abbrev pub effect : Builtin → Term → Term → Effect
  effect builtin.Unify a b = Equates a b
  effect builtin.NotUnify a b = Becomes (goal.Not (goal.Builtin builtin.Unify (a ∷ b ∷ [])))
  effect builtin.Same a b = truth (same a b)
  effect builtin.NotSame a b = truth (not (same a b))
  effect builtin.Is a b = with_value (λ n. Equates a (term.Int n)) (value b)
  effect builtin.Less a b = compare int_lt a b
  effect builtin.Greater a b = compare (λ x y. int_lt y x) a b
  effect builtin.LessEq a b = compare int_le a b
  effect builtin.GreaterEq a b = compare (λ x y. int_le y x) a b
  effect builtin.NumEq a b = compare int_eq a b
  effect builtin.NumNotEq a b = compare (λ x y. not (int_eq x y)) a b
  effect builtin.Integer a b = truth (is_integer (out-Term a))
  effect builtin.Atom a b = truth (is_atom (out-Term a))
  effect builtin.Write a b = Writes (Printed program.names program.ops false (numbered a))
  effect builtin.Writeq a b = Writes (Printed program.names program.ops true (numbered a))
  effect builtin.Nl a b = Writes (byte "\n" ∷ [])
  effect (builtin.Belongs n) a b = truth (belongs program.grammar a n)
  effect builtin.IsVar a b = truth (is_variable (out-Term a))
  effect builtin.IsNonvar a b = truth (not (is_variable (out-Term a)))
  effect builtin.IsGround a b = truth (is_ground a)

-- what a step leads to

-- a step without event and test
abbrev pub quietly : Phase → Trace
quietly p = record { events = []; tests = 0; phase = p }

-- a step with one event
abbrev pub telling : Event → Phase → Trace
telling e p = record { events = e ∷ []; tests = 0; phase = p }

-- the run goes on with these choices and this current
abbrev pub going : State → List Choice → Current → Phase
going s cs now = Going (record s { choices = cs; current = now })

-- tests

-- what a test of a condition finds: that it holds, that it is broken, or that this is not known within the bound
pub data Finding : Type 0 where
  Holds : Finding
  Breaks : Finding
  Unknown : Finding

-- a condition whose test has an answer holds or is broken
abbrev pub finding : Bool → Finding
finding true = Holds
finding false = Breaks

-- a test that counts so much and finds this of a condition, before what comes after it: a broken condition ends the run or is told, and one that is not known within the bound ends it
abbrev pub after_test : (stops : Bool) → (counts : ℕ) → (cond : ℕ) → Finding → Trace → Trace
after_test stops counts c Holds next = record next { tests = counts + next.tests }
after_test true counts c Breaks next = record { events = []; tests = counts; phase = Over (ending.Violated c) }
after_test false counts c Breaks next = record { events = Broken c ∷ next.events; tests = counts + next.tests; phase = next.phase }
after_test stops counts c Unknown next = record { events = []; tests = counts; phase = Over ending.Bound }

-- conditions are tested in order, and then this comes
abbrev pub after_tests : (stops : Bool) → (counts : ℕ) → (ℕ → Finding) → List ℕ → Trace → Trace
after_tests stops counts find [] next = next
after_tests stops counts find (c ∷ cs) next = after_test stops counts c (find c) (after_tests stops counts find cs next)

-- calls

-- the frame with these items in place of its own
abbrev pub frame_of : List Item → Frame → Frame
frame_of items f = record f { items = items }

-- a Try for each clause, the first one newest
abbrev pub tries : ℕ → List Clause → Call → List Choice
tries k [] call = []
tries k (c ∷ cs) call = Try k call ∷ tries (suc k) cs call

-- the choices with a mark of these conditions, if there are any
abbrev pub with_mark : ℕ → List ℕ → List Choice → List Choice
with_mark p [] cs = cs
with_mark p (c ∷ conds) cs = Mark p (c ∷ conds) false ∷ cs

-- the height of that mark
abbrev pub mark_height : List ℕ → List Choice → Option ℕ
mark_height [] cs = None
mark_height (c ∷ conds) cs = Some (length cs)

-- the conditions of the mark that was found
abbrev pub mark_conds : Option Choice → List ℕ
mark_conds (Some (Mark p conds exited)) = conds
mark_conds other = []

-- whether the mark that was found is exited
abbrev pub mark_exited : Option Choice → Bool
mark_exited (Some (Mark p conds exited)) = exited
mark_exited other = false

-- the choice at a mark's height, if there is one
abbrev pub mark_of : Option ℕ → List Choice → Option Choice
mark_of None cs = None
mark_of (Some height) cs = choice_at height cs

module _ (what : Tests) (program : Program) (bound : ℕ) where
  -- a call that is made: the calls condition is tested, notes and a mark are taken, which counts a test for each Pre, and the clauses become choices
  abbrev pub call_made : State → ℕ → Pred → List Term → Frame → Trace
  call_made s p pred args rest =
      let kind : ℕ → _ = kind_of program in
      let g = program.grammar in
      let looks = what.looks pred in
      let noted = filter (λ c. pre_holds g args (kind c)) looks.notes in
      let marked = filter (λ c. pre_holds g args (kind c)) looks.marks in
      let below = with_mark p marked s.choices in
      let call : Call = record { pred = p; args = args; noted = noted; mark = mark_height marked s.choices; height = length below; rest = rest } in
      let next = Going (record { calls = suc s.calls; fresh = s.fresh; choices = tries 0 pred.clauses call ++ below; current = Failed }) in
      after_tests what.stops 1 (λ c. finding (calls_hold g args (kind c))) looks.calls
      (record { events = []; tests = length looks.notes + length looks.marks; phase = next })

  -- a call, which is made where the bound allows it
  abbrev pub call_step : State → ℕ → Pred → List Term → Frame → Trace
  call_step s p pred args rest = if nat_le bound s.calls then quietly (Over ending.Bound) else call_made s p pred args rest

  -- an exit: its noted conditions and then those of its mark are tested, of which the first count
  abbrev pub exit_step : State → ℕ → List Term → List ℕ → Option ℕ → Frame → Trace
  exit_step s p args noted mark rest =
      let kind : ℕ → _ = kind_of program in
      let m = mark_of mark s.choices in
      after_tests what.stops 1 (λ c. finding (post_holds program.grammar args (kind c))) noted
      (after_tests what.stops 0 (λ c. finding (not (exit_breaks (mark_exited m) (kind c)))) (mark_conds m)
      (quietly (going s (exit_mark mark s.choices) (Doing rest))))

  -- what a built-in does, before the frame behind it
  abbrev pub builtin_step : State → Effect → ℕ → Place → Frame → Trace
  builtin_step s Succeeds h place rest = quietly (going s s.choices (Doing rest))
  builtin_step s Fails h place rest = quietly (going s s.choices Failed)
  builtin_step s (Writes bytes) h place rest = telling (Out bytes) (going s s.choices (Doing rest))
  builtin_step s (Equates a b) h place rest = quietly (going s s.choices (Solving place (Open (record { left = a; right = b } ∷ []) []) rest))
  builtin_step s (Becomes g) h place rest = quietly (going s s.choices (Doing (frame_of (Does g h place ∷ rest.items) rest)))
  builtin_step s (Faults kind) h place rest = quietly (Over (ending.Arithmetic kind place))

  -- a goal with its height and its clause's place, before the frame behind it
  abbrev pub goal_step : State → Goal-F Goal → ℕ → Place → Frame → Trace
  goal_step s True h place rest = quietly (going s s.choices (Doing rest))
  goal_step s Fail h place rest = quietly (going s s.choices Failed)
  goal_step s Cut h place rest = quietly (going s (cut h s.choices) (Doing rest))
  goal_step s (CallGoal p args) h place rest = call_step s p (pred_of program p) args rest
  goal_step s (BuiltinGoal b args) h place rest = builtin_step s (effect program b (slice_index_or args 0 (term.Atom NIL)) (slice_index_or args 1 (term.Atom NIL))) h place rest
  goal_step s (Conj a b) h place rest = quietly (going s s.choices (Doing (frame_of (Does a h place ∷ Does b h place ∷ rest.items) rest)))
  goal_step s (Disj a b) h place rest =
      quietly (going s (Resume (frame_of (Does b h place ∷ rest.items) rest) ∷ s.choices) (Doing (frame_of (Does a h place ∷ rest.items) rest)))
  goal_step s (IfElse c a b) h place rest =
      let now = length s.choices in
      quietly (going s (Resume (frame_of (Does b h place ∷ rest.items) rest) ∷ s.choices) (Doing (frame_of (Does c (suc now) place ∷ CutTo now ∷ Does a h place ∷ rest.items) rest)))
  goal_step s (Not a) h place rest =
      let now = length s.choices in
      quietly (going s (Resume rest ∷ s.choices) (Doing (frame_of (Does a (suc now) place ∷ CutTo now ∷ Does goal.Fail h place ∷ rest.items) rest)))
  goal_step s Exit h place rest = quietly (going s s.choices (Doing rest))

  -- the current frame's first item; none is left where the query is solved
  abbrev pub frame_step : State → Frame → List Item → Trace
  frame_step s f [] = telling (Answer (numbered f.query)) (going s s.choices Failed)
  frame_step s f (Does g h place ∷ items) = goal_step s (out-Goal g) h place (frame_of items f)
  frame_step s f (CutTo h ∷ items) = quietly (going s (cut h s.choices) (Doing (frame_of items f)))
  frame_step s f (Exits p args noted mark ∷ items) = exit_step s p args noted mark (frame_of items f)

  -- the frame of a clause that is tried: its body with new variables, the exit, and what is behind the call
  abbrev pub entered : ℕ → Clause → Call → Frame
  entered base clause call =
      let body = goal_instance (higher base) (without_exit clause.body) in
      let exit = if what.exits clause.body then Exits call.pred call.args call.noted call.mark ∷ call.rest.items else call.rest.items in
      frame_of (Does body call.height clause.place ∷ exit) call.rest

  -- a clause of a call is tried: the arguments and the head, with new variables, become equations
  abbrev pub try_step : State → Option Clause → Call → List Choice → Trace
  try_step s None call cs = quietly (going s cs Failed)
  try_step s (Some clause) call cs =
      quietly (Going (record {
        calls = s.calls;
        fresh = s.fresh + clause.vars;
        choices = cs;
        current = Solving clause.place (Open (pairs call.args (map (rename s.fresh) clause.head)) []) (entered s.fresh clause call);
      }))

  -- no frame: the newest choice
  abbrev pub failure_step : State → List Choice → Trace
  failure_step s [] = quietly (Over ending.NoMore)
  failure_step s (Resume f ∷ cs) = quietly (going s cs (Doing f))
  failure_step s (Try k call ∷ cs) = try_step s (slice_get (pred_of program call.pred).clauses k) call cs
  failure_step s (Mark p conds exited ∷ cs) =
      after_tests what.stops 0 (λ c. finding (not (failure_breaks exited (kind_of program c)))) conds (quietly (going s cs Failed))

  -- equations are solved before their frame goes on
  abbrev pub solving_step : State → Place → Stage → Frame → Trace
  solving_step s place (Open es bs) f = quietly (going s s.choices (Solving place (solve (Open es bs)) f))
  solving_step s place (Ended (Solved bs)) f = quietly (going s s.choices (Doing (frame_instance (values bs) f)))
  solving_step s place (Ended Clash) f = quietly (going s s.choices Failed)
  solving_step s place (Ended Cyclic) f = quietly (Over (ending.Cyclic place))

  -- one step, by what is current
  abbrev pub step_at : State → Current → Trace
  step_at s (Doing f) = frame_step s f f.items
  step_at s (Solving place stage f) = solving_step s place stage f
  step_at s Failed = failure_step s s.choices

  -- one step
  abbrev pub step : State → Trace
  step s = step_at s s.current
