-- A built-in that a described frame comes to leaves a described state.
use Rattle.std.proofs.Common.{◌≡◌, ℕ, Bool, true, false, List, [], ◌∷◌, refl, ap, sym, ◌∙◌, subst, true≢false}
use Rattle.std.specs.Prelude.{ℤ, not, int_lt, int_le, Some, Ok, Err}
use Rattle.std.specs.Ordering.{int_eq}
use Rattle.std.specs.List.{AllByRecursion}
use Rattle.term_core.specs.declared.terms.Term.{Term, Int, out-Term, roll-Term, roll-out-Term}
use Rattle.term_core.specs.declared.terms.Term.TheOpen as layer
use Rattle.term_core.specs.declared.terms.Term.TheVariants.{rolls-Int, rolls-Atom}
use Rattle.term_core.specs.declared.equations.Equation.{Equation}
use Rattle.term_core.specs.declared.equations.Binding.{Binding}
use Rattle.term_core.specs.declared.equations.Outcome.TheVariants.{Solved}
use Rattle.term_core.specs.Terms.{instance, instance_step, is_ground}
use Rattle.term_core.specs.Shapes.{is_atom}
use Rattle.term_core.specs.Solutions.{Solves, IsRight}
use Rattle.term_core.specs.Unify.{Open, Ended, solves, values}
use Rattle.term_core.proofs.TermFolds.{fold-Int}
use Rattle.term_core.proofs.TermLaws.{instance-instance}
use Rattle.prog_data.specs.declared.basic_names.TheConstants.{GND_TYPE, INT_TYPE, ATM_TYPE}
use Rattle.prog_data.specs.declared.goals.Builtin.{Builtin as BuiltinName}
use Rattle.prog_data.specs.declared.goals.Builtin.TheVariants as builtin
use Rattle.prog_data.specs.declared.goals.Goal as goal
use Rattle.prog_data.specs.declared.goals.Goal.{Goal}
use Rattle.prog_data.specs.declared.programs.Place.{Place}
use Rattle.prog_data.specs.declared.programs.Program.{Program}
use Rattle.prog_data.specs.declared.grammars.Grammar.{Grammar}
use Rattle.prog_data.specs.Arithmetic.{Number}
use Rattle.prog_data.specs.Arithmetic.{value as number}
use Rattle.prog_data.specs.Goals.{goal_instance, goal_instance_step}
use Rattle.prog_data.specs.Values.{IsIn}
use Rattle.prog_data.proofs.GoalFolds.{fold-Not, fold-Builtin}
use Rattle.name_order.specs.Relations.{order}
use Rattle.type_domain.specs.Values.{of_name}
use Rattle.machine_model.specs.State.{Frame, Doing, State, Phase, Going, Over}
use Rattle.machine_model.specs.Step.{Effect, Equates, Becomes, truth, with_value, compare, is_integer, effect, builtin_step}
use Rattle.discharger.proofs.Narrowing.{tests_of, narrowing}
use Rattle.discharger.specs.ReliedOn.{ReliedOn}
use Rattle.goal_transfer.specs.Transfer.{Values, Known, Outcome, quiet, outcome_step, run_goal, push, compare_values, unify_values, builtin_effect}
use Rattle.goal_transfer.specs.Tables.{Facts, exits_of, IsReached}
use Rattle.discharger.proofs.InValues.{AllIn, KnownIn, then_in, push_in, in_int_name, in_atm_name, in_gnd_name}
use Rattle.discharger.proofs.InUnified.{unify_in, ground_in}
use Rattle.discharger.proofs.Described.{GoalDescribed, ItemsDescribed, FrameDescribed, ChoiceDescribed, StateDescribed}
use Rattle.discharger.proofs.DescribedLaws.{bound, in_kept, described_from}

module _ (stops : Bool) (program : Program) (rows : List Facts) where
  -- the state that the run has come to is described, if it goes on
  abbrev pub IfGoing : Phase → Type 0
  IfGoing (Going s) = StateDescribed stops program rows s
  IfGoing (Over e) = Unit {0}

  -- a goal by what comes of it
  pub goal_by : (Goes : Known → Type 0) (value : ℕ → Term) (known : Values) (g h : Goal) → goal_instance value g ≡ h → (out : Outcome) → run_goal (order program.grammar) (exits_of (narrowing stops program) (order program.grammar) rows) g known ≡ out →
      AllByRecursion (IsReached rows) out.calls → Goes out.known → GoalDescribed stops program rows Goes value (Some known) h
  goal_by Goes value known g h is out e calls goes = record { goal = g; is = is; calls = subst (λ x. AllByRecursion (IsReached rows) x.calls) (sym e) calls; goes = subst (λ x. Goes x.known) (sym e) goes }

-- bindings in which the equations end solve them
pub solved : (g : Grammar) (relied : ReliedOn g) (es : List Equation) (k : ℕ) (bs : List Binding) → solves k (Open es []) ≡ Ended (Solved bs) → Solves (values bs) es
solved g relied es k bs e =
    let one = relied.unify es in
    (subst (IsRight es) (sym (one.alone (Solved bs) (k, e))) one.is_right).0

module _ (stops : Bool) (program : Program) (rows : List Facts) (relied : ReliedOn program.grammar) (limit : ℕ) (s : State) (choices : AllByRecursion (ChoiceDescribed stops program rows) s.choices) (height : ℕ) (place : Place) (rest : Frame) (value : ℕ → Term) (head : List Term) (known : Values)
    (belong : AllIn program.grammar value known) where
  -- the frame behind, from what is known
  abbrev pub From : Known → Type 0
  From k = ItemsDescribed stops program rows value head k rest.items

  abbrev pub Does : Effect → Type 0
  Does e = IfGoing stops program rows (builtin_step (tests_of stops program) program limit s e height place rest).phase

  pub goes_on : FrameDescribed stops program rows rest.items → IfGoing stops program rows (Going (record s { choices = s.choices; current = Doing rest }))
  goes_on d = record { choices = choices; current = d }

  same_frame : From (Some known) → FrameDescribed stops program rows rest.items
  same_frame d = record { value = value; head = head; known = known; belong = belong; goes = d }

  truth_keeps : (c : Bool) → (c ≡ true → FrameDescribed stops program rows rest.items) → Does (truth c)
  truth_keeps true h = goes_on (h refl)
  truth_keeps false h = record { choices = choices; current = tt }

  -- a value pushed into the argument that passes a test
  push_keeps : (c : Bool) (t : Term) (n : ℕ) → (c ≡ true → IsIn program.grammar (instance value t) (of_name (order program.grammar) n)) → From (push (order program.grammar) t (of_name (order program.grammar) n) known) → Does (truth c)
  push_keeps c t n h d = truth_keeps c (λ e. described_from stops program rows relied value head _ rest.items (push_in program.grammar relied value t _ known belong (h e)) d)

  integer_in : (t : Term) → is_integer (out-Term t) ≡ true → IsIn program.grammar t (of_name (order program.grammar) INT_TYPE)
  integer_in t e = by_layer (out-Term t) (roll-out-Term t) e
    where
      by_layer : (x : layer.Term-F Term) → roll-Term x ≡ t → is_integer x ≡ true → IsIn program.grammar t (of_name (order program.grammar) INT_TYPE)
      by_layer (layer.Int n) r e = subst (λ t. IsIn program.grammar t (of_name (order program.grammar) INT_TYPE)) (sym (rolls-Int n) ∙ r) (in_int_name program.grammar relied n)
      by_layer (layer.Var v) r e = absurd (true≢false (sym e))
      by_layer (layer.Atom a) r e = absurd (true≢false (sym e))
      by_layer (layer.Node f ts) r e = absurd (true≢false (sym e))

  atom_in : (t : Term) → is_atom (out-Term t) ≡ true → IsIn program.grammar t (of_name (order program.grammar) ATM_TYPE)
  atom_in t e = by_layer (out-Term t) (roll-out-Term t) e
    where
      by_layer : (x : layer.Term-F Term) → roll-Term x ≡ t → is_atom x ≡ true → IsIn program.grammar t (of_name (order program.grammar) ATM_TYPE)
      by_layer (layer.Atom a) r e = subst (λ t. IsIn program.grammar t (of_name (order program.grammar) ATM_TYPE)) (sym (rolls-Atom a) ∙ r) (in_atm_name program.grammar relied a)
      by_layer (layer.Var v) r e = absurd (true≢false (sym e))
      by_layer (layer.Int n) r e = absurd (true≢false (sym e))
      by_layer (layer.Node f ts) r e = absurd (true≢false (sym e))

  compare_keeps : (test : ℤ → ℤ → Bool) (t u : Term) → From (compare_values (order program.grammar) t u known) → Does (compare test (instance value t) (instance value u))
  compare_keeps test t u d = left (number (instance value t)) refl
    where
      right : (n : ℤ) → number (instance value t) ≡ Ok n → (m : Number) → number (instance value u) ≡ m → Does (with_value (λ y. truth (test n y)) m)
      right n e (Err fault) f = tt
      right n e (Ok m) f = truth_keeps (test n m) (λ h. described_from stops program rows relied value head _ rest.items
          (then_in program.grammar value _ _ (ground_in program.grammar relied value t (relied.evaluated _ n e) known belong) (ground_in program.grammar relied value u (relied.evaluated _ m f))) d)

      left : (n : Number) → number (instance value t) ≡ n → Does (with_value (λ x. with_value (λ y. truth (test x y)) (number (instance value u))) n)
      left (Err fault) e = tt
      left (Ok n) e = right n e (number (instance value u)) refl

  -- equations whose solutions keep what is known then
  equation_keeps : (a b : Term) (k : Known) → ((f : ℕ → Term) → AllIn program.grammar (λ v. instance f (value v)) known → instance f a ≡ instance f b → KnownIn program.grammar (λ v. instance f (value v)) k) → From k → Does (Equates a b)
  equation_keeps a b k h d =
      record {
        choices = choices;
        current = λ j bs e.
            let same = solved program.grammar relied (record { left = a; right = b } ∷ []) j bs e in
            described_from stops program rows relied (λ v. instance (values bs) (value v)) head k _ (h (values bs) (λ v. in_kept stops program rows relied (values bs) (value v) (known v) (belong v)) same.0) (bound stops program rows relied (values bs) rest.items value head k d);
      }

  unify_keeps : (t u : Term) → From (unify_values (order program.grammar) t u known) → Does (Equates (instance value t) (instance value u))
  unify_keeps t u d = equation_keeps _ _ _ (λ f b e. unify_in program.grammar relied (λ v. instance f (value v)) t u known b (sym (instance-instance f value t) ∙ e ∙ instance-instance f value u)) d

  is_keeps : (t u : Term) (n : Number) → number (instance value u) ≡ n → From (builtin_effect (order program.grammar) builtin.Is t u known) → Does (with_value (λ n. Equates (instance value t) (Int n)) n)
  is_keeps t u (Err fault) e d = tt
  is_keeps t u (Ok n) e d = equation_keeps _ _ _ kept d
    where
      kept : (f : ℕ → Term) → AllIn program.grammar (λ v. instance f (value v)) known → instance f (instance value t) ≡ instance f (Int n) → KnownIn program.grammar (λ v. instance f (value v)) (builtin_effect (order program.grammar) builtin.Is t u known)
      kept f b same =
          let is = relied.evaluated (instance value u) n e in
          let still : is_ground (instance (λ v. instance f (value v)) u) ≡ true = sym (ap is_ground (instance-instance f value u)) ∙ relied.ground_persists f (instance value u) is in
          let whole : instance (λ v. instance f (value v)) t ≡ Int n = sym (instance-instance f value t) ∙ same ∙ fold-Int _ (instance_step f) n in
          then_in program.grammar (λ v. instance f (value v)) _ _ (ground_in program.grammar relied (λ v. instance f (value v)) u still known b)
          (λ vs c. push_in program.grammar relied (λ v. instance f (value v)) t _ vs c (subst (λ t. IsIn program.grammar t (of_name (order program.grammar) INT_TYPE)) (sym whole) (in_int_name program.grammar relied n)))

  not_keeps : (t u : Term) → From (Some known) → Does (Becomes (goal.Not (goal.Builtin builtin.Unify (instance value t ∷ instance value u ∷ []))))
  not_keeps t u d =
      record {
        choices = choices;
        current = record {
          value = value;
          head = head;
          known = known;
          belong = belong;
          goes = goal_by stops program rows From value known (goal.Not (goal.Builtin builtin.Unify (t ∷ u ∷ []))) _ (fold-Not _ (goal_instance_step value) _ ∙ ap goal.Not (fold-Builtin _ (goal_instance_step value) builtin.Unify (t ∷ u ∷ [])))
              (quiet (Some known)) runs tt d;
        };
      }
    where
      runs : run_goal (order program.grammar) (exits_of (narrowing stops program) (order program.grammar) rows) (goal.Not (goal.Builtin builtin.Unify (t ∷ u ∷ []))) known ≡ quiet (Some known)
      runs = ap (λ f. f known) (fold-Not _ (outcome_step (order program.grammar) (exits_of (narrowing stops program) (order program.grammar) rows)) _)
          ∙ ap (λ f. record { known = Some known; calls = (f known).calls }) (fold-Builtin _ (outcome_step (order program.grammar) (exits_of (narrowing stops program) (order program.grammar) rows)) builtin.Unify (t ∷ u ∷ []))

  pub builtin_keeps : (b : BuiltinName) (t u : Term) → From (builtin_effect (order program.grammar) b t u known) → Does (effect program b (instance value t) (instance value u))
  builtin_keeps builtin.Unify t u d = unify_keeps t u d
  builtin_keeps builtin.NotUnify t u d = not_keeps t u d
  builtin_keeps builtin.Same t u d = truth_keeps _ (λ e. same_frame d)
  builtin_keeps builtin.NotSame t u d = truth_keeps _ (λ e. same_frame d)
  builtin_keeps builtin.Is t u d = is_keeps t u (number (instance value u)) refl d
  builtin_keeps builtin.Less t u d = compare_keeps int_lt t u d
  builtin_keeps builtin.Greater t u d = compare_keeps (λ x y. int_lt y x) t u d
  builtin_keeps builtin.LessEq t u d = compare_keeps int_le t u d
  builtin_keeps builtin.GreaterEq t u d = compare_keeps (λ x y. int_le y x) t u d
  builtin_keeps builtin.NumEq t u d = compare_keeps int_eq t u d
  builtin_keeps builtin.NumNotEq t u d = compare_keeps (λ x y. not (int_eq x y)) t u d
  builtin_keeps builtin.Integer t u d = push_keeps _ t INT_TYPE (integer_in (instance value t)) d
  builtin_keeps builtin.Atom t u d = push_keeps _ t ATM_TYPE (atom_in (instance value t)) d
  builtin_keeps builtin.Write t u d = goes_on (same_frame d)
  builtin_keeps builtin.Writeq t u d = goes_on (same_frame d)
  builtin_keeps builtin.Nl t u d = goes_on (same_frame d)
  builtin_keeps (builtin.Belongs n) t u d = push_keeps _ t n (λ e. relied.keeps.name (instance value t) n ((relied.belongs (instance value t) n).0 e)) d
  builtin_keeps builtin.IsVar t u d = truth_keeps _ (λ e. same_frame d)
  builtin_keeps builtin.IsNonvar t u d = truth_keeps _ (λ e. same_frame d)
  builtin_keeps builtin.IsGround t u d = push_keeps _ t GND_TYPE (in_gnd_name program.grammar relied (instance value t)) d
