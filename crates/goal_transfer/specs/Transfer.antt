-- What a goal makes of the values of variables, and the calls that it reaches.
-- The headline does not rest on this file.
use Rattle.std.specs.Prelude.{ℕ, ◌==◌, ◌+◌, Bool, true, false, ◌&&◌, List, [], ◌∷◌, ◌++◌, map, length, slice_index_or, Option, None, Some, ℤ, if◌then◌else◌}
use Rattle.std.specs.Ordering.{int_eq}
use Rattle.term_core.specs.declared.terms.Term.{Term, out-Term}
use Rattle.term_core.specs.declared.terms.Term as term
use Rattle.term_core.specs.declared.terms.Term.TheOpen as layer
use Rattle.term_core.specs.declared.terms.Term.TheFolds.{fold-Term}
use Rattle.prog_data.specs.declared.basic_names.TheConstants.{GND_TYPE, INT_TYPE, ATM_TYPE}
use Rattle.prog_data.specs.declared.goals.Goal.{Goal}
use Rattle.prog_data.specs.declared.goals.Goal.TheOpen.{Goal-F, True, Fail, Cut, Call, Builtin, Conj, Disj, IfElse, Not, Exit}
use Rattle.prog_data.specs.declared.goals.Goal.TheFolds.{fold-Goal}
use Rattle.prog_data.specs.declared.goals.Builtin.{Builtin as BuiltinName}
use Rattle.prog_data.specs.declared.goals.Builtin.TheVariants as builtin
use Rattle.prog_data.specs.Values.{TypeValue}
use Rattle.name_order.specs.Relations.{Order}
use Rattle.type_domain.specs.Values.{is_set, join, meet, of_name, of_int, of_atom, build, project}

-- a value for each variable of a clause
abbrev pub Values : Type 0
Values = ℕ → TypeValue

-- what is known of a clause's variables: a value for each, or none as soon as one is
abbrev pub Known : Type 0
Known = Option Values

-- from none nothing comes but none
abbrev pub then_known : Known → (Values → Known) → Known
then_known None go = None
then_known (Some vs) go = go vs

-- the values where a test holds, else none
abbrev pub known_where : Bool → Values → Known
known_where true vs = Some vs
known_where false vs = None

-- a variable has this value, each other one its own
abbrev pub with_changed : Values → ℕ → TypeValue → Values
with_changed vs v w u = if v == u then w else vs u

-- a variable gets a value
abbrev pub set_value : Values → ℕ → TypeValue → Known
set_value vs v None = None
set_value vs v (Some p) = Some (with_changed vs v (Some p))

-- changes, one after the other
abbrev pub in_turn : List (Values → Known) → Values → Known
in_turn [] vs = Some vs
in_turn (go ∷ more) vs = then_known (go vs) (in_turn more)

module _ (o : Order) where
  -- the value of a term, from those of its parts
  abbrev pub term_value_step : Values → layer.Term-F TypeValue → TypeValue
  term_value_step vs (layer.Var v) = vs v
  term_value_step vs (layer.Int k) = of_int o k
  term_value_step vs (layer.Atom a) = of_atom o a
  term_value_step vs (layer.Node f ws) = build o f ws

  -- the value of a term
  abbrev pub term_value : Values → Term → TypeValue
  term_value vs = fold-Term TypeValue (term_value_step vs)

  -- pushing a value into a term

  -- what comes of pushing a value into a term
  abbrev pub Push : Type 0
  Push = TypeValue → Values → Known

  -- the projections of a value into the parts of a compound from the left, from this part on
  abbrev pub push_parts : TypeValue → ℕ → ℕ → ℕ → List Push → Values → Known
  push_parts w f arity part [] vs = Some vs
  push_parts w f arity part (push ∷ more) vs = then_known (push (project o w f arity part) vs) (push_parts w f arity (part + 1) more)

  -- a variable meets the value; a constant whose value does not meet it leaves none
  abbrev pub push_step : layer.Term-F Push → Push
  push_step (layer.Var v) w vs = set_value vs v (meet o (vs v) w)
  push_step (layer.Int k) w vs = known_where (is_set (meet o (of_int o k) w)) vs
  push_step (layer.Atom a) w vs = known_where (is_set (meet o (of_atom o a) w)) vs
  push_step (layer.Node f pushes) w vs = push_parts w f (length pushes) 0 pushes vs

  -- a value is pushed into a term
  abbrev pub push : Term → Push
  push = fold-Term Push push_step

  -- a value into each term, from the left
  abbrev pub push_each : List Term → List TypeValue → Values → Known
  push_each [] ws vs = Some vs
  push_each (t ∷ ts) [] vs = Some vs
  push_each (t ∷ ts) (w ∷ ws) vs = then_known (push t w vs) (push_each ts ws)

  -- unifying

  -- a term, and what comes of unifying it with another
  pub record Unifier : Type 0 where
    pub whole : Term
    pub with_term : Term → Values → Known

  -- the meet of the values of both is pushed into one and then into the other
  abbrev pub push_both : Term → Term → Values → Known
  push_both t u vs =
      let both = meet o (term_value vs t) (term_value vs u) in
      then_known (push t both vs) (push u both)

  -- an integer is unified with a term
  abbrev pub int_with : ℤ → Term → layer.Term-F Term → Values → Known
  int_with k u (layer.Var v) vs = push_both (term.Int k) u vs
  int_with k u (layer.Int j) vs = known_where (int_eq k j) vs
  int_with k u other vs = None

  -- an atom is unified with a term
  abbrev pub atom_with : ℕ → Term → layer.Term-F Term → Values → Known
  atom_with a u (layer.Var v) vs = push_both (term.Atom a) u vs
  atom_with a u (layer.Atom b) vs = known_where (a == b) vs
  atom_with a u other vs = None

  -- parts are unified from the left
  abbrev pub unify_parts : List Unifier → List Term → Values → Known
  unify_parts [] us vs = Some vs
  unify_parts (t ∷ ts) [] vs = Some vs
  unify_parts (t ∷ ts) (u ∷ us) vs = then_known (t.with_term u vs) (unify_parts ts us)

  -- a compound is unified with a term
  abbrev pub node_with : ℕ → List Unifier → Term → layer.Term-F Term → Values → Known
  node_with f ts u (layer.Var v) vs = push_both (term.Node f (map (λ t. t.whole) ts)) u vs
  node_with f ts u (layer.Node h us) vs = then_known (known_where ((f == h) && (length ts == length us)) vs) (unify_parts ts us)
  node_with f ts u other vs = None

  -- a term, and how it is unified, from its parts
  abbrev pub unifier_step : layer.Term-F Unifier → Unifier
  unifier_step (layer.Var v) = record { whole = term.Var v; with_term = push_both (term.Var v) }
  unifier_step (layer.Int k) = record { whole = term.Int k; with_term = λ u. int_with k u (out-Term u) }
  unifier_step (layer.Atom a) = record { whole = term.Atom a; with_term = λ u. atom_with a u (out-Term u) }
  unifier_step (layer.Node f ts) = record { whole = term.Node f (map (λ t. t.whole) ts); with_term = λ u. node_with f ts u (out-Term u) }

  -- two terms are unified
  abbrev pub unify_values : Term → Term → Values → Known
  unify_values t = (fold-Term Unifier unifier_step t).with_term

  -- built-ins

  -- each variable of a term meets gnd, by what its parts do
  abbrev pub ground_step : layer.Term-F (Values → Known) → Values → Known
  ground_step (layer.Var v) vs = set_value vs v (meet o (vs v) (of_name o GND_TYPE))
  ground_step (layer.Int k) vs = Some vs
  ground_step (layer.Atom a) vs = Some vs
  ground_step (layer.Node f goes) vs = in_turn goes vs

  -- the variables of a term meet gnd
  abbrev pub ground : Term → Values → Known
  ground = fold-Term (Values → Known) ground_step

  -- the variables of both sides meet gnd
  abbrev pub compare_values : Term → Term → Values → Known
  compare_values t u vs = then_known (ground t vs) (ground u)

  -- the effect of a built-in, by its first two arguments
  abbrev pub builtin_effect : BuiltinName → Term → Term → Values → Known
  builtin_effect builtin.Unify t u vs = unify_values t u vs
  builtin_effect builtin.Is t u vs = then_known (ground u vs) (push t (of_name o INT_TYPE))
  builtin_effect builtin.Less t u vs = compare_values t u vs
  builtin_effect builtin.Greater t u vs = compare_values t u vs
  builtin_effect builtin.LessEq t u vs = compare_values t u vs
  builtin_effect builtin.GreaterEq t u vs = compare_values t u vs
  builtin_effect builtin.NumEq t u vs = compare_values t u vs
  builtin_effect builtin.NumNotEq t u vs = compare_values t u vs
  builtin_effect builtin.Integer t u vs = push t (of_name o INT_TYPE) vs
  builtin_effect builtin.Atom t u vs = push t (of_name o ATM_TYPE) vs
  builtin_effect (builtin.Belongs n) t u vs = push t (of_name o n) vs
  builtin_effect builtin.IsGround t u vs = push t (of_name o GND_TYPE) vs
  builtin_effect other t u vs = Some vs

-- goals

-- a call of a predicate with the values of its arguments
abbrev pub ReachedCall : Type 0
ReachedCall = ℕ × List TypeValue

-- what comes of a goal: what is known after it, and the calls that it reaches, in order
pub record Outcome : Type 0 where
  pub known : Known
  pub calls : List ReachedCall

-- what is known, and no call
abbrev pub quiet : Known → Outcome
quiet k = record { known = k; calls = [] }

-- from none nothing is reached
abbrev pub from_known : Known → (Values → Outcome) → Outcome
from_known None go = quiet None
from_known (Some vs) go = go vs

-- one, and from what is known then another
abbrev pub then_outcome : Outcome → (Values → Outcome) → Outcome
then_outcome a go = record { known = (from_known a.known go).known; calls = a.calls ++ (from_known a.known go).calls }

-- what is known on one way or another, joined variable by variable; none is neutral
abbrev pub join_known : Known → Known → Known
join_known None b = b
join_known (Some vs) None = Some vs
join_known (Some vs) (Some ws) = Some (λ v. join (vs v) (ws v))

-- what comes of one or the other
abbrev pub either_outcome : Outcome → Outcome → Outcome
either_outcome a b = record { known = join_known a.known b.known; calls = a.calls ++ b.calls }

-- the values pushed into arguments at a predicate's exit, none where it does not exit
abbrev pub Exits : Type 0
Exits = ℕ → Option (List TypeValue)

module _ (o : Order) (exits : Exits) where
  -- behind a call: what its exit says is pushed into its arguments
  abbrev pub behind_call : Option (List TypeValue) → List Term → Values → Known
  behind_call None ts vs = None
  behind_call (Some ws) ts vs = push_each o ts ws vs

  -- what comes of a goal, by what comes of its parts
  abbrev pub outcome_step : Goal-F (Values → Outcome) → Values → Outcome
  outcome_step True vs = quiet (Some vs)
  outcome_step Fail vs = quiet None
  outcome_step Cut vs = quiet (Some vs)
  outcome_step Exit vs = quiet (Some vs)
  outcome_step (Builtin b ts) vs = quiet (builtin_effect o b (slice_index_or ts 0 (term.Atom 0)) (slice_index_or ts 1 (term.Atom 0)) vs)
  outcome_step (Call p ts) vs = record { known = behind_call (exits p) ts vs; calls = (p, map (term_value o vs) ts) ∷ [] }
  outcome_step (Conj a b) vs = then_outcome (a vs) b
  outcome_step (Disj a b) vs = either_outcome (a vs) (b vs)
  outcome_step (IfElse c a b) vs = either_outcome (then_outcome (c vs) a) (b vs)
  outcome_step (Not a) vs = record { known = Some vs; calls = (a vs).calls }

  -- what comes of a goal
  abbrev pub run_goal : Goal → Values → Outcome
  run_goal = fold-Goal (Values → Outcome) outcome_step
