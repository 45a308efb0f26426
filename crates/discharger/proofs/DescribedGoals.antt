-- A goal that a described frame comes to leaves a described state.
use Rattle.std.proofs.Common.{◌≡◌, ℕ, zero, suc, Bool, true, false, List, [], ◌∷◌, ◌++◌, length, map, refl, ap, sym, ◌∙◌, subst}
use Rattle.std.specs.Prelude.{nat_le, slice_index_or, None, Some, if◌then◌else◌}
use Rattle.std.specs.List.{AllByRecursion}
use Rattle.term_core.specs.declared.terms.Term.{Term}
use Rattle.term_core.specs.declared.terms.Term as term
use Rattle.term_core.specs.Terms.{instance, instance_step}
use Rattle.term_core.proofs.TermFolds.{fold-Atom}
use Rattle.prog_data.specs.declared.goals.Goal.{Goal, out-Goal, roll-Goal, roll-out-Goal}
use Rattle.prog_data.specs.declared.goals.Goal as goal
use Rattle.prog_data.specs.declared.goals.Goal.TheOpen as layer
use Rattle.prog_data.specs.declared.goals.Goal.TheFolds.{fold-roll-Goal, map-Goal}
use Rattle.prog_data.specs.declared.goals.Goal.TheVariants.{outs-True, outs-Fail, outs-Cut, outs-Call, outs-Builtin, outs-Conj, outs-Disj, outs-IfElse, outs-Not, outs-Exit}
use Rattle.prog_data.proofs.GoalFolds.{fold-Fail}
use Rattle.prog_data.specs.declared.programs.Place.{Place}
use Rattle.prog_data.specs.declared.programs.Program.{Program}
use Rattle.prog_data.specs.Goals.{goal_instance, goal_instance_step}
use Rattle.name_order.specs.Relations.{order}
use Rattle.machine_model.specs.State.{Item, Does, CutTo, Frame, Choice, State, cut}
use Rattle.machine_model.specs.Step.{goal_step, effect, builtin_step}
use Rattle.discharger.proofs.Narrowing.{tests_of, narrowing}
use Rattle.discharger.specs.ReliedOn.{ReliedOn}
use Rattle.goal_transfer.specs.Transfer.{Values, Known, ReachedCall, Outcome, quiet, then_outcome, join_known, run_goal}
use Rattle.goal_transfer.specs.Transfer.{outcome_step}
use Rattle.goal_transfer.specs.Tables.{Facts, Closed, exits_of, IsReached}
use Rattle.goal_transfer.specs.Lower.{KnownLeq}
use Rattle.discharger.proofs.InValues.{AllIn, in_values}
use Rattle.discharger.proofs.Described.{run, GoalDescribed, ItemsDescribed, FrameDescribed, ChoiceDescribed}
use Rattle.discharger.proofs.DescribedLaws.{lowered}
use Rattle.discharger.proofs.DescribedBuiltins.{IfGoing, builtin_keeps}
use Rattle.discharger.proofs.DescribedCalls.{are_lower, call_keeps}

-- the layer of an instance of a goal
abbrev pub layer_instance : (ℕ → Term) → layer.Goal-F Goal → layer.Goal-F Goal
layer_instance value layer.True = layer.True
layer_instance value layer.Fail = layer.Fail
layer_instance value layer.Cut = layer.Cut
layer_instance value (layer.Call p ts) = layer.Call p (map (instance value) ts)
layer_instance value (layer.Builtin b ts) = layer.Builtin b (map (instance value) ts)
layer_instance value (layer.Conj a b) = layer.Conj (goal_instance value a) (goal_instance value b)
layer_instance value (layer.Disj a b) = layer.Disj (goal_instance value a) (goal_instance value b)
layer_instance value (layer.IfElse c a b) = layer.IfElse (goal_instance value c) (goal_instance value a) (goal_instance value b)
layer_instance value (layer.Not a) = layer.Not (goal_instance value a)
layer_instance value layer.Exit = layer.Exit

pub out_instance : (value : ℕ → Term) (x : layer.Goal-F Goal) → out-Goal (goal_instance value (roll-Goal x)) ≡ layer_instance value x
out_instance value layer.True = ap out-Goal (fold-roll-Goal Goal (goal_instance_step value) layer.True) ∙ outs-True
out_instance value layer.Fail = ap out-Goal (fold-roll-Goal Goal (goal_instance_step value) layer.Fail) ∙ outs-Fail
out_instance value layer.Cut = ap out-Goal (fold-roll-Goal Goal (goal_instance_step value) layer.Cut) ∙ outs-Cut
out_instance value (layer.Call p ts) = ap out-Goal (fold-roll-Goal Goal (goal_instance_step value) (layer.Call p ts)) ∙ outs-Call p _
out_instance value (layer.Builtin b ts) = ap out-Goal (fold-roll-Goal Goal (goal_instance_step value) (layer.Builtin b ts)) ∙ outs-Builtin b _
out_instance value (layer.Conj a b) = ap out-Goal (fold-roll-Goal Goal (goal_instance_step value) (layer.Conj a b)) ∙ outs-Conj _ _
out_instance value (layer.Disj a b) = ap out-Goal (fold-roll-Goal Goal (goal_instance_step value) (layer.Disj a b)) ∙ outs-Disj _ _
out_instance value (layer.IfElse c a b) = ap out-Goal (fold-roll-Goal Goal (goal_instance_step value) (layer.IfElse c a b)) ∙ outs-IfElse _ _ _
out_instance value (layer.Not a) = ap out-Goal (fold-roll-Goal Goal (goal_instance_step value) (layer.Not a)) ∙ outs-Not _
out_instance value layer.Exit = ap out-Goal (fold-roll-Goal Goal (goal_instance_step value) layer.Exit) ∙ outs-Exit

index_instance : (value : ℕ → Term) (ts : List Term) (i : ℕ) → slice_index_or (map (instance value) ts) i (term.Atom 0) ≡ instance value (slice_index_or ts i (term.Atom 0))
index_instance value [] i = sym (fold-Atom _ (instance_step value) 0)
index_instance value (t ∷ ts) zero = refl
index_instance value (t ∷ ts) (suc i) = index_instance value ts i

pub all_left : {A : Type 0} (P : A → Type 0) (xs ys : List A) → AllByRecursion P (xs ++ ys) → AllByRecursion P xs
all_left P [] ys h = tt
all_left P (x ∷ xs) ys h = (h.0, all_left P xs ys h.1)

all_right : {A : Type 0} (P : A → Type 0) (xs ys : List A) → AllByRecursion P (xs ++ ys) → AllByRecursion P ys
all_right P [] ys h = h
all_right P (x ∷ xs) ys h = all_right P xs ys h.1

module _ (stops : Bool) (program : Program) (rows : List Facts) (relied : ReliedOn program.grammar) where
  pub cut_described : (h : ℕ) (cs : List Choice) → AllByRecursion (ChoiceDescribed stops program rows) cs → AllByRecursion (ChoiceDescribed stops program rows) (cut h cs)
  cut_described h [] d = tt
  cut_described h (c ∷ cs) d = by_test (nat_le h (length cs)) (cut_described h cs d.1)
    where
      by_test : (b : Bool) → AllByRecursion (ChoiceDescribed stops program rows) (cut h cs) → AllByRecursion (ChoiceDescribed stops program rows) (if b then cut h cs else c ∷ cs)
      by_test true rest = rest
      by_test false rest = d

  itself : (k : Known) → KnownLeq k k
  itself None = tt
  itself (Some vs) = λ v. relied.ordered.reflexive (vs v)

  join_first : (a b : Known) → KnownLeq a (join_known a b)
  join_first None b = tt
  join_first (Some vs) None = itself (Some vs)
  join_first (Some vs) (Some ws) = λ v. relied.ordered.first_join (vs v) (ws v)

  join_second : (a b : Known) → KnownLeq b (join_known a b)
  join_second None b = itself b
  join_second (Some vs) None = tt
  join_second (Some vs) (Some ws) = λ v. relied.ordered.second_join (vs v) (ws v)

  fail_runs : (k : Known) → run stops program rows k goal.Fail ≡ quiet None
  fail_runs None = refl
  fail_runs (Some vs) = ap (λ f. f vs) (fold-Fail _ (outcome_step (order program.grammar) (exits_of (narrowing stops program) (order program.grammar) rows)))

  module _ (closed : Closed (narrowing stops program) rows) (limit : ℕ) (s : State) (choices : AllByRecursion (ChoiceDescribed stops program rows) s.choices) (height : ℕ) (place : Place) (rest : Frame) (value : ℕ → Term) (head : List Term) (known : Values) (belong : AllIn program.grammar value known) where
    -- what is behind, from what is known
    abbrev pub From : Known → Type 0
    From k = ItemsDescribed stops program rows value head k rest.items

    abbrev pub AllReached : List ReachedCall → Type 0
    AllReached calls = AllByRecursion (IsReached rows) calls

    -- what comes of a goal by its layer
    abbrev pub comes : layer.Goal-F Goal → Outcome
    comes x = outcome_step (order program.grammar) (exits_of (narrowing stops program) (order program.grammar) rows) (map-Goal Goal (Values → Outcome) (run_goal (order program.grammar) (exits_of (narrowing stops program) (order program.grammar) rows)) x) known

    abbrev pub Steps : layer.Goal-F Goal → Type 0
    Steps x = IfGoing stops program rows (goal_step (tests_of stops program) program limit s x height place rest).phase

    abbrev pub runs : Goal → Values → Outcome
    runs = run_goal (order program.grammar) (exits_of (narrowing stops program) (order program.grammar) rows)

    frame : (items : List Item) → ItemsDescribed stops program rows value head (Some known) items → FrameDescribed stops program rows items
    frame items d = record { value = value; head = head; known = known; belong = belong; goes = d }

    -- an item that does an instance of a goal
    doing : (g : Goal) (h : ℕ) (k : Known) (items : List Item) → AllReached (run stops program rows k g).calls → ItemsDescribed stops program rows value head (run stops program rows k g).known items →
        ItemsDescribed stops program rows value head k (Does (goal_instance value g) h place ∷ items)
    doing g h k items calls d = record { goal = g; is = refl; calls = calls; goes = d }

    failing : (h : ℕ) (k : Known) → From (Some known) → ItemsDescribed stops program rows value head k (Does goal.Fail h place ∷ rest.items)
    failing h k d =
        record {
          goal = goal.Fail;
          is = fold-Fail _ (goal_instance_step value);
          calls = subst (λ out. AllReached out.calls) (sym (fail_runs k)) tt;
          goes = subst (λ out. From out.known) (sym (fail_runs k)) (lowered stops program rows relied value head rest.items None (Some known) tt d);
        }

    by_layer : (x : layer.Goal-F Goal) → AllReached (comes x).calls → From (comes x).known → Steps (layer_instance value x)
    by_layer layer.True calls d = record { choices = choices; current = frame rest.items d }
    by_layer layer.Fail calls d = record { choices = choices; current = tt }
    by_layer layer.Cut calls d = record { choices = cut_described height s.choices choices; current = frame rest.items d }
    by_layer layer.Exit calls d = record { choices = choices; current = frame rest.items d }
    by_layer (layer.Call p ts) calls d =
        call_keeps stops program rows relied closed p (map (instance value) ts) calls.0.0 (are_lower stops program rows relied _ _ _ (in_values program.grammar relied value known belong ts) calls.0.1) limit s rest choices
        (record { value = value; head = head; known = known; terms = ts; called = refl; belong = belong; goes = d })
    by_layer (layer.Builtin b ts) calls d =
        subst (λ t. IfGoing stops program rows (builtin_step (tests_of stops program) program limit s (effect program b t (slice_index_or (map (instance value) ts) 1 (term.Atom 0))) height place rest).phase) (sym (index_instance value ts 0))
        (subst (λ u. IfGoing stops program rows (builtin_step (tests_of stops program) program limit s (effect program b (instance value (slice_index_or ts 0 (term.Atom 0))) u) height place rest).phase) (sym (index_instance value ts 1))
        (builtin_keeps stops program rows relied limit s choices height place rest value head known belong b (slice_index_or ts 0 (term.Atom 0)) (slice_index_or ts 1 (term.Atom 0)) d))
    by_layer (layer.Conj a b) calls d =
        record {
          choices = choices;
          current = frame _ (doing a height (Some known) (Does (goal_instance value b) height place ∷ rest.items) (all_left (IsReached rows) _ _ calls) (doing b height (runs a known).known rest.items (all_right (IsReached rows) (runs a known).calls _ calls) d));
        }
    by_layer (layer.Disj a b) calls d =
        record {
          choices = (frame _ (doing b height (Some known) rest.items (all_right (IsReached rows) (runs a known).calls _ calls) (lowered stops program rows relied value head rest.items _ _ (join_second (runs a known).known (runs b known).known) d)), choices);
          current = frame _ (doing a height (Some known) rest.items (all_left (IsReached rows) _ _ calls) (lowered stops program rows relied value head rest.items _ _ (join_first (runs a known).known (runs b known).known) d));
        }
    by_layer (layer.IfElse c a b) calls d =
        let chosen : Outcome = then_outcome (runs c known) (runs a) in
        let first = all_left (IsReached rows) chosen.calls _ calls in
        record {
          choices = (frame _ (doing b height (Some known) rest.items (all_right (IsReached rows) chosen.calls _ calls) (lowered stops program rows relied value head rest.items _ _ (join_second chosen.known (runs b known).known) d)), choices);
          current = frame _ (doing c (suc (length s.choices)) (Some known) (CutTo (length s.choices) ∷ Does (goal_instance value a) height place ∷ rest.items) (all_left (IsReached rows) (runs c known).calls _ first)
              (doing a height (runs c known).known rest.items (all_right (IsReached rows) (runs c known).calls _ first) (lowered stops program rows relied value head rest.items _ _ (join_first chosen.known (runs b known).known) d)));
        }
    by_layer (layer.Not a) calls d =
        record {
          choices = (frame rest.items d, choices);
          current = frame _ (doing a (suc (length s.choices)) (Some known) (CutTo (length s.choices) ∷ Does goal.Fail height place ∷ rest.items) calls (failing height (runs a known).known d));
        }

    pub goal_keeps : (h : Goal) → GoalDescribed stops program rows From value (Some known) h → Steps (out-Goal h)
    goal_keeps h d = at_layer (out-Goal d.goal) (roll-out-Goal d.goal)
      where
        at_layer : (x : layer.Goal-F Goal) → roll-Goal x ≡ d.goal → Steps (out-Goal h)
        at_layer x r =
            let comes_so : run stops program rows (Some known) d.goal ≡ comes x = ap (λ g. runs g known) (sym r) ∙ ap (λ f. f known) (fold-roll-Goal (Values → Outcome) (outcome_step (order program.grammar) (exits_of (narrowing stops program) (order program.grammar) rows)) x) in
            let shows : out-Goal h ≡ layer_instance value x = ap out-Goal (sym d.is) ∙ ap (λ g. out-Goal (goal_instance value g)) (sym r) ∙ out_instance value x in
            subst Steps (sym shows) (by_layer x (subst (λ out. AllReached out.calls) comes_so d.calls) (subst (λ out. From out.known) comes_so d.goes))
