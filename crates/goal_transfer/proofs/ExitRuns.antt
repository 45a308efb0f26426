-- The exit that a body is or ends in changes nothing.
use Rattle.std.proofs.Common.{◌≡◌, Bool, true, false, List, [], ◌∷◌, ◌++◌, refl, ap, sym, ◌∙◌, true≢false}
use Rattle.std.specs.Prelude.{None, Some, if◌then◌else◌}
use Rattle.prog_data.specs.declared.goals.Goal.{Goal, out-Goal, roll-Goal, roll-out-Goal}
use Rattle.prog_data.specs.declared.goals.Goal as goal
use Rattle.prog_data.specs.declared.goals.Goal.TheOpen as layer
use Rattle.prog_data.specs.declared.goals.Goal.TheVariants.{rolls-Conj, rolls-Exit}
use Rattle.prog_data.proofs.GoalFolds.{fold-True, fold-Exit, fold-Conj}
use Rattle.prog_data.specs.Goals.{is_exit, without_exit, without_exit_at}
use Rattle.name_order.specs.Relations.{Order}
use Rattle.goal_transfer.specs.Transfer.{Values, Known, ReachedCall, Outcome, Exits, quiet, from_known, then_outcome, outcome_step, run_goal}
use Rattle.goal_transfer.specs.Laws.{ExitsChangeNothing}

no_more : (cs : List ReachedCall) → cs ++ [] ≡ cs
no_more [] = refl
no_more (c ∷ cs) = ap (λ ds. c ∷ ds) (no_more cs)

pub exit_is : (b : Goal) → is_exit (out-Goal b) ≡ true → b ≡ goal.Exit
exit_is b e = by_layer (out-Goal b) (roll-out-Goal b) e
  where
    by_layer : (x : layer.Goal-F Goal) → roll-Goal x ≡ b → is_exit x ≡ true → b ≡ goal.Exit
    by_layer layer.Exit r e = sym r ∙ rolls-Exit
    by_layer layer.True r e = absurd (true≢false (sym e))
    by_layer layer.Fail r e = absurd (true≢false (sym e))
    by_layer layer.Cut r e = absurd (true≢false (sym e))
    by_layer (layer.Call p ts) r e = absurd (true≢false (sym e))
    by_layer (layer.Builtin b ts) r e = absurd (true≢false (sym e))
    by_layer (layer.Conj a b) r e = absurd (true≢false (sym e))
    by_layer (layer.Disj a b) r e = absurd (true≢false (sym e))
    by_layer (layer.IfElse c a b) r e = absurd (true≢false (sym e))
    by_layer (layer.Not a) r e = absurd (true≢false (sym e))

module _ (o : Order) (exits : Exits) where
  abbrev Same : Goal → Goal → Type 0
  Same g h = (vs : Values) → run_goal o exits g vs ≡ run_goal o exits h vs

  exit_runs : (vs : Values) → run_goal o exits goal.Exit vs ≡ quiet (Some vs)
  exit_runs vs = ap (λ f. f vs) (fold-Exit _ (outcome_step o exits))

  true_runs : (vs : Values) → run_goal o exits goal.True vs ≡ quiet (Some vs)
  true_runs vs = ap (λ f. f vs) (fold-True _ (outcome_step o exits))

  nothing_after : (k : Known) → from_known k (run_goal o exits goal.Exit) ≡ quiet k
  nothing_after None = refl
  nothing_after (Some vs) = exit_runs vs

  then_exit : (out : Outcome) → then_outcome out (run_goal o exits goal.Exit) ≡ out
  then_exit out =
      ap (λ m. record { known = m.known; calls = out.calls ++ m.calls }) (nothing_after out.known)
      ∙ ap (λ cs. record { known = out.known; calls = cs }) (no_more out.calls)

  module _ (body : Goal) where
    before_exit : (a b : Goal) → body ≡ goal.Conj a b → b ≡ goal.Exit → Same a body
    before_exit a b e f vs =
        sym (then_exit (run_goal o exits a vs))
        ∙ sym (ap (λ g. g vs) (fold-Conj _ (outcome_step o exits) a goal.Exit))
        ∙ ap (λ g. run_goal o exits g vs) (sym (e ∙ ap (goal.Conj a) f))

    by_test : (a b : Goal) → body ≡ goal.Conj a b → (c : Bool) → is_exit (out-Goal b) ≡ c → Same (if c then a else body) body
    by_test a b e true f = before_exit a b e (exit_is b f)
    by_test a b e false f = λ vs. refl

    by_layer : (x : layer.Goal-F Goal) → roll-Goal x ≡ body → Same (without_exit_at body x) body
    by_layer layer.Exit r = λ vs. true_runs vs ∙ sym (exit_runs vs) ∙ ap (λ g. run_goal o exits g vs) (sym rolls-Exit ∙ r)
    by_layer (layer.Conj a b) r = by_test a b (sym r ∙ rolls-Conj a b) (is_exit (out-Goal b)) refl
    by_layer layer.True r = λ vs. refl
    by_layer layer.Fail r = λ vs. refl
    by_layer layer.Cut r = λ vs. refl
    by_layer (layer.Call p ts) r = λ vs. refl
    by_layer (layer.Builtin b ts) r = λ vs. refl
    by_layer (layer.Disj a b) r = λ vs. refl
    by_layer (layer.IfElse c a b) r = λ vs. refl
    by_layer (layer.Not a) r = λ vs. refl

  pub exits_nothing : (g : Goal) → Same (without_exit g) g
  exits_nothing g = by_layer g (out-Goal g) (roll-out-Goal g)

pub exits_change_nothing : (o : Order) → ExitsChangeNothing o
exits_change_nothing o exits g vs = exits_nothing o exits g vs
