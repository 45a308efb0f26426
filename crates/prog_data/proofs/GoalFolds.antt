-- The generated fold over goals: induction, its equations, and a twin that computes.
use Rattle.std.proofs.Common.{◌≡◌, ℕ, List, ap, sym, ◌∙◌, subst}
use Rattle.term_core.specs.declared.terms.Term.{Term}
use Rattle.prog_data.specs.declared.goals.Builtin.{Builtin as BuiltinName}
use Rattle.prog_data.specs.declared.goals.Goal.{Goal, True, Fail, Cut, Call, Builtin, Conj, Disj, IfElse, Not, Exit, roll-Goal}
use Rattle.prog_data.specs.declared.goals.Goal.TheVariants.{rolls-True, rolls-Fail, rolls-Cut, rolls-Call, rolls-Builtin, rolls-Conj, rolls-Disj, rolls-IfElse, rolls-Not, rolls-Exit}
use Rattle.prog_data.specs.declared.goals.Goal.TheFolds.{fold-Goal, fold-roll-Goal, ind-Goal, family, steps, map-Goal, claims}
use Rattle.prog_data.specs.declared.goals.Goal.TheBlock.{laid-Goal}
use Rattle.prog_data.specs.declared.goals.Goal.TheBlock as block
use Rattle.prog_data.specs.declared.goals.Goal.TheOpen as layer
use denote.Hole.Holds
use denote.Hole.Carrier

abbrev pub Held : (Goal → Type 0) → Type 0
Held P = Holds.Such (Carrier.Values block.the_members block.the_sigs block.the_carrier) (claims P) block.member-Goal

-- induction over goals
module _ (P : Goal → Type 0) (at_true : P True) (at_fail : P Fail) (at_cut : P Cut) (at_call : (p : ℕ) (ts : List Term) → P (Call p ts)) (at_builtin : (b : BuiltinName) (ts : List Term) → P (Builtin b ts))
    (at_conj : (a b : Goal) → P a → P b → P (Conj a b)) (at_disj : (a b : Goal) → P a → P b → P (Disj a b))
    (at_if : (c a b : Goal) → P c → P a → P b → P (IfElse c a b)) (at_not : (a : Goal) → P a → P (Not a)) (at_exit : P Exit) where
  at_layer : (y : layer.Goal-F (Held P)) → P (roll-Goal (map-Goal (Held P) Goal (λ e. e.0) y))
  at_layer layer.True = subst P (sym rolls-True) at_true
  at_layer layer.Fail = subst P (sym rolls-Fail) at_fail
  at_layer layer.Cut = subst P (sym rolls-Cut) at_cut
  at_layer (layer.Call p ts) = subst P (sym (rolls-Call p ts)) (at_call p ts)
  at_layer (layer.Builtin b ts) = subst P (sym (rolls-Builtin b ts)) (at_builtin b ts)
  at_layer (layer.Conj a b) = subst P (sym (rolls-Conj a.0 b.0)) (at_conj a.0 b.0 a.1 b.1)
  at_layer (layer.Disj a b) = subst P (sym (rolls-Disj a.0 b.0)) (at_disj a.0 b.0 a.1 b.1)
  at_layer (layer.IfElse c a b) = subst P (sym (rolls-IfElse c.0 a.0 b.0)) (at_if c.0 a.0 b.0 c.1 a.1 b.1)
  at_layer (layer.Not a) = subst P (sym (rolls-Not a.0)) (at_not a.0 a.1)
  at_layer layer.Exit = subst P (sym rolls-Exit) at_exit

  pub ind_goals : (g : Goal) → P g
  ind_goals = ind-Goal P (λ x y e. subst (λ x. P (roll-Goal x)) e (at_layer y))

-- a fold that computes
abbrev pub fold_goal : (A : Type 0) → (layer.Goal-F A → A) → Goal → A
fold_goal A step = laid-Goal (family A) (steps A step)

module _ (A : Type 0) (step : layer.Goal-F A → A) where
  pub fold-True : fold-Goal A step True ≡ step layer.True
  fold-True = ap (fold-Goal A step) (sym rolls-True) ∙ fold-roll-Goal A step layer.True

  pub fold-Fail : fold-Goal A step Fail ≡ step layer.Fail
  fold-Fail = ap (fold-Goal A step) (sym rolls-Fail) ∙ fold-roll-Goal A step layer.Fail

  pub fold-Cut : fold-Goal A step Cut ≡ step layer.Cut
  fold-Cut = ap (fold-Goal A step) (sym rolls-Cut) ∙ fold-roll-Goal A step layer.Cut

  pub fold-Call : (p : ℕ) (ts : List Term) → fold-Goal A step (Call p ts) ≡ step (layer.Call p ts)
  fold-Call p ts = ap (fold-Goal A step) (sym (rolls-Call p ts)) ∙ fold-roll-Goal A step (layer.Call p ts)

  pub fold-Builtin : (b : BuiltinName) (ts : List Term) → fold-Goal A step (Builtin b ts) ≡ step (layer.Builtin b ts)
  fold-Builtin b ts = ap (fold-Goal A step) (sym (rolls-Builtin b ts)) ∙ fold-roll-Goal A step (layer.Builtin b ts)

  pub fold-Conj : (a b : Goal) → fold-Goal A step (Conj a b) ≡ step (layer.Conj (fold-Goal A step a) (fold-Goal A step b))
  fold-Conj a b = ap (fold-Goal A step) (sym (rolls-Conj a b)) ∙ fold-roll-Goal A step (layer.Conj a b)

  pub fold-Disj : (a b : Goal) → fold-Goal A step (Disj a b) ≡ step (layer.Disj (fold-Goal A step a) (fold-Goal A step b))
  fold-Disj a b = ap (fold-Goal A step) (sym (rolls-Disj a b)) ∙ fold-roll-Goal A step (layer.Disj a b)

  pub fold-IfElse : (c a b : Goal) → fold-Goal A step (IfElse c a b) ≡ step (layer.IfElse (fold-Goal A step c) (fold-Goal A step a) (fold-Goal A step b))
  fold-IfElse c a b = ap (fold-Goal A step) (sym (rolls-IfElse c a b)) ∙ fold-roll-Goal A step (layer.IfElse c a b)

  pub fold-Not : (a : Goal) → fold-Goal A step (Not a) ≡ step (layer.Not (fold-Goal A step a))
  fold-Not a = ap (fold-Goal A step) (sym (rolls-Not a)) ∙ fold-roll-Goal A step (layer.Not a)

  pub fold-Exit : fold-Goal A step Exit ≡ step layer.Exit
  fold-Exit = ap (fold-Goal A step) (sym rolls-Exit) ∙ fold-roll-Goal A step layer.Exit

  -- the twin is the fold
  pub fold_is : (g : Goal) → fold-Goal A step g ≡ fold_goal A step g
  unfolding block.hidden-the_row-Goal-0 block.shape-the_row-Goal-0 Carrier.hidden
  fold_is = ind_goals (λ g. fold-Goal A step g ≡ fold_goal A step g) fold-True fold-Fail fold-Cut fold-Call fold-Builtin
      (λ a b p q. fold-Conj a b ∙ ap (λ x. step (layer.Conj x (fold-Goal A step b))) p ∙ ap (λ y. step (layer.Conj (fold_goal A step a) y)) q)
      (λ a b p q. fold-Disj a b ∙ ap (λ x. step (layer.Disj x (fold-Goal A step b))) p ∙ ap (λ y. step (layer.Disj (fold_goal A step a) y)) q)
      (λ c a b o p q. fold-IfElse c a b ∙ ap (λ x. step (layer.IfElse x (fold-Goal A step a) (fold-Goal A step b))) o ∙ ap (λ x. step (layer.IfElse (fold_goal A step c) x (fold-Goal A step b))) p ∙ ap (λ y. step (layer.IfElse (fold_goal A step c) (fold_goal A step a) y)) q)
      (λ a p. fold-Not a ∙ ap (λ x. step (layer.Not x)) p)
      fold-Exit

abbrev pub Fold : Type 1
Fold = (A : Type 0) → (layer.Goal-F A → A) → Goal → A

pub all_folds : ◌≡◌ {A = Fold} fold-Goal fold_goal
all_folds = λ i A step g. fold_is A step g i
