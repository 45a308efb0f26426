-- Instances of goals by their form; an instance of an instance of a goal is one instance.
use Rattle.std.proofs.Common.{◌≡◌, ℕ, List, map, ap, sym, ◌∙◌}
use Rattle.term_core.specs.declared.terms.Term.{Term}
use Rattle.term_core.specs.Terms.{instance}
use Rattle.term_core.proofs.TermLaws.{instance-instance, map_map}
use Rattle.prog_data.specs.declared.goals.Goal.{Goal, True, Fail, Cut, Call, Builtin, Conj, Disj, IfElse, Not, Exit}
use Rattle.prog_data.specs.declared.goals.Goal.TheOpen as layer
use Rattle.prog_data.specs.Goals.{goal_instance, goal_instance_step}
use Rattle.prog_data.proofs.GoalFolds.{ind_goals, fold-True, fold-Fail, fold-Cut, fold-Call, fold-Builtin, fold-Conj, fold-Disj, fold-IfElse, fold-Not, fold-Exit}

module _ (value : ℕ → Term) where
  abbrev step : layer.Goal-F Goal → Goal
  step = goal_instance_step value

  pub at_true : goal_instance value True ≡ True
  at_true = fold-True Goal step

  pub at_fail : goal_instance value Fail ≡ Fail
  at_fail = fold-Fail Goal step

  pub at_cut : goal_instance value Cut ≡ Cut
  at_cut = fold-Cut Goal step

  pub at_call : (p : ℕ) (ts : List Term) → goal_instance value (Call p ts) ≡ Call p (map (instance value) ts)
  at_call p ts = fold-Call Goal step p ts

  pub at_builtin : (b : _) (ts : List Term) → goal_instance value (Builtin b ts) ≡ Builtin b (map (instance value) ts)
  at_builtin b ts = fold-Builtin Goal step b ts

  pub at_conj : (a b : Goal) → goal_instance value (Conj a b) ≡ Conj (goal_instance value a) (goal_instance value b)
  at_conj a b = fold-Conj Goal step a b

  pub at_disj : (a b : Goal) → goal_instance value (Disj a b) ≡ Disj (goal_instance value a) (goal_instance value b)
  at_disj a b = fold-Disj Goal step a b

  pub at_if : (c a b : Goal) → goal_instance value (IfElse c a b) ≡ IfElse (goal_instance value c) (goal_instance value a) (goal_instance value b)
  at_if c a b = fold-IfElse Goal step c a b

  pub at_not : (a : Goal) → goal_instance value (Not a) ≡ Not (goal_instance value a)
  at_not a = fold-Not Goal step a

  pub at_exit : goal_instance value Exit ≡ Exit
  at_exit = fold-Exit Goal step

module _ (f g : ℕ → Term) where
  abbrev both : ℕ → Term
  both v = instance f (g v)

  terms : (ts : List Term) → map (instance f) (map (instance g) ts) ≡ map (instance both) ts
  terms ts = map_map (instance f) (instance g) ts ∙ (λ i. map (λ t. instance-instance f g t i) ts)

  pub goal_instance-instance : (x : Goal) → goal_instance f (goal_instance g x) ≡ goal_instance (λ v. instance f (g v)) x
  goal_instance-instance = ind_goals (λ x. goal_instance f (goal_instance g x) ≡ goal_instance both x)
      (ap (goal_instance f) (at_true g) ∙ at_true f ∙ sym (at_true both))
      (ap (goal_instance f) (at_fail g) ∙ at_fail f ∙ sym (at_fail both))
      (ap (goal_instance f) (at_cut g) ∙ at_cut f ∙ sym (at_cut both))
      (λ p ts. ap (goal_instance f) (at_call g p ts) ∙ at_call f p _ ∙ ap (Call p) (terms ts) ∙ sym (at_call both p ts))
      (λ b ts. ap (goal_instance f) (at_builtin g b ts) ∙ at_builtin f b _ ∙ ap (Builtin b) (terms ts) ∙ sym (at_builtin both b ts))
      (λ a b x y. ap (goal_instance f) (at_conj g a b) ∙ at_conj f _ _ ∙ (λ i. Conj (x i) (y i)) ∙ sym (at_conj both a b))
      (λ a b x y. ap (goal_instance f) (at_disj g a b) ∙ at_disj f _ _ ∙ (λ i. Disj (x i) (y i)) ∙ sym (at_disj both a b))
      (λ c a b x y z. ap (goal_instance f) (at_if g c a b) ∙ at_if f _ _ _ ∙ (λ i. IfElse (x i) (y i) (z i)) ∙ sym (at_if both c a b))
      (λ a x. ap (goal_instance f) (at_not g a) ∙ at_not f _ ∙ ap Not x ∙ sym (at_not both a))
      (ap (goal_instance f) (at_exit g) ∙ at_exit f ∙ sym (at_exit both))
