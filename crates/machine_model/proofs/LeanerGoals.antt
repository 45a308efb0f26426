-- Goals each of which is an instance of the other are of one form, and so are their parts.
use Rattle.std.proofs.Common.{◌≡◌, ℕ, List, map, refl, ap, sym, ◌∙◌, subst}
use Rattle.term_core.specs.declared.terms.Term.{Term}
use Rattle.term_core.specs.Terms.{instance}
use Rattle.prog_data.specs.declared.goals.Builtin.{Builtin as BuiltinName}
use Rattle.prog_data.specs.declared.goals.Goal.{Goal, True, Fail, Cut, Call, Builtin, Conj, Disj, IfElse, Not, Exit, roll-Goal, out-Goal, roll-out-Goal}
use Rattle.prog_data.specs.declared.goals.Goal.TheOpen as layer
use Rattle.prog_data.specs.declared.goals.Goal.TheVariants.{rolls-True, rolls-Fail, rolls-Cut, rolls-Call, rolls-Builtin, rolls-Conj, rolls-Disj, rolls-IfElse, rolls-Not, rolls-Exit}
use Rattle.prog_data.specs.declared.goals.Goal.TheVariants.{outs-True, outs-Fail, outs-Cut, outs-Call, outs-Builtin, outs-Conj, outs-Disj, outs-IfElse, outs-Not, outs-Exit}
use Rattle.prog_data.specs.Goals.{goal_instance}
use Rattle.machine_model.specs.Leaner.{GoalsAgree, TermsAgree}
use Rattle.prog_data.proofs.GoalInstances.{at_true, at_fail, at_cut, at_call, at_builtin, at_conj, at_disj, at_if, at_not, at_exit}

-- what a goal is
data View : Goal → Type 0 where
  is_true : View True
  is_fail : View Fail
  is_cut : View Cut
  is_call : (p : ℕ) (ts : List Term) → View (Call p ts)
  is_builtin : (b : BuiltinName) (ts : List Term) → View (Builtin b ts)
  is_conj : (x y : Goal) → View (Conj x y)
  is_disj : (x y : Goal) → View (Disj x y)
  is_if : (x y z : Goal) → View (IfElse x y z)
  is_not : (x : Goal) → View (Not x)
  is_exit : View Exit

view_layer : (x : layer.Goal-F Goal) → View (roll-Goal x)
view_layer layer.True = subst View (sym rolls-True) is_true
view_layer layer.Fail = subst View (sym rolls-Fail) is_fail
view_layer layer.Cut = subst View (sym rolls-Cut) is_cut
view_layer (layer.Call p ts) = subst View (sym (rolls-Call p ts)) (is_call p ts)
view_layer (layer.Builtin b ts) = subst View (sym (rolls-Builtin b ts)) (is_builtin b ts)
view_layer (layer.Conj x y) = subst View (sym (rolls-Conj x y)) (is_conj x y)
view_layer (layer.Disj x y) = subst View (sym (rolls-Disj x y)) (is_disj x y)
view_layer (layer.IfElse x y z) = subst View (sym (rolls-IfElse x y z)) (is_if x y z)
view_layer (layer.Not x) = subst View (sym (rolls-Not x)) (is_not x)
view_layer layer.Exit = subst View (sym rolls-Exit) is_exit

view : (g : Goal) → View g
view g = subst View (roll-out-Goal g) (view_layer (out-Goal g))

pub call_inside : (p : ℕ) (ts us : List Term) → Call p ts ≡ Call p us → ts ≡ us
call_inside p ts us e = inside (sym (outs-Call p ts) ∙ ap out-Goal e ∙ outs-Call p us) where
  inside : ◌≡◌ {A = layer.Goal-F Goal} (layer.Call p ts) (layer.Call p us) → ts ≡ us
  inside e = cc

pub builtin_inside : (b : BuiltinName) (ts us : List Term) → Builtin b ts ≡ Builtin b us → ts ≡ us
builtin_inside b ts us e = inside (sym (outs-Builtin b ts) ∙ ap out-Goal e ∙ outs-Builtin b us) where
  inside : ◌≡◌ {A = layer.Goal-F Goal} (layer.Builtin b ts) (layer.Builtin b us) → ts ≡ us
  inside e = cc

pub conj_inside : (x y x' y' : Goal) → Conj x y ≡ Conj x' y' → (x ≡ x') × (y ≡ y')
conj_inside x y x' y' e = inside (sym (outs-Conj x y) ∙ ap out-Goal e ∙ outs-Conj x' y') where
  inside : layer.Conj x y ≡ layer.Conj x' y' → (x ≡ x') × (y ≡ y')
  inside e = (cc, cc)

pub disj_inside : (x y x' y' : Goal) → Disj x y ≡ Disj x' y' → (x ≡ x') × (y ≡ y')
disj_inside x y x' y' e = inside (sym (outs-Disj x y) ∙ ap out-Goal e ∙ outs-Disj x' y') where
  inside : layer.Disj x y ≡ layer.Disj x' y' → (x ≡ x') × (y ≡ y')
  inside e = (cc, cc)

pub if_inside : (x y z x' y' z' : Goal) → IfElse x y z ≡ IfElse x' y' z' → (x ≡ x') × (y ≡ y') × (z ≡ z')
if_inside x y z x' y' z' e = inside (sym (outs-IfElse x y z) ∙ ap out-Goal e ∙ outs-IfElse x' y' z') where
  inside : layer.IfElse x y z ≡ layer.IfElse x' y' z' → (x ≡ x') × (y ≡ y') × (z ≡ z')
  inside e = (cc, cc, cc)

pub not_inside : (x x' : Goal) → Not x ≡ Not x' → x ≡ x'
not_inside x x' e = inside (sym (outs-Not x) ∙ ap out-Goal e ∙ outs-Not x') where
  inside : layer.Not x ≡ layer.Not x' → x ≡ x'
  inside e = cc

module _ (there back : ℕ → Term) where
  -- two goals of one form, whose parts are instances of each other
  pub data OneForm : layer.Goal-F Goal → layer.Goal-F Goal → Type 0 where
    both_true : OneForm layer.True layer.True
    both_fail : OneForm layer.Fail layer.Fail
    both_cut : OneForm layer.Cut layer.Cut
    both_call : (p : ℕ) (ts ts' : List Term) → TermsAgree there back ts ts' → OneForm (layer.Call p ts) (layer.Call p ts')
    both_builtin : (b : BuiltinName) (ts ts' : List Term) → TermsAgree there back ts ts' → OneForm (layer.Builtin b ts) (layer.Builtin b ts')
    both_conj : (x x' y y' : Goal) → GoalsAgree there back x x' → GoalsAgree there back y y' → OneForm (layer.Conj x y) (layer.Conj x' y')
    both_disj : (x x' y y' : Goal) → GoalsAgree there back x x' → GoalsAgree there back y y' → OneForm (layer.Disj x y) (layer.Disj x' y')
    both_if : (x x' y y' z z' : Goal) → GoalsAgree there back x x' → GoalsAgree there back y y' → GoalsAgree there back z z' → OneForm (layer.IfElse x y z) (layer.IfElse x' y' z')
    both_not : (x x' : Goal) → GoalsAgree there back x x' → OneForm (layer.Not x) (layer.Not x')
    both_exit : OneForm layer.Exit layer.Exit

  opened : (g g' h' : Goal) (x x' : layer.Goal-F Goal) → out-Goal g ≡ x → out-Goal h' ≡ x' → h' ≡ g' → OneForm x x' → OneForm (out-Goal g) (out-Goal g')
  opened g g' h' x x' e e' is f = subst (λ z. OneForm (out-Goal g) (out-Goal z)) is (subst (λ z. OneForm z (out-Goal h')) (sym e) (subst (OneForm x) (sym e') f))

  at_form : (g g' : Goal) → goal_instance there g ≡ g' → goal_instance back g' ≡ g → View g → OneForm (out-Goal g) (out-Goal g')
  at_form g g' e b is_true = opened True g' True layer.True layer.True outs-True outs-True (sym (at_true there) ∙ e) both_true
  at_form g g' e b is_fail = opened Fail g' Fail layer.Fail layer.Fail outs-Fail outs-Fail (sym (at_fail there) ∙ e) both_fail
  at_form g g' e b is_cut = opened Cut g' Cut layer.Cut layer.Cut outs-Cut outs-Cut (sym (at_cut there) ∙ e) both_cut
  at_form g g' e b is_exit = opened Exit g' Exit layer.Exit layer.Exit outs-Exit outs-Exit (sym (at_exit there) ∙ e) both_exit
  at_form g g' e b (is_call p ts) =
      let ts' : List Term = map (instance there) ts in
      let is : Call p ts' ≡ g' = sym (at_call there p ts) ∙ e in
      opened (Call p ts) g' (Call p ts') _ _ (outs-Call p ts) (outs-Call p ts') is
      (both_call p ts ts' (record { is_there = refl; is_back = call_inside p _ ts (sym (at_call back p ts') ∙ ap (goal_instance back) is ∙ b) }))
  at_form g g' e b (is_builtin n ts) =
      let ts' : List Term = map (instance there) ts in
      let is : Builtin n ts' ≡ g' = sym (at_builtin there n ts) ∙ e in
      opened (Builtin n ts) g' (Builtin n ts') _ _ (outs-Builtin n ts) (outs-Builtin n ts') is
      (both_builtin n ts ts' (record { is_there = refl; is_back = builtin_inside n _ ts (sym (at_builtin back n ts') ∙ ap (goal_instance back) is ∙ b) }))
  at_form g g' e b (is_conj x y) =
      let x' : Goal = goal_instance there x in
      let y' : Goal = goal_instance there y in
      let is : Conj x' y' ≡ g' = sym (at_conj there x y) ∙ e in
      let parts = conj_inside _ _ x y (sym (at_conj back x' y') ∙ ap (goal_instance back) is ∙ b) in
      opened (Conj x y) g' (Conj x' y') _ _ (outs-Conj x y) (outs-Conj x' y') is (both_conj x x' y y' (record { is_there = refl; is_back = parts.0 }) (record { is_there = refl; is_back = parts.1 }))
  at_form g g' e b (is_disj x y) =
      let x' : Goal = goal_instance there x in
      let y' : Goal = goal_instance there y in
      let is : Disj x' y' ≡ g' = sym (at_disj there x y) ∙ e in
      let parts = disj_inside _ _ x y (sym (at_disj back x' y') ∙ ap (goal_instance back) is ∙ b) in
      opened (Disj x y) g' (Disj x' y') _ _ (outs-Disj x y) (outs-Disj x' y') is (both_disj x x' y y' (record { is_there = refl; is_back = parts.0 }) (record { is_there = refl; is_back = parts.1 }))
  at_form g g' e b (is_if x y z) =
      let x' : Goal = goal_instance there x in
      let y' : Goal = goal_instance there y in
      let z' : Goal = goal_instance there z in
      let is : IfElse x' y' z' ≡ g' = sym (at_if there x y z) ∙ e in
      let parts = if_inside _ _ _ x y z (sym (at_if back x' y' z') ∙ ap (goal_instance back) is ∙ b) in
      opened (IfElse x y z) g' (IfElse x' y' z') _ _ (outs-IfElse x y z) (outs-IfElse x' y' z') is
      (both_if x x' y y' z z' (record { is_there = refl; is_back = parts.0 }) (record { is_there = refl; is_back = parts.1 }) (record { is_there = refl; is_back = parts.2 }))
  at_form g g' e b (is_not x) =
      let x' : Goal = goal_instance there x in
      let is : Not x' ≡ g' = sym (at_not there x) ∙ e in
      opened (Not x) g' (Not x') _ _ (outs-Not x) (outs-Not x') is (both_not x x' (record { is_there = refl; is_back = not_inside _ x (sym (at_not back x') ∙ ap (goal_instance back) is ∙ b) }))

  pub one_form : (g g' : Goal) → GoalsAgree there back g g' → OneForm (out-Goal g) (out-Goal g')
  one_form g g' are = at_form g g' are.is_there are.is_back (view g)

  -- goals without terms
  pub fails : GoalsAgree there back Fail Fail
  fails = record { is_there = at_fail there; is_back = at_fail back }
