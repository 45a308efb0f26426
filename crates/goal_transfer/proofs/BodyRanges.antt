-- The parts of a body in range are in range.
use Rattle.std.proofs.Common.{◌≡◌, ℕ, Bool, true, false, List, [], ◌∷◌, length, refl, ap, sym, ◌∙◌}
use Rattle.std.proofs.lemmas.Bool.{and_from}
use Rattle.std.specs.Prelude.{nat_le, if◌then◌else◌}
use Rattle.std.specs.List.{list_all}
use Rattle.term_core.specs.declared.terms.Term.{Term}
use Rattle.term_core.specs.Ranges.{has_names}
use Rattle.term_core.specs.Terms.{above}
use Rattle.prog_data.specs.declared.goals.Builtin.{Builtin as BuiltinName}
use Rattle.prog_data.specs.declared.goals.Goal.{Goal, out-Goal, roll-Goal, roll-out-Goal}
use Rattle.prog_data.specs.declared.goals.Goal as goal
use Rattle.prog_data.specs.declared.goals.Goal.TheOpen as layer
use Rattle.prog_data.specs.declared.goals.Goal.TheVariants.{outs-Call, outs-Builtin, outs-Conj, outs-Disj, outs-IfElse, outs-Not, outs-Exit, rolls-Conj}
use Rattle.prog_data.specs.declared.programs.Program.{Program}
use Rattle.prog_data.specs.Goals.{is_exit, without_exit_at}
use Rattle.prog_data.specs.Ranges.{is_term_of, is_builtin_of, is_call_of, goal_step, is_goal_of, is_body_of}
use Rattle.prog_data.proofs.GoalFolds.{fold-True, fold-Call, fold-Builtin, fold-Conj, fold-Disj, fold-IfElse, fold-Not}
use Rattle.goal_transfer.proofs.Lengths.{both}
use Rattle.goal_transfer.proofs.ExitRuns.{exit_is}

module _ (program : Program) (vars : ℕ) where
  abbrev pub IsGoal : Goal → Type 0
  IsGoal g = is_goal_of program vars g ≡ true

  abbrev pub IsBody : Goal → Type 0
  IsBody g = is_body_of program vars g ≡ true

  -- a goal in range is a body in range
  goal_body : (g : Goal) → is_goal_of program vars g ≡ true → is_body_of program vars g ≡ true
  goal_body g e = by_layer (out-Goal g) (roll-out-Goal g)
    where
      by_test : (a b : Goal) → g ≡ goal.Conj a b → (c : Bool) → is_goal_of program vars (if c then a else g) ≡ true
      by_test a b is true = (both (is_goal_of program vars a) (is_goal_of program vars b) (sym (fold-Conj Bool (goal_step program vars) a b) ∙ sym (ap (is_goal_of program vars) is) ∙ e)).0
      by_test a b is false = e

      by_layer : (x : layer.Goal-F Goal) → roll-Goal x ≡ g → is_goal_of program vars (without_exit_at g x) ≡ true
      by_layer layer.Exit r = fold-True Bool (goal_step program vars)
      by_layer (layer.Conj a b) r = by_test a b (sym r ∙ rolls-Conj a b) (is_exit (out-Goal b))
      by_layer layer.True r = e
      by_layer layer.Fail r = e
      by_layer layer.Cut r = e
      by_layer (layer.Call p ts) r = e
      by_layer (layer.Builtin b ts) r = e
      by_layer (layer.Disj a b) r = e
      by_layer (layer.IfElse c a b) r = e
      by_layer (layer.Not a) r = e

  exit_body : is_body_of program vars goal.Exit ≡ true
  exit_body = ap (λ x. is_goal_of program vars (without_exit_at goal.Exit x)) outs-Exit ∙ fold-True Bool (goal_step program vars)

  -- a body that is no conjunction
  plain : (g : Goal) (x : layer.Goal-F Goal) → out-Goal g ≡ x → without_exit_at g x ≡ g → is_body_of program vars g ≡ true → is_goal_of program vars g ≡ true
  plain g x is same e = sym (ap (is_goal_of program vars) (ap (without_exit_at g) is ∙ same)) ∙ e

  pub conj_bodies : (g a b : Goal) → g ≡ goal.Conj a b → is_body_of program vars g ≡ true → (is_body_of program vars a ≡ true) × (is_body_of program vars b ≡ true)
  conj_bodies g a b is e = by_test (is_exit (out-Goal b)) refl (sym (ap (is_goal_of program vars) (ap (without_exit_at g) (ap out-Goal is ∙ outs-Conj a b))) ∙ e)
    where
      by_test : (c : Bool) → is_exit (out-Goal b) ≡ c → is_goal_of program vars (if c then a else g) ≡ true → (is_body_of program vars a ≡ true) × (is_body_of program vars b ≡ true)
      by_test true f h = (goal_body a h, ap (is_body_of program vars) (exit_is b f) ∙ exit_body)
      by_test false f h =
          let t = both (is_goal_of program vars a) (is_goal_of program vars b) (sym (fold-Conj Bool (goal_step program vars) a b) ∙ sym (ap (is_goal_of program vars) is) ∙ h) in
          (goal_body a t.0, goal_body b t.1)

  pub disj_bodies : (g a b : Goal) → g ≡ goal.Disj a b → is_body_of program vars g ≡ true → (is_body_of program vars a ≡ true) × (is_body_of program vars b ≡ true)
  disj_bodies g a b is e =
      let h = plain g (layer.Disj a b) (ap out-Goal is ∙ outs-Disj a b) refl e in
      let t = both (is_goal_of program vars a) (is_goal_of program vars b) (sym (fold-Disj Bool (goal_step program vars) a b) ∙ sym (ap (is_goal_of program vars) is) ∙ h) in
      (goal_body a t.0, goal_body b t.1)

  pub if_bodies : (g c a b : Goal) → g ≡ goal.IfElse c a b → is_body_of program vars g ≡ true → (is_body_of program vars c ≡ true) × (is_body_of program vars a ≡ true) × (is_body_of program vars b ≡ true)
  if_bodies g c a b is e =
      let h = plain g (layer.IfElse c a b) (ap out-Goal is ∙ outs-IfElse c a b) refl e in
      let t = both (is_goal_of program vars c) _ (sym (fold-IfElse Bool (goal_step program vars) c a b) ∙ sym (ap (is_goal_of program vars) is) ∙ h) in
      let u = both (is_goal_of program vars a) (is_goal_of program vars b) t.1 in
      (goal_body c t.0, goal_body a u.0, goal_body b u.1)

  pub not_body : (g a : Goal) → g ≡ goal.Not a → is_body_of program vars g ≡ true → is_body_of program vars a ≡ true
  not_body g a is e =
      let h = plain g (layer.Not a) (ap out-Goal is ∙ outs-Not a) refl e in
      goal_body a (sym (fold-Not Bool (goal_step program vars) a) ∙ sym (ap (is_goal_of program vars) is) ∙ h)

  -- terms in range have variables with a place
  pub terms_within : (ts : List Term) → list_all (is_term_of program vars) ts ≡ true → list_all (λ t. nat_le (above t) vars) ts ≡ true
  terms_within [] e = refl
  terms_within (t ∷ ts) e = let b = both (is_term_of program vars t) _ e in and_from (nat_le (above t) vars) _ (both (has_names (length program.names) t) _ b.0).1 (terms_within ts b.1)

  pub call_within : (g : Goal) (p : ℕ) (ts : List Term) → g ≡ goal.Call p ts → is_body_of program vars g ≡ true → list_all (λ t. nat_le (above t) vars) ts ≡ true
  call_within g p ts is e =
      let h = plain g (layer.Call p ts) (ap out-Goal is ∙ outs-Call p ts) refl e in
      terms_within ts (both (is_call_of program p ts) _ (sym (fold-Call Bool (goal_step program vars) p ts) ∙ sym (ap (is_goal_of program vars) is) ∙ h)).1

  pub builtin_within : (g : Goal) (b : BuiltinName) (ts : List Term) → g ≡ goal.Builtin b ts → is_body_of program vars g ≡ true → (is_builtin_of (length program.grammar.rules) b ts ≡ true) × (list_all (λ t. nat_le (above t) vars) ts ≡ true)
  builtin_within g b ts is e =
      let h = plain g (layer.Builtin b ts) (ap out-Goal is ∙ outs-Builtin b ts) refl e in
      let t = both (is_builtin_of (length program.grammar.rules) b ts) _ (sym (fold-Builtin Bool (goal_step program vars) b ts) ∙ sym (ap (is_goal_of program vars) is) ∙ h) in
      (t.0, terms_within ts t.1)
