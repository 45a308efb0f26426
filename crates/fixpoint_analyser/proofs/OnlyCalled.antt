-- Exits of predicates that a goal does not call do not matter to it.
use Rattle.std.proofs.Common.{◌≡◌, ◌⊎◌, inl, inr, ℕ, Bool, true, false, ◌||◌, List, [], ◌∷◌, map, refl, ap, sym, ◌∙◌, arith, true≢false}
use Rattle.std.proofs.lemmas.Bool.Decides.{nat_tests}
use Rattle.std.specs.Prelude.{◌==◌, Option, None, Some}
use Rattle.term_core.specs.declared.terms.Term.{Term}
use Rattle.prog_data.specs.declared.goals.Goal.{Goal, True, Fail, Cut, Call, Builtin, Conj, Disj, IfElse, Not, Exit}
use Rattle.prog_data.specs.declared.goals.Goal.TheOpen as layer
use Rattle.prog_data.specs.Values.{TypeValue}
use Rattle.prog_data.proofs.GoalFolds.{fold-True, fold-Fail, fold-Cut, fold-Call, fold-Builtin, fold-Conj, fold-Disj, fold-IfElse, fold-Not, fold-Exit, ind_goals}
use Rattle.name_order.specs.Relations.{Order}
use Rattle.goal_transfer.specs.Transfer.{Values, Outcome, Exits, then_outcome, either_outcome, behind_call, outcome_step, run_goal, term_value}
use Rattle.fixpoint_analyser.specs.Ascent.{calls_step, calls}
use Rattle.fixpoint_analyser.specs.Laws.{OnlyCalledMatter}

neither : (a b : Bool) → (a || b) ≡ false → (a ≡ false) × (b ≡ false)
neither true b e = absurd (true≢false e)
neither false b e = (refl, e)

module _ (o : Order) (exits exits' : Exits) where
  -- the exits agree at each predicate that the goal calls
  abbrev Agree : Goal → Type 0
  Agree g = (p : ℕ) → (exits p ≡ exits' p) ⊎ (calls p g ≡ false)

  abbrev Same : Goal → Type 0
  Same g = Agree g → (vs : Values) → run_goal o exits g vs ≡ run_goal o exits' g vs

  -- goals that do what they do whatever the exits are
  same_by : (g : Goal) (go : Values → Outcome) → run_goal o exits g ≡ go → run_goal o exits' g ≡ go → Same g
  same_by g go e f agree vs = ap (λ f. f vs) (e ∙ sym f)

  -- a part is called by the whole
  agree_in : (g h : Goal) → ((p : ℕ) → calls p g ≡ false → calls p h ≡ false) → Agree g → Agree h
  agree_in g h part agree p = by_case (agree p)
    where
      by_case : (exits p ≡ exits' p) ⊎ (calls p g ≡ false) → (exits p ≡ exits' p) ⊎ (calls p h ≡ false)
      by_case (inl e) = inl e
      by_case (inr e) = inr (part p e)

  at_call : (p : ℕ) (ts : List Term) → Same (Call p ts)
  at_call p ts agree vs =
      ap (λ f. f vs) (fold-Call _ (outcome_step o exits) p ts) ∙ by_case (agree p) ∙ sym (ap (λ f. f vs) (fold-Call _ (outcome_step o exits') p ts))
    where
      itself : (p == p) ≡ true
      itself = grind (arith, nat_tests)

      same_known : (es : Option (List TypeValue)) → behind_call o exits es ts vs ≡ behind_call o exits' es ts vs
      same_known None = refl
      same_known (Some ws) = refl

      by_case : (exits p ≡ exits' p) ⊎ (calls p (Call p ts) ≡ false) → outcome_step o exits (layer.Call p ts) vs ≡ outcome_step o exits' (layer.Call p ts) vs
      by_case (inl e) =
          ap (λ es. record { known = behind_call o exits es ts vs; calls = (p, map (term_value o vs) ts) ∷ [] }) e ∙ ap (λ k. record { known = k; calls = (p, map (term_value o vs) ts) ∷ [] }) (same_known (exits' p))
      by_case (inr e) = absurd (true≢false (sym itself ∙ sym (fold-Call Bool (calls_step p) p ts) ∙ e))

  at_conj : (a b : Goal) → Same a → Same b → Same (Conj a b)
  at_conj a b h k agree vs =
      let part : (p : ℕ) → calls p (Conj a b) ≡ false → (calls p a ≡ false) × (calls p b ≡ false) = λ p e. neither (calls p a) (calls p b) (sym (fold-Conj Bool (calls_step p) a b) ∙ e) in
      let first = h (agree_in (Conj a b) a (λ p e. (part p e).0) agree) vs in
      let second = k (agree_in (Conj a b) b (λ p e. (part p e).1) agree) in
      ap (λ f. f vs) (fold-Conj _ (outcome_step o exits) a b) ∙ ap (λ x. then_outcome x (run_goal o exits b)) first ∙ ap (then_outcome (run_goal o exits' a vs)) (λ i ws. second ws i)
      ∙ sym (ap (λ f. f vs) (fold-Conj _ (outcome_step o exits') a b))

  at_disj : (a b : Goal) → Same a → Same b → Same (Disj a b)
  at_disj a b h k agree vs =
      let part : (p : ℕ) → calls p (Disj a b) ≡ false → (calls p a ≡ false) × (calls p b ≡ false) = λ p e. neither (calls p a) (calls p b) (sym (fold-Disj Bool (calls_step p) a b) ∙ e) in
      ap (λ f. f vs) (fold-Disj _ (outcome_step o exits) a b) ∙ ap (λ x. either_outcome x (run_goal o exits b vs)) (h (agree_in (Disj a b) a (λ p e. (part p e).0) agree) vs)
      ∙ ap (either_outcome (run_goal o exits' a vs)) (k (agree_in (Disj a b) b (λ p e. (part p e).1) agree) vs) ∙ sym (ap (λ f. f vs) (fold-Disj _ (outcome_step o exits') a b))

  at_if : (c a b : Goal) → Same c → Same a → Same b → Same (IfElse c a b)
  at_if c a b i h k agree vs =
      let part : (p : ℕ) → calls p (IfElse c a b) ≡ false → (calls p c ≡ false) × ((calls p a || calls p b) ≡ false) = λ p e. neither (calls p c) (calls p a || calls p b) (sym (fold-IfElse Bool (calls_step p) c a b) ∙ e) in
      let arms : (p : ℕ) → calls p (IfElse c a b) ≡ false → (calls p a ≡ false) × (calls p b ≡ false) = λ p e. neither (calls p a) (calls p b) (part p e).1 in
      let test = i (agree_in (IfElse c a b) c (λ p e. (part p e).0) agree) vs in
      let first = h (agree_in (IfElse c a b) a (λ p e. (arms p e).0) agree) in
      let second = k (agree_in (IfElse c a b) b (λ p e. (arms p e).1) agree) vs in
      ap (λ f. f vs) (fold-IfElse _ (outcome_step o exits) c a b)
      ∙ ap (λ x. either_outcome (then_outcome x (run_goal o exits a)) (run_goal o exits b vs)) test
      ∙ ap (λ f. either_outcome (then_outcome (run_goal o exits' c vs) f) (run_goal o exits b vs)) (λ i ws. first ws i)
      ∙ ap (either_outcome (then_outcome (run_goal o exits' c vs) (run_goal o exits' a))) second ∙ sym (ap (λ f. f vs) (fold-IfElse _ (outcome_step o exits') c a b))

  at_not : (a : Goal) → Same a → Same (Not a)
  at_not a h agree vs =
      ap (λ f. f vs) (fold-Not _ (outcome_step o exits) a) ∙ ap (λ x. record { known = Some vs; calls = x.calls }) (h (agree_in (Not a) a (λ p e. sym (fold-Not Bool (calls_step p) a) ∙ e) agree) vs)
      ∙ sym (ap (λ f. f vs) (fold-Not _ (outcome_step o exits') a))

  pub same_outcome : (g : Goal) → Same g
  same_outcome = ind_goals Same
      (same_by True _ (fold-True _ (outcome_step o exits)) (fold-True _ (outcome_step o exits')))
      (same_by Fail _ (fold-Fail _ (outcome_step o exits)) (fold-Fail _ (outcome_step o exits')))
      (same_by Cut _ (fold-Cut _ (outcome_step o exits)) (fold-Cut _ (outcome_step o exits')))
      at_call
      (λ b ts. same_by (Builtin b ts) _ (fold-Builtin _ (outcome_step o exits) b ts) (fold-Builtin _ (outcome_step o exits') b ts))
      at_conj at_disj at_if at_not
      (same_by Exit _ (fold-Exit _ (outcome_step o exits)) (fold-Exit _ (outcome_step o exits')))

pub only_called : (o : Order) → OnlyCalledMatter o
only_called o exits exits' g agree vs = same_outcome o exits exits' g agree vs
