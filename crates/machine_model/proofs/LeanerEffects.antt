-- What built-ins do to terms each of which is an instance of the other.
use Rattle.std.proofs.Common.{◌≡◌, ℕ, Bool, true, false, List, [], ◌∷◌, refl, ap, sym, ◌∙◌, subst}
use Rattle.std.specs.Prelude.{not, ℤ, int_lt, int_le, Ok, Err}
use Rattle.std.specs.Ordering.{int_eq}
use Rattle.term_core.specs.declared.terms.Term.{Term, Int}
use Rattle.term_core.specs.Terms.{instance, instance_step, numbered}
use Rattle.term_core.specs.Shapes.{is_atom}
use Rattle.term_core.specs.Printing.{Printed}
use Rattle.term_core.proofs.TermFolds.{fold-Int}
use Rattle.prog_data.specs.declared.goals.Goal.{Goal}
use Rattle.prog_data.specs.declared.goals.Goal as goal
use Rattle.prog_data.specs.declared.goals.Builtin.{Builtin}
use Rattle.prog_data.specs.declared.goals.Builtin.TheVariants as builtin
use Rattle.prog_data.specs.declared.events.ArithKind.{ArithKind}
use Rattle.prog_data.specs.declared.programs.Program.{Program}
use Rattle.prog_data.specs.Arithmetic.{Number, value}
use Rattle.machine_model.specs.Step.{Effect, Succeeds, Fails, Writes, Equates, Becomes, Faults, truth, with_value, is_integer, effect}
use Rattle.term_core.specs.Variants.{AreVariants}
use Rattle.term_core.proofs.NameLaws.{Returns, numbered_same}
use Rattle.term_core.proofs.KindLaws.{equation}
use Rattle.term_core.proofs.VariantTests.{outer_same, variable_same, ground_same, same_same}
use Rattle.machine_model.specs.Leaner.{GoalsAgree}
use Rattle.prog_data.proofs.GoalInstances.{at_not, at_builtin}
use Rattle.machine_model.proofs.LeanerConditions.{value_same, belongs_same}

module _ (there back : ℕ → Term) where
  -- effects on two frames
  pub data Effects : Effect → Effect → Type 0 where
    succeeds : Effects Succeeds Succeeds
    fails : Effects Fails Fails
    writes : (bytes : List ℕ) → Effects (Writes bytes) (Writes bytes)
    equates : (a b a' b' : Term) → AreVariants there back (equation a b ∷ []) (equation a' b' ∷ []) → Effects (Equates a b) (Equates a' b')
    becomes : (g g' : Goal) → GoalsAgree there back g g' → Effects (Becomes g) (Becomes g')
    faults : (kind : ArithKind) → Effects (Faults kind) (Faults kind)

  one_truth : (b : Bool) → Effects (truth b) (truth b)
  one_truth true = succeeds
  one_truth false = fails

  truths : (b b' : Bool) → b' ≡ b → Effects (truth b) (truth b')
  truths b b' e = subst (λ x. Effects (truth b) (truth x)) (sym e) (one_truth b)

  compared : (test : ℤ → ℤ → Bool) (m n : Number) → Effects (with_value (λ x. with_value (λ y. truth (test x y)) n) m) (with_value (λ x. with_value (λ y. truth (test x y)) n) m)
  compared test (Ok x) (Ok y) = one_truth (test x y)
  compared test (Ok x) (Err fault) = faults fault
  compared test (Err fault) n = faults fault

  computed : (a a' : Term) (n : Number) → instance there a ≡ a' → instance back a' ≡ a → Effects (with_value (λ n. Equates a (Int n)) n) (with_value (λ n. Equates a' (Int n)) n)
  computed a a' (Ok n) e b = equates a (Int n) a' (Int n) (record {
    is_there = λ i. equation (e i) (fold-Int Term (instance_step there) n i) ∷ [];
    is_back = λ i. equation (b i) (fold-Int Term (instance_step back) n i) ∷ [];
  })
  computed a a' (Err fault) e b = faults fault

  module _ (program : Program) (a b : Term) (r : Returns there back a) (s : Returns there back b) where
    abbrev a' : Term
    a' = instance there a

    abbrev b' : Term
    b' = instance there b

    compare_alike : (test : ℤ → ℤ → Bool) → Effects (with_value (λ x. with_value (λ y. truth (test x y)) (value b)) (value a)) (with_value (λ x. with_value (λ y. truth (test x y)) (value b')) (value a'))
    compare_alike test =
        subst (λ n. Effects (with_value (λ x. with_value (λ y. truth (test x y)) (value b)) (value a)) (with_value (λ x. with_value (λ y. truth (test x y)) (value b')) n)) (sym (value_same there back a r))
        (subst (λ n. Effects (with_value (λ x. with_value (λ y. truth (test x y)) (value b)) (value a)) (with_value (λ x. with_value (λ y. truth (test x y)) n) (value a))) (sym (value_same there back b s)) (compared test (value a) (value b)))

    -- what is written of a term, with quotes or without
    abbrev bytes_of : Bool → Term → List ℕ
    bytes_of quoted t = Printed program.names program.ops quoted (numbered t)

    written : (quoted : Bool) → Effects (Writes (bytes_of quoted a)) (Writes (bytes_of quoted a'))
    written quoted = subst (λ t. Effects (Writes (bytes_of quoted a)) (Writes (Printed program.names program.ops quoted t))) (sym (numbered_same there back a r)) (writes (bytes_of quoted a))

    pub effect_alike : (name : Builtin) → Effects (effect program name a b) (effect program name a' b')
    effect_alike builtin.Unify = equates a b a' b' (record { is_there = refl; is_back = λ i. equation (r i) (s i) ∷ [] })
    effect_alike builtin.NotUnify = becomes _ _ (record {
      is_there = at_not there (goal.Builtin builtin.Unify (a ∷ b ∷ [])) ∙ ap goal.Not (at_builtin there builtin.Unify (a ∷ b ∷ []));
      is_back = at_not back (goal.Builtin builtin.Unify (a' ∷ b' ∷ [])) ∙ ap goal.Not (at_builtin back builtin.Unify (a' ∷ b' ∷ []) ∙ (λ i. goal.Builtin builtin.Unify (r i ∷ s i ∷ [])));
    })
    effect_alike builtin.Same = truths _ _ (same_same there back a b r s)
    effect_alike builtin.NotSame = truths _ _ (ap not (same_same there back a b r s))
    effect_alike builtin.Is = subst (λ n. Effects (with_value (λ n. Equates a (Int n)) (value b)) (with_value (λ n. Equates a' (Int n)) n)) (sym (value_same there back b s)) (computed a a' (value b) refl r)
    effect_alike builtin.Less = compare_alike int_lt
    effect_alike builtin.Greater = compare_alike (λ x y. int_lt y x)
    effect_alike builtin.LessEq = compare_alike int_le
    effect_alike builtin.GreaterEq = compare_alike (λ x y. int_le y x)
    effect_alike builtin.NumEq = compare_alike int_eq
    effect_alike builtin.NumNotEq = compare_alike (λ x y. not (int_eq x y))
    effect_alike builtin.Integer = truths _ _ (outer_same there back Bool is_integer (λ v w. refl) (λ f ts us. refl) a r)
    effect_alike builtin.Atom = truths _ _ (outer_same there back Bool is_atom (λ v w. refl) (λ f ts us. refl) a r)
    effect_alike builtin.Write = written false
    effect_alike builtin.Writeq = written true
    effect_alike builtin.Nl = writes _
    effect_alike (builtin.Belongs n) = truths _ _ (belongs_same there back program.grammar n a r)
    effect_alike builtin.IsVar = truths _ _ (variable_same there back a r)
    effect_alike builtin.IsNonvar = truths _ _ (ap not (variable_same there back a r))
    effect_alike builtin.IsGround = truths _ _ (ground_same there back a r)
