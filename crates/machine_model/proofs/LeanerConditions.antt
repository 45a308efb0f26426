-- Values, membership and conditions of terms each of which is an instance of the other.
use Rattle.std.proofs.Common.{◌≡◌, ℕ, zero, suc, Bool, List, [], ◌∷◌, map, refl, ap}
use Rattle.std.specs.Prelude.{not, slice_index_or, Option, None, Some}
use Rattle.std.specs.List.{list_any, list_all, AllByRecursion}
use Rattle.term_core.specs.declared.terms.Term.{Term, Atom, out-Term}
use Rattle.term_core.specs.Terms.{instance, instance_step, is_ground, is_variable}
use Rattle.term_core.proofs.TermFolds.{fold-Atom}
use Rattle.term_core.proofs.NameLaws.{Returns, blind}
use Rattle.term_core.proofs.VariantTests.{variable_same, ground_same}
use Rattle.prog_data.specs.declared.conditions.Prop.{Prop}
use Rattle.prog_data.specs.declared.conditions.Prop.TheVariants.{Belongs, IsVar, IsNonvar, IsGround}
use Rattle.prog_data.specs.declared.conditions.CondKind.{CondKind}
use Rattle.prog_data.specs.declared.conditions.CondKind.TheVariants.{Calls, Success, Comp}
use Rattle.prog_data.specs.declared.grammars.Grammar.{Grammar}
use Rattle.prog_data.specs.declared.grammars.Rule.{Rule}
use Rattle.prog_data.specs.Membership.{admits_step, leaves, belongs}
use Rattle.prog_data.specs.Arithmetic.{Number, value, value_step}
use Rattle.prog_data.specs.Conditions.{at_argument, holds, all_hold, calls_hold, pre_holds, post_holds}

-- an argument, or an atom where there is none
pub argument : (put : ℕ → Term) (ts : List Term) (i : ℕ) → instance put (slice_index_or ts i (Atom 0)) ≡ slice_index_or (map (instance put) ts) i (Atom 0)
argument put [] i = fold-Atom Term (instance_step put) 0
argument put (t ∷ ts) zero = refl
argument put (t ∷ ts) (suc i) = argument put ts i

module _ (there back : ℕ → Term) where
  abbrev R : Term → Type 0
  R = Returns there back

  pub value_same : (t : Term) → R t → value (instance there t) ≡ value t
  value_same t r = blind there back Number value_step (λ v w. refl) t r

  pub belongs_same : (g : Grammar) (n : ℕ) (t : Term) → R t → belongs g (instance there t) n ≡ belongs g t n
  belongs_same g n t r = ap (λ f. list_any f (leaves g n)) (blind there back (Rule → Bool) (admits_step g) (λ v w. refl) t r)

  at_same : (test : Term → Bool) → ((t : Term) → R t → test (instance there t) ≡ test t) → (args : List Term) → AllByRecursion R args → (i : ℕ) → at_argument test (map (instance there) args) i ≡ at_argument test args i
  at_same test blind [] r i = refl
  at_same test blind (t ∷ ts) r zero = blind t r.0
  at_same test blind (t ∷ ts) r (suc i) = at_same test blind ts r.1 i

  module _ (g : Grammar) (args : List Term) (r : AllByRecursion R args) where
    abbrev new : List Term
    new = map (instance there) args

    holds_same : (prop : Prop) → holds g new prop ≡ holds g args prop
    holds_same (Belongs i n) = at_same (λ t. belongs g t n) (belongs_same g n) args r i
    holds_same (IsVar i) = at_same (λ t. is_variable (out-Term t)) (variable_same there back) args r i
    holds_same (IsNonvar i) = at_same (λ t. not (is_variable (out-Term t))) (λ t h. ap not (variable_same there back t h)) args r i
    holds_same (IsGround i) = at_same is_ground (ground_same there back) args r i

    all_hold_same : (props : List Prop) → all_hold g new props ≡ all_hold g args props
    all_hold_same props = λ i. list_all (λ prop. holds_same prop i) props

    pub calls_same : (kind : Option CondKind) → calls_hold g new kind ≡ calls_hold g args kind
    calls_same None = refl
    calls_same (Some (Calls ds)) = λ i. list_any (λ props. all_hold_same props i) ds
    calls_same (Some (Success pre post)) = refl
    calls_same (Some (Comp pre property)) = refl

    pub pre_same : (kind : Option CondKind) → pre_holds g new kind ≡ pre_holds g args kind
    pre_same None = refl
    pre_same (Some (Calls ds)) = refl
    pre_same (Some (Success pre post)) = all_hold_same pre
    pre_same (Some (Comp pre property)) = all_hold_same pre

    pub post_same : (kind : Option CondKind) → post_holds g new kind ≡ post_holds g args kind
    post_same None = refl
    post_same (Some (Calls ds)) = refl
    post_same (Some (Success pre post)) = all_hold_same post
    post_same (Some (Comp pre property)) = refl
