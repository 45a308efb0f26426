-- What is a head stands before no field, and what says properties is not `+` with two parts.
use Rattle.std.proofs.Common.{◌≡◌, ℕ, ◌==◌, Bool, true, false, List, [], ◌∷◌, refl, ap, sym, ◌∙◌}
use Rattle.std.specs.Prelude.{cond, Option, Some, None}
use Rattle.term_core.specs.declared.terms.Term.{Term, out-Term}
use Rattle.term_core.specs.declared.terms.Term as term
use Rattle.term_core.specs.declared.terms.Term.TheOpen as layer
use Rattle.term_core.specs.declared.terms.Term.TheVariants.{outs-Node}
use Rattle.term_core.specs.declared.fixed.TheConstants.{COMMA, PLUS, TIMES, SLASH, TRUE}
use Rattle.term_core.specs.Shapes.{pair_of}
use Rattle.term_core.specs.Operands.{all_said, before_all, joined_said}
use Rattle.term_core.specs.Terms.{is_atom_of}
use Rattle.term_core.proofs.OperandLaws.{conjuncts_alone, chain_alone, none_part, pair_is, no_pair_of}
use Rattle.assertion_read.specs.declared.heads.Head.{Head}
use Rattle.assertion_read.specs.declared.assertions.Written.{Written}
use Rattle.assertion_read.specs.Heads.{are_distinct_variables, is_field, number_form, by_number_at, head_at}
use Rattle.assertion_read.specs.Properties.{property_at, placed_at, all_placed, ordered, said, said_of_variables, said_in_order}

-- a compound of two parts with the name of a field is no head
module _ (f : ℕ) (field : is_field f 2 ≡ true) (no_slash : (f == SLASH) ≡ false) where
  no_head_by : (t u : Term) (b : Bool) → cond b (cond (is_field f 2) None (Some (record { name = f; arity = 2; by_number = false }))) (by_number_at f (t ∷ u ∷ [])) ≡ None
  no_head_by t u true = ap (λ c. cond c None (Some (record { name = f; arity = 2; by_number = false }))) field
  no_head_by t u false = ap (λ c. cond c (number_form (out-Term t) (out-Term u)) None) no_slash

  no_head : (t u : Term) → head_at (layer.Node f (t ∷ u ∷ [])) ≡ None
  no_head t u = no_head_by t u (are_distinct_variables (t ∷ u ∷ []))

  pub head_no_pair : (h : Term) (about : Head) → head_at (out-Term h) ≡ Some about → pair_of f (out-Term h) ≡ None
  head_no_pair h about e = by (pair_of f (out-Term h)) refl
    where
      by : (o : Option (Term × Term)) → pair_of f (out-Term h) ≡ o → pair_of f (out-Term h) ≡ None
      by None i = i
      by (Some p) i = absurd (none_part about (sym (ap (λ t. head_at (out-Term t)) (pair_is f h p i) ∙ ap head_at (outs-Node f (p.0 ∷ p.1 ∷ [])) ∙ no_head p.0 p.1) ∙ e))

-- `a + b` says no properties
module _ (t l r : Term) (whole : t ≡ term.Node PLUS (l ∷ r ∷ [])) where
  no_variables : (arguments : List Term) → said_of_variables arguments t ≡ None
  no_variables arguments =
      ap (λ b. cond b (Some []) (joined_said (property_at arguments) t)) (ap (λ u. is_atom_of TRUE (out-Term u)) whole ∙ ap (is_atom_of TRUE) (outs-Node PLUS (l ∷ r ∷ [])))
      ∙ ap (all_said (λ u. property_at arguments (out-Term u))) (conjuncts_alone t (no_pair_of COMMA PLUS t l r refl whole))
      ∙ ap (λ o. before_all o (Some [])) (ap (λ u. property_at arguments (out-Term u)) whole ∙ ap (property_at arguments) (outs-Node PLUS (l ∷ r ∷ [])))

  no_order : (arity : ℕ) → said_in_order arity t ≡ None
  no_order arity =
      ap (ordered arity) (chain_alone TIMES t (no_pair_of TIMES PLUS t l r refl whole)) ∙ by (1 == arity)
    where
      by : (b : Bool) → cond b (all_placed 0 (t ∷ [])) None ≡ None
      by false = refl
      by true = ap (λ o. before_all o (Some [])) (ap (λ u. placed_at 0 (out-Term u)) whole ∙ ap (placed_at 0) (outs-Node PLUS (l ∷ r ∷ [])))

  no_sum : (head : Head) (arguments : List Term) → said head arguments t ≡ None
  no_sum head arguments = by head.by_number
    where
      by : (b : Bool) → cond b (said_in_order head.arity t) (said_of_variables arguments t) ≡ None
      by true = no_order head.arity
      by false = no_variables arguments

pub said_no_sum : (head : Head) (arguments : List Term) (t : Term) (ps : List Written) → said head arguments t ≡ Some ps → pair_of PLUS (out-Term t) ≡ None
said_no_sum head arguments t ps e = by (pair_of PLUS (out-Term t)) refl
  where
    by : (o : Option (Term × Term)) → pair_of PLUS (out-Term t) ≡ o → pair_of PLUS (out-Term t) ≡ None
    by None i = i
    by (Some p) i = absurd (none_part ps (sym (no_sum t p.0 p.1 (pair_is PLUS t p i) head arguments) ∙ e))
