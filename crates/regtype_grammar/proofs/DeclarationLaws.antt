-- The declaration that is computed of a sentence is the one that it is written as.
use Rattle.std.proofs.Common.{◌≡◌, ℕ, ◌==◌, Bool, true, false, [], ◌∷◌, refl, ap, sym, ◌∙◌}
use Rattle.std.specs.Prelude.{cond, ℤ, pos, Option, Some, None}
use Rattle.std.specs.Ordering.{int_eq}
use Rattle.std.proofs.lemmas.Bool.Decides.{Decides-int_eq}
use Rattle.term_core.specs.declared.fixed.TheConstants.{NECK, REGTYPE, HASH, SLASH}
use Rattle.term_core.specs.declared.terms.Term.{Term, out-Term, roll-Term, roll-out-Term}
use Rattle.term_core.specs.declared.terms.Term as term
use Rattle.term_core.specs.declared.terms.Term.TheOpen as layer
use Rattle.term_core.specs.declared.terms.Term.TheVariants.{rolls-Var, rolls-Int, rolls-Atom, rolls-Node, outs-Var, outs-Int, outs-Atom, outs-Node}
use Rattle.term_core.specs.Terms.{is_variable}
use Rattle.term_core.specs.Shapes.{single_of, pair_of, split, with_mark}
use Rattle.term_core.proofs.OperandLaws.{none_part, some_part, eqb-eq, single_is, of_single, no_pair_of, unsplit, split_none, split_some}
use Rattle.ciao_reader.specs.declared.sentences.Sentence.{Sentence}
use Rattle.regtype_grammar.specs.Declarations.{Declares, by_number, by_variable, IsDeclaration, numbered_name, declared_at, behind_regtype, behind_neck, declared_type, DeclarationsAreWritten}

module _ (name : ℕ) where
  -- what a shape declares

  variable_shape : (f : ℕ) (a t : Term) → t ≡ term.Node f (a ∷ []) → (y : layer.Term-F Term) → roll-Term y ≡ a → cond (is_variable y) (Some f) None ≡ Some name → Declares name t
  variable_shape f a t is (layer.Var v) r e = by_variable v (is ∙ ap (λ g. term.Node g (a ∷ [])) (some_part f name e) ∙ ap (λ u. term.Node name (u ∷ [])) (sym r ∙ rolls-Var v))
  variable_shape f a t is (layer.Int n) r e = absurd (none_part name e)
  variable_shape f a t is (layer.Atom p) r e = absurd (none_part name e)
  variable_shape f a t is (layer.Node g ts) r e = absurd (none_part name e)

  one_shape : (a b t : Term) → t ≡ term.Node SLASH (a ∷ b ∷ []) → (p : ℕ) → a ≡ term.Atom p → (n : ℤ) → b ≡ term.Int n → (q : Bool) → int_eq n (pos 1) ≡ q → cond q (Some p) None ≡ Some name → Declares name t
  one_shape a b t is p i n j false k e = absurd (none_part name e)
  one_shape a b t is p i n j true k e =
      by_number
      (is ∙ ap (λ u. term.Node SLASH (u ∷ b ∷ [])) (i ∙ ap term.Atom (some_part p name e))
      ∙ ap (λ u. term.Node SLASH (term.Atom name ∷ u ∷ [])) (j ∙ ap term.Int ((Decides-int_eq n (pos 1)).0 k)))

  numbered_shape : (a b t : Term) → t ≡ term.Node SLASH (a ∷ b ∷ []) → (x y : layer.Term-F Term) → roll-Term x ≡ a → roll-Term y ≡ b → numbered_name x y ≡ Some name → Declares name t
  numbered_shape a b t is (layer.Var v) y r s e = absurd (none_part name e)
  numbered_shape a b t is (layer.Int v) y r s e = absurd (none_part name e)
  numbered_shape a b t is (layer.Node f ts) y r s e = absurd (none_part name e)
  numbered_shape a b t is (layer.Atom p) (layer.Var v) r s e = absurd (none_part name e)
  numbered_shape a b t is (layer.Atom p) (layer.Atom v) r s e = absurd (none_part name e)
  numbered_shape a b t is (layer.Atom p) (layer.Node f ts) r s e = absurd (none_part name e)
  numbered_shape a b t is (layer.Atom p) (layer.Int n) r s e = one_shape a b t is p (sym r ∙ rolls-Atom p) n (sym s ∙ rolls-Int n) (int_eq n (pos 1)) refl e

  slash_shape : (f : ℕ) (a b t : Term) → t ≡ term.Node f (a ∷ b ∷ []) → (q : Bool) → (f == SLASH) ≡ q → cond q (numbered_name (out-Term a) (out-Term b)) None ≡ Some name → Declares name t
  slash_shape f a b t is false k e = absurd (none_part name e)
  slash_shape f a b t is true k e = numbered_shape a b t (is ∙ ap (λ g. term.Node g (a ∷ b ∷ [])) (eqb-eq f SLASH k)) (out-Term a) (out-Term b) (roll-out-Term a) (roll-out-Term b) e

  shape_at : (x : layer.Term-F Term) (t : Term) → roll-Term x ≡ t → declared_at x ≡ Some name → Declares name t
  shape_at (layer.Var v) t r e = absurd (none_part name e)
  shape_at (layer.Int v) t r e = absurd (none_part name e)
  shape_at (layer.Atom v) t r e = absurd (none_part name e)
  shape_at (layer.Node f []) t r e = absurd (none_part name e)
  shape_at (layer.Node f (a ∷ [])) t r e = variable_shape f a t (sym r ∙ rolls-Node f (a ∷ [])) (out-Term a) (roll-out-Term a) e
  shape_at (layer.Node f (a ∷ b ∷ [])) t r e = slash_shape f a b t (sym r ∙ rolls-Node f (a ∷ b ∷ [])) (f == SLASH) refl e
  shape_at (layer.Node f (a ∷ b ∷ c ∷ rest)) t r e = absurd (none_part name e)

  -- and the other way

  shape_declares : (shape : Term) → Declares name shape → declared_at (out-Term shape) ≡ Some name
  shape_declares shape (by_number e) =
      ap (λ u. declared_at (out-Term u)) e ∙ ap declared_at (outs-Node SLASH (term.Atom name ∷ term.Int (pos 1) ∷ []))
      ∙ ap (λ x. numbered_name x (out-Term (term.Int (pos 1)))) (outs-Atom name) ∙ ap (numbered_name (layer.Atom name)) (outs-Int (pos 1))
      ∙ ap (λ b. cond b (Some name) None) ((Decides-int_eq (pos 1) (pos 1)).1 refl)
  shape_declares shape (by_variable v e) =
      ap (λ u. declared_at (out-Term u)) e ∙ ap declared_at (outs-Node name (term.Var v ∷ [])) ∙ ap (λ y. cond (is_variable y) (Some name) None) (outs-Var v)

  no_comment : (shape : Term) → Declares name shape → pair_of HASH (out-Term shape) ≡ None
  no_comment shape (by_number e) = no_pair_of HASH SLASH shape (term.Atom name) (term.Int (pos 1)) refl e
  no_comment shape (by_variable v e) = ap (λ u. pair_of HASH (out-Term u)) e ∙ ap (pair_of HASH) (outs-Node name (term.Var v ∷ []))

  front : (shape : Term) (comment : Option Term) → Declares name shape → (split HASH (with_mark HASH shape comment)).0 ≡ shape
  front shape None d = ap (λ p. p.0) (split_none HASH shape (no_comment shape d))
  front shape (Some field) d = ap (λ p. p.0) (split_some HASH (term.Node HASH (shape ∷ field ∷ [])) shape field refl)

module _ (s : Sentence) (name : ℕ) where
  computed_is_written : declared_type s ≡ Some name → IsDeclaration s name
  computed_is_written e = neck (single_of NECK (out-Term s.term)) refl e
    where
      regtype : (d : Term) → s.term ≡ term.Node NECK (d ∷ []) → (o : Option Term) → single_of REGTYPE (out-Term d) ≡ o → behind_regtype o ≡ Some name → IsDeclaration s name
      regtype d is None i e = absurd (none_part name e)
      regtype d is (Some body) i e = record {
        shape = (split HASH body).0;
        comment = (split HASH body).1;
        whole = is ∙ ap (λ u. term.Node NECK (u ∷ [])) (single_is REGTYPE d body i ∙ ap (λ b. term.Node REGTYPE (b ∷ [])) (sym (unsplit HASH body)));
        declares = shape_at name (out-Term (split HASH body).0) (split HASH body).0 (roll-out-Term (split HASH body).0) e;
      }

      neck : (o : Option Term) → single_of NECK (out-Term s.term) ≡ o → behind_neck o ≡ Some name → IsDeclaration s name
      neck None i e = absurd (none_part name e)
      neck (Some d) i e = regtype d (single_is NECK s.term d i) (single_of REGTYPE (out-Term d)) refl e

  written_is_computed : IsDeclaration s name → declared_type s ≡ Some name
  written_is_computed x =
      let body = with_mark HASH x.shape x.comment in
      let directive = term.Node REGTYPE (body ∷ []) in
      ap (λ t. behind_neck (single_of NECK (out-Term t))) x.whole
      ∙ ap behind_neck (of_single NECK (term.Node NECK (directive ∷ [])) directive refl)
      ∙ ap behind_regtype (of_single REGTYPE directive body refl)
      ∙ ap (λ u. declared_at (out-Term u)) (front name x.shape x.comment x.declares)
      ∙ shape_declares name x.shape x.declares

pub declarations_are_written : DeclarationsAreWritten
declarations_are_written s name = (computed_is_written s name, written_is_computed s name)
