-- The clause that is computed of a sentence is the one that it is written as.
use Rattle.std.proofs.Common.{◌≡◌, ℕ, Bool, true, false, List, [], ◌∷◌, refl, ap, sym, ◌∙◌}
use Rattle.std.specs.Prelude.{cond, Option, Some, None}
use Rattle.term_core.specs.declared.terms.Term.{Term, out-Term}
use Rattle.term_core.specs.declared.terms.Term as term
use Rattle.term_core.specs.declared.terms.Term.TheVariants.{outs-Node}
use Rattle.term_core.specs.declared.fixed.TheConstants.{NECK}
use Rattle.ciao_reader.specs.declared.sentences.Sentence.{Sentence}
use Rattle.term_core.specs.Shapes.{single_of, pair_of, split, with_mark}
use Rattle.term_core.proofs.OperandLaws.{none_part, some_part, single_is, of_single, unsplit, split_none, split_some}
use Rattle.regtype_grammar.specs.declared.literals.Literal.{Literal}
use Rattle.regtype_grammar.specs.TypeClauses.{TypeClause, body_literals, is_regular, where_regular, with_argument, clause_of, IsTypeClause, ClausesAreWritten}

module _ (name : ℕ) (s : Sentence) (c : TypeClause) where
  pub computed_is_written : clause_of name s ≡ Some c → IsTypeClause name s c
  computed_is_written e = argued (single_of name (out-Term (split NECK s.term).0)) refl e
    where
      regular : (a : Term) → single_of name (out-Term (split NECK s.term).0) ≡ Some a → (ls : List Literal) → body_literals (split NECK s.term).1 ≡ Some ls → (b : Bool) → is_regular a ls ≡ b
          → cond b (Some (record { argument = a; literals = ls })) None ≡ Some c → IsTypeClause name s c
      regular a i ls j false k e = absurd (none_part c e)
      regular a i ls j true k e =
          let x = some_part _ c e in
          record {
            body = (split NECK s.term).1;
            whole = sym (unsplit NECK s.term) ∙ ap (λ t. with_mark NECK t (split NECK s.term).1) (single_is name (split NECK s.term).0 a i)
                ∙ ap (λ d. with_mark NECK (term.Node name (d.argument ∷ [])) (split NECK s.term).1) x;
            says = j ∙ ap (λ d. Some d.literals) x;
            regular = ap (λ d. is_regular d.argument d.literals) (sym x) ∙ k;
          }

      said : (a : Term) → single_of name (out-Term (split NECK s.term).0) ≡ Some a → (o : Option (List Literal)) → body_literals (split NECK s.term).1 ≡ o → where_regular a o ≡ Some c → IsTypeClause name s c
      said a i None j e = absurd (none_part c e)
      said a i (Some ls) j e = regular a i ls j (is_regular a ls) refl e

      argued : (o : Option Term) → single_of name (out-Term (split NECK s.term).0) ≡ o → with_argument o (body_literals (split NECK s.term).1) ≡ Some c → IsTypeClause name s c
      argued None i e = absurd (none_part c e)
      argued (Some a) i e = said a i (body_literals (split NECK s.term).1) refl e

  head_alone : (body : Option Term) → split NECK (with_mark NECK (term.Node name (c.argument ∷ [])) body) ≡ (term.Node name (c.argument ∷ []), body)
  head_alone None = split_none NECK (term.Node name (c.argument ∷ [])) (ap (pair_of NECK) (outs-Node name (c.argument ∷ [])))
  head_alone (Some body) = split_some NECK (term.Node NECK (term.Node name (c.argument ∷ []) ∷ body ∷ [])) (term.Node name (c.argument ∷ [])) body refl

  written_is_computed : IsTypeClause name s c → clause_of name s ≡ Some c
  written_is_computed x =
      ap (λ t. with_argument (single_of name (out-Term (split NECK t).0)) (body_literals (split NECK t).1)) x.whole
      ∙ ap (λ r. with_argument (single_of name (out-Term r.0)) (body_literals r.1)) (head_alone x.body)
      ∙ ap (λ o. with_argument o (body_literals x.body)) (of_single name (term.Node name (c.argument ∷ [])) c.argument refl)
      ∙ ap (where_regular c.argument) x.says
      ∙ ap (λ b. cond b (Some c) None) x.regular

pub clauses_are_written : ClausesAreWritten
clauses_are_written name s c = (computed_is_written name s c, written_is_computed name s c)
