-- What a body is.
use Rattle.std.proofs.Common.{◌≡◌, List, [], ◌∷◌, map, refl, ap, ◌∙◌}
use Rattle.std.specs.List.{AllByRecursion}
use Rattle.term_core.specs.declared.terms.Term.{Term, Node}
use Rattle.term_core.specs.declared.terms.Term as term
use Rattle.term_core.proofs.TermFolds.{ind_terms, fold-Var, fold-Int, fold-Atom, fold-Node}
use Rattle.dcg_expand.specs.Expansion.{GrammarBody, grammar_body, grammar_body_step}

each : (ts : List Term) → AllByRecursion (λ t. (grammar_body t).itself ≡ t) ts → map (λ b. b.itself) (map grammar_body ts) ≡ ts
each [] h = refl
each (t ∷ ts) h = ap (λ u. u ∷ map (λ b. b.itself) (map grammar_body ts)) h.0 ∙ ap (λ us. t ∷ us) (each ts h.1)

-- a body knows its term
pub itself_is : (t : Term) → (grammar_body t).itself ≡ t
itself_is = ind_terms (λ t. (grammar_body t).itself ≡ t) (λ v. ap (λ b. b.itself) (fold-Var GrammarBody grammar_body_step v)) (λ n. ap (λ b. b.itself) (fold-Int GrammarBody grammar_body_step n)) (λ a. ap (λ b. b.itself) (fold-Atom GrammarBody grammar_body_step a))
    (λ f ts h. ap (λ b. b.itself) (fold-Node GrammarBody grammar_body_step f ts) ∙ ap (λ us. term.Node f us) (each ts h))

-- so do bodies
pub themselves_are : (ts : List Term) → map (λ b. b.itself) (map grammar_body ts) ≡ ts
themselves_are [] = refl
themselves_are (t ∷ ts) = ap (λ u. u ∷ map (λ b. b.itself) (map grammar_body ts)) (itself_is t) ∙ ap (λ us. t ∷ us) (themselves_are ts)
