-- What the uses of a term know of it.
use Rattle.std.proofs.Common.{◌≡◌, List, [], ◌∷◌, map, refl, ap, ◌∙◌}
use Rattle.std.specs.List.{AllByRecursion}
use Rattle.term_core.specs.declared.terms.Term.{Term}
use Rattle.term_core.specs.declared.terms.Term as term
use Rattle.term_core.proofs.TermFolds.{ind_terms, fold-Var, fold-Int, fold-Atom, fold-Node}
use Rattle.fsyntax_expand.specs.Expansion.{Uses, uses, uses_step}

each : (ts : List Term) → AllByRecursion (λ t. (uses t).itself ≡ t) ts → map (λ b. b.itself) (map uses ts) ≡ ts
each [] h = refl
each (t ∷ ts) h = ap (λ u. u ∷ map (λ b. b.itself) (map uses ts)) h.0 ∙ ap (λ us. t ∷ us) (each ts h.1)

-- they know the term
pub itself_is : (t : Term) → (uses t).itself ≡ t
itself_is = ind_terms (λ t. (uses t).itself ≡ t) (λ v. ap (λ b. b.itself) (fold-Var Uses uses_step v)) (λ n. ap (λ b. b.itself) (fold-Int Uses uses_step n)) (λ a. ap (λ b. b.itself) (fold-Atom Uses uses_step a))
    (λ f ts h. ap (λ b. b.itself) (fold-Node Uses uses_step f ts) ∙ ap (λ us. term.Node f us) (each ts h))

-- and the terms
pub themselves_are : (ts : List Term) → map (λ b. b.itself) (map uses ts) ≡ ts
themselves_are [] = refl
themselves_are (t ∷ ts) = ap (λ u. u ∷ map (λ b. b.itself) (map uses ts)) (itself_is t) ∙ ap (λ us. t ∷ us) (themselves_are ts)
