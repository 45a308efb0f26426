-- What a body is.
use Rattle.std.proofs.Common.{◌≡◌, ℕ, List, [], ◌∷◌, map, refl, ap, ◌∙◌}
use Rattle.std.specs.List.{AllByRecursion}
use Rattle.term_core.specs.declared.terms.Term.{Term, Var, Int, Atom, Node}
use Rattle.term_core.specs.declared.terms.Term as term
use Rattle.term_core.proofs.TermFolds.{ind_terms, fold-Var, fold-Int, fold-Atom, fold-Node}
use Rattle.body_code.specs.declared.scopes.Visible.{Visible}
use Rattle.body_code.specs.Bodies.{Body, body_step, body_of, named_body, no_goal}

module _ (visible : Visible) where
  each : (ts : List Term) → AllByRecursion (λ t. (body_of visible t).itself ≡ t) ts → map (λ b. b.itself) (map (body_of visible) ts) ≡ ts
  each [] h = refl
  each (t ∷ ts) h = ap (λ u. u ∷ map (λ b. b.itself) (map (body_of visible) ts)) h.0 ∙ ap (λ us. t ∷ us) (each ts h.1)

  -- a body knows its term
  pub itself_is : (t : Term) → (body_of visible t).itself ≡ t
  itself_is = ind_terms (λ t. (body_of visible t).itself ≡ t)
      (λ v. ap (λ b. b.itself) (fold-Var Body (body_step visible) v))
      (λ n. ap (λ b. b.itself) (fold-Int Body (body_step visible) n))
      (λ a. ap (λ b. b.itself) (fold-Atom Body (body_step visible) a))
      (λ f ts h. ap (λ b. b.itself) (fold-Node Body (body_step visible) f ts) ∙ ap (λ us. term.Node f us) (each ts h))

  -- so do bodies
  pub themselves_are : (ts : List Term) → map (λ b. b.itself) (map (body_of visible) ts) ≡ ts
  themselves_are [] = refl
  themselves_are (t ∷ ts) = ap (λ u. u ∷ map (λ b. b.itself) (map (body_of visible) ts)) (itself_is t) ∙ ap (λ us. t ∷ us) (themselves_are ts)

  -- a body by the outermost of its term
  pub at_variable : (v : ℕ) → body_of visible (Var v) ≡ no_goal (Var v)
  at_variable v = fold-Var Body (body_step visible) v

  pub at_number : (n : _) → body_of visible (Int n) ≡ no_goal (Int n)
  at_number n = fold-Int Body (body_step visible) n

  pub at_atom : (a : ℕ) → body_of visible (Atom a) ≡ named_body visible (Atom a) a [] []
  at_atom a = fold-Atom Body (body_step visible) a

  pub at_compound : (f : ℕ) (ts : List Term) → body_of visible (Node f ts) ≡ named_body visible (Node f ts) f ts (map (body_of visible) ts)
  at_compound f ts =
      fold-Node Body (body_step visible) f ts
      ∙ ap (λ us. named_body visible (Node f us) f us (map (body_of visible) ts)) (themselves_are ts)

  pub compound_is : (t : Term) (f : ℕ) (ts : List Term) → t ≡ Node f ts → body_of visible t ≡ named_body visible (Node f ts) f ts (map (body_of visible) ts)
  compound_is t f ts e = ap (body_of visible) e ∙ at_compound f ts
