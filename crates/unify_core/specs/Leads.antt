-- Equations that are solved over a heap, where a binding of two variables may go either way.
-- The headline does not rest on this file.
use Rattle.std.specs.Prelude.{◌≡◌, ℕ, false, List, ◌∷◌, ◌++◌}
use Rattle.term_core.specs.declared.terms.Term.{Term}
use Rattle.term_core.specs.declared.equations.Equation.{Equation}
use Rattle.term_core.specs.declared.equations.Outcome.{Outcome}
use Rattle.term_core.specs.declared.terms.Term.{Var}
use Rattle.term_core.specs.Terms.{instance, occurs}
use Rattle.term_core.specs.Unify.{replace_all}
use Rattle.term_core.specs.Solutions.{Solves}
use Rattle.term_core.specs.Variants.{EndsAs}

-- from the equations at the start, with these values of their variables, these equations are left
pub record Leads (start : List Equation) (value : ℕ → Term) (left : List Equation) : Type 0 where
  -- they end as the start does
  pub ends : (o : Outcome) → EndsAs left o → EndsAs start o
  -- what solves them solves the start, after the values
  pub solved : (other : ℕ → Term) → Solves other left → Solves (λ v. instance other (value v)) start
  -- what solves the start solves them, and is made of the values
  pub general : (other : ℕ → Term) → Solves other start → ((v : ℕ) → other v ≡ instance other (value v)) × Solves other left

-- equations that stand for one
pub record Goes (e : Equation) (es : List Equation) : Type 0 where
  pub ends : (rest : List Equation) (o : Outcome) → EndsAs (es ++ rest) o → EndsAs (e ∷ rest) o
  pub solved : (other : ℕ → Term) → Solves other es → instance other e.left ≡ instance other e.right
  pub general : (other : ℕ → Term) → instance other e.left ≡ instance other e.right → Solves other es

-- an equation of a variable and a term in which it does not stand, on whichever side
pub record Bindable (e : Equation) (v : ℕ) (t : Term) : Type 0 where
  pub absent : occurs v t ≡ false
  pub ends : (rest : List Equation) (o : Outcome) → EndsAs (replace_all v t rest) o → EndsAs (e ∷ rest) o
  pub solved : (other : ℕ → Term) → instance other (Var v) ≡ instance other t → instance other e.left ≡ instance other e.right
  pub general : (other : ℕ → Term) → instance other e.left ≡ instance other e.right → instance other (Var v) ≡ instance other t
