-- Equations that are solved one list after the other, and variables that stand in none of them.
-- The headline does not rest on this file.
use Rattle.std.specs.Prelude.{◌≡◌, ℕ, false, List, [], ◌∷◌, ◌++◌}
use Rattle.term_core.specs.declared.terms.Term.{Term, Var}
use Rattle.term_core.specs.declared.equations.Equation.{Equation}
use Rattle.term_core.specs.declared.equations.Outcome.{Outcome}
use Rattle.term_core.specs.declared.equations.Outcome.TheVariants.{Clash, Cyclic}
use Rattle.term_core.specs.Terms.{instance, occurs, only}
use Rattle.term_core.specs.Unify.{Unified, occurs_in}
use Rattle.term_core.specs.Variants.{all_instances, IsMostGeneral, EndsAs}

-- equations are solved by solving the first ones, and then the others with the solution put in; where the first ones clash or are cyclic, all do and are
pub record InSequence : Type 0 where
  pub ends : (es rest : List Equation) (value : ℕ → Term) (o : Outcome) → IsMostGeneral es value → Unified (all_instances value rest) o → EndsAs (es ++ rest) o
  pub solved : (es rest : List Equation) (value other : ℕ → Term) → IsMostGeneral es value → IsMostGeneral (all_instances value rest) other → IsMostGeneral (es ++ rest) (λ v. instance other (value v))
  pub clashes : (es rest : List Equation) → Unified es Clash → Unified (es ++ rest) Clash
  pub cycles : (es rest : List Equation) → Unified es Cyclic → Unified (es ++ rest) Cyclic

-- a variable that stands in none of some equations is kept by each most general solution, and stands in no other value
abbrev pub StaysAlone : Type 0
StaysAlone = (es : List Equation) (value : ℕ → Term) (w : ℕ) → IsMostGeneral es value → occurs_in w es ≡ false → (value w ≡ Var w) × ((v : ℕ) → (v ≡ w → ⊥) → occurs w (value v) ≡ false)

-- a term and a variable that does not stand in it are made the same by the term for the variable, and nothing is more general
abbrev pub BindsFirst : Type 0
BindsFirst = (t : Term) (v : ℕ) → occurs v t ≡ false → IsMostGeneral (record { left = t; right = Var v } ∷ []) (only v t)
