-- What the outcome of equations says of the values that solve them.
-- The headline does not rest on this file.
use Rattle.std.specs.Prelude.{◌≡◌, ℕ, ◌==◌, List, if◌then◌else◌}
use Rattle.std.specs.List.{AllByRecursion}
use Rattle.term_core.specs.declared.terms.Term.{Term}
use Rattle.term_core.specs.declared.equations.Equation.{Equation}
use Rattle.term_core.specs.declared.equations.Outcome.{Outcome}
use Rattle.term_core.specs.declared.equations.Outcome.TheVariants.{Solved, Clash, Cyclic}
use Rattle.term_core.specs.Terms.{instance}
use Rattle.term_core.specs.Unify.{Unified, values}

-- these values, but t at one place
abbrev pub with_value : (ℕ → Term) → ℕ → Term → ℕ → Term
with_value value at t i = if i == at then t else value i

-- under these values of variables both sides of each equation are one term
abbrev pub Solves : (ℕ → Term) → List Equation → Type 0
Solves value es = AllByRecursion (λ e. instance value e.left ≡ instance value e.right) es

-- bindings solve the equations, and all values that solve them are made from the bindings' values; after a clash or a cycle none solve them
abbrev pub IsRight : List Equation → Outcome → Type 0
IsRight es (Solved bs) = Solves (values bs) es × ((value : ℕ → Term) → Solves value es → (v : ℕ) → value v ≡ instance value (values bs v))
IsRight es Clash = (value : ℕ → Term) → Solves value es → ⊥
IsRight es Cyclic = (value : ℕ → Term) → Solves value es → ⊥

-- equations end in exactly one outcome, which is right
pub record HasOneOutcome (es : List Equation) : Type 0 where
  pub outcome : Outcome
  pub ends : Unified es outcome
  pub alone : (o : Outcome) → Unified es o → o ≡ outcome
  pub is_right : IsRight es outcome
