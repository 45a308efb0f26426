-- Unification of two places of a heap.
-- The headline does not rest on this file.
use Rattle.std.specs.Prelude.{◌≡◌, ℕ, List, [], ◌∷◌, ⊤}
use Rattle.term_core.specs.declared.terms.Term.{Term}
use Rattle.term_core.specs.declared.equations.Equation.{Equation}
use Rattle.term_core.specs.declared.equations.Outcome.TheVariants as outcome
use Rattle.term_core.specs.Terms.{instance}
use Rattle.term_core.specs.Unify.{Unified as EndsIn}
use Rattle.term_heap.specs.Changes.{Change, History, Grows, Binds, value_of}
use Rattle.term_heap.specs.PastStays.{GoesOn}
use Rattle.unify_core.specs.declared.unifying.Unified.{Unified}
use Rattle.unify_core.specs.declared.unifying.Unified.TheVariants.{Same, Clash, Cyclic}
use Rattle.term_core.specs.Variants.{IsMostGeneral}

-- the equation of two places
abbrev pub places_equation : List Change → ℕ → ℕ → Equation
places_equation changes a b = record { left = value_of changes a; right = value_of changes b }

-- whether each of these changes is a binding
abbrev pub AreBindings : List Change → Type 0
AreBindings [] = ⊤
AreBindings (Grows cells s ∷ changes) = ⊥
AreBindings (Binds at to s ∷ changes) = AreBindings changes

-- only bindings were made since
pub record IsLater (old new : History) : Type 0 where
  pub goes_on : GoesOn old new
  pub bindings : AreBindings goes_on.more

-- how the equation of two places ends; where it is solved, each place has its old term under a most general solution
abbrev pub HasUnified : List Change → ℕ → ℕ → Unified → List Change → Type 0
HasUnified old a b Same new = (value : ℕ → Term) × IsMostGeneral (places_equation old a b ∷ []) value × ((i : ℕ) → value_of new i ≡ instance value (value_of old i))
HasUnified old a b Clash new = EndsIn (places_equation old a b ∷ []) outcome.Clash
HasUnified old a b Cyclic new = EndsIn (places_equation old a b ∷ []) outcome.Cyclic
