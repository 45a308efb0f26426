-- Equations that differ in the names of their variables alone.
-- The headline does not rest on this file.
use Rattle.std.specs.Prelude.{◌≡◌, ℕ, List, map, ⊤}
use Rattle.term_core.specs.declared.terms.Term.{Term}
use Rattle.term_core.specs.declared.equations.Equation.{Equation}
use Rattle.term_core.specs.declared.equations.Outcome.{Outcome}
use Rattle.term_core.specs.declared.equations.Outcome.TheVariants.{Solved, Clash, Cyclic}
use Rattle.term_core.specs.Terms.{instance, numbered}
use Rattle.term_core.specs.Unify.{Unified}
use Rattle.term_core.specs.Solutions.{Solves}

-- each side of each equation under these values of variables
abbrev pub all_instances : (ℕ → Term) → List Equation → List Equation
all_instances value = map (λ e. record { left = instance value e.left; right = instance value e.right })

-- each of two lists of equations is an instance of the other
pub record AreVariants (there back : ℕ → Term) (old new : List Equation) : Type 0 where
  pub is_there : all_instances there old ≡ new
  pub is_back : all_instances back new ≡ old

-- both are solved, both clash or both are cyclic
abbrev pub SameKind : Outcome → Outcome → Type 0
SameKind (Solved bs) (Solved bs') = ⊤
SameKind Clash Clash = ⊤
SameKind Cyclic Cyclic = ⊤
SameKind o other = ⊥

-- equations end as this outcome does: solved, by a clash or by a cycle
abbrev pub EndsAs : List Equation → Outcome → Type 0
EndsAs es o = (o' : Outcome) × Unified es o' × SameKind o' o

-- values that solve equations, and of which all values that do are instances
pub record IsMostGeneral (es : List Equation) (value : ℕ → Term) : Type 0 where
  pub solves : Solves value es
  pub general : (other : ℕ → Term) → Solves other es → (v : ℕ) → other v ≡ instance other (value v)

-- equations that differ in the names of their variables alone end in outcomes of one kind
abbrev pub VariantsEndAlike : Type 0
VariantsEndAlike = (there back : ℕ → Term) (es es' : List Equation) (o o' : Outcome) → AreVariants there back es es' → Unified es o → Unified es' o' → SameKind o o'

-- what their most general solutions make of a term differs in the names of variables alone
abbrev pub VariantsSolvedAlike : Type 0
VariantsSolvedAlike = (there back : ℕ → Term) (es es' : List Equation) (value value' : ℕ → Term) → AreVariants there back es es' → IsMostGeneral es value → IsMostGeneral es' value'
    → (t t' : Term) → instance there t ≡ t' → instance (λ v. instance value' (there v)) (instance value t) ≡ instance value' t'

-- a term and an instance of which it is an instance are one term, once their variables are numbered by first appearance
abbrev pub VariantsNumberedAlike : Type 0
VariantsNumberedAlike = (there back : ℕ → Term) (t : Term) → instance back (instance there t) ≡ t → numbered (instance there t) ≡ numbered t
