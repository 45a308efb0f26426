-- What the relations of names mean for terms, and how they are ordered.
-- The headline does not rest on this file.
use Rattle.std.specs.Prelude.{◌↔◌, ◌<◌, ℕ, length}
use Rattle.term_core.specs.declared.terms.Term.{Term}
use Rattle.prog_data.specs.Membership.{Belongs}
use Rattle.prog_data.specs.declared.grammars.Grammar.{Grammar}
use Rattle.name_order.specs.Fixpoints.{IsLeastTest, IsGreatestTest}
use Rattle.name_order.specs.Relations.{member_rule, HasMember, has_member, full_leaves, below_rule, Below, below, meets_rule, Meets, meets}

-- what belongs to a name belongs to each name that it is below
abbrev pub BelowKeepsTerms : Grammar → Type 0
BelowKeepsTerms g = (t : Term) (n m : ℕ) → Below g n m → Belongs g t n → Belongs g t m

-- two names that a term belongs to meet
abbrev pub SharedMeet : Grammar → Type 0
SharedMeet g = (t : Term) (n m : ℕ) → Belongs g t n → Belongs g t m → Meets g n m

-- a name has a member exactly where some term belongs to it
abbrev pub MembersBelong : Grammar → Type 0
MembersBelong g = (n : ℕ) → HasMember g n ↔ ((t : Term) × Belongs g t n)

-- each name is below itself
abbrev pub BelowReflexive : Grammar → Type 0
BelowReflexive g = (n : ℕ) → n < length g.rules → Below g n n

-- what is below a name that is below a third is below the third
abbrev pub BelowTransitive : Grammar → Type 0
BelowTransitive g = (n m k : ℕ) → Below g n m → Below g m k → Below g n k

-- names meet in both orders
abbrev pub MeetsSymmetric : Grammar → Type 0
MeetsSymmetric g = (n m : ℕ) → Meets g n m → Meets g m n

-- a name without members is below each name
abbrev pub EmptyBelowAll : Grammar → Type 0
EmptyBelowAll g = (n m : ℕ) → n < length g.rules → m < length g.rules → (HasMember g n → ⊥) → Below g n m

-- the three computed tests are the least and the greatest that there are
pub record AreFixpoints (g : Grammar) : Type 0 where
  pub members : IsLeastTest (member_rule g) (has_member g)
  pub below : IsGreatestTest (below_rule (length g.rules) (full_leaves g)) (λ p. below g p.0 p.1)
  pub meets : IsLeastTest (meets_rule (full_leaves g)) (λ p. meets g p.0 p.1)
