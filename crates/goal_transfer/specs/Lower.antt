-- What says at least as much as something else.
-- The headline does not rest on this file.
use Rattle.std.specs.Prelude.{◌≡◌, ◌⊎◌, ℕ, List, [], ◌∷◌, Option, None, Some}
use Rattle.std.specs.List.{AllByRecursion}
use Rattle.prog_data.specs.Values.{TypeValue}
use Rattle.type_domain.specs.Values.{Leq}
use Rattle.type_domain.specs.Laws.{LeqEach}
use Rattle.goal_transfer.specs.Transfer.{Values, Known, ReachedCall, Outcome}
use Rattle.goal_transfer.specs.Tables.{ClauseEffect}

-- the first values say at least as much of each variable
abbrev pub AllLeq : Values → Values → Type 0
AllLeq vs ws = (v : ℕ) → Leq (vs v) (ws v)

-- what is known says at least as much; none says all
abbrev pub KnownLeq : Known → Known → Type 0
KnownLeq None b = Unit {0}
KnownLeq (Some vs) None = ⊥
KnownLeq (Some vs) (Some ws) = AllLeq vs ws

-- the values of arguments, if they are there, say at least as much
abbrev pub ArgumentsLeq : Option (List TypeValue) → Option (List TypeValue) → Type 0
ArgumentsLeq None b = Unit {0}
ArgumentsLeq (Some vs) None = ⊥
ArgumentsLeq (Some vs) (Some ws) = LeqEach vs ws

-- some call among these is of the same predicate, and the first says at least as much
abbrev pub HasLarger : ReachedCall → List ReachedCall → Type 0
HasLarger c [] = ⊥
HasLarger c (d ∷ ds) = ((c.0 ≡ d.0) × LeqEach c.1 d.1) ⊎ HasLarger c ds

-- each call has such a one among the others
abbrev pub CallsLeq : List ReachedCall → List ReachedCall → Type 0
CallsLeq cs ds = AllByRecursion (λ c. HasLarger c ds) cs

-- what comes of a goal says at least as much
pub record OutcomeLeq (a b : Outcome) : Type 0 where
  pub known : KnownLeq a.known b.known
  pub calls : CallsLeq a.calls b.calls

-- what comes of a clause says at least as much
pub record EffectLeq (a b : ClauseEffect) : Type 0 where
  pub exit : ArgumentsLeq a.exit b.exit
  pub calls : CallsLeq a.calls b.calls
