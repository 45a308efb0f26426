-- What holds of each table that changes can make, and what a change does.
-- The headline does not rest on this file.
use Rattle.std.specs.Prelude.{◌≡◌, ◌<◌, ◌≤◌, ℕ, pos, Bool, true, false, not, ◌==◌, if◌then◌else◌, nat_eq, List, map, Option, Some, None}
use Rattle.std.specs.List.{IsDistinct}
use Rattle.term_core.specs.declared.operators.Op.{Op}
use Rattle.term_core.specs.declared.operators.OpKind.{OpKind}
use Rattle.term_core.specs.declared.operators.OpKind.TheVariants.{Xfy, Yfx, Fy}
use Rattle.term_core.specs.declared.operators.Definition.{Definition}
use Rattle.term_core.specs.declared.operators.Operators.{Operators}
use Rattle.term_core.specs.declared.fixed.TheConstants.{COMMA, BAR}
use Rattle.term_core.specs.Operators.{greatest_priority, argument_priority, prefix_of, infix_of, is_before, left_limit, right_limit, is_reserved, added}
use Rattle.term_core.specs.Standard.{standard, IsMade}

-- each name stands once in the list
abbrev pub NamesOnce : List Definition → Type 0
NamesOnce ds = IsDistinct nat_eq (map (λ d. d.name) ds)

-- a priority from 1 to the greatest
abbrev pub IsPriority : ℕ → Type 0
IsPriority p = (1 ≤ p) × (p ≤ greatest_priority)

-- each name is at most one prefix and one infix operator, of a kind that stands there; no priority has both a yfx and an xfy operator, nor both an fy and a yfx operator; the names that no change takes are what they were from the start
pub record IsOrderly (ops : Operators) : Type 0 where
  pub prefixes_once : NamesOnce ops.prefixes
  pub infixes_once : NamesOnce ops.infixes
  pub prefix_is : (f : ℕ) (o : Op) → prefix_of ops f ≡ Some o → IsPriority o.priority × (is_before o.kind ≡ true)
  pub infix_is : (f : ℕ) (o : Op) → infix_of ops f ≡ Some o → IsPriority o.priority × (is_before o.kind ≡ false)
  pub no_yfx_and_xfy : (f g p : ℕ) → infix_of ops f ≡ Some (record { priority = p; kind = Yfx }) → infix_of ops g ≡ Some (record { priority = p; kind = Xfy }) → ⊥
  pub no_yfx_and_fy : (f g p : ℕ) → infix_of ops f ≡ Some (record { priority = p; kind = Yfx }) → prefix_of ops g ≡ Some (record { priority = p; kind = Fy }) → ⊥
  pub reserved_stay : (f : ℕ) → is_reserved f ≡ true → (prefix_of ops f ≡ prefix_of standard f) × (infix_of ops f ≡ infix_of standard f)

-- where an operator could stand before an infix one as the part on its left, that one is above its right argument, so only one of the two can be the root; and the comma and the bar stand in no item of a list
pub record HasOneRoot (ops : Operators) : Type 0 where
  pub infix_ties : (f g : ℕ) (o q : Op) → infix_of ops f ≡ Some o → infix_of ops g ≡ Some q → o.priority ≤ left_limit q → right_limit o < q.priority
  pub prefix_ties : (f g : ℕ) (o q : Op) → prefix_of ops f ≡ Some o → infix_of ops g ≡ Some q → o.priority ≤ left_limit q → right_limit o < q.priority
  pub comma : (q : Op) → infix_of ops COMMA ≡ Some q → argument_priority < q.priority
  pub bar : (q : Op) → infix_of ops BAR ≡ Some q → argument_priority < q.priority

-- every table is orderly
abbrev pub TablesAreOrderly : Type 0
TablesAreOrderly = (ops : Operators) → IsMade ops → IsOrderly ops

-- by every table only one operator outside brackets can be the root
abbrev pub TablesHaveOneRoot : Type 0
TablesHaveOneRoot = (ops : Operators) → IsMade ops → HasOneRoot ops

-- what a name is before its argument, or else between two
abbrev pub op_at : Bool → Operators → ℕ → Option Op
op_at true ops name = prefix_of ops name
op_at false ops name = infix_of ops name

-- an operator of this priority and kind, none where the priority is 0
abbrev pub op_or_none : ℕ → OpKind → Option Op
op_or_none p kind = if p == 0 then None else Some (record { priority = p; kind = kind })

-- the name is this operator now, or none, in the place of what it was of that sort, and all else stays
pub record SetsOneName (p : ℕ) (kind : OpKind) (name : ℕ) (old new : Operators) : Type 0 where
  pub is_now : op_at (is_before kind) new name ≡ op_or_none p kind
  pub others_stay : (other : ℕ) → (name ≡ other → ⊥) → op_at (is_before kind) new other ≡ op_at (is_before kind) old other
  pub other_sort_stays : (any : ℕ) → op_at (not (is_before kind)) new any ≡ op_at (not (is_before kind)) old any

-- a change that is not refused sets one name
abbrev pub ChangesSetOneName : Type 0
ChangesSetOneName = (p : ℕ) (kind : OpKind) (name : ℕ) (old new : Operators) → added (pos p) kind name old ≡ Some new → SetsOneName p kind name old new
