-- Tables of operators, and their change.
use Rattle.std.specs.Prelude.{ℕ, ◌-◌, Bool, true, false, not, ◌&&◌, ◌||◌, ◌==◌, nat_le, ℤ, pos, negsuc, List, [], ◌∷◌, filter, Option, Some, None, if◌then◌else◌}
use Rattle.std.specs.List.{list_any}
use Rattle.term_core.specs.declared.fixed.TheConstants.{BAR}
use Rattle.term_core.specs.declared.operators.Op.{Op}
use Rattle.term_core.specs.declared.operators.OpKind.{OpKind}
use Rattle.term_core.specs.declared.operators.OpKind.TheVariants.{Xfx, Xfy, Yfx, Fy, Fx}
use Rattle.term_core.specs.declared.operators.Definition.{Definition}
use Rattle.term_core.specs.declared.operators.Operators.{Operators}

-- the greatest priority of all, which a whole term may have
abbrev pub greatest_priority : ℕ
greatest_priority = 1200

-- the greatest priority of an argument of a compound, and of an item or the tail of a list
abbrev pub argument_priority : ℕ
argument_priority = 999

-- the priority of the prefix operators that are keywords and statuses of assertions
abbrev pub keyword_priority : ℕ
keyword_priority = 1150

-- what a name is in a list
abbrev pub defined : List Definition → ℕ → Option Op
defined [] name = None
defined (d ∷ ds) name = if d.name == name then Some d.op else defined ds name

-- the prefix operator that a name is
abbrev pub prefix_of : Operators → ℕ → Option Op
prefix_of ops name = defined ops.prefixes name

-- the infix operator that a name is
abbrev pub infix_of : Operators → ℕ → Option Op
infix_of ops name = defined ops.infixes name

-- whether the kind stands before its argument
abbrev pub is_before : OpKind → Bool
is_before Fy = true
is_before Fx = true
is_before k = false

-- an infix operator whose left argument may have its own priority
abbrev pub is_yfx : OpKind → Bool
is_yfx Yfx = true
is_yfx k = false

-- an infix operator whose right argument may have its own priority
abbrev pub is_xfy : OpKind → Bool
is_xfy Xfy = true
is_xfy k = false

-- a prefix operator whose argument may have its own priority
abbrev pub is_fy : OpKind → Bool
is_fy Fy = true
is_fy k = false

-- the greatest priority of the argument before an operator
abbrev pub left_limit : Op → ℕ
left_limit o = elim (o.kind) [ Xfx ↦ o.priority - 1 | Xfy ↦ o.priority - 1 | Yfx ↦ o.priority | Fy ↦ 0 | Fx ↦ 0 ]

-- the greatest priority of the argument behind an operator
abbrev pub right_limit : Op → ℕ
right_limit o = elim (o.kind) [ Xfx ↦ o.priority - 1 | Xfy ↦ o.priority | Yfx ↦ o.priority - 1 | Fy ↦ o.priority | Fx ↦ o.priority - 1 ]

-- the change of a table

-- whether an operator of this kind has this priority
abbrev pub has_kind : (OpKind → Bool) → List Definition → ℕ → Bool
has_kind is_kind ds p = list_any (λ d. d.op.priority == p && is_kind d.op.kind) ds

-- whether this priority has both a yfx and an xfy operator, or both an fy and a yfx operator
abbrev pub is_torn_at : Operators → ℕ → Bool
is_torn_at ops p = has_kind is_yfx ops.infixes p && (has_kind is_xfy ops.infixes p || has_kind is_fy ops.prefixes p)

-- whether some priority does
abbrev pub is_torn : Operators → Bool
is_torn ops = list_any (λ d. is_torn_at ops d.op.priority) ops.infixes

-- the list with this definition alone for its name, or with none where its priority is 0
abbrev pub redefined : Definition → List Definition → List Definition
redefined new ds = let others = filter (λ d. not (d.name == new.name)) ds in if new.op.priority == 0 then others else new ∷ others

-- the table with this definition in the list of its kind
abbrev pub changed : Definition → Operators → Operators
changed new ops =
    if is_before new.op.kind then record ops { prefixes = redefined new ops.prefixes }
    else record ops { infixes = redefined new ops.infixes }

-- the names that no change takes: `[]`, `.`, `{}`, the comma and the bar, which are the first of all names
abbrev pub is_reserved : ℕ → Bool
is_reserved name = nat_le name BAR

-- the changed table, but none for a reserved name and none that is torn
abbrev pub checked_change : Definition → Operators → Option Operators
checked_change new ops = if is_reserved new.name || is_torn (changed new ops) then None else Some (changed new ops)

-- the table after `op(p,kind,name)`, or None where that is refused, as it is where p is below 0 or above the greatest priority
abbrev pub added : ℤ → OpKind → ℕ → Operators → Option Operators
added (pos p) kind name ops = if nat_le p greatest_priority then checked_change (record { name = name; op = record { priority = p; kind = kind } }) ops else None
added (negsuc p) kind name ops = None
