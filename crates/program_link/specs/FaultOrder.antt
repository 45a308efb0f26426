-- The fault that comes first.
-- The headline does not rest on this file.
use Rattle.std.specs.Prelude.{ℕ, Bool, ◌&&◌, ◌||◌, ◌==◌, nat_lt, List, [], ◌∷◌, Option, Some, None, if◌then◌else◌}
use Rattle.prog_data.specs.declared.refusals.RefusalKind.{RefusalKind}
use Rattle.prog_data.specs.declared.refusals.RefusalKind.TheVariants as kind
use Rattle.program_link.specs.declared.faults.Fault.{Fault}

-- the order of kinds in one line
abbrev pub rank : RefusalKind → ℕ
rank kind.BadExpansion = 0
rank kind.BadRegtype = 1
rank kind.UnknownProperty = 2
rank kind.BadAssertion = 3
rank kind.BadClause = 4
rank kind.NotExported = 5
rank kind.Ambiguous = 6
rank kind.Undefined = 7
rank other = 8

-- whether a fault comes before another: by file in load order, then by line, then by kind
abbrev pub is_before : Fault → Fault → Bool
is_before a b =
    nat_lt a.unit b.unit || ((a.unit == b.unit) && (nat_lt a.line b.line || ((a.line == b.line) && nat_lt (rank a.kind) (rank b.kind))))

-- of two faults the one that comes first, if there is one; the first of two alike
abbrev pub sooner : Option Fault → Option Fault → Option Fault
sooner None b = b
sooner (Some a) None = Some a
sooner (Some a) (Some b) = if is_before b a then Some b else Some a

-- the first of a fault and others
abbrev pub least_from : Option Fault → List Fault → Option Fault
least_from found [] = found
least_from found (f ∷ fs) = least_from (sooner found (Some f)) fs

-- the first of some faults
abbrev pub least : List Fault → Option Fault
least fs = least_from None fs
