-- Which values the analysis keeps, and which properties it takes.
-- The headline does not rest on this file.
use Rattle.std.specs.Prelude.{◌≡◌, ℕ, ◌<◌, nat_lt, Bool, true, List, length, Option, None, Some}
use Rattle.std.specs.List.{AllByRecursion}
use Rattle.prog_data.specs.declared.conditions.Prop.{Prop}
use Rattle.prog_data.specs.declared.conditions.Prop.TheVariants.{Belongs}
use Rattle.prog_data.specs.declared.programs.Program.{Program}
use Rattle.prog_data.specs.Goals.{pred_of}
use Rattle.prog_data.specs.Values.{TypeValue}
use Rattle.name_order.specs.Relations.{Order}
use Rattle.type_domain.specs.Values.{is_set, IsValue}
use Rattle.goal_transfer.specs.Transfer.{Values, Known, ReachedCall, Outcome}

-- a value that the analysis keeps, and not none
abbrev pub IsGiven : Order → TypeValue → Type 0
IsGiven o v = IsValue o v × (is_set v ≡ true)

-- each variable has such a value
abbrev pub AllGiven : Order → Values → Type 0
AllGiven o vs = (v : ℕ) → IsGiven o (vs v)

-- where something is known, each variable has such a value
abbrev pub KnownGiven : Order → Known → Type 0
KnownGiven o None = Unit {0}
KnownGiven o (Some vs) = AllGiven o vs

-- a call of a predicate of the program with such a value for each argument
abbrev pub CallGiven : Program → Order → ReachedCall → Type 0
CallGiven program o c = (c.0 < length program.preds) × (length c.1 ≡ (pred_of program c.0).arity) × AllByRecursion (IsGiven o) c.1

-- an exit, if there is one, has values that the analysis keeps
abbrev pub ExitsGiven : Order → Option (List TypeValue) → Type 0
ExitsGiven o None = Unit {0}
ExitsGiven o (Some vs) = AllByRecursion (IsValue o) vs

-- what comes of a goal has such values
pub record OutcomeGiven (program : Program) (o : Order) (out : Outcome) : Type 0 where
  pub known : KnownGiven o out.known
  pub calls : AllByRecursion (CallGiven program o) out.calls

-- whether the grammar name that a property asks for, if it asks for one, is one of so many
abbrev pub is_named : ℕ → Prop → Bool
is_named size (Belongs i n) = nat_lt n size
is_named size other = true
