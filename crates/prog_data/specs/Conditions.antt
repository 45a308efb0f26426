-- When properties and conditions hold of a call's arguments, as these stand.
use Rattle.std.specs.Prelude.{ℕ, Bool, true, false, not, List, slice_get, Option, Some, option_map}
use Rattle.std.specs.Option.{option_map_or}
use Rattle.std.specs.List.{list_any, list_all}
use Rattle.term_core.specs.declared.terms.Term.{Term, out-Term}
use Rattle.term_core.specs.Terms.{is_ground, is_variable}
use Rattle.prog_data.specs.declared.conditions.Prop.{Prop}
use Rattle.prog_data.specs.declared.conditions.Prop.TheVariants.{Belongs, IsVar, IsNonvar, IsGround}
use Rattle.prog_data.specs.declared.conditions.CompProp.TheVariants.{NotFails, Fails, IsDet}
use Rattle.prog_data.specs.declared.conditions.CondKind.{CondKind}
use Rattle.prog_data.specs.declared.conditions.CondKind.TheVariants.{Calls, Success, Comp}
use Rattle.prog_data.specs.declared.grammars.Grammar.{Grammar}
use Rattle.prog_data.specs.declared.programs.Program.{Program}
use Rattle.prog_data.specs.Membership.{belongs}

-- whether there is an argument with this number, and it passes the test
abbrev pub at_argument : (Term → Bool) → List Term → ℕ → Bool
at_argument test args i = option_map_or test (slice_get args i) false

-- whether a property holds of the arguments
abbrev pub holds : Grammar → List Term → Prop → Bool
holds g args (Belongs i n) = at_argument (λ t. belongs g t n) args i
holds g args (IsVar i) = at_argument (λ t. is_variable (out-Term t)) args i
holds g args (IsNonvar i) = at_argument (λ t. not (is_variable (out-Term t))) args i
holds g args (IsGround i) = at_argument is_ground args i

-- whether each property of a conjunction holds of the arguments
abbrev pub all_hold : Grammar → List Term → List Prop → Bool
all_hold g args props = list_all (holds g args) props

-- the kind of the condition with a number, if it is there
abbrev pub kind_of : Program → ℕ → Option CondKind
kind_of p c = option_map (λ cond. cond.kind) (slice_get p.conds c)

-- whether a condition is a calls condition
abbrev pub is_calls : Option CondKind → Bool
is_calls (Some (Calls ds)) = true
is_calls other = false

-- whether a condition is a success condition
abbrev pub is_success : Option CondKind → Bool
is_success (Some (Success pre post)) = true
is_success other = false

-- whether a condition is a comp condition
abbrev pub is_comp : Option CondKind → Bool
is_comp (Some (Comp pre property)) = true
is_comp other = false

-- whether a disjunct of a calls condition holds
abbrev pub calls_hold : Grammar → List Term → Option CondKind → Bool
calls_hold g args (Some (Calls ds)) = list_any (all_hold g args) ds
calls_hold g args other = true

-- whether Pre of a success or comp condition holds
abbrev pub pre_holds : Grammar → List Term → Option CondKind → Bool
pre_holds g args (Some (Success pre post)) = all_hold g args pre
pre_holds g args (Some (Comp pre property)) = all_hold g args pre
pre_holds g args other = false

-- whether Post of a success condition holds
abbrev pub post_holds : Grammar → List Term → Option CondKind → Bool
post_holds g args (Some (Success pre post)) = all_hold g args post
post_holds g args other = true

-- whether an exit breaks a comp condition of its mark, the mark being exited before or not
abbrev pub exit_breaks : Bool → Option CondKind → Bool
exit_breaks exited (Some (Comp pre Fails)) = true
exit_breaks exited (Some (Comp pre IsDet)) = exited
exit_breaks exited other = false

-- whether failure breaks a comp condition at its mark
abbrev pub failure_breaks : Bool → Option CondKind → Bool
failure_breaks exited (Some (Comp pre NotFails)) = not exited
failure_breaks exited other = false
