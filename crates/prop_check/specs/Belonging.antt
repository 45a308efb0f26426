-- What a rule admits, by at most so many unit rules.
-- The headline does not rest on this file.
use Rattle.std.specs.Prelude.{ℕ, zero, suc, Bool, false}
use Rattle.std.specs.List.{list_any}
use Rattle.prog_data.specs.declared.grammars.Rule.{Rule}
use Rattle.prog_data.specs.declared.grammars.Rule.TheVariants.{Unit as UnitRule}
use Rattle.prog_data.specs.declared.grammars.Grammar.{Grammar}
use Rattle.prog_data.specs.Membership.{leaves_within}

-- whether a leaf of a name holds, where one unit rule fewer leads there; none does by no unit rule
abbrev pub passes_unit : (Rule → Bool) → ℕ → Grammar → ℕ → Bool
passes_unit holds zero g m = false
passes_unit holds (suc k) g m = list_any holds (leaves_within k g m)

-- whether a rule holds: a leaf itself, and a unit rule by the leaves of its name
abbrev pub passes : (Rule → Bool) → ℕ → Grammar → Rule → Bool
passes holds k g (UnitRule m) = passes_unit holds k g m
passes holds k g other = holds other
