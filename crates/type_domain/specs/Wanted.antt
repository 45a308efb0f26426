-- What the code asks the leaves for, in one form.
-- The headline does not rest on this file.
use Rattle.std.specs.Prelude.{Bool, List}
use Rattle.prog_data.specs.declared.grammars.Rule.{Rule}
use Rattle.prog_data.specs.Values.{TypeValue}
use Rattle.prog_data.specs.Membership.{admits_int, admits_atom}
use Rattle.type_domain.specs.declared.leaves.Wanted.{Wanted}
use Rattle.type_domain.specs.declared.leaves.Wanted.TheVariants.{Int, Atom, Compound}
use Rattle.type_domain.specs.Values.{leaf_builds}

-- whether a leaf admits the constant, or takes the compounds of the name whose parts are in these values
abbrev pub has_wanted : Wanted → List TypeValue → Rule → Bool
has_wanted (Int k) vs = admits_int k
has_wanted (Atom a) vs = admits_atom a
has_wanted (Compound f) vs = leaf_builds f vs
