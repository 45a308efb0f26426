-- Copies of terms that are deep down their last arguments. Contracts of private functions alone.
-- The headline does not rest on this file.
use Rattle.std.specs.Prelude.{◌-◌, List, [], ◌∷◌, length, slice_set}
use Rattle.term_core.specs.declared.terms.Term.{Term}
use Rattle.term_core.specs.declared.terms.Term as term
use Rattle.unit_scopes.specs.declared.copies.Open.{Open}

-- a compound with its last argument in its place
abbrev pub closed : Open → Term → Term
closed outer t = term.Node outer.name (slice_set outer.parts (length outer.parts - 1) t)

-- the same of compounds each of which is the last argument of the one before it
abbrev pub closed_all : List Open → Term → Term
closed_all [] t = t
closed_all (outer ∷ more) t = closed outer (closed_all more t)
