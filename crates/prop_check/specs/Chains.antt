-- A chain of sets: those to which the parts of a compound belong, the first part first.
-- The headline does not rest on this file.
use Rattle.std.specs.Prelude.{ℕ, Bool, List, [], ◌∷◌, Option, Some, None, option_copied}
use Rattle.prog_data.specs.Values.{bit_at}
use Rattle.prop_check.specs.declared.chains.Known.{Known}
use Rattle.prop_check.specs.declared.chains.Known.TheOpen.{Known-F}
use Rattle.prop_check.specs.declared.chains.Known.TheFolds.{fold-Known}

-- the sets behind one
abbrev pub rest_of : Option (List (ℕ → Bool)) → List (ℕ → Bool)
rest_of None = []
rest_of (Some sets) = sets

-- a set and those behind it
abbrev pub link : Known-F (List (ℕ → Bool)) → List (ℕ → Bool)
link k = bit_at k.names.now ∷ rest_of (option_copied k.behind)

-- the sets of a chain
abbrev pub sets_of : Known → List (ℕ → Bool)
sets_of = fold-Known (List (ℕ → Bool)) link

-- the sets of a chain, if there is one
abbrev pub sets_behind : Option Known → List (ℕ → Bool)
sets_behind None = []
sets_behind (Some k) = sets_of k
