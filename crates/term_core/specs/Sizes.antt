-- How large terms are: for measures alone.
-- The headline does not rest on this file.
use Rattle.std.specs.Prelude.{ℕ, ◌+◌, List, [], ◌∷◌, map}
use Rattle.term_core.specs.declared.terms.Term.{Term}
use Rattle.term_core.specs.declared.terms.Term.TheOpen.{Term-F, Var, Int, Atom, Node}
use Rattle.term_core.specs.declared.terms.Term.TheFolds.{fold-Term}

-- the sum of some numbers
abbrev pub total : List ℕ → ℕ
total [] = 0
total (n ∷ ns) = n + total ns

-- a compound counts one more than its parts, and all else one
abbrev pub size_step : Term-F ℕ → ℕ
size_step (Var v) = 1
size_step (Int n) = 1
size_step (Atom a) = 1
size_step (Node f ns) = total ns + 1

-- of how many variables, numbers, atoms and compounds a term is made
abbrev pub size : Term → ℕ
size = fold-Term ℕ size_step

-- of how many some terms are made
abbrev pub size_all : List Term → ℕ
size_all ts = total (map size ts)
