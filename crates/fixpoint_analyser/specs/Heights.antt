-- How far a value, and a table, can still fall.
-- The headline does not rest on this file.
use Rattle.std.specs.Prelude.{ℕ, suc, ◌+◌, ◌<◌, Bool, true, false, not, List, [], ◌∷◌, None, Some}
use Rattle.prog_data.specs.Values.{TypeValue}
use Rattle.name_order.specs.Relations.{Order}
use Rattle.type_domain.specs.Values.{IsValue, Leq, join, names_of}
use Rattle.goal_transfer.specs.Tables.{Facts}

-- one where a test holds
abbrev pub one : Bool → ℕ
one true = 1
one false = 0

-- how many of some names pass
abbrev pub count : (ℕ → Bool) → List ℕ → ℕ
count p [] = 0
count p (n ∷ ns) = one (p n) + count p ns

-- the number of names of a value, and more for none
abbrev pub height : Order → TypeValue → ℕ
height o None = suc o.size
height o (Some p) = count p (names_of o)

-- a value that is joined with one that says something less falls
abbrev pub JoinsFall : Order → Type 0
JoinsFall o = (a b : TypeValue) → IsValue o a → (Leq b a → ⊥) → height o (join a b) < height o a

-- the heights of values together
abbrev pub heights : Order → List TypeValue → ℕ
heights o [] = 0
heights o (v ∷ vs) = height o v + heights o vs

-- a row can be reached once, exit once, and have its values fall
abbrev pub row_height : Order → Facts → ℕ
row_height o r = (one (not r.reached) + heights o r.entry) + (one (not r.exits) + heights o r.exit)

-- all rows can
abbrev pub table_height : Order → List Facts → ℕ
table_height o [] = 0
table_height o (r ∷ rs) = row_height o r + table_height o rs
