-- What the tables of a grammar hold.
-- The headline does not rest on this file.
use Rattle.std.specs.Prelude.{◌≡◌, ℕ, ◌<◌, Bool, ◌&&◌, not, List, [], length, slice_index_or}
use Rattle.std.specs.List.{list_any}
use Rattle.prog_data.specs.declared.grammars.Rule.{Rule}
use Rattle.prog_data.specs.declared.grammars.Grammar.{Grammar}
use Rattle.prog_data.specs.GrammarRange.{IsGrammar}
use Rattle.prog_data.specs.Values.{bit_at}
use Rattle.name_order.specs.Relations.{are_names, has_member, below, meets, full_leaves, looked_up}
use Rattle.name_order.specs.Tables.{Grid, has, lacks}

-- a test that a leaf of one list passes is passed by one of the other
abbrev pub SameLeaves : List Rule → List Rule → Type 0
SameLeaves xs ys = (test : Rule → Bool) → list_any test xs ≡ list_any test ys

-- for each name the set of those that a table lacks beside it
abbrev pub RowsLack : Grid → List (List ℕ) → Type 0
RowsLack t rows = (n : ℕ) → n < t.size → bit_at (slice_index_or rows n []) ≡ (λ m. lacks t (n, m))

-- whether two names of a grammar do not meet
abbrev pub apart : Grammar → ℕ → ℕ → Bool
apart g n m = are_names (length g.rules) (n, m) && not (meets g n m)

-- the leaves that have members, the tables of the names with members, of those that are not below, and of those that meet, and for each name the sets of those that it is below, and of those that it does not meet
pub record TablesHold (g : Grammar) (leaves : List (List Rule)) (members outside meeting : Grid) (above_rows apart_rows : List (List ℕ)) : Type 0 where
  pub range : IsGrammar g
  pub same_leaves : (n : ℕ) → SameLeaves (looked_up leaves n) (full_leaves g n)
  pub has_members : (n : ℕ) → has members (n, n) ≡ has_member g n
  pub are_below : (n m : ℕ) → lacks outside (n, m) ≡ below g n m
  pub are_meeting : (n m : ℕ) → has meeting (n, m) ≡ meets g n m
  pub aboves : (n : ℕ) → n < length g.rules → bit_at (slice_index_or above_rows n []) ≡ below g n
  pub aparts : (n : ℕ) → n < length g.rules → bit_at (slice_index_or apart_rows n []) ≡ apart g n
