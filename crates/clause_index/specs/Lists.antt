-- What is found in the lists of an index.
-- The headline does not rest on this file.
use Rattle.std.specs.Prelude.{ℕ, zero, suc, Bool, List, [], ◌∷◌, ◌++◌, if◌then◌else◌}
use Rattle.std.specs.Option.{option_map_or}
use Rattle.indexmap.specs.IndexMap.{IndexMap, get}
use Rattle.clause_index.specs.declared.keys.Key.{Key}
use Rattle.clause_index.specs.declared.lists.Lists.{Lists}
use Rattle.clause_index.specs.contracts.keys.KeyPartialEq.TheImpl as key_eq
use Rattle.clause_index.specs.Keys.{is_free}

-- what `==` says of two keys
abbrev pub same_key : Key → Key → Bool
same_key = (key_eq.ghosts).eq

-- a list with one place more
abbrev pub placed : ℕ → List ℕ → List ℕ
placed place places = places ++ place ∷ []

-- a list with one place more, if it belongs there
abbrev pub with_place : Bool → ℕ → List ℕ → List ℕ
with_place belongs place places = if belongs then placed place places else places

-- entries, of which that at an index has one place more
abbrev pub placed_at : List (Key × List ℕ) → (index place : ℕ) → List (Key × List ℕ)
placed_at [] at place = []
placed_at (e ∷ es) zero place = (e.0, placed place e.1) ∷ es
placed_at (e ∷ es) (suc at) place = e ∷ placed_at es at place

-- the list of a bound key: its own, or that of the free keys
abbrev pub found_bound : {S : Type 0} → IndexMap Key (List ℕ) S → List ℕ → Key → List ℕ
found_bound bound unbound key = option_map_or (λ places. places) (get same_key bound key) unbound

-- the list of a key
abbrev pub found : Lists → Key → List ℕ
found lists key = if is_free key then lists.all else found_bound lists.bound lists.unbound key
