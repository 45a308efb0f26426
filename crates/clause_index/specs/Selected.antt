-- Which clauses an index selects.
-- The headline does not rest on this file.
use Rattle.std.specs.Prelude.{ℕ, zero, suc, Bool, false, List, [], ◌∷◌, map, filter, length, slice_get, slice_index_or}
use Rattle.std.specs.Option.{option_map_or}
use Rattle.prog_data.specs.declared.programs.Program.{Program}
use Rattle.prog_data.specs.Goals.{pred_of}
use Rattle.clause_index.specs.declared.keys.Key.{Key}
use Rattle.clause_index.specs.declared.keys.Key.TheVariants.{Free}
use Rattle.clause_index.specs.Keys.{head_key, agrees}

-- so many numbers from this one on
abbrev pub numbers : (first count : ℕ) → List ℕ
numbers first zero = []
numbers first (suc count) = first ∷ numbers (suc first) count

-- whether the key at a place agrees with this one
abbrev pub agrees_at : List Key → Key → ℕ → Bool
agrees_at keys key k = agrees key (slice_index_or keys k Free)

-- the places of the keys that agree with this one, in order
abbrev pub selected : List Key → Key → List ℕ
selected keys key = filter (agrees_at keys key) (numbers 0 (length keys))

-- the keys of the clauses of each predicate
abbrev pub program_keys : Program → List (List Key)
program_keys program = map (λ pred. map head_key pred.clauses) program.preds

-- those of the predicate with this number, none where it is not there
abbrev pub keys_at : List (List Key) → ℕ → List Key
keys_at keys p = slice_index_or keys p []

-- whether the clause of a predicate at a place can match a call whose first argument has this key
abbrev pub can_match : Program → (pred : ℕ) → Key → ℕ → Bool
can_match program p key k = option_map_or (λ clause. agrees key (head_key clause)) (slice_get (pred_of program p).clauses k) false
