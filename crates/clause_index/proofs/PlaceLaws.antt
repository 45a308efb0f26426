-- The places of the elements of a list that pass a test.
use Rattle.std.proofs.Common.{◌≡◌, ◌+◌, ◌<◌, ◌≤◌, ℕ, zero, suc, Bool, true, false, List, [], ◌∷◌, ◌++◌, map, length, get_or, drop, refl, ap, sym, ◌∙◌, append_assoc, arith}
use Rattle.std.specs.Prelude.{cond, if◌then◌else◌, filter, slice_get, None, Some}
use Rattle.std.specs.List.{AllByRecursion}
use Rattle.std.proofs.lemmas.List.{length_push, get_or_default, at_drop_all, append-nil}
use Rattle.std.proofs.lemmas.Option.{get_or_from_slice_get, none-some}
use Rattle.term_core.proofs.Turns.{turn}
use Rattle.clause_index.specs.declared.keys.Key.{Key}
use Rattle.clause_index.specs.declared.keys.Key.TheVariants.{Free}
use Rattle.clause_index.specs.Keys.{agrees}
use Rattle.clause_index.specs.Selected.{numbers, agrees_at, selected, keys_at}
use Rattle.clause_index.specs.Lists.{with_place}

-- the places of the elements that pass, where the first one has this place
abbrev pub places_from : {X : Type 0} → (X → Bool) → ℕ → List X → List ℕ
places_from test n [] = []
places_from test n (x ∷ xs) = if test x then n ∷ places_from test (suc n) xs else places_from test (suc n) xs

-- they are the numbers that pass, where a number passes as the element at that place does
pub by_numbers : {X : Type 0} (test : X → Bool) (passes : ℕ → Bool) (n : ℕ) (xs : List X) → ((i : ℕ) (x : X) → slice_get xs i ≡ Some x → passes (n + i) ≡ test x) → filter passes (numbers n (length xs)) ≡ places_from test n xs
by_numbers test passes n [] at = refl
by_numbers test passes n (x ∷ xs) at =
    let first : n ≡ n + 0 = omega arith in
    let here : passes n ≡ test x = ap passes first ∙ at 0 x refl in
    let rest = by_numbers test passes (suc n) xs (λ i y e. let next : suc n + i ≡ n + suc i = omega arith in ap passes next ∙ at (suc i) y e) in
    λ j. cond (here j) (n ∷ rest j) (rest j)

pub places_map : {X Y : Type 0} (f : X → Y) (test : Y → Bool) (n : ℕ) (xs : List X) → places_from test n (map f xs) ≡ places_from (λ x. test (f x)) n xs
places_map f test n [] = refl
places_map f test n (x ∷ xs) = let rest = places_map f test (suc n) xs in λ j. if test (f x) then n ∷ rest j else rest j

-- where all pass they are all the numbers
pub all_places : {X : Type 0} (test : X → Bool) (n : ℕ) (xs : List X) → AllByRecursion (λ x. test x ≡ true) xs → places_from test n xs ≡ numbers n (length xs)
all_places test n [] all = refl
all_places test n (x ∷ xs) all = let rest = all_places test (suc n) xs all.1 in λ j. cond (all.0 j) (n ∷ rest j) (rest j)

-- what is selected of keys
pub selected_is : (keys : List Key) (key : Key) → selected keys key ≡ places_from (agrees key) 0 keys
selected_is keys key =
    by_numbers (agrees key) (agrees_at keys key) 0 keys
    (λ i k e. let place : 0 + i ≡ i = omega arith in ap (agrees_at keys key) place ∙ ap (agrees key) (get_or_from_slice_get keys i k Free e))

-- one place more, before the others
turned : (b : Bool) (n : ℕ) (ps rest : List ℕ) → with_place b n ps ++ rest ≡ ps ++ cond b (n ∷ rest) rest
turned true n ps rest = append_assoc ps (n ∷ []) rest
turned false n ps rest = refl

-- the turn of a loop over keys: what is found, and the places that are left
pub next_key : (old new : Key → List ℕ) (keys : List Key) (i : ℕ) (k : Key) → i < length keys → k ≡ get_or keys i k → ((other : Key) → new other ≡ with_place (agrees other k) (length (old Free)) (old other)) →
    ((key : Key) → old key ++ places_from (agrees key) (length (old Free)) (drop i keys) ≡ selected keys key) →
    (key : Key) → new key ++ places_from (agrees key) (length (new Free)) (drop (i + 1) keys) ≡ selected keys key
next_key old new keys i k lt is added before key =
    let n = length (old Free) in
    let one : n + 1 ≡ suc n = omega arith in
    let more : length (new Free) ≡ suc n = ap length (added Free) ∙ length_push (old Free) n ∙ one in
    (λ j. added key j ++ places_from (agrees key) (more j) (drop (i + 1) keys))
    ∙ turned (agrees key k) n (old key) (places_from (agrees key) (suc n) (drop (i + 1) keys))
    ∙ sym (turn (λ ks. old key ++ places_from (agrees key) n ks) keys i k lt is)
    ∙ before key

-- before the first key
pub no_key : (found : Key → List ℕ) (keys : List Key) → ((key : Key) → found key ≡ []) → (key : Key) → found key ++ places_from (agrees key) (length (found Free)) keys ≡ selected keys key
no_key found keys none key = (λ j. none key j ++ places_from (agrees key) (length (none Free j)) keys) ∙ sym (selected_is keys key)

-- the turn, with the key as the loop has it
pub next_at : (old new : Key → List ℕ) (keys : List Key) (i : ℕ) (d : Key) → i < length keys → ((other : Key) → new other ≡ with_place (agrees other (get_or keys i d)) (length (old Free)) (old other)) →
    ((key : Key) → old key ++ places_from (agrees key) (length (old Free)) (drop i keys) ≡ selected keys key) →
    (key : Key) → new key ++ places_from (agrees key) (length (new Free)) (drop (i + 1) keys) ≡ selected keys key
next_at old new keys i d lt added before = next_key old new keys i (get_or keys i d) lt (get_or_default keys i d (get_or keys i d) lt) added before

-- after the last key
pub last_key : (found : Key → List ℕ) (keys : List Key) (i : ℕ) → length keys ≤ i → ((key : Key) → found key ++ places_from (agrees key) (length (found Free)) (drop i keys) ≡ selected keys key) →
    (key : Key) → found key ≡ selected keys key
last_key found keys i out before key = sym (append-nil (found key)) ∙ sym (at_drop_all (λ ks. found key ++ places_from (agrees key) (length (found Free)) ks) keys i out) ∙ before key

-- where a predicate is not there, nothing is selected
no_keys : (keys : List (List Key)) (p : ℕ) → slice_get keys p ≡ None → get_or keys p [] ≡ []
no_keys [] p e = refl
no_keys (k ∷ ks) zero e = absurd (none-some k (sym e))
no_keys (k ∷ ks) (suc p) e = no_keys ks p e

pub none_selected : (keys : List (List Key)) (p : ℕ) (key : Key) → None ≡ slice_get keys p → [] ≡ selected (keys_at keys p) key
none_selected keys p key e = ap (λ ks. selected ks key) (sym (no_keys keys p (sym e)))
