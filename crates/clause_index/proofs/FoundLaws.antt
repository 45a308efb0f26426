-- What is found in the lists of an index, when a place is added.
use Rattle.std.proofs.Common.{◌≡◌, ◌+◌, ◌<◌, ℕ, zero, suc, Bool, true, false, List, [], ◌∷◌, map, length, refl, ap, sym, ◌∙◌, arith}
use Rattle.std.specs.Prelude.{cond, ◌||◌, slice_get, Option, None, Some}
use Rattle.std.specs.Map.{lookup, values_of}
use Rattle.std.specs.Option.{option_map, option_map_or}
use Rattle.std.proofs.lemmas.Map.Made.{lookup-map_values}
use Rattle.std.proofs.lemmas.Option.{same_Some}
use Rattle.indexmap.specs.IndexMap.{IndexMap, get, set_value_at}
use Rattle.clause_index.specs.declared.keys.Key.{Key}
use Rattle.clause_index.specs.declared.lists.Lists.{Lists}
use Rattle.clause_index.specs.Keys.{is_free, same, agrees}
use Rattle.clause_index.specs.Lists.{same_key, placed, with_place, placed_at, found_bound, found}
use Rattle.clause_index.proofs.KeyLaws.{same_keys, same_equal, agrees_free, agrees_bound}

-- each list

-- the value at an index gets one place more
pub set_placed : (es : List (Key × List ℕ)) (at place : ℕ) (places : List ℕ) → slice_get (values_of es) at ≡ Some places → set_value_at es at (placed place places) ≡ placed_at es at place
set_placed [] at place places e = refl
set_placed (x ∷ es) zero place places e = ap (λ ps. (x.0, placed place ps) ∷ es) (sym (same_Some x.1 places e))
set_placed (x ∷ es) (suc at) place places e = ap (λ rest. x ∷ rest) (set_placed es at place places e)

-- the first so many entries have one place more
abbrev pub placed_first : (count place : ℕ) → List (Key × List ℕ) → List (Key × List ℕ)
placed_first zero place es = es
placed_first (suc n) place [] = []
placed_first (suc n) place (e ∷ es) = (e.0, placed place e.1) ∷ placed_first n place es

pub length-placed_first : (n place : ℕ) (es : List (Key × List ℕ)) → length (placed_first n place es) ≡ length es
length-placed_first zero place es = refl
length-placed_first (suc n) place [] = refl
length-placed_first (suc n) place (e ∷ es) = ap suc (length-placed_first n place es)

one_further : (n place : ℕ) (es : List (Key × List ℕ)) → placed_at (placed_first n place es) n place ≡ placed_first (suc n) place es
one_further zero place [] = refl
one_further zero place (e ∷ es) = refl
one_further (suc n) place [] = refl
one_further (suc n) place (e ∷ es) = ap (λ rest. (e.0, placed place e.1) ∷ rest) (one_further n place es)

-- the turn of the loop over the entries
pub next_entry : (n place : ℕ) (es old new : List (Key × List ℕ)) → new ≡ placed_at old n place → old ≡ placed_first n place es → new ≡ placed_first (n + 1) place es
next_entry n place es old new made before =
    let next : suc n ≡ n + 1 = omega arith in
    made ∙ ap (λ list. placed_at list n place) before ∙ one_further n place es ∙ ap (λ count. placed_first count place es) next

all_entries : (n place : ℕ) (es : List (Key × List ℕ)) → (n < length es → ⊥) → placed_first n place es ≡ map (λ e. (e.0, placed place e.1)) es
all_entries zero place [] out = refl
all_entries zero place (e ∷ es) out = absurd (out (omega arith))
all_entries (suc n) place [] out = refl
all_entries (suc n) place (e ∷ es) out = ap (λ rest. (e.0, placed place e.1) ∷ rest) (all_entries n place es (λ lt. out (omega (arith, lt))))

-- after the last entry
pub each_found : (n place : ℕ) (es new : List (Key × List ℕ)) → new ≡ placed_first n place es → (n < length es → ⊥) → (key : Key) → lookup (same_key key) new ≡ option_map (placed place) (lookup (same_key key) es)
each_found n place es new made out key = ap (lookup (same_key key)) (made ∙ all_entries n place es out) ∙ lookup-map_values (placed place) (same_key key) es

-- one list

-- what is put in after it was taken out
pub put_back : (b : Bool) (list : List ℕ) (new mid old : Option (List ℕ)) → new ≡ cond b (Some list) mid → mid ≡ cond b None old → new ≡ cond b (Some list) old
put_back true list new mid old made before = made
put_back false list new mid old made before = made ∙ before

-- bound keys

module _ {S : Type 0} (old new : IndexMap Key (List ℕ) S) (unbound : List ℕ) (key : Key) (place : ℕ) where
  -- a place for a free key
  pub placed_free : (more : List ℕ) → is_free key ≡ true → ((other : Key) → get same_key new other ≡ option_map (placed place) (get same_key old other)) → more ≡ placed place unbound →
      (other : Key) → found_bound new more other ≡ with_place (agrees other key) place (found_bound old unbound other)
  placed_free more free each last other =
      (λ i. option_map_or (λ places. places) (each other i) (last i)) ∙ by (get same_key old other) ∙ ap (λ b. with_place b place (found_bound old unbound other)) (sym (agrees_free other key free))
    where
      by : (o : Option (List ℕ)) → option_map_or (λ places. places) (option_map (placed place) o) (placed place unbound) ≡ placed place (option_map_or (λ places. places) o unbound)
      by None = refl
      by (Some places) = refl

  -- a place for a bound key
  pub placed_bound : is_free key ≡ false → ((other : Key) → get same_key new other ≡ cond (same_key key other) (Some (placed place (found_bound old unbound key))) (get same_key old other)) →
      (other : Key) → is_free other ≡ false → found_bound new unbound other ≡ with_place (agrees other key) place (found_bound old unbound other)
  placed_bound bound one other others =
      ap (λ o. option_map_or (λ places. places) o unbound) (one other) ∙ by (same_key key other) refl ∙ ap (λ b. with_place b place (found_bound old unbound other)) (same_keys key other ∙ sym (agrees_bound other key others bound))
    where
      by : (b : Bool) → same_key key other ≡ b → option_map_or (λ places. places) (cond b (Some (placed place (found_bound old unbound key))) (get same_key old other)) unbound ≡ with_place b place (found_bound old unbound other)
      by true e = ap (λ k. placed place (found_bound old unbound k)) (same_equal key other (sym (same_keys key other) ∙ e))
      by false e = refl

-- all keys

either : (b : Bool) (places : List ℕ) → cond b places places ≡ places
either true places = refl
either false places = refl

pub nothing_found : (lists : Lists) → lists.all ≡ [] → lists.unbound ≡ [] → lists.bound.entries ≡ [] → (key : Key) → found lists key ≡ []
nothing_found lists all unbound bound key = (λ i. cond (is_free key) (all i) (option_map_or (λ places. places) (lookup (same_key key) (bound i)) (unbound i))) ∙ either (is_free key) []

pub placed_key : (old new : Lists) (key : Key) → new.all ≡ placed (length old.all) old.all →
    ((other : Key) → is_free other ≡ false → found_bound new.bound new.unbound other ≡ with_place (agrees other key) (length old.all) (found_bound old.bound old.unbound other)) →
    (other : Key) → found new other ≡ with_place (agrees other key) (length old.all) (found old other)
placed_key old new key all bound other = by (is_free other) refl
  where
    by : (b : Bool) → is_free other ≡ b → cond b new.all (found_bound new.bound new.unbound other) ≡ with_place (agrees other key) (length old.all) (cond b old.all (found_bound old.bound old.unbound other))
    by true e = all ∙ ap (λ b. with_place (b || (is_free key || same key other)) (length old.all) old.all) (sym e)
    by false e = bound other e
