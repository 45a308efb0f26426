-- The variables of what is printed: each spelling is one variable, and the scan numbers them by first appearance.
use Rattle.std.proofs.Common.{arith, ◌≡◌, ℕ, ◌^◌, ◌<◌, Bool, true, false, not, List, [], ◌∷◌, ◌++◌, map, length, drop, refl, sym, ap, ◌∙◌, true≢false}
use Rattle.std.specs.Prelude.{◌&&◌, nat_eq, bytes_eq, codes, decimal, if◌then◌else◌}
use Rattle.std.specs.List.{list_any, position_or_len, AllByRecursion}
use Rattle.std.proofs.lemmas.Bool.{eq-eqb, ne_eqb, eqb-true}
use Rattle.std.proofs.lemmas.Fmt.{decimal_is_IsNumeral, decimal_nonempty}
use Rattle.std.proofs.lemmas.List.{map-append, length-map}
use Rattle.std.specs.Str.Parse.{digits_value}
use Rattle.term_core.specs.Terms.{with_new, with_all_new}
use Rattle.ciao_reader.specs.declared.words.Word.{Word}
use Rattle.ciao_reader.specs.declared.words.Word.TheVariants as word
use Rattle.ciao_reader.specs.Roles.{is_known, variable_number}
use Rattle.ciao_reader.proofs.Numbering.{numbers_in}
use Rattle.ciao_reader.proofs.Positions.{position_of_none, position_in_front, position_at_end, position_of_images, any_at_end, any_in_front, any_of_images}
use Rattle.ciao_reader.proofs.PrintedNames.{is_there, text_at_place, same_place}
use Rattle.ciao_reader.proofs.PrintedTokens.{spelling}
use Rattle.ciao_reader.proofs.PrintedWords.{variable_text, seen_after, numbered_words}
use Rattle.ciao_reader.proofs.RenumberedTrees.{renumbered_words}

-- numbers that are seen

at_itself : (v : ℕ) → nat_eq v v ≡ true
at_itself v = eq-eqb v v refl

-- its place, where it is added if it is new
place_with_new : (v : ℕ) (seen : List ℕ) → (if list_any (nat_eq v) seen then position_or_len (nat_eq v) seen else length seen) ≡ position_or_len (nat_eq v) (with_new seen v)
place_with_new v seen = by (list_any (nat_eq v) seen) refl
  where
    by : (b : Bool) → list_any (nat_eq v) seen ≡ b → (if b then position_or_len (nat_eq v) seen else length seen) ≡ position_or_len (nat_eq v) (if b then seen else seen ++ v ∷ [])
    by true there = refl
    by false new = sym (position_at_end (nat_eq v) seen v (at_itself v) ∙ position_of_none (nat_eq v) seen new)

new_there : (v : ℕ) (seen : List ℕ) → list_any (nat_eq v) (with_new seen v) ≡ true
new_there v seen = by (list_any (nat_eq v) seen) refl
  where
    by : (b : Bool) → list_any (nat_eq v) seen ≡ b → list_any (nat_eq v) (if b then seen else seen ++ v ∷ []) ≡ true
    by true there = there
    by false new = any_at_end (nat_eq v) seen v (at_itself v)

-- it stays there, at its place, when others are added
still_with : (v w : ℕ) (seen : List ℕ) → list_any (nat_eq v) seen ≡ true → list_any (nat_eq v) (with_new seen w) ≡ true
still_with v w seen there = by (list_any (nat_eq w) seen)
  where
    by : (b : Bool) → list_any (nat_eq v) (if b then seen else seen ++ w ∷ []) ≡ true
    by true = there
    by false = any_in_front (nat_eq v) seen (w ∷ []) there

place_still_with : (v w : ℕ) (seen : List ℕ) → list_any (nat_eq v) seen ≡ true → position_or_len (nat_eq v) (with_new seen w) ≡ position_or_len (nat_eq v) seen
place_still_with v w seen there = by (list_any (nat_eq w) seen)
  where
    by : (b : Bool) → position_or_len (nat_eq v) (if b then seen else seen ++ w ∷ []) ≡ position_or_len (nat_eq v) seen
    by true = refl
    by false = position_in_front (nat_eq v) seen (w ∷ []) there

place_with_all : (v : ℕ) (seen vs : List ℕ) → list_any (nat_eq v) seen ≡ true → position_or_len (nat_eq v) (with_all_new seen vs) ≡ position_or_len (nat_eq v) seen
place_with_all v seen [] there = refl
place_with_all v seen (w ∷ ws) there = place_with_all v (with_new seen w) ws (still_with v w seen there) ∙ place_still_with v w seen there

-- texts of variables

-- numbers of 64 bits with one text are the same
one_number : (v w : ℕ) → v < 2 ^ 64 → w < 2 ^ 64 → variable_text v ≡ variable_text w → v ≡ w
one_number v w small_v small_w same = sym (decimal_is_IsNumeral v small_v).1 ∙ ap (λ text. digits_value 10 (drop 1 text)) same ∙ (decimal_is_IsNumeral w small_w).1

-- no variable's text is `_`
not_alone : (v : ℕ) → v < 2 ^ 64 → bytes_eq (variable_text v) (codes "_") ≡ false
not_alone v small = by (decimal v) (decimal_nonempty v small)
  where
    by : (ds : List ℕ) → 0 < length ds → bytes_eq (codes "_" ++ ds) (codes "_") ≡ false
    by [] some = absurd (omega (arith, some))
    by (d ∷ ds) some = refl

module _ (after : List (List ℕ)) where
  -- a variable of 64 bits whose text is among the names
  abbrev pub IsTold : ℕ → Type 0
  IsTold v = (v < 2 ^ 64) × (is_there (variable_text v) after ≡ true)

  -- one spelling is one variable
  one_spelling : (v w : ℕ) → IsTold v → IsTold w → spelling after v ≡ spelling after w → v ≡ w
  one_spelling v w at_v at_w same = one_number v w at_v.0 at_w.0 (same_place (variable_text v) (variable_text w) after at_v.1 at_w.1 same)

  same_test : (v w : ℕ) → IsTold v → IsTold w → nat_eq (spelling after v) (spelling after w) ≡ nat_eq v w
  same_test v w at_v at_w = by (nat_eq v w) refl
    where
      by : (b : Bool) → nat_eq v w ≡ b → nat_eq (spelling after v) (spelling after w) ≡ b
      by true e = eq-eqb _ _ (ap (spelling after) (eqb-true v w e))
      by false e = ne_eqb _ _ (λ same. true≢false (sym (eq-eqb v w (one_spelling v w at_v at_w same)) ∙ e))

  same_tests : (v : ℕ) (seen : List ℕ) → IsTold v → AllByRecursion IsTold seen → AllByRecursion (λ w. nat_eq (spelling after v) (spelling after w) ≡ nat_eq v w) seen
  same_tests v [] told all = tt
  same_tests v (w ∷ ws) told all = (same_test v w told all.0, same_tests v ws told all.1)

  told_with : (v : ℕ) (seen : List ℕ) → IsTold v → AllByRecursion IsTold seen → AllByRecursion IsTold (with_new seen v)
  told_with v seen told all = by (list_any (nat_eq v) seen)
    where
      behind : (ws : List ℕ) → AllByRecursion IsTold ws → AllByRecursion IsTold (ws ++ v ∷ [])
      behind [] each = (told, tt)
      behind (w ∷ ws) each = (each.0, behind ws each.1)

      by : (b : Bool) → AllByRecursion IsTold (if b then seen else seen ++ v ∷ [])
      by true = all
      by false = behind seen all

  -- a variable with those that are seen
  module _ (v : ℕ) (seen : List ℕ) (told : IsTold v) (all : AllByRecursion IsTold seen) where
    known_same : is_known after (map (spelling after) seen) (spelling after v) ≡ list_any (nat_eq v) seen
    known_same =
        ap (λ text. not (bytes_eq text (codes "_")) && list_any (nat_eq (spelling after v)) (map (spelling after) seen)) (text_at_place (variable_text v) after told.1)
        ∙ ap (λ b. not b && list_any (nat_eq (spelling after v)) (map (spelling after) seen)) (not_alone v told.0)
        ∙ any_of_images (spelling after) (nat_eq v) (nat_eq (spelling after v)) seen (same_tests v seen told all)

    number_same : variable_number after (map (spelling after) seen) (spelling after v) ≡ position_or_len (nat_eq v) (with_new seen v)
    number_same =
        ap (λ b. if b then position_or_len (nat_eq (spelling after v)) (map (spelling after) seen) else length (map (spelling after) seen)) known_same
        ∙ ap (λ n. if list_any (nat_eq v) seen then n else length (map (spelling after) seen)) (position_of_images (spelling after) (nat_eq v) (nat_eq (spelling after v)) seen (same_tests v seen told all))
        ∙ ap (λ n. if list_any (nat_eq v) seen then position_or_len (nat_eq v) seen else n) (length-map seen (spelling after))
        ∙ place_with_new v seen

    seen_same : seen_after after (spelling after) (map (spelling after) seen) (word.Variable v) ≡ map (spelling after) (with_new seen v)
    seen_same = ap (λ b. if b then map (spelling after) seen else map (spelling after) seen ++ spelling after v ∷ []) known_same ∙ by (list_any (nat_eq v) seen)
      where
        by : (b : Bool) → (if b then map (spelling after) seen else map (spelling after) seen ++ spelling after v ∷ []) ≡ map (spelling after) (if b then seen else seen ++ v ∷ [])
        by true = refl
        by false = sym (map-append (spelling after) seen (v ∷ []))

  -- the number of a variable, where some were seen before
  abbrev number_among : List ℕ → List Word → ℕ → ℕ
  number_among seen ws v = position_or_len (nat_eq v) (with_all_new seen (numbers_in ws))

  -- the scan gives each variable its place among all of them
  numbered_from : (seen : List ℕ) (ws : List Word) → AllByRecursion IsTold seen → AllByRecursion IsTold (numbers_in ws)
      → numbered_words after (spelling after) (map (spelling after) seen) ws ≡ renumbered_words (number_among seen ws) ws
  numbered_from seen [] all told = refl
  numbered_from seen (word.Variable v ∷ ws) all told =
      ap (λ n. word.Variable n ∷ numbered_words after (spelling after) (seen_after after (spelling after) (map (spelling after) seen) (word.Variable v)) ws)
      (number_same v seen told.0 all ∙ sym (place_with_all v (with_new seen v) (numbers_in ws) (new_there v seen)))
      ∙ ap (λ ns. word.Variable (number_among (with_new seen v) ws v) ∷ numbered_words after (spelling after) ns ws) (seen_same v seen told.0 all)
      ∙ ap (λ us. word.Variable (number_among (with_new seen v) ws v) ∷ us) (numbered_from (with_new seen v) ws (told_with v seen told.0 all) told.1)
  numbered_from seen (w ∷ ws) all told = ap (λ us. w ∷ us) (numbered_from seen ws all told)

  pub words_numbered : (ws : List Word) → AllByRecursion IsTold (numbers_in ws) → numbered_words after (spelling after) [] ws ≡ renumbered_words (λ v. position_or_len (nat_eq v) (with_all_new [] (numbers_in ws))) ws
  words_numbered ws told = numbered_from [] ws tt told
