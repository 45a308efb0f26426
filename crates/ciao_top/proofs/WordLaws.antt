-- What is found in words decides whether they are accepted.
use Rattle.std.proofs.Common.{◌≡◌, ℕ, Bool, true, false, ◌&&◌, List, [], ◌∷◌, ◌++◌, Option, Some, None, option_map, if◌then◌else◌, bytes_eq, ap, sym, ◌∙◌, refl}
use Rattle.std.specs.Option.{option_and_then}
use Rattle.ciao_modules.specs.FileNames.{Word, is_main_file}
use Rattle.ciao_top.specs.WordsTable.{OptionRow, steps_row, answers_row, run_row}
use Rattle.ciao_top.specs.WordsCut.{GivenOption, WordParts, WordUse, Separator, Name, Given, Positional, Dashed, use_of, no_parts, with_positional, with_option, cut_by, cut_words}
use Rattle.ciao_top.specs.WordsAccepted.{values_of, number_for, are_of_kinds, accepted_parts, RunWords, run_of, run_by}
use Rattle.ciao_top.specs.WordsFound.{FewValues, more_words, FoundWords, nothing_found, few_words, few_values, found_of, all_and, one_more, value_and, found_with, find_by, find_words, number_found, run_numbered, run_found}

-- words behind others

more_stays : (words : List Word) → more_words ≡ all_and more_words words
more_stays [] = refl
more_stays (word ∷ words) = more_stays words

all_behind : (xs words : List Word) → few_words (xs ++ words) ≡ all_and (few_words xs) words
all_behind [] [] = refl
all_behind [] (a ∷ []) = refl
all_behind [] (a ∷ b ∷ []) = refl
all_behind [] (a ∷ b ∷ c ∷ words) = more_stays words
all_behind (a ∷ []) [] = refl
all_behind (a ∷ []) (b ∷ []) = refl
all_behind (a ∷ []) (b ∷ c ∷ words) = more_stays words
all_behind (a ∷ b ∷ []) [] = refl
all_behind (a ∷ b ∷ []) (c ∷ words) = more_stays words
all_behind (a ∷ b ∷ c ∷ xs) words = more_stays words

-- values behind others

value_behind : (values : List Word) (value : Word) → few_values (values ++ value ∷ []) ≡ one_more (few_values values) value
value_behind [] value = refl
value_behind (a ∷ []) value = refl
value_behind (a ∷ b ∷ values) value = refl

values_behind : (name : Word) (given : List GivenOption) (option : GivenOption) → values_of name (given ++ option ∷ []) ≡ values_of name given ++ values_of name (option ∷ [])
values_behind name [] option = refl
values_behind name (first ∷ given) option = by_name (bytes_eq first.name name) (values_behind name given option)
  where
    by_name : (is : Bool) → values_of name (given ++ option ∷ []) ≡ values_of name given ++ values_of name (option ∷ [])
        → (if is then first.value ∷ values_of name (given ++ option ∷ []) else values_of name (given ++ option ∷ [])) ≡ (if is then first.value ∷ values_of name given else values_of name given) ++ values_of name (option ∷ [])
    by_name true same = ap (λ vs. first.value ∷ vs) same
    by_name false same = same

append_none : (values : List Word) → values ++ [] ≡ values
append_none [] = refl
append_none (value ∷ values) = ap (λ vs. value ∷ vs) (append_none values)

option_behind : (name : Word) (given : List GivenOption) (option : GivenOption) → few_values (values_of name (given ++ option ∷ [])) ≡ value_and name (few_values (values_of name given)) option
option_behind name given option = ap few_values (values_behind name given option) ∙ by_name (bytes_eq option.name name)
  where
    by_name : (is : Bool) → few_values (values_of name given ++ (if is then option.value ∷ [] else [])) ≡ (if is then one_more (few_values (values_of name given)) option.value else few_values (values_of name given))
    by_name true = value_behind (values_of name given) option.value
    by_name false = ap few_values (append_none (values_of name given))

-- what is found is that of the parts
module _ (rows : List OptionRow) (name : Word) where
  -- of the words behind
  abbrev IsFound : List Word → Type 0
  IsFound words = (due : Option Word) (parts : WordParts) → find_words rows name due (found_of name parts) words ≡ option_map (found_of name) (cut_words rows due parts words)

  with_given : (parts : WordParts) (option : GivenOption) → found_with name (found_of name parts) option ≡ found_of name (with_option parts option)
  with_given parts option = ap (λ v. record { positional = few_words parts.positional; value = v }) (sym (option_behind name parts.given option))

  with_more : (parts : WordParts) (words : List Word) → record { positional = all_and (few_words parts.positional) words; value = few_values (values_of name parts.given) } ≡ found_of name (with_positional parts words)
  with_more parts words = ap (λ few. record { positional = few; value = few_values (values_of name parts.given) }) (sym (all_behind parts.positional words))

  found_by : (what : WordUse) (word : Word) (words : List Word) (parts : WordParts) → IsFound words
      → find_by name what word words (found_of name parts) (λ due more. find_words rows name due more words) ≡ option_map (found_of name) (cut_by what word words parts (λ due more. cut_words rows due more words))
  found_by Separator word words parts same = ap (λ f. Some f) (with_more parts words)
  found_by Name word words parts same = same (Some word) parts
  found_by (Given option) word words parts same = ap (λ f. find_words rows name None f words) (with_given parts option) ∙ same None (with_option parts option)
  found_by Positional word words parts same = ap (λ f. find_words rows name None f words) (with_more parts (word ∷ [])) ∙ same None (with_positional parts (word ∷ []))
  found_by Dashed word words parts same = refl

  is_found : (words : List Word) → IsFound words
  is_found [] None parts = refl
  is_found [] (Some due) parts = refl
  is_found (value ∷ words) (Some due) parts =
      let option : GivenOption = record { name = due; value = value } in
      ap (λ f. find_words rows name None f words) (with_given parts option) ∙ is_found words None (with_option parts option)
  is_found (word ∷ words) None parts = found_by (use_of rows word) word words parts (is_found words)

-- the run of what is found

-- the number of an option by what is found of its values
number_same : (row : OptionRow) (values : List Word) → number_for row values ≡ number_found row (few_values values)
number_same row [] = refl
number_same row (value ∷ []) = refl
number_same row (value ∷ another ∷ values) = refl

-- the numbers of the options of `run`
abbrev numbers_of : Option (Option ℕ) → Option (Option ℕ) → Option (List (Option ℕ))
numbers_of steps answers = option_and_then (λ n. option_map (λ ns. n ∷ ns) (option_and_then (λ m. option_map (λ ms. m ∷ ms) (Some [])) answers)) steps

-- the run of positional words and of the numbers
abbrev run_by_parts : Bool → List Word → Option (Option ℕ) → Option (Option ℕ) → Option RunWords
run_by_parts are positional steps answers = option_and_then run_of (if are then option_map (λ numbers. record { words = positional; numbers = numbers }) (numbers_of steps answers) else None)

-- two positional words
with_two : (is_main : Bool) (file query : Word) (steps answers : Option (Option ℕ)) → run_by_parts (is_main && true) (file ∷ query ∷ []) steps answers ≡ (if is_main then run_numbered file query steps answers else None)
with_two true file query None answers = refl
with_two true file query (Some None) None = refl
with_two true file query (Some None) (Some limit) = refl
with_two true file query (Some (Some n)) None = refl
with_two true file query (Some (Some n)) (Some limit) = refl
with_two false file query steps answers = refl

false_behind : (b : Bool) → (b && false) ≡ false
false_behind true = refl
false_behind false = refl

-- another number of positional words
without_words : (are : Bool) (positional : List Word) (steps answers : Option (Option ℕ)) → are ≡ false → run_by_parts are positional steps answers ≡ None
without_words are positional steps answers is = ap (λ b. run_by_parts b positional steps answers) is

run_of_parts : (positional : List Word) (steps answers : FewValues)
    → run_by_parts (are_of_kinds run_row.kinds positional) positional (number_found steps_row steps) (number_found answers_row answers) ≡ run_found (few_words positional) steps answers
run_of_parts [] steps answers = refl
run_of_parts (file ∷ []) steps answers = without_words (is_main_file file && false) (file ∷ []) (number_found steps_row steps) (number_found answers_row answers) (false_behind (is_main_file file))
run_of_parts (file ∷ query ∷ []) steps answers = with_two (is_main_file file) file query (number_found steps_row steps) (number_found answers_row answers)
run_of_parts (file ∷ query ∷ another ∷ words) steps answers =
    without_words (is_main_file file && (true && false)) (file ∷ query ∷ another ∷ words) (number_found steps_row steps) (number_found answers_row answers) (false_behind (is_main_file file))

-- the run of what is found for `--steps` and for `--answers`
abbrev run_in : Option FoundWords → Option FoundWords → Option RunWords
run_in found limited = option_and_then (λ f. option_and_then (λ g. run_found f.positional f.value g.value) limited) found

run_of_cut : (parts : Option WordParts) → option_and_then run_of (option_and_then (accepted_parts run_row) parts) ≡ run_in (option_map (found_of steps_row.name) parts) (option_map (found_of answers_row.name) parts)
run_of_cut None = refl
run_of_cut (Some parts) =
    ap (λ n. run_by_parts (are_of_kinds run_row.kinds parts.positional) parts.positional n (number_for answers_row (values_of answers_row.name parts.given))) (number_same steps_row (values_of steps_row.name parts.given))
    ∙ ap (λ n. run_by_parts (are_of_kinds run_row.kinds parts.positional) parts.positional (number_found steps_row (few_values (values_of steps_row.name parts.given))) n) (number_same answers_row (values_of answers_row.name parts.given))
    ∙ run_of_parts parts.positional (few_values (values_of steps_row.name parts.given)) (few_values (values_of answers_row.name parts.given))

-- the run that words behind `run` are
pub run_is : (words : List Word)
    → run_by words run_row
    ≡ option_and_then (λ f. option_and_then (λ g. run_found f.positional f.value g.value) (find_words run_row.options answers_row.name None nothing_found words)) (find_words run_row.options steps_row.name None nothing_found words)
run_is words =
    run_of_cut (cut_words run_row.options None no_parts words)
    ∙ ap (λ f. run_in f (option_map (found_of answers_row.name) (cut_words run_row.options None no_parts words))) (sym (is_found run_row.options steps_row.name words None no_parts))
    ∙ ap (run_in (find_words run_row.options steps_row.name None nothing_found words)) (sym (is_found run_row.options answers_row.name words None no_parts))
