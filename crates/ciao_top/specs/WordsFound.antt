-- What is found in words that are cut, with no list of their parts.
-- The headline does not rest on this file.
use Rattle.std.specs.Prelude.{ℕ, List, [], ◌∷◌, Option, Some, None, option_map, if◌then◌else◌, bytes_eq}
use Rattle.ciao_modules.specs.FileNames.{Word, is_main_file}
use Rattle.ciao_top.specs.WordsTable.{OptionRow, steps_row, answers_row}
use Rattle.ciao_top.specs.WordsCut.{GivenOption, WordParts, WordUse, Separator, Name, Given, Positional, Dashed, use_of}
use Rattle.ciao_top.specs.WordsAccepted.{values_of, number_within, RunWords}

-- words, up to two
pub data FewWords : Type 0 where
  no_words : FewWords
  one_word : Word → FewWords
  two_words : Word → Word → FewWords
  more_words : FewWords

-- values, up to one
pub data FewValues : Type 0 where
  no_value : FewValues
  one_value : Word → FewValues
  more_values : FewValues

-- what is found in words: those that stand by themselves, and the values of one option
pub record FoundWords : Type 0 where
  pub positional : FewWords
  pub value : FewValues

-- before the first word
abbrev pub nothing_found : FoundWords
nothing_found = record { positional = no_words; value = no_value }

-- a list of words so
abbrev pub few_words : List Word → FewWords
few_words [] = no_words
few_words (a ∷ []) = one_word a
few_words (a ∷ b ∷ []) = two_words a b
few_words (a ∷ b ∷ c ∷ words) = more_words

-- a list of values so
abbrev pub few_values : List Word → FewValues
few_values [] = no_value
few_values (a ∷ []) = one_value a
few_values (a ∷ b ∷ words) = more_values

-- the parts of words so, with the values of the option of this name
abbrev pub found_of : Word → WordParts → FoundWords
found_of name parts = record { positional = few_words parts.positional; value = few_values (values_of name parts.given) }

-- and then a word
abbrev pub few_and : FewWords → Word → FewWords
few_and no_words word = one_word word
few_and (one_word a) word = two_words a word
few_and (two_words a b) word = more_words
few_and more_words word = more_words

-- and then each of some words
abbrev pub all_and : FewWords → List Word → FewWords
all_and few [] = few
all_and few (word ∷ words) = all_and (few_and few word) words

-- and then a value
abbrev pub one_more : FewValues → Word → FewValues
one_more no_value word = one_value word
one_more (one_value a) word = more_values
one_more more_values word = more_values

-- and then an option that is given
abbrev pub value_and : Word → FewValues → GivenOption → FewValues
value_and name value option = if bytes_eq option.name name then one_more value option.value else value

-- what is found, and then an option that is given
abbrev pub found_with : Word → FoundWords → GivenOption → FoundWords
found_with name found option = record { positional = found.positional; value = value_and name found.value option }

-- as `cut_by` and `cut_words`
abbrev pub find_by : Word → WordUse → Word → List Word → FoundWords → (Option Word → FoundWords → Option FoundWords) → Option FoundWords
find_by name Separator word words found go_on = Some (record { positional = all_and found.positional words; value = found.value })
find_by name Name word words found go_on = go_on (Some word) found
find_by name (Given option) word words found go_on = go_on None (found_with name found option)
find_by name Positional word words found go_on = go_on None (record { positional = few_and found.positional word; value = found.value })
find_by name Dashed word words found go_on = None

-- what is found in words, where an option may be waiting for its value; none where they are not cut
abbrev pub find_words : List OptionRow → Word → Option Word → FoundWords → List Word → Option FoundWords
find_words rows name None found [] = Some found
find_words rows name (Some due) found [] = None
find_words rows name (Some due) found (value ∷ words) = find_words rows name None (found_with name found (record { name = due; value = value })) words
find_words rows name None found (word ∷ words) = find_by name (use_of rows word) word words found (λ due more. find_words rows name due more words)

-- the number of an option of which these values are found; the inner None is an option that does not stand
abbrev pub number_found : OptionRow → FewValues → Option (Option ℕ)
number_found row no_value = if row.is_needed then None else Some None
number_found row (one_value value) = option_map (λ n. Some n) (number_within row value)
number_found row more_values = None

-- the run of a file and a query, with the numbers of `--steps` and of `--answers`
abbrev pub run_numbered : Word → Word → Option (Option ℕ) → Option (Option ℕ) → Option RunWords
run_numbered file query (Some (Some steps)) (Some answers) = Some (record { file = file; query = query; steps = steps; answers = answers })
run_numbered file query steps answers = None

-- the run of what is found: the positional words, and the values of `--steps` and of `--answers`
abbrev pub run_found : FewWords → FewValues → FewValues → Option RunWords
run_found (two_words file query) steps answers = if is_main_file file then run_numbered file query (number_found steps_row steps) (number_found answers_row answers) else None
run_found few steps answers = None
