-- The words of the command line that are accepted.
use Rattle.std.specs.Prelude.{ℕ, Bool, true, false, ◌&&◌, List, [], ◌∷◌, nat_le, Option, Some, None, option_map, if◌then◌else◌, bytes_eq}
use Rattle.std.specs.Option.{option_and_then}
use Rattle.ciao_modules.specs.FileNames.{Word, is_main_file}
use Rattle.ciao_top.specs.Words.{number_of}
use Rattle.ciao_top.specs.WordsTable.{WordKind, MainFile, AnyText, OptionRow, CommandRow, command_table, row_named}
use Rattle.ciao_top.specs.WordsCut.{GivenOption, WordParts, no_parts, cut_words}

-- whether a word is of a kind
abbrev pub is_of_kind : WordKind → Word → Bool
is_of_kind MainFile word = is_main_file word
is_of_kind AnyText word = true

-- as many words as kinds, each of its kind
abbrev pub are_of_kinds : List WordKind → List Word → Bool
are_of_kinds [] [] = true
are_of_kinds [] (word ∷ words) = false
are_of_kinds (kind ∷ kinds) [] = false
are_of_kinds (kind ∷ kinds) (word ∷ words) = is_of_kind kind word && are_of_kinds kinds words

-- the values of an option, of those that are given
abbrev pub values_of : Word → List GivenOption → List Word
values_of name [] = []
values_of name (option ∷ given) = if bytes_eq option.name name then option.value ∷ values_of name given else values_of name given

-- the number that a word is, within the limits of an option
abbrev pub number_within : OptionRow → Word → Option ℕ
number_within row word = option_and_then (λ n. if nat_le row.least n then Some n else None) (number_of row.most word)

-- the number of an option that has these values: it stands at most once, and once where it is needed; the inner None is an option that does not stand
abbrev pub number_for : OptionRow → List Word → Option (Option ℕ)
number_for row [] = if row.is_needed then None else Some None
number_for row (value ∷ []) = option_map (λ n. Some n) (number_within row value)
number_for row (value ∷ another ∷ values) = None

-- the numbers of some options, in order
abbrev pub numbers_for : List OptionRow → List GivenOption → Option (List (Option ℕ))
numbers_for [] given = Some []
numbers_for (row ∷ rows) given = option_and_then (λ n. option_map (λ ns. n ∷ ns) (numbers_for rows given)) (number_for row (values_of row.name given))

-- accepted words: the positional ones, and the number of each option of the row
pub record AcceptedParts : Type 0 where
  pub words : List Word
  pub numbers : List (Option ℕ)

-- the parts, where a row accepts them
abbrev pub accepted_parts : CommandRow → WordParts → Option AcceptedParts
accepted_parts row parts =
    if are_of_kinds row.kinds parts.positional
    then option_map (λ numbers. record { words = parts.positional; numbers = numbers }) (numbers_for row.options parts.given)
    else None

-- the words behind a command, where its row accepts them
abbrev pub accepted_by : List Word → CommandRow → Option AcceptedParts
accepted_by words row = option_and_then (accepted_parts row) (cut_words row.options None no_parts words)

-- a run of a query of a file, with its bound and, where it is given, its answer limit
pub record RunWords : Type 0 where
  pub file : Word
  pub query : Word
  pub steps : ℕ
  pub answers : Option ℕ

-- the run of a file and a query, with a bound and perhaps an answer limit
abbrev pub run_with : List Word → List (Option ℕ) → Option RunWords
run_with (file ∷ query ∷ []) (Some steps ∷ answers ∷ []) = Some (record { file = file; query = query; steps = steps; answers = answers })
run_with words numbers = None

-- the run that accepted words are
abbrev pub run_of : AcceptedParts → Option RunWords
run_of accepted = run_with accepted.words accepted.numbers

-- the run that the words behind a command are, where its row accepts them
abbrev pub run_by : List Word → CommandRow → Option RunWords
run_by words row = option_and_then run_of (accepted_by words row)

-- the command of the words, none where they are not accepted: the first word is a command of the table, whose row accepts the others
abbrev pub AcceptedWords : List Word → Option RunWords
AcceptedWords [] = None
AcceptedWords (name ∷ words) = option_and_then (run_by words) (row_named command_table name)
