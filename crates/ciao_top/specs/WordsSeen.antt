-- What the code holds of a command line, as the definitions see it.
-- The headline does not rest on this file.
use Rattle.ciao_top.specs.WordsTable.{OptionRow}
use Rattle.ciao_top.specs.WordsCut.{GivenOption, WordUse, Separator, Name, Given, Positional, Dashed}
use Rattle.ciao_top.specs.WordsFound.{FewWords, no_words, one_word, two_words, more_words, FewValues, no_value, one_value, more_values, FoundWords}
use Rattle.ciao_top.specs.declared.words.cutting.OptionRow as option_row
use Rattle.ciao_top.specs.declared.words.cutting.GivenOption as given_option
use Rattle.ciao_top.specs.declared.words.cutting.WordUse as word_use
use Rattle.ciao_top.specs.declared.words.cutting.WordUse.TheVariants as use_held
use Rattle.ciao_top.specs.declared.words.cutting.FewWords as words_held
use Rattle.ciao_top.specs.declared.words.cutting.FewWords.TheVariants as few_held
use Rattle.ciao_top.specs.declared.words.cutting.FewValues as values_held
use Rattle.ciao_top.specs.declared.words.cutting.FewValues.TheVariants as value_held
use Rattle.ciao_top.specs.declared.words.cutting.FoundWords as found_held

-- a row of the table of options
abbrev pub option_seen : option_row.OptionRow → OptionRow
option_seen row = record { name = row.name.now; least = row.least; most = row.most; is_needed = row.is_needed }

-- an option that is given
abbrev pub given_seen : given_option.GivenOption → GivenOption
given_seen option = record { name = option.name.now; value = option.value.now }

-- what a word is used as
abbrev pub use_seen : word_use.WordUse → WordUse
use_seen use_held.Separator = Separator
use_seen use_held.Name = Name
use_seen (use_held.Given option) = Given (given_seen option)
use_seen use_held.Positional = Positional
use_seen use_held.Dashed = Dashed

-- words, up to two
abbrev pub few_seen : words_held.FewWords → FewWords
few_seen few_held.Nothing = no_words
few_seen (few_held.One word) = one_word word.now
few_seen (few_held.Two first second) = two_words first.now second.now
few_seen few_held.More = more_words

-- values, up to one
abbrev pub value_seen : values_held.FewValues → FewValues
value_seen value_held.Nothing = no_value
value_seen (value_held.One word) = one_value word.now
value_seen value_held.More = more_values

-- what is found
abbrev pub found_seen : found_held.FoundWords → FoundWords
found_seen found = record { positional = few_seen found.positional; value = value_seen found.value }
