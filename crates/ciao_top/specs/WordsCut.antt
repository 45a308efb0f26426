-- How the words behind a command are cut into positional words and options with their values.
use Rattle.std.specs.Prelude.{◌==◌, Bool, ◌&&◌, nat_le, List, [], ◌∷◌, ◌++◌, slice_index_or, length, take, drop, Option, Some, None, if◌then◌else◌, bytes_eq, codes}
use Rattle.std.specs.List.{list_any}
use Rattle.std.specs.Str.{byte}
use Rattle.ciao_modules.specs.FileNames.{Word}
use Rattle.ciao_top.specs.WordsTable.{OptionRow}

-- an option that is given: its name and its value
pub record GivenOption : Type 0 where
  pub name : Word
  pub value : Word

-- the positional words, and the options that are given, each in order
pub record WordParts : Type 0 where
  pub positional : List Word
  pub given : List GivenOption

-- nothing so far
abbrev pub no_parts : WordParts
no_parts = record { positional = []; given = [] }

-- with these words behind the positional ones
abbrev pub with_positional : WordParts → List Word → WordParts
with_positional parts words = record parts { positional = parts.positional ++ words }

-- with this option behind those that are given
abbrev pub with_option : WordParts → GivenOption → WordParts
with_option parts option = record parts { given = parts.given ++ option ∷ [] }

-- what a word is, where no `--` stands before it and no option takes it as its value
pub data WordUse : Type 0 where
  -- `--`
  Separator : WordUse
  -- the name of an option, `--x`, which takes the next word as its value
  Name : WordUse
  -- an option with its value, `--x=v`
  Given : GivenOption → WordUse
  -- another word of two bytes or more that begins with `-`, which is refused
  Dashed : WordUse
  Positional : WordUse

-- what stands behind a front, where the word begins with it
abbrev pub behind_front : Word → Word → Option Word
behind_front front word = if bytes_eq (take (length front) word) front then Some (drop (length front) word) else None

-- what stands behind `=`
abbrev pub behind_equals : Option Word → Option Word
behind_equals (Some (c ∷ value)) = if c == byte "=" then Some value else None
behind_equals other = None

-- an option with its value, where there is one, or else the other
abbrev pub given_or : Word → Option Word → WordUse → WordUse
given_or name (Some value) other = Given (record { name = name; value = value })
given_or name None other = other

-- an option with its value, of these options, or else the other
abbrev pub given_of : List OptionRow → Word → WordUse → WordUse
given_of [] word other = other
given_of (row ∷ rows) word other = given_or row.name (behind_equals (behind_front row.name word)) (given_of rows word other)

-- two bytes or more that begin with `-`
abbrev pub is_dashed : Word → Bool
is_dashed word = nat_le 2 (length word) && (slice_index_or word 0 0 == byte "-")

-- what a word is, for a command with these options
abbrev pub use_of : List OptionRow → Word → WordUse
use_of rows word =
    if bytes_eq word (codes "--") then Separator else
    if list_any (λ row. bytes_eq row.name word) rows then Name else
    given_of rows word (if is_dashed word then Dashed else Positional)

-- the parts of a word and of those behind it; `go_on` cuts these, with the option that takes the first of them and the parts before them
abbrev pub cut_by : WordUse → Word → List Word → WordParts → (Option Word → WordParts → Option WordParts) → Option WordParts
cut_by Separator word words parts go_on = Some (with_positional parts words)
cut_by Name word words parts go_on = go_on (Some word) parts
cut_by (Given option) word words parts go_on = go_on None (with_option parts option)
cut_by Positional word words parts go_on = go_on None (with_positional parts (word ∷ []))
cut_by Dashed word words parts go_on = None

-- the parts of words, behind those of the words before them; `due` is the option that takes the next word as its value
abbrev pub cut_words : List OptionRow → Option Word → WordParts → List Word → Option WordParts
cut_words rows None parts [] = Some parts
cut_words rows (Some due) parts [] = None
cut_words rows (Some due) parts (value ∷ words) = cut_words rows None (with_option parts (record { name = due; value = value })) words
cut_words rows None parts (word ∷ words) = cut_by (use_of rows word) word words parts (λ due more. cut_words rows due more words)
