-- The table of the commands: their positional words and their options.
use Rattle.std.specs.Prelude.{ℕ, ◌-◌, ◌^◌, Bool, true, false, List, [], ◌∷◌, Option, Some, None, if◌then◌else◌, bytes_eq, codes}
use Rattle.ciao_modules.specs.FileNames.{Word}

-- what a positional word is
pub data WordKind : Type 0 where
  MainFile : WordKind
  AnyText : WordKind

-- an option: its name, the limits of the number that is its value, and whether it has to stand
pub record OptionRow : Type 0 where
  pub name : Word
  pub least : ℕ
  pub most : ℕ
  pub is_needed : Bool

-- a command: its name, what its positional words are, in order, and its options
pub record CommandRow : Type 0 where
  pub name : Word
  pub kinds : List WordKind
  pub options : List OptionRow

-- `--steps N`
abbrev pub steps_row : OptionRow
steps_row = record { name = codes "--steps"; least = 0; most = 2 ^ 63 - 1; is_needed = true }

-- `--answers K`
abbrev pub answers_row : OptionRow
answers_row = record { name = codes "--answers"; least = 1; most = 2 ^ 63 - 1; is_needed = false }

-- `run FILE QUERY --steps N [--answers K]`
abbrev pub run_row : CommandRow
run_row = record { name = codes "run"; kinds = MainFile ∷ AnyText ∷ []; options = steps_row ∷ answers_row ∷ [] }

-- the commands
abbrev pub command_table : List CommandRow
command_table = run_row ∷ []

-- the row of a command
abbrev pub row_named : List CommandRow → Word → Option CommandRow
row_named [] name = None
row_named (row ∷ rows) name = if bytes_eq row.name name then Some row else row_named rows name
