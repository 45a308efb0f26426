-- Why words and files are refused.
use Rattle.std.specs.Prelude.{◌≡◌, ℕ, false, List, Some, None}
use Rattle.byte_io.specs.Outside.{Held}
use Rattle.term_core.specs.Names.{fixed_names}
use Rattle.term_core.specs.declared.operators.Operators.{Operators}
use Rattle.term_core.specs.declared.terms.Term.{Term}
use Rattle.prog_data.specs.declared.programs.Program.{Program}
use Rattle.prog_data.specs.declared.refusals.Refusal.{Refusal}
use Rattle.prog_data.specs.Goals.{called_by}
use Rattle.ciao_modules.specs.FileNames.{Word}
use Rattle.ciao_modules.specs.Loaded.{Loaded, LoadRefused}
use Rattle.ciao_modules.specs.declared.units.Unit.{Unit}
use Rattle.program_link.specs.Linked as link
use Rattle.run_report.specs.Refusals.{refusal_text}
use Rattle.ciao_top.specs.FileSets.{HasProgram, HasQuery}
use Rattle.ciao_top.specs.Queries.{IsQuery, query_meets_entry}
use Rattle.ciao_top.specs.WordsAccepted.{RunWords, AcceptedWords}
use Rattle.ciao_top.specs.declared.stops.Reason.{Reason}
use Rattle.ciao_top.specs.declared.stops.Reason.TheVariants as reason

module _ (held : Held) (command : RunWords) where
  -- the files that are reached from the command's file are refused with this line: one cannot be loaded, or they cannot be linked
  pub data FilesRefused (line : Word) : Type 0 where
    NotLoaded : (names : List Word) (refusal : Refusal) → LoadRefused held command.file fixed_names names refusal → line ≡ refusal_text names refusal → FilesRefused line
    NotLinked : (names : List Word) (units : List Unit) (refusal : Refusal) → Loaded held command.file fixed_names names units → link.linked names units ≡ link.Refused refusal
        → line ≡ refusal_text names refusal → FilesRefused line

  -- the command is refused so, for the first of these reasons
  pub data CommandRefused : Reason → Type 0 where
    OfFiles : (line : Word) → FilesRefused line → CommandRefused (reason.OfFiles line)
    Unread : (program : Program) (ops : Operators) → HasProgram held command program ops → ((names : List Word) (query : Term) → IsQuery ops program.names command.query names query → ⊥) → CommandRefused reason.QueryUnread
    NotExported : (program : Program) (query : Term) → HasQuery held command program query → called_by program query ≡ None → CommandRefused reason.QueryNotExported
    NoEntry : (program : Program) (query : Term) → HasQuery held command program query → (pred : ℕ) → called_by program query ≡ Some pred → query_meets_entry program pred query ≡ false → CommandRefused reason.QueryNoEntry

-- Refuses: the files and the words are refused so
pub data Refuses (held : Held) (words : List Word) : Reason → Type 0 where
  NoCommand : AcceptedWords words ≡ None → Refuses held words reason.NoCommand
  OfCommand : (command : RunWords) → AcceptedWords words ≡ Some command → (why : Reason) → CommandRefused held command why → Refuses held words why
