-- What the tool writes, and the status that it ends with.
use Rattle.std.specs.Prelude.{◌≡◌, ◌⊎◌, ℕ, ◌<◌, ◌≤◌, List, [], ◌++◌, map, take, Option, Some, None, Result, IfSome, bytes_eq}
use Rattle.std.specs.List.{IsDistinct}
use Rattle.byte_io.specs.Outside.{Held, FileRead, Rose, grown}
use Rattle.term_core.specs.Names.{fixed_names}
use Rattle.term_core.specs.declared.terms.Term.{Term}
use Rattle.prog_data.specs.declared.programs.Program.{Program}
use Rattle.ciao_modules.specs.FileNames.{Word, folder_of}
use Rattle.ciao_modules.specs.LoadReads.{Agree, AreLoadReads, IsLastFailed}
use Rattle.ciao_modules.specs.declared.units.Unit.{Unit}
use Rattle.ciao_modules.specs.declared.units.LoadFault.{LoadFault}
use Rattle.ciao_top.specs.WordsAccepted.{RunWords, AcceptedWords}
use Rattle.ciao_top.specs.declared.stops.Reason.{Reason}
use Rattle.ciao_top.specs.Queries.{MeetsEntry}
use Rattle.ciao_top.specs.FileSets.{HasQuery, IsReached}
use Rattle.ciao_top.specs.Refused.{Refuses}
use Rattle.ciao_top.specs.Limits.{RunAnswers}
use Rattle.ciao_top.specs.Lines.{reason_text, reason_status, read_fault}

-- Defined: the text and the status for these files and words. It knows of no call and no fault of a device.
pub data Defined (held : Held) (words : List Word) (text : Word) (status : ℕ) : Type 0 where
  Refused : (why : Reason) → Refuses held words why → text ≡ reason_text why → status ≡ reason_status why → Defined held words text status
  Runs : (command : RunWords) → AcceptedWords words ≡ Some command → (program : Program) (query : Term) → HasQuery held command program query → MeetsEntry program query
      → RunAnswers program query command.steps command.answers text status → Defined held words text status

-- what the files and the sink tell of a call

-- what a sink holds, where it tells it, and what its writes took
pub record Output : Type 0 where
  pub written : Option Word
  pub taken : Word

-- the two together
abbrev pub output_of : Option Word → Word → Output
output_of written taken = record { written = written; taken = taken }

-- and then a piece
abbrev pub with_piece : Output → Word → Output
with_piece old piece = record { written = grown old.written piece; taken = old.taken ++ piece }

-- the reads of a call for these words: none, or those of the load of the main file, in its order and up to where it ends, for all files that agree with them
pub data ReadsOnly (words : List Word) (reads : List FileRead) : Type 0 where
  Nothing : AcceptedWords words ≡ None → reads ≡ [] → ReadsOnly words reads
  OfLoad : (command : RunWords) → AcceptedWords words ≡ Some command
      → ((files : Held) → Agree reads files → (result : Result (List Unit) LoadFault) × AreLoadReads files command.file fixed_names result reads) → ReadsOnly words reads

-- the file of this name could not be read: the last of the reads is of it and failed, and in all files that agree with the reads it is reached
pub record IsUnread (words : List Word) (reads : List FileRead) (name : Word) : Type 0 where
  pub command : RunWords
  pub accepted : AcceptedWords words ≡ Some command
  pub last : IsLastFailed (folder_of command.file ++ name) reads
  pub reached : (files : Held) → Agree reads files → IsReached files command name

-- one text begins another
abbrev pub IsPrefix : Word → Word → Type 0
IsPrefix front all = (count : ℕ) × (front ≡ take count all)

-- what was written begins the defined text, or the line of a file that could not be read, where a read failed
abbrev pub CutShort : Held → List Word → List FileRead → Type 0 → Word → Type 0
CutShort held words reads reading piece =
    ((text : Word) (status : ℕ) → Defined held words text status → IsPrefix piece text)
    ⊎ (reading × ((name : Word) × IsUnread words reads name × IsPrefix piece (read_fault name)))

-- The contract of the tool. `held` is what the files hold, where they tell it, `reads` the reads that were made in the
-- call; `reading` and `writing` say that the count of faults of the files, of the sink, rose in the call; `old` and
-- `new` are what the sink tells before and after it.
pub record Answered (held : Option Held) (words : List Word) (reads : List FileRead) (reading writing : Type 0) (old new : Output) (status : ℕ) : Type 0 where
  pub statuses : status ≤ 9
  -- the words are refused exactly where they are not accepted, whatever the files
  pub refused : status ≡ 2 → AcceptedWords words ≡ None
  pub not_accepted : AcceptedWords words ≡ None → (status ≡ 2) ⊎ (8 ≤ status)
  -- the reads, of which no two are of one file
  pub reads_only : ReadsOnly words reads
  pub once : IsDistinct bytes_eq (map (λ read. read.name) reads)
  -- there are files that agree with them; those that are told do
  pub files : Held
  pub agree : Agree reads files
  pub told_agree : IfSome held (Agree reads)
  -- a fault of a device has its cause
  pub read : status ≡ 7 → reading
  pub write : status ≡ 8 → writing
  -- otherwise the text and the status are the defined ones, for all files that agree with the reads
  pub defined : status < 7 → (text : Word) × ((files : Held) → Agree reads files → Defined files words text status) × (new ≡ with_piece old text)
  -- the file that could not be read is named
  pub unread : status ≡ 7 → (name : Word) × IsUnread words reads name × (new ≡ with_piece old (read_fault name))
  -- after a fault of the sink, or want of memory, a prefix was written
  pub front : 8 ≤ status → (piece : Word) × ((files : Held) → Agree reads files → CutShort files words reads reading piece) × (new ≡ with_piece old piece)

-- the law that the definition has one answer
abbrev pub OneAnswer : Type 0
OneAnswer = (held : Held) (words : List Word) (text text' : Word) (status status' : ℕ) → Defined held words text status → Defined held words text' status' → (text ≡ text') × (status ≡ status')

-- the law that the definition is never without an answer
abbrev pub SomeAnswer : Type 0
SomeAnswer = (held : Held) (words : List Word) → ((text : Word) (status : ℕ) → Defined held words text status → ⊥) → ⊥

-- completeness: without a rise of a count the text and the status are the defined ones, or memory was wanted
abbrev pub Complete : List Word → List FileRead → Type 0 → Type 0 → Output → Output → ℕ → Type 0
Complete words reads reading writing old new status =
    (reading → ⊥) → (writing → ⊥)
    → (status ≡ 9) ⊎ ((text : Word) × ((files : Held) → Agree reads files → Defined files words text status) × (new ≡ with_piece old text))

-- the law that the contract of the tool is complete
abbrev pub Completeness : Type 0
Completeness = (held : Option Held) (words : List Word) (reads : List FileRead) (failed failed' refused refused' : ℕ) (old new : Output) (status : ℕ)
    → Answered held words reads (Rose failed failed') (Rose refused refused') old new status
    → Complete words reads (Rose failed failed') (Rose refused refused') old new status
