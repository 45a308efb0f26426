-- What the inner functions of the tool answer.
-- The headline does not rest on this file.
use Rattle.std.specs.Prelude.{◌≡◌, ◌⊎◌, ◌≤◌, ℕ, ◌-◌, ◌==◌, ⊤, Bool, true, false, List, [], ◌∷◌, ◌++◌, map, length, take, Option, Some, None, Result, IfSome, bytes_eq}
use Rattle.std.specs.List.{IsDistinct}
use Rattle.byte_io.specs.Outside.{Held, FileRead, StaysSteady}
use Rattle.term_core.specs.Names.{fixed_names, name_text}
use Rattle.term_core.specs.Ranges.{has_names}
use Rattle.term_core.specs.declared.terms.Term.{Term}
use Rattle.term_core.specs.declared.operators.Operators.{Operators}
use Rattle.ciao_reader.specs.declared.sentences.ReadFault.{ReadFault}
use Rattle.ciao_reader.specs.declared.sentences.ReadFault.TheVariants as read
use Rattle.prog_data.specs.declared.programs.Program.{Program}
use Rattle.prog_data.specs.declared.events.Event.{Event}
use Rattle.prog_data.specs.declared.events.Event.TheVariants.{Out, Answer, End, Broken}
use Rattle.prog_data.specs.declared.events.Ending.{Ending}
use Rattle.prog_data.specs.declared.refusals.Refusal.{Refusal}
use Rattle.prog_data.specs.Goals.{called_by}
use Rattle.prog_data.specs.Programs as programs
use Rattle.machine_model.specs.Tests.{every_condition}
use Rattle.machine_model.specs.Continues.{Left, Continues, Leads}
use Rattle.run_report.specs.Refusals.{refusal_text}
use Rattle.run_report.specs.RunText.{ending_status}
use Rattle.ciao_modules.specs.FileNames.{Word, folder_of}
use Rattle.ciao_modules.specs.LoadReads.{Agree, new_reads, AreLoadReads, IsLastFailed}
use Rattle.ciao_modules.specs.declared.units.Unit.{Unit}
use Rattle.ciao_modules.specs.declared.units.LoadFault.{LoadFault}
use Rattle.ciao_modules.specs.declared.units.LoadFault.TheVariants as load
use Rattle.program_link.specs.Linked as link
use Rattle.ciao_top.specs.WordsAccepted.{RunWords}
use Rattle.ciao_top.specs.declared.words.RunCommand.{RunCommand}
use Rattle.ciao_top.specs.declared.runs.Following.{Following}
use Rattle.ciao_top.specs.declared.runs.Following.TheVariants as following
use Rattle.ciao_top.specs.declared.stops.Reason.{Reason}
use Rattle.ciao_top.specs.declared.stops.Reason.TheVariants as reason
use Rattle.ciao_top.specs.declared.stops.Stop.{Stop}
use Rattle.ciao_top.specs.declared.stops.Stop.TheVariants as stop
use Rattle.ciao_top.specs.FileSets.{IsReached}
use Rattle.ciao_top.specs.Limits.{LimitedText, limited_status}
use Rattle.ciao_top.specs.Queries.{main_operators, IsQuery, query_meets_entry}
use Rattle.ciao_top.specs.Refused.{CommandRefused}
use Rattle.ciao_top.specs.Answers.{IsPrefix, Output, with_piece}

-- a command as the code has it
abbrev pub run_words : RunCommand → RunWords
run_words command = record { file = command.file.now; query = command.query.now; steps = command.steps; answers = command.answers }

-- a sink, or the files, go on: the count of faults did not fall, and it is as before where no call fails but for want of memory
pub record DeviceGoesOn (was is : Bool) (before now : ℕ) : Type 0 where
  pub later : before ≤ now
  pub steady : StaysSteady was is before now

-- why there is no program or query

-- the line of a refusal, over these names; memory may be refused at any
abbrev pub RefusalStops : List Word → Refusal → Stop → Type 0
RefusalStops names refusal (stop.Refused (reason.OfFiles line)) = line ≡ refusal_text names refusal
RefusalStops names refusal stop.NoMemory = ⊤
RefusalStops names refusal other = ⊥

-- the name of a file that could not be read
abbrev pub FailedStops : List Word → ℕ → Stop → Type 0
FailedStops names file (stop.Unreadable name) = name ≡ name_text names file
FailedStops names file stop.NoMemory = ⊤
FailedStops names file other = ⊥

-- why files are not loaded
abbrev pub LoadStops : List Word → LoadFault → Stop → Type 0
LoadStops names (load.Refused refusal) s = RefusalStops names refusal s
LoadStops names (load.Failed file) s = FailedStops names file s
LoadStops names load.NoMemory s = s ≡ stop.NoMemory

-- why units are not linked
abbrev pub LinkStops : List Word → List Unit → Stop → Type 0
LinkStops names units (stop.Refused (reason.OfFiles line)) = (refusal : Refusal) × (link.linked names units ≡ link.Refused refusal) × (line ≡ refusal_text names refusal)
LinkStops names units stop.NoMemory = ⊤
LinkStops names units other = ⊥

-- a text is this query of a program that has these operators, with whose names the program is this one
pub record HasQueryOf (before : Program) (ops : Operators) (text : Word) (program : Program) (query : Term) : Type 0 where
  pub names : List Word
  pub read : IsQuery ops before.names text names query
  pub program_is : program ≡ programs.with_names names before

-- whether memory was refused
abbrev pub wants_memory : ReadFault → Bool
wants_memory read.NoMemory = true
wants_memory other = false

-- a query is not to be run: it calls no exported predicate, or it meets no entry
abbrev pub CallFaults : Program → Term → Reason → Type 0
CallFaults program query reason.QueryNotExported = called_by program query ≡ None
CallFaults program query reason.QueryNoEntry = (pred : ℕ) × (called_by program query ≡ Some pred) × (query_meets_entry program pred query ≡ false)
CallFaults program query other = ⊥

-- a text is no query, or one that is not to be run
abbrev pub QueryFaults : Program → Operators → Word → Reason → Type 0
QueryFaults before ops text reason.QueryUnread = (names : List Word) (query : Term) → IsQuery ops before.names text names query → ⊥
QueryFaults before ops text why = (program : Program) × (query : Term) × HasQueryOf before ops text program query × CallFaults program query why

-- or memory was refused
abbrev pub QueryStops : Program → Operators → Word → Stop → Type 0
QueryStops before ops text (stop.Refused why) = QueryFaults before ops text why
QueryStops before ops text (stop.Unreadable name) = ⊥
QueryStops before ops text stop.NoMemory = ⊤

-- units over these names have a program, of which a text is this query
pub record HasQueryIn (names : List Word) (units : List Unit) (text : Word) (program : Program) (query : Term) : Type 0 where
  pub before : Program
  pub linked_is : link.linked names units ≡ link.Linked before
  pub of : HasQueryOf before (main_operators units) text program query

-- they are not linked, or the text is no query that is to be run
abbrev pub UnitStops : List Word → List Unit → Word → Stop → Type 0
UnitStops names units text s = LinkStops names units s ⊎ ((before : Program) × (link.linked names units ≡ link.Linked before) × QueryStops before (main_operators units) text s)

-- why a command is not run: for all files that agree with the reads it is refused so, or a read failed
abbrev pub Stops : RunWords → List FileRead → Type 0 → Stop → Type 0
Stops command reads reading (stop.Refused why) = (files : Held) → Agree reads files → CommandRefused files command why
Stops command reads reading (stop.Unreadable name) =
    reading × IsLastFailed (folder_of command.file ++ name) reads × ((files : Held) → Agree reads files → IsReached files command name)
Stops command reads reading stop.NoMemory = ⊤

-- a program with a query, in range and as the linker makes it
pub record IsPrepared (program : Program) (query : Term) : Type 0 where
  pub range : programs.IsProgram program
  pub linked : programs.IsLinked program
  pub named : has_names (length program.names) query ≡ true

-- the reads of a command: those of its load, no two of one file, with which some files agree, and those that are told
pub record CommandReads (held : Option Held) (command : RunWords) (old new : List FileRead) : Type 0 where
  pub follow : new ≡ old ++ new_reads old new
  pub order : (files : Held) → Agree (new_reads old new) files → (result : Result (List Unit) LoadFault) × AreLoadReads files command.file fixed_names result (new_reads old new)
  pub once : IsDistinct bytes_eq (map (λ read. read.name) (new_reads old new))
  pub files : Held
  pub agree : Agree (new_reads old new) files
  pub told_agree : IfSome held (Agree (new_reads old new))

-- what is written

-- the definition of just this text with this status
abbrev pub Only : Word → ℕ → Word → ℕ → Type 0
Only text status text' status' = (text' ≡ text) × (status' ≡ status)

-- some prefix of the text was written and nothing else
abbrev pub GrewByFront : Output → Output → Word → Type 0
GrewByFront old new text = (count : ℕ) × (new ≡ with_piece old (take count text))

-- what was written begins each text that the definition has
pub record HasBegun (defined : Word → ℕ → Type 0) (old new : Output) : Type 0 where
  pub piece : Word
  pub begins : (text : Word) (status : ℕ) → defined text status → IsPrefix piece text
  pub grew : new ≡ with_piece old piece

-- how an answer comes out: as a defined text with its status, or as a prefix of it after a fault of the sink or want of memory
pub data Comes (defined : Word → ℕ → Type 0) (writing : Type 0) (old new : Output) (result : ℕ) : Type 0 where
  Whole : (text : Word) → defined text result → new ≡ with_piece old text → Comes defined writing old new result
  SinkFailed : result ≡ 8 → writing → HasBegun defined old new → Comes defined writing old new result
  MemoryWanted : result ≡ 9 → HasBegun defined old new → Comes defined writing old new result

-- a piece was written: what is defined before it is the piece and what is defined after it
pub record HasWritten (before after : Word → ℕ → Type 0) (old new : Output) : Type 0 where
  pub piece : Word
  pub grew : new ≡ with_piece old piece
  pub forth : (text : Word) (status : ℕ) → after text status → before (piece ++ text) status
  pub back : (text : Word) (status : ℕ) → before text status → (rest : Word) × (text ≡ piece ++ rest) × after rest status

-- runs

-- the status with which an event ends a run
abbrev pub event_status : Event → Option ℕ
event_status (Out text) = None
event_status (Answer query) = None
event_status (End e) = Some (ending_status e)
event_status (Broken c) = None

-- how many answers may still be told behind an event, of so many
abbrev pub count_behind : Event → ℕ → ℕ
count_behind (Answer query) count = count - 1
count_behind other count = count

-- the same, where they are limited
abbrev pub limit_behind : Event → Option ℕ → Option ℕ
limit_behind event None = None
limit_behind event (Some count) = Some (count_behind event count)

-- whether no answer may be told any more
abbrev pub is_reached : Option ℕ → Bool
is_reached None = false
is_reached (Some count) = count == 0

-- what comes behind an event that was written
abbrev pub behind_status : Event → Option ℕ → Option ℕ → Following
behind_status event limit None = following.GoesOn (limit_behind event limit)
behind_status event limit (Some status) = following.Ends status

abbrev pub behind_event : Event → Option ℕ → Following
behind_event event limit = behind_status event limit (event_status event)

-- what a run tells from a phase on, with so many answers that may be told: the text of the events that are left, and the status
pub record RunTells (program : Program) (bound : ℕ) (limit : Option ℕ) (left : Option Left) (text : Word) (status : ℕ) : Type 0 where
  pub now : Left
  pub is_now : left ≡ Some now
  pub events : List Event
  pub tests : ℕ
  pub ending : Ending
  pub continues : Continues (every_condition program) program bound now events tests ending
  pub text_is : text ≡ LimitedText program limit events ending
  pub status_is : status ≡ limited_status limit events ending

-- the run told an event and goes on
pub record GoesOn (program : Program) (bound : ℕ) (old new : Option Left) : Type 0 where
  pub before : Left
  pub after : Left
  pub event : Event
  pub was : old ≡ Some before
  pub is : new ≡ Some after
  pub made : ℕ
  pub tells : Leads (every_condition program) program bound before (event ∷ []) made after

-- what was written behind an event: the run goes on with so many answers that may be told, or it ends with this status
abbrev pub IsBehind : Program → ℕ → Option ℕ → (old new : Option Left) → Type 0 → (before after : Output) → Following → Type 0
IsBehind program bound limit old new writing before after (following.GoesOn more) = HasWritten (RunTells program bound limit old) (RunTells program bound more new) before after
IsBehind program bound limit old new writing before after (following.Ends status) = Comes (RunTells program bound limit old) writing before after status

-- where it goes on it told an event
abbrev pub GoesBehind : Program → ℕ → (old new : Option Left) → Following → Type 0
GoesBehind program bound old new (following.GoesOn more) = GoesOn program bound old new
GoesBehind program bound old new (following.Ends status) = ⊤
