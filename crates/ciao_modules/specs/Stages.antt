-- What parts of the load answer, and how far the queue can grow.
-- The headline does not rest on this file.
use Rattle.std.specs.Prelude.{⊤, ◌≡◌, ◌<◌, ◌≤◌, ◌⊎◌, ℕ, ◌+◌, ◌-◌, List, [], ◌∷◌, ◌++◌, map, length, take, Option, Some, option_map, Result, Ok, Err, IfOk, IfSome, if◌then◌else◌}
use Rattle.std.specs.List.{AllByRecursion, IsDistinct}
use Rattle.byte_io.specs.Outside.{Held, FileRead}
use Rattle.byte_io.specs.declared.files.FilesFault.{FilesFault}
use Rattle.byte_io.specs.declared.files.FilesFault.TheVariants as files_fault
use Rattle.term_core.specs.Names.{name_text}
use Rattle.term_core.specs.Lists.{IsPrefix}
use Rattle.ciao_modules.specs.FileNames.{Word}
use Rattle.ciao_modules.specs.Libraries.{library_text}
use Rattle.ciao_modules.specs.Queue.{same_module, is_queued, files_in, file_limit}
use Rattle.prog_data.specs.declared.refusals.RefusalKind.TheVariants.{FileTooLarge}
use Rattle.ciao_modules.specs.Loaded.{size_limit, content, module_file, refused_at, names_before, file_number, RefusesText, RefusesFile, Progress, RefusesOne, IsMemberFile}
use Rattle.ciao_reader.specs.Ranges.{IsSentenceInRange}
use Rattle.ciao_reader.specs.declared.sentences.Source.{Source}
use Rattle.ciao_modules.specs.FilesRead.{file_read}
use Rattle.ciao_modules.specs.declared.reading.FileOutcome.TheVariants as read
use Rattle.ciao_modules.specs.LoadReads.{Agree, most_read, IsLastFailed}
use Rattle.ciao_modules.specs.declared.libraries.Library.{Library}
use Rattle.ciao_modules.specs.declared.libraries.Library.TheVariants.{Lists, BasicProps, Write}
use Rattle.ciao_modules.specs.declared.units.LoadFault.{LoadFault}
use Rattle.ciao_modules.specs.declared.units.LoadFault.TheVariants as load
use Rattle.ciao_modules.specs.declared.queue.Module.{Module}
use Rattle.ciao_modules.specs.declared.queue.Module.TheVariants as module_of
use Rattle.ciao_modules.specs.declared.queue.Member.{Member}
use Rattle.ciao_modules.specs.declared.reading.LoadedFile.{LoadedFile}

-- 1 for a library that is not in the queue
abbrev pub unqueued : Library → List Member → ℕ
unqueued library queue = if is_queued (module_of.Library library) queue then 0 else 1

-- how many more modules there is room for
abbrev pub room : List Member → ℕ
room queue = (file_limit - files_in queue) + (unqueued Lists queue + (unqueued BasicProps queue + unqueued Write queue))

-- how long the queue can become
abbrev pub capacity : List Member → ℕ
capacity queue = room queue + length queue

-- reads

-- what is read of a module at a path, with its answer
abbrev pub reads_for : Word → Module → Result (Option Word) FilesFault → List FileRead
reads_for path (module_of.File name) answer = record { name = path; most = most_read; answer = answer } ∷ []
reads_for path (module_of.Library library) answer = []

-- what is given of a library is its text, but where memory is refused
abbrev pub IsTextOf : Module → Result (Option Word) FilesFault → Type 0
IsTextOf (module_of.File name) answer = ⊤
IsTextOf (module_of.Library library) (Ok given) = given ≡ Some (take most_read (library_text library))
IsTextOf (module_of.Library library) (Err files_fault.Failed) = ⊥
IsTextOf (module_of.Library library) (Err files_fault.NoMemory) = ⊤

-- what stands at a path was read with this answer
pub record IsReadOf (told : Option Held) (path : Word) (used : Module) (old new : List FileRead) (answer : Result (Option Word) FilesFault) : Type 0 where
  pub are : new ≡ old ++ reads_for path used answer
  pub library : IsTextOf used answer
  pub short : IfOk answer (λ given. IfSome given (λ bytes. length bytes ≤ most_read))
  pub agree : IfSome told (Agree (reads_for path used answer))

-- these are the first bytes of what stands at a path, or nothing stands there
abbrev pub IsFrontOf : Held → Word → Module → Option Word → Type 0
IsFrontOf held path used given = given ≡ option_map (take most_read) (content held path used)

-- a read as the load makes it: one byte more than a file may have is asked for, and no more are given
pub record IsAsked (read : FileRead) : Type 0 where
  pub most : read.most ≡ most_read
  pub short : IfOk read.answer (λ given. IfSome given (λ bytes. length bytes ≤ most_read))

-- a module's file was read
pub record WasRead (told : Option Held) (folder : Word) (names : List Word) (used : Module) (old new : List FileRead) : Type 0 where
  pub answer : Result (Option Word) FilesFault
  pub read : IsReadOf told (folder ++ module_file names used) used old new answer

-- it was read, but perhaps not where memory was refused
abbrev pub Asks : {A : Type 0} → Option Held → Word → List Word → Module → List FileRead → List FileRead → Result A LoadFault → Type 0
Asks told folder names used old new (Err load.NoMemory) = WasRead told folder names used old new ⊎ (new ≡ old)
Asks told folder names used old new other = WasRead told folder names used old new

-- a unit that was made of sentences in range, of a file whose name is known
pub record FromSource (names : List Word) (queue : List Member) (used : Module) (loaded : LoadedFile) : Type 0 where
  pub own : Word
  pub file : ℕ
  pub known : file < length names
  pub source : Source
  pub in_range : AllByRecursion (IsSentenceInRange (length names)) source.sentences
  pub is : file_read names used own file source queue ≡ read.Loaded loaded

-- queues in range

-- a module whose name is below a number; a library has none
abbrev pub IsModuleInRange : ℕ → Module → Type 0
IsModuleInRange names (module_of.File name) = name < names
IsModuleInRange names (module_of.Library library) = ⊤

-- a member of a queue whose module and place name what is below a number
pub record IsMemberInRange (names : ℕ) (member : Member) : Type 0 where
  pub used : IsModuleInRange names member.used
  pub place : member.place.file < names

-- a queue of distinct modules in range
pub record IsQueue (names : ℕ) (queue : List Member) : Type 0 where
  pub members : AllByRecursion (IsMemberInRange names) queue
  pub distinct : IsDistinct same_module (map (λ m. m.used) queue)

-- faults

-- a refusal is in this file
abbrev pub StopsIn : ℕ → LoadFault → Type 0
StopsIn file (load.Refused refusal) = refusal.place.file ≡ file
StopsIn file (load.Failed other) = ⊥
StopsIn file load.NoMemory = ⊤

module _ (names : List Word) (queue : List Member) (used : Module) (own : Word) (file : ℕ) (bytes : Word) where
  -- why a text gives no unit
  abbrev pub TextFails : LoadFault → Type 0
  TextFails (load.Refused refusal) = RefusesText names queue used own file bytes refusal
  TextFails (load.Failed other) = ⊥
  TextFails load.NoMemory = ⊤

  -- why they give none, where they are the first bytes of a file that may have too many
  abbrev pub FrontFails : LoadFault → Type 0
  FrontFails (load.Refused refusal) = (whole : Word) → bytes ≡ take most_read whole
      → ((size_limit < length whole) × (refusal ≡ refused_at file 0 FileTooLarge)) ⊎ ((length whole ≤ size_limit) × RefusesText names queue used own file whole refusal)
  FrontFails (load.Failed other) = ⊥
  FrontFails load.NoMemory = ⊤

-- why one file was not read, for all files that agree with its read
abbrev pub FileFails : List FileRead → Word → List Word → List Member → Member → List Word → Type 0 → LoadFault → Type 0
FileFails reads folder names queue member after reading (load.Refused refusal) =
    ((held : Held) → Agree reads held → RefusesFile held folder names queue member refusal) × IsPrefix (names_before names member.used) after
FileFails reads folder names queue member after reading (load.Failed file) =
    reading × (file ≡ file_number names member.used) × IsPrefix (names_before names member.used) after
FileFails reads folder names queue member after reading load.NoMemory = ⊤

-- the file that is told is that of the last read, which failed
abbrev pub TellsLast : List FileRead → Word → List Word → LoadFault → Type 0
TellsLast reads folder after (load.Refused refusal) = ⊤
TellsLast reads folder after (load.Failed file) = IsLastFailed (folder ++ name_text after file) reads
TellsLast reads folder after load.NoMemory = ⊤

-- why the load stops, from a progress on
abbrev pub FailsFrom : List FileRead → Word → Progress → List Word → Type 0 → LoadFault → Type 0
FailsFrom reads folder first after reading (load.Refused refusal) = (held : Held) → Agree reads held → RefusesOne held folder first after refusal
FailsFrom reads folder first after reading (load.Failed file) =
    reading × IsLastFailed (folder ++ name_text after file) reads × ((held : Held) → Agree reads held → IsMemberFile held folder first after file)
FailsFrom reads folder first after reading load.NoMemory = ⊤

-- the first progress with these names and this queue
abbrev pub progress_of : List Word → List Member → Progress
progress_of names queue = record { names = names; queue = queue; at = 0 }
