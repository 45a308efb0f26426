-- What reads say of all files that agree with them.
use Rattle.std.proofs.Common.{◌≡◌, ◌≤◌, ◌<◌, inl, ℕ, false, List, [], ◌∷◌, ◌++◌, length, take, drop, map, Option, Some, None, refl, sym, ap, ◌∙◌, subst, arith}
use Rattle.std.specs.Prelude.{⊤, option_map, Result, Ok, Err, IfOk, IfSome, slice_get, if◌then◌else◌, bytes_eq}
use Rattle.std.specs.List.{AllByRecursion, IsDistinct}
use Rattle.std.proofs.lemmas.List.{append-nil, length-take, take_all}
use Rattle.std.proofs.lemmas.Slice.Eq.{bytes_eq-Decides}
use Rattle.std.proofs.Math.Seq.{drop-append_seam}
use Rattle.byte_io.specs.Outside.{Held, FileRead, Agrees, answer_of}
use Rattle.byte_io.specs.declared.files.FilesFault.{FilesFault}
use Rattle.byte_io.specs.declared.files.FilesFault.TheVariants as files_fault
use Rattle.ciao_modules.specs.FileNames.{Word}
use Rattle.ciao_modules.specs.Libraries.{library_text}
use Rattle.ciao_modules.specs.Loaded.{module_file}
use Rattle.ciao_modules.specs.LoadReads.{Agree, new_reads, most_read}
use Rattle.ciao_modules.specs.Stages.{IsFrontOf, IsAsked, IsReadOf, WasRead, Asks, StopsIn, TellsLast}
use Rattle.ciao_modules.specs.UnitRanges.{IsFaultInRange}
use Rattle.ciao_modules.specs.declared.units.LoadFault.{LoadFault}
use Rattle.ciao_modules.specs.declared.units.LoadFault.TheVariants as load
use Rattle.ciao_modules.proofs.Lists.{some_weaker}
use Rattle.ciao_modules.proofs.Paths.{text_got}
use Rattle.ciao_modules.specs.declared.libraries.Library.{Library}
use Rattle.ciao_modules.specs.declared.queue.Module.{Module}
use Rattle.ciao_modules.specs.declared.queue.Module.TheVariants as module_of

-- the reads that came after others
pub since : (old new more : List FileRead) → new ≡ old ++ more → new_reads old new ≡ more
since old new more e = ap (drop (length old)) e ∙ drop-append_seam old more

pub grown_by : (old new more : List FileRead) → new ≡ old ++ more → new ≡ old ++ new_reads old new
grown_by old new more e = e ∙ ap (λ reads. old ++ reads) (sym (since old new more e))

pub nothing_since : (old new : List FileRead) → new ≡ old → new ≡ old ++ []
nothing_since old new e = e ∙ sym (append-nil old)

some_nothing : (told : Option Held) → IfSome told (λ files. ⊤)
some_nothing None = tt
some_nothing (Some held) = tt

module _ (told : Option Held) (path : Word) where
  -- a file was read
  pub file_read_of : {V : Type 0} (items : V → Word) (name : ℕ) (old new : List FileRead) (result : Result (Option V) FilesFault)
      → new ≡ old ++ record { name = path; most = most_read; answer = answer_of items result } ∷ []
      → IfOk result (λ answer. IfSome answer (λ v. length (items v) ≤ most_read))
      → IfOk result (λ answer. IfSome told (λ files. option_map items answer ≡ option_map (take most_read) (files path)))
      → IsReadOf told path (module_of.File name) old new (answer_of items result)
  file_read_of items name old new (Ok (Some v)) are short agree = record { are = are; library = tt; short = short; agree = some_weaker _ _ told (λ files e. (e, tt)) agree }
  file_read_of items name old new (Ok None) are short agree = record { are = are; library = tt; short = tt; agree = some_weaker _ _ told (λ files e. (e, tt)) agree }
  file_read_of items name old new (Err fault) are short agree = record { are = are; library = tt; short = tt; agree = some_weaker _ _ told (λ files e. (tt, tt)) (some_nothing told) }

  short_take : (n : ℕ) (text : Word) → length (take n text) ≤ n
  short_take n text = omega (arith, length-take n text)

  -- a library is there without a read
  pub library_read_of : (library : Library) (old new : List FileRead) (bytes : Word) → new ≡ old → bytes ≡ take most_read (library_text library) → IsReadOf told path (module_of.Library library) old new (Ok (Some bytes))
  library_read_of library old new bytes e is = record {
    are = nothing_since old new e;
    library = ap Some is;
    short = subst (λ b. length b ≤ most_read) (sym is) (short_take most_read (library_text library));
    agree = some_nothing told;
  }

-- what was given is the front of what stands there, in all files that agree
pub front_of : (told : Option Held) (path : Word) (used : Module) (old new : List FileRead) (given : Option Word) → IsReadOf told path used old new (Ok given)
    → (held : Held) → Agree (new_reads old new) held → IsFrontOf held path used given
front_of told path (module_of.File name) old new given r held agree = (subst (λ reads. Agree reads held) (since old new _ r.are) agree).0
front_of told path (module_of.Library library) old new given r held agree = r.library

-- a read that failed is that of a file
pub failed_last : (told : Option Held) (folder path : Word) (names after : List Word) (used : Module) (file : ℕ) (text : Word) (old new : List FileRead) → IsReadOf told path used old new (Err files_fault.Failed)
    → path ≡ folder ++ module_file names used → text ≡ module_file names used → slice_get after file ≡ Some text → TellsLast (new_reads old new) folder after (load.Failed file)
failed_last told folder path names after (module_of.File name) file text old new r path_is text_is found = (
  [],
  since old new _ r.are
      ∙ ap (λ p. record { name = p; most = most_read; answer = Err files_fault.Failed } ∷ [])
      (path_is ∙ ap (λ t. folder ++ t) (sym (text_got after file text found ∙ text_is))),
)
failed_last told folder path names after (module_of.Library library) file text old new r path_is text_is found = absurd r.library

-- some files agree with reads of distinct names

-- what a read gave
abbrev given : Result (Option Word) FilesFault → Option Word
given (Ok found) = found
given (Err fault) = None

-- the files with that under its name
abbrev with_read : FileRead → Held → Held
with_read read held = λ name. if bytes_eq read.name name then given read.answer else held name

own_read : (read : FileRead) (held : Held) → with_read read held read.name ≡ given read.answer
own_read read held = ap (λ b. if b then given read.answer else held read.name) ((bytes_eq-Decides read.name read.name).1 refl)

other_read : (read : FileRead) (held : Held) (name : Word) → bytes_eq read.name name ≡ false → with_read read held name ≡ held name
other_read read held name e = ap (λ b. if b then given read.answer else held name) e

kept_bytes : (n : ℕ) (found : Option Word) → IfSome found (λ bytes. length bytes ≤ n) → found ≡ option_map (take n) found
kept_bytes n None le = refl
kept_bytes n (Some bytes) le = ap Some (sym (take_all n bytes le))

agrees_itself : (name : Word) (answer : Result (Option Word) FilesFault) (held : Held) → IfOk answer (λ given. IfSome given (λ bytes. length bytes ≤ most_read)) → held name ≡ given answer
    → IfOk answer (λ given. given ≡ option_map (take most_read) (held name))
agrees_itself name (Ok found) held short e = kept_bytes most_read found short ∙ ap (option_map (take most_read)) (sym e)
agrees_itself name (Err fault) held short e = tt

agrees_same : (read : FileRead) (held other : Held) → other read.name ≡ held read.name → Agrees held read → Agrees other read
agrees_same read held other e a = subst (λ found. IfOk read.answer (λ given. given ≡ option_map (take read.most) found)) (sym e) a

rest_agrees : (read : FileRead) (held : Held) (reads : List FileRead) → AllByRecursion (λ name. bytes_eq read.name name ≡ false) (map (λ r. r.name) reads) → Agree reads held → Agree reads (with_read read held)
rest_agrees read held [] other agree = tt
rest_agrees read held (r ∷ reads) other agree = (agrees_same r held (with_read read held) (other_read read held r.name other.0) agree.0, rest_agrees read held reads other.1 agree.1)

pub some_files : (reads : List FileRead) → IsDistinct bytes_eq (map (λ r. r.name) reads) → AllByRecursion IsAsked reads → (held : Held) × Agree reads held
unfolding IsDistinct
some_files [] once asked = ((λ name. None), tt)
some_files (r ∷ reads) once asked =
    let rest = some_files reads once.1 asked.1 in
    let held = with_read r rest.0 in
    let own = subst (λ n. IfOk r.answer (λ given. given ≡ option_map (take n) (held r.name))) (sym asked.0.most) (agrees_itself r.name r.answer held asked.0.short (own_read r rest.0)) in
    (held, (own, rest_agrees r rest.0 reads once.0 rest.1))

-- a module's file was read

module _ (told : Option Held) (folder : Word) (names : List Word) (used : Module) (old new : List FileRead) where
  pub was_read : (path : Word) (answer : Result (Option Word) FilesFault) → path ≡ folder ++ module_file names used → IsReadOf told path used old new answer → WasRead told folder names used old new
  was_read path answer e r = record { answer = answer; read = subst (λ p. IsReadOf told p used old new answer) e r }

  pub asks_any : {A : Type 0} (result : Result A LoadFault) → WasRead told folder names used old new → Asks told folder names used old new result
  asks_any (Ok x) w = w
  asks_any (Err (load.Refused refusal)) w = w
  asks_any (Err (load.Failed file)) w = w
  asks_any (Err load.NoMemory) w = inl w

-- a file whose text is refused was read
pub stops_told : (reads : List FileRead) (folder : Word) (after : List Word) (file : ℕ) (f : LoadFault) → StopsIn file f → TellsLast reads folder after f
stops_told reads folder after file (load.Refused refusal) w = tt
stops_told reads folder after file (load.Failed other) w = absurd w
stops_told reads folder after file load.NoMemory w = tt

pub stops_in_range : (n file : ℕ) → file < n → (f : LoadFault) → StopsIn file f → IsFaultInRange n f
stops_in_range n file lt (load.Refused refusal) w = subst (λ m. m < n) (sym w) lt
stops_in_range n file lt (load.Failed other) w = absurd w
stops_in_range n file lt load.NoMemory w = tt
