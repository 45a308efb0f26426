-- What files and a sink in memory hold.
-- The headline does not rest on this file.
use Rattle.std.specs.Prelude.{ℕ, Bool, true, false, nat_eq, List, [], ◌∷◌, Option, Some, None, if◌then◌else◌, bytes_eq}
use Rattle.std.specs.List.{list_any}
use Rattle.byte_io.specs.Outside.{Held, FileRead}
use Rattle.byte_io.specs.declared.memory.Stored.{Stored}
use Rattle.byte_io.specs.declared.memory.MemFiles.{MemFiles}
use Rattle.byte_io.specs.declared.memory.MemSink.{MemSink}

-- the first, or the second where there is none
abbrev pub or_else : Option (List ℕ) → Option (List ℕ) → Option (List ℕ)
or_else None second = second
or_else (Some first) second = Some first

-- the bytes of the last entry of that name
abbrev pub content_in : List Stored → List ℕ → Option (List ℕ)
content_in [] name = None
content_in (entry ∷ rest) name = or_else (content_in rest name) (if bytes_eq entry.name.items name then Some entry.bytes.items else None)

-- the files that are there
abbrev pub files_held : MemFiles → Held
files_held m name = content_in m.stored.items name

-- the same files and one more, in place of an older one of its name
abbrev pub with_file : Held → List ℕ → List ℕ → Held
with_file files name bytes asked = if bytes_eq name asked then Some bytes else files asked

-- how often a read has failed
abbrev pub files_faults : MemFiles → ℕ
files_faults m = m.faults

-- the numbers of the reads that fail
abbrev pub files_failing : MemFiles → List ℕ
files_failing m = m.failing.items

-- how many reads there were
abbrev pub files_calls : MemFiles → ℕ
files_calls m = m.calls

-- the reads that were made
abbrev pub files_reads : MemFiles → List FileRead
files_reads m = m.reads.list

-- the bytes written
abbrev pub sink_taken : MemSink → List ℕ
sink_taken m = m.taken.items

-- the most that one write takes
abbrev pub sink_limit : MemSink → ℕ
sink_limit m = m.piece_limit

-- how often a write has failed
abbrev pub sink_faults : MemSink → ℕ
sink_faults m = m.faults

-- the numbers of the writes that fail
abbrev pub sink_failing : MemSink → List ℕ
sink_failing m = m.failing.items

-- how many writes there were
abbrev pub sink_calls : MemSink → ℕ
sink_calls m = m.calls

-- whether a call's number is among those that fail
abbrev pub is_listed : List ℕ → ℕ → Bool
is_listed calls call = list_any (λ listed. nat_eq listed call) calls

-- whether no call is listed as one that fails
abbrev pub none_fails : List ℕ → Bool
none_fails [] = true
none_fails (call ∷ calls) = false
