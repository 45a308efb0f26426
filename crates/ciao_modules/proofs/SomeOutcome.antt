-- A load has an outcome, since a text has one and the queue does not grow for ever.
use Rattle.std.proofs.Common.{◌≡◌, ◌⊎◌, inl, inr, ◌<◌, ◌≤◌, ◌+◌, ℕ, zero, suc, List, [], ◌∷◌, length, Option, Some, None, refl, subst, arith}
use Rattle.std.specs.Prelude.{slice_get}
use Rattle.std.proofs.lemmas.Bool.{cases_lt}
use Rattle.std.proofs.lemmas.Option.{slice_get_within}
use Rattle.byte_io.specs.Outside.{Held}
use Rattle.ciao_tokens.specs.declared.kinds.TextFault.TheVariants as text
use Rattle.ciao_reader.specs.Laws.{EveryText}
use Rattle.ciao_reader.specs.Sentences.{HasSentences}
use Rattle.ciao_reader.specs.Faults.{IsUnread, of_tokens, of_sentences}
use Rattle.ciao_reader.specs.declared.sentences.Source.{Source}
use Rattle.ciao_reader.specs.declared.sentences.ReadFault.{ReadFault}
use Rattle.ciao_reader.specs.declared.sentences.ReadFault.TheVariants as fault
use Rattle.prog_data.specs.declared.refusals.Refusal.{Refusal}
use Rattle.prog_data.specs.declared.refusals.RefusalKind.TheVariants as kind
use Rattle.ciao_modules.specs.FileNames.{Word, folder_of}
use Rattle.ciao_modules.specs.FilesRead.{file_read}
use Rattle.ciao_modules.specs.Loaded.{size_limit, names_before, file_number, module_name, refused_at, text_fault, bytes_of, ReadsText, RefusesText, Unread, Misdirected, ReadsFile, RefusesFile, Missing, TooLarge, Bad, Progress, LoadsTo, none, next, start, Loaded, LoadRefused}
use Rattle.ciao_modules.specs.Stages.{capacity}
use Rattle.ciao_modules.proofs.Capacity.{capacity_is}
use Rattle.ciao_modules.proofs.Lists.{prefix_same}
use Rattle.ciao_modules.proofs.Rounds.{queue_within}
use Rattle.ciao_modules.specs.declared.units.Unit.{Unit}
use Rattle.ciao_modules.specs.declared.units.LoadFault.TheVariants as load
use Rattle.ciao_modules.specs.declared.queue.Module.{Module}
use Rattle.ciao_modules.specs.declared.queue.Member.{Member}
use Rattle.ciao_modules.specs.declared.reading.LoadedFile.{LoadedFile}
use Rattle.ciao_modules.specs.declared.reading.FileOutcome.{FileOutcome}
use Rattle.ciao_modules.specs.declared.reading.FileOutcome.TheVariants as read

-- want of memory is no fault of a text
not_wanted : (bytes : Word) (before : List Word) → IsUnread bytes before fault.NoMemory → ⊥
not_wanted bytes before (of_tokens (text.NotUtf8 line) has is) = let no : ⊥ = cc in no
not_wanted bytes before (of_tokens (text.BadToken line) has is) = let no : ⊥ = cc in no
not_wanted bytes before (of_tokens (text.IntRange line) has is) = let no : ⊥ = cc in no
not_wanted bytes before (of_tokens text.NoMemory has is) = has
not_wanted bytes before (of_sentences after tokens has wrong) = wrong.fails.wrong

-- so a fault of a text is a refusal
refused_of : (bytes : Word) (before : List Word) (file : ℕ) (found : ReadFault) → IsUnread bytes before found → (refusal : Refusal) × (text_fault file found ≡ load.Refused refusal)
refused_of bytes before file (fault.NotUtf8 line) is = (refused_at file line kind.NotUtf8, refl)
refused_of bytes before file (fault.BadToken line) is = (refused_at file line kind.BadToken, refl)
refused_of bytes before file (fault.IntRange line) is = (refused_at file line kind.IntRange, refl)
refused_of bytes before file (fault.Syntax line) is = (refused_at file line kind.Syntax, refl)
refused_of bytes before file (fault.TooDeep line) is = (refused_at file line kind.TooDeep, refl)
refused_of bytes before file (fault.OpRefused line) is = (refused_at file line kind.OpRefused, refl)
refused_of bytes before file (fault.NoEnd line) is = (refused_at file line kind.NoEnd, refl)
refused_of bytes before file fault.NoMemory is = absurd (not_wanted bytes before is)

module _ (every_text : (bytes : Word) → EveryText bytes) where
  -- one text
  module _ (names : List Word) (queue : List Member) (used : Module) (own : Word) (file : ℕ) (bytes : Word) where
    some_text : ((after : List Word) (l : LoadedFile) → ReadsText names queue used own file bytes after l → ⊥) → ((r : Refusal) → RefusesText names queue used own file bytes r → ⊥) → ⊥
    some_text unread unrefused =
        every_text bytes names
        (λ after s has. by after s has (file_read after used own file s queue) refl)
        (λ found is. let r = refused_of bytes names file found is in unrefused r.0 (Unread found is r.1))
      where
        by : (after : List Word) (s : Source) → HasSentences bytes names after s → (o : FileOutcome) → file_read after used own file s queue ≡ o → ⊥
        by after s has (read.Loaded l) e = unread after l (record { source = s; reads = has; is = e })
        by after s has (read.Wrong w) e = unrefused (refused_at file w.line w.kind) (Misdirected after s has w e refl)

  module _ (held : Held) (folder : Word) where
    -- one file
    module _ (names : List Word) (queue : List Member) (member : Member) where
      same_capacity : (after : List Word) (l : LoadedFile) → ReadsFile held folder names queue member after l → capacity l.queue ≡ capacity queue
      same_capacity after l r = capacity_is after member.used (module_name names member.used) (file_number names member.used) r.reads.source queue l r.reads.is

      module _ (unread : (after : List Word) (l : LoadedFile) → ReadsFile held folder names queue member after l → ⊥) (unrefused : (r : Refusal) → RefusesFile held folder names queue member r → ⊥) where
        some_size : (bytes : Word) → bytes_of held folder names member.used ≡ Some bytes → (size_limit < length bytes) ⊎ (length bytes ≤ size_limit) → ⊥
        some_size bytes has (inl lt) = unrefused (refused_at (file_number names member.used) 0 kind.FileTooLarge) (TooLarge bytes has lt refl)
        some_size bytes has (inr le) =
            some_text (names_before names member.used) queue member.used (module_name names member.used) (file_number names member.used) bytes
            (λ after l r. unread after l (record { bytes = bytes; has = has; small = le; reads = r }))
            (λ r w. unrefused r (Bad bytes has le w))

        some_bytes : (o : Option Word) → bytes_of held folder names member.used ≡ o → ⊥
        some_bytes None e = unrefused (record { place = member.place; kind = kind.NoFile }) (Missing e refl)
        some_bytes (Some bytes) e = some_size bytes e (cases_lt size_limit (length bytes))

        some_file : ⊥
        some_file = some_bytes (bytes_of held folder names member.used) refl

    -- the queue

    -- from a progress on it is not so that the load does not come to the end, and not to a refusal
    abbrev Ends : Progress → Type 0
    Ends p =
        ((last : Progress) (units : List Unit) → LoadsTo held folder last p units → last.at ≡ p.at + length units → slice_get last.queue last.at ≡ None → ⊥)
        → ((reached : Progress) (m : Member) (units : List Unit) (r : Refusal) → LoadsTo held folder reached p units → slice_get reached.queue reached.at ≡ Some m → RefusesFile held folder reached.names reached.queue m r → ⊥) → ⊥

    at_last : (p : Progress) → slice_get p.queue p.at ≡ None → Ends p
    at_last p e ended refused = ended p [] (none refl) (omega arith) e

    one_more : (p : Progress) (m : Member) → slice_get p.queue p.at ≡ Some m
        → ((after : List Word) (l : LoadedFile) → ReadsFile held folder p.names p.queue m after l → Ends (record { names = after; queue = l.queue; at = suc p.at })) → Ends p
    one_more p m is rest ended refused =
        some_file p.names p.queue m
        (λ after l r. rest after l r
        (λ last units loads count end. ended last (l.unit ∷ units) (next m after l is r loads) (omega (arith, count)) end)
        (λ reached k units s loads comes w. refused reached k (l.unit ∷ units) s (next m after l is r loads) comes w))
        (λ s w. refused p m [] s (none refl) is w)

    some_step : (p : Progress) (o : Option Member) → slice_get p.queue p.at ≡ o
        → ((m : Member) → slice_get p.queue p.at ≡ Some m → (after : List Word) (l : LoadedFile) → ReadsFile held folder p.names p.queue m after l → Ends (record { names = after; queue = l.queue; at = suc p.at })) → Ends p
    some_step p None e rest = at_last p e
    some_step p (Some m) e rest = one_more p m e (rest m e)

    -- with room for so many more files
    some_end : (n : ℕ) (p : Progress) → capacity p.queue ≤ p.at + n → Ends p
    some_end zero p le = some_step p (slice_get p.queue p.at) refl (λ m is after l r. absurd (omega (arith, le, slice_get_within p.queue p.at m is, queue_within p.queue)))
    some_end (suc n) p le =
        some_step p (slice_get p.queue p.at) refl
        (λ m is after l r. some_end n (record { names = after; queue = l.queue; at = suc p.at }) (omega (arith, le, same_capacity p.names p.queue m after l r)))

  -- the load of a main file
  pub some_load : (held : Held) (main : Word) (before : List Word) → ((after : List Word) (units : List Unit) → Loaded held main before after units → ⊥) → ((after : List Word) (r : Refusal) → LoadRefused held main before after r → ⊥) → ⊥
  some_load held main before unloaded unrefused =
      some_end held (folder_of main) (capacity (start before main).queue) (start before main) (omega arith)
      (λ last units loads count end. unloaded last.names units (record {
        queue = last.queue;
        loads = subst (λ n. LoadsTo held (folder_of main) (record { names = last.names; queue = last.queue; at = n }) (start before main) units) (counted last units count) loads;
        whole = subst (λ n. slice_get last.queue n ≡ None) (counted last units count) end;
      }))
      (λ reached m units r loads comes w. unrefused (names_before reached.names m.used) r (record {
        reached = reached;
        member = m;
        comes = record { units = units; loads = loads; is_next = comes };
        refuses = w;
        known = prefix_same (names_before reached.names m.used);
      }))
    where
      counted : (last : Progress) (units : List Unit) → last.at ≡ 0 + length units → last.at ≡ length units
      counted last units e = omega (arith, e)
