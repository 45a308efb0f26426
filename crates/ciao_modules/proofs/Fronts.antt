-- From the first bytes of a file to the whole file.
use Rattle.std.proofs.Common.{◌≡◌, ◌⊎◌, inl, inr, ◌<◌, ◌≤◌, ℕ, List, ◌++◌, length, take, Option, Some, None, refl, sym, ap, ◌∙◌, subst}
use Rattle.std.specs.Prelude.{option_map}
use Rattle.std.proofs.lemmas.Option.{none-some, same_Some}
use Rattle.byte_io.specs.Outside.{Held, FileRead}
use Rattle.term_core.specs.Lists.{IsPrefix}
use Rattle.prog_data.specs.declared.refusals.Refusal.{Refusal}
use Rattle.prog_data.specs.declared.refusals.RefusalKind.TheVariants.{NoFile, FileTooLarge}
use Rattle.ciao_modules.specs.FileNames.{Word}
use Rattle.ciao_modules.specs.Loaded.{size_limit, content, bytes_of, module_name, module_file, names_before, file_number, refused_at, ReadsText, RefusesText, ReadsFile, RefusesFile, Missing, TooLarge, Bad}
use Rattle.ciao_modules.specs.LoadReads.{Agree, most_read}
use Rattle.ciao_modules.specs.Stages.{IsFrontOf, FrontFails, FileFails}
use Rattle.ciao_modules.specs.declared.queue.Module.{Module}
use Rattle.ciao_modules.specs.declared.queue.Member.{Member}
use Rattle.ciao_modules.specs.declared.units.LoadFault.{LoadFault}
use Rattle.ciao_modules.specs.declared.units.LoadFault.TheVariants as load
use Rattle.ciao_modules.specs.declared.reading.LoadedFile.{LoadedFile}

none_of : (n : ℕ) (o : Option Word) → None ≡ option_map (take n) o → o ≡ None
none_of n None e = refl
none_of n (Some w) e = absurd (none-some _ e)

-- nothing is there
front_missing : (held : Held) (path : Word) (used : Module) → IsFrontOf held path used None → content held path used ≡ None
front_missing held path used e = none_of most_read (content held path used) e

-- something is there, of which these are the first bytes
whole_of : (n : ℕ) (o : Option Word) (bytes : Word) → Some bytes ≡ option_map (take n) o → (whole : Word) × (o ≡ Some whole) × (bytes ≡ take n whole)
whole_of n None bytes e = absurd (none-some _ (sym e))
whole_of n (Some whole) bytes e = (whole, refl, same_Some _ _ e)

front_there : (held : Held) (path : Word) (used : Module) (bytes : Word) → IsFrontOf held path used (Some bytes) → (whole : Word) × (content held path used ≡ Some whole) × (bytes ≡ take most_read whole)
front_there held path used bytes e = whole_of most_read (content held path used) bytes e

-- one file, whose path, name and number are these, and what was read of it
module _ (folder : Word) (names : List Word) (queue : List Member) (member : Member) (path own : Word) (file : ℕ) (mid : List Word)
    (path_is : path ≡ folder ++ module_file names member.used) (own_is : own ≡ module_name names member.used) (file_is : file ≡ file_number names member.used) (mid_is : mid ≡ names_before names member.used) where
  pub known : (after : List Word) → IsPrefix mid after → IsPrefix (names_before names member.used) after
  known after front = subst (λ ns. IsPrefix ns after) mid_is front

  -- what is at the path is the file
  at_path : (held : Held) (o : Option Word) → content held path member.used ≡ o → bytes_of held folder names member.used ≡ o
  at_path held o e = ap (λ p. content held p member.used) (sym path_is) ∙ e

  -- the text is that of the file
  moved : (whole : Word) (after : List Word) (loaded : LoadedFile) → ReadsText mid queue member.used own file whole after loaded
      → ReadsText (names_before names member.used) queue member.used (module_name names member.used) (file_number names member.used) whole after loaded
  moved whole after loaded r =
      subst (λ n. ReadsText (names_before names member.used) queue member.used (module_name names member.used) n whole after loaded) file_is
      (subst (λ o. ReadsText (names_before names member.used) queue member.used o file whole after loaded) own_is
      (subst (λ ns. ReadsText ns queue member.used own file whole after loaded) mid_is r))

  moved_refusal : (whole : Word) (refusal : Refusal) → RefusesText mid queue member.used own file whole refusal
      → RefusesText (names_before names member.used) queue member.used (module_name names member.used) (file_number names member.used) whole refusal
  moved_refusal whole refusal r =
      subst (λ n. RefusesText (names_before names member.used) queue member.used (module_name names member.used) n whole refusal) file_is
      (subst (λ o. RefusesText (names_before names member.used) queue member.used o file whole refusal) own_is
      (subst (λ ns. RefusesText ns queue member.used own file whole refusal) mid_is r))

  module _ (reads : List FileRead) where
    pub missing : (refusal : Refusal) → ((held : Held) → Agree reads held → IsFrontOf held path member.used None) → refusal ≡ record { place = member.place; kind = NoFile }
        → (held : Held) → Agree reads held → RefusesFile held folder names queue member refusal
    missing refusal front e held agree = Missing (at_path held None (front_missing held path member.used (front held agree))) e

    pub reads_file : (bytes : Word) (after : List Word) (loaded : LoadedFile) → ((held : Held) → Agree reads held → IsFrontOf held path member.used (Some bytes))
        → ((whole : Word) → bytes ≡ take most_read whole → (length whole ≤ size_limit) × ReadsText mid queue member.used own file whole after loaded)
        → (held : Held) → Agree reads held → ReadsFile held folder names queue member after loaded
    reads_file bytes after loaded front r held agree =
        let there = front_there held path member.used bytes (front held agree) in
        let read = r there.0 there.2 in
        record {
          bytes = there.0;
          has = at_path held (Some there.0) there.1;
          small = read.0;
          reads = moved there.0 after loaded read.1;
        }

    -- the fault of the whole file
    refused_file : (held : Held) (whole : Word) (refusal : Refusal) → bytes_of held folder names member.used ≡ Some whole
        → ((size_limit < length whole) × (refusal ≡ refused_at file 0 FileTooLarge)) ⊎ ((length whole ≤ size_limit) × RefusesText mid queue member.used own file whole refusal)
        → RefusesFile held folder names queue member refusal
    refused_file held whole refusal has (inl w) = TooLarge whole has w.0 (w.1 ∙ ap (λ n. refused_at n 0 FileTooLarge) file_is)
    refused_file held whole refusal has (inr w) = Bad whole has w.0 (moved_refusal whole refusal w.1)

    pub file_fails : (bytes : Word) (after : List Word) (reading : Type 0) (f : LoadFault) → ((held : Held) → Agree reads held → IsFrontOf held path member.used (Some bytes))
        → IsPrefix mid after → FrontFails mid queue member.used own file bytes f → FileFails reads folder names queue member after reading f
    file_fails bytes after reading (load.Refused refusal) front grew w = (
      (λ held agree.
          let there = front_there held path member.used bytes (front held agree) in
          refused_file held there.0 refusal (at_path held (Some there.0) there.1) (w there.0 there.2)),
      known after grew,
    )
    file_fails bytes after reading (load.Failed other) front grew w = absurd w
    file_fails bytes after reading load.NoMemory front grew w = tt
