-- A load has one outcome, since a text has one.
use Rattle.std.proofs.Common.{◌≡◌, ◌<◌, ◌≤◌, ℕ, suc, Bool, true, false, List, ◌∷◌, length, Some, None, refl, sym, ap, ◌∙◌, subst, true≢false, arith}
use Rattle.std.specs.Prelude.{slice_get}
use Rattle.std.proofs.lemmas.Option.{none-some, same_Some}
use Rattle.byte_io.specs.Outside.{Held}
use Rattle.ciao_reader.specs.Laws.{OneSource, NoFault, OneFault}
use Rattle.ciao_reader.specs.declared.sentences.Source.{Source}
use Rattle.prog_data.specs.declared.refusals.Refusal.{Refusal}
use Rattle.ciao_modules.specs.FileNames.{Word, folder_of}
use Rattle.ciao_modules.specs.FilesRead.{file_read}
use Rattle.ciao_modules.specs.Loaded.{size_limit, names_before, file_number, module_name, refused_at, text_fault, bytes_of, ReadsText, RefusesText, Unread, Misdirected, ReadsFile, RefusesFile, Missing, TooLarge, Bad, Progress, LoadsTo, none, next, Loaded, LoadRefused}
use Rattle.ciao_modules.specs.declared.units.Unit.{Unit}
use Rattle.ciao_modules.specs.declared.units.LoadFault.{LoadFault}
use Rattle.ciao_modules.specs.declared.units.LoadFault.TheVariants as load
use Rattle.ciao_modules.specs.declared.queue.Module.{Module}
use Rattle.ciao_modules.specs.declared.queue.Member.{Member}
use Rattle.ciao_modules.specs.declared.drafts.Wrong.{Wrong}
use Rattle.ciao_modules.specs.declared.reading.LoadedFile.{LoadedFile}
use Rattle.ciao_modules.specs.declared.reading.FileOutcome.{FileOutcome}
use Rattle.ciao_modules.specs.declared.reading.FileOutcome.TheVariants as read

-- what stands in an outcome

abbrev is_loaded : FileOutcome → Bool
is_loaded (read.Loaded loaded) = true
is_loaded (read.Wrong wrong) = false

abbrev loaded_in : LoadedFile → FileOutcome → LoadedFile
loaded_in other (read.Loaded loaded) = loaded
loaded_in other (read.Wrong wrong) = other

abbrev wrong_in : Wrong → FileOutcome → Wrong
wrong_in other (read.Loaded loaded) = other
wrong_in other (read.Wrong wrong) = wrong

abbrev refusal_in : Refusal → LoadFault → Refusal
refusal_in other (load.Refused refusal) = refusal
refusal_in other (load.Failed file) = other
refusal_in other load.NoMemory = other

same_refusal : (r s : Refusal) → load.Refused r ≡ load.Refused s → r ≡ s
same_refusal r s e = ap (refusal_in r) e

module _ (one_source : (bytes : Word) → OneSource bytes) (no_fault : (bytes : Word) → NoFault bytes) (one_fault : (bytes : Word) → OneFault bytes) where
  -- one text

  module _ (names : List Word) (queue : List Member) (used : Module) (own : Word) (file : ℕ) (bytes : Word) where
    -- what directives come to is the same for the same sentences
    same_read : (after later : List Word) (s u : Source) → s ≡ u → after ≡ later → file_read after used own file s queue ≡ file_read later used own file u queue
    same_read after later s u e f = ap (λ n. file_read n used own file s queue) f ∙ ap (λ t. file_read later used own file t queue) e

    one_text : (after later : List Word) (l m : LoadedFile) → ReadsText names queue used own file bytes after l → ReadsText names queue used own file bytes later m → (after ≡ later) × (l ≡ m)
    one_text after later l m r s =
        let same = one_source bytes names after later r.source s.source r.reads s.reads in
        (same.1, ap (loaded_in l) (sym r.is ∙ same_read after later r.source s.source same.0 same.1 ∙ s.is))

    text_refused : (after : List Word) (l : LoadedFile) (refusal : Refusal) → ReadsText names queue used own file bytes after l → RefusesText names queue used own file bytes refusal → ⊥
    text_refused after l refusal r (Unread found is e) = no_fault bytes names after r.source found r.reads is
    text_refused after l refusal r (Misdirected later source has wrong is e) =
        let same = one_source bytes names after later r.source source r.reads has in
        true≢false (ap is_loaded (sym r.is ∙ same_read after later r.source source same.0 same.1 ∙ is))

    one_text_refusal : (r s : Refusal) → RefusesText names queue used own file bytes r → RefusesText names queue used own file bytes s → r ≡ s
    one_text_refusal r s (Unread f is e) (Unread g also d) = same_refusal r s (sym e ∙ ap (text_fault file) (one_fault bytes names f g is also) ∙ d)
    one_text_refusal r s (Unread f is e) (Misdirected later source has wrong also d) = absurd (no_fault bytes names later source f has is)
    one_text_refusal r s (Misdirected later source has wrong also d) (Unread f is e) = absurd (no_fault bytes names later source f has is)
    one_text_refusal r s (Misdirected after source has wrong is e) (Misdirected later other too fault also d) =
        let same = one_source bytes names after later source other has too in
        e ∙ ap (λ w. refused_at file w.line w.kind) (ap (wrong_in wrong) (sym is ∙ same_read after later source other same.0 same.1 ∙ also)) ∙ sym d

  module _ (held : Held) (folder : Word) where
    -- one file

    module _ (names : List Word) (queue : List Member) (member : Member) where
      abbrev reads_so : Word → List Word → LoadedFile → Type 0
      reads_so bytes after l = ReadsText (names_before names member.used) queue member.used (module_name names member.used) (file_number names member.used) bytes after l

      abbrev refuses_so : Word → Refusal → Type 0
      refuses_so bytes refusal = RefusesText (names_before names member.used) queue member.used (module_name names member.used) (file_number names member.used) bytes refusal

      same_bytes : (b c : Word) → bytes_of held folder names member.used ≡ Some b → bytes_of held folder names member.used ≡ Some c → b ≡ c
      same_bytes b c e d = same_Some b c (sym e ∙ d)

      not_missing : (b : Word) → bytes_of held folder names member.used ≡ None → bytes_of held folder names member.used ≡ Some b → ⊥
      not_missing b e d = none-some b (sym e ∙ d)

      not_both : (n : ℕ) (b c : Word) → b ≡ c → n < length b → length c ≤ n → ⊥
      not_both n b c e lt le = omega (arith, ap length e, lt, le)

      one_file : (after later : List Word) (l m : LoadedFile) → ReadsFile held folder names queue member after l → ReadsFile held folder names queue member later m → (after ≡ later) × (l ≡ m)
      one_file after later l m r s =
          one_text (names_before names member.used) queue member.used (module_name names member.used) (file_number names member.used) r.bytes after later l m r.reads
          (subst (λ b. reads_so b later m) (same_bytes s.bytes r.bytes s.has r.has) s.reads)

      file_refused : (after : List Word) (l : LoadedFile) (refusal : Refusal) → ReadsFile held folder names queue member after l → RefusesFile held folder names queue member refusal → ⊥
      file_refused after l refusal r (Missing e is) = not_missing r.bytes e r.has
      file_refused after l refusal r (TooLarge bytes has lt is) = not_both size_limit bytes r.bytes (same_bytes bytes r.bytes has r.has) lt r.small
      file_refused after l refusal r (Bad bytes has le w) =
          text_refused (names_before names member.used) queue member.used (module_name names member.used) (file_number names member.used) r.bytes after l refusal r.reads
          (subst (λ b. refuses_so b refusal) (same_bytes bytes r.bytes has r.has) w)

      one_file_refusal : (r s : Refusal) → RefusesFile held folder names queue member r → RefusesFile held folder names queue member s → r ≡ s
      one_file_refusal r s (Missing e is) (Missing d also) = is ∙ sym also
      one_file_refusal r s (Missing e is) (TooLarge b has lt also) = absurd (not_missing b e has)
      one_file_refusal r s (Missing e is) (Bad b has le w) = absurd (not_missing b e has)
      one_file_refusal r s (TooLarge b has lt is) (Missing e also) = absurd (not_missing b e has)
      one_file_refusal r s (TooLarge b has lt is) (TooLarge c too more also) = is ∙ sym also
      one_file_refusal r s (TooLarge b has lt is) (Bad c too le w) = absurd (not_both size_limit b c (same_bytes b c has too) lt le)
      one_file_refusal r s (Bad b has le w) (Missing e also) = absurd (not_missing b e has)
      one_file_refusal r s (Bad b has le w) (TooLarge c too lt also) = absurd (not_both size_limit c b (same_bytes c b too has) lt le)
      one_file_refusal r s (Bad b has le w) (Bad c too more v) =
          one_text_refusal (names_before names member.used) queue member.used (module_name names member.used) (file_number names member.used) b r s w
          (subst (λ x. refuses_so x s) (same_bytes c b too has) v)

    -- the queue

    abbrev behind : List Word → LoadedFile → Progress → Progress
    behind after l here = record { names = after; queue = l.queue; at = suc here.at }

    -- a load that has come there has one more file to read, which it reads so
    module _ (here : Progress) (m n : Member) (is : slice_get here.queue here.at ≡ Some m) (also : slice_get here.queue here.at ≡ Some n) where
      same_member : n ≡ m
      same_member = same_Some n m (sym also ∙ is)

      same_step : (after later : List Word) (l k : LoadedFile) → ReadsFile held folder here.names here.queue m after l → ReadsFile held folder here.names here.queue n later k → (later ≡ after) × (k ≡ l)
      same_step after later l k r s = one_file here.names here.queue m later after k l (subst (λ x. ReadsFile held folder here.names here.queue x later k) same_member s) r

      same_rest : (last : Progress) (units : List Unit) (after later : List Word) (l k : LoadedFile) → ReadsFile held folder here.names here.queue m after l → ReadsFile held folder here.names here.queue n later k
          → LoadsTo held folder last (behind later k here) units → LoadsTo held folder last (behind after l here) units
      same_rest last units after later l k r s rest =
          let same = same_step after later l k r s in
          subst (λ x. LoadsTo held folder last (behind after x here) units) same.1 (subst (λ ns. LoadsTo held folder last (behind ns k here) units) same.0 rest)

      same_unit : (after later : List Word) (l k : LoadedFile) → ReadsFile held folder here.names here.queue m after l → ReadsFile held folder here.names here.queue n later k → l.unit ≡ k.unit
      same_unit after later l k r s = sym (ap (λ x. x.unit) (same_step after later l k r s).1)

    abbrev at_end : Progress → Type 0
    at_end p = slice_get p.queue p.at ≡ None

    abbrev comes_next : Progress → Member → Type 0
    comes_next p m = slice_get p.queue p.at ≡ Some m

    abbrev refused_there : Progress → Member → Refusal → Type 0
    refused_there p m refusal = RefusesFile held folder p.names p.queue m refusal

    ended : (last here : Progress) (m : Member) → here ≡ last → at_end last → comes_next here m → ⊥
    ended last here m e end is = none-some m (sym end ∙ ap (λ p. slice_get p.queue p.at) (sym e) ∙ is)

    one_queue : (last other : Progress) → at_end last → at_end other → {here : Progress} {units others : List Unit} → LoadsTo held folder last here units → LoadsTo held folder other here others → (units ≡ others) × (last ≡ other)
    one_queue last other end stop (none e) (none f) = (refl, sym e ∙ f)
    one_queue last other end stop {here = here} (none e) (next m after l is r rest) = absurd (ended last here m e end is)
    one_queue last other end stop {here = here} (next m after l is r rest) (none f) = absurd (ended other here m f stop is)
    one_queue last other end stop {here = here} (next {units = vs} m after l is r rest) (next {units = us} n later k also s more) =
        let same = one_queue last other end stop rest (same_rest here m n is also other us after later l k r s more) in
        (ap (λ u. u ∷ vs) (same_unit here m n is also after later l k r s) ∙ ap (λ us. k.unit ∷ us) same.0, same.1)

    -- where a load stops at a file
    module _ (there : Progress) (member : Member) (comes : comes_next there member) (refusal : Refusal) (refuses : refused_there there member refusal) where
      refused_here : (here : Progress) → here ≡ there → refused_there here member refusal
      refused_here here e = subst (λ p. refused_there p member refusal) (sym e) refuses

      comes_here : (here : Progress) → here ≡ there → comes_next here member
      comes_here here e = subst (λ p. comes_next p member) (sym e) comes

      -- another does not read it
      not_read : (here : Progress) → here ≡ there → (m : Member) (after : List Word) (l : LoadedFile) → comes_next here m → ReadsFile held folder here.names here.queue m after l → ⊥
      not_read here e m after l is r =
          file_refused here.names here.queue m after l refusal r
          (subst (λ x. refused_there here x refusal) (same_Some member m (sym (comes_here here e) ∙ is)) (refused_here here e))

      queue_refused : (last : Progress) → at_end last → {here : Progress} {units others : List Unit} → LoadsTo held folder last here units → LoadsTo held folder there here others → ⊥
      queue_refused last end {here = here} (none e) (none f) = ended last here member e end (comes_here here f)
      queue_refused last end {here = here} (none e) (next m after l is r rest) = ended last here m e end is
      queue_refused last end {here = here} (next m after l is r rest) (none f) = not_read here f m after l is r
      queue_refused last end {here = here} (next m after l is r rest) (next {units = us} n later k also s more) =
          queue_refused last end rest (same_rest here m n is also there us after later l k r s more)

      one_stop : (other : Progress) (m : Member) → comes_next other m → (s : Refusal) → refused_there other m s → {here : Progress} {units others : List Unit} → LoadsTo held folder there here units → LoadsTo held folder other here others → refusal ≡ s
      one_stop other m is s w {here = here} (none e) (none f) =
          let also = subst (λ p. comes_next p m) (sym f) is in
          let v = subst (λ p. refused_there p m s) (sym f) w in
          one_file_refusal here.names here.queue member refusal s (refused_here here e) (subst (λ x. refused_there here x s) (same_Some m member (sym also ∙ comes_here here e)) v)
      one_stop other m is s w {here = here} (none e) (next n after l also r rest) = absurd (not_read here e n after l also r)
      one_stop other m is s w {here = here} (next n after l also r rest) (none f) =
          absurd (file_refused here.names here.queue n after l s r (subst (λ x. refused_there here x s) (same_Some m n (sym (subst (λ p. comes_next p m) (sym f) is) ∙ also)) (subst (λ p. refused_there p m s) (sym f) w)))
      one_stop other m is s w {here = here} (next n after l also r rest) (next {units = us} k later i too t more) =
          one_stop other m is s w rest (same_rest here n k also too other us after later l i r t more)

      -- the file is the same
      one_place : (other : Progress) (m : Member) → comes_next other m → (s : Refusal) → refused_there other m s → {here : Progress} {units others : List Unit} → LoadsTo held folder there here units → LoadsTo held folder other here others → there ≡ other
      one_place other m is s w {here = here} (none e) (none f) = sym e ∙ f
      one_place other m is s w {here = here} (none e) (next n after l also r rest) = absurd (not_read here e n after l also r)
      one_place other m is s w {here = here} (next n after l also r rest) (none f) =
          absurd (file_refused here.names here.queue n after l s r (subst (λ x. refused_there here x s) (same_Some m n (sym (subst (λ p. comes_next p m) (sym f) is) ∙ also)) (subst (λ p. refused_there p m s) (sym f) w)))
      one_place other m is s w {here = here} (next n after l also r rest) (next {units = us} k later i too t more) =
          one_place other m is s w rest (same_rest here n k also too other us after later l i r t more)

  -- the load of a main file

  pub one_load : (held : Held) (main : Word) (before after later : List Word) (units others : List Unit) → Loaded held main before after units → Loaded held main before later others → (units ≡ others) × (after ≡ later)
  one_load held main before after later units others r s =
      let same = one_queue held (folder_of main) _ _ r.whole s.whole r.loads s.loads in
      (same.0, ap (λ p. p.names) same.1)

  pub no_load_refused : (held : Held) (main : Word) (before after later : List Word) (units : List Unit) (refusal : Refusal) → Loaded held main before after units → LoadRefused held main before later refusal → ⊥
  no_load_refused held main before after later units refusal r s =
      queue_refused held (folder_of main) s.reached s.member s.comes.is_next refusal s.refuses _ r.whole r.loads s.comes.loads

  pub one_load_refusal : (held : Held) (main : Word) (before after later : List Word) (refusal other : Refusal) → LoadRefused held main before after refusal → LoadRefused held main before later other → refusal ≡ other
  one_load_refusal held main before after later refusal other r s =
      one_stop held (folder_of main) r.reached r.member r.comes.is_next refusal r.refuses s.reached s.member s.comes.is_next other s.refuses r.comes.loads s.comes.loads

  -- it is refused at one file
  pub one_refused_place : (held : Held) (main : Word) (before after later : List Word) (refusal other : Refusal) (r : LoadRefused held main before after refusal) (s : LoadRefused held main before later other) → (r.reached ≡ s.reached) × (r.member ≡ s.member)
  one_refused_place held main before after later refusal other r s =
      let same = one_place held (folder_of main) r.reached r.member r.comes.is_next refusal r.refuses s.reached s.member s.comes.is_next other s.refuses r.comes.loads s.comes.loads in
      (same, same_Some r.member s.member (sym r.comes.is_next ∙ ap (λ p. slice_get p.queue p.at) same ∙ s.comes.is_next))
