-- The unit of sentences in range is in range, and so is the queue behind it.
use Rattle.std.proofs.Common.{◌≡◌, ◌<◌, ◌≤◌, ℕ, Bool, true, false, List, [], ◌∷◌, ◌++◌, map, length, Option, Some, None, refl, sym, subst, true≢false, arith, nat_le}
use Rattle.std.proofs.lemmas.Option.{slice_get_within}
use Rattle.std.specs.Prelude.{⊤, slice_get, ◌==◌, ◌||◌, ◌&&◌, if◌then◌else◌, IfSome}
use Rattle.std.specs.List.{AllByRecursion, IsDistinct}
use Rattle.std.proofs.lemmas.List.{length-append, map-append}
use Rattle.std.proofs.lemmas.List.Sums.{prefix_len-le-length}
use Rattle.std.proofs.lemmas.Bool.Decides.{nat_tests}
use Rattle.term_core.specs.Lists.{IsPrefix}
use Rattle.prog_data.specs.declared.programs.Place.{Place}
use Rattle.ciao_reader.specs.Ranges.{IsSentenceInRange}
use Rattle.ciao_reader.specs.declared.sentences.Sentence.{Sentence}
use Rattle.ciao_reader.specs.declared.sentences.Source.{Source}
use Rattle.ciao_modules.specs.FileNames.{Word}
use Rattle.ciao_modules.specs.Queue.{same_module, is_file, is_queued, files_in, place_in, with_module}
use Rattle.ciao_modules.specs.Directives.{packages_of, asked}
use Rattle.ciao_modules.specs.Drafts.{Followed, Goes, Stops, Directed, Done, Fails, used_with, followed_by, then_directed, directives_from}
use Rattle.ciao_modules.specs.Headings.{heading}
use Rattle.ciao_modules.specs.FilesRead.{opening, opened, drafted_with, drafted, exports_with, unit_name, file_with}
use Rattle.ciao_modules.specs.UnitRanges.{exports_of, IsExportInRange, AreExportsInRange, IsImportInRange, IsUnitInRange}
use Rattle.ciao_modules.specs.Stages.{IsModuleInRange, IsMemberInRange, IsQueue, FromSource}
use Rattle.ciao_modules.proofs.Lists.{all_append, all_weaker, prefix_same, prefix_then, prefix_length, prefix_get, place_within, distinct_last}
use Rattle.ciao_modules.proofs.AskedRanges.{IsAskedInRange, asked_in_range, packages_in_range, IsHeadingInRange, heading_in_range}
use Rattle.ciao_modules.specs.declared.libraries.Library.TheVariants.{Lists, BasicProps, Write}
use Rattle.ciao_modules.specs.declared.units.Export.{Export}
use Rattle.ciao_modules.specs.declared.units.Import.{Import}
use Rattle.ciao_modules.specs.declared.queue.Module.{Module}
use Rattle.ciao_modules.specs.declared.queue.Module.TheVariants as module_of
use Rattle.ciao_modules.specs.declared.queue.Member.{Member}
use Rattle.ciao_modules.specs.declared.directives.Asked.{Asked}
use Rattle.ciao_modules.specs.declared.directives.Asked.TheVariants as asks
use Rattle.ciao_modules.specs.declared.headings.Heading.{Heading}
use Rattle.ciao_modules.specs.declared.drafts.Draft.{Draft}
use Rattle.ciao_modules.specs.declared.reading.Drafted.{Drafted}
use Rattle.ciao_modules.specs.declared.reading.Drafted.TheVariants as draft
use Rattle.ciao_modules.specs.declared.reading.LoadedFile.{LoadedFile}
use Rattle.ciao_modules.specs.declared.reading.FileOutcome.{FileOutcome}
use Rattle.ciao_modules.specs.declared.reading.FileOutcome.TheVariants as read

same_turned : (a b : ℕ) → (a == b) ≡ false → (b == a) ≡ false
same_turned a b e = grind (arith, nat_tests)

-- a module that differs from another is one that the other differs from
differs : (a b : Module) → same_module a b ≡ false → same_module b a ≡ false
differs (module_of.File a) (module_of.File b) e = same_turned a b e
differs (module_of.File a) (module_of.Library l) e = e
differs (module_of.Library l) (module_of.File b) e = e
differs (module_of.Library Lists) (module_of.Library Lists) e = e
differs (module_of.Library Lists) (module_of.Library BasicProps) e = e
differs (module_of.Library Lists) (module_of.Library Write) e = e
differs (module_of.Library BasicProps) (module_of.Library Lists) e = e
differs (module_of.Library BasicProps) (module_of.Library BasicProps) e = e
differs (module_of.Library BasicProps) (module_of.Library Write) e = e
differs (module_of.Library Write) (module_of.Library Lists) e = e
differs (module_of.Library Write) (module_of.Library BasicProps) e = e
differs (module_of.Library Write) (module_of.Library Write) e = e

-- one that is not queued differs from each
none_same : (used : Module) (queue : List Member) → is_queued used queue ≡ false → AllByRecursion (λ m. same_module m used ≡ false) (map (λ m. m.used) queue)
none_same used [] none = tt
none_same used (m ∷ queue) none = by (same_module used m.used) refl none (none_same used queue)
  where
    by : (b : Bool) → same_module used m.used ≡ b → (b || is_queued used queue) ≡ false → (is_queued used queue ≡ false → AllByRecursion (λ m. same_module m used ≡ false) (map (λ m. m.used) queue)) → AllByRecursion (λ m. same_module m used ≡ false) (map (λ m. m.used) (m ∷ queue))
    by true e w rest = absurd (true≢false w)
    by false e w rest = (differs used m.used e, rest w)

module _ (n : ℕ) where
  import_wider : (u w : ℕ) → u ≤ w → (i : Import) → IsImportInRange n u i → IsImportInRange n w i
  import_wider u w le i r = record { unit = omega (arith, le, r.unit); only = r.only }

  -- the queue with a module, in which that has its place
  record IsQueueWith (used : Module) (old queue : List Member) : Type 0 where
    in_range : IsQueue n queue
    grown : IsPrefix old queue
    place : place_in used old < length queue

  module _ (place : Place) (known : place.file < n) (old : List Member) (good : IsQueue n old) where
    pushed : (used : Module) → IsModuleInRange n used → is_queued used old ≡ false → IsQueueWith used old (old ++ record { used = used; place = place } ∷ [])
    pushed used w none = record {
      in_range = record {
        members = all_append (IsMemberInRange n) old (record { used = used; place = place } ∷ []) good.members (record { used = w; place = known }, tt);
        distinct = subst (IsDistinct same_module) (sym (map-append (λ m. m.used) old (record { used = used; place = place } ∷ []))) (distinct_last same_module (map (λ m. m.used) old) used good.distinct (none_same used old none));
      };
      grown = (record { used = used; place = place } ∷ [], refl);
      place = omega (arith, at_most, length-append old (record { used = used; place = place } ∷ []));
    }
      where
        at_most : place_in used old ≤ length old
        at_most = prefix_len-le-length _ old

    with_new : (used : Module) → IsModuleInRange n used → (b t : Bool) → is_queued used old ≡ b
        → IfSome (if b then Some old else if t then None else Some (old ++ record { used = used; place = place } ∷ [])) (IsQueueWith used old)
    with_new used w true t e = record { in_range = good; grown = prefix_same old; place = place_within (λ m. same_module used m.used) old e }
    with_new used w false true e = tt
    with_new used w false false e = pushed used w e

    queue_with : (used : Module) → IsModuleInRange n used → IfSome (with_module used place old) (IsQueueWith used old)
    queue_with used w = with_new used w (is_queued used old) (is_file used && nat_le 64 (files_in old)) refl

  -- a file so far
  record IsDraft (old : List Member) (d : Draft) : Type 0 where
    exports : AreExportsInRange n d.exports
    imports : AllByRecursion (IsImportInRange n (length d.queue)) d.imports
    queue : IsQueue n d.queue
    grown : IsPrefix old d.queue

  abbrev IsFollowed : List Member → Followed → Type 0
  IsFollowed old (Goes d) = IsDraft old d
  IsFollowed old (Stops kind) = ⊤

  abbrev IsDirected : List Member → Directed → Type 0
  IsDirected old (Done d) = IsDraft old d
  IsDirected old (Fails wrong) = ⊤

  abbrev IsDrafted : List Member → Drafted → Type 0
  IsDrafted old (draft.Opened o) = IsDraft old o.draft
  IsDrafted old (draft.Wrong wrong) = ⊤

  module _ (old : List Member) where
    used_in_range : (place : Place) (used : Module) (only : Option (List Export)) (d : Draft) (queue : Option (List Member)) → IfSome only (AreExportsInRange n) → IsDraft old d → IfSome queue (IsQueueWith used d.queue)
        → IsFollowed old (used_with place used only d queue)
    used_in_range place used only d None named good w = tt
    used_in_range place used only d (Some queue) named good w = record {
      exports = good.exports;
      imports = all_append (IsImportInRange n (length queue)) d.imports (record { unit = place_in used d.queue; only = only; line = place.line } ∷ [])
          (all_weaker (IsImportInRange n (length d.queue)) (IsImportInRange n (length queue)) d.imports (import_wider (length d.queue) (length queue) (prefix_length d.queue queue w.grown)) good.imports)
          (record { unit = w.place; only = named }, tt);
      queue = w.in_range;
      grown = prefix_then old d.queue queue good.grown w.grown;
    }

    followed_in_range : (place : Place) → place.file < n → (a : Asked) (d : Draft) → IsAskedInRange n a → IsDraft old d → IsFollowed old (followed_by place a d)
    followed_in_range place known asks.Nothing d w good = good
    followed_in_range place known (asks.Exports exports) d w good = record {
      exports = all_append (IsExportInRange n) d.exports exports good.exports w;
      imports = good.imports;
      queue = good.queue;
      grown = good.grown;
    }
    followed_in_range place known (asks.Packages packages) d w good = record { exports = good.exports; imports = good.imports; queue = good.queue; grown = good.grown }
    followed_in_range place known (asks.Uses used only) d w good =
        used_in_range place used only d (with_module used place d.queue) w.1 good (queue_with place known d.queue good.queue used w.0)
    followed_in_range place known (asks.Refused kind) d w good = tt

    then_in_range : (line : ℕ) (behind : Draft → Directed) (f : Followed) → IsFollowed old f → ((d : Draft) → IsDraft old d → IsDirected old (behind d)) → IsDirected old (then_directed line behind f)
    then_in_range line behind (Goes d) good rest = rest d good
    then_in_range line behind (Stops kind) good rest = tt

    module _ (names : List Word) (file : ℕ) (known : file < n) where
      directed_in_range : (ss : List Sentence) (d : Draft) → AllByRecursion (IsSentenceInRange n) ss → IsDraft old d → IsDirected old (directives_from names file d ss)
      directed_in_range [] d named good = good
      directed_in_range (s ∷ ss) d named good =
          then_in_range s.line (λ e. directives_from names file e ss) (followed_by (record { file = file; line = s.line }) (asked names s.line s.term) d)
          (followed_in_range (record { file = file; line = s.line }) known (asked names s.line s.term) d (asked_in_range n names s.line s.term named.0.named) good)
          (λ e behind. directed_in_range ss e named.1 behind)

      opened_in_range : (line : ℕ) (all : Bool) (d : Directed) → IsDirected old d → IsDrafted old (opened line all d)
      opened_in_range line all (Done d) w = w
      opened_in_range line all (Fails wrong) w = tt

      headed_in_range : (line : ℕ) (rest : List Sentence) (h : Option Heading) → IsQueue n old → IsHeadingInRange n h → AllByRecursion (IsSentenceInRange n) rest
          → IsDrafted old (drafted_with names (record { file = file; line = line }) old rest h)
      headed_in_range line rest None good w named = tt
      headed_in_range line rest (Some h) good w named =
          opened_in_range line h.exported.all _
          (then_in_range line (λ d. directives_from names file d rest) (followed_by (record { file = file; line = line }) (packages_of names h.packages) (opening h old))
          (followed_in_range (record { file = file; line = line }) known (packages_of names h.packages) (opening h old) (packages_in_range n names h.packages)
          (record { exports = w; imports = tt; queue = good; grown = prefix_same old }))
          (λ d behind. directed_in_range rest d named behind))

      drafted_in_range : (own : Word) (ss : List Sentence) → IsQueue n old → AllByRecursion (IsSentenceInRange n) ss → IsDrafted old (drafted names own file ss old)
      drafted_in_range own [] good named = tt
      drafted_in_range own (s ∷ ss) good named = headed_in_range s.line ss (heading names own s.line s.term) good (heading_in_range n names own s.line s.term named.0.named) named.1

  -- a unit with the queue behind it
  pub record IsLoaded (old : List Member) (loaded : LoadedFile) : Type 0 where
    pub unit : IsUnitInRange n (length loaded.queue) loaded.unit
    pub queue : IsQueue n loaded.queue
    pub grown : IsPrefix old loaded.queue

  abbrev IsReadInRange : List Member → FileOutcome → Type 0
  IsReadInRange old (read.Loaded loaded) = IsLoaded old loaded
  IsReadInRange old (read.Wrong wrong) = ⊤

  exports_same : (all : Bool) (exports : List Export) → AreExportsInRange n exports → AreExportsInRange n (exports_of (exports_with all exports))
  exports_same true exports w = w
  exports_same false exports w = w

  named_unit : (used : Module) (file : ℕ) → IsModuleInRange n used → file < n → unit_name used file < n
  named_unit (module_of.File name) file w known = w
  named_unit (module_of.Library library) file w known = known

  with_in_range : (used : Module) (file : ℕ) (source : Source) (old : List Member) (d : Drafted) → IsModuleInRange n used → file < n → AllByRecursion (IsSentenceInRange n) source.sentences
      → IsDrafted old d → IsReadInRange old (file_with used file source d)
  with_in_range used file source old (draft.Wrong wrong) w known named good = tt
  with_in_range used file source old (draft.Opened o) w known named good = record {
    unit = record {
      file = known;
      name = named_unit used file w known;
      sentences = named;
      exports = exports_same o.all o.draft.exports good.exports;
      imports = good.imports;
    };
    queue = good.queue;
    grown = good.grown;
  }

-- the unit of a source in range
pub loaded_in_range : (names : List Word) (used : Module) (old : List Member) (loaded : LoadedFile) → IsModuleInRange (length names) used → IsQueue (length names) old → FromSource names old used loaded → IsLoaded (length names) old loaded
loaded_in_range names used old loaded w good s =
    subst (IsReadInRange (length names) old) s.is
    (with_in_range (length names) used s.file s.source old (drafted names s.own s.file s.source.sentences old) w s.known s.in_range
    (drafted_in_range (length names) old names s.file s.known s.own s.source.sentences good s.in_range))

-- the queue at first

pub known : (names : List Word) (i : ℕ) (t : Word) → slice_get names i ≡ Some t → i < length names
known names i t is = slice_get_within names i t is

pub known_later : (names after : List Word) (i : ℕ) (t : Word) → slice_get names i ≡ Some t → IsPrefix names after → i < length after
known_later names after i t is front = slice_get_within after i t (prefix_get names after i t front is)

pub first_in_range : (names : List Word) (name file line : ℕ) (queue : List Member) → queue ≡ record { used = module_of.File name; place = record { file = file; line = line } } ∷ [] → name < length names → file < length names → IsQueue (length names) queue
unfolding IsDistinct
first_in_range names name file line queue e named placed =
    subst (IsQueue (length names)) (sym e) (record { members = (record { used = named; place = placed }, tt); distinct = (tt, tt) })
