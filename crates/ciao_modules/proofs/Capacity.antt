-- No directive changes how long the queue can become.
use Rattle.std.proofs.Common.{◌≡◌, ℕ, ◌<◌, ◌+◌, ◌-◌, Bool, true, false, List, [], ◌∷◌, ◌++◌, length, filter, Option, Some, None, refl, ap, sym, ◌∙◌, subst, arith, nat_le}
use Rattle.std.specs.Prelude.{⊤, if◌then◌else◌, ◌||◌}
use Rattle.std.proofs.lemmas.List.{length-append}
use Rattle.std.proofs.lemmas.List.Folds.{list_any-append}
use Rattle.std.proofs.lemmas.List.Elements.{filter-append}
use Rattle.std.proofs.lemmas.Bool.Decides.{nat_tests}
use Rattle.prog_data.specs.declared.programs.Place.{Place}
use Rattle.ciao_reader.specs.declared.sentences.Sentence.{Sentence}
use Rattle.ciao_reader.specs.declared.sentences.Source.{Source}
use Rattle.ciao_modules.specs.FileNames.{Word}
use Rattle.ciao_modules.specs.Queue.{same_module, is_file, is_queued, files_in, with_module}
use Rattle.ciao_modules.specs.Directives.{packages_of, asked}
use Rattle.ciao_modules.specs.Drafts.{Followed, Goes, Stops, Directed, Done, Fails, used_with, followed_by, then_directed, directives_from}
use Rattle.ciao_modules.specs.Headings.{heading}
use Rattle.ciao_modules.specs.FilesRead.{opening, opened, drafted_with, drafted, file_with, file_read}
use Rattle.ciao_modules.specs.Stages.{unqueued, capacity}
use Rattle.ciao_modules.specs.declared.libraries.Library.{Library}
use Rattle.ciao_modules.specs.declared.libraries.Library.TheVariants.{Lists, BasicProps, Write}
use Rattle.ciao_modules.specs.declared.units.Export.{Export}
use Rattle.ciao_modules.specs.declared.queue.Module.{Module}
use Rattle.ciao_modules.specs.declared.queue.Module.TheVariants as module_of
use Rattle.ciao_modules.specs.declared.queue.Member.{Member}
use Rattle.ciao_modules.specs.declared.directives.Asked.{Asked}
use Rattle.ciao_modules.specs.declared.directives.Asked.TheVariants as asks
use Rattle.ciao_modules.specs.declared.headings.Heading.{Heading}
use Rattle.ciao_modules.specs.declared.drafts.Draft.{Draft}
use Rattle.ciao_modules.specs.declared.reading.Drafted.{Drafted}
use Rattle.ciao_modules.specs.declared.reading.Drafted.TheVariants as draft
use Rattle.ciao_modules.specs.declared.reading.LoadedFile.{LoadedFile}
use Rattle.ciao_modules.specs.declared.reading.FileOutcome.{FileOutcome}
use Rattle.ciao_modules.specs.declared.reading.FileOutcome.TheVariants as read

-- what has a queue of this capacity, or none
abbrev KeptQueue : ℕ → Option (List Member) → Type 0
KeptQueue n None = ⊤
KeptQueue n (Some queue) = capacity queue ≡ n

abbrev KeptFollowed : ℕ → Followed → Type 0
KeptFollowed n (Goes d) = capacity d.queue ≡ n
KeptFollowed n (Stops kind) = ⊤

abbrev KeptDirected : ℕ → Directed → Type 0
KeptDirected n (Done d) = capacity d.queue ≡ n
KeptDirected n (Fails wrong) = ⊤

abbrev KeptDrafted : ℕ → Drafted → Type 0
KeptDrafted n (draft.Opened o) = capacity o.draft.queue ≡ n
KeptDrafted n (draft.Wrong wrong) = ⊤

abbrev KeptRead : ℕ → FileOutcome → Type 0
KeptRead n (read.Loaded loaded) = capacity loaded.queue ≡ n
KeptRead n (read.Wrong wrong) = ⊤

or_false : (b : Bool) → (b || false) ≡ b
or_false true = refl
or_false false = refl

or_true : (b : Bool) → (b || true) ≡ true
or_true true = refl
or_true false = refl

-- one more file, where there is room
file_sum : (f a b c n f' a' b' c' n' : ℕ) → f < 64 → f' ≡ f + 1 → a' ≡ a → b' ≡ b → c' ≡ c → n' ≡ n + 1
    → (64 - f' + (a' + (b' + c'))) + n' ≡ (64 - f + (a + (b + c))) + n
file_sum f a b c n f' a' b' c' n' lt ef ea eb ec en = omega (arith, lt, ef, ea, eb, ec, en)

-- one more library, which was unqueued
library_sum : (f f' s s' n n' : ℕ) → f' ≡ f → s ≡ s' + 1 → n' ≡ n + 1 → (64 - f' + s') + n' ≡ (64 - f + s) + n
library_sum f f' s s' n n' ef es en = omega (arith, ef, es, en)

module _ (place : Place) (queue : List Member) where
  -- the queue with a new module
  abbrev more : Module → List Member
  more used = queue ++ record { used = used; place = place } ∷ []

  longer : (used : Module) → length (more used) ≡ length queue + 1
  longer used = length-append queue (record { used = used; place = place } ∷ [])

  absent_still : (l : Library) (used : Module) → same_module (module_of.Library l) used ≡ false → unqueued l (more used) ≡ unqueued l queue
  absent_still l used other =
      ap (λ b. if b then 0 else 1)
      (list_any-append (λ m. same_module (module_of.Library l) m.used) queue (record { used = used; place = place } ∷ [])
      ∙ ap (λ b. is_queued (module_of.Library l) queue || (b || false)) other ∙ or_false (is_queued (module_of.Library l) queue))

  absent_no_more : (l : Library) → same_module (module_of.Library l) (module_of.Library l) ≡ true → unqueued l (more (module_of.Library l)) ≡ 0
  absent_no_more l same =
      ap (λ b. if b then 0 else 1)
      (list_any-append (λ m. same_module (module_of.Library l) m.used) queue (record { used = module_of.Library l; place = place } ∷ [])
      ∙ ap (λ b. is_queued (module_of.Library l) queue || (b || false)) same ∙ or_true (is_queued (module_of.Library l) queue))

  more_files : (name : ℕ) → files_in (more (module_of.File name)) ≡ files_in queue + 1
  more_files name =
      ap length (filter-append (λ m. is_file m.used) queue (record { used = module_of.File name; place = place } ∷ []))
      ∙ length-append (filter (λ m. is_file m.used) queue) (record { used = module_of.File name; place = place } ∷ [])

  same_files : (l : Library) → files_in (more (module_of.Library l)) ≡ files_in queue
  same_files l =
      ap length (filter-append (λ m. is_file m.used) queue (record { used = module_of.Library l; place = place } ∷ []))
      ∙ length-append (filter (λ m. is_file m.used) queue) []
      ∙ omega arith

  file_pushed : (name : ℕ) → files_in queue < 64 → capacity (more (module_of.File name)) ≡ capacity queue
  file_pushed name lt =
      file_sum (files_in queue) _ _ _ (length queue) _ _ _ _ _ lt (more_files name)
      (absent_still Lists (module_of.File name) refl) (absent_still BasicProps (module_of.File name) refl) (absent_still Write (module_of.File name) refl) (longer (module_of.File name))

  was_absent : (l : Library) → is_queued (module_of.Library l) queue ≡ false → unqueued l queue ≡ 1
  was_absent l none = ap (λ b. if b then 0 else 1) none

  library_pushed : (l : Library) → is_queued (module_of.Library l) queue ≡ false → capacity (more (module_of.Library l)) ≡ capacity queue
  library_pushed Lists none =
      library_sum (files_in queue) _ _ _ (length queue) _ (same_files Lists)
      (omega (arith, was_absent Lists none, absent_no_more Lists refl, absent_still BasicProps (module_of.Library Lists) refl, absent_still Write (module_of.Library Lists) refl)) (longer _)
  library_pushed BasicProps none =
      library_sum (files_in queue) _ _ _ (length queue) _ (same_files BasicProps)
      (omega (arith, was_absent BasicProps none, absent_no_more BasicProps refl, absent_still Lists (module_of.Library BasicProps) refl, absent_still Write (module_of.Library BasicProps) refl)) (longer _)
  library_pushed Write none =
      library_sum (files_in queue) _ _ _ (length queue) _ (same_files Write)
      (omega (arith, was_absent Write none, absent_no_more Write refl, absent_still Lists (module_of.Library Write) refl, absent_still BasicProps (module_of.Library Write) refl)) (longer _)

  with_file : (name : ℕ) (b t : Bool) → t ≡ nat_le 64 (files_in queue)
      → KeptQueue (capacity queue) (if b then Some queue else if t then None else Some (more (module_of.File name)))
  with_file name true t e = refl
  with_file name false true e = tt
  with_file name false false e = file_pushed name (below (sym e))
    where
      below : nat_le 64 (files_in queue) ≡ false → files_in queue < 64
      below is = grind (arith, nat_tests)

  with_library : (l : Library) (b : Bool) → b ≡ is_queued (module_of.Library l) queue → KeptQueue (capacity queue) (if b then Some queue else Some (more (module_of.Library l)))
  with_library l true e = refl
  with_library l false e = library_pushed l (sym e)

  kept_queue : (used : Module) → KeptQueue (capacity queue) (with_module used place queue)
  kept_queue (module_of.File name) = with_file name (is_queued (module_of.File name) queue) (nat_le 64 (files_in queue)) refl
  kept_queue (module_of.Library l) = with_library l (is_queued (module_of.Library l) queue) refl

kept_used : (n : ℕ) (place : Place) (used : Module) (only : Option (List Export)) (d : Draft) (queue : Option (List Member)) → KeptQueue n queue → KeptFollowed n (used_with place used only d queue)
kept_used n place used only d None kept = tt
kept_used n place used only d (Some queue) kept = kept

kept_followed : (place : Place) (a : Asked) (d : Draft) → KeptFollowed (capacity d.queue) (followed_by place a d)
kept_followed place asks.Nothing d = refl
kept_followed place (asks.Exports exports) d = refl
kept_followed place (asks.Packages packages) d = refl
kept_followed place (asks.Uses used only) d = kept_used (capacity d.queue) place used only d (with_module used place d.queue) (kept_queue place d.queue used)
kept_followed place (asks.Refused kind) d = tt

kept_then : (n line : ℕ) (behind : Draft → Directed) (f : Followed) → KeptFollowed n f → ((d : Draft) → KeptDirected (capacity d.queue) (behind d)) → KeptDirected n (then_directed line behind f)
kept_then n line behind (Goes d) kept rest = subst (λ m. KeptDirected m (behind d)) kept (rest d)
kept_then n line behind (Stops kind) kept rest = tt

kept_directed : (names : List Word) (file : ℕ) (ss : List Sentence) (d : Draft) → KeptDirected (capacity d.queue) (directives_from names file d ss)
kept_directed names file [] d = refl
kept_directed names file (s ∷ ss) d =
    kept_then (capacity d.queue) s.line (λ e. directives_from names file e ss) (followed_by (record { file = file; line = s.line }) (asked names s.line s.term) d)
    (kept_followed _ (asked names s.line s.term) d) (λ e. kept_directed names file ss e)

kept_opened : (n line : ℕ) (all : Bool) (d : Directed) → KeptDirected n d → KeptDrafted n (opened line all d)
kept_opened n line all (Done d) kept = kept
kept_opened n line all (Fails wrong) kept = tt

kept_headed : (names : List Word) (place : Place) (queue : List Member) (rest : List Sentence) (h : Option Heading) → KeptDrafted (capacity queue) (drafted_with names place queue rest h)
kept_headed names place queue rest None = tt
kept_headed names place queue rest (Some h) =
    kept_opened (capacity queue) place.line h.exported.all _
    (kept_then (capacity queue) place.line (λ d. directives_from names place.file d rest) (followed_by place (packages_of names h.packages) (opening h queue))
    (kept_followed place (packages_of names h.packages) (opening h queue)) (λ d. kept_directed names place.file rest d))

kept_drafted : (names : List Word) (own : Word) (file : ℕ) (ss : List Sentence) (queue : List Member) → KeptDrafted (capacity queue) (drafted names own file ss queue)
kept_drafted names own file [] queue = tt
kept_drafted names own file (s ∷ ss) queue = kept_headed names (record { file = file; line = s.line }) queue ss (heading names own s.line s.term)

kept_with : (n : ℕ) (used : Module) (file : ℕ) (source : Source) (d : Drafted) → KeptDrafted n d → KeptRead n (file_with used file source d)
kept_with n used file source (draft.Wrong wrong) kept = tt
kept_with n used file source (draft.Opened o) kept = kept

-- a file's directives leave the capacity of the queue
pub kept_read : (names : List Word) (used : Module) (own : Word) (file : ℕ) (source : Source) (queue : List Member) → KeptRead (capacity queue) (file_read names used own file source queue)
kept_read names used own file source queue =
    kept_with (capacity queue) used file source (drafted names own file source.sentences queue) (kept_drafted names own file source.sentences queue)

pub capacity_is : (names : List Word) (used : Module) (own : Word) (file : ℕ) (source : Source) (queue : List Member) (loaded : LoadedFile)
    → file_read names used own file source queue ≡ read.Loaded loaded → capacity loaded.queue ≡ capacity queue
capacity_is names used own file source queue loaded e = subst (KeptRead (capacity queue)) e (kept_read names used own file source queue)
