-- The predicates of files in range, and what is seen in each file.
use Rattle.std.proofs.Common.{◌≡◌, ℕ, zero, suc, ◌+◌, ◌<◌, ◌≤◌, Bool, true, false, List, [], ◌∷◌, ◌++◌, map, length, refl, sym, subst, arith}
use Rattle.std.specs.Prelude.{cond, filter, slice_get, not, ◌==◌, ◌&&◌, Option, Some, None}
use Rattle.std.specs.List.{AllByRecursion}
use Rattle.std.proofs.lemmas.Bool.{and_parts}
use Rattle.std.proofs.lemmas.Bool.Decides.{nat_tests}
use Rattle.std.proofs.lemmas.List.{length-map}
use Rattle.term_core.specs.Shapes.{greatest_arity}
use Rattle.term_core.proofs.OperandLaws.{none_part, some_part}
use Rattle.ciao_reader.specs.Ranges.{IsSentenceInRange}
use Rattle.ciao_reader.specs.declared.sentences.Sentence.{Sentence}
use Rattle.assertion_read.specs.Ranges.{IsAssertionInRange}
use Rattle.assertion_read.specs.declared.assertions.Assertion.{Assertion}
use Rattle.assertion_normal.specs.Ranges.{AreAbout}
use Rattle.regtype_grammar.specs.RuleNames.{AreTypesInRange}
use Rattle.regtype_grammar.specs.TypeNames.{AreKindsBelow, first_names, numbered as kinds_of}
use Rattle.body_code.specs.Clauses.{indicator_of}
use Rattle.body_code.specs.Ranges.{HeadsAreInRange}
use Rattle.body_code.specs.declared.faults.Indicator.{Indicator}
use Rattle.body_code.specs.declared.scopes.Named.{Named}
use Rattle.unit_scopes.specs.Indicators.{same_indicator, is_among}
use Rattle.unit_scopes.specs.Ranges.{IsFileInRange}
use Rattle.unit_scopes.specs.Sayings.{File}
use Rattle.unit_scopes.specs.Numbering.{with_head, heads_behind, indicators, defines, is_clause_of as is_clause_about, clauses_of, asserted, assertions_of, first_pred, numbered}
use Rattle.unit_scopes.specs.Imports.{gets, indicator_named, imported, type_indicator, type_of, type_modules_from, type_modules}
use Rattle.unit_scopes.specs.Settings.{settings_from}
use Rattle.unit_scopes.specs.declared.settings.Setting.{Setting}
use Rattle.unit_scopes.specs.declared.sayings.Declared.{Declared}
use Rattle.program_link.specs.Drafts.{draft_of, drafts_from, drafts}
use Rattle.program_link.specs.declared.drafts.Draft.{Draft}
use Rattle.program_link.proofs.ProgramLists.{each_append, each_map, each_more, each_passed, each_filter, Stand, stand_self, stand_parts}

-- predicates

-- a predicate whose name is below a number, with its clauses in range, and with assertions in range that are about it
pub record DraftIn (names : ℕ) (d : Draft) : Type 0 where
  pub name : d.indicator.name < names
  pub arity : d.indicator.arity ≤ greatest_arity
  pub clauses : AllByRecursion (λ s. IsSentenceInRange names s × (is_clause_about d.indicator s ≡ true)) d.clauses
  pub assertions : AreAbout names d.indicator.arity d.assertions

equal : (n m : ℕ) → (n == m) ≡ true → n ≡ m
equal n m e = grind (arith, nat_tests)

-- what is so of the predicate of each clause is so of all
heads_each : (P : Indicator → Type 0) (ps : List Indicator) (ss : List Sentence) → AllByRecursion P ps → AllByRecursion (λ s. (p : Indicator) → indicator_of s.term ≡ Some p → P p) ss → AllByRecursion P (heads_behind ps ss)
heads_each P ps [] h k = h
heads_each P ps (s ∷ ss) h k = heads_each P (with_head ps (indicator_of s.term)) ss (one (indicator_of s.term) k.0) k.1
  where
    new : (p : Indicator) → P p → (b : Bool) → AllByRecursion P (cond b ps (ps ++ p ∷ []))
    new p is true = h
    new p is false = each_append P ps (p ∷ []) h (is, tt)

    one : (o : Option Indicator) → ((p : Indicator) → o ≡ Some p → P p) → AllByRecursion P (with_head ps o)
    one None is = h
    one (Some p) is = new p (is p refl) (is_among p ps)

module _ (names : ℕ) where
  same_arity : (p : Indicator) (a : Assertion) → same_indicator p (asserted a) ≡ true → a.arity ≡ p.arity
  same_arity p a e = sym (equal p.arity a.arity (and_parts (p.name == a.name) (p.arity == a.arity) e).1)

  abbrev IndicatorIn : Indicator → Type 0
  IndicatorIn p = (p.name < names) × (p.arity ≤ greatest_arity)

  draft_in : (at : ℕ) (f : File) → IsFileInRange names f → (p : Indicator) → IndicatorIn p → DraftIn names (draft_of at f p)
  draft_in at f h p is = record {
    name = is.0;
    arity = is.1;
    clauses = each_passed (IsSentenceInRange names) (is_clause_about p) f.parts.clauses h.clauses;
    assertions = each_more (λ a. IsAssertionInRange names a × (same_indicator p (asserted a) ≡ true)) (λ a. (a.arity ≡ p.arity) × IsAssertionInRange names a) (λ a held. (same_arity p a held.1, held.0)) (assertions_of f p)
        (each_passed (IsAssertionInRange names) (λ a. same_indicator p (asserted a)) f.parts.assertions h.assertions);
  }

  module _ (heads : HeadsAreInRange) where
    indicators_in : (f : File) → IsFileInRange names f → AllByRecursion IndicatorIn (indicators f)
    indicators_in f h = heads_each IndicatorIn [] f.parts.clauses tt (each_more (IsSentenceInRange names) (λ s. (p : Indicator) → indicator_of s.term ≡ Some p → IndicatorIn p) (λ s is p e. heads names s p is e) f.parts.clauses h.clauses)

    pub drafts_in : (at : ℕ) (fs : List File) → AllByRecursion (IsFileInRange names) fs → AllByRecursion (DraftIn names) (drafts_from at fs)
    drafts_in at [] h = tt
    drafts_in at (f ∷ fs) h =
        each_append (DraftIn names) (map (draft_of at f) (indicators f)) (drafts_from (suc at) fs)
        (each_map (DraftIn names) (draft_of at f) (indicators f) (each_more IndicatorIn (λ p. DraftIn names (draft_of at f p)) (draft_in at f h.0) (indicators f) (indicators_in f h.0))) (drafts_in (suc at) fs h.1)

  -- types

  types_of_in : (f : File) → IsFileInRange names f → (ds : List Declared) → AllByRecursion (λ t. AllByRecursion (IsSentenceInRange names) t.clauses) (map (type_of f) ds)
  types_of_in f h [] = tt
  types_of_in f h (d ∷ ds) = (each_filter (IsSentenceInRange names) (is_clause_about (type_indicator d.name)) f.parts.clauses h.clauses, types_of_in f h ds)

  pub types_in : (files : List File) (at : ℕ) (fs : List File) → AllByRecursion (IsFileInRange names) fs → AllByRecursion (AreTypesInRange names) (type_modules_from files at fs)
  types_in files at [] h = tt
  types_in files at (f ∷ fs) h = (types_of_in f h.0 f.parts.types, types_in files (suc at) fs h.1)

-- what is seen

-- the number of a predicate that is seen is that of one with as many arguments
abbrev pub HasDraft : List Draft → Named → Type 0
HasDraft all n = (d : Draft) × (slice_get all n.pred ≡ Some d) × (d.indicator.arity ≡ n.arity)

module _ (all : List Draft) where
  numbered_stand : (n at : ℕ) (f : File) (ps : List Indicator) → Stand all n (map (draft_of at f) ps) → AllByRecursion (HasDraft all) (numbered n ps)
  numbered_stand n at f [] h = tt
  numbered_stand n at f (p ∷ ps) h = ((draft_of at f p, h.0, refl), numbered_stand (suc n) at f ps h.1)

  -- the predicates of the first file, and those of the others
  file_parts : (at n : ℕ) (g : File) (gs : List File) → Stand all n (drafts_from at (g ∷ gs)) → Stand all n (map (draft_of at g) (indicators g)) × Stand all (length (indicators g) + n) (drafts_from (suc at) gs)
  file_parts at n g gs h =
      let same : length (map (draft_of at g) (indicators g)) ≡ length (indicators g) = length-map (indicators g) (draft_of at g) in
      stand_parts all n (map (draft_of at g) (indicators g)) (drafts_from (suc at) gs) (length (indicators g) + n) (omega (arith, same)) h

  own_numbered : (at n : ℕ) (files : List File) → Stand all n (drafts_from at files) → (k : ℕ) (f : File) → slice_get files k ≡ Some f → (m : ℕ) → m ≡ first_pred files k + n → AllByRecursion (HasDraft all) (numbered m (indicators f))
  own_numbered at n [] h k f e m i = absurd (none_part f e)
  own_numbered at n (g ∷ gs) h zero f e m i =
      let is : m ≡ 0 + n = i in
      let same : n ≡ m = omega (arith, is) in
      let own = subst (λ j. Stand all j (map (draft_of at g) (indicators g))) same (file_parts at n g gs h).0 in
      subst (λ x. AllByRecursion (HasDraft all) (numbered m (indicators x))) (some_part g f e) (numbered_stand m at g (indicators g) own)
  own_numbered at n (g ∷ gs) h (suc k) f e m i =
      let is : m ≡ length (indicators g) + first_pred gs k + n = i in
      own_numbered (suc at) (length (indicators g) + n) gs (file_parts at n g gs h).1 k f e m (omega (arith, is))

  imported_numbered : (f : File) (at n : ℕ) (gs : List File) → Stand all n (drafts_from at gs) → AllByRecursion (HasDraft all) (imported f at n gs)
  imported_numbered f at n [] h = tt
  imported_numbered f at n (g ∷ gs) h =
      let parts = file_parts at n g gs h in
      let test : Named → Bool = λ m. gets f at g (indicator_named m) && not (defines f (indicator_named m)) in
      each_append (HasDraft all) (filter test (numbered n (indicators g))) (imported f (suc at) (length (indicators g) + n) gs)
      (each_filter (HasDraft all) test (numbered n (indicators g)) (numbered_stand n at g (indicators g) parts.0)) (imported_numbered f (suc at) (length (indicators g) + n) gs parts.1)

-- what predicates of a file have in common: names below a number, types among so many grammar names, and predicates among these
pub record SettingIn (names size : ℕ) (all : List Draft) (s : Setting) : Type 0 where
  pub file : s.file < names
  pub owner : s.«module» < names
  pub types : AreKindsBelow size s.scope.types
  pub preds : AllByRecursion (HasDraft all) s.scope.preds

module _ (names size : ℕ) (files : List File) where
  pub settings_in : (at : ℕ) (fs : List File) → Stand files at fs → AllByRecursion (IsFileInRange names) fs → AllByRecursion (AreKindsBelow size) (map (λ m. kinds_of (first_names (type_modules files)) m.visible) (type_modules_from files at fs))
      → AllByRecursion (SettingIn names size (drafts files)) (settings_from files at fs)
  settings_in at [] s h k = tt
  settings_in at (f ∷ fs) s h k =
      let all = drafts files in (
        record {
          file = h.0.file;
          owner = h.0.name;
          types = k.0;
          preds = each_append (HasDraft all) (numbered (first_pred files at) (indicators f)) (imported f 0 0 files)
              (own_numbered all 0 0 files (stand_self all) at f s.0 (first_pred files at) (omega arith)) (imported_numbered all f 0 0 files (stand_self all));
        },
        settings_in (suc at) fs s.1 h.1 k.1,
      )
