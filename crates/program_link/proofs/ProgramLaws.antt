-- A program by what is held of units is that of their files.
use Rattle.std.proofs.Common.{◌≡◌, ℕ, zero, suc, ◌+◌, Bool, true, false, ◌&&◌, ◌==◌, List, [], ◌∷◌, ◌++◌, map, drop, length, cond, refl, ap, sym, subst, ◌∙◌, arith}
use Rattle.std.specs.Prelude.{slice_get, Option, Some, None, option_map, option_and_then}
use Rattle.std.specs.List.{AllByRecursion}
use Rattle.std.specs.Option.{option_map_or}
use Rattle.prog_data.specs.declared.grammars.Grammar.{Grammar}
use Rattle.prog_data.specs.declared.programs.Entry.{Entry}
use Rattle.prog_data.specs.declared.programs.Pred.{Pred}
use Rattle.prog_data.specs.declared.programs.Program.{Program}
use Rattle.ciao_modules.specs.FileNames.{Word}
use Rattle.assertion_normal.specs.Settling.{in_order}
use Rattle.assertion_normal.specs.declared.outcomes.Normal.{Normal}
use Rattle.regtype_grammar.specs.Grammars.{grammar_of}
use Rattle.unit_scopes.specs.Sayings.{File}
use Rattle.unit_scopes.specs.Numbering.{indicators, defines, asserted}
use Rattle.unit_scopes.specs.Imports.{type_modules, is_exported}
use Rattle.unit_scopes.specs.Settings.{settings}
use Rattle.unit_scopes.specs.Sources.{index_exports, AreSources}
use Rattle.unit_scopes.specs.declared.settings.Setting.{Setting}
use Rattle.unit_scopes.specs.declared.sources.Source.{Source}
use Rattle.program_link.specs.FaultOrder.{least}
use Rattle.program_link.specs.Faults.{all_faults}
use Rattle.program_link.specs.Drafts.{drafts}
use Rattle.program_link.specs.Programs.{normals_behind, pred_made, beside, conditions, claims_from, is_main_export, exports_from, entries_or_any, entries_from, program_with, program_by, program_of}
use Rattle.program_link.specs.HeldPrograms.{HasNoTrouble, HasNoProblem, unit_preds_from, draft_held, drafts_held, claims_held, is_main_held, exports_held, entries_by, entries_held, parts_with, parts_by, parts_held, program_held}
use Rattle.program_link.specs.declared.drafts.Draft.{Draft}
use Rattle.program_link.specs.declared.drafts.UnitPred.{UnitPred}
use Rattle.program_link.specs.declared.programs.ProgramParts.{ProgramParts}
use Rattle.program_link.proofs.ClaimLaws.{claims_are}
use Rattle.program_link.proofs.DraftLaws.{StandsFrom, stands_all, drafts_are}
use Rattle.program_link.proofs.HeldLaws.{exports_same}
use Rattle.program_link.proofs.SoundLaws.{drafts_have_no_trouble, drafts_have_no_problem}
use Rattle.program_link.proofs.Untroubled.{no_fault_at}

-- what stands at a place, and what is left from it on and behind it
abbrev pub AtFront : {A : Type 0} → Option A → List A → List A → Type 0
AtFront None left behind = (left ≡ []) × (behind ≡ [])
AtFront (Some x) left behind = left ≡ x ∷ behind

pub at_front : {A : Type 0} (xs : List A) (n : ℕ) → AtFront (slice_get xs n) (drop n xs) (drop (suc n) xs)
at_front [] zero = (refl, refl)
at_front [] (suc n) = (refl, refl)
at_front (x ∷ xs) zero = refl
at_front (x ∷ xs) (suc n) = at_front xs n

-- nothing stands beside nothing
pub beside_none : (ds : List Draft) → beside ds [] ≡ []
beside_none [] = refl
beside_none (d ∷ ds) = refl

-- exports and entries

module _ (files : List File) (sources : List Source) (are : AreSources 0 0 files sources) where
  -- the main unit exports what its file exports
  main_same : (p : UnitPred) → is_main_held sources p ≡ is_main_export files (draft_held sources p)
  main_same p = by files sources are
    where
      by : (fs : List File) (ss : List Source) → AreSources 0 0 fs ss → is_main_held ss p ≡ is_main_export fs (draft_held sources p)
      by [] ss e = ap (λ xs. is_main_held xs p) e
      by (f ∷ fs) [] h = absurd h
      by (f ∷ fs) (s ∷ ss) h = ap (λ b. (p.unit == 0) && b) (exports_same f s (record { file = h.0.file; parts = h.0.parts; index = h.0.index }) p.indicator)

  exports_are : (n : ℕ) (ps : List UnitPred) → exports_held sources n ps ≡ exports_from files n (map (draft_held sources) ps)
  exports_are n [] = refl
  exports_are n (p ∷ ps) = λ i. cond (main_same p i) (n ∷ []) [] ++ exports_are (suc n) ps i

  module _ (normals : List Normal) where
    entries_are : (n : ℕ) (ps : List UnitPred) → entries_held sources normals n ps ≡ entries_from files n (beside (map (draft_held sources) ps) (drop n normals))
    entries_are n [] = ap (entries_from files n) (nothing (drop n normals))
      where
        nothing : (ms : List Normal) → [] ≡ beside [] ms
        nothing [] = refl
        nothing (m ∷ ms) = refl
    entries_are n (p ∷ ps) = by (slice_get normals n) (at_front normals n) (entries_are (suc n) ps)
      where
        by : (o : Option Normal) → AtFront o (drop n normals) (drop (suc n) normals) → entries_held sources normals (suc n) ps ≡ entries_from files (suc n) (beside (map (draft_held sources) ps) (drop (suc n) normals))
            → entries_by (is_main_held sources p) n o ++ entries_held sources normals (suc n) ps ≡ entries_from files n (beside (map (draft_held sources) (p ∷ ps)) (drop n normals))
        by None front rest =
            rest ∙ ap (λ ms. entries_from files (suc n) (beside (map (draft_held sources) ps) ms)) front.1 ∙ ap (entries_from files (suc n)) (beside_none (map (draft_held sources) ps))
            ∙ sym (ap (λ ms. entries_from files n (beside (map (draft_held sources) (p ∷ ps)) ms)) front.0)
        by (Some m) front rest =
            (λ i. cond (main_same p i) (entries_or_any n m.entries) [] ++ rest i)
            ∙ sym (ap (λ ms. entries_from files n (beside (map (draft_held sources) (p ∷ ps)) ms)) front)

-- files

files_are : (at first : ℕ) (fs : List File) (ss : List Source) → AreSources at first fs ss → map (λ s. s.file) ss ≡ map (λ f. f.unit.file) fs
files_are at first [] ss are = ap (map (λ s. s.file)) are
files_are at first (f ∷ fs) [] are = absurd are
files_are at first (f ∷ fs) (s ∷ ss) are = let rest = files_are (suc at) (length (indicators f) + first) fs ss are.1 in λ i. are.0.file i ∷ rest i

-- assertions are about predicates of their files
among_from : (names : List Word) (files : List File) → least (all_faults names files) ≡ None → (at : ℕ) (fs : List File) → StandsFrom files at fs → AllByRecursion (λ f. AllByRecursion (λ a. defines f (asserted a) ≡ true) f.parts.assertions) fs
among_from names files none at [] stands = tt
among_from names files none at (f ∷ fs) stands = ((no_fault_at names files none at f stands.0).assertions, among_from names files none (suc at) fs stands.1)

-- programs

module _ (names : List Word) (files : List File) (sources : List Source) (ss : List Setting) (are : AreSources 0 0 files sources) (same : ss ≡ settings files) (none : least (all_faults names files) ≡ None) where
  pub held_no_trouble : AllByRecursion (HasNoTrouble names ss) (drafts_held sources)
  held_no_trouble =
      subst (λ xs. AllByRecursion (HasNoTrouble names xs) (drafts_held sources)) (sym same)
      (subst (AllByRecursion (HasNoTrouble names (settings files))) (sym (drafts_are files sources are)) (drafts_have_no_trouble names files none))

  pub held_no_problem : AllByRecursion (HasNoProblem ss) (drafts_held sources)
  held_no_problem =
      subst (λ xs. AllByRecursion (HasNoProblem xs) (drafts_held sources)) (sym same)
      (subst (AllByRecursion (HasNoProblem (settings files))) (sym (drafts_are files sources are)) (drafts_have_no_problem names files none))

  -- the parts that are held are those of the program
  parts_same : (normals : List Normal) (made : Grammar × List Pred) → program_held names made.0 (parts_with sources (unit_preds_from 0 sources) normals made.1) ≡ program_with names files normals made
  parts_same normals made =
      let named = files_are 0 0 files sources are in
      let told = claims_are normals 0 0 0 files sources are (among_from names files none 0 files (stands_all files)) in
      let ds = drafts_are files sources are in
      let exports = exports_are files sources are 0 (unit_preds_from 0 sources) ∙ ap (exports_from files 0) ds in
      let entries = entries_are files sources are normals 0 (unit_preds_from 0 sources) ∙ ap (λ xs. entries_from files 0 (beside xs normals)) ds in
      λ i. record (program_with names files normals made) { files = named i; claims = told i; exports = exports i; entries = entries i }

  -- a program of parts and the grammar behind them
  abbrev of_parts : Option (Grammar × ProgramParts) → Option Program
  of_parts o = option_map (λ r. program_held names r.0 r.1) o

  by_same : (given : Grammar × List Normal) → of_parts (parts_by sources ss (unit_preds_from 0 sources) given) ≡ program_by names files given
  by_same given =
      mapped (in_order (pred_made ss) (given.0, []) (beside (drafts_held sources) given.1))
      ∙ (λ i. option_map (program_with names files given.1) (in_order (pred_made (same i)) (given.0, []) (beside (drafts_are files sources are i) given.1)))
    where
      mapped : (o : Option (Grammar × List Pred)) → of_parts (option_map (λ made. (made.0, parts_with sources (unit_preds_from 0 sources) given.1 made.1)) o) ≡ option_map (program_with names files given.1) o
      mapped None = refl
      mapped (Some made) = ap Some (parts_same given.1 made)

  pub held_program : (g : Grammar) → grammar_of (type_modules files) ≡ Some g → of_parts (parts_held names sources ss (unit_preds_from 0 sources) g) ≡ program_of names files
  held_program g e =
      followed (normals_behind names ss (g, []) (drafts_held sources))
      ∙ (λ i. option_and_then (program_by names files) (normals_behind names (same i) (g, []) (drafts_are files sources are i)))
      ∙ sym (ap (λ o. option_and_then (λ h. option_and_then (program_by names files) (normals_behind names (settings files) (h, []) (drafts files))) o) e)
    where
      followed : (o : Option (Grammar × List Normal)) → of_parts (option_and_then (parts_by sources ss (unit_preds_from 0 sources)) o) ≡ option_and_then (program_by names files) o
      followed None = refl
      followed (Some given) = by_same given

  -- what is made is the program
  pub program_is : (g : Grammar) → grammar_of (type_modules files) ≡ Some g → (new : Grammar) (parts : ProgramParts) (program : Program)
      → parts_held names sources ss (unit_preds_from 0 sources) g ≡ Some (new, parts) → program ≡ program_held names new parts → program_of names files ≡ Some program
  program_is g e new parts program made is = sym (held_program g e) ∙ ap of_parts made ∙ ap Some (sym is)

  -- where there is no room, there is none
  pub no_program : (g : Grammar) → grammar_of (type_modules files) ≡ Some g → parts_held names sources ss (unit_preds_from 0 sources) g ≡ None → program_of names files ≡ None
  no_program g e made = sym (held_program g e) ∙ ap of_parts made
