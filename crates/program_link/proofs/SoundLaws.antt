-- Where no fault is found, no assertion about a predicate is in trouble, and none of its clauses has a problem.
use Rattle.std.proofs.Common.{◌≡◌, ℕ, suc, ◌+◌, Bool, true, false, List, [], ◌∷◌, ◌++◌, map, cond, refl, ap, sym, ◌∙◌, subst, arith}
use Rattle.std.specs.Prelude.{filter, slice_get, Option, Some, None, option_map}
use Rattle.std.specs.List.{AllByRecursion}
use Rattle.term_core.proofs.OperandLaws.{some_part}
use Rattle.prog_data.specs.declared.grammars.Seen.{Seen}
use Rattle.ciao_modules.specs.FileNames.{Word}
use Rattle.ciao_reader.specs.declared.sentences.Sentence.{Sentence}
use Rattle.assertion_read.specs.declared.assertions.Assertion.{Assertion}
use Rattle.assertion_normal.specs.Troubles.{trouble_of, troubled, at_line, sooner, least_from, least_trouble}
use Rattle.body_code.specs.Clauses.{problem_of}
use Rattle.body_code.specs.declared.faults.Indicator.{Indicator}
use Rattle.unit_scopes.specs.Indicators.{same_indicator}
use Rattle.unit_scopes.specs.Sayings.{File}
use Rattle.unit_scopes.specs.Numbering.{indicators, is_clause_of, clauses_of, asserted, assertions_of}
use Rattle.unit_scopes.specs.Imports.{kinds_seen, scope_of}
use Rattle.unit_scopes.specs.Settings.{setting_of, settings}
use Rattle.unit_scopes.specs.declared.settings.Setting.{Setting}
use Rattle.program_link.specs.FaultOrder.{least}
use Rattle.program_link.specs.Faults.{all_faults}
use Rattle.program_link.specs.Drafts.{draft_of, drafts_from, drafts}
use Rattle.program_link.specs.HeldPrograms.{HasNoTrouble, AreClauses, HasNoProblem}
use Rattle.program_link.specs.declared.drafts.Draft.{Draft}
use Rattle.program_link.proofs.DraftLaws.{StandsFrom, stands_all}
use Rattle.program_link.proofs.HeldLaws.{setting_there}
use Rattle.program_link.proofs.Untroubled.{HasNoFault, no_fault_at}

-- what is so of each

each_append : {A : Type 0} (P : A → Type 0) (xs ys : List A) → AllByRecursion P xs → AllByRecursion P ys → AllByRecursion P (xs ++ ys)
each_append P [] ys h k = k
each_append P (x ∷ xs) ys h k = (h.0, each_append P xs ys h.1 k)

each_filter : {A : Type 0} (P : A → Type 0) (test : A → Bool) (xs : List A) → AllByRecursion P xs → AllByRecursion P (filter test xs)
each_filter P test [] h = tt
each_filter P test (x ∷ xs) h = by (test x) (each_filter P test xs h.1)
  where
    by : (b : Bool) → AllByRecursion P (filter test xs) → AllByRecursion P (cond b (x ∷ filter test xs) (filter test xs))
    by true rest = (h.0, rest)
    by false rest = rest

each_map : {A B : Type 0} (P : B → Type 0) (f : A → B) → ((x : A) → P (f x)) → (xs : List A) → AllByRecursion P (map f xs)
each_map P f so [] = tt
each_map P f so (x ∷ xs) = (so x, each_map P f so xs)

-- assertions without trouble have no first one
no_least : (names : List Word) (seen : List Seen) (list : List Assertion) → AllByRecursion (λ a. trouble_of names seen a ≡ None) list → least_trouble names seen list ≡ None
no_least names seen [] h = refl
no_least names seen (a ∷ rest) h = ap (λ t. least_from (sooner None (option_map (at_line a.line) t)) (map (troubled names seen) rest)) h.0 ∙ no_least names seen rest h.1

module _ (names : List Word) (files : List File) (none : least (all_faults names files) ≡ None) where
  -- predicates of one file
  module _ (at : ℕ) (f : File) (is : slice_get files at ≡ Some f) (p : Indicator) where
    setting_is : (s : Setting) → slice_get (settings files) at ≡ Some s → setting_of files at f ≡ s
    setting_is s there = some_part (setting_of files at f) s (sym (setting_there files 0 files at f is at (omega arith)) ∙ there)

    draft_has_no_trouble : HasNoTrouble names (settings files) (draft_of at f p)
    draft_has_no_trouble s there =
        subst (λ t. least_trouble names t.scope.types (assertions_of f p) ≡ None) (setting_is s there)
        (no_least names (kinds_seen files at f) (assertions_of f p)
        (each_filter (λ a. trouble_of names (kinds_seen files at f) a ≡ None) (λ a. same_indicator p (asserted a)) f.parts.assertions (no_fault_at names files none at f is).properties))

    draft_has_no_problem : HasNoProblem (settings files) (draft_of at f p)
    draft_has_no_problem s there =
        subst (λ t. AreClauses t (clauses_of f p)) (setting_is s there)
        (each_filter (λ c. problem_of (scope_of files at f) c.term ≡ None) (is_clause_of p) f.parts.clauses (no_fault_at names files none at f is).clauses)

  -- those of files that stand from a place on
  trouble_from : (at : ℕ) (fs : List File) → StandsFrom files at fs → AllByRecursion (HasNoTrouble names (settings files)) (drafts_from at fs)
  trouble_from at [] stands = tt
  trouble_from at (f ∷ fs) stands =
      each_append (HasNoTrouble names (settings files)) (map (draft_of at f) (indicators f)) (drafts_from (suc at) fs)
      (each_map (HasNoTrouble names (settings files)) (draft_of at f) (draft_has_no_trouble at f stands.0) (indicators f))
      (trouble_from (suc at) fs stands.1)

  problem_from : (at : ℕ) (fs : List File) → StandsFrom files at fs → AllByRecursion (HasNoProblem (settings files)) (drafts_from at fs)
  problem_from at [] stands = tt
  problem_from at (f ∷ fs) stands =
      each_append (HasNoProblem (settings files)) (map (draft_of at f) (indicators f)) (drafts_from (suc at) fs)
      (each_map (HasNoProblem (settings files)) (draft_of at f) (draft_has_no_problem at f stands.0) (indicators f))
      (problem_from (suc at) fs stands.1)

  pub drafts_have_no_trouble : AllByRecursion (HasNoTrouble names (settings files)) (drafts files)
  drafts_have_no_trouble = trouble_from 0 files (stands_all files)

  pub drafts_have_no_problem : AllByRecursion (HasNoProblem (settings files)) (drafts files)
  drafts_have_no_problem = problem_from 0 files (stands_all files)
