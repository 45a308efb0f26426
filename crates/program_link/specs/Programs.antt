-- The program of files that have no fault.
-- The headline does not rest on this file.
use Rattle.std.specs.Prelude.{ℕ, zero, suc, ◌+◌, Bool, ◌==◌, ◌&&◌, false, List, [], ◌∷◌, ◌++◌, map, filter, flat_map, length, slice_get, is_some, Option, Some, None, option_map, option_and_then, if◌then◌else◌}
use Rattle.std.specs.Option.{option_map_or}
use Rattle.term_core.specs.Standard.{standard}
use Rattle.ciao_reader.specs.declared.sentences.Sentence.{Sentence}
use Rattle.prog_data.specs.declared.conditions.Cond.{Cond}
use Rattle.prog_data.specs.declared.grammars.Grammar.{Grammar}
use Rattle.prog_data.specs.declared.programs.Claim.{Claim}
use Rattle.prog_data.specs.declared.programs.Clause.{Clause}
use Rattle.prog_data.specs.declared.programs.Entry.{Entry}
use Rattle.prog_data.specs.declared.programs.Pred.{Pred}
use Rattle.prog_data.specs.declared.programs.Program.{Program}
use Rattle.ciao_modules.specs.FileNames.{Word}
use Rattle.assertion_read.specs.declared.assertions.Assertion.{Assertion}
use Rattle.assertion_normal.specs.Normals.{normalised}
use Rattle.assertion_normal.specs.Settling.{counts, keyword_of, in_order}
use Rattle.assertion_normal.specs.declared.outcomes.Normal.{Normal}
use Rattle.regtype_grammar.specs.Grammars.{grammar_of}
use Rattle.body_code.specs.Clauses.{compiled}
use Rattle.unit_scopes.specs.Indicators.{same_indicator, place_of}
use Rattle.unit_scopes.specs.Sayings.{File}
use Rattle.unit_scopes.specs.Numbering.{indicators, asserted}
use Rattle.unit_scopes.specs.Settings.{settings}
use Rattle.program_link.specs.Drafts.{drafts}
use Rattle.unit_scopes.specs.Imports.{is_exported, type_modules}
use Rattle.program_link.specs.declared.drafts.Draft.{Draft}
use Rattle.unit_scopes.specs.declared.settings.Setting.{Setting}
use Rattle.body_code.specs.declared.faults.Indicator.{Indicator}

-- settings

-- what is asked of the setting of a predicate
abbrev pub in_setting : {A : Type 0} → List Setting → Draft → (Setting → Option A) → Option A
in_setting ss d asked = option_and_then asked (slice_get ss d.unit)

-- conditions

-- the conditions of all predicates, by what the assertions of each give
abbrev pub conditions : List Normal → List Cond
conditions normals = flat_map (λ m. m.conds) normals

-- what the assertions of the next predicate give, and the grammar behind them; its number is that of the predicates before it, and its conditions are numbered on from theirs
abbrev pub next_normal : List Word → Grammar × List Normal → Draft → Setting → Option (Grammar × Normal)
next_normal names so_far d s =
    normalised names s.file s.scope.types so_far.0 (length so_far.1) (length (conditions so_far.1)) d.assertions

-- what those of predicates give, in order, behind those before; none where the grammar has no room
abbrev pub normals_behind : List Word → List Setting → Grammar × List Normal → List Draft → Option (Grammar × List Normal)
normals_behind names ss so_far [] = Some so_far
normals_behind names ss so_far (d ∷ ds) =
    option_and_then (λ made. normals_behind names ss (made.0, so_far.1 ++ made.1 ∷ []) ds) (in_setting ss d (next_normal names so_far d))

-- predicates

-- a clause and the grammar behind it, from the grammar before; none where that has no room
abbrev pub clause_made : Setting → Grammar → Sentence → Option (Grammar × Clause)
clause_made s g sentence = option_map (λ made. (made.1, made.0.clause)) (compiled s.scope s.file sentence g)

-- a predicate with these clauses, and the conditions that its assertions give
abbrev pub pred_with : Setting → Draft → Normal → List Clause → Pred
pred_with s d m clauses = record {
  «module» = s.«module»;
  name = d.indicator.name;
  arity = d.indicator.arity;
  clauses = clauses;
  conds = map (λ c. c.id) m.conds;
  call_checks = [];
}

-- a predicate and the grammar behind its clauses
abbrev pub pred_in : Grammar → Draft × Normal → Setting → Option (Grammar × Pred)
pred_in g dm s = option_map (λ made. (made.0, pred_with s dm.0 dm.1 made.1)) (in_order (clause_made s) (g, []) dm.0.clauses)

abbrev pub pred_made : List Setting → Grammar → Draft × Normal → Option (Grammar × Pred)
pred_made ss g dm = in_setting ss dm.0 (pred_in g dm)

-- predicates beside what their assertions give
abbrev pub beside : List Draft → List Normal → List (Draft × Normal)
beside (d ∷ ds) (m ∷ ms) = (d, m) ∷ beside ds ms
beside ds ms = []

-- claims

-- whether an assertion is reported: it has an effect, and is no entry
abbrev pub is_reported : Assertion → Bool
is_reported a = counts a.mark && is_some (keyword_of a.keyword)

-- the claims about a predicate that an assertion is about, its file having these predicates, numbered on from a number
abbrev pub claims_about : List Normal → ℕ → List Indicator → Assertion → List Claim
claims_about normals first ps a = option_map_or (λ m. m.claims) (slice_get normals (place_of (asserted a) ps + first)) []

-- which of the claims about its predicate is that of an assertion: it has as many before it as reported assertions about the predicate stand before
abbrev pub claim_number : List Assertion → Assertion → ℕ
claim_number before a = length (filter (λ b. is_reported b && same_indicator (asserted a) (asserted b)) before)

-- the claim of an assertion behind those before it, if it is reported
abbrev pub claim_in : List Normal → ℕ → List Indicator → List Assertion → Assertion → List Claim
claim_in normals first ps before a =
    if is_reported a then option_map_or (λ c. c ∷ []) (slice_get (claims_about normals first ps a) (claim_number before a)) [] else []

-- the claims of assertions, in order
abbrev pub claims_behind : List Normal → ℕ → List Indicator → List Assertion → List Assertion → List Claim
claims_behind normals first ps before [] = []
claims_behind normals first ps before (a ∷ rest) = claim_in normals first ps before a ++ claims_behind normals first ps (before ++ a ∷ []) rest

-- the claims of files, by file and then by sentence; the predicates of the first are numbered on from a number
abbrev pub claims_from : List Normal → ℕ → List File → List Claim
claims_from normals first [] = []
claims_from normals first (f ∷ fs) = claims_behind normals first (indicators f) [] f.parts.assertions ++ claims_from normals (length (indicators f) + first) fs

-- exports and entries

-- whether a predicate is one that the main file exports
abbrev pub is_main_export : List File → Draft → Bool
is_main_export [] d = false
is_main_export (main ∷ others) d = (d.unit == 0) && is_exported main d.indicator

-- the numbers of those that the main file exports
abbrev pub exports_from : List File → ℕ → List Draft → List ℕ
exports_from files n [] = []
exports_from files n (d ∷ ds) = (if is_main_export files d then n ∷ [] else []) ++ exports_from files (suc n) ds

-- the entries of an exported predicate: those that assertions give, or else any call
abbrev pub entries_or_any : ℕ → List Entry → List Entry
entries_or_any n [] = record { pred = n; pre = [] } ∷ []
entries_or_any n (e ∷ es) = e ∷ es

-- the entries of the predicates that the main file exports
abbrev pub entries_from : List File → ℕ → List (Draft × Normal) → List Entry
entries_from files n [] = []
entries_from files n (dm ∷ rest) = (if is_main_export files dm.0 then entries_or_any n dm.1.entries else []) ++ entries_from files (suc n) rest

-- programs

-- the program of these
abbrev pub program_with : List Word → List File → List Normal → Grammar × List Pred → Program
program_with names files normals made = record {
  names = names;
  ops = standard;
  files = map (λ f. f.unit.file) files;
  preds = made.1;
  conds = conditions normals;
  claims = claims_from normals 0 files;
  grammar = made.0;
  exports = exports_from files 0 (drafts files);
  entries = entries_from files 0 (beside (drafts files) normals);
}

-- the program by what the assertions of its predicates give
abbrev pub program_by : List Word → List File → Grammar × List Normal → Option Program
program_by names files given =
    option_map (program_with names files given.1) (in_order (pred_made (settings files)) (given.0, []) (beside (drafts files) given.1))

-- the program of files: the grammar of their types, the conditions of all predicates, and then their clauses; none where a 513th grammar name is needed
abbrev pub program_of : List Word → List File → Option Program
program_of names files =
    option_and_then (λ g. option_and_then (program_by names files) (normals_behind names (settings files) (g, []) (drafts files)))
    (grammar_of (type_modules files))
