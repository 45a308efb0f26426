-- The program of units in range is in range, and as the linker makes it.
use Rattle.std.proofs.Common.{◌≡◌, ℕ, zero, suc, ◌+◌, ◌<◌, ◌≤◌, true, false, List, [], ◌∷◌, map, length, slice_index_or, drop, refl, ap, sym, ◌∙◌, subst, arith}
use Rattle.std.specs.Prelude.{slice_get, flat_map, Option, Some, None, option_map, option_and_then}
use Rattle.std.specs.List.{list_all, AllByRecursion}
use Rattle.term_core.specs.Names.{fixed_names}
use Rattle.term_core.specs.Shapes.{greatest_arity}
use Rattle.term_core.proofs.OperandLaws.{none_part, some_part}
use Rattle.prog_data.specs.declared.conditions.Cond.{Cond}
use Rattle.prog_data.specs.declared.grammars.Grammar.{Grammar}
use Rattle.prog_data.specs.declared.programs.Pred.{Pred}
use Rattle.prog_data.specs.declared.programs.Program.{Program}
use Rattle.prog_data.specs.Conditions.{is_calls}
use Rattle.prog_data.specs.Goals.{no_pred, pred_of, ends_in_exit, checked_at_call, checked_by_note}
use Rattle.prog_data.specs.Programs.{rises, marked_by, is_check_of, HasCallChecks, conditions_of, IsPred, IsCond, is_claim_of, is_entry_of, IsProgram, IsLinked}
use Rattle.prog_data.specs.Ranges.{is_name_of, is_pred_of, is_clause_of}
use Rattle.assertion_normal.specs.Laws.{RangesGrow}
use Rattle.assertion_normal.specs.Settling.{in_order}
use Rattle.assertion_normal.specs.declared.outcomes.Normal.{Normal}
use Rattle.regtype_grammar.specs.Grammars.{grammar_of}
use Rattle.ciao_modules.specs.UnitRanges.{AreUnitsInRange}
use Rattle.ciao_modules.specs.declared.units.Unit.{Unit as Loaded}
use Rattle.unit_scopes.specs.Ranges.{IsFileInRange}
use Rattle.unit_scopes.specs.Sayings.{File, file_of}
use Rattle.unit_scopes.specs.Imports.{type_modules}
use Rattle.unit_scopes.specs.Settings.{settings}
use Rattle.unit_scopes.specs.declared.settings.Setting.{Setting}
use Rattle.program_link.specs.Drafts.{drafts}
use Rattle.program_link.specs.Programs.{conditions, normals_behind, pred_made, beside, claims_from, exports_from, entries_from, program_with, program_by, program_of}
use Rattle.program_link.specs.declared.drafts.Draft.{Draft}
use Rattle.program_link.proofs.LowerLaws.{LowerLaws}
use Rattle.program_link.proofs.ProgramBodies.{HasArities, ClauseIn, PredIn, is_less, preds_made}
use Rattle.program_link.proofs.ProgramClaims.{claims_each, claims_in, exports_in, entries_in}
use Rattle.program_link.proofs.ProgramConditions.{id_at, IsFound, found_all, of_one, conditions_follow, own_only, calls_first, CondIn, conds_in}
use Rattle.program_link.proofs.ProgramGrammars.{GrammarIn, Beside}
use Rattle.program_link.proofs.ProgramLists.{each_map, each_test, each_more, each_at, Stand, stand_self}
use Rattle.program_link.proofs.ProgramNames.{DraftIn, SettingIn, drafts_in, types_in, settings_in}
use Rattle.program_link.proofs.ProgramNormals.{AreNormals, NormalsMade, normals_grow, normals_made}

-- predicates by their numbers

each_pred : (P : Pred → Type 0) (ps : List Pred) → P no_pred → AllByRecursion P ps → (p : ℕ) → P (slice_index_or ps p no_pred)
each_pred P [] none h zero = none
each_pred P [] none h (suc p) = none
each_pred P (x ∷ xs) none h zero = h.0
each_pred P (x ∷ xs) none h (suc p) = each_pred P xs none h.1 p

-- a predicate without call checks
no_checks : (program : Program) (pred : Pred) → pred.call_checks ≡ [] → HasCallChecks program pred
no_checks program pred e = record {
  kinds = ap (list_all (is_check_of program pred)) e;
  one_calls = subst (λ cs. length (flat_map checked_at_call cs) ≤ 1) (sym e) (omega arith);
  notes_rise = ap (λ cs. rises (flat_map checked_by_note cs)) e;
  one_mark = subst (λ cs. length (flat_map marked_by cs) ≤ 1) (sym e) (omega arith);
  marks_rise = ap (λ cs. list_all rises (flat_map marked_by cs)) e;
}

module _ (names : List (List ℕ)) (all : List Draft) (size : ℕ) where
  -- a predicate of the program, by what it is made of
  record PredAt (ds : List Draft) (ms : List Normal) (k : ℕ) (pred : Pred) : Type 0 where
    draft : Draft
    normal : Normal
    draft_at : slice_get ds k ≡ Some draft
    normal_at : slice_get ms k ≡ Some normal
    made : PredIn names all size (draft, normal) pred
    first : AllByRecursion (λ c. is_calls (Some c.kind) ≡ false) (drop 1 normal.conds)

  pred_at : (number first : ℕ) (ds : List Draft) (ms : List Normal) (ps : List Pred) → AreNormals (length names) size number first ds ms → Beside (PredIn names all size) (beside ds ms) ps → (k : ℕ) (pred : Pred) → slice_get ps k ≡ Some pred → PredAt ds ms k pred
  pred_at number first ds ms [] h b k pred e = absurd (none_part pred e)
  pred_at number first [] ms (p ∷ ps) h b k pred e = absurd b
  pred_at number first (d ∷ ds) [] (p ∷ ps) h b k pred e = absurd b
  pred_at number first (d ∷ ds) (m ∷ ms) (p ∷ ps) h b zero pred e =
      record { draft = d; normal = m; draft_at = refl; normal_at = refl; made = subst (PredIn names all size (d, m)) (some_part p pred e) b.0; first = h.0.owned.calls_first }
  pred_at number first (d ∷ ds) (m ∷ ms) (p ∷ ps) h b (suc k) pred e =
      let rest = pred_at (suc number) (length m.conds + first) ds ms ps h.1 b.1 k pred e in
      record { draft = rest.draft; normal = rest.normal; draft_at = rest.draft_at; normal_at = rest.normal_at; made = rest.made; first = rest.first }

  -- the predicates have as many arguments as those that they are made of
  arities : (number first : ℕ) (ds : List Draft) (ms : List Normal) (ps : List Pred) → AreNormals (length names) size number first ds ms → Beside (PredIn names all size) (beside ds ms) ps
      → (k : ℕ) (d : Draft) → slice_get ds k ≡ Some d → (k < length ps) × ((slice_index_or ps k no_pred).arity ≡ d.indicator.arity)
  arities number first [] ms ps h b k d e = absurd (none_part d e)
  arities number first (x ∷ ds) [] ps h b k d e = absurd h
  arities number first (x ∷ ds) (m ∷ ms) [] h b k d e = absurd b
  arities number first (x ∷ ds) (m ∷ ms) (p ∷ ps) h b zero d e = (omega arith, b.0.arity ∙ ap (λ y. y.indicator.arity) (some_part x d e))
  arities number first (x ∷ ds) (m ∷ ms) (p ∷ ps) h b (suc k) d e =
      let rest = arities (suc number) (length m.conds + first) ds ms ps h.1 b.1 k d e in
      let below : k < length ps = rest.0 in
      (omega (arith, below), rest.1)

  -- no predicate has call checks, and no body ends in an exit
  abbrev IsPlain : Pred → Type 0
  IsPlain pred = (pred.call_checks ≡ []) × AllByRecursion (λ c. ends_in_exit c.body ≡ false) pred.clauses

  plain_preds : (program : Program) → program.names ≡ names → HasArities all program → size ≤ length program.grammar.rules → (ds : List Draft) (ms : List Normal) (ps : List Pred) → Beside (PredIn names all size) (beside ds ms) ps → AllByRecursion IsPlain ps
  plain_preds program is has le ds ms [] b = tt
  plain_preds program is has le [] ms (p ∷ ps) b = absurd b
  plain_preds program is has le (d ∷ ds) [] (p ∷ ps) b = absurd b
  plain_preds program is has le (d ∷ ds) (m ∷ ms) (p ∷ ps) b =
      ((b.0.checks, each_more (ClauseIn names all d.indicator.arity size) (λ c. ends_in_exit c.body ≡ false) (λ c of. (of program is has le).1) p.clauses b.0.clauses), plain_preds program is has le ds ms ps b.1)

-- the program of these
module _ (names : List (List ℕ)) (files : List File) (normals : List Normal) (made : Grammar × List Pred) where
  abbrev whole : Program
  whole = program_with names files normals made

  abbrev size : ℕ
  size = length made.0.rules

  module _ (base : ℕ) (files_are : AllByRecursion (IsFileInRange (length names)) files) (drafts_are : AllByRecursion (DraftIn (length names)) (drafts files)) (normals_are : AreNormals (length names) size 0 0 (drafts files) normals) (grammar_is : GrammarIn names base made.0)
      (preds_are : Beside (PredIn names (drafts files) size) (beside (drafts files) normals) made.1) where
    has : HasArities (drafts files) whole
    has k d e = arities names (drafts files) size 0 0 (drafts files) normals made.1 normals_are preds_are k d e

    found : AllByRecursion (IsFound (conditions normals)) (conditions normals)
    found = found_all (conditions normals) 0 (conditions normals) (stand_self (conditions normals)) (conditions_follow (length names) size 0 0 (drafts files) normals normals_are)

    pred_in_range : (p : ℕ) (pred : Pred) → slice_get made.1 p ≡ Some pred → IsPred whole p pred
    pred_in_range p pred e =
        let here = pred_at names (drafts files) size 0 0 (drafts files) normals made.1 normals_are preds_are p pred e in
        let draft = each_at (DraftIn (length names)) (drafts files) p here.draft drafts_are here.draft_at in
        let is = here.made in
        record {
          «module» = is_less pred.«module» (length names) is.owner;
          name = is_less pred.name (length names) (subst (λ n. n < length names) (sym is.name) draft.name);
          arity = subst (λ n. n ≤ greatest_arity) (sym is.arity) draft.arity;
          clauses = each_test (is_clause_of whole pred.arity) pred.clauses
              (each_more (ClauseIn names (drafts files) here.draft.indicator.arity size) (λ c. is_clause_of whole pred.arity c ≡ true) (λ c of. subst (λ a. is_clause_of whole a c ≡ true) (sym is.arity) (of whole refl has (omega arith)).0) pred.clauses is.clauses);
          conds = is.conds ∙ sym (ap (map (λ c. c.id)) (own_only (length names) size p 0 0 (drafts files) normals p here.normal (omega arith) normals_are here.normal_at));
          calls_first = calls_first whole here.normal.conds pred.conds is.conds (of_one (IsFound (conditions normals)) normals p here.normal found here.normal_at) here.first;
          call_checks = no_checks whole pred is.checks;
        }

    cond_in_range : (c : ℕ) (cond : Cond) → slice_get (conditions normals) c ≡ Some cond → IsCond whole c cond
    cond_in_range c cond e =
        let number : cond.id ≡ c + 0 = id_at 0 (conditions normals) c cond (conditions_follow (length names) size 0 0 (drafts files) normals normals_are) e in
        let is = each_at (CondIn whole (length names)) (conditions normals) c cond (conds_in whole (length names) (drafts files) has 0 0 (drafts files) normals (stand_self (drafts files)) normals_are) e in
        record { id = omega (arith, number); pred = is.0; place = is_less cond.place.file (length names) is.1; kind = is.2 }

    in_range : IsProgram whole
    in_range = record {
      ops = refl;
      files = each_test (is_name_of whole) (map (λ f. f.unit.file) files)
          (each_map (λ n. is_name_of whole n ≡ true) (λ f. f.unit.file) files (each_more (IsFileInRange (length names)) (λ f. is_name_of whole f.unit.file ≡ true) (λ f is. is_less f.unit.file (length names) is.file) files files_are));
      preds = pred_in_range;
      conds = cond_in_range;
      claims = each_test (is_claim_of whole) (claims_from normals 0 files)
          (claims_each (λ c. is_claim_of whole c ≡ true) normals (claims_in whole (drafts files) has 0 0 (drafts files) normals (stand_self (drafts files)) (omega arith) normals_are) 0 files);
      grammar = grammar_is.range;
      rules = grammar_is.named whole refl;
      exports = each_test (is_pred_of whole) (exports_from files 0 (drafts files)) (exports_in whole (drafts files) has files 0 (drafts files) (stand_self (drafts files)));
      entries = each_test (is_entry_of whole) (entries_from files 0 (beside (drafts files) normals)) (entries_in whole (drafts files) has files 0 0 (drafts files) normals (stand_self (drafts files)) normals_are);
    }

    plain : (p : ℕ) → IsPlain names (drafts files) size (pred_of whole p)
    plain p = each_pred (IsPlain names (drafts files) size) made.1 (refl, tt) (plain_preds names (drafts files) size whole refl has (omega arith) (drafts files) normals made.1 preds_are) p

    linked_so : IsLinked whole
    linked_so = record { no_checks = λ p. (plain p).0; no_exit = λ p. (plain p).1 }

-- the program of files

module _ (lower : LowerLaws) (names : List (List ℕ)) (units : List Loaded) (fixed : length fixed_names ≤ length names) (units_are : AreUnitsInRange (length names) units) (program : Program) where
  abbrev files_of : List File
  files_of = map file_of units

  abbrev Ranged : Type 0
  Ranged = IsProgram program × IsLinked program

  files_are_in : AllByRecursion (IsFileInRange (length names)) files_of
  files_are_in = lower.files (length names) (length units) units fixed units_are.all

  drafts_are_in : AllByRecursion (DraftIn (length names)) (drafts files_of)
  drafts_are_in = drafts_in (length names) lower.heads 0 files_of files_are_in

  beside_drafts : (ds : List Draft) (ms : List Normal) → AllByRecursion (DraftIn (length names)) ds → AllByRecursion (λ dm. DraftIn (length names) dm.0) (beside ds ms)
  beside_drafts [] ms h = tt
  beside_drafts (d ∷ ds) [] h = tt
  beside_drafts (d ∷ ds) (m ∷ ms) h = (h.0, beside_drafts ds ms h.1)

  module _ (g : Grammar) (grammar_is : GrammarIn names (length g.rules) g) (settings_are : AllByRecursion (SettingIn (length names) (length g.rules) (drafts files_of)) (settings files_of)) where
    by_normals : (given : Grammar × List Normal) → normals_behind names (settings files_of) (g, []) (drafts files_of) ≡ Some given → program_by names files_of given ≡ Some program → Ranged
    by_normals given e e' = by (in_order (pred_made (settings files_of)) (given.0, []) (beside (drafts files_of) given.1)) refl e'
      where
        first : NormalsMade lower.grow lower.normals names fixed (length g.rules) (drafts files_of) g [] (drafts files_of) given
        first = normals_made lower.grow lower.normals names fixed (length g.rules) (drafts files_of) (settings files_of) settings_are g [] (drafts files_of) given grammar_is drafts_are_in e

        by : (o : Option (Grammar × List Pred)) → in_order (pred_made (settings files_of)) (given.0, []) (beside (drafts files_of) given.1) ≡ o → option_map (program_with names files_of given.1) o ≡ Some program → Ranged
        by None i e'' = absurd (none_part program e'')
        by (Some made) i e'' =
            let bodies = preds_made lower.clauses names fixed (length g.rules) (drafts files_of) (settings files_of) settings_are given.0 (beside (drafts files_of) given.1) made first.grammar (beside_drafts (drafts files_of) given.1 drafts_are_in) i in
            let own = subst (AreNormals (length names) (length given.0.rules) 0 0 (drafts files_of)) (sym first.whole) first.each in
            let normals = normals_grow lower.grow (length names) (length given.0.rules) (length made.0.rules) bodies.1 0 0 (drafts files_of) given.1 own in
            subst (λ p. IsProgram p × IsLinked p) (some_part (program_with names files_of given.1 made) program e'') (
              in_range names files_of given.1 made (length g.rules) files_are_in drafts_are_in normals bodies.0 bodies.2,
              linked_so names files_of given.1 made (length g.rules) files_are_in drafts_are_in normals bodies.0 bodies.2,
            )

    by_grammar : (o : Option (Grammar × List Normal)) → normals_behind names (settings files_of) (g, []) (drafts files_of) ≡ o → option_and_then (program_by names files_of) o ≡ Some program → Ranged
    by_grammar None i e = absurd (none_part program e)
    by_grammar (Some given) i e = by_normals given i e

  of_types : (g : Grammar) → grammar_of (type_modules files_of) ≡ Some g → option_and_then (program_by names files_of) (normals_behind names (settings files_of) (g, []) (drafts files_of)) ≡ Some program → Ranged
  of_types g i e =
      let of = lower.grammars (type_modules files_of) g (lower.seen files_of) i in
      let grammar : GrammarIn names (length g.rules) g = record {
        range = of.range;
        enough = omega arith;
        named = λ other is. of.named other (subst (λ ns. length fixed_names ≤ length ns) (sym is) fixed) (types_in (length other.names) files_of 0 files_of (subst (λ ns. AllByRecursion (IsFileInRange (length ns)) files_of) (sym is) files_are_in));
      } in
      by_grammar g grammar (settings_in (length names) (length g.rules) files_of 0 files_of (stand_self files_of) files_are_in of.seen) (normals_behind names (settings files_of) (g, []) (drafts files_of)) refl e

  -- where there is one
  pub program_in_range : program_of names files_of ≡ Some program → IsProgram program × IsLinked program
  program_in_range e = by (grammar_of (type_modules files_of)) refl e
    where
      by : (o : Option Grammar) → grammar_of (type_modules files_of) ≡ o → option_and_then (λ g. option_and_then (program_by names files_of) (normals_behind names (settings files_of) (g, []) (drafts files_of))) o ≡ Some program → Ranged
      by None i e' = absurd (none_part program e')
      by (Some g) i e' = of_types g i e'
