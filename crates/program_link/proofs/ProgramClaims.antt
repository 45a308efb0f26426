-- The claims, exports and entries of a program are in range.
use Rattle.std.proofs.Common.{◌≡◌, ℕ, zero, suc, ◌+◌, ◌<◌, ◌≤◌, Bool, true, false, List, [], ◌∷◌, ◌++◌, length, refl, ap, sym, subst, length-append, arith}
use Rattle.std.specs.Prelude.{cond, slice_get, ◌&&◌, Option, Some, None}
use Rattle.std.specs.List.{list_all, AllByRecursion}
use Rattle.std.specs.Option.{option_map_or}
use Rattle.std.proofs.lemmas.Bool.{and_from}
use Rattle.prog_data.specs.declared.programs.Claim.{Claim}
use Rattle.prog_data.specs.declared.programs.Entry.{Entry}
use Rattle.prog_data.specs.declared.programs.Program.{Program}
use Rattle.prog_data.specs.Goals.{pred_of}
use Rattle.prog_data.specs.Programs.{is_claim_of, is_entry_of}
use Rattle.prog_data.specs.Ranges.{is_place_of, is_pred_of, is_cond_of, is_prop_of, are_props_of}
use Rattle.assertion_read.specs.declared.assertions.Assertion.{Assertion}
use Rattle.assertion_normal.specs.Laws.{IsClaimOf}
use Rattle.assertion_normal.specs.declared.outcomes.Normal.{Normal}
use Rattle.body_code.specs.declared.faults.Indicator.{Indicator}
use Rattle.unit_scopes.specs.Indicators.{place_of}
use Rattle.unit_scopes.specs.Sayings.{File}
use Rattle.unit_scopes.specs.Numbering.{indicators, asserted}
use Rattle.program_link.specs.Programs.{conditions, beside, is_reported, claims_about, claim_number, claim_in, claims_behind, claims_from, is_main_export, exports_from, entries_or_any, entries_from}
use Rattle.program_link.specs.declared.drafts.Draft.{Draft}
use Rattle.program_link.proofs.ProgramBodies.{HasArities, is_less}
use Rattle.program_link.proofs.ProgramLists.{each_append, each_test, each_more, each_both, each_at, Stand}
use Rattle.program_link.proofs.ProgramNormals.{AreNormals}

-- each claim is one of what the assertions of a predicate give
module _ (P : Claim → Type 0) (normals : List Normal) (each : AllByRecursion (λ m. AllByRecursion P m.claims) normals) where
  about_each : (first : ℕ) (ps : List Indicator) (a : Assertion) → AllByRecursion P (claims_about normals first ps a)
  about_each first ps a = by (slice_get normals (place_of (asserted a) ps + first)) refl
    where
      by : (o : Option Normal) → slice_get normals (place_of (asserted a) ps + first) ≡ o → AllByRecursion P (option_map_or (λ m. m.claims) o [])
      by None e = tt
      by (Some m) e = each_at (λ n. AllByRecursion P n.claims) normals (place_of (asserted a) ps + first) m each e

  claim_each : (first : ℕ) (ps : List Indicator) (before : List Assertion) (a : Assertion) → AllByRecursion P (claim_in normals first ps before a)
  claim_each first ps before a = by (is_reported a)
    where
      found : (o : Option Claim) → slice_get (claims_about normals first ps a) (claim_number before a) ≡ o → AllByRecursion P (option_map_or (λ c. c ∷ []) o [])
      found None e = tt
      found (Some c) e = (each_at P (claims_about normals first ps a) (claim_number before a) c (about_each first ps a) e, tt)

      by : (b : Bool) → AllByRecursion P (cond b (option_map_or (λ c. c ∷ []) (slice_get (claims_about normals first ps a) (claim_number before a)) []) [])
      by true = found (slice_get (claims_about normals first ps a) (claim_number before a)) refl
      by false = tt

  behind_each : (first : ℕ) (ps : List Indicator) (before list : List Assertion) → AllByRecursion P (claims_behind normals first ps before list)
  behind_each first ps before [] = tt
  behind_each first ps before (a ∷ rest) = each_append P (claim_in normals first ps before a) (claims_behind normals first ps (before ++ a ∷ []) rest) (claim_each first ps before a) (behind_each first ps (before ++ a ∷ []) rest)

  pub claims_each : (first : ℕ) (files : List File) → AllByRecursion P (claims_from normals first files)
  claims_each first [] = tt
  claims_each first (f ∷ fs) =
      each_append P (claims_behind normals first (indicators f) [] f.parts.assertions) (claims_from normals (length (indicators f) + first) fs)
      (behind_each first (indicators f) [] f.parts.assertions) (claims_each (length (indicators f) + first) fs)

module _ (program : Program) (all : List Draft) (has : HasArities all program) where
  -- claims

  abbrev ClaimIn : Claim → Type 0
  ClaimIn claim = is_claim_of program claim ≡ true

  cond_numbers : (first last : ℕ) (ns : List ℕ) → last ≤ length program.conds → AllByRecursion (λ n. (first ≤ n) × (n < last)) ns → list_all (is_cond_of program) ns ≡ true
  cond_numbers first last ns le h =
      each_test (is_cond_of program) ns
      (each_more (λ n. (first ≤ n) × (n < last)) (λ n. is_cond_of program n ≡ true) (λ n held. let below : n < last = held.1 in is_less n (length program.conds) (omega (arith, below, le))) ns h)

  claim_is : (number file first last : ℕ) (d : Draft) (claim : Claim) → file < length program.names → slice_get all number ≡ Some d → last ≤ length program.conds → IsClaimOf file number first last claim → ClaimIn claim
  claim_is number file first last d claim named at le of =
      let below = (has number d at).0 in
      and_from (is_place_of program claim.place) (is_pred_of program claim.pred && list_all (is_cond_of program) claim.conds)
      (is_less claim.place.file (length program.names) (subst (λ n. n < length program.names) (sym of.file) named))
      (and_from (is_pred_of program claim.pred) (list_all (is_cond_of program) claim.conds)
      (is_less claim.pred (length program.preds) (subst (λ p. p < length program.preds) (sym of.pred) below))
      (cond_numbers first last claim.conds le of.numbers))

  pub claims_in : (number first : ℕ) (ds : List Draft) (ms : List Normal) → Stand all number ds → length (conditions ms) + first ≤ length program.conds → AreNormals (length program.names) (length program.grammar.rules) number first ds ms → AllByRecursion (λ m. AllByRecursion ClaimIn m.claims) ms
  claims_in number first [] [] s le h = tt
  claims_in number first [] (m ∷ ms) s le h = absurd h
  claims_in number first (d ∷ ds) [] s le h = absurd h
  claims_in number first (d ∷ ds) (m ∷ ms) s le h =
      let longer : length (m.conds ++ conditions ms) ≡ length m.conds + length (conditions ms) = length-append m.conds (conditions ms) in
      let enough : length (m.conds ++ conditions ms) + first ≤ length program.conds = le in
      let last : length m.conds + first ≤ length program.conds = omega (arith, longer, enough) in (
        each_more (IsClaimOf h.0.file number first (length m.conds + first)) ClaimIn (λ claim of. claim_is number h.0.file first (length m.conds + first) d claim h.0.named s.0 last of) m.claims h.0.owned.claims,
        claims_in (suc number) (length m.conds + first) ds ms s.1 (omega (arith, longer, enough)) h.1,
      )

  -- exports

  pub exports_in : (files : List File) (number : ℕ) (ds : List Draft) → Stand all number ds → AllByRecursion (λ n. is_pred_of program n ≡ true) (exports_from files number ds)
  exports_in files number [] s = tt
  exports_in files number (d ∷ ds) s =
      each_append (λ n. is_pred_of program n ≡ true) (cond (is_main_export files d) (number ∷ []) []) (exports_from files (suc number) ds) (by (is_main_export files d)) (exports_in files (suc number) ds s.1)
    where
      by : (b : Bool) → AllByRecursion (λ n. is_pred_of program n ≡ true) (cond b (number ∷ []) [])
      by true = (is_less number (length program.preds) (has number d s.0).0, tt)
      by false = tt

  -- entries

  abbrev EntryIn : Entry → Type 0
  EntryIn e = is_entry_of program e ≡ true

  entry_is : (number : ℕ) (d : Draft) (e : Entry) → slice_get all number ≡ Some d → e.pred ≡ number → list_all (is_prop_of d.indicator.arity (length program.grammar.rules)) e.pre ≡ true → EntryIn e
  entry_is number d e at is props =
      let found = has number d at in
      and_from (is_pred_of program e.pred) (are_props_of program e.pred e.pre)
      (is_less e.pred (length program.preds) (subst (λ p. p < length program.preds) (sym is) found.0))
      (subst (λ p. are_props_of program p e.pre ≡ true) (sym is) (subst (λ a. list_all (is_prop_of a (length program.grammar.rules)) e.pre ≡ true) (sym found.1) props))

  any_in : (number : ℕ) (d : Draft) (es : List Entry) → slice_get all number ≡ Some d → AllByRecursion EntryIn es → AllByRecursion EntryIn (entries_or_any number es)
  any_in number d [] at h = (entry_is number d (record { pred = number; pre = [] }) at refl refl, tt)
  any_in number d (e ∷ es) at h = h

  pub entries_in : (files : List File) (number first : ℕ) (ds : List Draft) (ms : List Normal) → Stand all number ds → AreNormals (length program.names) (length program.grammar.rules) number first ds ms → AllByRecursion EntryIn (entries_from files number (beside ds ms))
  entries_in files number first [] [] s h = tt
  entries_in files number first [] (m ∷ ms) s h = absurd h
  entries_in files number first (d ∷ ds) [] s h = absurd h
  entries_in files number first (d ∷ ds) (m ∷ ms) s h =
      each_append EntryIn (cond (is_main_export files d) (entries_or_any number m.entries) []) (entries_from files (suc number) (beside ds ms)) (by (is_main_export files d)) (entries_in files (suc number) (length m.conds + first) ds ms s.1 h.1)
    where
      props : Entry → Type 0
      props e = list_all (is_prop_of d.indicator.arity (length program.grammar.rules)) e.pre ≡ true

      own : AllByRecursion EntryIn m.entries
      own = each_more (λ e. (e.pred ≡ number) × props e) EntryIn (λ e held. entry_is number d e s.0 held.0 held.1) m.entries (each_both (λ e. e.pred ≡ number) props m.entries h.0.owned.entries h.0.entries)

      by : (b : Bool) → AllByRecursion EntryIn (cond b (entries_or_any number m.entries) [])
      by true = any_in number d m.entries s.0 own
      by false = tt
