-- The instrumented program of one in range is in range.
use Rattle.std.proofs.Common.{◌≡◌, ◌<◌, ℕ, zero, suc, Bool, true, false, ◌&&◌, List, [], ◌∷◌, map, length, refl, ap, sym, ◌∙◌, subst, arith}
use Rattle.std.proofs.lemmas.Bool.{and_parts}
use Rattle.std.proofs.lemmas.List.{length-map}
use Rattle.std.proofs.lemmas.Option.{same_Some, none-some}
use Rattle.std.specs.Prelude.{nat_lt, ◌==◌, if◌then◌else◌, slice_get, slice_index_or, Some}
use Rattle.std.specs.List.{list_all, AllByRecursion}
use Rattle.prog_data.specs.declared.conditions.Cond.{Cond}
use Rattle.prog_data.specs.declared.goals.Goal.{Goal, out-Goal, roll-Goal, roll-out-Goal}
use Rattle.prog_data.specs.declared.goals.Goal as goal
use Rattle.prog_data.specs.declared.goals.Goal.TheVariants.{rolls-True, outs-Exit, outs-Conj}
use Rattle.prog_data.specs.declared.goals.Goal.TheOpen.{Goal-F, True, Fail, Cut, Call, Builtin, Conj, Disj, IfElse, Not, Exit}
use Rattle.prog_data.specs.declared.goals.Goal.TheFolds.{fold-Goal}
use Rattle.prog_data.specs.declared.programs.Clause.{Clause}
use Rattle.prog_data.specs.declared.programs.Pred.{Pred}
use Rattle.prog_data.specs.declared.programs.Program.{Program}
use Rattle.prog_data.specs.declared.tables.Status.{Status}
use Rattle.prog_data.specs.Goals.{no_pred, pred_of, is_exit, ends_in_exit, ends_in_exit_at, without_exit, without_exit_at}
use Rattle.prog_data.specs.Ranges.{is_place_of, is_pred_of, is_cond_of, is_term_of, goal_step, is_goal_of, is_body_of, is_clause_of, is_kind_of, is_prop_of}
use Rattle.prog_data.specs.Programs.{rises, IsPred, IsCond, is_claim_of, is_entry_of, IsProgram, HasNoExit}
use Rattle.prog_data.specs.RangeLaws.{RangesAreKept}
use Rattle.machine_model.specs.Instrumented.{with_exit, with_exit_at, instrumented_pred, instrumented}
use Rattle.instrumenter.specs.RangeLaws.{InstrumentedInRange}
use Rattle.instrumenter.proofs.Lists.{both, AreNumbered, numbers_rise}
use Rattle.instrumenter.proofs.CheckRanges.{has_checks}

-- bodies

conj_exit : (body : Goal) → without_exit (goal.Conj body goal.Exit) ≡ body
conj_exit body = ap (without_exit_at (goal.Conj body goal.Exit)) (outs-Conj body goal.Exit) ∙ ap (λ g. if is_exit g then body else goal.Conj body goal.Exit) outs-Exit

-- a body with an exit behind it, without it
without_added : (body : Goal) (g : Goal-F Goal) → out-Goal body ≡ g → ends_in_exit_at g ≡ false → without_exit (with_exit_at body g) ≡ body
without_added body True e none = ap (without_exit_at goal.Exit) outs-Exit ∙ sym rolls-True ∙ ap roll-Goal (sym e) ∙ roll-out-Goal body
without_added body Fail e none = conj_exit body
without_added body Cut e none = conj_exit body
without_added body (Call p ts) e none = conj_exit body
without_added body (Builtin b ts) e none = conj_exit body
without_added body (Conj a b) e none = conj_exit body
without_added body (Disj a b) e none = conj_exit body
without_added body (IfElse c a b) e none = conj_exit body
without_added body (Not a) e none = conj_exit body
without_added body Exit e none = cc

module _ (ranges : RangesAreKept) (program : Program) (statuses : List Status) where
  abbrev pub inst : Program
  inst = instrumented program statuses

  -- predicates by number

  index_at : (preds : List Pred) (p : ℕ) → slice_index_or (map (instrumented_pred program statuses) preds) p no_pred ≡ instrumented_pred program statuses (slice_index_or preds p no_pred)
  index_at [] p = refl
  index_at (x ∷ preds) zero = refl
  index_at (x ∷ preds) (suc p) = index_at preds p

  place_at : (preds : List Pred) (p : ℕ) (made : Pred) → slice_get (map (instrumented_pred program statuses) preds) p ≡ Some made
      → (pred : Pred) × (slice_get preds p ≡ Some pred) × (instrumented_pred program statuses pred ≡ made)
  place_at [] p made at = absurd (none-some made at)
  place_at (x ∷ preds) zero made at = (x, refl, same_Some (instrumented_pred program statuses x) made at)
  place_at (x ∷ preds) (suc p) made at = place_at preds p made at

  found_at : (preds : List Pred) (p : ℕ) (pred : Pred) → slice_get preds p ≡ Some pred → slice_index_or preds p no_pred ≡ pred
  found_at [] p pred at = absurd (none-some pred at)
  found_at (x ∷ preds) zero pred at = same_Some x pred at
  found_at (x ∷ preds) (suc p) pred at = found_at preds p pred at

  same_length : length inst.preds ≡ length program.preds
  same_length = length-map program.preds (instrumented_pred program statuses)

  same_arity : (p : ℕ) → (pred_of inst p).arity ≡ (pred_of program p).arity
  same_arity p = ap (λ pred. pred.arity) (index_at program.preds p)

  same_pred : (p : ℕ) → is_pred_of inst p ≡ is_pred_of program p
  same_pred p = ap (nat_lt p) same_length

  -- goals and clauses

  same_step : (vars : ℕ) (l : Goal-F Bool) → goal_step inst vars l ≡ goal_step program vars l
  same_step vars True = refl
  same_step vars Fail = refl
  same_step vars Cut = refl
  same_step vars (Call p ts) = λ i. (same_pred p i && (length ts == same_arity p i)) && list_all (is_term_of program vars) ts
  same_step vars (Builtin b ts) = refl
  same_step vars (Conj a b) = refl
  same_step vars (Disj a b) = refl
  same_step vars (IfElse c a b) = refl
  same_step vars (Not a) = refl
  same_step vars Exit = refl

  same_goal : (vars : ℕ) (g : Goal) → is_goal_of inst vars g ≡ is_goal_of program vars g
  same_goal vars g = λ i. fold-Goal Bool (λ l. same_step vars l i) g

  -- a clause as it is
  clause_stays : (arity : ℕ) (clause : Clause) → is_clause_of inst arity clause ≡ is_clause_of program arity clause
  clause_stays arity clause =
      λ i. ((length clause.head == arity) && list_all (is_term_of program clause.vars) clause.head) && (same_goal clause.vars (without_exit clause.body) i && is_place_of program clause.place)

  -- and with an exit
  clause_made : (arity : ℕ) (clause : Clause) → ends_in_exit clause.body ≡ false → is_clause_of program arity clause ≡ true → is_clause_of inst arity (with_exit clause) ≡ true
  clause_made arity clause none is =
      let parts = and_parts ((length clause.head == arity) && list_all (is_term_of program clause.vars) clause.head) _ is in
      let behind = and_parts (is_body_of program clause.vars clause.body) _ parts.1 in
      both ((length clause.head == arity) && list_all (is_term_of program clause.vars) clause.head) _ parts.0
      (both (is_body_of inst clause.vars (with_exit_at clause.body (out-Goal clause.body))) (is_place_of program clause.place)
      (ap (is_goal_of inst clause.vars) (without_added clause.body (out-Goal clause.body) refl none) ∙ same_goal clause.vars clause.body ∙ ranges.linked program clause.vars clause.body none behind.0)
      behind.1)

  all_made : (arity : ℕ) (clauses : List Clause) → AllByRecursion (λ clause. ends_in_exit clause.body ≡ false) clauses → list_all (is_clause_of program arity) clauses ≡ true
      → list_all (is_clause_of inst arity) (map with_exit clauses) ≡ true
  all_made arity [] none is = refl
  all_made arity (clause ∷ clauses) none is =
      let parts = and_parts (is_clause_of program arity clause) _ is in
      both (is_clause_of inst arity (with_exit clause)) _ (clause_made arity clause none.0 parts.0) (all_made arity clauses none.1 parts.1)

  all_stay : (arity : ℕ) (clauses : List Clause) → list_all (is_clause_of inst arity) clauses ≡ list_all (is_clause_of program arity) clauses
  all_stay arity clauses = λ i. list_all (λ clause. clause_stays arity clause i) clauses

  either_made : (b : Bool) (arity : ℕ) (clauses : List Clause) → AllByRecursion (λ clause. ends_in_exit clause.body ≡ false) clauses → list_all (is_clause_of program arity) clauses ≡ true
      → list_all (is_clause_of inst arity) (if b then map with_exit clauses else clauses) ≡ true
  either_made true arity clauses none is = all_made arity clauses none is
  either_made false arity clauses none is = all_stay arity clauses ∙ is

  -- what names predicates

  same_claims : list_all (is_claim_of inst) program.claims ≡ list_all (is_claim_of program) program.claims
  same_claims = λ i. list_all (λ claim. is_place_of program claim.place && (same_pred claim.pred i && list_all (is_cond_of program) claim.conds)) program.claims

  same_exports : list_all (is_pred_of inst) program.exports ≡ list_all (is_pred_of program) program.exports
  same_exports = λ i. list_all (λ p. same_pred p i) program.exports

  same_entries : list_all (is_entry_of inst) program.entries ≡ list_all (is_entry_of program) program.entries
  same_entries = λ i. list_all (λ entry. same_pred entry.pred i && list_all (is_prop_of (same_arity entry.pred i) (length program.grammar.rules)) entry.pre) program.entries

  module _ (is : IsProgram program) (linked : HasNoExit program) where
    numbered : AreNumbered 0 program.conds
    numbered k cond at = let e = (is.conds k cond at).id in omega (arith, e)

    -- the conditions that name a predicate rise
    conds_rise : (p : ℕ) (pred : Pred) → IsPred program p pred → rises pred.conds ≡ true
    conds_rise p pred in_range = ap rises in_range.conds ∙ numbers_rise (λ cond. cond.pred == p) 0 program.conds numbered

    clauses_none : (p : ℕ) (pred : Pred) → slice_get program.preds p ≡ Some pred → AllByRecursion (λ clause. ends_in_exit clause.body ≡ false) pred.clauses
    clauses_none p pred at = subst (λ q. AllByRecursion (λ clause. ends_in_exit clause.body ≡ false) q.clauses) (found_at program.preds p pred at) (linked p)

    pred_made : (p : ℕ) (pred : Pred) → slice_get program.preds p ≡ Some pred → IsPred inst p (instrumented_pred program statuses pred)
    pred_made p pred at =
        let old = is.preds p pred at in
        record {
          «module» = old.«module»;
          name = old.name;
          arity = old.arity;
          clauses = either_made _ pred.arity pred.clauses (clauses_none p pred at) old.clauses;
          conds = old.conds;
          calls_first = old.calls_first;
          call_checks = has_checks program statuses pred (conds_rise p pred old) old.calls_first;
        }

    made_at : (p : ℕ) (made : Pred) → slice_get inst.preds p ≡ Some made → IsPred inst p made
    made_at p made at = let found = place_at program.preds p made at in subst (IsPred inst p) found.2 (pred_made p found.0 found.1)

    cond_made : (c : ℕ) (cond : Cond) → IsCond program c cond → IsCond inst c cond
    cond_made c cond old = record {
      id = old.id;
      pred = subst (λ n. cond.pred < n) (sym same_length) old.pred;
      place = old.place;
      kind = ap (λ arity. is_kind_of arity (length program.grammar.rules) cond.kind) (same_arity cond.pred) ∙ old.kind;
    }

    pub program_made : IsProgram inst
    program_made = record {
      ops = is.ops;
      files = is.files;
      preds = made_at;
      conds = λ c cond at. cond_made c cond (is.conds c cond at);
      claims = same_claims ∙ is.claims;
      grammar = is.grammar;
      rules = is.rules;
      exports = same_exports ∙ is.exports;
      entries = same_entries ∙ is.entries;
    }

pub instrumented_in_range : RangesAreKept → InstrumentedInRange
instrumented_in_range ranges program statuses is linked = program_made ranges program statuses is linked
