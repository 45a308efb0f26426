-- The instrumented program without conditions, checks and Exit is the program without conditions.
use Rattle.std.proofs.Common.{◌≡◌, ℕ, suc, Bool, true, false, List, [], ◌∷◌, map, refl, ap, sym, ◌∙◌}
use Rattle.std.specs.Prelude.{slice_index_or, if◌then◌else◌}
use Rattle.std.specs.List.{AllByRecursion}
use Rattle.prog_data.specs.declared.goals.Goal.{out-Goal}
use Rattle.prog_data.specs.declared.programs.Clause.{Clause}
use Rattle.prog_data.specs.declared.programs.Pred.{Pred}
use Rattle.prog_data.specs.declared.programs.Program.{Program}
use Rattle.prog_data.specs.declared.tables.Status.{Status}
use Rattle.prog_data.specs.Goals.{no_pred, ends_in_exit}
use Rattle.machine_model.specs.Erasure.{erase_clause, erase_pred}
use Rattle.machine_model.specs.Instrumented.{with_exit, instrumented_pred}
use Rattle.machine_model.specs.Laws.{ErasesInstrumented}
use Rattle.machine_model.proofs.ErasureRuns.{no_exit}
use Rattle.machine_model.proofs.InstrumentedLooks.{body_same}

-- no body is or ends in Exit
abbrev pub NoExit : List Clause → Type 0
NoExit = AllByRecursion (λ c. ends_in_exit c.body ≡ false)

clause_erased : (c : Clause) → ends_in_exit c.body ≡ false → erase_clause (with_exit c) ≡ erase_clause c
clause_erased c e = ap (λ body. record c { body = body }) (body_same c.body (out-Goal c.body) refl e ∙ sym (no_exit c.body (out-Goal c.body) e))

clauses_erased : (cs : List Clause) → NoExit cs → map erase_clause (map with_exit cs) ≡ map erase_clause cs
clauses_erased [] h = refl
clauses_erased (c ∷ cs) h = ap (λ x. x ∷ map erase_clause (map with_exit cs)) (clause_erased c h.0) ∙ ap (λ xs. erase_clause c ∷ xs) (clauses_erased cs h.1)

either_erased : (b : Bool) (cs : List Clause) → NoExit cs → map erase_clause (if b then map with_exit cs else cs) ≡ map erase_clause cs
either_erased true cs h = clauses_erased cs h
either_erased false cs h = refl

module _ (program : Program) (statuses : List Status) where
  pred_erased : (pred : Pred) → NoExit pred.clauses → erase_pred (instrumented_pred program statuses pred) ≡ erase_pred pred
  pred_erased pred h = ap (λ cs. record pred { clauses = cs; conds = []; call_checks = [] }) (either_erased _ pred.clauses h)

  preds_erased : (preds : List Pred) → ((p : ℕ) → NoExit (slice_index_or preds p no_pred).clauses) → map erase_pred (map (instrumented_pred program statuses) preds) ≡ map erase_pred preds
  preds_erased [] h = refl
  preds_erased (pred ∷ preds) h = ap (λ x. x ∷ map erase_pred (map (instrumented_pred program statuses) preds)) (pred_erased pred (h 0)) ∙ ap (λ xs. erase_pred pred ∷ xs) (preds_erased preds (λ p. h (suc p)))

  pub erases_instrumented : ErasesInstrumented program statuses
  erases_instrumented linked = ap (λ preds. record program { preds = preds; conds = []; claims = [] }) (preds_erased program.preds linked)
