-- The turn of a loop over conditions, and a predicate that is not there.
use Rattle.std.proofs.Common.{◌≡◌, ℕ, zero, suc, ◌+◌, ◌<◌, false, List, [], ◌∷◌, length, get_or, drop, refl, ap, sym, ◌∙◌, true≢false}
use Rattle.std.proofs.lemmas.List.{at_drop_more}
use Rattle.std.specs.Prelude.{slice_get, slice_index_or, Option, None, Some}
use Rattle.prog_data.specs.declared.conditions.CondKind.{CondKind}
use Rattle.prog_data.specs.declared.conditions.CondKind.TheVariants.{Calls, Success, Comp}
use Rattle.prog_data.specs.declared.programs.Pred.{Pred}
use Rattle.prog_data.specs.declared.programs.Program.{Program}
use Rattle.prog_data.specs.Conditions.{kind_of, is_calls}
use Rattle.prog_data.specs.Goals.{no_pred}
use Rattle.prog_data.specs.Values.{TypeValue}
use Rattle.name_order.specs.Relations.{Order}
use Rattle.goal_transfer.specs.Conditions.{entry_at, entry_by, narrowed_entry, exit_by, narrowed_exit}

-- a condition that is none on calls does not narrow an entry
skipped : (o : Order) (arity : ℕ) (entry : List TypeValue) (k : Option CondKind) (more : Option (List TypeValue)) → is_calls k ≡ false → entry_at o arity entry k more ≡ more
skipped o arity entry None more e = refl
skipped o arity entry (Some (Calls ds)) more e = absurd (true≢false e)
skipped o arity entry (Some (Success pre post)) more e = refl
skipped o arity entry (Some (Comp pre property)) more e = refl

module _ (program : Program) (o : Order) where
  pub entry_turn : (arity : ℕ) (entry : List TypeValue) (cs : List ℕ) (i : ℕ) (all : Option (List TypeValue)) → i < length cs → is_calls (kind_of program (get_or cs i 0)) ≡ false →
      entry_by program o arity entry (drop i cs) ≡ all → entry_by program o arity entry (drop (i + 1) cs) ≡ all
  entry_turn arity entry cs i all lt e had =
      sym (skipped o arity entry (kind_of program (get_or cs i 0)) (entry_by program o arity entry (drop (i + 1) cs)) e) ∙ sym (at_drop_more (entry_by program o arity entry) cs i 0 lt) ∙ had

  absent : (preds : List Pred) (p : ℕ) → None ≡ slice_get preds p → no_pred ≡ slice_index_or preds p no_pred
  absent [] p e = refl
  absent (x ∷ preds) zero e = cc
  absent (x ∷ preds) (suc p) e = absent preds p e

  -- a predicate that is not there narrows nothing
  pub absent_entry : (p : ℕ) (entry : List TypeValue) → None ≡ slice_get program.preds p → Some entry ≡ narrowed_entry program o p entry
  absent_entry p entry e = ap (λ pred. entry_by program o pred.arity entry pred.conds) (absent program.preds p e)

  pub absent_exit : (p : ℕ) (entry exit : List TypeValue) → None ≡ slice_get program.preds p → exit ≡ narrowed_exit program o p entry exit
  absent_exit p entry exit e = ap (λ pred. exit_by program o pred.arity entry pred.conds exit) (absent program.preds p e)
