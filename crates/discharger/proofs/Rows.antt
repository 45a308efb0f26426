-- The status of a condition by its predicate's row, and the names that its properties ask for.
use Rattle.std.proofs.Common.{◌≡◌, ℕ, zero, suc, ◌+◌, ◌<◌, true, List, [], ◌∷◌, ◌++◌, length, map, drop, get_or, refl, ap, sym, ◌∙◌, subst, append_assoc}
use Rattle.std.proofs.lemmas.Bool.{and_from}
use Rattle.std.proofs.lemmas.List.{at_drop_more}
use Rattle.std.proofs.lemmas.Option.{none-some, same_Some, slice_get_read}
use Rattle.std.specs.Prelude.{nat_lt, slice_get, slice_index_or, None, Some}
use Rattle.std.specs.List.{list_all}
use Rattle.prog_data.specs.declared.conditions.Cond.{Cond}
use Rattle.prog_data.specs.declared.conditions.CondKind.{CondKind}
use Rattle.prog_data.specs.declared.conditions.CondKind.TheVariants.{Calls, Success, Comp}
use Rattle.prog_data.specs.declared.conditions.CompProp.TheVariants.{NotFails, Fails, IsDet}
use Rattle.prog_data.specs.declared.conditions.Prop.{Prop}
use Rattle.prog_data.specs.declared.conditions.Prop.TheVariants as prop
use Rattle.prog_data.specs.declared.grammars.Grammar.{Grammar}
use Rattle.prog_data.specs.declared.programs.Pred.{Pred}
use Rattle.prog_data.specs.declared.programs.Program.{Program}
use Rattle.prog_data.specs.declared.tables.Row.{Row}
use Rattle.prog_data.specs.declared.tables.Status.{Status}
use Rattle.prog_data.specs.declared.tables.Status.TheVariants.{Checked}
use Rattle.prog_data.specs.Goals.{no_pred, pred_of}
use Rattle.prog_data.specs.Programs.{IsProgram}
use Rattle.prog_data.specs.Ranges.{is_prop_of, is_kind_of}
use Rattle.name_order.specs.Relations.{Order, order}
use Rattle.goal_transfer.specs.Range.{is_named}
use Rattle.goal_transfer.specs.Statuses.{status_by, kind_checked, kind_false, status_of}
use Rattle.goal_transfer.specs.Tables.{Facts, row_seen, no_facts, facts_of}
use Rattle.goal_transfer.proofs.Lengths.{both}

-- the names that properties ask for

prop_named : (arity size : ℕ) (p : Prop) → is_prop_of arity size p ≡ true → is_named size p ≡ true
prop_named arity size (prop.Belongs i n) e = (both (nat_lt i arity) _ e).1
prop_named arity size (prop.IsVar i) e = refl
prop_named arity size (prop.IsNonvar i) e = refl
prop_named arity size (prop.IsGround i) e = refl

props_named : (arity size : ℕ) (ps : List Prop) → list_all (is_prop_of arity size) ps ≡ true → list_all (is_named size) ps ≡ true
props_named arity size [] e = refl
props_named arity size (p ∷ ps) e = let b = both (is_prop_of arity size p) _ e in and_from (is_named size p) _ (prop_named arity size p b.0) (props_named arity size ps b.1)

all_named : (arity size : ℕ) (ds : List (List Prop)) → list_all (list_all (is_prop_of arity size)) ds ≡ true → list_all (list_all (is_named size)) ds ≡ true
all_named arity size [] e = refl
all_named arity size (d ∷ ds) e = let b = both (list_all (is_prop_of arity size) d) _ e in and_from (list_all (is_named size) d) _ (props_named arity size d b.0) (all_named arity size ds b.1)

module _ (arity size : ℕ) (kind : CondKind) (fits : is_kind_of arity size kind ≡ true) where
  pub disjuncts_named : (ds : List (List Prop)) → kind ≡ Calls ds → list_all (list_all (is_named size)) ds ≡ true
  disjuncts_named ds is = all_named arity size ds (subst (λ k. is_kind_of arity size k ≡ true) is fits)

  pub pre_named : (pre post : List Prop) → kind ≡ Success pre post → list_all (is_named size) pre ≡ true
  pre_named pre post is = props_named arity size pre (both (list_all (is_prop_of arity size) pre) _ (subst (λ k. is_kind_of arity size k ≡ true) is fits)).0

  pub post_named : (pre post : List Prop) → kind ≡ Success pre post → list_all (is_named size) post ≡ true
  post_named pre post is = props_named arity size post (both (list_all (is_prop_of arity size) pre) _ (subst (λ k. is_kind_of arity size k ≡ true) is fits)).1

-- the conditions of a program in range are
pub kind_fits : (program : Program) → IsProgram program → (conds : List Cond) (c : ℕ) (cond : Cond) → conds ≡ program.conds → c < length conds → cond ≡ get_or conds c cond →
    is_kind_of (pred_of program cond.pred).arity (length program.grammar.rules) cond.kind ≡ true
kind_fits program range conds c cond same lt read =
    (range.conds c cond (slice_get_read program.conds (length conds) c cond (ap length same) lt (subst (λ cs. cond ≡ get_or cs c cond) same read))).kind

-- a predicate that is not there has no arguments

absent : (preds : List Pred) (p : ℕ) → None ≡ slice_get preds p → no_pred ≡ slice_index_or preds p no_pred
absent [] p e = refl
absent (x ∷ preds) zero e = cc
absent (x ∷ preds) (suc p) e = absent preds p e

pub no_arity : (program : Program) (p : ℕ) → None ≡ slice_get program.preds p → 0 ≡ (pred_of program p).arity
no_arity program p e = ap (λ pred. pred.arity) (absent program.preds p e)

-- the status by a row

-- a status by a row
abbrev pub by_facts : Order → ℕ → Facts → CondKind → Status
by_facts o arity row kind = status_by (kind_checked o arity row kind) (kind_false o row kind)

row_facts : (rows : List Row) (p : ℕ) (row : Row) → Some row ≡ slice_get rows p → row_seen row ≡ facts_of (map row_seen rows) p
row_facts [] p row e = absurd (none-some row (sym e))
row_facts (x ∷ rows) zero row e = ap row_seen (same_Some row x e)
row_facts (x ∷ rows) (suc p) row e = row_facts rows p row e

absent_facts : (rows : List Row) (p : ℕ) → None ≡ slice_get rows p → no_facts ≡ facts_of (map row_seen rows) p
absent_facts [] p e = refl
absent_facts (x ∷ rows) zero e = cc
absent_facts (x ∷ rows) (suc p) e = absent_facts rows p e

module _ (program : Program) (rows : List Row) (cond : Cond) where
  pub by_row : (g : Grammar) (arity : ℕ) (row : Row) (s : Status) → g ≡ program.grammar → arity ≡ (pred_of program cond.pred).arity → Some row ≡ slice_get rows cond.pred → s ≡ by_facts (order g) arity (row_seen row) cond.kind →
      s ≡ status_of program (map row_seen rows) cond
  by_row g arity row s same many read is =
      is
      ∙ ap (λ h. by_facts (order h) arity (row_seen row) cond.kind) same
      ∙ ap (λ n. by_facts (order program.grammar) n (row_seen row) cond.kind) many
      ∙ ap (λ r. by_facts (order program.grammar) (pred_of program cond.pred).arity r cond.kind) (row_facts rows cond.pred row read)

  -- each condition of what is not reached is checked
  unreached : (o : Order) (arity : ℕ) (kind : CondKind) → Checked ≡ by_facts o arity no_facts kind
  unreached o arity (Calls ds) = refl
  unreached o arity (Success pre post) = refl
  unreached o arity (Comp pre NotFails) = refl
  unreached o arity (Comp pre Fails) = refl
  unreached o arity (Comp pre IsDet) = refl

  pub by_none : None ≡ slice_get rows cond.pred → Checked ≡ status_of program (map row_seen rows) cond
  by_none e =
      unreached (order program.grammar) (pred_of program cond.pred).arity cond.kind
      ∙ ap (λ r. by_facts (order program.grammar) (pred_of program cond.pred).arity r cond.kind) (absent_facts rows cond.pred e)

-- the turn of the loop over conditions
pub status_turn : (f : Cond → Status) (made new : List Status) (s : Status) (conds : List Cond) (i : ℕ) (cond : Cond) (all : List Status) → i < length conds → cond ≡ get_or conds i cond → new ≡ made ++ s ∷ [] → s ≡ f cond →
    made ++ map f (drop i conds) ≡ all → new ++ map f (drop (i + 1) conds) ≡ all
status_turn f made new s conds i cond all lt read is same had =
    ap (λ ss. ss ++ map f (drop (i + 1) conds)) is
    ∙ append_assoc made (s ∷ []) (map f (drop (i + 1) conds))
    ∙ ap (λ t. made ++ t ∷ map f (drop (i + 1) conds)) same
    ∙ ap (λ ss. made ++ ss) (sym (at_drop_more (map f) conds i cond lt ∙ ap (λ x. f x ∷ map f (drop (i + 1) conds)) (sym read)))
    ∙ had
