-- Of a program in range: the names that conditions ask for, and the ranges of a clause.
use Rattle.std.proofs.Common.{◌≡◌, ℕ, zero, suc, ◌<◌, Bool, true, ◌&&◌, List, [], ◌∷◌, length, get_or, refl, ap, sym, ◌∙◌, subst, arith}
use Rattle.std.proofs.lemmas.Bool.{and_from}
use Rattle.std.proofs.lemmas.Option.{none-some, same_Some, slice_get_read}
use Rattle.std.specs.Prelude.{nat_lt, nat_le, ◌==◌, slice_get, slice_index_or, Option, None, Some, option_map}
use Rattle.std.specs.List.{list_all}
use Rattle.term_core.specs.Terms.{above}
use Rattle.prog_data.specs.declared.conditions.Prop.{Prop}
use Rattle.prog_data.specs.declared.conditions.Prop.TheVariants as prop
use Rattle.prog_data.specs.declared.conditions.Cond.{Cond}
use Rattle.prog_data.specs.declared.conditions.CondKind.TheVariants.{Calls, Success}
use Rattle.prog_data.specs.declared.programs.Clause.{Clause}
use Rattle.prog_data.specs.declared.programs.Pred.{Pred}
use Rattle.prog_data.specs.declared.programs.Program.{Program}
use Rattle.prog_data.specs.Conditions.{kind_of}
use Rattle.prog_data.specs.Goals.{no_pred, pred_of}
use Rattle.prog_data.specs.Ranges.{is_term_of, is_body_of, is_place_of, is_clause_of, is_prop_of, is_kind_of}
use Rattle.prog_data.specs.Programs.{IsProgram}
use Rattle.prog_data.specs.RangeLaws.{RangesAreKept}
use Rattle.goal_transfer.specs.Range.{is_named}
use Rattle.goal_transfer.proofs.Lengths.{both}
use Rattle.goal_transfer.proofs.BodyRanges.{terms_within}

all_up : {A : Type 0} (p q : A → Bool) → ((x : A) → p x ≡ true → q x ≡ true) → (xs : List A) → list_all p xs ≡ true → list_all q xs ≡ true
all_up p q keeps [] e = refl
all_up p q keeps (x ∷ xs) e = let b = both (p x) _ e in and_from (q x) _ (keeps x b.0) (all_up p q keeps xs b.1)

all_got : {A : Type 0} (p : A → Bool) (xs : List A) (k : ℕ) (x : A) → list_all p xs ≡ true → slice_get xs k ≡ Some x → p x ≡ true
all_got p [] k x e is = absurd (none-some x is)
all_got p (y ∷ ys) zero x e is = sym (ap p (same_Some y x is)) ∙ (both (p y) _ e).0
all_got p (y ∷ ys) (suc k) x e is = all_got p ys k x (both (p y) _ e).1 is

-- the names that conditions ask for

prop_named : (arity size : ℕ) (p : Prop) → is_prop_of arity size p ≡ true → is_named size p ≡ true
prop_named arity size (prop.Belongs i n) e = (both (nat_lt i arity) _ e).1
prop_named arity size (prop.IsVar i) e = refl
prop_named arity size (prop.IsNonvar i) e = refl
prop_named arity size (prop.IsGround i) e = refl

props_named : (arity size : ℕ) (ps : List Prop) → list_all (is_prop_of arity size) ps ≡ true → list_all (is_named size) ps ≡ true
props_named arity size ps e = all_up (is_prop_of arity size) (is_named size) (prop_named arity size) ps e

module _ (program : Program) (range : IsProgram program) where
  pub calls_named : (c : ℕ) (ds : List (List Prop)) → kind_of program c ≡ Some (Calls ds) → list_all (list_all (is_named (length program.grammar.rules))) ds ≡ true
  calls_named c ds is = by_cond (slice_get program.conds c) refl is
    where
      by_cond : (found : Option Cond) → slice_get program.conds c ≡ found → option_map (λ cond. cond.kind) found ≡ Some (Calls ds) → list_all (list_all (is_named (length program.grammar.rules))) ds ≡ true
      by_cond None e k = absurd (none-some (Calls ds) k)
      by_cond (Some cond) e k =
          let fits : is_kind_of (pred_of program cond.pred).arity (length program.grammar.rules) (Calls ds) ≡ true = subst (λ kind. is_kind_of (pred_of program cond.pred).arity (length program.grammar.rules) kind ≡ true) (same_Some cond.kind (Calls ds) k) (range.conds c cond e).kind in
          all_up (list_all (is_prop_of (pred_of program cond.pred).arity (length program.grammar.rules))) (list_all (is_named (length program.grammar.rules))) (props_named (pred_of program cond.pred).arity (length program.grammar.rules)) ds fits

  pub success_named : (c : ℕ) (cond : Cond) (pre post : List Prop) → slice_get program.conds c ≡ Some cond → cond.kind ≡ Success pre post → (list_all (is_named (length program.grammar.rules)) pre ≡ true) × (list_all (is_named (length program.grammar.rules)) post ≡ true)
  success_named c cond pre post e k =
      let arity = (pred_of program cond.pred).arity in
      let size = length program.grammar.rules in
      let fits : is_kind_of arity size (Success pre post) ≡ true = subst (λ kind. is_kind_of (pred_of program cond.pred).arity (length program.grammar.rules) kind ≡ true) k (range.conds c cond e).kind in
      let t = both (list_all (is_prop_of arity size) pre) _ fits in
      (props_named arity size pre t.0, props_named arity size post t.1)

  -- the ranges of a clause

  pub clause_fits : RangesAreKept → (p k : ℕ) → p < length program.preds → (c : Clause) → slice_get (pred_of program p).clauses k ≡ Some c → is_clause_of program (pred_of program p).arity c ≡ true
  clause_fits ranges p k lt c is = all_got (is_clause_of program (pred_of program p).arity) (pred_of program p).clauses k c (ranges.preds program range p lt).clauses is

  pub clause_within : (arity : ℕ) (c : Clause) → is_clause_of program arity c ≡ true → (list_all (λ t. nat_le (above t) c.vars) c.head ≡ true) × (is_body_of program c.vars c.body ≡ true)
  clause_within arity c e =
      let t = both ((length c.head == arity) && list_all (is_term_of program c.vars) c.head) (is_body_of program c.vars c.body && is_place_of program c.place) e in
      (terms_within program c.vars c.head (both (length c.head == arity) _ t.0).1, (both (is_body_of program c.vars c.body) _ t.1).0)

  read_pred : (preds : List Pred) (p : ℕ) (x : Pred) → p < length preds → x ≡ get_or preds p x → slice_index_or preds p no_pred ≡ x
  read_pred [] p x lt e = absurd (omega (arith, lt))
  read_pred (y ∷ preds) zero x lt e = sym e
  read_pred (y ∷ preds) (suc p) x lt e = read_pred preds p x (omega (arith, lt)) e

  -- a clause that is read in its place
  pub clause_read : (preds : List Pred) (p k : ℕ) (pred : Pred) (cs : List Clause) (c : Clause) → preds ≡ program.preds → p < length program.preds → pred ≡ get_or preds p pred → cs ≡ pred.clauses → k < length (pred_of program p).clauses → c ≡ get_or cs k c →
      slice_get (pred_of program p).clauses k ≡ Some c
  clause_read preds p k pred cs c e lt is f less read =
      let at : pred_of program p ≡ pred = read_pred program.preds p pred lt (subst (λ ps. pred ≡ get_or ps p pred) e is) in
      slice_get_read (pred_of program p).clauses (length (pred_of program p).clauses) k c refl less (subst (λ xs. c ≡ get_or xs k c) (f ∙ ap (λ q. q.clauses) (sym at)) read)
