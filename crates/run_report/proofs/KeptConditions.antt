-- The call checks of an instrumented predicate name exactly its kept conditions.
use Rattle.std.proofs.Common.{◌≡◌, ℕ, suc, Bool, true, false, ◌&&◌, List, [], ◌∷◌, ◌++◌, map, filter, refl, ap, sym, ◌∙◌, arith}
use Rattle.std.proofs.lemmas.Bool.{and_parts, eqb-true, false≢true}
use Rattle.std.proofs.lemmas.Bool.Decides.{nat_tests}
use Rattle.std.proofs.lemmas.Grind.{flat_map-append}
use Rattle.std.proofs.lemmas.List.{append-nil}
use Rattle.std.specs.Prelude.{◌||◌, ◌==◌, cond, flat_map, nat_eq, slice_get, option_map, Option, Some}
use Rattle.std.specs.List.{list_all, list_any, AllByRecursion}
use Rattle.prog_data.specs.declared.conditions.Cond.{Cond}
use Rattle.prog_data.specs.declared.conditions.CondKind.{CondKind}
use Rattle.prog_data.specs.declared.conditions.CondKind.TheVariants.{Calls, Success, Comp}
use Rattle.prog_data.specs.declared.programs.Check.TheVariants as check
use Rattle.prog_data.specs.declared.programs.Program.{Program}
use Rattle.prog_data.specs.declared.tables.Status.{Status}
use Rattle.prog_data.specs.Conditions.{kind_of, is_calls, is_success, is_comp}
use Rattle.prog_data.specs.Goals.{pred_of}
use Rattle.prog_data.specs.Programs.{conditions_of, IsProgram}
use Rattle.prog_data.specs.RangeLaws.{RangesAreKept}
use Rattle.machine_model.specs.Instrumented.{is_kept, kept, one_mark, instrumented_pred}
use Rattle.run_report.specs.Expansion.{conds_of, is_kept_in}
use Rattle.run_report.specs.KeptLaws.{ExpandsKept}

-- booleans and lists

both : (a b : Bool) → a ≡ true → b ≡ true → (a && b) ≡ true
both true b e h = h
both false b e h = e

or_true : (a b : Bool) → b ≡ true → (a || b) ≡ true
or_true true b e = refl
or_true false b e = e

and_false : (a : Bool) → (a && false) ≡ false
and_false true = refl
and_false false = refl

-- one of three, if what they have in common is so
chosen : (a b c k : Bool) → ((a || b) || c) ≡ true → (((a && k) || (b && k)) || (c && k)) ≡ k
chosen true b c true e = refl
chosen false true c true e = refl
chosen false false true true e = refl
chosen false false false true e = absurd (false≢true e)
chosen a b c false e =
    ap (λ x. (x || (b && false)) || (c && false)) (and_false a) ∙ ap (λ x. (false || x) || (c && false)) (and_false b) ∙ ap (λ x. (false || false) || x) (and_false c)

any_append : (p : ℕ → Bool) (xs ys : List ℕ) → list_any p (xs ++ ys) ≡ (list_any p xs || list_any p ys)
any_append p [] ys = refl
any_append p (x ∷ xs) ys = ap (λ b. p x || b) (any_append p xs ys) ∙ either (p x)
  where
    either : (b : Bool) → (b || (list_any p xs || list_any p ys)) ≡ ((b || list_any p xs) || list_any p ys)
    either true = refl
    either false = refl

itself : (n : ℕ) → nat_eq n n ≡ true
itself n = grind (arith, nat_tests)

all_up : (p q : ℕ → Bool) → ((n : ℕ) → p n ≡ true → q n ≡ true) → (ns : List ℕ) → list_all p ns ≡ true → list_all q ns ≡ true
all_up p q keeps [] e = refl
all_up p q keeps (n ∷ ns) e = let parts = and_parts (p n) _ e in both (q n) _ (keeps n parts.0) (all_up p q keeps ns parts.1)

-- each number of a list is one of them
own_numbers : (ns : List ℕ) → list_all (λ n. list_any (nat_eq n) ns) ns ≡ true
own_numbers [] = refl
own_numbers (n ∷ ns) =
    both (nat_eq n n || list_any (nat_eq n) ns) _ (ap (λ b. b || list_any (nat_eq n) ns) (itself n))
    (all_up (λ m. list_any (nat_eq m) ns) (λ m. list_any (nat_eq m) (n ∷ ns)) (λ m e. or_true (nat_eq m n) (list_any (nat_eq m) ns) e) ns (own_numbers ns))

-- a number is left by a test where it is there and passes
any_filter : (t : ℕ → Bool) (n : ℕ) (xs : List ℕ) → list_any (nat_eq n) (filter t xs) ≡ (list_any (nat_eq n) xs && t n)
any_filter t n [] = refl
any_filter t n (x ∷ xs) = by (t x) (nat_eq n x) refl refl (any_filter t n xs)
  where
    passes : nat_eq n x ≡ true → t n ≡ t x
    passes same = ap t (eqb-true n x same)

    by : (b s : Bool) → t x ≡ b → nat_eq n x ≡ s → list_any (nat_eq n) (filter t xs) ≡ (list_any (nat_eq n) xs && t n)
        → list_any (nat_eq n) (cond b (x ∷ filter t xs) (filter t xs)) ≡ ((nat_eq n x || list_any (nat_eq n) xs) && t n)
    by true true is same rest =
        ap (λ s. s || list_any (nat_eq n) (filter t xs)) same ∙ sym (ap (λ s. (s || list_any (nat_eq n) xs) && t n) same ∙ (passes same ∙ is))
    by true false is same rest = ap (λ s. s || list_any (nat_eq n) (filter t xs)) same ∙ rest ∙ sym (ap (λ s. (s || list_any (nat_eq n) xs) && t n) same)
    by false true is same rest =
        rest ∙ ap (λ b. list_any (nat_eq n) xs && b) (passes same ∙ is) ∙ and_false (list_any (nat_eq n) xs)
        ∙ sym (ap (λ s. (s || list_any (nat_eq n) xs) && t n) same ∙ (passes same ∙ is))
    by false false is same rest = rest ∙ sym (ap (λ s. (s || list_any (nat_eq n) xs) && t n) same)

filter_same : (p q : ℕ → Bool) (ns : List ℕ) → AllByRecursion (λ n. p n ≡ q n) ns → filter p ns ≡ filter q ns
filter_same p q [] h = refl
filter_same p q (n ∷ ns) h = ap (λ b. cond b (n ∷ filter p ns) (filter p ns)) h.0 ∙ ap (λ ms. cond (q n) (n ∷ ms) ms) (filter_same p q ns h.1)

each_of : (p q : ℕ → Bool) (P : ℕ → Type 0) → ((n : ℕ) → p n ≡ true → q n ≡ true → P n) → (ns : List ℕ) → list_all p ns ≡ true → list_all q ns ≡ true → AllByRecursion P ns
each_of p q P h [] e f = tt
each_of p q P h (n ∷ ns) e f =
    let a = and_parts (p n) _ e in
    let b = and_parts (q n) _ f in
    (h n a.0 b.0, each_of p q P h ns a.1 b.1)

-- what checks name

of_calls : (cs : List ℕ) → flat_map conds_of (map check.Calls cs) ≡ cs
of_calls [] = refl
of_calls (c ∷ cs) = ap (λ xs. c ∷ xs) (of_calls cs)

of_notes : (cs : List ℕ) → flat_map conds_of (map check.Note cs) ≡ cs
of_notes [] = refl
of_notes (c ∷ cs) = ap (λ xs. c ∷ xs) (of_notes cs)

of_mark : (cs : List ℕ) → flat_map conds_of (one_mark cs) ≡ cs
of_mark [] = refl
of_mark (c ∷ cs) = append-nil (c ∷ cs)

of_checks : (calls notes marks : List ℕ) → flat_map conds_of (map check.Calls calls ++ map check.Note notes ++ one_mark marks) ≡ calls ++ notes ++ marks
of_checks calls notes marks =
    flat_map-append conds_of (map check.Calls calls ++ map check.Note notes) (one_mark marks)
    ∙ ap (λ xs. xs ++ flat_map conds_of (one_mark marks)) (flat_map-append conds_of (map check.Calls calls) (map check.Note notes))
    ∙ ap (λ xs. xs ++ flat_map conds_of (map check.Note notes) ++ flat_map conds_of (one_mark marks)) (of_calls calls)
    ∙ ap (λ xs. calls ++ xs ++ flat_map conds_of (one_mark marks)) (of_notes notes)
    ∙ ap (λ xs. calls ++ notes ++ xs) (of_mark marks)

-- conditions by their kinds

-- whether a condition is there
abbrev pub has_kind : Option CondKind → Bool
has_kind kind = (is_calls kind || is_success kind) || is_comp kind

some_kind : (kind : CondKind) → has_kind (Some kind) ≡ true
some_kind (Calls ds) = refl
some_kind (Success pre post) = refl
some_kind (Comp pre property) = refl

module _ (program : Program) where
  abbrev pub IsThere : Cond → Type 0
  IsThere condition = has_kind (kind_of program condition.id) ≡ true

  each_place : (conds : List Cond) → ((k : ℕ) (condition : Cond) → slice_get conds k ≡ Some condition → IsThere condition) → AllByRecursion IsThere conds
  each_place [] h = tt
  each_place (c ∷ conds) h = (h 0 c refl, each_place conds (λ k condition at. h (suc k) condition at))

  those_named : (q : Cond → Bool) (conds : List Cond) → AllByRecursion IsThere conds → list_all (λ c. has_kind (kind_of program c)) (map (λ condition. condition.id) (filter q conds)) ≡ true
  those_named q [] h = refl
  those_named q (c ∷ conds) h = either (q c) h.0 (those_named q conds h.1)
    where
      either : (b : Bool) → has_kind (kind_of program c.id) ≡ true → list_all (λ c. has_kind (kind_of program c)) (map (λ condition. condition.id) (filter q conds)) ≡ true
          → list_all (λ c. has_kind (kind_of program c)) (map (λ condition. condition.id) (cond b (c ∷ filter q conds) (filter q conds))) ≡ true
      either true here rest = both (has_kind (kind_of program c.id)) _ here rest
      either false here rest = rest

  all_there : IsProgram program → (p : ℕ) → list_all (λ c. has_kind (kind_of program c)) (conditions_of program p) ≡ true
  all_there is p = those_named (λ condition. condition.pred == p) program.conds (each_place program.conds there)
    where
      there : (k : ℕ) (condition : Cond) → slice_get program.conds k ≡ Some condition → has_kind (kind_of program condition.id) ≡ true
      there k condition at =
          ap (λ n. has_kind (kind_of program n)) (is.conds k condition at).id
          ∙ ap (λ (o : Option Cond). has_kind (option_map (λ (condition : Cond). condition.kind) o)) at
          ∙ some_kind condition.kind

  module _ (statuses : List Status) (conds : List ℕ) where
    abbrev pub of_kind : (Option CondKind → Bool) → List ℕ
    of_kind test = kept statuses (filter (λ c. test (kind_of program c)) conds)

    is_of_kind : (test : Option CondKind → Bool) (c : ℕ) → list_any (nat_eq c) conds ≡ true → list_any (nat_eq c) (of_kind test) ≡ (test (kind_of program c) && is_kept statuses c)
    is_of_kind test c own =
        any_filter (is_kept statuses) c (filter (λ c. test (kind_of program c)) conds)
        ∙ ap (λ b. b && is_kept statuses c) (any_filter (λ c. test (kind_of program c)) c conds)
        ∙ ap (λ b. (b && test (kind_of program c)) && is_kept statuses c) own

    kept_where : (c : ℕ) → list_any (nat_eq c) conds ≡ true → has_kind (kind_of program c) ≡ true
        → list_any (nat_eq c) (flat_map conds_of (map check.Calls (of_kind is_calls) ++ map check.Note (of_kind is_success) ++ one_mark (of_kind is_comp))) ≡ is_kept statuses c
    kept_where c own kind =
        ap (list_any (nat_eq c)) (of_checks (of_kind is_calls) (of_kind is_success) (of_kind is_comp))
        ∙ any_append (nat_eq c) (of_kind is_calls ++ of_kind is_success) (of_kind is_comp)
        ∙ ap (λ b. b || list_any (nat_eq c) (of_kind is_comp)) (any_append (nat_eq c) (of_kind is_calls) (of_kind is_success))
        ∙ ap (λ b. (b || list_any (nat_eq c) (of_kind is_success)) || list_any (nat_eq c) (of_kind is_comp)) (is_of_kind is_calls c own)
        ∙ ap (λ b. ((is_calls (kind_of program c) && is_kept statuses c) || b) || list_any (nat_eq c) (of_kind is_comp)) (is_of_kind is_success c own)
        ∙ ap (λ b. ((is_calls (kind_of program c) && is_kept statuses c) || (is_success (kind_of program c) && is_kept statuses c)) || b) (is_of_kind is_comp c own)
        ∙ chosen (is_calls (kind_of program c)) (is_success (kind_of program c)) (is_comp (kind_of program c)) (is_kept statuses c) kind

pub expands_kept : RangesAreKept → ExpandsKept
expands_kept ranges program statuses is p lt =
    let pred = pred_of program p in
    let there : list_all (λ c. has_kind (kind_of program c)) pred.conds ≡ true =
    ap (list_all (λ c. has_kind (kind_of program c))) (ranges.preds program is p lt).conds ∙ all_there program is p in
    filter_same (is_kept_in (instrumented_pred program statuses pred)) (is_kept statuses) pred.conds
    (each_of (λ c. list_any (nat_eq c) pred.conds) (λ c. has_kind (kind_of program c)) (λ c. is_kept_in (instrumented_pred program statuses pred) c ≡ is_kept statuses c)
    (kept_where program statuses pred.conds) pred.conds (own_numbers pred.conds) there)
