-- The call checks of an instrumented predicate are in range.
use Rattle.std.proofs.Common.{◌≡◌, ◌≤◌, ℕ, Bool, true, false, ◌&&◌, List, [], ◌∷◌, ◌++◌, map, filter, length, drop, refl, ap, sym, ◌∙◌, subst, arith}
use Rattle.std.proofs.lemmas.Bool.{and_parts}
use Rattle.std.proofs.lemmas.Grind.{flat_map-append}
use Rattle.std.proofs.lemmas.List.{append-nil, append_assoc}
use Rattle.std.specs.Prelude.{flat_map, nat_eq, not, cond}
use Rattle.std.specs.List.{list_all, list_any}
use Rattle.prog_data.specs.declared.programs.Check.{Check}
use Rattle.prog_data.specs.declared.programs.Check.TheVariants as check
use Rattle.prog_data.specs.declared.programs.Pred.{Pred}
use Rattle.prog_data.specs.declared.programs.Program.{Program}
use Rattle.prog_data.specs.declared.tables.Status.{Status}
use Rattle.prog_data.specs.Conditions.{kind_of, is_calls, is_success, is_comp}
use Rattle.prog_data.specs.Goals.{checked_at_call, checked_by_note}
use Rattle.prog_data.specs.Programs.{rises, marked_by, is_check_of, HasCallChecks}
use Rattle.machine_model.specs.Instrumented.{is_kept, kept, one_mark as mark_check, instrumented_pred, instrumented}
use Rattle.instrumenter.proofs.Lists.{both, filter_all, filter_both, filter_rises, own_numbers, none_left}

-- what the checks of a kind name

calls_calls : (cs : List ℕ) → flat_map checked_at_call (map check.Calls cs) ≡ cs
calls_calls [] = refl
calls_calls (c ∷ cs) = ap (λ xs. c ∷ xs) (calls_calls cs)

calls_notes : (cs : List ℕ) → flat_map checked_at_call (map check.Note cs) ≡ []
calls_notes [] = refl
calls_notes (c ∷ cs) = calls_notes cs

calls_mark : (cs : List ℕ) → flat_map checked_at_call (mark_check cs) ≡ []
calls_mark [] = refl
calls_mark (c ∷ cs) = refl

notes_calls : (cs : List ℕ) → flat_map checked_by_note (map check.Calls cs) ≡ []
notes_calls [] = refl
notes_calls (c ∷ cs) = notes_calls cs

notes_notes : (cs : List ℕ) → flat_map checked_by_note (map check.Note cs) ≡ cs
notes_notes [] = refl
notes_notes (c ∷ cs) = ap (λ xs. c ∷ xs) (notes_notes cs)

notes_mark : (cs : List ℕ) → flat_map checked_by_note (mark_check cs) ≡ []
notes_mark [] = refl
notes_mark (c ∷ cs) = refl

marks_calls : (cs : List ℕ) → flat_map marked_by (map check.Calls cs) ≡ []
marks_calls [] = refl
marks_calls (c ∷ cs) = marks_calls cs

marks_notes : (cs : List ℕ) → flat_map marked_by (map check.Note cs) ≡ []
marks_notes [] = refl
marks_notes (c ∷ cs) = marks_notes cs

three : {X Y : Type 0} (f : X → List Y) (a b c : List X) → flat_map f (a ++ b ++ c) ≡ flat_map f a ++ flat_map f b ++ flat_map f c
three f a b c = flat_map-append f (a ++ b) c ∙ ap (λ xs. xs ++ flat_map f c) (flat_map-append f a b)

-- the checks of an instrumented predicate, by what they name
module _ (calls notes marks : List ℕ) where
  abbrev pub checks : List Check
  checks = map check.Calls calls ++ map check.Note notes ++ mark_check marks

  calls_of : flat_map checked_at_call checks ≡ calls
  calls_of =
      three checked_at_call (map check.Calls calls) (map check.Note notes) (mark_check marks) ∙ ap (λ xs. xs ++ flat_map checked_at_call (map check.Note notes) ++ flat_map checked_at_call (mark_check marks)) (calls_calls calls)
      ∙ ap (λ xs. calls ++ xs ++ flat_map checked_at_call (mark_check marks)) (calls_notes notes) ∙ ap (λ xs. calls ++ [] ++ xs) (calls_mark marks) ∙ append-nil (calls ++ []) ∙ append-nil calls

  notes_of : flat_map checked_by_note checks ≡ notes
  notes_of =
      three checked_by_note (map check.Calls calls) (map check.Note notes) (mark_check marks) ∙ ap (λ xs. xs ++ flat_map checked_by_note (map check.Note notes) ++ flat_map checked_by_note (mark_check marks)) (notes_calls calls)
      ∙ ap (λ xs. xs ++ flat_map checked_by_note (mark_check marks)) (notes_notes notes) ∙ ap (λ xs. notes ++ xs) (notes_mark marks) ∙ append-nil notes

  marks_of : flat_map marked_by checks ≡ flat_map marked_by (mark_check marks)
  marks_of =
      three marked_by (map check.Calls calls) (map check.Note notes) (mark_check marks) ∙ ap (λ xs. xs ++ flat_map marked_by (map check.Note notes) ++ flat_map marked_by (mark_check marks)) (marks_calls calls)
      ∙ ap (λ xs. xs ++ flat_map marked_by (mark_check marks)) (marks_notes notes)

none_is_few : 0 ≤ 1
none_is_few = omega arith

one_is_few : 1 ≤ 1
one_is_few = omega arith

one_list : (cs : List ℕ) → length (flat_map marked_by (mark_check cs)) ≤ 1
one_list [] = none_is_few
one_list (c ∷ cs) = one_is_few

list_rises : (cs : List ℕ) → rises cs ≡ true → list_all rises (flat_map marked_by (mark_check cs)) ≡ true
list_rises [] e = refl
list_rises (c ∷ cs) e = both (rises (c ∷ cs)) true e refl

-- tests of lists of checks, from what is asked of each condition
all_calls : (p : Check → Bool) (cs : List ℕ) → list_all (λ c. p (check.Calls c)) cs ≡ true → (rest : List Check) → list_all p rest ≡ true → list_all p (map check.Calls cs ++ rest) ≡ true
all_calls p [] e rest h = h
all_calls p (c ∷ cs) e rest h = let parts = and_parts (p (check.Calls c)) _ e in both (p (check.Calls c)) _ parts.0 (all_calls p cs parts.1 rest h)

all_notes : (p : Check → Bool) (cs : List ℕ) → list_all (λ c. p (check.Note c)) cs ≡ true → (rest : List Check) → list_all p rest ≡ true → list_all p (map check.Note cs ++ rest) ≡ true
all_notes p [] e rest h = h
all_notes p (c ∷ cs) e rest h = let parts = and_parts (p (check.Note c)) _ e in both (p (check.Note c)) _ parts.0 (all_notes p cs parts.1 rest h)

module _ (program : Program) (statuses : List Status) where
  abbrev pub inst : Program
  inst = instrumented program statuses

  module _ (pred : Pred) where
    abbrev pub made : Pred
    made = instrumented_pred program statuses pred

    -- the kept conditions of a kind
    abbrev pub of_kind : (ℕ → Bool) → List ℕ
    of_kind test = kept statuses (filter test pred.conds)

    -- each is one of the predicate's, and of the kind
    all_named : (test : ℕ → Bool) → list_all (λ c. list_any (nat_eq c) pred.conds && test c) (of_kind test) ≡ true
    all_named test =
        filter_all (λ c. list_any (nat_eq c) pred.conds && test c) (is_kept statuses) (filter test pred.conds) (filter_both (λ c. list_any (nat_eq c) pred.conds) test pred.conds (own_numbers pred.conds))

    mark_named : (cs : List ℕ) → list_all (λ c. list_any (nat_eq c) pred.conds && is_comp (kind_of program c)) cs ≡ true → list_all (is_check_of inst made) (mark_check cs) ≡ true
    mark_named [] e = refl
    mark_named (c ∷ cs) e = both _ true e refl

    kinds : list_all (is_check_of inst made) made.call_checks ≡ true
    kinds =
        let calls = of_kind (λ c. is_calls (kind_of program c)) in
        let notes = of_kind (λ c. is_success (kind_of program c)) in
        let marks = of_kind (λ c. is_comp (kind_of program c)) in
        subst (λ checks. list_all (is_check_of inst made) checks ≡ true) (sym (append_assoc (map check.Calls calls) (map check.Note notes) (mark_check marks)))
        (all_calls (is_check_of inst made) calls (all_named (λ c. is_calls (kind_of program c))) (map check.Note notes ++ mark_check marks)
        (all_notes (is_check_of inst made) notes (all_named (λ c. is_success (kind_of program c))) (mark_check marks)
        (mark_named marks (all_named (λ c. is_comp (kind_of program c))))))

    -- the conditions behind the first are none on calls, so at most one is kept
    one_call : (conds : List ℕ) → list_all (λ c. not (is_calls (kind_of program c))) (drop 1 conds) ≡ true → length (kept statuses (filter (λ c. is_calls (kind_of program c)) conds)) ≤ 1
    one_call [] e = none_is_few
    one_call (c ∷ cs) e = either (is_calls (kind_of program c)) (none_left (λ c. is_calls (kind_of program c)) cs e)
      where
        single : (b : Bool) → length (cond b (c ∷ []) []) ≤ 1
        single true = one_is_few
        single false = none_is_few

        either : (b : Bool) → filter (λ c. is_calls (kind_of program c)) cs ≡ []
            → length (kept statuses (cond b (c ∷ filter (λ c. is_calls (kind_of program c)) cs) (filter (λ c. is_calls (kind_of program c)) cs))) ≤ 1
        either true none = subst (λ xs. length (kept statuses (c ∷ xs)) ≤ 1) (sym none) (single (is_kept statuses c))
        either false none = subst (λ xs. length (kept statuses xs) ≤ 1) (sym none) none_is_few

    pub has_checks : rises pred.conds ≡ true → list_all (λ c. not (is_calls (kind_of program c))) (drop 1 pred.conds) ≡ true → HasCallChecks inst made
    has_checks rising first =
        let calls = of_kind (λ c. is_calls (kind_of program c)) in
        let notes = of_kind (λ c. is_success (kind_of program c)) in
        let marks = of_kind (λ c. is_comp (kind_of program c)) in
        record {
          kinds = kinds;
          one_calls = subst (λ cs. length cs ≤ 1) (sym (calls_of calls notes marks)) (one_call pred.conds first);
          notes_rise = subst (λ cs. rises cs ≡ true) (sym (notes_of calls notes marks)) (filter_rises (is_kept statuses) (filter (λ c. is_success (kind_of program c)) pred.conds) (filter_rises (λ c. is_success (kind_of program c)) pred.conds rising));
          one_mark = subst (λ lists. length lists ≤ 1) (sym (marks_of calls notes marks)) (one_list marks);
          marks_rise =
              subst (λ lists. list_all rises lists ≡ true) (sym (marks_of calls notes marks))
              (list_rises marks (filter_rises (is_kept statuses) (filter (λ c. is_comp (kind_of program c)) pred.conds) (filter_rises (λ c. is_comp (kind_of program c)) pred.conds rising)));
        }
