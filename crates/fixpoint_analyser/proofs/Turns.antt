-- Predicates are taken off and looked at until none waits.
use Rattle.std.proofs.Common.{◌≡◌, ◌⊎◌, inl, inr, ℕ, ◌+◌, ◌<◌, ◌≤◌, Bool, true, false, List, length, map, refl, ap, sym, ◌∙◌, subst, arith, true≢false}
use Rattle.std.proofs.lemmas.Bool.Decides.{nat_tests}
use Rattle.std.proofs.lemmas.List.{length-set, get_or-set_other}
use Rattle.std.specs.Prelude.{◌==◌, slice_set, Option, IsTrue}
use Rattle.prog_data.specs.declared.programs.Program.{Program}
use Rattle.prog_data.specs.declared.tables.Row.{Row}
use Rattle.prog_data.specs.declared.tables.Value.{Value}
use Rattle.name_order.specs.Relations.{order}
use Rattle.type_domain.specs.Laws.{AreOrdered}
use Rattle.goal_transfer.specs.Tables.{Facts, row_seen, facts_of, TableLeq}
use Rattle.fixpoint_analyser.specs.Ascent.{IsDone}
use Rattle.fixpoint_analyser.specs.Waits.{waits, number_waiting}
use Rattle.fixpoint_analyser.specs.Progress.{IsUnderWay, GivesTheSame, work_left, Ascends, Steps, IsSettled}
use Rattle.fixpoint_analyser.proofs.RowOrder.{table_itself, table_over}
use Rattle.fixpoint_analyser.proofs.DoneStays.{not_itself}
use Rattle.fixpoint_analyser.proofs.WaitLaws.{taken_fewer, waits_there}
use Rattle.fixpoint_analyser.proofs.Growth.{still_done}

-- a predicate that waited is one of the program's
pub pred_there : (program : Program) (rows : List Row) (stored : List (Option (List Value))) (flags : List Bool) → IsUnderWay program rows stored flags → (p : ℕ) → waits flags p ≡ true → p < length program.preds
pred_there program rows stored flags was p w = subst (λ n. p < n) was.flag_count (waits_there flags p w)

-- what is so at each moment is so where one is taken off
pub taken_off : (program : Program) (rows : List Row) (stored : List (Option (List Value))) (flags left : List Bool) (p : ℕ) → left ≡ slice_set flags p false → IsUnderWay program rows stored flags → IsUnderWay program rows stored left
taken_off program rows stored flags left p is was = record { table = was.table; below = was.below; exits = was.exits; stored_count = was.stored_count; flag_count = ap length is ∙ length-set flags p false ∙ was.flag_count }

less_then : (a m n o : ℕ) → m + 1 ≡ n → o ≤ a + m → o < a + n
less_then a m n o e le = omega (arith, e, le)

-- and then less work is left
pub less_work : (program : Program) (a : List Facts) (flags left : List Bool) (p : ℕ) (b : List Facts) (after : List Bool) → left ≡ slice_set flags p false → waits flags p ≡ true → Ascends program a left b after →
    work_left program b after < work_left program a flags
less_work program a flags left p b after is w up =
    less_then _ (number_waiting left) (number_waiting flags) (work_left program b after) (ap (λ fs. number_waiting fs + 1) is ∙ taken_fewer flags p w) up.work

module _ (program : Program) (ordered : AreOrdered (order program.grammar)) (a : List Facts) (flags left : List Bool) (p : ℕ) (b : List Facts) (after : List Bool) (is : left ≡ slice_set flags p false) (up : Ascends program a left b after) where
  other_settled : (q : ℕ) → (q ≡ p → ⊥) → (waits after q ≡ true) ⊎ GivesTheSame program a b q → IsSettled program a flags q → IsSettled program b after q
  other_settled q other (inl w) settled r = inl w
  other_settled q other (inr same) settled r = from (settled (sym same.reached ∙ r))
    where
      from : (waits flags q ≡ true) ⊎ IsDone program a q → (waits after q ≡ true) ⊎ IsDone program b q
      from (inl w) = inl (up.waiting q (ap (λ fs. waits fs q) is ∙ get_or-set_other flags p q false false other ∙ w))
      from (inr done) = inr (still_done program ordered a left b after up q same done)

  -- all are settled again once the one that was taken off is
  pub all_settled : ((q : ℕ) → IsSettled program a flags q) → IsSettled program b after p → (q : ℕ) → IsSettled program b after q
  all_settled settled own q = by_test (q == p) refl
    where
      by_test : (t : Bool) → (q == p) ≡ t → IsSettled program b after q
      by_test true e = let same : q ≡ p = grind (arith, nat_tests, e) in subst (IsSettled program b after) (sym same) own
      by_test false e = other_settled q (not_itself q p e) (up.others q) (settled q)

-- nothing is left to be done where none waits
pub all_done : (program : Program) (rows : List Facts) (flags : List Bool) → ((q : ℕ) → IsSettled program rows flags q) → ((q : ℕ) → waits flags q ≡ false) → (q : ℕ) → IsTrue (facts_of rows q).reached → IsDone program rows q
all_done program rows flags settled none q r = from (settled q r)
  where
    from : (waits flags q ≡ true) ⊎ IsDone program rows q → IsDone program rows q
    from (inl w) = absurd (true≢false (sym w ∙ none q))
    from (inr done) = done

-- how far predicates have been looked at
pub record Turned (program : Program) (old new : List Row) (stored : List (Option (List Value))) (flags : List Bool) : Type 0 where
  pub under_way : IsUnderWay program new stored flags
  pub grown : TableLeq (map row_seen old) (map row_seen new)
  pub settled : (q : ℕ) → IsSettled program (map row_seen new) flags q

pub turned_first : (program : Program) → AreOrdered (order program.grammar) → (rows : List Row) (stored : List (Option (List Value))) (flags : List Bool) → IsUnderWay program rows stored flags → ((q : ℕ) → IsSettled program (map row_seen rows) flags q) →
    Turned program rows rows stored flags
turned_first program ordered rows stored flags was settled = record { under_way = was; grown = table_itself (order program.grammar) ordered (map row_seen rows); settled = settled }

pub turned_more : (program : Program) → AreOrdered (order program.grammar) → (old rows : List Row) (stored : List (Option (List Value))) (flags left : List Bool) (p : ℕ) (new : List Row) (now : List (Option (List Value))) (after : List Bool) →
    left ≡ slice_set flags p false → Turned program old rows stored flags → Steps program rows left new now after → IsSettled program (map row_seen new) after p → Turned program old new now after
turned_more program ordered old rows stored flags left p new now after is had steps own = record {
  under_way = steps.under_way;
  grown = table_over (order program.grammar) ordered (map row_seen old) (map row_seen rows) (map row_seen new) had.grown steps.ascends.table;
  settled = all_settled program ordered (map row_seen rows) flags left p (map row_seen new) after is steps.ascends had.settled own;
}
