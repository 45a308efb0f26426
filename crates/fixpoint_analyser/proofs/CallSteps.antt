-- A call that is joined into its row: what is so at each moment stays so, and who may give something else waits.
use Rattle.std.proofs.Common.{◌≡◌, ◌⊎◌, inl, inr, ℕ, ◌<◌, ◌≤◌, Bool, true, false, ◌||◌, ◌&&◌, List, length, map, refl, ap, sym, ◌∙◌, subst, arith}
use Rattle.std.proofs.lemmas.Bool.Decides.{nat_tests}
use Rattle.std.specs.Prelude.{◌==◌, nat_lt, Option, None, Contains}
use Rattle.prog_data.specs.declared.programs.Clause.{Clause}
use Rattle.prog_data.specs.declared.programs.Program.{Program}
use Rattle.prog_data.specs.declared.tables.Row.{Row}
use Rattle.prog_data.specs.declared.tables.Value.{Value}
use Rattle.prog_data.specs.Goals.{pred_of}
use Rattle.name_order.specs.Relations.{order}
use Rattle.type_domain.specs.Laws.{LeqEach}
use Rattle.goal_transfer.specs.Transfer.{ReachedCall}
use Rattle.goal_transfer.specs.Conditions.{narrowed_exit}
use Rattle.goal_transfer.specs.Range.{CallGiven}
use Rattle.goal_transfer.specs.States.{exits_seen}
use Rattle.goal_transfer.specs.Tables.{Facts, row_seen, facts_of, exit_where, exits_of, IsTable, IsReached}
use Rattle.fixpoint_analyser.specs.Ascent.{called_row, with_call, IsBelow, calls, callers_of}
use Rattle.fixpoint_analyser.specs.Heights.{table_height}
use Rattle.fixpoint_analyser.specs.Laws.{AllReach}
use Rattle.fixpoint_analyser.specs.ReliedOn.{ReliedOn}
use Rattle.fixpoint_analyser.specs.Callers.{stands_in}
use Rattle.fixpoint_analyser.specs.Waits.{waits, number_waiting}
use Rattle.fixpoint_analyser.specs.Progress.{IsUnderWay, GivesTheSame, Ascends, Steps, Wakes}
use Rattle.fixpoint_analyser.proofs.RowOrder.{called_leq, each_second, row_grows}
use Rattle.fixpoint_analyser.proofs.StaysBelow.{stays_below}
use Rattle.fixpoint_analyser.proofs.TableStays.{with_same, with_other, table_stays}
use Rattle.fixpoint_analyser.proofs.DoneStays.{not_itself, same_effect, same_exits, exits_agree}
use Rattle.fixpoint_analyser.proofs.RowHeights.{call_falls}
use Rattle.fixpoint_analyser.proofs.CallerLaws.{not_calling}
use Rattle.fixpoint_analyser.proofs.WaitLaws.{waits_there}
use Rattle.fixpoint_analyser.proofs.Places.{past_pred}
use Rattle.fixpoint_analyser.proofs.Growth.{fall_pays, flags_within}

-- tests

or_true : (a : Bool) → (a || true) ≡ true
or_true true = refl
or_true false = refl

-- it waits, or it is neither the one nor among the others
chosen : (w x a b s : Bool) → x ≡ (w || (a || (b && s))) → (x ≡ true) ⊎ ((a ≡ false) × ((b ≡ false) ⊎ (s ≡ false)))
chosen w x true b s e = inl (e ∙ or_true w)
chosen w x false false s e = inr (refl, inl refl)
chosen w x false true false e = inr (refl, inr refl)
chosen w x false true true e = inl (e ∙ or_true w)

-- those that waited still wait
pub still_waits : (before after : List Bool) (woken : ℕ → Bool) → Wakes before after woken → (p : ℕ) → waits before p ≡ true → waits after p ≡ true
still_waits before after woken wakes p w = wakes.each p (waits_there before p w) ∙ ap (λ b. b || woken p) w

-- where no predicate is there are no clauses
pub no_clauses : (program : Program) (p : ℕ) → length program.preds ≤ p → (clause : Clause) (q : ℕ) → Contains (pred_of program p).clauses clause → calls q clause.body ≡ false
no_clauses program p le clause q has =
    let lt : has.0 < length (pred_of program p).clauses = has.1 in
    let none : has.0 < 0 = subst (λ pred. has.0 < length pred.clauses) (past_pred program.preds p le) lt in
    absurd (omega (arith, none))

-- no exit where a row does not exit
off : (program : Program) (rows : List Facts) (q : ℕ) → (facts_of rows q).exits ≡ false → exits_of program (order program.grammar) rows q ≡ None
off program rows q e = ap (λ b. exit_where b (narrowed_exit program (order program.grammar) q (facts_of rows q).entry (facts_of rows q).exit)) e

module _ (program : Program) (rows : List Facts) (c : ReachedCall) (lt : c.0 < length rows) where
  pub other_rows : (p : ℕ) → (p ≡ c.0 → ⊥) → facts_of (with_call rows c) p ≡ facts_of rows p
  other_rows p other = with_other rows c.0 p (called_row c.1 (facts_of rows c.0)) (λ e. other (sym e))

  own_row : facts_of (with_call rows c) c.0 ≡ called_row c.1 (facts_of rows c.0)
  own_row = with_same rows c.0 (called_row c.1 (facts_of rows c.0)) lt

  -- it exits if it did
  exits_kept : (facts_of (with_call rows c) c.0).exits ≡ (facts_of rows c.0).exits
  exits_kept = ap (λ f. f.exits) own_row

  agree_off : (facts_of (with_call rows c) c.0).exits ≡ false → (clause : Clause) (r : ℕ) →
      (exits_of program (order program.grammar) (with_call rows c) r ≡ exits_of program (order program.grammar) rows r) ⊎ (calls r clause.body ≡ false)
  agree_off e clause r = by_test (r == c.0) refl
    where
      by_test : (b : Bool) → (r == c.0) ≡ b → (exits_of program (order program.grammar) (with_call rows c) r ≡ exits_of program (order program.grammar) rows r) ⊎ (calls r clause.body ≡ false)
      by_test true f =
          let is : r ≡ c.0 = grind (arith, nat_tests, f) in
          inl (subst (λ r. exits_of program (order program.grammar) (with_call rows c) r ≡ exits_of program (order program.grammar) rows r) (sym is)
          (off program (with_call rows c) c.0 e ∙ sym (off program rows c.0 (sym exits_kept ∙ e))))
      by_test false f = inl (same_exits program rows (with_call rows c) r (other_rows r (not_itself r c.0 f)))

  same_off : (p : ℕ) → (p ≡ c.0 → ⊥) → (facts_of (with_call rows c) c.0).exits ≡ false → GivesTheSame program rows (with_call rows c) p
  same_off p other e = record {
    reached = ap (λ f. f.reached) (other_rows p other);
    effects = λ clause has. same_effect program rows (with_call rows c) p clause (ap (λ f. f.entry) (other_rows p other)) (agree_off e clause);
  }

  same_free : (p : ℕ) → (p ≡ c.0 → ⊥) → ((clause : Clause) → Contains (pred_of program p).clauses clause → calls c.0 clause.body ≡ false) → GivesTheSame program rows (with_call rows c) p
  same_free p other free = record {
    reached = ap (λ f. f.reached) (other_rows p other);
    effects = λ clause has. same_effect program rows (with_call rows c) p clause (ap (λ f. f.entry) (other_rows p other)) (exits_agree program rows (with_call rows c) c.0 other_rows clause (free clause has));
  }

  -- who may give something else waits
  module _ (within : c.0 < length program.preds) (before after : List Bool) (count : length before ≡ length program.preds)
      (wakes : Wakes before after (λ p. (c.0 == p) || ((facts_of (with_call rows c) c.0).exits && stands_in (callers_of program c.0) p))) where
    inside : (p : ℕ) → p < length program.preds → (waits after p ≡ true) ⊎ GivesTheSame program rows (with_call rows c) p
    inside p less =
        by_choice (chosen (waits before p) (waits after p) (c.0 == p) (facts_of (with_call rows c) c.0).exits (stands_in (callers_of program c.0) p) (wakes.each p (subst (λ n. p < n) (sym count) less)))
      where
        by_flag : (p ≡ c.0 → ⊥) → ((facts_of (with_call rows c) c.0).exits ≡ false) ⊎ (stands_in (callers_of program c.0) p ≡ false) → GivesTheSame program rows (with_call rows c) p
        by_flag other (inl e) = same_off p other e
        by_flag other (inr e) = same_free p other (not_calling program p c.0 less e)

        by_choice : (waits after p ≡ true) ⊎ (((c.0 == p) ≡ false) × (((facts_of (with_call rows c) c.0).exits ≡ false) ⊎ (stands_in (callers_of program c.0) p ≡ false))) →
            (waits after p ≡ true) ⊎ GivesTheSame program rows (with_call rows c) p
        by_choice (inl w) = inl w
        by_choice (inr h) = inr (by_flag (λ e. not_itself c.0 p h.0 (sym e)) h.1)

    pub call_others : (p : ℕ) → (waits after p ≡ true) ⊎ GivesTheSame program rows (with_call rows c) p
    call_others p = by_place (nat_lt p (length program.preds)) refl
      where
        by_place : (b : Bool) → nat_lt p (length program.preds) ≡ b → (waits after p ≡ true) ⊎ GivesTheSame program rows (with_call rows c) p
        by_place true e = inside p (grind (arith, nat_tests, e))
        by_place false e =
            let le : length program.preds ≤ p = grind (arith, nat_tests, e) in
            inr (same_free p (λ is. absurd (omega (arith, le, within, is))) (λ clause has. no_clauses program p le clause c.0 has))

module _ (program : Program) (relied : ReliedOn program) where
  -- the values of a row and of a call are as many
  pub as_many : (rows : List Facts) → IsTable program rows → (c : ReachedCall) → CallGiven program (order program.grammar) c → length (facts_of rows c.0).entry ≡ length c.1
  as_many rows table c given = (table.each c.0 given.0).entry.0 ∙ sym given.1

  pub row_there : (rows : List Facts) → IsTable program rows → (p : ℕ) → p < length program.preds → p < length rows
  row_there rows table p lt = subst (λ n. p < n) (sym table.count) lt

  -- the call is reached then
  pub call_reached : (old new : List Facts) → IsTable program old → (c : ReachedCall) → CallGiven program (order program.grammar) c → new ≡ with_call old c → IsReached new c
  call_reached old new table c given is =
      let own = own_row program old c (row_there old table c.0 given.0) in
      subst (λ rows. IsReached rows c) (sym is)
      (ap (λ f. f.reached) own, subst (λ f. LeqEach c.1 f.entry) (sym own) (each_second (order program.grammar) relied.ordered (facts_of old c.0).entry c.1 (as_many old table c given)))

  module _ (old new : List Row) (stored now : List (Option (List Value))) (before after : List Bool) (c : ReachedCall) (was : IsUnderWay program old stored before) (given : CallGiven program (order program.grammar) c)
      (all : AllReach program c) (is : map row_seen new ≡ with_call (map row_seen old) c) (fresh : IsReached (map row_seen old) c → ⊥) (exits : exits_seen now ≡ exits_of program (order program.grammar) (map row_seen new))
      (as_before : length now ≡ length stored) (wakes : Wakes before after (λ p. (c.0 == p) || ((facts_of (map row_seen new) c.0).exits && stands_in (callers_of program c.0) p))) where
    goes_on : IsUnderWay program new now after
    goes_on = record {
      table = subst (IsTable program) (sym is) ((table_stays program relied.values).call (map row_seen old) was.table c given);
      below = subst (IsBelow program) (sym is) ((stays_below program relied.ordered relied.monotone).call_joined (map row_seen old) was.below c all);
      exits = exits;
      stored_count = as_before ∙ was.stored_count;
      flag_count = wakes.count ∙ was.flag_count;
    }

    grows : Ascends program (map row_seen old) before (with_call (map row_seen old) c) after
    grows = record {
      table = row_grows (order program.grammar) relied.ordered (map row_seen old) c.0 _ (called_leq (order program.grammar) relied.ordered (facts_of (map row_seen old) c.0) c.1 (as_many (map row_seen old) was.table c given));
      waiting = λ p w. still_waits before after _ wakes p w;
      others = λ p. call_others program (map row_seen old) c (row_there (map row_seen old) was.table c.0 given.0) given.0 before after was.flag_count
          (subst (λ rows. Wakes before after (λ p. (c.0 == p) || ((facts_of rows c.0).exits && stands_in (callers_of program c.0) p))) is wakes) p;
      work = fall_pays (table_height (order program.grammar) (map row_seen old)) (table_height (order program.grammar) (with_call (map row_seen old) c)) (length program.preds) (number_waiting before) (number_waiting after)
          (call_falls program (map row_seen old) was.table c given fresh) (flags_within after (length program.preds) (wakes.count ∙ was.flag_count));
    }

    pub call_steps : Steps program old before new now after
    call_steps = record { under_way = goes_on; ascends = subst (λ rows. Ascends program (map row_seen old) before rows after) (sym is) grows }
