-- An exit that is joined into its row: what is so at each moment stays so, and who may give something else waits.
use Rattle.std.proofs.Common.{◌≡◌, ◌⊎◌, inl, inr, ℕ, ◌<◌, ◌≤◌, Bool, true, false, ◌||◌, List, length, map, refl, ap, sym, ◌∙◌, subst, arith}
use Rattle.std.proofs.lemmas.Bool.Decides.{nat_tests}
use Rattle.std.specs.Prelude.{◌==◌, nat_lt, Option, None, Some, Contains, IsTrue}
use Rattle.prog_data.specs.declared.programs.Clause.{Clause}
use Rattle.prog_data.specs.declared.programs.Program.{Program}
use Rattle.prog_data.specs.declared.tables.Row.{Row}
use Rattle.prog_data.specs.declared.tables.Value.{Value}
use Rattle.prog_data.specs.Goals.{pred_of}
use Rattle.prog_data.specs.Values.{TypeValue}
use Rattle.name_order.specs.Relations.{order}
use Rattle.type_domain.specs.Laws.{LeqEach}
use Rattle.goal_transfer.specs.Laws.{ExitGiven}
use Rattle.goal_transfer.specs.States.{exits_seen}
use Rattle.goal_transfer.specs.Tables.{Facts, row_seen, facts_of, exits_of, IsTable, HasExit}
use Rattle.fixpoint_analyser.specs.Ascent.{exited_row, with_exit, IsBelow, calls, callers_of}
use Rattle.fixpoint_analyser.specs.Heights.{table_height}
use Rattle.fixpoint_analyser.specs.Laws.{AllExit}
use Rattle.fixpoint_analyser.specs.ReliedOn.{ReliedOn}
use Rattle.fixpoint_analyser.specs.Callers.{stands_in}
use Rattle.fixpoint_analyser.specs.Waits.{waits, number_waiting}
use Rattle.fixpoint_analyser.specs.Progress.{IsUnderWay, GivesTheSame, Ascends, Steps, Wakes}
use Rattle.fixpoint_analyser.proofs.RowOrder.{exited_leq, each_second, row_grows}
use Rattle.fixpoint_analyser.proofs.StaysBelow.{stays_below}
use Rattle.fixpoint_analyser.proofs.TableStays.{with_same, with_other, table_stays}
use Rattle.fixpoint_analyser.proofs.DoneStays.{not_itself, same_effect, exits_agree}
use Rattle.fixpoint_analyser.proofs.RowHeights.{exit_falls}
use Rattle.fixpoint_analyser.proofs.CallerLaws.{not_calling}
use Rattle.fixpoint_analyser.proofs.CallSteps.{still_waits, no_clauses, row_there}
use Rattle.fixpoint_analyser.proofs.Growth.{fall_pays, flags_within}

-- it waits, or it is not among these
among : (w x s : Bool) → x ≡ (w || s) → (x ≡ true) ⊎ (s ≡ false)
among true x s e = inl e
among false x true e = inl e
among false x false e = inr refl

module _ (program : Program) (rows : List Facts) (q : ℕ) (vs : List TypeValue) (lt : q < length rows) where
  pub exit_other_rows : (p : ℕ) → (p ≡ q → ⊥) → facts_of (with_exit rows q (Some vs)) p ≡ facts_of rows p
  exit_other_rows p other = with_other rows q p (exited_row vs (facts_of rows q)) (λ e. other (sym e))

  own_exit : facts_of (with_exit rows q (Some vs)) q ≡ exited_row vs (facts_of rows q)
  own_exit = with_same rows q (exited_row vs (facts_of rows q)) lt

  -- calls are as they were
  calls_kept : (p : ℕ) → ((facts_of (with_exit rows q (Some vs)) p).reached ≡ (facts_of rows p).reached) × ((facts_of (with_exit rows q (Some vs)) p).entry ≡ (facts_of rows p).entry)
  calls_kept p = by_test (p == q) refl
    where
      by_test : (b : Bool) → (p == q) ≡ b → ((facts_of (with_exit rows q (Some vs)) p).reached ≡ (facts_of rows p).reached) × ((facts_of (with_exit rows q (Some vs)) p).entry ≡ (facts_of rows p).entry)
      by_test true e =
          let is : p ≡ q = grind (arith, nat_tests, e) in
          subst (λ p. ((facts_of (with_exit rows q (Some vs)) p).reached ≡ (facts_of rows p).reached) × ((facts_of (with_exit rows q (Some vs)) p).entry ≡ (facts_of rows p).entry)) (sym is)
          (ap (λ f. f.reached) own_exit, ap (λ f. f.entry) own_exit)
      by_test false e = let same = exit_other_rows p (not_itself p q e) in (ap (λ f. f.reached) same, ap (λ f. f.entry) same)

  exit_free : (p : ℕ) → ((clause : Clause) → Contains (pred_of program p).clauses clause → calls q clause.body ≡ false) → GivesTheSame program rows (with_exit rows q (Some vs)) p
  exit_free p free = record {
    reached = (calls_kept p).0;
    effects = λ clause has. same_effect program rows (with_exit rows q (Some vs)) p clause (calls_kept p).1 (exits_agree program rows (with_exit rows q (Some vs)) q exit_other_rows clause (free clause has));
  }

  -- who may give something else waits
  module _ (before after : List Bool) (count : length before ≡ length program.preds) (wakes : Wakes before after (stands_in (callers_of program q))) where
    exit_inside : (p : ℕ) → p < length program.preds → (waits after p ≡ true) ⊎ GivesTheSame program rows (with_exit rows q (Some vs)) p
    exit_inside p less = by_choice (among (waits before p) (waits after p) (stands_in (callers_of program q) p) (wakes.each p (subst (λ n. p < n) (sym count) less)))
      where
        by_choice : (waits after p ≡ true) ⊎ (stands_in (callers_of program q) p ≡ false) → (waits after p ≡ true) ⊎ GivesTheSame program rows (with_exit rows q (Some vs)) p
        by_choice (inl w) = inl w
        by_choice (inr e) = inr (exit_free p (not_calling program p q less e))

    pub exit_others : (p : ℕ) → (waits after p ≡ true) ⊎ GivesTheSame program rows (with_exit rows q (Some vs)) p
    exit_others p = by_place (nat_lt p (length program.preds)) refl
      where
        by_place : (b : Bool) → nat_lt p (length program.preds) ≡ b → (waits after p ≡ true) ⊎ GivesTheSame program rows (with_exit rows q (Some vs)) p
        by_place true e = exit_inside p (grind (arith, nat_tests, e))
        by_place false e = let le : length program.preds ≤ p = grind (arith, nat_tests, e) in inr (exit_free p (λ clause has. no_clauses program p le clause q has))

module _ (program : Program) (relied : ReliedOn program) where
  -- the values of a row and of an exit are as many
  pub exits_as_many : (rows : List Facts) → IsTable program rows → (q : ℕ) → q < length program.preds → (vs : List TypeValue) → ExitGiven program (order program.grammar) q (Some vs) → length (facts_of rows q).exit ≡ length vs
  exits_as_many rows table q lt vs given = (table.each q lt).exit.0 ∙ sym given.0

  -- the row has the exit then
  pub exit_had : (old new : List Facts) → IsTable program old → (q : ℕ) → q < length program.preds → (es : Option (List TypeValue)) → ExitGiven program (order program.grammar) q es → new ≡ with_exit old q es → HasExit (facts_of new q) es
  exit_had old new table q lt None given is = tt
  exit_had old new table q lt (Some vs) given is =
      let own = own_exit program old q vs (row_there program relied old table q lt) in
      subst (λ rows. HasExit (facts_of rows q) (Some vs)) (sym is)
      (ap (λ f. f.exits) own, subst (λ f. LeqEach vs f.exit) (sym own) (each_second (order program.grammar) relied.ordered (facts_of old q).exit vs (exits_as_many old table q lt vs given)))

  module _ (old new : List Row) (stored now : List (Option (List Value))) (before after : List Bool) (q : ℕ) (lt : q < length program.preds) (was : IsUnderWay program old stored before)
      (reached : IsTrue (facts_of (map row_seen old) q).reached) (exits : exits_seen now ≡ exits_of program (order program.grammar) (map row_seen new)) (as_before : length now ≡ length stored)
      (wakes : Wakes before after (stands_in (callers_of program q))) where
    module _ (vs : List TypeValue) (given : ExitGiven program (order program.grammar) q (Some vs)) (all : AllExit program q (Some vs)) (is : map row_seen new ≡ with_exit (map row_seen old) q (Some vs))
        (fresh : HasExit (facts_of (map row_seen old) q) (Some vs) → ⊥) where
      exit_goes_on : IsUnderWay program new now after
      exit_goes_on = record {
        table = subst (IsTable program) (sym is) ((table_stays program relied.values).exit (map row_seen old) was.table q lt reached (Some vs) given);
        below = subst (IsBelow program) (sym is) ((stays_below program relied.ordered relied.monotone).exit_joined (map row_seen old) was.below q (Some vs) all);
        exits = exits;
        stored_count = as_before ∙ was.stored_count;
        flag_count = wakes.count ∙ was.flag_count;
      }

      exit_grows : Ascends program (map row_seen old) before (with_exit (map row_seen old) q (Some vs)) after
      exit_grows = record {
        table = row_grows (order program.grammar) relied.ordered (map row_seen old) q _ (exited_leq (order program.grammar) relied.ordered (facts_of (map row_seen old) q) vs (exits_as_many (map row_seen old) was.table q lt vs given));
        waiting = λ p w. still_waits before after _ wakes p w;
        others = λ p. exit_others program (map row_seen old) q vs (row_there program relied (map row_seen old) was.table q lt) before after was.flag_count wakes p;
        work = fall_pays (table_height (order program.grammar) (map row_seen old)) (table_height (order program.grammar) (with_exit (map row_seen old) q (Some vs))) (length program.preds) (number_waiting before) (number_waiting after)
            (exit_falls program (map row_seen old) was.table q lt (Some vs) given fresh) (flags_within after (length program.preds) (wakes.count ∙ was.flag_count));
      }

      some_steps : Steps program old before new now after
      some_steps = record { under_way = exit_goes_on; ascends = subst (λ rows. Ascends program (map row_seen old) before rows after) (sym is) exit_grows }

    pub exit_steps : (es : Option (List TypeValue)) → ExitGiven program (order program.grammar) q es → AllExit program q es → map row_seen new ≡ with_exit (map row_seen old) q es → (HasExit (facts_of (map row_seen old) q) es → ⊥) →
        Steps program old before new now after
    exit_steps None given all is fresh = absurd (fresh tt)
    exit_steps (Some vs) given all is fresh = some_steps vs given all is fresh
