-- What the code of an exit that is joined knows, and what it has to show.
use Rattle.std.proofs.Common.{◌≡◌, ℕ, ◌<◌, Bool, true, false, List, length, map, refl, ap, sym, ◌∙◌, subst}
use Rattle.std.proofs.lemmas.Bool.{MatchBool-at_true, MatchBool-at_false}
use Rattle.std.proofs.lemmas.List.{length-map}
use Rattle.std.specs.Prelude.{MatchBool, Option, None, Some, IfSome, IsTrue}
use Rattle.prog_data.specs.declared.grammars.Grammar.{Grammar}
use Rattle.prog_data.specs.declared.programs.Program.{Program}
use Rattle.prog_data.specs.declared.tables.Row.{Row}
use Rattle.prog_data.specs.declared.tables.Value.{Value}
use Rattle.prog_data.specs.Values.{TypeValue, seen}
use Rattle.name_order.specs.Relations.{order}
use Rattle.goal_transfer.specs.Laws.{ExitGiven}
use Rattle.goal_transfer.specs.States.{list_seen, exits_seen}
use Rattle.goal_transfer.specs.Tables.{row_seen, facts_of, exits_of, HasExit}
use Rattle.fixpoint_analyser.specs.Ascent.{with_exit, callers_of}
use Rattle.fixpoint_analyser.specs.Laws.{AllExit}
use Rattle.fixpoint_analyser.specs.ReliedOn.{ReliedOn}
use Rattle.fixpoint_analyser.specs.Callers.{stands_in}
use Rattle.fixpoint_analyser.specs.Progress.{IsUnderWay, Steps, Wakes}
use Rattle.fixpoint_analyser.proofs.ExitLaws.{exits_stay}
use Rattle.fixpoint_analyser.proofs.Growth.{steps_same}
use Rattle.fixpoint_analyser.proofs.CallSteps.{row_there}
use Rattle.fixpoint_analyser.proofs.ExitSteps.{exit_other_rows, exit_had, exit_steps}

-- an exit has a value for each argument of its row
pub exit_count : (program : Program) (rows : List Row) (stored : List (Option (List Value))) (flags : List Bool) → IsUnderWay program rows stored flags → (p : ℕ) → p < length program.preds → (exit : Option (List Value)) →
    ExitGiven program (order program.grammar) p (list_seen exit) → IfSome exit (λ vs. length vs ≡ length (facts_of (map row_seen rows) p).exit)
exit_count program rows stored flags was p lt None given = tt
exit_count program rows stored flags was p lt (Some vs) given = sym (length-map vs seen) ∙ given.0 ∙ sym (was.table.each p lt).exit.0

module _ (program : Program) (relied : ReliedOn program) (old new : List Row) (stored : List (Option (List Value))) (before : List Bool) (p : ℕ) (lt : p < length program.preds) (exit : Option (List Value)) (was : IsUnderWay program old stored before)
    (given : ExitGiven program (order program.grammar) p (list_seen exit)) (rows_are : map row_seen new ≡ with_exit (map row_seen old) p (list_seen exit)) where
  pub now_had : HasExit (facts_of (map row_seen new) p) (list_seen exit)
  now_had = exit_had program relied (map row_seen old) (map row_seen new) was.table p lt (list_seen exit) given rows_are

  with_same_rows : (es : Option (List TypeValue)) (q : ℕ) → (q ≡ p → ⊥) → facts_of (with_exit (map row_seen old) p es) q ≡ facts_of (map row_seen old) q
  with_same_rows None q other = refl
  with_same_rows (Some vs) q other = exit_other_rows program (map row_seen old) p vs (row_there program relied (map row_seen old) was.table p lt) q other

  same_rows : (q : ℕ) → (q ≡ p → ⊥) → facts_of (map row_seen new) q ≡ facts_of (map row_seen old) q
  same_rows q other = ap (λ rows. facts_of rows q) rows_are ∙ with_same_rows (list_seen exit) q other

  module _ (b : Bool) (changed : MatchBool b (HasExit (facts_of (map row_seen old) p) (list_seen exit) → ⊥) (HasExit (facts_of (map row_seen old) p) (list_seen exit) × (new ≡ old))) where
    pub exit_unchanged : b ≡ false → Steps program old before new stored before
    exit_unchanged e = steps_same program relied.ordered old new stored before (MatchBool-at_false _ _ e changed).1 was

    pub exit_changed : b ≡ true → IsTrue (facts_of (map row_seen old) p).reached → AllExit program p (list_seen exit) → (rel : Grammar) → rel ≡ program.grammar → (now : List (Option (List Value))) → length now ≡ length stored →
        exits_seen now p ≡ exits_of program (order rel) (map row_seen new) p → ((q : ℕ) → (q ≡ p → ⊥) → exits_seen now q ≡ exits_seen stored q) →
        (after : List Bool) (list : List ℕ) → list ≡ callers_of program p → Wakes before after (λ q. stands_in list q) → Steps program old before new now after
    exit_changed e reached all rel is_grammar now as_before own others after list is_list wakes =
        let exits_now : exits_seen now ≡ exits_of program (order program.grammar) (map row_seen new) =
        exits_stay program (order program.grammar) (map row_seen old) (map row_seen new) (exits_seen stored) (exits_seen now) p was.exits same_rows
        (subst (λ g. exits_seen now p ≡ exits_of program (order g) (map row_seen new) p) is_grammar own) others in
        exit_steps program relied old new stored now before after p lt was reached exits_now as_before (subst (λ ns. Wakes before after (λ q. stands_in ns q)) is_list wakes)
        (list_seen exit) given all rows_are (MatchBool-at_true _ _ e changed)
