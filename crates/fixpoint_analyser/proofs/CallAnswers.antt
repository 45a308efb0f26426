-- What the code of a call that is joined knows, and what it has to show.
use Rattle.std.proofs.Common.{◌≡◌, ℕ, ◌<◌, ◌≤◌, ◌+◌, Bool, true, false, ◌||◌, ◌&&◌, List, [], ◌∷◌, ◌++◌, length, map, take, get_or, refl, ap, sym, ◌∙◌, subst}
use Rattle.std.proofs.lemmas.Bool.{MatchBool-at_true, MatchBool-at_false}
use Rattle.std.proofs.lemmas.List.{length-map, take_more, take_all}
use Rattle.std.specs.Prelude.{◌==◌, MatchBool, Option}
use Rattle.std.specs.List.{AllByRecursion}
use Rattle.prog_data.specs.declared.grammars.Grammar.{Grammar}
use Rattle.prog_data.specs.declared.programs.Program.{Program}
use Rattle.prog_data.specs.declared.tables.Row.{Row}
use Rattle.prog_data.specs.declared.tables.Value.{Value}
use Rattle.prog_data.specs.Values.{seen}
use Rattle.name_order.specs.Relations.{order}
use Rattle.goal_transfer.specs.declared.states.Reached.{Reached}
use Rattle.goal_transfer.specs.Range.{CallGiven}
use Rattle.goal_transfer.specs.States.{exits_seen, call_seen}
use Rattle.goal_transfer.specs.Tables.{row_seen, facts_of, exits_of, IsReached}
use Rattle.type_domain.specs.Laws.{AreOrdered}
use Rattle.fixpoint_analyser.specs.Ascent.{with_call, callers_of}
use Rattle.fixpoint_analyser.specs.Laws.{AllReach}
use Rattle.fixpoint_analyser.specs.ReliedOn.{ReliedOn}
use Rattle.fixpoint_analyser.specs.Callers.{stands_in}
use Rattle.fixpoint_analyser.specs.Progress.{AreCallers, IsUnderWay, Steps, Wakes}
use Rattle.fixpoint_analyser.proofs.RowOrder.{all_still_reached}
use Rattle.fixpoint_analyser.proofs.RowLaws.{row_at}
use Rattle.fixpoint_analyser.proofs.ExitLaws.{exits_stay}
use Rattle.fixpoint_analyser.proofs.Growth.{steps_itself, steps_same, steps_over}
use Rattle.fixpoint_analyser.proofs.CallSteps.{other_rows, call_reached, call_steps, row_there}

-- places

-- there is a row for each predicate, a stored exit, a flag and a list of callers
pub row_in : (program : Program) (rows : List Row) (stored : List (Option (List Value))) (flags : List Bool) → IsUnderWay program rows stored flags → (p : ℕ) → p < length program.preds → p < length rows
row_in program rows stored flags was p lt = subst (λ n. p < n) (sym was.table.count ∙ length-map rows row_seen) lt

pub exit_in : (program : Program) (rows : List Row) (stored : List (Option (List Value))) (flags : List Bool) → IsUnderWay program rows stored flags → (p : ℕ) → p < length program.preds → p < length stored
exit_in program rows stored flags was p lt = subst (λ n. p < n) (sym was.stored_count) lt

pub flag_in : (program : Program) (rows : List Row) (stored : List (Option (List Value))) (flags : List Bool) → IsUnderWay program rows stored flags → (p : ℕ) → p < length program.preds → p < length flags
flag_in program rows stored flags was p lt = subst (λ n. p < n) (sym was.flag_count) lt

pub callers_in : (program : Program) (lists : List (List ℕ)) → AreCallers program lists → (p : ℕ) → p < length program.preds → p < length lists
callers_in program lists are p lt = subst (λ n. p < n) (sym are.count) lt

-- a call has a value for each argument of its row
pub args_count : (program : Program) (rows : List Row) (stored : List (Option (List Value))) (flags : List Bool) → IsUnderWay program rows stored flags → (call : Reached) → CallGiven program (order program.grammar) (call_seen call) →
    (xs : List Value) → xs ≡ call.args → length xs ≡ length (facts_of (map row_seen rows) call.pred).entry
args_count program rows stored flags was call given xs is = ap length is ∙ sym (length-map call.args seen) ∙ given.1 ∙ sym (was.table.each call.pred given.0).entry.0

module _ (program : Program) (relied : ReliedOn program) (old new : List Row) (stored : List (Option (List Value))) (before : List Bool) (call : Reached) (xs : List Value) (is_args : xs ≡ call.args) (was : IsUnderWay program old stored before)
    (given : CallGiven program (order program.grammar) (call_seen call)) (rows_are : map row_seen new ≡ with_call (map row_seen old) (call.pred, map seen xs)) where
  joined : map row_seen new ≡ with_call (map row_seen old) (call_seen call)
  joined = rows_are ∙ ap (λ vs. with_call (map row_seen old) (call.pred, map seen vs)) is_args

  pub now_reached : IsReached (map row_seen new) (call_seen call)
  now_reached = call_reached program relied (map row_seen old) (map row_seen new) was.table (call_seen call) given joined

  same_rows : (q : ℕ) → (q ≡ call.pred → ⊥) → facts_of (map row_seen new) q ≡ facts_of (map row_seen old) q
  same_rows q other = ap (λ rows. facts_of rows q) joined ∙ other_rows program (map row_seen old) (call_seen call) (row_there program relied (map row_seen old) was.table call.pred given.0) q other

  module _ (b : Bool) (changed : MatchBool b (IsReached (map row_seen old) (call.pred, map seen xs) → ⊥) (IsReached (map row_seen old) (call.pred, map seen xs) × (new ≡ old))) where
    pub call_unchanged : b ≡ false → Steps program old before new stored before
    call_unchanged e = steps_same program relied.ordered old new stored before (MatchBool-at_false _ _ e changed).1 was

    module _ (e : b ≡ true) (all : AllReach program (call_seen call)) (rel : Grammar) (is_grammar : rel ≡ program.grammar) (now : List (Option (List Value))) (as_before : length now ≡ length stored)
        (own : exits_seen now call.pred ≡ exits_of program (order rel) (map row_seen new) call.pred) (others : (q : ℕ) → (q ≡ call.pred → ⊥) → exits_seen now q ≡ exits_seen stored q) where
      fresh : IsReached (map row_seen old) (call_seen call) → ⊥
      fresh had = MatchBool-at_true _ _ e changed (subst (λ vs. IsReached (map row_seen old) (call.pred, map seen vs)) (sym is_args) had)

      exits_now : exits_seen now ≡ exits_of program (order program.grammar) (map row_seen new)
      exits_now =
          exits_stay program (order program.grammar) (map row_seen old) (map row_seen new) (exits_seen stored) (exits_seen now) call.pred was.exits same_rows
          (subst (λ g. exits_seen now call.pred ≡ exits_of program (order g) (map row_seen new) call.pred) is_grammar own) others

      pub call_changed : (after : List Bool) (row : Row) (lists : List (List ℕ)) (list : List ℕ) → AreCallers program lists → list ≡ callers_of program call.pred → call.pred < length new → row ≡ get_or new call.pred row →
          Wakes before after (λ p. (call.pred == p) || (row.exits && stands_in list p)) → Steps program old before new now after
      call_changed after row lists list are is_list lt read wakes =
          call_steps program relied old new stored now before after (call_seen call) was given all joined fresh exits_now as_before
          (subst (λ f. Wakes before after (λ p. (call.pred == p) || (f && stands_in (callers_of program call.pred) p))) (sym (ap (λ f. f.exits) (row_at new call.pred row lt read)))
          (subst (λ ns. Wakes before after (λ p. (call.pred == p) || (row.exits && stands_in ns p))) is_list wakes))

-- calls, one after the other

all_append : {A : Type 0} (P : A → Type 0) (xs ys : List A) → AllByRecursion P xs → AllByRecursion P ys → AllByRecursion P (xs ++ ys)
all_append P [] ys h k = k
all_append P (x ∷ xs) ys h k = (h.0, all_append P xs ys h.1 k)

map_append : {A B : Type 0} (f : A → B) (xs ys : List A) → map f (xs ++ ys) ≡ map f xs ++ map f ys
map_append f [] ys = refl
map_append f (x ∷ xs) ys = ap (λ zs. f x ∷ zs) (map_append f xs ys)

-- the first calls have been taken
pub record TakenFirst (program : Program) (old : List Row) (before : List Bool) (rows : List Row) (stored : List (Option (List Value))) (flags : List Bool) (calls : List Reached) (k : ℕ) : Type 0 where
  pub steps : Steps program old before rows stored flags
  pub reached : AllByRecursion (IsReached (map row_seen rows)) (map call_seen (take k calls))

pub taken_none : (program : Program) → AreOrdered (order program.grammar) → (rows : List Row) (stored : List (Option (List Value))) (flags : List Bool) (calls : List Reached) → IsUnderWay program rows stored flags → TakenFirst program rows flags rows stored flags calls 0
taken_none program ordered rows stored flags calls was = record { steps = steps_itself program ordered rows stored flags was; reached = tt }

pub taken_more : (program : Program) → AreOrdered (order program.grammar) → (old : List Row) (before : List Bool) (rows : List Row) (stored : List (Option (List Value))) (flags : List Bool) (calls : List Reached) (k : ℕ)
    (new : List Row) (now : List (Option (List Value))) (after : List Bool) (call : Reached) → TakenFirst program old before rows stored flags calls k → Steps program rows flags new now after → k < length calls → call ≡ get_or calls k call →
    IsReached (map row_seen new) (call_seen call) → TakenFirst program old before new now after calls (k + 1)
taken_more program ordered old before rows stored flags calls k new now after call had steps lt read reached = record {
  steps = steps_over program ordered old before rows stored flags new now after had.steps steps;
  reached =
      subst (λ cs. AllByRecursion (IsReached (map row_seen new)) (map call_seen cs)) (sym (take_more calls k call lt ∙ ap (λ c. take k calls ++ c ∷ []) (sym read)))
      (subst (AllByRecursion (IsReached (map row_seen new))) (sym (map_append call_seen (take k calls) (call ∷ [])))
      (all_append (IsReached (map row_seen new)) (map call_seen (take k calls)) (call_seen call ∷ []) (all_still_reached (order program.grammar) ordered (map row_seen rows) (map row_seen new) steps.ascends.table _ had.reached) (reached, tt)));
}

pub taken_all : (program : Program) (old : List Row) (before : List Bool) (rows : List Row) (stored : List (Option (List Value))) (flags : List Bool) (calls : List Reached) (k : ℕ) → length calls ≤ k → TakenFirst program old before rows stored flags calls k →
    AllByRecursion (IsReached (map row_seen rows)) (map call_seen calls)
taken_all program old before rows stored flags calls k le had = subst (λ cs. AllByRecursion (IsReached (map row_seen rows)) (map call_seen cs)) (take_all k calls le) had.reached
