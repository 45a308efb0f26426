-- The calls of entries, and the table from the first to the last moment.
use Rattle.std.proofs.Common.{◌≡◌, ℕ, zero, suc, ◌+◌, ◌<◌, ◌≤◌, Bool, true, false, List, [], ◌∷◌, length, map, get_or, refl, ap, sym, ◌∙◌, subst, arith, true≢false}
use Rattle.std.proofs.lemmas.Bool.Decides.{nat_tests}
use Rattle.std.proofs.lemmas.Bool.{and_from}
use Rattle.std.proofs.lemmas.Option.{same_Some}
use Rattle.std.specs.Prelude.{nat_lt, slice_get, Option, Some, Contains, IsTrue}
use Rattle.std.specs.List.{list_all}
use Rattle.prog_data.specs.declared.conditions.Prop.{Prop}
use Rattle.prog_data.specs.declared.conditions.Prop.TheVariants as prop
use Rattle.prog_data.specs.declared.grammars.Grammar.{Grammar}
use Rattle.prog_data.specs.declared.programs.Entry.{Entry}
use Rattle.prog_data.specs.declared.programs.Pred.{Pred}
use Rattle.prog_data.specs.declared.programs.Program.{Program}
use Rattle.prog_data.specs.declared.tables.Row.{Row}
use Rattle.prog_data.specs.declared.tables.Value.{Value}
use Rattle.prog_data.specs.Goals.{pred_of}
use Rattle.prog_data.specs.Values.{seen}
use Rattle.prog_data.specs.Ranges.{is_prop_of, is_pred_of}
use Rattle.prog_data.specs.Programs.{IsProgram, is_entry_of}
use Rattle.prog_data.proofs.Leaves.{In, here, later}
use Rattle.prog_data.proofs.MembershipLaws.{contains_in}
use Rattle.name_order.specs.Relations.{order}
use Rattle.type_domain.specs.Laws.{AreOrdered}
use Rattle.goal_transfer.specs.Conditions.{types_of}
use Rattle.goal_transfer.specs.Range.{is_named}
use Rattle.goal_transfer.specs.States.{exits_seen}
use Rattle.goal_transfer.specs.Tables.{Facts, row_seen, facts_of, exits_of, IsTable, entry_call, TableLeq, Least}
use Rattle.goal_transfer.proofs.Lengths.{both}
use Rattle.fixpoint_analyser.specs.Ascent.{unreached, bottom, IsBelow, IsDone}
use Rattle.fixpoint_analyser.specs.ReliedOn.{ReliedOn}
use Rattle.fixpoint_analyser.specs.Progress.{IsUnderWay, Steps, IsSettled, IsEntered}
use Rattle.fixpoint_analyser.proofs.RowOrder.{still_reached}
use Rattle.fixpoint_analyser.proofs.StaysBelow.{stays_below, done_is_least}
use Rattle.fixpoint_analyser.proofs.TableStays.{table_stays}
use Rattle.fixpoint_analyser.proofs.Places.{got_at, pred_read}
use Rattle.fixpoint_analyser.proofs.Growth.{steps_itself, steps_over, settled_stays}

-- entries are in range

all_in : {A : Type 0} {x : A} (test : A → Bool) (xs : List A) → list_all test xs ≡ true → In x xs → test x ≡ true
all_in test [] e i = elim i [ ]
all_in {x = x} test (x' ∷ xs) e here = (both (test x) _ e).0
all_in test (y ∷ xs) e (later i) = all_in test xs (both (test y) _ e).1 i

prop_named : (arity size : ℕ) (p : Prop) → is_prop_of arity size p ≡ true → is_named size p ≡ true
prop_named arity size (prop.Belongs i n) e = (both (nat_lt i arity) _ e).1
prop_named arity size (prop.IsVar i) e = refl
prop_named arity size (prop.IsNonvar i) e = refl
prop_named arity size (prop.IsGround i) e = refl

props_named : (arity size : ℕ) (ps : List Prop) → list_all (is_prop_of arity size) ps ≡ true → list_all (is_named size) ps ≡ true
props_named arity size [] e = refl
props_named arity size (p ∷ ps) e = let b = both (is_prop_of arity size p) _ e in and_from (is_named size p) _ (prop_named arity size p b.0) (props_named arity size ps b.1)

module _ (program : Program) (range : IsProgram program) (e : Entry) (has : Contains program.entries e) where
  fits : (is_pred_of program e.pred ≡ true) × (list_all (is_prop_of (pred_of program e.pred).arity (length program.grammar.rules)) e.pre ≡ true)
  fits = both (is_pred_of program e.pred) _ (all_in (is_entry_of program) program.entries range.entries (contains_in e program.entries has))

  pub entry_pred : e.pred < length program.preds
  entry_pred = let b = fits.0 in grind (arith, nat_tests, b)

  pub entry_named : list_all (is_named (length program.grammar.rules)) e.pre ≡ true
  entry_named = props_named (pred_of program e.pred).arity (length program.grammar.rules) e.pre fits.1

  -- the values of its call
  pub entry_args : (preds : List Pred) (pred : Pred) (rel : Grammar) (props : List Prop) (args : List Value) → preds ≡ program.preds → pred ≡ get_or preds e.pred pred → rel ≡ program.grammar → props ≡ e.pre →
      map seen args ≡ types_of (order rel) pred.arity props → map seen args ≡ (entry_call program e).1
  entry_args preds pred rel props args is read is_grammar is_pre made =
      let at : pred_of program e.pred ≡ pred = pred_read program.preds e.pred pred entry_pred (subst (λ ps. pred ≡ get_or ps e.pred pred) is read) in
      made ∙ ap (λ g. types_of (order g) pred.arity props) is_grammar ∙ ap (λ ps. types_of (order program.grammar) pred.arity ps) is_pre ∙ ap (λ q. types_of (order program.grammar) q.arity e.pre) (sym at)

-- the entries so far

pub record EnteredFirst (program : Program) (old : List Row) (before : List Bool) (new : List Row) (stored : List (Option (List Value))) (after : List Bool) (k : ℕ) : Type 0 where
  pub steps : Steps program old before new stored after
  pub entered : (i : ℕ) (e : Entry) → i < k → slice_get program.entries i ≡ Some e → IsEntered program (map row_seen new) e

pub entered_none : (program : Program) → AreOrdered (order program.grammar) → (rows : List Row) (stored : List (Option (List Value))) (flags : List Bool) → IsUnderWay program rows stored flags → EnteredFirst program rows flags rows stored flags 0
entered_none program ordered rows stored flags was = record { steps = steps_itself program ordered rows stored flags was; entered = λ i e lt got. absurd (omega (arith, lt)) }

pub entered_stays : (program : Program) → AreOrdered (order program.grammar) → (old new : List Facts) → TableLeq old new → (e : Entry) → IsEntered program old e → IsEntered program new e
entered_stays program ordered old new le e had set = still_reached (order program.grammar) ordered old new le (entry_call program e) (had set)

module _ (program : Program) (ordered : AreOrdered (order program.grammar)) (old : List Row) (before : List Bool) (rows : List Row) (stored : List (Option (List Value))) (flags : List Bool) (k : ℕ) (new : List Row) (now : List (Option (List Value))) (after : List Bool)
    (had : EnteredFirst program old before rows stored flags k) (entry : Entry) (read : slice_get program.entries k ≡ Some entry) (steps : Steps program rows flags new now after) (own : IsEntered program (map row_seen new) entry) where
  one_entered : (i : ℕ) (e : Entry) → i < k + 1 → slice_get program.entries i ≡ Some e → IsEntered program (map row_seen new) e
  one_entered i e lt got = by_test (nat_lt i k) refl
    where
      by_test : (b : Bool) → nat_lt i k ≡ b → IsEntered program (map row_seen new) e
      by_test true t = entered_stays program ordered (map row_seen rows) (map row_seen new) steps.ascends.table e (had.entered i e (grind (arith, nat_tests, t)) got)
      by_test false t =
          let le : k ≤ i = grind (arith, nat_tests, t) in
          let same : i ≡ k = omega (arith, le, lt) in
          subst (IsEntered program (map row_seen new)) (same_Some entry e (sym read ∙ ap (slice_get program.entries) (sym same) ∙ got)) own

  pub entered_more : EnteredFirst program old before new now after (k + 1)
  entered_more = record { steps = steps_over program ordered old before rows stored flags new now after had.steps steps; entered = one_entered }

pub entered_all : (program : Program) (old : List Row) (before : List Bool) (new : List Row) (stored : List (Option (List Value))) (after : List Bool) (k : ℕ) → length program.entries ≤ k → EnteredFirst program old before new stored after k →
    (e : Entry) → Contains program.entries e → IsEntered program (map row_seen new) e
entered_all program old before new stored after k le had e has = had.entered has.0 e (let lt = has.1 in omega (arith, le, lt)) (got_at program.entries has.0 e has.1 has.2)

-- the first moment

pub under_way_first : (program : Program) → ReliedOn program → (rows : List Row) (stored : List (Option (List Value))) (flags : List Bool) → map row_seen rows ≡ bottom program → exits_seen stored ≡ exits_of program (order program.grammar) (bottom program) →
    length stored ≡ length program.preds → length flags ≡ length program.preds → IsUnderWay program rows stored flags
under_way_first program relied rows stored flags is exits count flag_count = record {
  table = subst (IsTable program) (sym is) (table_stays program relied.values).start;
  below = subst (IsBelow program) (sym is) (stays_below program relied.ordered relied.monotone).start;
  exits = exits ∙ ap (exits_of program (order program.grammar)) (sym is);
  stored_count = count;
  flag_count = flag_count;
}

none_reached : (preds : List Pred) (p : ℕ) → (facts_of (map (λ p. unreached p.arity) preds) p).reached ≡ false
none_reached [] p = refl
none_reached (x ∷ preds) zero = refl
none_reached (x ∷ preds) (suc p) = none_reached preds p

pub settled_first : (program : Program) (rows : List Facts) (flags : List Bool) → rows ≡ bottom program → (p : ℕ) → IsSettled program rows flags p
settled_first program rows flags is p r = absurd (true≢false (sym r ∙ ap (λ rs. (facts_of rs p).reached) is ∙ none_reached program.preds p))

-- behind the entries
pub settled_then : (program : Program) → AreOrdered (order program.grammar) → (old new : List Row) (before : List Bool) (stored : List (Option (List Value))) (after : List Bool) → Steps program old before new stored after → map row_seen old ≡ bottom program →
    (p : ℕ) → IsSettled program (map row_seen new) after p
settled_then program ordered old new before stored after steps is p =
    settled_stays program ordered (map row_seen old) before (map row_seen new) after steps.ascends p (settled_first program (map row_seen old) before is p)

-- the last moment
pub least_then : (program : Program) → AreOrdered (order program.grammar) → (mid new : List Row) (stored : List (Option (List Value))) (flags : List Bool) → IsUnderWay program new stored flags → TableLeq (map row_seen mid) (map row_seen new) →
    ((e : Entry) → Contains program.entries e → IsEntered program (map row_seen mid) e) → ((p : ℕ) → IsTrue (facts_of (map row_seen new) p).reached → IsDone program (map row_seen new) p) → Least program (map row_seen new)
least_then program ordered mid new stored flags was grown entered done =
    done_is_least program (map row_seen new) was.table was.below (λ e has set. entered_stays program ordered (map row_seen mid) (map row_seen new) grown e (entered e has) set) done
