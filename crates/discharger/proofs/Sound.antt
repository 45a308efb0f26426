-- Statuses by a closed table are true of each point.
use Rattle.std.proofs.Common.{◌≡◌, ℕ, zero, suc, Bool, true, false, ◌&&◌, ◌||◌, List, [], ◌∷◌, length, map, refl, ap, sym, ◌∙◌, subst, true≢false}
use Rattle.std.specs.Prelude.{not, ◌==◌, if◌then◌else◌, slice_get, Option, None, Some, option_map, IsTrue, Contains}
use Rattle.std.specs.List.{list_any, list_all, AllByRecursion}
use Rattle.std.proofs.lemmas.Option.{slice_get-map}
use Rattle.term_core.specs.declared.terms.Term.{Term}
use Rattle.prog_data.specs.declared.conditions.Cond.{Cond}
use Rattle.prog_data.specs.declared.conditions.CondKind.{CondKind}
use Rattle.prog_data.specs.declared.conditions.CondKind.TheVariants as kind
use Rattle.prog_data.specs.declared.conditions.CompProp.{CompProp}
use Rattle.prog_data.specs.declared.conditions.CompProp.TheVariants.{NotFails, Fails, IsDet}
use Rattle.prog_data.specs.declared.conditions.Prop.{Prop}
use Rattle.prog_data.specs.declared.programs.Program.{Program}
use Rattle.prog_data.specs.declared.tables.Table.{Table}
use Rattle.prog_data.specs.declared.tables.Row.{Row}
use Rattle.prog_data.specs.Conditions.{all_hold, kind_of, calls_hold, post_holds}
use Rattle.prog_data.specs.Goals.{pred_of}
use Rattle.prog_data.specs.Values.{TypeValue, AreIn}
use Rattle.prog_data.proofs.Leaves.{In, any_in, in_any}
use Rattle.prog_data.proofs.MembershipLaws.{in_contains, contains_in}
use Rattle.name_order.specs.Relations.{order}
use Rattle.machine_model.specs.State.{Choice, Mark, State, choice_at}
use Rattle.machine_model.specs.Step.{mark_of}
use Rattle.machine_model.specs.Points.{IsExit, IsFailure, HasMarked, Due, at_call, at_exit, at_fails, at_first_exit, at_later_exit, at_not_fails, at_failure, Reached, Tells, SoundBy, Described}
use Rattle.machine_model.specs.Marks.{MarksOwned}
use Rattle.discharger.proofs.Narrowing.{tests_of, narrowing}
use Rattle.discharger.specs.ReliedOn.{ReliedOn}
use Rattle.goal_transfer.specs.Conditions.{all_set, meet_each, types_of, all_implied, some_excluded}
use Rattle.goal_transfer.specs.Tables.{Facts, row_seen, table_seen, facts_of, Closed}
use Rattle.goal_transfer.specs.Statuses.{status_by, comp_checked, kind_checked, kind_false, status_of, statuses_of}
use Rattle.goal_transfer.proofs.Lengths.{both}
use Rattle.discharger.proofs.InConditions.{are_set, meet_each_in, all_implied_hold, some_excluded_fail}
use Rattle.discharger.proofs.Described.{ChoiceDescribed, StateDescribed}
use Rattle.discharger.proofs.DescribedCalls.{row_exits}
use Rattle.discharger.proofs.DescribedPoints.{reached_described, call_described, ExitOf, exit_described}

-- a stored table describes what its rows have

reached_row : (rows : List Row) (p : ℕ) → IsTrue (facts_of (map row_seen rows) p).reached → (row : Row) × (slice_get rows p ≡ Some row) × (row_seen row ≡ facts_of (map row_seen rows) p)
reached_row [] p e = absurd (true≢false (sym e))
reached_row (row ∷ rows) zero e = (row, refl, refl)
reached_row (row ∷ rows) (suc p) e = reached_row rows p e

exit_row : (rows : List Row) (p : ℕ) → IsTrue (facts_of (map row_seen rows) p).exits → (row : Row) × (slice_get rows p ≡ Some row) × (row_seen row ≡ facts_of (map row_seen rows) p)
exit_row [] p e = absurd (true≢false (sym e))
exit_row (row ∷ rows) zero e = (row, refl, refl)
exit_row (row ∷ rows) (suc p) e = exit_row rows p e

pub described : (program : Program) (table : Table) → ReliedOn program.grammar → Closed program (table_seen table) → Described program table
described program table relied closed =
    record {
      calls = λ bound s p args r c.
          let d = call_described true program (table_seen table) relied closed bound s p args (reached_described true program (table_seen table) relied closed bound s r) c in
          let row = reached_row table.rows p d.0 in
          (row.0, row.1, ap (λ f. f.reached) row.2 ∙ d.0, subst (λ f. AreIn program.grammar args f.entry) (sym row.2) d.1);
      exits = λ bound s p args noted mark r c.
          let d = exit_described true program (table_seen table) relied closed s p args noted mark (reached_described true program (table_seen table) relied closed bound s r) c in
          let row = exit_row table.rows p d.exits in
          (row.0, row.1, ap (λ f. f.exits) row.2 ∙ d.exits, subst (λ f. AreIn program.grammar args f.exit) (sym row.2) d.args_in);
    }

-- statuses

inside : (k l : CondKind) → Some k ≡ Some l → k ≡ l
inside k l e = cc

same_choice : (x c : Choice) → Some x ≡ Some c → x ≡ c
same_choice x c e = cc

-- a status is true where each of its two tests is
tells_by : (a b held : Bool) → (a ≡ true → held ≡ true) → (b ≡ true → held ≡ false) → Tells (Some (status_by a b)) held
tells_by true b held h k = h refl
tells_by false true held h k = k refl
tells_by false false held h k = tt

not_and : (a b : Bool) → a ≡ true → (not a || b) ≡ true → b ≡ true
not_and true b e f = f
not_and false b e f = absurd (true≢false (sym e))

neither_not : (a b : Bool) → a ≡ true → b ≡ true → (not a || not b) ≡ true → ⊥
neither_not true true e f g = true≢false (sym g)
neither_not true false e f g = true≢false (sym f)
neither_not false b e f g = true≢false (sym e)

not_both : (a b c : Bool) → a ≡ true → b ≡ true → ((not a || not b) || c) ≡ true → c ≡ true
not_both true true c e f g = g
not_both true false c e f g = absurd (true≢false (sym f))
not_both false b c e f g = absurd (true≢false (sym e))

chosen_described : (stops : Bool) (program : Program) (rows : List Facts) (h : ℕ) (cs : List Choice) (c : Choice) → AllByRecursion (ChoiceDescribed stops program rows) cs → choice_at h cs ≡ Some c → ChoiceDescribed stops program rows c
chosen_described stops program rows h [] c d e = cc
chosen_described stops program rows h (x ∷ xs) c d e = by_test (h == length xs) e (chosen_described stops program rows h xs c d.1)
  where
    by_test : (b : Bool) → (if b then Some x else choice_at h xs) ≡ Some c → (choice_at h xs ≡ Some c → ChoiceDescribed stops program rows c) → ChoiceDescribed stops program rows c
    by_test true e rest = subst (ChoiceDescribed stops program rows) (same_choice x c e) d.0
    by_test false e rest = rest e

-- each predicate's conditions are about it
abbrev pub HasOwnConditions : Program → Type 0
HasOwnConditions program = (p c : ℕ) (cond : Cond) → Contains (pred_of program p).conds c → slice_get program.conds c ≡ Some cond → cond.pred ≡ p

module _ (stops : Bool) (program : Program) (rows : List Facts) (relied : ReliedOn program.grammar) (closed : Closed (narrowing stops program) rows) (own : HasOwnConditions program) (owned : MarksOwned (tests_of stops program) program) where
  -- the status of a condition of this kind by the row of this predicate
  abbrev pub Says : ℕ → CondKind → Bool → Type 0
  Says p k held = Tells (Some (status_by (kind_checked (order program.grammar) (pred_of program p).arity (facts_of rows p) k) (kind_false (order program.grammar) (facts_of rows p) k))) held

  -- calls

  none_holds : (args : List Term) (vs : List TypeValue) → AreIn program.grammar args vs → (ds : List (List Prop)) → list_all (some_excluded (order program.grammar) vs) ds ≡ true → list_any (all_hold program.grammar args) ds ≡ false
  none_holds args vs a [] e = refl
  none_holds args vs a (d ∷ ds) e =
      let b = both (some_excluded (order program.grammar) vs d) _ e in
      ap (λ x. x || list_any (all_hold program.grammar args) ds) (some_excluded_fail program.grammar relied args vs a d b.0) ∙ none_holds args vs a ds b.1

  one_holds : (args : List Term) (vs : List TypeValue) → AreIn program.grammar args vs → (ds : List (List Prop)) → list_any (all_implied (order program.grammar) vs) ds ≡ true → list_any (all_hold program.grammar args) ds ≡ true
  one_holds args vs a ds e = let m = any_in (all_implied (order program.grammar) vs) ds e in in_any (all_hold program.grammar args) ds m.1 (all_implied_hold program.grammar relied args vs a m.0 m.2)

  says_calls : (p : ℕ) (args : List Term) (ds : List (List Prop)) → IsTrue (facts_of rows p).reached → AreIn program.grammar args (facts_of rows p).entry → Says p (kind.Calls ds) (calls_hold program.grammar args (Some (kind.Calls ds)))
  says_calls p args ds reached a =
      tells_by _ _ _ (λ e. one_holds args (facts_of rows p).entry a ds (not_and (facts_of rows p).reached _ reached e)) (λ e. none_holds args (facts_of rows p).entry a ds (both (facts_of rows p).reached _ e).1)

  -- exits

  says_success : (p : ℕ) (args : List Term) (pre post : List Prop) → IsTrue (facts_of rows p).exits → AreIn program.grammar args (facts_of rows p).exit → AreIn program.grammar args (types_of (order program.grammar) (pred_of program p).arity pre) →
      Says p (kind.Success pre post) (post_holds program.grammar args (Some (kind.Success pre post)))
  says_success p args pre post exits a b =
      let met = meet_each (order program.grammar) (facts_of rows p).exit (types_of (order program.grammar) (pred_of program p).arity pre) in
      let m = meet_each_in program.grammar relied args (facts_of rows p).exit (types_of (order program.grammar) (pred_of program p).arity pre) a b in
      tells_by _ _ _
      (λ e. all_implied_hold program.grammar relied args met m post (not_and (all_set met) _ (are_set program.grammar args met m)
      (not_both (facts_of rows p).reached (facts_of rows p).exits _ ((row_exits stops program rows relied closed p exits).after exits) exits e)))
      (λ e. some_excluded_fail program.grammar relied args (facts_of rows p).exit a post (both (facts_of rows p).exits _ (both ((facts_of rows p).reached && all_implied (order program.grammar) (facts_of rows p).entry pre) _ e).1).1)

  says_broken : (p : ℕ) (pre : List Prop) (property : CompProp) → (comp_checked (facts_of rows p) property ≡ true → ⊥) → Says p (kind.Comp pre property) false
  says_broken p pre property h = tells_by _ _ _ (λ e. absurd (h e)) (λ e. refl)

  says_held : (p : ℕ) (pre : List Prop) (property : CompProp) → Says p (kind.Comp pre property) true
  says_held p pre property = tells_by _ _ _ (λ e. refl) (λ e. absurd (true≢false (sym e)))

  exited : (p : ℕ) → IsTrue (facts_of rows p).exits → (not (facts_of rows p).reached || not (facts_of rows p).exits) ≡ true → ⊥
  exited p exits e = neither_not (facts_of rows p).reached (facts_of rows p).exits ((row_exits stops program rows relied closed p exits).after exits) exits e

  module _ (c : ℕ) (bound : ℕ) (s : State) (reached : Reached (tests_of stops program) program bound s) (cond : Cond) (get : slice_get program.conds c ≡ Some cond) where
    state : StateDescribed stops program rows s
    state = reached_described stops program rows relied closed bound s reached

    -- a status of the condition by a predicate that has it
    by_own : (p : ℕ) (k : CondKind) (held : Bool) → Contains (pred_of program p).conds c → cond.kind ≡ k → Says p k held → Tells (Some (status_of program rows cond)) held
    by_own p k held has same h =
        let pred : cond.pred ≡ p = own p c cond has get in
        subst (λ q. Tells (Some (status_by (kind_checked (order program.grammar) (pred_of program q).arity (facts_of rows q) cond.kind) (kind_false (order program.grammar) (facts_of rows q) cond.kind))) held) (sym pred) (subst (λ k. Says p k held) (sym same) h)

    at_exit_of : (p : ℕ) (args : List Term) (noted : List ℕ) (mark : Option ℕ) → IsExit s p args noted mark → ExitOf stops program rows relied closed p args noted
    at_exit_of p args noted mark is = exit_described stops program rows relied closed s p args noted mark state is

    -- a condition of the mark is one of the predicate's
    marked_own : (p : ℕ) (args : List Term) (noted : List ℕ) (mark : Option ℕ) (exited : Bool) → IsExit s p args noted mark → HasMarked s mark c exited → Contains (pred_of program p).conds c
    marked_own p args noted mark exited is m =
        let same : m.pred ≡ p = owned bound s p args noted mark m.pred m.conds exited reached is m.is in
        subst (λ q. Contains (pred_of program q).conds c) same (in_contains _ ((by_mark mark m.is).1 c (contains_in c m.conds m.has)))
      where
        by_mark : (mark : Option ℕ) → mark_of mark s.choices ≡ Some (Mark m.pred m.conds exited) → ChoiceDescribed stops program rows (Mark m.pred m.conds exited)
        by_mark None e = cc
        by_mark (Some h) e = chosen_described stops program rows h s.choices (Mark m.pred m.conds exited) state.choices e

    failed_mark : (conds : List ℕ) → IsFailure s conds false → (p : ℕ) × IsTrue (facts_of rows p).reached × ((d : ℕ) → In d conds → In d (pred_of program p).conds)
    failed_mark conds is = let d = subst (AllByRecursion (ChoiceDescribed stops program rows)) is.first.2 state.choices in (is.first.0, d.0.0, d.0.1)

    by_due : (k : Option CondKind) (held : Bool) → Some cond.kind ≡ k → Due program bound c s k held → Tells (Some (status_of program rows cond)) held
    by_due k held same (at_call {ds = ds} p args is has) =
        let d = call_described stops program rows relied closed bound s p args state is in
        by_own p (kind.Calls ds) _ has (inside _ _ same) (says_calls p args ds d.0 d.1)
    by_due k held same (at_exit {pre = pre} {post = post} p args noted mark is has) =
        let d = at_exit_of p args noted mark is in
        let i = contains_in c noted has in
        by_own p (kind.Success pre post) _ (in_contains _ (d.notes.own c i)) (inside _ _ same) (says_success p args pre post d.exits d.args_in (d.notes.pre c pre post i (ap (option_map (λ cond. cond.kind)) get ∙ same)))
    by_due k held same (at_fails {pre = pre} p args noted mark was is m) =
        by_own p (kind.Comp pre Fails) false (marked_own p args noted mark was is m) (inside _ _ same) (says_broken p pre Fails (exited p (at_exit_of p args noted mark is).exits))
    by_due k held same (at_first_exit {pre = pre} p args noted mark is m) = by_own p (kind.Comp pre IsDet) true (marked_own p args noted mark false is m) (inside _ _ same) (says_held p pre IsDet)
    by_due k held same (at_later_exit {pre = pre} p args noted mark is m) =
        by_own p (kind.Comp pre IsDet) false (marked_own p args noted mark true is m) (inside _ _ same) (says_broken p pre IsDet (exited p (at_exit_of p args noted mark is).exits))
    by_due k held same (at_not_fails {pre = pre} p args noted mark was is m) = by_own p (kind.Comp pre NotFails) true (marked_own p args noted mark was is m) (inside _ _ same) (says_held p pre NotFails)
    by_due k held same (at_failure {pre = pre} conds is has) =
        let m = failed_mark conds is in
        by_own m.0 (kind.Comp pre NotFails) false (in_contains _ (m.2 c (contains_in c conds has))) (inside _ _ same) (says_broken m.0 pre NotFails (unreached (facts_of rows m.0).reached m.1))
      where
        unreached : (b : Bool) → b ≡ true → not b ≡ true → ⊥
        unreached true e f = true≢false (sym f)
        unreached false e f = true≢false (sym e)

  -- each status is true of each point
  pub sound : SoundBy (tests_of stops program) program (statuses_of program rows)
  sound c held point = by_cond (slice_get program.conds c) refl
    where
      by_cond : (found : Option Cond) → slice_get program.conds c ≡ found → Tells (slice_get (statuses_of program rows) c) held
      by_cond found get = subst (λ o. Tells o held) (sym (slice_get-map (status_of program rows) program.conds c ∙ ap (option_map (status_of program rows)) get)) (by_found found get)
        where
          by_found : (found : Option Cond) → slice_get program.conds c ≡ found → Tells (option_map (status_of program rows) found) held
          by_found None get = tt
          by_found (Some cond) get = by_due c point.bound point.state point.reached cond get (kind_of program c) held (sym (ap (option_map (λ cond. cond.kind)) get)) point.due
