-- By a table each clause gives values that the analysis keeps.
use Rattle.std.proofs.Common.{◌≡◌, ℕ, zero, suc, ◌+◌, ◌<◌, Bool, true, false, List, [], ◌∷◌, length, map, refl, ◌∙◌, subst, arith}
use Rattle.std.proofs.lemmas.Bool.Decides.{nat_tests}
use Rattle.std.specs.Prelude.{◌==◌, ◌&&◌, nat_lt, slice_get, Option, None, Some, option_map, Contains}
use Rattle.std.specs.List.{list_all, AllByRecursion}
use Rattle.prog_data.specs.declared.basic_names.TheConstants.{GND_TYPE}
use Rattle.prog_data.specs.declared.conditions.Prop.{Prop}
use Rattle.prog_data.specs.declared.conditions.Prop.TheVariants as prop
use Rattle.prog_data.specs.declared.conditions.Cond.{Cond}
use Rattle.prog_data.specs.declared.conditions.CondKind.{CondKind}
use Rattle.prog_data.specs.declared.conditions.CondKind.TheVariants.{Calls, Success, Comp}
use Rattle.prog_data.specs.declared.programs.Clause.{Clause}
use Rattle.prog_data.specs.declared.programs.Program.{Program}
use Rattle.prog_data.specs.Conditions.{kind_of}
use Rattle.prog_data.specs.Goals.{pred_of, without_exit}
use Rattle.prog_data.specs.Ranges.{is_pred_of, is_term_of, is_body_of, is_place_of, is_clause_of, is_prop_of, is_kind_of}
use Rattle.prog_data.specs.Programs.{IsProgram, is_entry_of}
use Rattle.prog_data.specs.RangeLaws.{RangesAreKept}
use Rattle.prog_data.proofs.Leaves.{In, here, later}
use Rattle.prog_data.proofs.MembershipLaws.{contains_in}
use Rattle.prog_data.specs.Values.{TypeValue}
use Rattle.name_order.specs.Relations.{names_from, Order, order}
use Rattle.type_domain.specs.Values.{term_name, is_set, IsValue, of_name}
use Rattle.type_domain.specs.Laws.{GiveValues}
use Rattle.goal_transfer.specs.Transfer.{Known, from_known, run_goal, term_value}
use Rattle.goal_transfer.specs.Conditions.{all_set, meet_each, join_each, meet_name, typed_by, type_of, types_of, all_implied, values_where, join_values, met_with, narrowed_by, entry_at, entry_by, narrowed_entry, meet_where_true, exit_at, exit_by, narrowed_exit}
use Rattle.goal_transfer.specs.Tables.{Facts, facts_of, IsTable, exit_where, exits_of, unknown, behind_head, values_known}
use Rattle.goal_transfer.specs.Range.{IsGiven, KnownGiven, ExitsGiven, OutcomeGiven}
use Rattle.goal_transfer.specs.Laws.{ExitGiven, ClausesGive}
use Rattle.goal_transfer.proofs.Lengths.{both, types_length, exit_there}
use Rattle.goal_transfer.proofs.ExitRuns.{exits_nothing}
use Rattle.goal_transfer.proofs.Given.{map_count, ten_names, many_names, values_given, push_each_given, goal_gives}

all_has : {A : Type 0} {x : A} (p : A → Bool) (xs : List A) → list_all p xs ≡ true → In x xs → p x ≡ true
all_has p [] e i = elim i [ ]
all_has {x = x} p (x' ∷ xs) e here = (both (p x) _ e).0
all_has p (y ∷ xs) e (later i) = all_has p xs (both (p y) _ e).1 i

module _ (program : Program) (range : IsProgram program) (ranges : RangesAreKept) (given : GiveValues (order program.grammar)) where
  -- whether each property of a kind of condition is in range
  abbrev KindFits : ℕ → Option CondKind → Type 0
  KindFits arity None = Unit {0}
  KindFits arity (Some k) = is_kind_of arity (length program.grammar.rules) k ≡ true

  kinds : (c : ℕ) → (arity : ℕ) × KindFits arity (kind_of program c)
  kinds c = by_cond (slice_get program.conds c) refl
    where
      by_cond : (found : Option Cond) → slice_get program.conds c ≡ found → (arity : ℕ) × KindFits arity (option_map (λ cond. cond.kind) found)
      by_cond None e = (0, tt)
      by_cond (Some cond) e = ((pred_of program cond.pred).arity, (range.conds c cond e).kind)

  abbrev pub o : Order
  o = order program.grammar

  abbrev pub AreKept : List TypeValue → Type 0
  AreKept vs = AllByRecursion (IsValue (order program.grammar)) vs

  -- types of properties

  name_kept : (b : Bool) (n : ℕ) (v : TypeValue) → n < length program.grammar.rules → IsValue (order program.grammar) v → IsValue (order program.grammar) (meet_name (order program.grammar) b n v)
  name_kept true n v lt i = given.meet v _ i (given.name n lt)
  name_kept false n v lt i = i

  typed_kept : (i : ℕ) (v : TypeValue) (arity : ℕ) (p : Prop) → is_prop_of arity (length program.grammar.rules) p ≡ true → IsValue (order program.grammar) v → IsValue (order program.grammar) (typed_by (order program.grammar) i v p)
  typed_kept i v arity (prop.Belongs j n) e k = let b = (both (nat_lt j arity) _ e).1 in let lt : n < length program.grammar.rules = grind (arith, nat_tests, b) in name_kept (i == j) n v lt k
  typed_kept i v arity (prop.IsGround j) e k = name_kept (i == j) GND_TYPE v (many_names program.grammar range.grammar GND_TYPE (omega arith)) k
  typed_kept i v arity (prop.IsVar j) e k = k
  typed_kept i v arity (prop.IsNonvar j) e k = k

  type_kept : (i : ℕ) (v : TypeValue) (arity : ℕ) (ps : List Prop) → list_all (is_prop_of arity (length program.grammar.rules)) ps ≡ true → IsValue (order program.grammar) v → IsValue (order program.grammar) (type_of (order program.grammar) i v ps)
  type_kept i v arity [] e k = k
  type_kept i v arity (p ∷ ps) e k = let b = both (is_prop_of arity (length program.grammar.rules) p) _ e in type_kept i (typed_by (order program.grammar) i v p) arity ps b.1 (typed_kept i v arity p b.0 k)

  term_kept : IsValue (order program.grammar) (of_name (order program.grammar) term_name)
  term_kept = given.name 0 (many_names program.grammar range.grammar 0 (omega arith))

  types_kept : (first n arity : ℕ) (ps : List Prop) → list_all (is_prop_of arity (length program.grammar.rules)) ps ≡ true → AreKept (map (λ i. type_of (order program.grammar) i (of_name (order program.grammar) term_name) ps) (names_from first n))
  types_kept first zero arity ps e = tt
  types_kept first (suc n) arity ps e = (type_kept first (of_name (order program.grammar) term_name) arity ps e term_kept, types_kept (first + 1) n arity ps e)

  meets_kept : (vs ws : List TypeValue) → AreKept vs → AreKept ws → AreKept (meet_each (order program.grammar) vs ws)
  meets_kept [] ws h k = tt
  meets_kept (v ∷ vs) [] h k = tt
  meets_kept (v ∷ vs) (w ∷ ws) h k = (given.meet v w h.0 k.0, meets_kept vs ws h.1 k.1)

  joins_kept : (vs ws : List TypeValue) → AreKept vs → AreKept ws → AreKept (join_each vs ws)
  joins_kept [] ws h k = tt
  joins_kept (v ∷ vs) [] h k = tt
  joins_kept (v ∷ vs) (w ∷ ws) h k = (given.join v w h.0 k.0, joins_kept vs ws h.1 k.1)

  -- narrowing

  where_kept : (b : Bool) (vs : List TypeValue) → AreKept vs → ExitsGiven (order program.grammar) (values_where b vs)
  where_kept true vs h = h
  where_kept false vs h = tt

  joined_kept : (a b : Option (List TypeValue)) → ExitsGiven (order program.grammar) a → ExitsGiven (order program.grammar) b → ExitsGiven (order program.grammar) (join_values a b)
  joined_kept None b h k = k
  joined_kept (Some vs) None h k = h
  joined_kept (Some vs) (Some ws) h k = joins_kept vs ws h k

  narrowed_kept : (n : ℕ) (entry : List TypeValue) → AreKept entry → (arity : ℕ) (ds : List (List Prop)) → list_all (list_all (is_prop_of arity (length program.grammar.rules))) ds ≡ true → ExitsGiven (order program.grammar) (narrowed_by (order program.grammar) n entry ds)
  narrowed_kept n entry h arity [] e = tt
  narrowed_kept n entry h arity (d ∷ ds) e =
      let b = both (list_all (is_prop_of arity (length program.grammar.rules)) d) _ e in
      joined_kept (met_with (order program.grammar) n entry d) _ (where_kept _ _ (meets_kept entry _ h (types_kept 0 n arity d b.0))) (narrowed_kept n entry h arity ds b.1)

  entry_kept : (n : ℕ) (entry : List TypeValue) → AreKept entry → (cs : List ℕ) → ExitsGiven (order program.grammar) (entry_by program (order program.grammar) n entry cs)
  entry_kept n entry h [] = h
  entry_kept n entry h (c ∷ cs) = by_kind (kinds c).0 (kind_of program c) (kinds c).1 (entry_kept n entry h cs)
    where
      by_kind : (arity : ℕ) (k : Option CondKind) → KindFits arity k → ExitsGiven (order program.grammar) (entry_by program (order program.grammar) n entry cs) → ExitsGiven (order program.grammar) (entry_at (order program.grammar) n entry k (entry_by program (order program.grammar) n entry cs))
      by_kind arity (Some (Calls ds)) e rest = narrowed_kept n entry h arity ds e
      by_kind arity (Some (Success pre post)) e rest = rest
      by_kind arity (Some (Comp pre property)) e rest = rest
      by_kind arity None e rest = rest

  exit_kept : (n : ℕ) (entry : List TypeValue) (cs : List ℕ) (exit : List TypeValue) → AreKept exit → AreKept (exit_by program (order program.grammar) n entry cs exit)
  exit_kept n entry [] exit h = h
  exit_kept n entry (c ∷ cs) exit h = exit_kept n entry cs (exit_at (order program.grammar) n entry (kind_of program c) exit) (by_kind (kinds c).0 (kind_of program c) (kinds c).1)
    where
      by_test : (b : Bool) (arity : ℕ) (post : List Prop) → list_all (is_prop_of arity (length program.grammar.rules)) post ≡ true → AreKept (meet_where_true (order program.grammar) b exit (types_of (order program.grammar) n post))
      by_test true arity post e = meets_kept exit _ h (types_kept 0 n arity post e)
      by_test false arity post e = h

      by_kind : (arity : ℕ) (k : Option CondKind) → KindFits arity k → AreKept (exit_at (order program.grammar) n entry k exit)
      by_kind arity (Some (Success pre post)) e = by_test (all_implied (order program.grammar) entry pre) arity post (both (list_all (is_prop_of arity (length program.grammar.rules)) pre) _ e).1
      by_kind arity (Some (Calls ds)) e = h
      by_kind arity (Some (Comp pre property)) e = h
      by_kind arity None e = h

  row_kept : (there : Bool) (vs : List TypeValue) → AllByRecursion (λ v. IsValue (order program.grammar) v × (is_set v ≡ there)) vs → AreKept vs
  row_kept there [] h = tt
  row_kept there (v ∷ vs) h = (h.0.0, row_kept there vs h.1)

  set_given : (vs : List TypeValue) → AreKept vs → all_set vs ≡ true → AllByRecursion (IsGiven (order program.grammar)) vs
  set_given [] h e = tt
  set_given (v ∷ vs) h e = let b = both (is_set v) _ e in ((h.0, b.0), set_given vs h.1 b.1)

  module _ (rows : List Facts) (table : IsTable program rows) where
    exits_kept : (p : ℕ) → ExitsGiven (order program.grammar) (exits_of program (order program.grammar) rows p)
    exits_kept p = by_exits (facts_of rows p).exits refl
      where
        by_exits : (b : Bool) → (facts_of rows p).exits ≡ b → ExitsGiven (order program.grammar) (exit_where b (narrowed_exit program (order program.grammar) p (facts_of rows p).entry (facts_of rows p).exit))
        by_exits false e = tt
        by_exits true e =
            let row = table.each p (subst (λ n. p < n) table.count (exit_there rows p e)) in
            exit_kept (pred_of program p).arity (facts_of rows p).entry (pred_of program p).conds (facts_of rows p).exit (row_kept (facts_of rows p).exits (facts_of rows p).exit row.exit.1)

    head_kept : (es : Option (List TypeValue)) (clause : Clause) → ExitsGiven (order program.grammar) es → KnownGiven (order program.grammar) (behind_head (order program.grammar) es clause)
    head_kept None clause h = tt
    head_kept (Some ws) clause h = push_each_given (order program.grammar) given (many_names program.grammar range.grammar) clause.head ws h (unknown (order program.grammar)) (λ v. (term_kept, refl))

    module _ (p : ℕ) (clause : Clause) (lt : p < length program.preds) (has : Contains (pred_of program p).clauses clause) where
      in_range : (((length clause.head == (pred_of program p).arity) && list_all (is_term_of program clause.vars) clause.head) ≡ true) × ((is_body_of program clause.vars clause.body && is_place_of program clause.place) ≡ true)
      in_range = both _ _ (all_has (is_clause_of program (pred_of program p).arity) (pred_of program p).clauses (ranges.preds program range p lt).clauses (contains_in clause (pred_of program p).clauses has))

      as_many : length clause.head ≡ (pred_of program p).arity
      as_many = let e = (both (length clause.head == (pred_of program p).arity) _ in_range.0).0 in grind (arith, nat_tests, e)

      out : OutcomeGiven program (order program.grammar) (from_known (behind_head (order program.grammar) (narrowed_entry program (order program.grammar) p (facts_of rows p).entry) clause) (run_goal (order program.grammar) (exits_of program (order program.grammar) rows) clause.body))
      out = from (behind_head (order program.grammar) (narrowed_entry program (order program.grammar) p (facts_of rows p).entry) clause)
          (head_kept _ clause (entry_kept (pred_of program p).arity (facts_of rows p).entry (row_kept (facts_of rows p).reached (facts_of rows p).entry (table.each p lt).entry.1) (pred_of program p).conds))
        where
          from : (k : Known) → KnownGiven (order program.grammar) k → OutcomeGiven program (order program.grammar) (from_known k (run_goal (order program.grammar) (exits_of program (order program.grammar) rows) clause.body))
          from None h = record { known = tt; calls = tt }
          from (Some vs) h =
              subst (OutcomeGiven program (order program.grammar)) (exits_nothing (order program.grammar) (exits_of program (order program.grammar) rows) clause.body vs)
              (goal_gives (order program.grammar) given (many_names program.grammar range.grammar) program refl (ten_names program.grammar range.grammar) clause.vars (exits_of program (order program.grammar) rows) exits_kept (without_exit clause.body) (both (is_body_of program clause.vars clause.body) _ in_range.1).0 vs h)

      exit_given : (k : Known) → KnownGiven (order program.grammar) k → ExitGiven program (order program.grammar) p (values_known (order program.grammar) k clause.head)
      exit_given None h = tt
      exit_given (Some vs) h = (map_count (term_value (order program.grammar) vs) clause.head ∙ as_many, values_given (order program.grammar) given (many_names program.grammar range.grammar) vs h clause.head)

  pub clauses_give : ClausesGive program
  clauses_give = record {
    entries = λ e has set.
        let r = both (is_pred_of program e.pred) _ (all_has (is_entry_of program) program.entries range.entries (contains_in e program.entries has)) in
        let lt : e.pred < length program.preds = (let b = r.0 in grind (arith, nat_tests, b)) in
        (lt, types_length program.grammar (pred_of program e.pred).arity e.pre, set_given _ (types_kept 0 (pred_of program e.pred).arity (pred_of program e.pred).arity e.pre r.1) set);
    calls = λ rows table p clause lt has. (out rows table p clause lt has).calls;
    exits = λ rows table p clause lt has. exit_given rows table p clause lt has _ (out rows table p clause lt has).known;
  }
