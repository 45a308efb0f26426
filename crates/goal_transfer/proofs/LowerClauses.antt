-- A lower table gives a clause a lower effect.
use Rattle.std.proofs.Common.{◌≡◌, ℕ, zero, suc, ◌<◌, Bool, true, false, ◌&&◌, List, [], ◌∷◌, length, refl, ap, sym, ◌∙◌, subst, arith, true≢false}
use Rattle.std.specs.Prelude.{not, Option, None, Some}
use Rattle.std.specs.List.{list_any, AllByRecursion}
use Rattle.term_core.specs.declared.terms.Term.{Term}
use Rattle.prog_data.specs.declared.basic_names.TheConstants.{GND_TYPE}
use Rattle.prog_data.specs.declared.conditions.Prop.{Prop}
use Rattle.prog_data.specs.declared.conditions.Prop.TheVariants as prop
use Rattle.prog_data.specs.declared.conditions.CondKind.{CondKind}
use Rattle.prog_data.specs.declared.conditions.CondKind.TheVariants.{Calls, Success, Comp}
use Rattle.prog_data.specs.declared.grammars.Grammar.{Grammar}
use Rattle.prog_data.specs.declared.programs.Clause.{Clause}
use Rattle.prog_data.specs.declared.programs.Program.{Program}
use Rattle.prog_data.specs.Conditions.{kind_of}
use Rattle.prog_data.specs.Goals.{pred_of}
use Rattle.prog_data.specs.Values.{TypeValue}
use Rattle.prog_data.proofs.Leaves.{any_in, in_any}
use Rattle.name_order.specs.Relations.{Order, order}
use Rattle.type_domain.specs.Values.{Leq, has_name, is_set, IsValue, names_of}
use Rattle.type_domain.specs.Laws.{LeqEach, AreOrdered, AreMonotone}
use Rattle.goal_transfer.specs.Transfer.{Known, run_goal}
use Rattle.goal_transfer.specs.Conditions.{all_set, meet_each, join_each, types_of, is_term, says_nonvar, value_at, implied, all_implied, values_where, join_values, met_with, narrowed_by, entry_at, entry_by, meet_where_true, exit_at, exit_by, narrowed_exit}
use Rattle.goal_transfer.specs.Tables.{Facts, facts_of, IsTable, exit_where, exits_of, unknown, behind_head, clause_effect, values_known, TableLeq}
use Rattle.goal_transfer.specs.Lower.{KnownLeq, ArgumentsLeq, EffectLeq}
use Rattle.goal_transfer.specs.Laws.{ClausesMonotone}
use Rattle.goal_transfer.proofs.LowerValues.{set_is, values_leq, push_each_leq}
use Rattle.goal_transfer.proofs.LowerGoals.{from_lower, goal_lower}
use Rattle.goal_transfer.proofs.Lengths.{both, HasLength, meet_length, types_length, met_length, narrowed_length, exit_there}

-- what is implied by values is implied by those that say more

-- each name of one value is in another
abbrev HasNames : TypeValue → TypeValue → Type 0
HasNames a b = (n : ℕ) → has_name b n ≡ true → has_name a n ≡ true

names_kept : (a b : TypeValue) → Leq a b → is_set a ≡ true → HasNames a b
names_kept None b l e n h = cc
names_kept (Some p) None l e n h = absurd l
names_kept (Some p) (Some q) l e n h = l n h

at_kept : (vs ws : List TypeValue) → LeqEach vs ws → all_set vs ≡ true → (i : ℕ) → HasNames (value_at vs i) (value_at ws i)
at_kept [] [] l e i n h = h
at_kept [] (w ∷ ws) l e i n h = absurd l
at_kept (v ∷ vs) [] l e i n h = absurd l
at_kept (v ∷ vs) (w ∷ ws) l e zero n h = names_kept v w l.0 (both (is_set v) _ e).0 n h
at_kept (v ∷ vs) (w ∷ ws) l e (suc i) n h = at_kept vs ws l.1 (both (is_set v) _ e).1 i n h

and_kept : (a b c : Bool) → (a ≡ true → b ≡ true) → (a && c) ≡ true → (b && c) ≡ true
and_kept true b c h e = ap (λ x. x && c) (h refl) ∙ e
and_kept false b c h e = absurd (true≢false (sym e))

module _ (o : Order) where
  nonvar_kept : (a b : TypeValue) → HasNames a b → says_nonvar o b ≡ true → says_nonvar o a ≡ true
  nonvar_kept a b h e =
      let m = any_in (λ n. has_name b n && not (list_any is_term (o.leaves n))) (names_of o) e in
      in_any (λ n. has_name a n && not (list_any is_term (o.leaves n))) (names_of o) m.1 (and_kept (has_name b m.0) (has_name a m.0) (not (list_any is_term (o.leaves m.0))) (h m.0) m.2)

  implied_kept : (vs ws : List TypeValue) → LeqEach vs ws → all_set vs ≡ true → (p : Prop) → implied o ws p ≡ true → implied o vs p ≡ true
  implied_kept vs ws l s (prop.Belongs i n) e = at_kept vs ws l s i n e
  implied_kept vs ws l s (prop.IsGround i) e = at_kept vs ws l s i GND_TYPE e
  implied_kept vs ws l s (prop.IsNonvar i) e = nonvar_kept (value_at vs i) (value_at ws i) (at_kept vs ws l s i) e
  implied_kept vs ws l s (prop.IsVar i) e = absurd (true≢false (sym e))

  all_kept : (vs ws : List TypeValue) → LeqEach vs ws → all_set vs ≡ true → (ps : List Prop) → all_implied o ws ps ≡ true → all_implied o vs ps ≡ true
  all_kept vs ws l s [] e = refl
  all_kept vs ws l s (p ∷ ps) e = let b = both (implied o ws p) _ e in ap (λ x. x && all_implied o vs ps) (implied_kept vs ws l s p b.0) ∙ all_kept vs ws l s ps b.1

module _ (g : Grammar) (ordered : AreOrdered (order g)) (mono : AreMonotone (order g)) where
  itself : (vs : List TypeValue) → LeqEach vs vs
  itself [] = tt
  itself (v ∷ vs) = (ordered.reflexive v, itself vs)

  over : (us vs ws : List TypeValue) → LeqEach us vs → LeqEach vs ws → LeqEach us ws
  over [] [] [] l m = tt
  over [] [] (w ∷ ws) l m = absurd m
  over [] (v ∷ vs) ws l m = absurd l
  over (u ∷ us) [] ws l m = absurd l
  over (u ∷ us) (v ∷ vs) [] l m = absurd m
  over (u ∷ us) (v ∷ vs) (w ∷ ws) l m = (ordered.transitive u v w l.0 m.0, over us vs ws l.1 m.1)

  meets_lower : (us vs ws : List TypeValue) → LeqEach us vs → LeqEach (meet_each (order g) us ws) (meet_each (order g) vs ws)
  meets_lower [] [] ws l = tt
  meets_lower [] (v ∷ vs) ws l = absurd l
  meets_lower (u ∷ us) [] ws l = absurd l
  meets_lower (u ∷ us) (v ∷ vs) [] l = tt
  meets_lower (u ∷ us) (v ∷ vs) (w ∷ ws) l = (mono.meet u w v w l.0 (ordered.reflexive w), meets_lower us vs ws l.1)

  meet_first : (us ws : List TypeValue) → length us ≡ length ws → LeqEach (meet_each (order g) us ws) us
  meet_first [] ws e = tt
  meet_first (u ∷ us) [] e = cc
  meet_first (u ∷ us) (w ∷ ws) e = (ordered.first_meet u w, meet_first us ws (omega (arith, e)))

  joins_lower : (us vs ws xs : List TypeValue) → LeqEach us ws → LeqEach vs xs → LeqEach (join_each us vs) (join_each ws xs)
  joins_lower [] vs [] xs l m = tt
  joins_lower [] vs (w ∷ ws) xs l m = absurd l
  joins_lower (u ∷ us) vs [] xs l m = absurd l
  joins_lower (u ∷ us) [] (w ∷ ws) [] l m = tt
  joins_lower (u ∷ us) [] (w ∷ ws) (x ∷ xs) l m = absurd m
  joins_lower (u ∷ us) (v ∷ vs) (w ∷ ws) [] l m = absurd m
  joins_lower (u ∷ us) (v ∷ vs) (w ∷ ws) (x ∷ xs) l m = (mono.join u v w x l.0 m.0, joins_lower us vs ws xs l.1 m.1)

  join_first : (vs ws : List TypeValue) → length vs ≡ length ws → LeqEach vs (join_each vs ws)
  join_first [] ws e = tt
  join_first (v ∷ vs) [] e = cc
  join_first (v ∷ vs) (w ∷ ws) e = (ordered.first_join v w, join_first vs ws (omega (arith, e)))

  join_second : (vs ws : List TypeValue) → length vs ≡ length ws → LeqEach ws (join_each vs ws)
  join_second [] [] e = tt
  join_second [] (w ∷ ws) e = cc
  join_second (v ∷ vs) [] e = tt
  join_second (v ∷ vs) (w ∷ ws) e = (ordered.second_join v w, join_second vs ws (omega (arith, e)))

  leq_set : (vs ws : List TypeValue) → LeqEach vs ws → all_set vs ≡ true → all_set ws ≡ true
  leq_set [] [] l e = refl
  leq_set [] (w ∷ ws) l e = absurd l
  leq_set (v ∷ vs) [] l e = absurd l
  leq_set (v ∷ vs) (w ∷ ws) l e = let b = both (is_set v) _ e in ap (λ x. x && all_set ws) (set_is v w l.0 b.0) ∙ leq_set vs ws l.1 b.1

  -- narrowed entries

  where_lower : (a b : Bool) (vs ws : List TypeValue) → (a ≡ true → b ≡ true) → LeqEach vs ws → ArgumentsLeq (values_where a vs) (values_where b ws)
  where_lower false b vs ws h l = tt
  where_lower true b vs ws h l = subst (λ b. ArgumentsLeq (Some vs) (values_where b ws)) (sym (h refl)) l

  joined_lower : (n : ℕ) (a b c d : Option (List TypeValue)) → HasLength n c → HasLength n d → ArgumentsLeq a c → ArgumentsLeq b d → ArgumentsLeq (join_values a b) (join_values c d)
  joined_lower n None b None d h k l m = m
  joined_lower n None None (Some vs) d h k l m = tt
  joined_lower n None (Some ws) (Some vs) None h k l m = absurd m
  joined_lower n None (Some ws) (Some vs) (Some xs) h k l m = over ws xs (join_each vs xs) m (join_second vs xs (h ∙ sym k))
  joined_lower n (Some vs) b None d h k l m = absurd l
  joined_lower n (Some vs) None (Some ws) None h k l m = l
  joined_lower n (Some vs) None (Some ws) (Some xs) h k l m = over vs ws (join_each ws xs) l (join_first ws xs (h ∙ sym k))
  joined_lower n (Some vs) (Some us) (Some ws) None h k l m = absurd m
  joined_lower n (Some vs) (Some us) (Some ws) (Some xs) h k l m = joins_lower vs us ws xs l m

  module _ (n : ℕ) (entry entry' : List TypeValue) (lower : LeqEach entry entry') (len : length entry' ≡ n) where
    met_lower : (d : List Prop) → ArgumentsLeq (met_with (order g) n entry d) (met_with (order g) n entry' d)
    met_lower d = let l = meets_lower entry entry' (types_of (order g) n d) lower in where_lower _ _ _ _ (leq_set _ _ l) l

    narrowed_lower : (ds : List (List Prop)) → ArgumentsLeq (narrowed_by (order g) n entry ds) (narrowed_by (order g) n entry' ds)
    narrowed_lower [] = tt
    narrowed_lower (d ∷ ds) = joined_lower n _ _ _ _ (met_length g n entry' d len) (narrowed_length g n entry' ds len) (met_lower d) (narrowed_lower ds)

    entry_lower : (program : Program) (cs : List ℕ) → ArgumentsLeq (entry_by program (order g) n entry cs) (entry_by program (order g) n entry' cs)
    entry_lower program [] = lower
    entry_lower program (c ∷ cs) = by_kind (kind_of program c) (entry_lower program cs)
      where
        by_kind : (k : Option CondKind) → ArgumentsLeq (entry_by program (order g) n entry cs) (entry_by program (order g) n entry' cs) →
            ArgumentsLeq (entry_at (order g) n entry k (entry_by program (order g) n entry cs)) (entry_at (order g) n entry' k (entry_by program (order g) n entry' cs))
        by_kind (Some (Calls ds)) rest = narrowed_lower ds
        by_kind (Some (Success pre post)) rest = rest
        by_kind (Some (Comp pre property)) rest = rest
        by_kind None rest = rest

    -- narrowed exits

    module _ (set : all_set entry ≡ true) where
      exit_lower_at : (pre : List Prop) (a b : Bool) → all_implied (order g) entry pre ≡ a → all_implied (order g) entry' pre ≡ b → (exit exit' types : List TypeValue) → LeqEach exit exit' → length exit ≡ n → length types ≡ n →
          LeqEach (meet_where_true (order g) a exit types) (meet_where_true (order g) b exit' types)
      exit_lower_at pre true true e f exit exit' types l k m = meets_lower exit exit' types l
      exit_lower_at pre true false e f exit exit' types l k m = over _ exit exit' (meet_first exit types (k ∙ sym m)) l
      exit_lower_at pre false true e f exit exit' types l k m = absurd (true≢false (sym (all_kept (order g) entry entry' lower set pre f) ∙ e))
      exit_lower_at pre false false e f exit exit' types l k m = l

      meet_where_length : (a : Bool) (exit types : List TypeValue) → length exit ≡ n → length types ≡ n → length (meet_where_true (order g) a exit types) ≡ n
      meet_where_length true exit types k m = meet_length (order g) exit types n k m
      meet_where_length false exit types k m = k

      exit_lower : (program : Program) (cs : List ℕ) (exit exit' : List TypeValue) → LeqEach exit exit' → length exit ≡ n → LeqEach (exit_by program (order g) n entry cs exit) (exit_by program (order g) n entry' cs exit')
      exit_lower program [] exit exit' l k = l
      exit_lower program (c ∷ cs) exit exit' l len_exit = exit_lower program cs _ _ (by_kind (kind_of program c)) (kind_length (kind_of program c))
        where
          by_kind : (k : Option CondKind) → LeqEach (exit_at (order g) n entry k exit) (exit_at (order g) n entry' k exit')
          by_kind (Some (Success pre post)) = exit_lower_at pre _ _ refl refl exit exit' (types_of (order g) n post) l len_exit (types_length g n post)
          by_kind (Some (Calls ds)) = l
          by_kind (Some (Comp pre property)) = l
          by_kind None = l

          kind_length : (k : Option CondKind) → length (exit_at (order g) n entry k exit) ≡ n
          kind_length (Some (Success pre post)) = meet_where_length _ exit (types_of (order g) n post) len_exit (types_length g n post)
          kind_length (Some (Calls ds)) = len_exit
          kind_length (Some (Comp pre property)) = len_exit
          kind_length None = len_exit

-- the values of a row that is there are set
values_set : (o : Order) (there : Bool) (vs : List TypeValue) → AllByRecursion (λ v. IsValue o v × (is_set v ≡ there)) vs → there ≡ true → all_set vs ≡ true
values_set o there [] d e = refl
values_set o there (v ∷ vs) d e = ap (λ x. x && all_set vs) (d.0.1 ∙ e) ∙ values_set o there vs d.1 e

module _ (program : Program) (ordered : AreOrdered (order program.grammar)) (mono : AreMonotone (order program.grammar)) (a b : List Facts) (ta : IsTable program a) (tb : IsTable program b) (lower : TableLeq a b) where
  exits_lower : (p : ℕ) → ArgumentsLeq (exits_of program (order program.grammar) a p) (exits_of program (order program.grammar) b p)
  exits_lower p = by_exits (facts_of a p).exits refl
    where
      there : (facts_of a p).exits ≡ true → ArgumentsLeq (Some (narrowed_exit program (order program.grammar) p (facts_of a p).entry (facts_of a p).exit)) (exits_of program (order program.grammar) b p)
      there e =
          let p_there : p < length program.preds = subst (λ n. p < n) ta.count (exit_there a p e) in
          let ra = ta.each p p_there in
          let rb = tb.each p p_there in
          subst (λ x. ArgumentsLeq (Some (narrowed_exit program (order program.grammar) p (facts_of a p).entry (facts_of a p).exit)) (exit_where x (narrowed_exit program (order program.grammar) p (facts_of b p).entry (facts_of b p).exit))) (sym ((lower p).exits e))
          (exit_lower program.grammar ordered mono (pred_of program p).arity (facts_of a p).entry (facts_of b p).entry (lower p).entry rb.entry.0 (values_set (order program.grammar) (facts_of a p).reached (facts_of a p).entry ra.entry.1 (ra.after e))
          program (pred_of program p).conds (facts_of a p).exit (facts_of b p).exit (lower p).exit ra.exit.0)

      by_exits : (x : Bool) → (facts_of a p).exits ≡ x → ArgumentsLeq (exit_where x (narrowed_exit program (order program.grammar) p (facts_of a p).entry (facts_of a p).exit)) (exits_of program (order program.grammar) b p)
      by_exits true e = there e
      by_exits false e = tt

  head_lower : (clause : Clause) (es es' : Option (List TypeValue)) → ArgumentsLeq es es' → KnownLeq (behind_head (order program.grammar) es clause) (behind_head (order program.grammar) es' clause)
  head_lower clause None es' l = tt
  head_lower clause (Some us) None l = absurd l
  head_lower clause (Some us) (Some ws) l = push_each_leq (order program.grammar) ordered mono clause.head us ws l (unknown (order program.grammar)) (unknown (order program.grammar)) (λ v. ordered.reflexive (unknown (order program.grammar) v))

  known_lower : (k l : Known) (ts : List Term) → KnownLeq k l → ArgumentsLeq (values_known (order program.grammar) k ts) (values_known (order program.grammar) l ts)
  known_lower None l ts h = tt
  known_lower (Some vs) None ts h = absurd h
  known_lower (Some vs) (Some ws) ts h = values_leq (order program.grammar) ordered mono vs ws h ts

  clause_lower : (p : ℕ) (clause : Clause) → p < length program.preds → EffectLeq (clause_effect program (order program.grammar) a p clause) (clause_effect program (order program.grammar) b p clause)
  clause_lower p clause lt =
      let out = from_lower _ _ (run_goal (order program.grammar) (exits_of program (order program.grammar) a) clause.body) (run_goal (order program.grammar) (exits_of program (order program.grammar) b) clause.body)
      (head_lower clause _ _ (entry_lower program.grammar ordered mono (pred_of program p).arity (facts_of a p).entry (facts_of b p).entry (lower p).entry (tb.each p lt).entry.0 program (pred_of program p).conds))
      (goal_lower (order program.grammar) ordered mono (exits_of program (order program.grammar) a) (exits_of program (order program.grammar) b) exits_lower clause.body) in
      record { exit = known_lower _ _ clause.head out.known; calls = out.calls }

pub clauses_monotone : (program : Program) → AreOrdered (order program.grammar) → AreMonotone (order program.grammar) → ClausesMonotone program
clauses_monotone program ordered mono a b ta tb lower p clause lt = clause_lower program ordered mono a b ta tb lower p clause lt
