-- Rows and tables that say at least as much as others, and rows that are joined.
use Rattle.std.proofs.Common.{◌≡◌, ℕ, zero, suc, List, [], ◌∷◌, length, refl, arith}
use Rattle.std.specs.Prelude.{Option, None, Some}
use Rattle.std.specs.List.{AllByRecursion}
use Rattle.prog_data.specs.Values.{TypeValue}
use Rattle.name_order.specs.Relations.{Order}
use Rattle.type_domain.specs.Laws.{LeqEach, AreOrdered}
use Rattle.goal_transfer.specs.Transfer.{ReachedCall}
use Rattle.goal_transfer.specs.Conditions.{join_each}
use Rattle.goal_transfer.specs.Tables.{Facts, no_facts, facts_of, IsReached, HasExit, RowLeq, TableLeq}
use Rattle.fixpoint_analyser.specs.Ascent.{with_row, called_row, exited_row}

module _ (o : Order) (ordered : AreOrdered o) where
  pub each_itself : (vs : List TypeValue) → LeqEach vs vs
  each_itself [] = tt
  each_itself (v ∷ vs) = (ordered.reflexive v, each_itself vs)

  pub each_over : (us vs ws : List TypeValue) → LeqEach us vs → LeqEach vs ws → LeqEach us ws
  each_over [] [] [] l m = tt
  each_over [] [] (w ∷ ws) l m = absurd m
  each_over [] (v ∷ vs) ws l m = absurd l
  each_over (u ∷ us) [] ws l m = absurd l
  each_over (u ∷ us) (v ∷ vs) [] l m = absurd m
  each_over (u ∷ us) (v ∷ vs) (w ∷ ws) l m = (ordered.transitive u v w l.0 m.0, each_over us vs ws l.1 m.1)

  pub row_itself : (r : Facts) → RowLeq r r
  row_itself r = record { reached = λ e. e; entry = each_itself r.entry; exits = λ e. e; exit = each_itself r.exit }

  pub row_over : (a b c : Facts) → RowLeq a b → RowLeq b c → RowLeq a c
  row_over a b c l m = record { reached = λ e. m.reached (l.reached e); entry = each_over a.entry b.entry c.entry l.entry m.entry; exits = λ e. m.exits (l.exits e); exit = each_over a.exit b.exit c.exit l.exit m.exit }

  pub table_itself : (rows : List Facts) → TableLeq rows rows
  table_itself rows p = row_itself (facts_of rows p)

  pub table_over : (a b c : List Facts) → TableLeq a b → TableLeq b c → TableLeq a c
  table_over a b c l m p = row_over (facts_of a p) (facts_of b p) (facts_of c p) (l p) (m p)

  -- what a table has, each that says less has

  pub still_reached : (rows grown : List Facts) → TableLeq rows grown → (c : ReachedCall) → IsReached rows c → IsReached grown c
  still_reached rows grown le c r = ((le c.0).reached r.0, each_over c.1 _ _ r.1 (le c.0).entry)

  pub all_still_reached : (rows grown : List Facts) → TableLeq rows grown → (cs : List ReachedCall) → AllByRecursion (IsReached rows) cs → AllByRecursion (IsReached grown) cs
  all_still_reached rows grown le [] h = tt
  all_still_reached rows grown le (c ∷ cs) h = (still_reached rows grown le c h.0, all_still_reached rows grown le cs h.1)

  pub still_exits : (a b : Facts) → RowLeq a b → (es : Option (List TypeValue)) → HasExit a es → HasExit b es
  still_exits a b le None h = tt
  still_exits a b le (Some vs) h = (le.exits h.0, each_over vs _ _ h.1 le.exit)

  -- joins

  pub each_first : (us vs : List TypeValue) → length us ≡ length vs → LeqEach us (join_each us vs)
  each_first [] vs e = tt
  each_first (u ∷ us) [] e = cc
  each_first (u ∷ us) (v ∷ vs) e = (ordered.first_join u v, each_first us vs (omega (arith, e)))

  pub each_second : (us vs : List TypeValue) → length us ≡ length vs → LeqEach vs (join_each us vs)
  each_second [] [] e = tt
  each_second [] (v ∷ vs) e = cc
  each_second (u ∷ us) [] e = cc
  each_second (u ∷ us) (v ∷ vs) e = (ordered.second_join u v, each_second us vs (omega (arith, e)))

  pub called_leq : (r : Facts) (vs : List TypeValue) → length r.entry ≡ length vs → RowLeq r (called_row vs r)
  called_leq r vs e = record { reached = λ f. refl; entry = each_first r.entry vs e; exits = λ f. f; exit = each_itself r.exit }

  pub exited_leq : (r : Facts) (vs : List TypeValue) → length r.exit ≡ length vs → RowLeq r (exited_row vs r)
  exited_leq r vs e = record { reached = λ f. f; entry = each_itself r.entry; exits = λ f. refl; exit = each_first r.exit vs e }

  -- a table in which one row says less
  pub row_grows : (rows : List Facts) (p : ℕ) (r : Facts) → RowLeq (facts_of rows p) r → (q : ℕ) → RowLeq (facts_of rows q) (facts_of (with_row rows p r) q)
  row_grows [] p r l q = row_itself no_facts
  row_grows (x ∷ xs) zero r l zero = l
  row_grows (x ∷ xs) zero r l (suc q) = row_itself (facts_of xs q)
  row_grows (x ∷ xs) (suc p) r l zero = row_itself x
  row_grows (x ∷ xs) (suc p) r l (suc q) = row_grows xs p r l q
