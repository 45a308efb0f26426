-- A table falls where a call, or an exit, is joined into it that it did not have.
use Rattle.std.proofs.Common.{◌≡◌, ℕ, zero, suc, ◌+◌, ◌<◌, ◌≤◌, Bool, true, false, not, ◌&&◌, List, [], ◌∷◌, length, refl, sym, ◌∙◌, subst, arith}
use Rattle.std.proofs.lemmas.Bool.Decides.{nat_tests}
use Rattle.std.specs.Prelude.{nat_lt, Option, None, Some, IsTrue}
use Rattle.std.specs.List.{AllByRecursion}
use Rattle.prog_data.specs.declared.programs.Program.{Program}
use Rattle.prog_data.specs.Values.{TypeValue}
use Rattle.name_order.specs.Relations.{Order, order}
use Rattle.type_domain.specs.Values.{is_set, IsValue, join, names_of}
use Rattle.type_domain.specs.Laws.{LeqEach}
use Rattle.goal_transfer.specs.Transfer.{ReachedCall}
use Rattle.goal_transfer.specs.Conditions.{join_each}
use Rattle.goal_transfer.specs.Tables.{Facts, facts_of, IsTable, IsReached, HasExit}
use Rattle.goal_transfer.specs.Range.{CallGiven}
use Rattle.goal_transfer.specs.Laws.{ExitGiven}
use Rattle.fixpoint_analyser.specs.Ascent.{with_row, called_row, exited_row, with_call, with_exit}
use Rattle.fixpoint_analyser.specs.Heights.{one, count, height, heights, row_height, table_height}
use Rattle.fixpoint_analyser.proofs.Heights.{joins_fall}

one_fewer : (a b : Bool) → one (a && b) ≤ one a
one_fewer true true = omega arith
one_fewer true false = omega arith
one_fewer false b = omega arith

count_fewer : (p q : ℕ → Bool) (ns : List ℕ) → count (λ n. p n && q n) ns ≤ count p ns
count_fewer p q [] = omega arith
count_fewer p q (n ∷ ns) = let l = one_fewer (p n) (q n) in let m = count_fewer p q ns in omega (arith, l, m)

module _ (o : Order) where
  join_lower : (a b : TypeValue) → IsValue o a → height o (join a b) ≤ height o a
  join_lower None None i = omega arith
  join_lower None (Some q) i = let l = joins_fall o None (Some q) i (λ h. h) in omega (arith, l)
  join_lower (Some p) None i = omega arith
  join_lower (Some p) (Some q) i = count_fewer p q (names_of o)

  values_lower : (us vs : List TypeValue) → AllByRecursion (IsValue o) us → heights o (join_each us vs) ≤ heights o us
  values_lower [] vs are = omega arith
  values_lower (u ∷ us) [] are = omega arith
  values_lower (u ∷ us) (v ∷ vs) are = let l = join_lower u v are.0 in let m = values_lower us vs are.1 in omega (arith, l, m)

  values_fall : (us vs : List TypeValue) → AllByRecursion (IsValue o) us → length vs ≡ length us → (LeqEach vs us → ⊥) → heights o (join_each us vs) < heights o us
  values_fall [] [] are e other = absurd (other tt)
  values_fall [] (v ∷ vs) are e other = cc
  values_fall (u ∷ us) [] are e other = cc
  values_fall (u ∷ us) (v ∷ vs) are e other = by_test (nat_lt (height o (join u v)) (height o u)) refl (values_fall us vs are.1 (omega (arith, e)))
    where
      by_test : (b : Bool) → nat_lt (height o (join u v)) (height o u) ≡ b → ((LeqEach vs us → ⊥) → heights o (join_each us vs) < heights o us) → height o (join u v) + heights o (join_each us vs) < height o u + heights o us
      by_test true f rest =
          let l : height o (join u v) < height o u = grind (arith, nat_tests, f) in
          let m : heights o (join_each us vs) ≤ heights o us = values_lower us vs are.1 in
          omega (arith, l, m)
      by_test false f rest =
          let least : height o u ≤ height o (join u v) = grind (arith, nat_tests, f) in
          let l : height o (join u v) ≤ height o u = join_lower u v are.0 in
          let m : heights o (join_each us vs) < heights o us = rest (λ leq. let fall : height o (join u v) < height o u = joins_fall o u v are.0 (λ first. other (first, leq)) in omega (arith, least, fall)) in
          omega (arith, l, m)

  called_falls : (vs : List TypeValue) (r : Facts) → AllByRecursion (IsValue o) r.entry → length vs ≡ length r.entry → (IsTrue r.reached × LeqEach vs r.entry → ⊥) → row_height o (called_row vs r) < row_height o r
  called_falls vs r are e other = by_flag r.reached other
    where
      by_flag : (b : Bool) → (IsTrue b × LeqEach vs r.entry → ⊥) → (0 + heights o (join_each r.entry vs)) + (one (not r.exits) + heights o r.exit) < (one (not b) + heights o r.entry) + (one (not r.exits) + heights o r.exit)
      by_flag true other = let l = values_fall r.entry vs are e (λ leq. other (refl, leq)) in omega (arith, l)
      by_flag false other = let l = values_lower r.entry vs are in omega (arith, l)

  exited_falls : (vs : List TypeValue) (r : Facts) → AllByRecursion (IsValue o) r.exit → length vs ≡ length r.exit → (IsTrue r.exits × LeqEach vs r.exit → ⊥) → row_height o (exited_row vs r) < row_height o r
  exited_falls vs r are e other = by_flag r.exits other
    where
      by_flag : (b : Bool) → (IsTrue b × LeqEach vs r.exit → ⊥) → (one (not r.reached) + heights o r.entry) + (0 + heights o (join_each r.exit vs)) < (one (not r.reached) + heights o r.entry) + (one (not b) + heights o r.exit)
      by_flag true other = let l = values_fall r.exit vs are e (λ leq. other (refl, leq)) in omega (arith, l)
      by_flag false other = let l = values_lower r.exit vs are in omega (arith, l)

  row_falls : (rows : List Facts) (p : ℕ) (r : Facts) → p < length rows → row_height o r < row_height o (facts_of rows p) → table_height o (with_row rows p r) < table_height o rows
  row_falls [] p r lt l = absurd (omega (arith, lt))
  row_falls (x ∷ xs) zero r lt l = omega (arith, l)
  row_falls (x ∷ xs) (suc p) r lt l = let m = row_falls xs p r (omega (arith, lt)) l in omega (arith, m)

  are_values : (there : Bool) (vs : List TypeValue) → AllByRecursion (λ v. IsValue o v × (is_set v ≡ there)) vs → AllByRecursion (IsValue o) vs
  are_values there [] are = tt
  are_values there (v ∷ vs) are = (are.0.0, are_values there vs are.1)

module _ (program : Program) (rows : List Facts) (table : IsTable program rows) where
  pub call_falls : (c : ReachedCall) → CallGiven program (order program.grammar) c → (IsReached rows c → ⊥) → table_height (order program.grammar) (with_call rows c) < table_height (order program.grammar) rows
  call_falls c given other =
      let row = table.each c.0 given.0 in
      row_falls (order program.grammar) rows c.0 (called_row c.1 (facts_of rows c.0)) (subst (λ n. c.0 < n) (sym table.count) given.0)
      (called_falls (order program.grammar) c.1 (facts_of rows c.0) (are_values (order program.grammar) _ _ row.entry.1) (given.1 ∙ sym row.entry.0) other)

  pub exit_falls : (p : ℕ) → p < length program.preds → (es : Option (List TypeValue)) → ExitGiven program (order program.grammar) p es → (HasExit (facts_of rows p) es → ⊥) → table_height (order program.grammar) (with_exit rows p es) < table_height (order program.grammar) rows
  exit_falls p lt None given other = absurd (other tt)
  exit_falls p lt (Some vs) given other =
      let row = table.each p lt in
      row_falls (order program.grammar) rows p (exited_row vs (facts_of rows p)) (subst (λ n. p < n) (sym table.count) lt)
      (exited_falls (order program.grammar) vs (facts_of rows p) (are_values (order program.grammar) _ _ row.exit.1) (given.0 ∙ sym row.exit.0) other)
