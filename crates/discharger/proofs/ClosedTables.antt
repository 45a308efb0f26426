-- The table in which each predicate is called, and exits, with any terms is closed.
use Rattle.std.proofs.Common.{◌≡◌, ℕ, zero, suc, ◌<◌, true, List, [], ◌∷◌, length, map, take, replicate, refl, ap, sym, subst, arith}
use Rattle.std.specs.Prelude.{slice_index_or, Option, None, Some, IsTrue}
use Rattle.std.specs.List.{AllByRecursion}
use Rattle.prog_data.specs.declared.grammars.Grammar.{Grammar}
use Rattle.prog_data.specs.declared.grammars.Rule.{Rule}
use Rattle.prog_data.specs.declared.programs.Pred.{Pred}
use Rattle.prog_data.specs.declared.programs.Program.{Program}
use Rattle.prog_data.specs.BasicNames.{basic_grammar}
use Rattle.prog_data.specs.Goals.{no_pred, pred_of}
use Rattle.prog_data.specs.GrammarRange.{IsGrammar}
use Rattle.prog_data.specs.Values.{TypeValue}
use Rattle.name_order.specs.Relations.{Order, order}
use Rattle.type_domain.specs.Values.{term_name, IsValue, Leq, of_name}
use Rattle.type_domain.specs.Laws.{LeqEach}
use Rattle.goal_transfer.specs.Transfer.{ReachedCall}
use Rattle.goal_transfer.specs.Range.{IsGiven, CallGiven}
use Rattle.goal_transfer.specs.Tables.{facts_of, AreValues, IsRow, IsTable, IsReached, HasExit, Closed, clause_effect, entry_call}
use Rattle.goal_transfer.specs.Laws.{ExitGiven, ClausesGive}
use Rattle.goal_transfer.proofs.Lengths.{row_there}
use Rattle.discharger.specs.ClosedTables.{any_row, any_rows}

-- a grammar has the name term
pub has_term : (g : Grammar) → IsGrammar g → term_name < (order g).size
has_term g is = by_rules g.rules is.basic
  where
    by_rules : (rules : List (List Rule)) → take 10 rules ≡ basic_grammar.rules → 0 < length rules
    by_rules [] e = let ten : 0 ≡ 10 = ap length e in absurd (omega (arith, ten))
    by_rules (r ∷ rs) e = omega arith

many : {A B : Type 0} (f : A → B) (xs : List A) → length (map f xs) ≡ length xs
many f [] = refl
many f (x ∷ xs) = ap suc (many f xs)

module _ (o : Order) where
  row_at : (ps : List Pred) (p : ℕ) → p < length ps → facts_of (map (any_row o) ps) p ≡ any_row o (slice_index_or ps p no_pred)
  row_at [] p lt = absurd (omega (arith, lt))
  row_at (q ∷ ps) zero lt = refl
  row_at (q ∷ ps) (suc p) lt = row_at ps p (omega (arith, lt))

  -- each value says at least as much as that of any term

  leq_any : (v : TypeValue) → IsGiven o v → Leq v (of_name o term_name)
  leq_any None g = tt
  leq_any (Some p) g = λ n e. g.0.up term_name n g.0.term e

  each_any : (vs : List TypeValue) (n : ℕ) → length vs ≡ n → AllByRecursion (IsGiven o) vs → LeqEach vs (replicate n (of_name o term_name))
  each_any [] zero e g = tt
  each_any [] (suc n) e g = absurd (omega (arith, e))
  each_any (v ∷ vs) zero e g = absurd (omega (arith, e))
  each_any (v ∷ vs) (suc n) e g = (leq_any v g.0, each_any vs n (omega (arith, e)) g.1)

  any_values : IsValue o (of_name o term_name) → (n : ℕ) → AreValues o n true (replicate n (of_name o term_name))
  any_values is zero = (refl, tt)
  any_values is (suc n) = let rest = any_values is n in (ap suc rest.0, ((is, refl), rest.1))

module _ (program : Program) (is : IsValue (order program.grammar) (of_name (order program.grammar) term_name)) (gives : ClausesGive program) where
  row_of : (p : ℕ) → p < length program.preds → facts_of (any_rows program) p ≡ any_row (order program.grammar) (pred_of program p)
  row_of p lt = row_at (order program.grammar) program.preds p lt

  is_row : (p : ℕ) → IsRow (order program.grammar) (pred_of program p).arity (any_row (order program.grammar) (pred_of program p))
  is_row p = record { entry = any_values (order program.grammar) is (pred_of program p).arity; exit = any_values (order program.grammar) is (pred_of program p).arity; after = λ e. refl }

  is_table : IsTable program (any_rows program)
  is_table = record {
    count = many (any_row (order program.grammar)) program.preds;
    each = λ p lt. subst (IsRow (order program.grammar) (pred_of program p).arity) (sym (row_of p lt)) (is_row p);
  }

  there : (p : ℕ) → IsTrue (facts_of (any_rows program) p).reached → p < length program.preds
  there p r = subst (λ n. p < n) is_table.count (row_there (any_rows program) p r)

  reached : (c : ReachedCall) → CallGiven program (order program.grammar) c → IsReached (any_rows program) c
  reached c g =
      let row = row_of c.0 g.0 in
      (ap (λ f. f.reached) row, subst (λ f. LeqEach c.1 f.entry) (sym row) (each_any (order program.grammar) c.1 (pred_of program c.0).arity g.1 g.2))

  all_reached : (cs : List ReachedCall) → AllByRecursion (CallGiven program (order program.grammar)) cs → AllByRecursion (IsReached (any_rows program)) cs
  all_reached [] g = tt
  all_reached (c ∷ cs) g = (reached c g.0, all_reached cs g.1)

  has_exit : (p : ℕ) → p < length program.preds → (exit : Option (List TypeValue)) → ExitGiven program (order program.grammar) p exit → HasExit (facts_of (any_rows program) p) exit
  has_exit p lt None g = tt
  has_exit p lt (Some vs) g =
      let row = row_of p lt in
      (ap (λ f. f.exits) row, subst (λ f. LeqEach vs f.exit) (sym row) (each_any (order program.grammar) vs (pred_of program p).arity g.0 g.1))

  pub any_closed : Closed program (any_rows program)
  any_closed = record {
    table = is_table;
    entries = λ e has set. reached (entry_call program e) (gives.entries e has set);
    calls = λ p clause r has. all_reached (clause_effect program (order program.grammar) (any_rows program) p clause).calls (gives.calls (any_rows program) is_table p clause (there p r) has);
    exits = λ p clause r has. has_exit p (there p r) (clause_effect program (order program.grammar) (any_rows program) p clause).exit (gives.exits (any_rows program) is_table p clause (there p r) has);
  }
