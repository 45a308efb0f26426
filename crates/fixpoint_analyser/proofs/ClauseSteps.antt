-- A clause that is run: it gives what every closed table has, and is then done or its predicate waits.
use Rattle.std.proofs.Common.{◌≡◌, ◌⊎◌, inl, inr, ℕ, ◌+◌, ◌<◌, ◌≤◌, Bool, true, false, List, length, refl, ap, sym, ◌∙◌, subst, arith}
use Rattle.std.proofs.lemmas.Bool.Decides.{nat_tests}
use Rattle.std.proofs.lemmas.Option.{none-some, same_Some}
use Rattle.std.specs.Prelude.{nat_lt, slice_get, Option, None, Some, Contains, IsTrue}
use Rattle.std.specs.List.{AllByRecursion}
use Rattle.prog_data.specs.declared.grammars.Grammar.{Grammar}
use Rattle.prog_data.specs.declared.programs.Clause.{Clause}
use Rattle.prog_data.specs.declared.programs.Program.{Program}
use Rattle.prog_data.specs.Goals.{pred_of}
use Rattle.prog_data.specs.Values.{TypeValue}
use Rattle.name_order.specs.Relations.{order}
use Rattle.goal_transfer.specs.Transfer.{Exits, from_known, run_goal}
use Rattle.goal_transfer.specs.Conditions.{narrowed_entry}
use Rattle.goal_transfer.specs.Tables.{Facts, facts_of, exits_of, behind_head, ClauseEffect, effect_of, clause_effect, IsTable, IsReached, HasExit}
use Rattle.fixpoint_analyser.specs.Ascent.{IsBelow, IsDoneFor}
use Rattle.fixpoint_analyser.specs.ReliedOn.{ReliedOn}
use Rattle.fixpoint_analyser.specs.Waits.{waits}
use Rattle.fixpoint_analyser.specs.Progress.{GivesTheSame, IsFit, FirstSettled, IsSettled}
use Rattle.fixpoint_analyser.proofs.StaysBelow.{stays_below}
use Rattle.fixpoint_analyser.proofs.Places.{got_at}

-- what a clause gives by stored exits is what it gives by the table
pub effect_read : (program : Program) (rows : List Facts) (p : ℕ) (clause : Clause) (exits : Exits) (entry : List TypeValue) → exits ≡ exits_of program (order program.grammar) rows → entry ≡ (facts_of rows p).entry →
    effect_of (order program.grammar) clause (from_known (behind_head (order program.grammar) (narrowed_entry program (order program.grammar) p entry) clause) (run_goal (order program.grammar) exits clause.body))
    ≡ clause_effect program (order program.grammar) rows p clause
effect_read program rows p clause exits entry e f =
    ap (λ x. effect_of (order program.grammar) clause (from_known (behind_head (order program.grammar) (narrowed_entry program (order program.grammar) p entry) clause) (run_goal (order program.grammar) x clause.body))) e
    ∙ ap (λ ws. effect_of (order program.grammar) clause (from_known (behind_head (order program.grammar) (narrowed_entry program (order program.grammar) p ws) clause) (run_goal (order program.grammar) (exits_of program (order program.grammar) rows) clause.body))) f

-- the same, said of an effect and by the relations of the grammar
pub effect_by : (program : Program) (rows : List Facts) (p : ℕ) (clause : Clause) (rel : Grammar) → rel ≡ program.grammar → (exits : Exits) (entry : List TypeValue) (effect : ClauseEffect) → exits ≡ exits_of program (order program.grammar) rows → entry ≡ (facts_of rows p).entry →
    effect ≡ effect_of (order rel) clause (from_known (behind_head (order rel) (narrowed_entry program (order rel) p entry) clause) (run_goal (order rel) exits clause.body)) → effect ≡ clause_effect program (order program.grammar) rows p clause
effect_by program rows p clause rel is exits entry effect e f read =
    read ∙ ap (λ g. effect_of (order g) clause (from_known (behind_head (order g) (narrowed_entry program (order g) p entry) clause) (run_goal (order g) exits clause.body))) is ∙ effect_read program rows p clause exits entry e f

-- it is given, and every closed table has it
pub clause_fits : (program : Program) → ReliedOn program → (rows : List Facts) → IsTable program rows → IsBelow program rows → (p : ℕ) (clause : Clause) → p < length program.preds → IsTrue (facts_of rows p).reached →
    Contains (pred_of program p).clauses clause → IsFit program p (clause_effect program (order program.grammar) rows p clause)
clause_fits program relied rows table below p clause lt reached has = record {
  calls = relied.clauses.calls rows table p clause lt has;
  reach = (stays_below program relied.ordered relied.monotone).calls rows table below p clause lt reached has;
  exit = relied.clauses.exits rows table p clause lt has;
  all = (stays_below program relied.ordered relied.monotone).exit rows table below p clause lt reached has;
}

-- once it has been joined into the table, it is done for, or the predicate waits
pub clause_settled : (program : Program) (old new : List Facts) (after : List Bool) (p : ℕ) (clause : Clause) (effect : ClauseEffect) → Contains (pred_of program p).clauses clause → effect ≡ clause_effect program (order program.grammar) old p clause →
    AllByRecursion (IsReached new) effect.calls → HasExit (facts_of new p) effect.exit → (waits after p ≡ true) ⊎ GivesTheSame program old new p → (waits after p ≡ true) ⊎ IsDoneFor program new p clause
clause_settled program old new after p clause effect has is reached exit (inl w) = inl w
clause_settled program old new after p clause effect has is reached exit (inr same) =
    let now : effect ≡ clause_effect program (order program.grammar) new p clause = is ∙ sym (same.effects clause has) in
    inr (record { calls = subst (λ e. AllByRecursion (IsReached new) e.calls) now reached; exit = subst (λ e. HasExit (facts_of new p) e.exit) now exit })

-- the first clauses

pub first_none : (program : Program) (rows : List Facts) (flags : List Bool) (p : ℕ) → FirstSettled program rows flags p 0
first_none program rows flags p = inr (λ i clause lt got. absurd (omega (arith, lt)))

module _ (program : Program) (rows : List Facts) (flags : List Bool) (p k : ℕ) where
  one_more : ((i : ℕ) (clause : Clause) → i < k → slice_get (pred_of program p).clauses i ≡ Some clause → IsDoneFor program rows p clause) →
      ((clause : Clause) → slice_get (pred_of program p).clauses k ≡ Some clause → IsDoneFor program rows p clause) →
      (i : ℕ) (clause : Clause) → i < k + 1 → slice_get (pred_of program p).clauses i ≡ Some clause → IsDoneFor program rows p clause
  one_more done last i clause lt got = by_test (nat_lt i k) refl
    where
      by_test : (b : Bool) → nat_lt i k ≡ b → IsDoneFor program rows p clause
      by_test true e = done i clause (grind (arith, nat_tests, e)) got
      by_test false e = let le : k ≤ i = grind (arith, nat_tests, e) in let same : i ≡ k = omega (arith, le, lt) in last clause (ap (slice_get (pred_of program p).clauses) (sym same) ∙ got)

  pub first_more : FirstSettled program rows flags p k → ((clause : Clause) → slice_get (pred_of program p).clauses k ≡ Some clause → (waits flags p ≡ true) ⊎ IsDoneFor program rows p clause) → FirstSettled program rows flags p (k + 1)
  first_more (inl w) last = inl w
  first_more (inr done) last = by_clause (slice_get (pred_of program p).clauses k) refl
    where
      from : (clause : Clause) → slice_get (pred_of program p).clauses k ≡ Some clause → (waits flags p ≡ true) ⊎ IsDoneFor program rows p clause → FirstSettled program rows flags p (k + 1)
      from clause e (inl w) = inl w
      from clause e (inr d) = inr (one_more done (λ other got. subst (IsDoneFor program rows p) (same_Some clause other (sym e ∙ got)) d))

      by_clause : (found : Option Clause) → slice_get (pred_of program p).clauses k ≡ found → FirstSettled program rows flags p (k + 1)
      by_clause None e = inr (one_more done (λ other got. absurd (none-some other (sym e ∙ got))))
      by_clause (Some clause) e = from clause e (last clause e)

  pub first_all : length (pred_of program p).clauses ≤ k → FirstSettled program rows flags p k → IsSettled program rows flags p
  first_all le (inl w) r = inl w
  first_all le (inr done) r = inr (λ clause has. done has.0 clause (let lt = has.1 in omega (arith, le, lt)) (got_at (pred_of program p).clauses has.0 clause has.1 has.2))
