-- What a clause gives, by what is known behind its head.
use Rattle.std.proofs.Common.{◌≡◌, ℕ, List, [], ap, ◌∙◌}
use Rattle.std.specs.Prelude.{Option, None, Some}
use Rattle.prog_data.specs.declared.programs.Clause.{Clause}
use Rattle.prog_data.specs.declared.programs.Program.{Program}
use Rattle.prog_data.specs.Values.{TypeValue}
use Rattle.name_order.specs.Relations.{Order}
use Rattle.goal_transfer.specs.Transfer.{Values, Known, ReachedCall, Exits, from_known, push_each, run_goal}
use Rattle.goal_transfer.specs.Conditions.{narrowed_entry}
use Rattle.goal_transfer.specs.Tables.{Facts, facts_of, exits_of, unknown, behind_head, values_known, ClauseEffect, effect_of, clause_effect}

-- an effect
abbrev pub effect : Option (List TypeValue) → List ReachedCall → ClauseEffect
effect exit calls = record { exit = exit; calls = calls }

module _ (o : Order) (exits : Exits) (c : Clause) where
  -- from what is known behind the head
  abbrev pub effect_from : Known → ClauseEffect
  effect_from k = effect_of o c (from_known k (run_goal o exits c.body))

  pub no_head : (k : Known) → None ≡ k → effect None [] ≡ effect_from k
  no_head k e = ap effect_from e

  pub gone : (vs : Values) (k l : Known) (calls : List ReachedCall) → Some vs ≡ k → l ≡ (run_goal o exits c.body vs).known → calls ≡ (run_goal o exits c.body vs).calls → effect (values_known o l c.head) calls ≡ effect_from k
  gone vs k l calls e f g = (λ i. effect (values_known o (f i) c.head) (g i)) ∙ ap effect_from e

  pub no_entry : (es : Option (List TypeValue)) → None ≡ es → effect None [] ≡ effect_from (behind_head o es c)
  no_entry es e = ap (λ es. effect_from (behind_head o es c)) e

  -- the same of a clause that is this one
  pub by_entry : (f : Clause) (es : Option (List TypeValue)) (ws : List TypeValue) → f ≡ c → Some ws ≡ es → effect_of o f (from_known (push_each o f.head ws (unknown o)) (run_goal o exits f.body)) ≡ effect_from (behind_head o es c)
  by_entry f es ws same entry =
      ap (λ x. effect_of o x (from_known (push_each o x.head ws (unknown o)) (run_goal o exits x.body))) same ∙ ap (λ es. effect_from (behind_head o es c)) entry

-- by the rows of a table
pub by_table : (program : Program) (o : Order) (rows : List Facts) (p : ℕ) (c : Clause) (exits : Exits) (entry : List TypeValue) → exits ≡ exits_of program o rows → entry ≡ (facts_of rows p).entry →
    effect_from o exits c (behind_head o (narrowed_entry program o p entry) c) ≡ clause_effect program o rows p c
by_table program o rows p c exits entry e f =
    ap (λ x. effect_from o x c (behind_head o (narrowed_entry program o p entry) c)) e ∙ ap (λ ws. effect_from o (exits_of program o rows) c (behind_head o (narrowed_entry program o p ws) c)) f
