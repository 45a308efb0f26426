-- Narrowed exits, stored beside the rows of a table that grows.
use Rattle.std.proofs.Common.{◌≡◌, ℕ, Bool, true, false, List, length, refl, ap, sym, ◌∙◌, subst, arith}
use Rattle.std.proofs.lemmas.Bool.{false≢true}
use Rattle.std.proofs.lemmas.Bool.Decides.{nat_tests}
use Rattle.std.specs.Prelude.{◌==◌, Option, None}
use Rattle.prog_data.specs.declared.programs.Program.{Program}
use Rattle.prog_data.specs.declared.tables.Value.{Value}
use Rattle.name_order.specs.Relations.{Order}
use Rattle.goal_transfer.specs.Conditions.{narrowed_exit}
use Rattle.goal_transfer.specs.Transfer.{Exits}
use Rattle.goal_transfer.specs.Tables.{Facts, facts_of, exit_where, exits_of}
use Rattle.goal_transfer.specs.States.{exits_seen}

-- so many exits, all none
pub record NoExits (size : ℕ) (es : List (Option (List Value))) : Type 0 where
  pub count : length es ≡ size
  pub none : (p : ℕ) → exits_seen es p ≡ None

-- the stored exits are again those of the rows
pub exits_stay : (program : Program) (o : Order) (before now : List Facts) (old new : Exits) (p : ℕ) → old ≡ exits_of program o before → ((q : ℕ) → (q ≡ p → ⊥) → facts_of now q ≡ facts_of before q) →
    new p ≡ exits_of program o now p → ((q : ℕ) → (q ≡ p → ⊥) → new q ≡ old q) → new ≡ exits_of program o now
exits_stay program o before now old new p had same stored others = λ i q. at q (q == p) refl i
  where
    at : (q : ℕ) (b : Bool) → (q == p) ≡ b → new q ≡ exits_of program o now q
    at q true e = let is : p ≡ q = grind (arith, nat_tests, e) in subst (λ q. new q ≡ exits_of program o now q) is stored
    at q false e =
        let other : q ≡ p → ⊥ = λ is. let f : (q == p) ≡ true = grind (arith, nat_tests, is) in false≢true (sym e ∙ f) in
        others q other ∙ ap (λ f. f q) had ∙ ap (λ r. exit_where r.exits (narrowed_exit program o q r.entry r.exit)) (sym (same q other))
