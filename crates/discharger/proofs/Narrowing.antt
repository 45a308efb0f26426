-- The program whose conditions narrow entries and exits: the program itself, or, in a run that goes on behind a broken condition, the program without conditions.
use Rattle.std.proofs.Common.{◌≡◌, ℕ, zero, suc, Bool, true, false, List, [], ◌∷◌, length, map, refl, ap, sym, subst}
use Rattle.std.specs.Prelude.{slice_index_or, Some, Contains}
use Rattle.term_core.specs.declared.terms.Term.{Term}
use Rattle.prog_data.specs.declared.conditions.Cond.{Cond}
use Rattle.prog_data.specs.declared.conditions.CondKind.TheVariants.{Success}
use Rattle.prog_data.specs.declared.conditions.Prop.{Prop}
use Rattle.prog_data.specs.declared.goals.Goal.{Goal}
use Rattle.prog_data.specs.declared.programs.Claim.{Claim}
use Rattle.prog_data.specs.declared.programs.Clause.{Clause}
use Rattle.prog_data.specs.declared.programs.Pred.{Pred}
use Rattle.prog_data.specs.declared.programs.Program.{Program}
use Rattle.prog_data.specs.Conditions.{all_hold, kind_of, calls_hold}
use Rattle.prog_data.specs.Goals.{no_pred, pred_of, without_exit}
use Rattle.prog_data.specs.Values.{TypeValue, AreIn}
use Rattle.prog_data.proofs.Leaves.{In, here, later}
use Rattle.prog_data.proofs.MembershipLaws.{in_contains, contains_in}
use Rattle.name_order.specs.Relations.{order}
use Rattle.machine_model.specs.Erasure.{erase_clause, erase_pred}
use Rattle.machine_model.specs.Tests.{Tests, all_looks}
use Rattle.goal_transfer.specs.Transfer.{Values, Exits, run_goal}
use Rattle.goal_transfer.specs.Conditions.{all_implied, entry_by, narrowed_entry, exit_by, narrowed_exit}
use Rattle.discharger.specs.ReliedOn.{ReliedOn}
use Rattle.discharger.proofs.InConditions.{SomeIn, entry_in, exit_in}

-- every condition is tested; a broken one ends the run, or is told
abbrev pub tests_of : Bool → Program → Tests
tests_of stops program = record { looks = all_looks program; exits = λ body. true; stops = stops }

abbrev pub narrowing_preds : Bool → Program → List Pred
narrowing_preds true program = program.preds
narrowing_preds false program = map erase_pred program.preds

abbrev pub narrowing_conds : Bool → Program → List Cond
narrowing_conds true program = program.conds
narrowing_conds false program = []

abbrev pub narrowing_claims : Bool → Program → List Claim
narrowing_claims true program = program.claims
narrowing_claims false program = []

-- the program whose conditions narrow, in a run that ends at a broken condition or goes on
abbrev pub narrowing : Bool → Program → Program
narrowing stops program = record program { preds = narrowing_preds stops program; conds = narrowing_conds stops program; claims = narrowing_claims stops program }

erased_at : (ps : List Pred) (p : ℕ) → slice_index_or (map erase_pred ps) p no_pred ≡ erase_pred (slice_index_or ps p no_pred)
erased_at [] p = refl
erased_at (q ∷ ps) zero = refl
erased_at (q ∷ ps) (suc p) = erased_at ps p

pub same_arity : (stops : Bool) (program : Program) (p : ℕ) → (pred_of (narrowing stops program) p).arity ≡ (pred_of program p).arity
same_arity true program p = refl
same_arity false program p = ap (λ q. q.arity) (erased_at program.preds p)

in_mapped : {A B : Type 0} {x : A} (f : A → B) (xs : List A) → In x xs → In (f x) (map f xs)
in_mapped f [] i = elim i [ ]
in_mapped f (x ∷ xs) here = here
in_mapped f (y ∷ xs) (later i) = later (in_mapped f xs i)

-- a clause as the program whose conditions narrow has it: with the same head, and a body of which comes what comes of the clause's without its exit
pub record NarrowingClause (stops : Bool) (program : Program) (exits : Exits) (p : ℕ) (clause : Clause) : Type 0 where
  pub body : Goal
  pub has : Contains (pred_of (narrowing stops program) p).clauses (record clause { body = body })
  pub comes : (vs : Values) → run_goal (order program.grammar) exits (without_exit clause.body) vs ≡ run_goal (order program.grammar) exits body vs

module _ (program : Program) (relied : ReliedOn program.grammar) where
  pub narrowing_clause : (stops : Bool) (exits : Exits) (p : ℕ) (clause : Clause) → Contains (pred_of program p).clauses clause → NarrowingClause stops program exits p clause
  narrowing_clause true exits p clause has = record { body = clause.body; has = has; comes = λ vs. relied.exits_nothing exits clause.body vs }
  narrowing_clause false exits p clause has =
      record {
        body = without_exit clause.body;
        has =
            subst (λ q. Contains q.clauses (erase_clause clause)) (sym (erased_at program.preds p))
            (in_contains (map erase_clause (pred_of program p).clauses) (in_mapped erase_clause (pred_of program p).clauses (contains_in clause (pred_of program p).clauses has)));
        comes = λ vs. refl;
      }

  module _ (p : ℕ) (args : List Term) (as_many : length args ≡ (pred_of program p).arity) (entry : List TypeValue) where
    -- arguments in an entry are in the narrowed entry, where each calls condition holds if it narrows
    pub in_narrowed_entry : (stops : Bool) → AreIn program.grammar args entry → (stops ≡ true → (c : ℕ) → In c (pred_of program p).conds → calls_hold program.grammar args (kind_of program c) ≡ true) →
        SomeIn program.grammar relied args (narrowed_entry (narrowing stops program) (order program.grammar) p entry)
    in_narrowed_entry true entered held = entry_in program.grammar relied (pred_of program p).arity args as_many entry entered program (pred_of program p).conds (held refl)
    in_narrowed_entry false entered held = (entry, ap (λ q. entry_by (narrowing false program) (order program.grammar) q.arity entry q.conds) (erased_at program.preds p), entered)

    -- arguments in an exit are in the narrowed exit, where each success condition whose Pre the entry implies holds if it narrows
    pub in_narrowed_exit : (stops : Bool) (exit : List TypeValue) → AreIn program.grammar args exit →
        (stops ≡ true → (c : ℕ) (pre post : List Prop) → In c (pred_of program p).conds → kind_of program c ≡ Some (Success pre post) → all_implied (order program.grammar) entry pre ≡ true → all_hold program.grammar args post ≡ true) →
        AreIn program.grammar args (narrowed_exit (narrowing stops program) (order program.grammar) p entry exit)
    in_narrowed_exit true exit a held = exit_in program.grammar relied program (pred_of program p).arity args as_many entry (pred_of program p).conds (held refl) exit a
    in_narrowed_exit false exit a held =
        subst (AreIn program.grammar args) (sym (ap (λ q. exit_by (narrowing false program) (order program.grammar) q.arity entry q.conds exit) (erased_at program.preds p))) a
