-- The start of a run, and the same start with a greater number above its variables.
use Rattle.std.proofs.Common.{◌≡◌, ◌≤◌, ℕ, [], ◌∷◌, map, refl, ap, sym, ◌∙◌, arith}
use Rattle.std.proofs.lemmas.Bool.{le-leb}
use Rattle.std.specs.Prelude.{if◌then◌else◌}
use Rattle.term_core.specs.declared.terms.Term.{Term, Var, Atom, out-Term}
use Rattle.term_core.specs.declared.terms.Term.TheVariants.{outs-Var, outs-Int, outs-Atom, outs-Node}
use Rattle.term_core.specs.Shapes.{parts_of}
use Rattle.term_core.specs.Terms.{instance, above}
use Rattle.term_core.proofs.TermLaws.{instance-Node}
use Rattle.term_core.proofs.VariantLaws.{View, is_var, is_int, is_atom, is_node, view, node_inside}
use Rattle.prog_data.specs.declared.goals.Goal as goal
use Rattle.prog_data.specs.declared.programs.Program.{Program}
use Rattle.prog_data.specs.Goals.{goal_instance}
use Rattle.prog_data.proofs.GoalInstances.{at_call}
use Rattle.machine_model.specs.Run.{start_of}
use Rattle.machine_model.specs.Leaner.{Renaming, does, at, whole, frames, doing, IsLeaner, leaner}
use Rattle.machine_model.specs.Leaner as rel
use Rattle.machine_model.specs.LeanerLaws.{below}
use Rattle.machine_model.proofs.LeanerClauses.{above_below}

-- the same names, for two numbers
abbrev same_names : (m n n' : ℕ) → m ≤ n → m ≤ n' → Renaming n n'
same_names m n n' le le' = record {
  there = below m;
  back = below m;
  there_ends = λ v h. ap (λ b. if b then Atom 0 else Var v) (le-leb m v (omega (arith, le, h)));
  back_ends = λ v h. ap (λ b. if b then Atom 0 else Var v) (le-leb m v (omega (arith, le', h)));
}

parts_same : (put : ℕ → Term) (t : Term) → View t → instance put t ≡ t → map (instance put) (parts_of (out-Term t)) ≡ parts_of (out-Term t)
parts_same put t (is_var v) e = ap (λ x. map (instance put) (parts_of x)) (outs-Var v) ∙ sym (ap parts_of (outs-Var v))
parts_same put t (is_int n) e = ap (λ x. map (instance put) (parts_of x)) (outs-Int n) ∙ sym (ap parts_of (outs-Int n))
parts_same put t (is_atom a) e = ap (λ x. map (instance put) (parts_of x)) (outs-Atom a) ∙ sym (ap parts_of (outs-Atom a))
parts_same put t (is_node f ts) e = ap (λ x. map (instance put) (parts_of x)) (outs-Node f ts) ∙ (node_inside f f _ ts (sym (instance-Node put f ts) ∙ e)).1 ∙ sym (ap parts_of (outs-Node f ts))

pub start_leaner : (program : Program) (p : ℕ) (query : Term) (n : ℕ) → above query ≤ n → IsLeaner program (start_of p query) (record (start_of p query) { fresh = n })
start_leaner program p query n le =
    let put : ℕ → Term = below (above query) in
    let same : instance put query ≡ query = above_below (above query) query (omega arith) in
    let call : goal_instance put (goal.Call p (parts_of (out-Term query))) ≡ goal.Call p (parts_of (out-Term query)) = at_call put p (parts_of (out-Term query)) ∙ ap (goal.Call p) (parts_same put query (view query) same) in
    leaner rel.none (doing (frames (same_names (above query) (above query) n (omega arith) le) (does [] (record { is_there = call; is_back = call }) (at whole refl refl) rel.none)
    (record { is_there = λ i. same i ∷ []; is_back = λ i. same i ∷ [] })))
