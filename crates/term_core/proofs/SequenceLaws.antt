-- Equations that are solved one list after the other.
use Rattle.std.proofs.Common.{◌≡◌, ℕ, zero, suc, List, [], ◌∷◌, ◌++◌, refl, sym, ap, ◌∙◌}
use Rattle.std.proofs.lemmas.List.{append_assoc, append-nil}
use Rattle.term_core.specs.declared.terms.Term.{Term}
use Rattle.term_core.specs.declared.equations.Equation.{Equation}
use Rattle.term_core.specs.declared.equations.Binding.{Binding}
use Rattle.term_core.specs.declared.equations.Outcome.{Outcome}
use Rattle.term_core.specs.declared.equations.Outcome.TheVariants.{Solved, Clash, Cyclic}
use Rattle.term_core.specs.Terms.{instance, only}
use Rattle.term_core.specs.Unify.{replace_all, Move, Becomes, Binds, Clashes, Cycles, move, Stage, Open, Ended, after, solve, solves, Unified, values}
use Rattle.term_core.specs.Solutions.{Solves, IsRight, HasOneOutcome}
use Rattle.term_core.specs.Variants.{all_instances, AreVariants, IsMostGeneral, EndsAs}
use Rattle.term_core.proofs.TermLaws.{instance-instance}
use Rattle.term_core.proofs.KindLaws.{ended_stays, ended_inside, open_ended, same_itself, variants_end}
use Rattle.term_core.proofs.VariantLaws.{all_instances-append, all_instances-itself, all_instances_twice, solves_instance}

-- stages

same_bindings : (bs bs' : List Binding) → Solved bs ≡ Solved bs' → bs ≡ bs'
same_bindings bs bs' e = cc

solved_no_clash : (bs : List Binding) → Clash ≡ Solved bs → ⊥
solved_no_clash bs e = cc

solved_no_cycle : (bs : List Binding) → Cyclic ≡ Solved bs → ⊥
solved_no_cycle bs e = cc

steps_then : (j k : ℕ) (s : Stage) → (n : ℕ) × (solves n s ≡ solves k (solves j s))
steps_then zero k s = (k, refl)
steps_then (suc j) k s = let rest = steps_then j k (solve s) in (suc rest.0, rest.1)

-- behind equations that are solved come the others, with the bindings put in
pub record ComesTo (es rest : List Equation) (first all : List Binding) : Type 0 where
  pub new : List Binding
  pub are_all : all ≡ first ++ new
  pub steps : ℕ
  pub comes : solves steps (Open (es ++ rest) first) ≡ Open (all_instances (values new) rest) all

comes_to : (k : ℕ) (es rest : List Equation) (first all : List Binding) → solves k (Open es first) ≡ Ended (Solved all) → ComesTo es rest first all
comes_to zero es rest first all e = absurd (open_ended es first (Solved all) e)
comes_to (suc k) [] rest first all e =
    let same : first ≡ all = same_bindings first all (ended_inside (Solved first) (Solved all) (sym (ended_stays k (Solved first)) ∙ e)) in
    record {
      new = [];
      are_all = sym same ∙ sym (append-nil first);
      steps = 0;
      comes = (λ i. Open (sym (all_instances-itself rest) i) (same i));
    }
comes_to (suc k) (x ∷ es) rest first all e = by_move (λ es' rest' first' e'. comes_to k es' rest' first' all e') (move x) refl where
  Before : Type 0
  Before = (es' rest' : List Equation) (first' : List Binding) → solves k (Open es' first') ≡ Ended (Solved all) → ComesTo es' rest' first' all

  by_move : Before → (m : Move) → move x ≡ m → ComesTo (x ∷ es) rest first all
  by_move before (Becomes fs) is =
      let r : ComesTo (fs ++ es) rest first all = before (fs ++ es) rest first (ap (λ m. solves k (after m es first)) (sym is) ∙ e) in
      record {
        new = r.new;
        are_all = r.are_all;
        steps = suc r.steps;
        comes = ap (λ m. solves r.steps (after m (es ++ rest) first)) is ∙ ap (λ es'. solves r.steps (Open es' first)) (sym (append_assoc fs es rest)) ∙ r.comes;
      }
  by_move before (Binds v t) is =
      let b : Binding = record { variable = v; value = t } in
      let r : ComesTo (replace_all v t es) (replace_all v t rest) (first ++ b ∷ []) all = before (replace_all v t es) (replace_all v t rest) (first ++ b ∷ []) (ap (λ m. solves k (after m es first)) (sym is) ∙ e) in
      record {
        new = b ∷ r.new;
        are_all = r.are_all ∙ append_assoc first (b ∷ []) r.new;
        steps = suc r.steps;
        comes =
            ap (λ m. solves r.steps (after m (es ++ rest) first)) is
            ∙ ap (λ es'. solves r.steps (Open es' (first ++ b ∷ []))) (all_instances-append (only v t) es rest)
            ∙ r.comes
            ∙ ap (λ es'. Open es' all) (all_instances_twice (values r.new) (only v t) (values (b ∷ r.new)) (λ w. refl) rest);
      }
  by_move before Clashes is = absurd (solved_no_clash all (ended_inside Clash (Solved all) (sym (ended_stays k Clash) ∙ ap (λ m. solves k (after m es first)) (sym is) ∙ e)))
  by_move before Cycles is = absurd (solved_no_cycle all (ended_inside Cyclic (Solved all) (sym (ended_stays k Cyclic) ∙ ap (λ m. solves k (after m es first)) (sym is) ∙ e)))

-- where the first ones are not solved, all end so
stops : (k : ℕ) (es rest : List Equation) (first : List Binding) (o : Outcome) → ((bs : List Binding) → o ≡ Solved bs → ⊥) → solves k (Open es first) ≡ Ended o → solves k (Open (es ++ rest) first) ≡ Ended o
stops zero es rest first o never e = absurd (open_ended es first o e)
stops (suc k) [] rest first o never e = absurd (never first (sym (ended_inside (Solved first) o (sym (ended_stays k (Solved first)) ∙ e))))
stops (suc k) (x ∷ es) rest first o never e = by_move (λ es' rest' first' e'. stops k es' rest' first' o never e') (move x) refl where
  Before : Type 0
  Before = (es' rest' : List Equation) (first' : List Binding) → solves k (Open es' first') ≡ Ended o → solves k (Open (es' ++ rest') first') ≡ Ended o

  by_move : Before → (m : Move) → move x ≡ m → solves k (after (move x) (es ++ rest) first) ≡ Ended o
  by_move before (Becomes fs) is =
      ap (λ m. solves k (after m (es ++ rest) first)) is ∙ ap (λ es'. solves k (Open es' first)) (sym (append_assoc fs es rest))
      ∙ before (fs ++ es) rest first (ap (λ m. solves k (after m es first)) (sym is) ∙ e)
  by_move before (Binds v t) is =
      ap (λ m. solves k (after m (es ++ rest) first)) is ∙ ap (λ es'. solves k (Open es' (first ++ record { variable = v; value = t } ∷ []))) (all_instances-append (only v t) es rest)
      ∙ before (replace_all v t es) (replace_all v t rest) (first ++ record { variable = v; value = t } ∷ []) (ap (λ m. solves k (after m es first)) (sym is) ∙ e)
  by_move before Clashes is = ap (λ m. solves k (after m (es ++ rest) first)) is ∙ ap (λ m. solves k (after m es first)) (sym is) ∙ e
  by_move before Cycles is = ap (λ m. solves k (after m (es ++ rest) first)) is ∙ ap (λ m. solves k (after m es first)) (sym is) ∙ e

pub clashes_first : (es rest : List Equation) → Unified es Clash → Unified (es ++ rest) Clash
clashes_first es rest u = (u.0, stops u.0 es rest [] Clash solved_no_clash u.1)

pub cycles_first : (es rest : List Equation) → Unified es Cyclic → Unified (es ++ rest) Cyclic
cycles_first es rest u = (u.0, stops u.0 es rest [] Cyclic solved_no_cycle u.1)

-- solutions

pub solves_both : (value : ℕ → Term) (es fs : List Equation) → Solves value es → Solves value fs → Solves value (es ++ fs)
solves_both value [] fs h k = k
solves_both value (e ∷ es) fs h k = (h.0, solves_both value es fs h.1 k)

pub solves_apart : (value : ℕ → Term) (es fs : List Equation) → Solves value (es ++ fs) → Solves value es × Solves value fs
solves_apart value [] fs h = (tt, h)
solves_apart value (e ∷ es) fs h = let rest = solves_apart value es fs h.1 in ((h.0, rest.0), rest.1)

-- a solution with other values put in is a solution
solves_made : (other value : ℕ → Term) (es : List Equation) → Solves value es → Solves (λ v. instance other (value v)) es
solves_made other value [] h = tt
solves_made other value (e ∷ es) h = (sym (instance-instance other value e.left) ∙ ap (instance other) h.0 ∙ instance-instance other value e.right, solves_made other value es h.1)

-- values that are made of others solve what is left with these put in
solves_left : (other value : ℕ → Term) (es : List Equation) → ((v : ℕ) → other v ≡ instance other (value v)) → Solves other es → Solves other (all_instances value es)
solves_left other value [] made h = tt
solves_left other value (e ∷ es) made h =
    let same : (t : Term) → instance other (instance value t) ≡ instance other t = λ t. instance-instance other value t ∙ sym (λ i. instance (λ v. made v i) t) in
    (same e.left ∙ h.0 ∙ sym (same e.right), solves_left other value es made h.1)

pub solved_after : (es rest : List Equation) (value other : ℕ → Term) → IsMostGeneral es value → IsMostGeneral (all_instances value rest) other → IsMostGeneral (es ++ rest) (λ v. instance other (value v))
solved_after es rest value other m n = record {
  solves = solves_both (λ v. instance other (value v)) es rest (solves_made other value es m.solves) (solves_instance other value rest n.solves);
  general = λ last h v.
      let parts = solves_apart last es rest h in
      let made : (v : ℕ) → last v ≡ instance last (value v) = m.general last parts.0 in
      let further : (v : ℕ) → last v ≡ instance last (other v) = n.general last (solves_left last value rest made parts.1) in
      made v ∙ (λ i. instance (λ w. further w i) (value v)) ∙ sym (instance-instance last other (value v));
}

-- how all of them end

turns_into : (es rest : List Equation) (value : ℕ → Term) (o : Outcome) (bs : List Binding) → IsMostGeneral es value → Unified es (Solved bs) → IsRight es (Solved bs) → EndsAs (all_instances value rest) o → EndsAs (es ++ rest) o
turns_into es rest value o bs m u right ends =
    let there : ℕ → Term = values bs in
    let come : ComesTo es rest [] bs = comes_to u.0 es rest [] bs u.1 in
    let are : AreVariants there value (all_instances value rest) (all_instances there rest) = record {
      is_there = all_instances_twice there value there (λ v. sym (m.general there right.0 v)) rest;
      is_back = all_instances_twice value there value (λ v. sym (right.1 value m.solves v)) rest;
    } in
    let found = variants_end there value (all_instances value rest) (all_instances there rest) are bs o ends in
    let comes : solves come.steps (Open (es ++ rest) []) ≡ Open (all_instances there rest) bs = come.comes ∙ ap (λ new. Open (all_instances (values new) rest) bs) (sym come.are_all) in
    let all = steps_then come.steps found.1.0 (Open (es ++ rest) []) in
    (found.0, (all.0, all.1 ∙ ap (solves found.1.0) comes ∙ found.1.1), found.2)

ends_all : (es rest : List Equation) (value : ℕ → Term) (o : Outcome) → HasOneOutcome es → IsMostGeneral es value → EndsAs (all_instances value rest) o → EndsAs (es ++ rest) o
ends_all es rest value o one m ends = by_outcome one.outcome one.ends one.is_right where
  by_outcome : (first : Outcome) → Unified es first → IsRight es first → EndsAs (es ++ rest) o
  by_outcome (Solved bs) u right = turns_into es rest value o bs m u right ends
  by_outcome Clash u right = absurd (right value m.solves)
  by_outcome Cyclic u right = absurd (right value m.solves)

pub ends_after : (es rest : List Equation) (value : ℕ → Term) (o : Outcome) → HasOneOutcome es → IsMostGeneral es value → Unified (all_instances value rest) o → EndsAs (es ++ rest) o
ends_after es rest value o one m u = ends_all es rest value o one m (o, u, same_itself o)
