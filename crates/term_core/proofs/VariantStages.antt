-- Equations that differ in the names of variables are solved step by step alike, and what solves equations is most general.
use Rattle.std.proofs.Common.{◌≡◌, ℕ, zero, suc, List, [], ◌∷◌, ◌++◌, refl, ap, sym, ◌∙◌, subst}
use Rattle.term_core.specs.declared.terms.Term.{Term}
use Rattle.term_core.specs.declared.equations.Equation.{Equation}
use Rattle.term_core.specs.declared.equations.Binding.{Binding}
use Rattle.term_core.specs.declared.equations.Outcome.{Outcome}
use Rattle.term_core.specs.declared.equations.Outcome.TheVariants.{Solved}
use Rattle.term_core.specs.Terms.{instance, only}
use Rattle.term_core.specs.Unify.{replace_all, Move, move, Stage, Open, Ended, after, solve, solves, Unified, values}
use Rattle.term_core.specs.Solutions.{IsRight}
use Rattle.term_core.specs.Variants.{all_instances, AreVariants, SameKind, IsMostGeneral}
use Rattle.term_core.proofs.Solving.{has_one_outcome}
use Rattle.term_core.proofs.VariantLaws.{all_instances-append}
use Rattle.term_core.proofs.KindLaws.{equation, Alike, alike, Matches, both_become, both_bind, both_clash, both_cycle, matches, bound_there}

-- two stages, both with equations that are variants, or both ended in one kind
pub data Stages : Stage → Stage → Type 0 where
  both_open : {es es' : List Equation} {bs bs' : List Binding} (there back : ℕ → Term) → AreVariants there back es es' → Stages (Open es bs) (Open es' bs')
  both_ended : {o o' : Outcome} → SameKind o o' → Stages (Ended o) (Ended o')

after_alike : (there back : ℕ → Term) (m m' : Move) → Matches there back m m' → (rest rest' : List Equation) → AreVariants there back rest rest' → (bs bs' : List Binding) → Stages (after m rest bs) (after m' rest' bs')
after_alike there back m m' (both_become es es' e b) rest rest' are bs bs' = both_open there back (record {
  is_there = all_instances-append there es rest ∙ (λ i. e i ++ are.is_there i);
  is_back = all_instances-append back es' rest' ∙ (λ i. b i ++ are.is_back i);
})
after_alike there back m m' (both_bind v v' t t' e b f g absent absent') rest rest' are bs bs' =
    both_open (λ x. instance (only v' t') (there x)) (λ x. instance (only v t) (back x)) (record {
      is_there = bound_there there v v' t t' e f absent' rest ∙ ap (replace_all v' t') are.is_there;
      is_back = bound_there back v' v t' t b g absent rest' ∙ ap (replace_all v t) are.is_back;
    })
after_alike there back m m' both_clash rest rest' are bs bs' = both_ended tt
after_alike there back m m' both_cycle rest rest' are bs bs' = both_ended tt

cons_inside : (x y : Equation) (xs ys : List Equation) → x ∷ xs ≡ y ∷ ys → (x ≡ y) × (xs ≡ ys)
cons_inside x y xs ys e = (cc, cc)

open_alike : (there back : ℕ → Term) (es es' : List Equation) → AreVariants there back es es' → (bs bs' : List Binding) → Stages (solve (Open es bs)) (solve (Open es' bs'))
open_alike there back [] es' are bs bs' = subst (λ xs. Stages (Ended (Solved bs)) (solve (Open xs bs'))) are.is_there (both_ended tt)
open_alike there back (e ∷ rest) es' are bs bs' =
    let e' : Equation = equation (instance there e.left) (instance there e.right) in
    let rest' : List Equation = all_instances there rest in
    let inside = cons_inside (equation (instance back e'.left) (instance back e'.right)) e (all_instances back rest') rest (ap (all_instances back) are.is_there ∙ are.is_back) in
    let l : Alike there back e.left e'.left = alike there back e.left e'.left refl (ap (λ x. x.left) inside.0) in
    let r : Alike there back e.right e'.right = alike there back e.right e'.right refl (ap (λ x. x.right) inside.0) in
    subst (λ xs. Stages (after (move e) rest bs) (solve (Open xs bs'))) are.is_there
    (after_alike there back (move e) (move e') (matches there back e.left e'.left e.right e'.right l r) rest rest' (record { is_there = refl; is_back = inside.1 }) bs bs')

pub solve_alike : {s s' : Stage} → Stages s s' → Stages (solve s) (solve s')
solve_alike (both_open {es} {es'} {bs} {bs'} there back are) = open_alike there back es es' are bs bs'
solve_alike (both_ended h) = both_ended h

pub solves_next : (k : ℕ) (s : Stage) → solves k (solve s) ≡ solve (solves k s)
solves_next zero s = refl
solves_next (suc k) s = solves_next k (solve s)

-- the values of the bindings that solve equations are most general
pub is_general : (es : List Equation) (bs : List Binding) → Unified es (Solved bs) → IsMostGeneral es (values bs)
is_general es bs u =
    let one = has_one_outcome es in
    let right : IsRight es (Solved bs) = subst (IsRight es) (sym (one.alone (Solved bs) u)) one.is_right in
    record { solves = right.0; general = right.1 }
