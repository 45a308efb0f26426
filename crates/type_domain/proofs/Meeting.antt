-- A meet of many values, tested once, is the meet that is tested at each.
use Rattle.std.proofs.Common.{◌≡◌, ℕ, Bool, true, false, ◌||◌, List, [], ◌∷◌, refl, ap, sym, ◌∙◌, true≢false}
use Rattle.std.proofs.Math.Bool.{or-true}
use Rattle.std.specs.Prelude.{None, Some}
use Rattle.prog_data.specs.Values.{TypeValue}
use Rattle.name_order.specs.Relations.{Order}
use Rattle.type_domain.specs.Values.{term_name, all_fit, unless_apart, meet, meet_where, meet_parts}
use Rattle.type_domain.specs.Meeting.{united_where, fitting, said_parts}
use Rattle.type_domain.proofs.LeqLaws.{fewer_consistent}

false_if : (b : Bool) → (b ≡ true → ⊥) → b ≡ false
false_if true h = absurd (h refl)
false_if false h = refl

meet_fitting : (o : Order) (b : Bool) (v u : TypeValue) → meet_where o b v (fitting o u) ≡ fitting o (united_where b v u)
meet_fitting o false v u = refl
meet_fitting o true None u = refl
meet_fitting o true (Some p) None = refl
meet_fitting o true (Some p) (Some q) = either (all_fit o q) refl
  where
    either : (b : Bool) → all_fit o q ≡ b → meet o (Some p) (unless_apart b q) ≡ unless_apart (all_fit o (λ n. p n || q n)) (λ n. p n || q n)
    either true e = refl
    either false e =
        sym (ap (λ b. unless_apart b (λ n. p n || q n)) (false_if (all_fit o (λ n. p n || q n)) (λ h.
        true≢false (sym (fewer_consistent o (λ n. p n || q n) q (λ n f. ap (λ b. p n || b) f ∙ or-true (p n)) h) ∙ e))))

-- where the names above term fit
pub met_once : (o : Order) (p : ℕ → Bool) (says : ℕ → TypeValue) → all_fit o (o.below term_name) ≡ true → (ns : List ℕ) → meet_parts o p says ns ≡ fitting o (said_parts o p says ns)
met_once o p says top [] = sym (ap (λ b. unless_apart b (o.below term_name)) top)
met_once o p says top (n ∷ ns) = ap (meet_where o (p n) (says n)) (met_once o p says top ns) ∙ meet_fitting o (p n) (says n) (said_parts o p says ns)
