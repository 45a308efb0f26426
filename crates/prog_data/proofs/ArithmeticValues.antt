-- What has a value in arithmetic has no variables.
use Rattle.std.proofs.Common.{◌≡◌, ℕ, Bool, true, false, ◌&&◌, List, [], ◌∷◌, map, refl, ap, sym, ◌∙◌, true≢false}
use Rattle.std.specs.Prelude.{◌==◌, ℤ, Ok, Err, cond}
use Rattle.std.specs.List.{list_all, AllByRecursion}
use Rattle.term_core.specs.declared.terms.Term.{Term}
use Rattle.term_core.specs.declared.fixed.TheConstants.{PLUS, MINUS, TIMES, QUOTIENT, REMAINDER, MODULO}
use Rattle.term_core.specs.Terms.{is_ground, is_ground_step}
use Rattle.term_core.proofs.TermFolds.{fold-Var, fold-Int, fold-Atom, fold-Node, ind_terms}
use Rattle.prog_data.specs.declared.events.ArithKind.{ArithKind}
use Rattle.prog_data.specs.declared.events.ArithKind.TheVariants.{NotNumber}
use Rattle.prog_data.specs.Arithmetic.{Number, with_both, with_one, apply, value_step, value, ValuesAreGround}

-- a fault is no number

abbrev is_fault : Number → Bool
is_fault (Ok n) = false
is_fault (Err e) = true

no_number : {P : Type 0} (e : ArithKind) (n : ℤ) → ◌≡◌ {A = Number} (Err e) (Ok n) → P
no_number e n is = absurd (true≢false (ap is_fault is))

-- whether there is a number
abbrev HasNumber : Number → Type 0
HasNumber x = (n : ℤ) × (x ≡ Ok n)

of_one : (by : ℤ → Number) (a : Number) (n : ℤ) → with_one by a ≡ Ok n → HasNumber a
of_one by (Err e) n is = no_number e n is
of_one by (Ok a) n is = (a, refl)

of_both : (by : ℤ → ℤ → Number) (a b : Number) (n : ℤ) → with_both by a b ≡ Ok n → HasNumber a × HasNumber b
of_both by (Err e) b n is = no_number e n is
of_both by (Ok a) (Err e) n is = no_number e n is
of_both by (Ok a) (Ok b) n is = ((a, refl), (b, refl))

-- a choice between a number and what is left, each of which needs both operands
either : {P : Type 0} (b : Bool) (x y : Number) (n : ℤ) → (x ≡ Ok n → P) → (y ≡ Ok n → P) → cond b x y ≡ Ok n → P
either true x y n f g is = f is
either false x y n f g is = g is

one_has : (f : ℕ) (a : Number) (n : ℤ) → apply f (a ∷ []) ≡ Ok n → HasNumber a
one_has f a n = either (f == MINUS) _ _ n (of_one _ a n) (no_number NotNumber n)

two_have : (f : ℕ) (a b : Number) (n : ℤ) → apply f (a ∷ b ∷ []) ≡ Ok n → HasNumber a × HasNumber b
two_have f a b n =
    either (f == PLUS) _ _ n (of_both _ a b n)
    (either (f == MINUS) _ _ n (of_both _ a b n)
    (either (f == TIMES) _ _ n (of_both _ a b n)
    (either (f == QUOTIENT) _ _ n (of_both _ a b n)
    (either (f == REMAINDER) _ _ n (of_both _ a b n)
    (either (f == MODULO) _ _ n (of_both _ a b n)
    (no_number NotNumber n))))))

abbrev Ground : Term → Type 0
Ground t = (n : ℤ) → value t ≡ Ok n → is_ground t ≡ true

both_true : (a b : Bool) → a ≡ true → b ≡ true → (a && (b && true)) ≡ true
both_true true true p q = refl
both_true true false p q = q
both_true false b p q = p

one_true : (a : Bool) → a ≡ true → (a && true) ≡ true
one_true true p = refl
one_true false p = p

-- the parts of a compound that has a value have values, so they have no variables
parts_are_ground : (f : ℕ) (ts : List Term) → AllByRecursion Ground ts → (n : ℤ) → apply f (map value ts) ≡ Ok n → list_all (λ b. b) (map is_ground ts) ≡ true
parts_are_ground f [] h n is = refl
parts_are_ground f (t ∷ []) h n is = let a = one_has f (value t) n is in one_true (is_ground t) (h.0 a.0 a.1)
parts_are_ground f (t ∷ u ∷ []) h n is =
    let a = two_have f (value t) (value u) n is in
    both_true (is_ground t) (is_ground u) (h.0 a.0.0 a.0.1) (h.1.0 a.1.0 a.1.1)
parts_are_ground f (t ∷ u ∷ v ∷ ts) h n is = no_number NotNumber n is

pub values_are_ground : ValuesAreGround
values_are_ground t n is = ind_terms Ground
    (λ v n is. no_number _ n (sym (fold-Var Number value_step v) ∙ is))
    (λ k n is. fold-Int Bool is_ground_step k)
    (λ a n is. fold-Atom Bool is_ground_step a)
    (λ f ts h n is. fold-Node Bool is_ground_step f ts ∙ parts_are_ground f ts h n (sym (fold-Node Number value_step f ts) ∙ is))
    t n is
