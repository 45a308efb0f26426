-- Lists whose items are given in order, each in the grammar behind those before it.
use Rattle.std.proofs.Common.{◌≡◌, ℕ, ◌≤◌, true, false, List, [], ◌∷◌, ◌++◌, length, refl, ap, sym, subst, arith}
use Rattle.std.specs.Prelude.{cond, Option, Some, None, option_and_then}
use Rattle.std.specs.List.{AllByRecursion}
use Rattle.term_core.proofs.OperandLaws.{none_part, some_part}
use Rattle.prog_data.specs.declared.grammars.Grammar.{Grammar}
use Rattle.assertion_read.specs.declared.assertions.Assertion.{Assertion}
use Rattle.assertion_normal.specs.declared.outcomes.NormalFault.{NormalFault}
use Rattle.assertion_normal.specs.declared.outcomes.NormalFault.TheVariants.{UnknownProperty, Ambiguous, TooManyNames, NoMemory}
use Rattle.assertion_normal.specs.Settling.{counts, counting, in_order, IsNoRoom}
use Rattle.assertion_normal.proofs.EachLaws.{each_append, each_more}

-- what has no room as a part has none as a whole
pub no_room : {X Y : Type 0} (part : Option X) (whole : Option Y) (fault : NormalFault) → (part ≡ None → whole ≡ None) → IsNoRoom part fault → IsNoRoom whole fault
no_room part whole (UnknownProperty line) leads h = h
no_room part whole (Ambiguous line) leads h = h
no_room part whole TooManyNames leads h = leads h
no_room part whole NoMemory leads h = tt

pub want_of_memory : {X : Type 0} (o : Option X) (fault : NormalFault) → fault ≡ NoMemory → IsNoRoom o fault
want_of_memory o fault e = subst (λ f. IsNoRoom o f) (sym e) tt

module _ {A B : Type 0} (gives : Grammar → A → Option (Grammar × B)) where
  pub order_next : (so_far : Grammar × List B) (x : A) (xs : List A) (made : Grammar × B) → gives so_far.0 x ≡ Some made → in_order gives so_far (x ∷ xs) ≡ in_order gives (made.0, so_far.1 ++ made.1 ∷ []) xs
  order_next so_far x xs made e = ap (λ o. option_and_then (λ m. in_order gives (m.0, so_far.1 ++ m.1 ∷ []) xs) o) e

  pub order_none : (so_far : Grammar × List B) (x : A) (xs : List A) → gives so_far.0 x ≡ None → in_order gives so_far (x ∷ xs) ≡ None
  order_none so_far x xs e = ap (λ o. option_and_then (λ m. in_order gives (m.0, so_far.1 ++ m.1 ∷ []) xs) o) e

  -- what each item gives stays what it is as the grammar grows, so it is so of all of them
  module _ (Q : A → Type 0) (P : ℕ → B → Type 0) (base : ℕ) (more : (n m : ℕ) (y : B) → n ≤ m → P n y → P m y)
      (holds : (g : Grammar) (x : A) (made : Grammar × B) → base ≤ length g.rules → Q x → gives g x ≡ Some made → P (length made.0.rules) made.1 × (length g.rules ≤ length made.0.rules)) where
    pub order_in : (so_far : Grammar × List B) (xs : List A) (all : Grammar × List B) → base ≤ length so_far.0.rules → AllByRecursion (P (length so_far.0.rules)) so_far.1 → AllByRecursion Q xs
        → in_order gives so_far xs ≡ Some all → AllByRecursion (P (length all.0.rules)) all.1 × (length so_far.0.rules ≤ length all.0.rules)
    order_in so_far [] all le h q e = subst (λ r. AllByRecursion (P (length r.0.rules)) r.1 × (length so_far.0.rules ≤ length r.0.rules)) (some_part so_far all e) (h, omega arith)
    order_in so_far (x ∷ xs) all le h q e = by (λ made le' h'. order_in (made.0, so_far.1 ++ made.1 ∷ []) xs all le' h' q.1) (gives so_far.0 x) refl e
      where
        by : ((made : Grammar × B) → base ≤ length made.0.rules → AllByRecursion (P (length made.0.rules)) (so_far.1 ++ made.1 ∷ []) → in_order gives (made.0, so_far.1 ++ made.1 ∷ []) xs ≡ Some all
            → AllByRecursion (P (length all.0.rules)) all.1 × (length made.0.rules ≤ length all.0.rules))
            → (o : Option (Grammar × B)) → gives so_far.0 x ≡ o → option_and_then (λ m. in_order gives (m.0, so_far.1 ++ m.1 ∷ []) xs) o ≡ Some all
            → AllByRecursion (P (length all.0.rules)) all.1 × (length so_far.0.rules ≤ length all.0.rules)
        by later None i e' = absurd (none_part all e')
        by later (Some made) i e' =
            let one = holds so_far.0 x made le q.0 i in
            let grows : length so_far.0.rules ≤ length made.0.rules = one.1 in
            let enough : base ≤ length made.0.rules = omega (arith, le, grows) in
            let before = each_more (P (length so_far.0.rules)) (P (length made.0.rules)) (λ y p. more (length so_far.0.rules) (length made.0.rules) y grows p) so_far.1 h in
            let rest = later made enough (each_append (P (length made.0.rules)) so_far.1 (made.1 ∷ []) before (one.0, tt)) e' in
            let far : length made.0.rules ≤ length all.0.rules = rest.1 in
            (rest.0, omega (arith, grows, far))

-- an assertion in the list of those that have an effect
pub counted : (a : Assertion) (rest : List Assertion) → counts a.mark ≡ true → counting (a ∷ rest) ≡ a ∷ counting rest
counted a rest e = ap (λ b. cond b (a ∷ counting rest) (counting rest)) e

pub passed_over : (a : Assertion) (rest : List Assertion) → counts a.mark ≡ false → counting (a ∷ rest) ≡ counting rest
passed_over a rest e = ap (λ b. cond b (a ∷ counting rest) (counting rest)) e
