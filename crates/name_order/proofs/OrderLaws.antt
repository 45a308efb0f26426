-- The order of a grammar, whose parts are computed once, has its leaves and its relations.
use Rattle.std.proofs.Common.{◌≡◌, ℕ, zero, suc, ◌<◌, ◌+◌, ◌≤◌, Bool, true, false, List, [], ◌∷◌, length, map, refl, ap, sym, ◌∙◌, subst, arith}
use Rattle.std.proofs.lemmas.Bool.Decides.{nat_tests}
use Rattle.std.specs.Prelude.{slice_index_or}
use Rattle.prog_data.specs.declared.grammars.Rule.{Rule}
use Rattle.prog_data.specs.declared.grammars.Grammar.{Grammar}
use Rattle.prog_data.proofs.Leaves.{In, here}
use Rattle.name_order.specs.Relations.{is_name, names_from, names_below, full_leaves, Order, order_of_leaves, looked_up, order, IsOrder}
use Rattle.name_order.proofs.RelationLaws.{named, full_in, below_law, meets_law}

pub inside : {A : Type 0} (f : ℕ → List A) (i first k : ℕ) → i < k → slice_index_or (map f (names_from first k)) i [] ≡ f (first + i)
inside f i first zero lt = absurd (omega (arith, lt))
inside f zero first (suc k) lt = ap f (omega arith)
inside f (suc i) first (suc k) lt = inside f i (first + 1) k (omega (arith, lt)) ∙ ap f (omega arith)

pub outside : (f : ℕ → List Rule) (i first k : ℕ) → k ≤ i → slice_index_or (map f (names_from first k)) i [] ≡ []
outside f i first zero le = refl
outside f zero first (suc k) le = absurd (omega (arith, le))
outside f (suc i) first (suc k) le = outside f i (first + 1) k (omega (arith, le))

pub empty : (xs : List Rule) → ((r : Rule) → In r xs → ⊥) → xs ≡ []
empty [] h = refl
empty (x ∷ xs) h = absurd (h x here)

pub looked_up_full : (g : Grammar) → looked_up (map (full_leaves g) (names_below (length g.rules))) ≡ full_leaves g
looked_up_full g = λ i n. at n (is_name (length g.rules) n) refl i
  where
    at : (n : ℕ) (b : Bool) → is_name (length g.rules) n ≡ b → looked_up (map (full_leaves g) (names_below (length g.rules))) n ≡ full_leaves g n
    at n true e = inside (full_leaves g) n 0 (length g.rules) (grind (arith, nat_tests)) ∙ ap (full_leaves g) (omega arith)
    at n false e =
        outside (full_leaves g) n 0 (length g.rules) (grind (arith, nat_tests))
        ∙ sym (empty (full_leaves g n) (λ r i. clash (named g r n (full_in g r n i).0) e))
      where
        clash : {b : Bool} → b ≡ true → b ≡ false → ⊥
        clash {b} d e = cc

-- the order without lists
abbrev pub plain : Grammar → Order
plain g = order_of_leaves (length g.rules) (full_leaves g)

pub order_is : (g : Grammar) → order g ≡ plain g
order_is g = ap (order_of_leaves (length g.rules)) (looked_up_full g)

pub is_order : (g : Grammar) → IsOrder g (order g)
is_order g = subst (IsOrder g) (sym (order_is g)) (record { size = refl; leaves = refl; below = below_law g; meets = meets_law g })
