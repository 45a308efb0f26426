-- The names in the leaves of a grammar, and the names that have leaves.
use Rattle.std.proofs.Common.{◌≡◌, ℕ, zero, suc, ◌<◌, ◌+◌, Bool, true, List, [], ◌∷◌, length, map, refl, ap, ◌∙◌, subst, arith}
use Rattle.std.proofs.lemmas.Bool.Decides.{nat_tests}
use Rattle.std.specs.Prelude.{nat_lt, slice_index_or}
use Rattle.std.specs.List.{list_any, list_all}
use Rattle.prog_data.specs.declared.grammars.Rule.{Rule}
use Rattle.prog_data.specs.declared.grammars.Grammar.{Grammar}
use Rattle.prog_data.specs.GrammarRange.{IsGrammar, is_rule_of, names_in}
use Rattle.prog_data.specs.Membership.{rules_of}
use Rattle.prog_data.proofs.Leaves.{In, any_in, leaf_of}
use Rattle.name_order.specs.Held.{SameLeaves}
use Rattle.name_order.specs.Relations.{full_leaves, names_from, names_below, order}
use Rattle.type_domain.proofs.Lists.{and_left, and_right, all_mono, all_in, all_given, same_all}
use Rattle.type_domain.proofs.Orders.{full_in}

all_at : (p : Rule → Bool) (lists : List (List Rule)) (n : ℕ) → list_all (list_all p) lists ≡ true → list_all p (slice_index_or lists n []) ≡ true
all_at p [] n e = refl
all_at p (rs ∷ lists) zero e = and_left _ _ e
all_at p (rs ∷ lists) (suc n) e = all_at p lists n (and_right (list_all p rs) _ e)

-- the names in the leaves of a name are names of the grammar
pub leaves_range : (g : Grammar) → IsGrammar g → (n : ℕ) → list_all (is_rule_of (length g.rules)) (full_leaves g n) ≡ true
leaves_range g is n = all_given (is_rule_of (length g.rules)) (full_leaves g n) (λ r i. let l = leaf_of g r (length g.rules) n (full_in g r n i).0 in all_in (is_rule_of (length g.rules)) (rules_of g l.0) (all_at (is_rule_of (length g.rules)) g.rules l.0 is.closed) l.3)

pub found_range : (g : Grammar) → IsGrammar g → (n : ℕ) (xs : List Rule) → SameLeaves xs (full_leaves g n) → list_all (is_rule_of (length g.rules)) xs ≡ true
found_range g is n xs same = same_all xs (full_leaves g n) same (is_rule_of (length g.rules)) ∙ leaves_range g is n

pub found_few : (g : Grammar) → IsGrammar g → (n : ℕ) (xs : List Rule) → SameLeaves xs (full_leaves g n) → list_all (is_rule_of 512) xs ≡ true
found_few g is n xs same =
    all_mono (is_rule_of (length g.rules)) (is_rule_of 512) (λ r e. all_mono (λ m. nat_lt m (length g.rules)) (λ m. nat_lt m 512) (λ m f. fewer m f) (names_in r) e) xs (found_range g is n xs same)
  where
    fewer : (m : ℕ) → nat_lt m (length g.rules) ≡ true → nat_lt m 512 ≡ true
    fewer m f = let lt : m < length g.rules = grind (arith, nat_tests) in let few = is.few in let lt' : m < 512 = omega (arith, lt, few) in grind (arith, nat_tests)

-- a name with a leaf is a name of the grammar

in_place : (lists : List (List Rule)) (r : Rule) (n : ℕ) → In r (slice_index_or lists n []) → n < length lists
in_place [] r n i = elim i [ ]
in_place (rs ∷ lists) r zero i = omega arith
in_place (rs ∷ lists) r (suc n) i = let lt = in_place lists r n i in omega (arith, lt)

listed : (f : ℕ → List Rule) (first size : ℕ) → length (map f (names_from first size)) ≡ size
listed f first zero = refl
listed f first (suc k) = ap suc (listed f (first + 1) k)

pub leaf_named : (g : Grammar) (test : Rule → Bool) (n : ℕ) → list_any test ((order g).leaves n) ≡ true → n < length g.rules
leaf_named g test n e = let m = any_in test ((order g).leaves n) e in subst (λ k. n < k) (listed (full_leaves g) 0 (length g.rules)) (in_place (map (full_leaves g) (names_below (length g.rules))) m.0 n m.1)
