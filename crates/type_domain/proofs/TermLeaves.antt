-- The leaves of term and gnd, and the leaf by which a term belongs to a name.
use Rattle.std.proofs.Common.{◌≡◌, ℕ, zero, suc, Bool, true, false, List, [], ◌∷◌, ◌++◌, length, map, refl, ap, sym, ◌∙◌, subst, arith}
use Rattle.std.specs.Prelude.{◌==◌, filter, flat_map, Contains}
use Rattle.std.specs.List.{list_any, list_all}
use Rattle.std.proofs.lemmas.Bool.{and_from}
use Rattle.std.proofs.Math.Bool.{or-false}
use Rattle.term_core.specs.declared.terms.Term.{Term, Var, Int, Atom, Node}
use Rattle.term_core.proofs.TermFolds.{fold-Var, fold-Int, fold-Atom, fold-Node, ind_terms}
use Rattle.prog_data.specs.declared.grammars.Basic.{Basic}
use Rattle.prog_data.specs.declared.grammars.Basic.TheVariants as basic
use Rattle.prog_data.specs.declared.grammars.Rule.{Rule}
use Rattle.prog_data.specs.declared.grammars.Rule.TheVariants as rule
use Rattle.prog_data.specs.declared.grammars.Grammar.{Grammar}
use Rattle.prog_data.specs.Membership.{rules_of, is_leaf, unit_of, leaves_within, leaves, admit_each, admits, admits_step, belongs, Belongs, by_basic}
use Rattle.prog_data.proofs.Leaves.{In, here, any_in, in_any}
use Rattle.prog_data.specs.declared.basic_names.TheConstants.{GND_TYPE}
use Rattle.name_order.specs.Relations.{leaf_has, has_member, Order, order}
use Rattle.type_domain.specs.Relied.{Relied}
use Rattle.type_domain.proofs.Lists.{and_left, and_right}
use Rattle.type_domain.proofs.Orders.{full_in, in_full, in_leaves, leaves_in}

-- a name whose one rule is basic has one leaf
only_leaf : (g : Grammar) (b : Basic) (n k : ℕ) → rules_of g n ≡ rule.Basic b ∷ [] → leaves_within k g n ≡ rule.Basic b ∷ []
only_leaf g b n zero e = ap (filter is_leaf) e
only_leaf g b n (suc k) e = ap (λ rs. filter is_leaf rs ++ flat_map (leaves_within k g) (flat_map unit_of rs)) e

module _ (g : Grammar) (says : Relied g) where
  abbrev o : Order
  o = order g

  gnd_belongs : (t : Term) → belongs g t GND_TYPE ≡ admits g t (rule.Basic basic.Gnd)
  gnd_belongs t = ap (list_any (admits g t)) (only_leaf g basic.Gnd GND_TYPE (length g.rules) says.gnd) ∙ or-false (admits g t (rule.Basic basic.Gnd))

  pub in_gnd : (t : Term) → belongs g t GND_TYPE ≡ true → admits g t (rule.Basic basic.Gnd) ≡ true
  in_gnd t e = sym (gnd_belongs t) ∙ e

  pub gnd_in : (t : Term) → admits g t (rule.Basic basic.Gnd) ≡ true → belongs g t GND_TYPE ≡ true
  gnd_in t e = gnd_belongs t ∙ e

  pub term_leaf : In (rule.Basic basic.Term) (o.leaves 0)
  term_leaf = leaves_in g o says.is_order (rule.Basic basic.Term) 0 (in_full g (rule.Basic basic.Term) 0 (subst (In (rule.Basic basic.Term)) (sym (only_leaf g basic.Term 0 (length g.rules) says.term)) here) refl)

  -- each term belongs to term
  pub in_top : (t : Term) → Belongs g t 0
  in_top t = by_basic basic.Term (subst (λ rs. Contains rs (rule.Basic basic.Term)) (sym says.term) (0, omega arith, refl)) tt

  -- a leaf that admits a term has members

  belongs_member : (t : Term) (n : ℕ) → belongs g t n ≡ true → has_member g n ≡ true
  belongs_member t n e = (says.member n).1 ((says.members_belong n).1 (t, (says.belongs t n).0 e))

  each_member : (ts : List Term) (ns : List ℕ) → admit_each g (map (admits g) ts) ns ≡ true → list_all (has_member g) ns ≡ true
  each_member [] [] e = refl
  each_member [] (n ∷ ns) e = cc
  each_member (t ∷ ts) [] e = cc
  each_member (t ∷ ts) (n ∷ ns) e = and_from (has_member g n) (list_all (has_member g) ns) (belongs_member t n (and_left _ _ e)) (each_member ts ns (and_right (belongs g t n) _ e))

  by_nodes : (test : Rule → Bool) → ((f : ℕ) (ns : List ℕ) → test (rule.Node f ns) ≡ true → list_all (has_member g) ns ≡ true) → (r : Rule) → test r ≡ true → leaf_has (has_member g) r ≡ true
  by_nodes test h (rule.Node f ns) e = h f ns e
  by_nodes test h other e = refl

  no_node : {A : Type 0} (p q : Rule → Bool) (f : ℕ) (ns : List ℕ) → p ≡ q → q (rule.Node f ns) ≡ false → p (rule.Node f ns) ≡ true → A
  no_node p q f ns same none e = let none' : p (rule.Node f ns) ≡ false = ap (λ p. p (rule.Node f ns)) same ∙ none in cc

  leaf_member : (t : Term) (r : Rule) → admits g t r ≡ true → leaf_has (has_member g) r ≡ true
  leaf_member = ind_terms (λ t. (r : Rule) → admits g t r ≡ true → leaf_has (has_member g) r ≡ true)
      (λ v. by_nodes (admits g (Var v)) (λ f ns e. no_node _ _ f ns (fold-Var _ (admits_step g) v) refl e))
      (λ k. by_nodes (admits g (Int k)) (λ f ns e. no_node _ _ f ns (fold-Int _ (admits_step g) k) refl e))
      (λ a. by_nodes (admits g (Atom a)) (λ f ns e. no_node _ _ f ns (fold-Atom _ (admits_step g) a) refl e))
      (λ f ts h. by_nodes (admits g (Node f ts)) (λ k ns e. each_member ts ns (and_right (f == k) _ (sym (ap (λ p. p (rule.Node k ns)) (fold-Node _ (admits_step g) f ts)) ∙ e))))

  pub leaf_of : (t : Term) (n : ℕ) → Belongs g t n → (r : Rule) × In r (o.leaves n) × (admits g t r ≡ true)
  leaf_of t n b =
      let m = any_in (admits g t) (leaves g n) ((says.belongs t n).1 b) in
      (m.0, leaves_in g o says.is_order m.0 n (in_full g m.0 n m.1 (leaf_member t m.0 m.2)), m.2)

  pub of_leaf : (t : Term) (n : ℕ) (r : Rule) → In r (o.leaves n) → admits g t r ≡ true → Belongs g t n
  of_leaf t n r i e = (says.belongs t n).0 (in_any (admits g t) (leaves g n) (full_in g r n (in_leaves g o says.is_order r n i)).0 e)
