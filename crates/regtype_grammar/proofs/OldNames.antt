-- Names keep their terms where rules of further names come behind.
use Rattle.std.proofs.Common.{◌≡◌, ◌↔◌, ℕ, zero, suc, ◌<◌, List, [], ◌∷◌, ◌++◌, length, ap, sym, ◌∙◌, subst, arith, refl}
use Rattle.std.specs.Prelude.{Contains, slice_index_or}
use Rattle.std.specs.List.{AllByRecursion}
use Rattle.term_core.specs.declared.terms.Term.{Term}
use Rattle.prog_data.specs.declared.grammars.Rule.{Rule}
use Rattle.prog_data.specs.declared.grammars.Rule.TheVariants as rule
use Rattle.prog_data.specs.declared.grammars.Grammar.{Grammar}
use Rattle.prog_data.specs.Membership.{rules_of, Belongs, by_basic, by_int, by_atom, by_node, by_unit, BelongEach, none, more}
use Rattle.regtype_grammar.specs.ListTerms.{OldNamesKeepTerms}
use Rattle.regtype_grammar.proofs.BelowLaws.{IsRuleBelow, AreRulesBelow, AllRulesBelow}
use Rattle.regtype_grammar.proofs.ListRange.{rules_below}

each_contained : {A : Type 0} (P : A → Type 0) (xs : List A) (x : A) (k : ℕ) → k < length xs → slice_index_or xs k x ≡ x → AllByRecursion P xs → P x
each_contained P [] x k lt e h = let no : k < 0 = lt in absurd (omega (arith, no))
each_contained P (y ∷ ys) x zero lt e h = subst P e h.0
each_contained P (y ∷ ys) x (suc k) lt e h = let less : suc k < suc (length ys) = lt in each_contained P ys x k (omega (arith, less)) e h.1

rules_at : (size : ℕ) (rules : List (List Rule)) (n : ℕ) → AllRulesBelow size rules → AreRulesBelow size (slice_index_or rules n [])
rules_at size [] n h = tt
rules_at size (rs ∷ rest) zero h = h.0
rules_at size (rs ∷ rest) (suc n) h = rules_at size rest n h.1

front_rules : (xs ys : List (List Rule)) (n : ℕ) → n < length xs → slice_index_or (xs ++ ys) n [] ≡ slice_index_or xs n []
front_rules [] ys n lt = let no : n < 0 = lt in absurd (omega (arith, no))
front_rules (x ∷ xs) ys zero lt = refl
front_rules (x ∷ xs) ys (suc n) lt = let less : suc n < suc (length xs) = lt in front_rules xs ys n (omega (arith, less))

-- names below a number have the same rules in two grammars, and only such names in them
module _ (g h : Grammar) (size : ℕ) (same : (n : ℕ) → n < size → rules_of g n ≡ rules_of h n) (below : (n : ℕ) → n < size → AreRulesBelow size (rules_of h n)) where
  moved : (n : ℕ) → n < size → (r : Rule) → Contains (rules_of g n) r → Contains (rules_of h n) r
  moved n lt r c = subst (λ rs. Contains rs r) (same n lt) c

  names_below : (n : ℕ) → n < size → (r : Rule) → Contains (rules_of h n) r → IsRuleBelow size r
  names_below n lt r c = each_contained (IsRuleBelow size) (rules_of h n) r c.0 c.1 c.2 (below n lt)

  mutual
    carried : {u : Term} {n : ℕ} → Belongs g u n → n < size → Belongs h u n
    carried {u} {n} (by_basic b c i) lt = by_basic b (moved n lt (rule.Basic b) c) i
    carried {u} {n} (by_int k c e) lt = by_int k (moved n lt (rule.Int k) c) e
    carried {u} {n} (by_atom a c e) lt = by_atom a (moved n lt (rule.Atom a) c) e
    carried {u} {n} (by_node f ts ns c e each) lt =
        let here = moved n lt (rule.Node f ns) c in
        by_node f ts ns here e (each_carried each (names_below n lt (rule.Node f ns) here))
    carried {u} {n} (by_unit m c b) lt =
        let here = moved n lt (rule.Unit m) c in
        by_unit m here (carried b (names_below n lt (rule.Unit m) here).0)

    each_carried : {us : List Term} {ns : List ℕ} → BelongEach g us ns → AllByRecursion (λ n. n < size) ns → BelongEach h us ns
    each_carried none lt = none
    each_carried (more b rest) lt = more (carried b lt.0) (each_carried rest lt.1)

pub names_keep : (old new : Grammar) (further : List (List Rule)) → old.rules ++ further ≡ new.rules → AllRulesBelow (length old.rules) old.rules → (n : ℕ) → n < length old.rules → (t : Term) → Belongs new t n ↔ Belongs old t n
names_keep old new further is h n lt t = (λ b. carried new old size same old_below b lt, λ b. carried old new size back new_below b lt)
  where
    size : ℕ
    size = length old.rules

    same : (m : ℕ) → m < size → rules_of new m ≡ rules_of old m
    same m lt = ap (λ rs. slice_index_or rs m []) (sym is) ∙ front_rules old.rules further m lt

    back : (m : ℕ) → m < size → rules_of old m ≡ rules_of new m
    back m lt = sym (same m lt)

    old_below : (m : ℕ) → m < size → AreRulesBelow size (rules_of old m)
    old_below m lt = rules_at size old.rules m h

    new_below : (m : ℕ) → m < size → AreRulesBelow size (rules_of new m)
    new_below m lt = subst (AreRulesBelow size) (back m lt) (old_below m lt)

pub old_names_keep : OldNamesKeepTerms
old_names_keep old new range front n lt t = names_keep old new front.0 front.1 (rules_below (length old.rules) old.rules range.closed) n lt t
