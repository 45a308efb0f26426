-- After k + 1 rounds over the names of a closed set those are found of which a leaf holds that at most k unit rules lead to.
use Rattle.std.proofs.Common.{◌≡◌, ℕ, zero, suc, ◌<◌, ◌≤◌, ◌+◌, ◌-◌, Bool, true, false, ◌&&◌, ◌||◌, List, [], ◌∷◌, length, refl, ap, sym, ◌∙◌, subst, arith}
use Rattle.std.specs.Prelude.{◌==◌, nat_lt}
use Rattle.std.specs.List.{list_any}
use Rattle.std.proofs.lemmas.Bool.Decides.{nat_tests}
use Rattle.std.proofs.Math.Bool.{and-false}
use Rattle.prog_data.specs.Values.{bit_at}
use Rattle.prog_data.specs.declared.grammars.Rule.{Rule}
use Rattle.prog_data.specs.declared.grammars.Rule.TheVariants.{Basic as BasicRule, Int, Atom, Node, Unit as UnitRule}
use Rattle.prog_data.specs.declared.grammars.Grammar.{Grammar}
use Rattle.prog_data.specs.Membership.{rules_of, leaves_within}
use Rattle.prog_data.proofs.Leaves.{In, here, later, in_any}
use Rattle.prop_check.specs.declared.gathering.Look.TheVariants.{Units}
use Rattle.prop_check.specs.Belonging.{passes}
use Rattle.prop_check.specs.Sets.{is_picked, IsClosed, passes_in}
use Rattle.prop_check.proofs.Absent.{past}
use Rattle.prop_check.proofs.Belonging.{rules_pass}

pub itself : (n : ℕ) → (n == n) ≡ true
itself n = grind (arith, nat_tests)

-- two tests that agree at each item
pub any_same : {A : Type 0} (p q : A → Bool) (xs : List A) → ((x : A) → In x xs → p x ≡ q x) → list_any p xs ≡ list_any q xs
any_same p q [] h = refl
any_same p q (x ∷ xs) h = ap (λ b. b || list_any p xs) (h x here) ∙ ap (λ b. q x || b) (any_same p q xs (λ y i. h y (later i)))

-- whether a leaf holds that at most so many unit rules lead to from a name
abbrev pub holds_within : Grammar → (Rule → Bool) → ℕ → ℕ → Bool
holds_within g p k n = list_any p (leaves_within k g n)

-- none does for a name that is not there
pub none_within : (g : Grammar) (p : Rule → Bool) (k n : ℕ) → length g.rules ≤ n → holds_within g p k n ≡ false
none_within g p k n le = rules_pass g p k n ∙ ap (list_any (passes p k g)) (past [] g.rules n le)

module _ (g : Grammar) (few : length g.rules ≤ 512) (reach : ℕ → Bool) (closed : IsClosed g reach) where
  -- a unit rule leads to a name of the set, or to one that is not there
  led : (n m : ℕ) → reach n ≡ true → In (UnitRule m) (rules_of g n) → m < 512 → reach m ≡ true
  led n m r i lt = closed n m r (in_any (is_picked [] Units m) (rules_of g n) i (itself m)) lt

  unit_same : (p : Rule → Bool) (k n m : ℕ) → reach n ≡ true → In (UnitRule m) (rules_of g n) → (reach m && holds_within g p k m) ≡ holds_within g p k m
  unit_same p k n m r i = by (nat_lt m 512) refl
    where
      by : (b : Bool) → nat_lt m 512 ≡ b → (reach m && holds_within g p k m) ≡ holds_within g p k m
      by true e = let lt : m < 512 = grind (arith, nat_tests) in ap (λ b. b && holds_within g p k m) (led n m r i lt)
      by false e = let le : 512 ≤ m = grind (arith, nat_tests) in let none = none_within g p k m (omega (arith, le, few)) in ap (λ b. reach m && b) none ∙ and-false (reach m) ∙ sym none

  module _ (p : Rule → Bool) where
    -- what is found so far
    abbrev pub FoundWithin : ℕ → (ℕ → Bool) → Type 0
    FoundWithin k found = (n : ℕ) → found n ≡ (reach n && holds_within g p k n)

    -- one round more
    abbrev pub IsRound : (ℕ → Bool) → (ℕ → Bool) → Type 0
    IsRound old new = (n : ℕ) → new n ≡ (reach n && list_any (passes_in p old) (rules_of g n))

    pub first_round : (old new : ℕ → Bool) → ((n : ℕ) → old n ≡ false) → IsRound old new → FoundWithin zero new
    first_round old new none is n = is n ∙ ap (λ b. reach n && b) (any_same (passes_in p old) (passes p zero g) (rules_of g n) same ∙ sym (rules_pass g p zero n))
      where
        same : (r : Rule) → In r (rules_of g n) → passes_in p old r ≡ passes p zero g r
        same (UnitRule m) i = none m
        same (BasicRule b) i = refl
        same (Int j) i = refl
        same (Atom a) i = refl
        same (Node f ns) i = refl

    pub next_round : (k : ℕ) (old new : ℕ → Bool) → FoundWithin k old → IsRound old new → FoundWithin (suc k) new
    next_round k old new had is n = is n ∙ by (reach n) refl
      where
        same : reach n ≡ true → (r : Rule) → In r (rules_of g n) → passes_in p old r ≡ passes p (suc k) g r
        same e (UnitRule m) i = had m ∙ unit_same p k n m e i
        same e (BasicRule b) i = refl
        same e (Int j) i = refl
        same e (Atom a) i = refl
        same e (Node f ns) i = refl

        by : (b : Bool) → reach n ≡ b → (b && list_any (passes_in p old) (rules_of g n)) ≡ (b && holds_within g p (suc k) n)
        by true e = any_same (passes_in p old) (passes p (suc k) g) (rules_of g n) (same e) ∙ sym (rules_pass g p (suc k) n)
        by false e = refl

    pub later_round : (k j : ℕ) (old new : ℕ → Bool) → j ≡ k + 1 → FoundWithin k old → IsRound old new → FoundWithin j new
    later_round k j old new e had is = subst (λ j. FoundWithin j new) (let q : suc k ≡ j = omega (arith, e) in q) (next_round k old new had is)

    -- a round that finds nothing new is the last
    pub last_round : (found : ℕ → Bool) → IsRound found found → (k more all : ℕ) → FoundWithin k found → all ≡ k + more → FoundWithin all found
    last_round found is k zero all had e = subst (λ j. FoundWithin j found) (let q : k ≡ all = omega (arith, e) in q) had
    last_round found is k (suc more) all had e =
        subst (λ j. FoundWithin j found) (let q : suc (k + more) ≡ all = omega (arith, e) in q) (next_round (k + more) found found (last_round found is k more (k + more) had refl) is)

    pub settled_early : (found next : List ℕ) (k all : ℕ) → next ≡ found → k ≤ all → FoundWithin k (bit_at found) → IsRound (bit_at found) (bit_at next) → FoundWithin all (bit_at found)
    settled_early found next k all same le had is =
        last_round (bit_at found) (λ n. ap (λ ws. bit_at ws n) (sym same) ∙ is n) k (all - k) all had (omega (arith, le))

    pub settled_late : (found : ℕ → Bool) (k all : ℕ) → k ≡ all → FoundWithin k found → FoundWithin all found
    settled_late found k all e = subst (λ j. FoundWithin j found) e

  -- leaves that hold alike
  module _ (p q : Rule → Bool) (alike : (n : ℕ) (r : Rule) → reach n ≡ true → In r (rules_of g n) → p r ≡ q r) where
    alike_first : (n : ℕ) → reach n ≡ true → holds_within g p zero n ≡ holds_within g q zero n
    alike_first n e = rules_pass g p zero n ∙ any_same (passes p zero g) (passes q zero g) (rules_of g n) same ∙ sym (rules_pass g q zero n)
      where
        same : (r : Rule) → In r (rules_of g n) → passes p zero g r ≡ passes q zero g r
        same (UnitRule m) i = refl
        same (BasicRule b) i = alike n (BasicRule b) e i
        same (Int j) i = alike n (Int j) e i
        same (Atom a) i = alike n (Atom a) e i
        same (Node f ns) i = alike n (Node f ns) e i

    alike_next : (k : ℕ) → ((m : ℕ) → reach m ≡ true → holds_within g p k m ≡ holds_within g q k m) → (n : ℕ) → reach n ≡ true → holds_within g p (suc k) n ≡ holds_within g q (suc k) n
    alike_next k before n e = rules_pass g p (suc k) n ∙ any_same (passes p (suc k) g) (passes q (suc k) g) (rules_of g n) same ∙ sym (rules_pass g q (suc k) n)
      where
        unit : (m : ℕ) → In (UnitRule m) (rules_of g n) → (b : Bool) → nat_lt m 512 ≡ b → holds_within g p k m ≡ holds_within g q k m
        unit m i true f = let lt : m < 512 = grind (arith, nat_tests) in before m (led n m e i lt)
        unit m i false f = let le : 512 ≤ m = grind (arith, nat_tests) in none_within g p k m (omega (arith, le, few)) ∙ sym (none_within g q k m (omega (arith, le, few)))

        same : (r : Rule) → In r (rules_of g n) → passes p (suc k) g r ≡ passes q (suc k) g r
        same (UnitRule m) i = unit m i (nat_lt m 512) refl
        same (BasicRule b) i = alike n (BasicRule b) e i
        same (Int j) i = alike n (Int j) e i
        same (Atom a) i = alike n (Atom a) e i
        same (Node f ns) i = alike n (Node f ns) e i

    pub alike_within : (k n : ℕ) → reach n ≡ true → holds_within g p k n ≡ holds_within g q k n
    alike_within zero = alike_first
    alike_within (suc k) = alike_next k (alike_within k)
