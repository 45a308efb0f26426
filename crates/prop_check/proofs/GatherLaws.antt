-- What is gathered from rules: one rule, some rules, and the rules of the names of a set.
use Rattle.std.proofs.Common.{◌≡◌, inr, ℕ, ◌<◌, ◌≤◌, ◌+◌, Bool, true, false, ◌&&◌, ◌||◌, List, [], length, drop, get_or, refl, ap, sym, ◌∙◌, subst, arith, true≢false}
use Rattle.std.specs.Prelude.{◌==◌, nat_lt, Option, Some, None}
use Rattle.std.specs.List.{list_any}
use Rattle.std.proofs.lemmas.Bool.{and_from}
use Rattle.std.proofs.lemmas.Bool.Decides.{nat_tests}
use Rattle.std.proofs.lemmas.List.{at_drop_all}
use Rattle.std.proofs.Math.Bool.{or-false, and-false}
use Rattle.term_core.proofs.Turns.{turn}
use Rattle.prog_data.specs.Values.{bit_at}
use Rattle.prog_data.specs.declared.grammars.Rule.{Rule}
use Rattle.prog_data.specs.declared.grammars.Grammar.{Grammar}
use Rattle.prop_check.specs.declared.gathering.Look.{Look}
use Rattle.prop_check.specs.declared.gathering.Look.TheVariants.{Units}
use Rattle.prop_check.specs.Sets.{has_name, is_picked, finds, finds_in, IsFrom, IsClosed}
use Rattle.prop_check.proofs.Absent.{past}

pub or_left : (a b : Bool) → a ≡ true → (a || b) ≡ true
or_left a b e = ap (λ x. x || b) e

pub or_right : (a b : Bool) → b ≡ true → (a || b) ≡ true
or_right true b e = refl
or_right false b e = e

-- one rule

pub picked_some : (old new : List ℕ) (o : Option ℕ) (name : ℕ) → o ≡ Some name → ((m : ℕ) → bit_at new m ≡ (bit_at old m || (nat_lt m 512 && m == name))) →
    (m : ℕ) → bit_at new m ≡ (bit_at old m || (nat_lt m 512 && has_name m o))
picked_some old new o name e put m = put m ∙ ap (λ o. bit_at old m || (nat_lt m 512 && has_name m o)) (sym e)

pub picked_none : (old : List ℕ) (o : Option ℕ) → o ≡ None → (m : ℕ) → bit_at old m ≡ (bit_at old m || (nat_lt m 512 && has_name m o))
picked_none old o e m = sym (or-false (bit_at old m)) ∙ ap (λ b. bit_at old m || b) (sym (and-false (nat_lt m 512))) ∙ ap (λ o. bit_at old m || (nat_lt m 512 && has_name m o)) (sym e)

-- some rules

regroup : (a b c d : Bool) → ((a || (b && c)) || (b && d)) ≡ (a || (b && (c || d)))
regroup true b c d = refl
regroup false true c d = refl
regroup false false c d = refl

module _ (known : List (ℕ → Bool)) (look : Look) (rules : List Rule) where
  -- the set, and what the rules from one on add
  abbrev pub with_rest : List ℕ → ℕ → ℕ → Bool
  with_rest ws i m = bit_at ws m || (nat_lt m 512 && list_any (is_picked known look m) (drop i rules))

  pub rest_turn : (old new : List ℕ) (all : ℕ → Bool) (i : ℕ) (r : Rule) → i < length rules → r ≡ get_or rules i r →
      ((m : ℕ) → bit_at new m ≡ (bit_at old m || (nat_lt m 512 && is_picked known look m r))) → ((m : ℕ) → with_rest old i m ≡ all m) → (m : ℕ) → with_rest new (i + 1) m ≡ all m
  rest_turn old new all i r lt e put had m =
      ap (λ b. b || (nat_lt m 512 && list_any (is_picked known look m) (drop (i + 1) rules))) (put m)
      ∙ regroup (bit_at old m) (nat_lt m 512) (is_picked known look m r) (list_any (is_picked known look m) (drop (i + 1) rules))
      ∙ sym (turn (λ rs. bit_at old m || (nat_lt m 512 && list_any (is_picked known look m) rs)) rules i r lt e)
      ∙ had m

  pub rest_end : (ws : List ℕ) (all : ℕ → Bool) (i : ℕ) → length rules ≤ i → ((m : ℕ) → with_rest ws i m ≡ all m) → (m : ℕ) → bit_at ws m ≡ all m
  rest_end ws all i le had m =
      sym (or-false (bit_at ws m)) ∙ ap (λ b. bit_at ws m || b) (sym (and-false (nat_lt m 512)))
      ∙ sym (at_drop_all (λ rs. bit_at ws m || (nat_lt m 512 && list_any (is_picked known look m) rs)) rules i le)
      ∙ had m

-- the names of a set

module _ (g : Grammar) (known : List (ℕ → Bool)) (look : Look) (from : ℕ → Bool) where
  -- the set has what is found at the first names
  abbrev pub FoundBelow : ℕ → List ℕ → Type 0
  FoundBelow k ws = (n m : ℕ) → n < k → from n ≡ true → finds_in g known look n m ≡ true → m < 512 → bit_at ws m ≡ true

  pub found_none : (ws : List ℕ) → FoundBelow 0 ws
  found_none ws n m lt r f few = absurd (omega (arith, lt))

  module _ (k : ℕ) (old new : List ℕ) (put : (m : ℕ) → bit_at new m ≡ (bit_at old m || (from k && (nat_lt m 512 && finds_in g known look k m)))) where
    pub found_kept : (m : ℕ) → bit_at old m ≡ true → bit_at new m ≡ true
    found_kept m e = put m ∙ or_left (bit_at old m) _ e

    pub found_more : FoundBelow k old → FoundBelow (k + 1) new
    found_more had n m lt r f few = by (n == k) refl
      where
        by : (b : Bool) → (n == k) ≡ b → bit_at new m ≡ true
        by true e =
            let q : n ≡ k = grind (arith, nat_tests) in
            let s : nat_lt m 512 ≡ true = grind (arith, nat_tests) in
            put m ∙ or_right (bit_at old m) _ (and_from (from k) _ (subst (λ j. from j ≡ true) q r) (and_from (nat_lt m 512) _ s (subst (λ j. finds_in g known look j m ≡ true) q f)))
        by false e = let d : (n ≡ k → ⊥) = grind (arith, nat_tests) in found_kept m (had n m (omega (arith, d, lt)) r f few)

-- a name in whose rules something is found is there
pub found_named : (g : Grammar) (known : List (ℕ → Bool)) (look : Look) (n m : ℕ) → finds_in g known look n m ≡ true → n < length g.rules
found_named g known look n m f = by (nat_lt n (length g.rules)) refl
  where
    by : (b : Bool) → nat_lt n (length g.rules) ≡ b → n < length g.rules
    by true e = grind (arith, nat_tests)
    by false e = let le : length g.rules ≤ n = grind (arith, nat_tests) in absurd (true≢false (sym f ∙ ap (list_any (is_picked known look m)) (past [] g.rules n le)))

-- so all is found once the names are done
pub found_all : (g : Grammar) (known : List (ℕ → Bool)) (look : Look) (from : ℕ → Bool) (k : ℕ) (ws : List ℕ) → length g.rules ≤ k → FoundBelow g known look from k ws →
    (n m : ℕ) → from n ≡ true → finds_in g known look n m ≡ true → m < 512 → bit_at ws m ≡ true
found_all g known look from k ws le had n m r f few = let there = found_named g known look n m f in had n m (omega (arith, there, le)) r f few

-- a set to which nothing is added is closed
pub same_closed : (g : Grammar) (names next : ℕ → Bool) → ((n : ℕ) → next n ≡ true → names n ≡ true) → ((n m : ℕ) → names n ≡ true → finds g Units n m ≡ true → m < 512 → next m ≡ true) → IsClosed g names
same_closed g names next none found n m r f lt = none m (found n m r f lt)

-- what is added comes from rules of the set
module _ (g : Grammar) (known : List (ℕ → Bool)) (look : Look) (from start : ℕ → Bool) (k : ℕ) (old new : ℕ → Bool) (put : (m : ℕ) → new m ≡ (old m || (from k && (nat_lt m 512 && finds_in g known look k m))))
    (had : (m : ℕ) → old m ≡ true → IsFrom g known look from start m) where
  pub only_more : (m : ℕ) → new m ≡ true → IsFrom g known look from start m
  only_more m e = by (old m) (from k) (nat_lt m 512) (finds_in g known look k m) refl refl refl (sym (put m) ∙ e)
    where
      by : (a b c d : Bool) → old m ≡ a → from k ≡ b → finds_in g known look k m ≡ d → (a || (b && (c && d))) ≡ true → IsFrom g known look from start m
      by true b c d p q r e = had m p
      by false true true true p q r e = inr (k, q, r)
      by false true true false p q r e = absurd (true≢false (sym e))
      by false true false d p q r e = absurd (true≢false (sym e))
      by false false c d p q r e = absurd (true≢false (sym e))
