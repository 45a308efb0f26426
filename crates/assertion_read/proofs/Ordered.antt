-- A property for each argument in order, by the last of them.
use Rattle.std.proofs.Common.{◌≡◌, ℕ, suc, ◌+◌, ◌-◌, ◌≤◌, ◌==◌, Bool, true, false, List, [], ◌∷◌, ◌++◌, length, refl, ap, sym, ◌∙◌, arith}
use Rattle.std.specs.Prelude.{cond, Option, Some, None}
use Rattle.std.proofs.lemmas.Bool.{eq-eqb}
use Rattle.std.proofs.lemmas.Bool.Decides.{nat_tests}
use Rattle.std.proofs.lemmas.List.{length-append}
use Rattle.term_core.specs.declared.terms.Term.{Term, out-Term}
use Rattle.term_core.specs.declared.terms.Term as term
use Rattle.term_core.specs.declared.fixed.TheConstants.{TIMES}
use Rattle.term_core.specs.Shapes.{pair_of}
use Rattle.term_core.specs.Operands.{chain, before_all}
use Rattle.term_core.proofs.OperandLaws.{chain_alone, chain_two, pair_is, eqb-eq}
use Rattle.assertion_read.specs.declared.assertions.Written.{Written}
use Rattle.assertion_read.specs.Properties.{placed_at, all_placed, ordered, said_in_order}

-- one more behind others, if both are there
abbrev pub behind_all : Option (List Written) → Option Written → Option (List Written)
behind_all (Some xs) (Some x) = Some (xs ++ x ∷ [])
behind_all (Some xs) None = None
behind_all None x = None

step : (o : Option Written) (os : Option (List Written)) (x : Option Written) → before_all o (behind_all os x) ≡ behind_all (before_all o os) x
step None os x = refl
step (Some a) None x = refl
step (Some a) (Some xs) None = refl
step (Some a) (Some xs) (Some x) = refl

placed_last : (k n : ℕ) (ts : List Term) (t : Term) → n ≡ length ts + k → all_placed k (ts ++ t ∷ []) ≡ behind_all (all_placed k ts) (placed_at n (out-Term t))
placed_last k n [] t e = let same : k ≡ n = omega (arith, e) in ap (λ m. before_all (placed_at m (out-Term t)) (Some [])) same ∙ by (placed_at n (out-Term t))
  where
    by : (o : Option Written) → before_all o (Some []) ≡ behind_all (Some []) o
    by None = refl
    by (Some x) = refl
placed_last k n (u ∷ ts) t e =
    ap (before_all (placed_at k (out-Term u))) (placed_last (suc k) n ts t (omega (arith, e)))
    ∙ step (placed_at k (out-Term u)) (all_placed (suc k) ts) (placed_at n (out-Term t))

same_test : (a b c d : ℕ) → (a ≡ b → c ≡ d) → (c ≡ d → a ≡ b) → (a == b) ≡ (c == d)
same_test a b c d f g = by (a == b) (c == d) refl refl
  where
    by : (x y : Bool) → (a == b) ≡ x → (c == d) ≡ y → x ≡ y
    by true true i j = refl
    by false false i j = refl
    by true false i j = sym (eq-eqb c d (f (eqb-eq a b i))) ∙ j
    by false true i j = sym i ∙ eq-eqb a b (g (eqb-eq c d j))

same_tests : (n : ℕ) (ts : List Term) (t : Term) → (length (ts ++ t ∷ []) == suc n) ≡ (length ts == n)
same_tests n ts t =
    let e : length (ts ++ t ∷ []) ≡ length ts + 1 = length-append ts (t ∷ []) in
    same_test (length (ts ++ t ∷ [])) (suc n) (length ts) n (λ i. omega (arith, e, i)) (λ i. omega (arith, e, i))

ordered_last : (n : ℕ) (ts : List Term) (t : Term) → ordered (suc n) (ts ++ t ∷ []) ≡ behind_all (ordered n ts) (placed_at n (out-Term t))
ordered_last n ts t = ap (λ b. cond b (all_placed 0 (ts ++ t ∷ [])) None) (same_tests n ts t) ∙ by (length ts == n) refl
  where
    by : (b : Bool) → (length ts == n) ≡ b → cond b (all_placed 0 (ts ++ t ∷ [])) None ≡ behind_all (cond b (all_placed 0 ts) None) (placed_at n (out-Term t))
    by false e = refl
    by true e = let same : length ts + 0 ≡ n = grind (arith, nat_tests, e) in placed_last 0 n ts t (sym same)

module _ (arity : ℕ) (t l r : Term) (whole : t ≡ term.Node TIMES (l ∷ r ∷ [])) (some : 1 ≤ arity) where
  order_two : said_in_order arity t ≡ behind_all (said_in_order (arity - 1) l) (placed_at (arity - 1) (out-Term r))
  order_two =
      let e : arity ≡ suc (arity - 1) = omega (arith, some) in
      ap (ordered arity) (chain_two TIMES t l r whole) ∙ ap (λ n. ordered n (chain TIMES l ++ r ∷ [])) e ∙ ordered_last (arity - 1) (chain TIMES l) r

  pub order_more : (xs zs : List Written) (x : Written) → Some xs ≡ said_in_order (arity - 1) l → placed_at (arity - 1) (out-Term r) ≡ Some x → zs ≡ xs ++ x ∷ [] → Some zs ≡ said_in_order arity t
  order_more xs zs x e f h = ap Some h ∙ sym (order_two ∙ ap (λ o. behind_all o (placed_at (arity - 1) (out-Term r))) (sym e) ∙ ap (behind_all (Some xs)) f)

  pub order_none_left : None ≡ said_in_order (arity - 1) l → None ≡ said_in_order arity t
  order_none_left e = sym (order_two ∙ ap (λ o. behind_all o (placed_at (arity - 1) (out-Term r))) (sym e))

  none_last : (o : Option (List Written)) → behind_all o None ≡ None
  none_last None = refl
  none_last (Some xs) = refl

  pub order_none_right : placed_at (arity - 1) (out-Term r) ≡ None → None ≡ said_in_order arity t
  order_none_right e = sym (order_two ∙ ap (behind_all (said_in_order (arity - 1) l)) e ∙ none_last (said_in_order (arity - 1) l))

-- a chain has an item
chain_some : (name : ℕ) (t : Term) → 1 ≤ length (chain name t)
chain_some name t = by (pair_of name (out-Term t)) refl
  where
    by : (o : Option (Term × Term)) → pair_of name (out-Term t) ≡ o → 1 ≤ length (chain name t)
    by None e = let h : length (chain name t) ≡ 1 = ap length (chain_alone name t e) in omega (arith, h)
    by (Some p) e = let h : length (chain name t) ≡ length (chain name p.0) + 1 = ap length (chain_two name t p.0 p.1 (pair_is name t p e)) ∙ length-append (chain name p.0) (p.1 ∷ []) in omega (arith, h)

pub none_for_none : (arity : ℕ) (t : Term) → arity ≡ 0 → None ≡ said_in_order arity t
none_for_none arity t z = by (length (chain TIMES t) == arity) refl
  where
    by : (b : Bool) → (length (chain TIMES t) == arity) ≡ b → None ≡ cond b (all_placed 0 (chain TIMES t)) None
    by false e = refl
    by true e = let some : 1 ≤ length (chain TIMES t) = chain_some TIMES t in let no : ⊥ = grind (arith, nat_tests, e, some, z) in absurd no

-- one term alone
module _ (t : Term) (alone : pair_of TIMES (out-Term t) ≡ None) where
  pub order_other : (arity : ℕ) → (arity ≡ 1 → ⊥) → None ≡ said_in_order arity t
  order_other arity n = by (length (chain TIMES t) == arity) refl
    where
      by : (b : Bool) → (length (chain TIMES t) == arity) ≡ b → None ≡ cond b (all_placed 0 (chain TIMES t)) None
      by false e = refl
      by true e = let one : length (chain TIMES t) ≡ 1 = ap length (chain_alone TIMES t alone) in let same : arity ≡ 1 = grind (arith, nat_tests, e, one) in absurd (n same)

  one_is : said_in_order 1 t ≡ before_all (placed_at 0 (out-Term t)) (Some [])
  one_is = ap (ordered 1) (chain_alone TIMES t alone)

  pub order_one : (arity : ℕ) (x : Written) (xs : List Written) → arity ≡ 1 → placed_at 0 (out-Term t) ≡ Some x → xs ≡ x ∷ [] → Some xs ≡ said_in_order arity t
  order_one arity x xs e f g = ap Some g ∙ sym (ap (λ n. said_in_order n t) e ∙ one_is ∙ ap (λ o. before_all o (Some [])) f)

  pub order_one_none : (arity : ℕ) → arity ≡ 1 → placed_at 0 (out-Term t) ≡ None → None ≡ said_in_order arity t
  order_one_none arity e f = sym (ap (λ n. said_in_order n t) e ∙ one_is ∙ ap (λ o. before_all o (Some [])) f)
