-- The terms that an operator joins, by the outermost of a term.
use Rattle.std.proofs.Common.{◌≡◌, ℕ, ◌==◌, Bool, true, false, List, [], ◌∷◌, ◌++◌, map, refl, ap, sym, ◌∙◌, subst, arith}
use Rattle.std.specs.Prelude.{cond, Option, Some, None}
use Rattle.std.specs.List.{AllByRecursion}
use Rattle.std.proofs.lemmas.Bool.{eq-eqb}
use Rattle.std.proofs.lemmas.Bool.Decides.{nat_tests}
use Rattle.term_core.specs.declared.terms.Term.{Term, out-Term, roll-Term, roll-out-Term}
use Rattle.term_core.specs.declared.terms.Term as term
use Rattle.term_core.specs.declared.terms.Term.TheOpen as layer
use Rattle.term_core.specs.declared.terms.Term.TheVariants.{rolls-Var, rolls-Int, rolls-Atom, rolls-Node, outs-Node}
use Rattle.term_core.specs.declared.terms.Term.TheFolds.{fold-Term}
use Rattle.term_core.specs.declared.fixed.TheConstants.{COMMA}
use Rattle.term_core.specs.Shapes.{single_of, pair_of, split_by, split, with_mark}
use Rattle.term_core.proofs.TermFolds.{fold-Var, fold-Int, fold-Atom, fold-Node, ind_terms}
use Rattle.term_core.specs.Operands.{Joined, alone, compound_joined, joined_step, on_both_sides, on_the_left, conjuncts, chain, before_all, all_said, joined_said}

module _ (join : Joined → Joined → List Term) (name : ℕ) where
  abbrev joins : Term → Joined
  joins = fold-Term Joined (joined_step join name)

  whole_of : (f : ℕ) (parts : List Joined) → (compound_joined join name f parts).whole ≡ term.Node f (map (λ p. p.whole) parts)
  whole_of f [] = refl
  whole_of f (a ∷ []) = refl
  whole_of f (a ∷ b ∷ []) = either (f == name)
    where
      either : (t : Bool) → (cond t (record { whole = term.Node f (a.whole ∷ b.whole ∷ []); items = join a b }) (alone (term.Node f (a.whole ∷ b.whole ∷ [])))).whole ≡ term.Node f (a.whole ∷ b.whole ∷ [])
      either true = refl
      either false = refl
  whole_of f (a ∷ b ∷ c ∷ rest) = refl

  wholes : (ts : List Term) → AllByRecursion (λ t. (joins t).whole ≡ t) ts → map (λ p. p.whole) (map joins ts) ≡ ts
  wholes [] h = refl
  wholes (t ∷ ts) h = ap (λ u. u ∷ map (λ p. p.whole) (map joins ts)) h.0 ∙ ap (λ us. t ∷ us) (wholes ts h.1)

  -- what is joined is the term
  pub whole_is : (t : Term) → (joins t).whole ≡ t
  whole_is = ind_terms (λ t. (joins t).whole ≡ t)
      (λ v. ap (λ p. p.whole) (fold-Var Joined (joined_step join name) v))
      (λ n. ap (λ p. p.whole) (fold-Int Joined (joined_step join name) n))
      (λ a. ap (λ p. p.whole) (fold-Atom Joined (joined_step join name) a))
      (λ f ts h. ap (λ p. p.whole) (fold-Node Joined (joined_step join name) f ts) ∙ whole_of f (map joins ts) ∙ ap (term.Node f) (wholes ts h))

  -- a term that is no compound of the name with two parts is the one item
  some_none : {A : Type 0} (x : A) → ◌≡◌ {A = Option A} (Some x) None → ⊥
  some_none x e = cc

  two_alone : (f : ℕ) (a b : Joined) (p : Term × Term) (t : Bool) → t ≡ (f == name) → ◌≡◌ {A = Option (Term × Term)} (cond t (Some p) None) None →
      (compound_joined join name f (a ∷ b ∷ [])).items ≡ term.Node f (a.whole ∷ b.whole ∷ []) ∷ []
  two_alone f a b p true e n = absurd (some_none p n)
  two_alone f a b p false e n = ap (λ s. (cond s (record { whole = term.Node f (a.whole ∷ b.whole ∷ []); items = join a b }) (alone (term.Node f (a.whole ∷ b.whole ∷ [])))).items) (sym e)

  alone_at : (f : ℕ) (ts : List Term) → pair_of name (layer.Node f ts) ≡ None → (compound_joined join name f (map joins ts)).items ≡ term.Node f ts ∷ []
  alone_at f [] n = refl
  alone_at f (a ∷ []) n = ap (λ u. term.Node f (u ∷ []) ∷ []) (whole_is a)
  alone_at f (a ∷ b ∷ []) n =
      two_alone f (joins a) (joins b) (a, b) (f == name) refl n
      ∙ ap (λ u. term.Node f (u ∷ (joins b).whole ∷ []) ∷ []) (whole_is a) ∙ ap (λ u. term.Node f (a ∷ u ∷ []) ∷ []) (whole_is b)
  alone_at f (a ∷ b ∷ c ∷ rest) n =
      ap (λ us. term.Node f us ∷ []) (all_whole (a ∷ b ∷ c ∷ rest))
    where
      all_whole : (ts : List Term) → map (λ p. p.whole) (map joins ts) ≡ ts
      all_whole [] = refl
      all_whole (t ∷ ts) = ap (λ u. u ∷ map (λ p. p.whole) (map joins ts)) (whole_is t) ∙ ap (λ us. t ∷ us) (all_whole ts)

  alone_by : (x : layer.Term-F Term) (t : Term) → roll-Term x ≡ t → pair_of name x ≡ None → (joins t).items ≡ t ∷ []
  alone_by (layer.Var v) t e n = subst (λ u. (joins u).items ≡ u ∷ []) (sym (rolls-Var v) ∙ e) (ap (λ p. p.items) (fold-Var Joined (joined_step join name) v))
  alone_by (layer.Int k) t e n = subst (λ u. (joins u).items ≡ u ∷ []) (sym (rolls-Int k) ∙ e) (ap (λ p. p.items) (fold-Int Joined (joined_step join name) k))
  alone_by (layer.Atom a) t e n = subst (λ u. (joins u).items ≡ u ∷ []) (sym (rolls-Atom a) ∙ e) (ap (λ p. p.items) (fold-Atom Joined (joined_step join name) a))
  alone_by (layer.Node f ts) t e n =
      subst (λ u. (joins u).items ≡ u ∷ []) (sym (rolls-Node f ts) ∙ e) (ap (λ p. p.items) (fold-Node Joined (joined_step join name) f ts) ∙ alone_at f ts n)

  pub joined_alone : (t : Term) → pair_of name (out-Term t) ≡ None → (joins t).items ≡ t ∷ []
  joined_alone t n = alone_by (out-Term t) t (roll-out-Term t) n

  -- a compound of the name joins its parts
  pub joined_two : (t l r : Term) → t ≡ term.Node name (l ∷ r ∷ []) → (joins t).items ≡ join (joins l) (joins r)
  joined_two t l r e =
      ap (λ u. (joins u).items) e ∙ ap (λ p. p.items) (fold-Node Joined (joined_step join name) name (l ∷ r ∷ []))
      ∙ ap (λ b. (cond b (record { whole = term.Node name ((joins l).whole ∷ (joins r).whole ∷ []); items = join (joins l) (joins r) }) (alone (term.Node name ((joins l).whole ∷ (joins r).whole ∷ [])))).items) (eq-eqb name name refl)

-- conjunctions

pub conjuncts_alone : (t : Term) → pair_of COMMA (out-Term t) ≡ None → conjuncts t ≡ t ∷ []
conjuncts_alone t n = joined_alone on_both_sides COMMA t n

pub conjuncts_two : (t l r : Term) → t ≡ term.Node COMMA (l ∷ r ∷ []) → conjuncts t ≡ conjuncts l ++ conjuncts r
conjuncts_two t l r e = joined_two on_both_sides COMMA t l r e

-- chains to the left

pub chain_alone : (name : ℕ) (t : Term) → pair_of name (out-Term t) ≡ None → chain name t ≡ t ∷ []
chain_alone name t n = joined_alone on_the_left name t n

pub chain_two : (name : ℕ) (t l r : Term) → t ≡ term.Node name (l ∷ r ∷ []) → chain name t ≡ chain name l ++ r ∷ []
chain_two name t l r e = joined_two on_the_left name t l r e ∙ ap (λ u. chain name l ++ u ∷ []) (whole_is on_the_left name r)

-- what terms say

module _ {A : Type 0} (says : Term → Option A) where
  some_same : (xs ys : List A) → ◌≡◌ {A = Option (List A)} (Some xs) (Some ys) → xs ≡ ys
  some_same xs ys e = cc

  some_no_list : (xs : List A) → ◌≡◌ {A = Option (List A)} (Some xs) None → ⊥
  some_no_list xs e = cc

  pub said_append : (ts us : List Term) (xs ys : List A) → all_said says ts ≡ Some xs → all_said says us ≡ Some ys → all_said says (ts ++ us) ≡ Some (xs ++ ys)
  said_append [] us xs ys e f = f ∙ ap (λ zs. Some (zs ++ ys)) (some_same [] xs e)
  said_append (t ∷ ts) us xs ys e f = by (says t) (all_said says ts) (λ ws i. said_append ts us ws ys i f) refl e
    where
      by : (o : Option A) (os : Option (List A)) → ((ws : List A) → all_said says ts ≡ Some ws → all_said says (ts ++ us) ≡ Some (ws ++ ys)) → all_said says ts ≡ os →
          before_all o os ≡ Some xs → before_all o (all_said says (ts ++ us)) ≡ Some (xs ++ ys)
      by None os rest i e = absurd (some_no_list xs (sym e))
      by (Some x) None rest i e = absurd (some_no_list xs (sym e))
      by (Some x) (Some ws) rest i e = ap (before_all (Some x)) (rest ws i) ∙ ap (λ vs. Some (vs ++ ys)) (some_same (x ∷ ws) xs e)

  pub said_none_left : (ts us : List Term) → all_said says ts ≡ None → all_said says (ts ++ us) ≡ None
  said_none_left [] us e = absurd (some_no_list [] e)
  said_none_left (t ∷ ts) us e = by (says t) (all_said says ts) (said_none_left ts us) refl e
    where
      by : (o : Option A) (os : Option (List A)) → (all_said says ts ≡ None → all_said says (ts ++ us) ≡ None) → all_said says ts ≡ os → before_all o os ≡ None → before_all o (all_said says (ts ++ us)) ≡ None
      by None os rest i e = refl
      by (Some x) None rest i e = ap (before_all (Some x)) (rest i)
      by (Some x) (Some ws) rest i e = absurd (some_no_list (x ∷ ws) e)

  pub said_none_right : (ts us : List Term) → all_said says us ≡ None → all_said says (ts ++ us) ≡ None
  said_none_right [] us e = e
  said_none_right (t ∷ ts) us e = ap (before_all (says t)) (said_none_right ts us e) ∙ none_last (says t)
    where
      none_last : (o : Option A) → before_all o None ≡ None
      none_last None = refl
      none_last (Some x) = refl

-- a term that is no conjunction says what it says
module _ {A : Type 0} (says : layer.Term-F Term → Option A) (t : Term) where
  pub alone_says : (x : A) (xs : List A) → pair_of COMMA (out-Term t) ≡ None → says (out-Term t) ≡ Some x → xs ≡ x ∷ [] → Some xs ≡ joined_said says t
  alone_says x xs n e p = ap Some p ∙ sym (ap (all_said (λ u. says (out-Term u))) (conjuncts_alone t n) ∙ ap (λ o. before_all o (Some [])) e)

  pub alone_says_none : pair_of COMMA (out-Term t) ≡ None → says (out-Term t) ≡ None → None ≡ joined_said says t
  alone_says_none n e = sym (ap (all_said (λ u. says (out-Term u))) (conjuncts_alone t n) ∙ ap (λ o. before_all o (Some [])) e)

  -- a conjunction says what both sides say
  pub both_say : (l r : Term) (xs ys zs : List A) → t ≡ term.Node COMMA (l ∷ r ∷ []) → Some xs ≡ joined_said says l → Some ys ≡ joined_said says r → zs ≡ xs ++ ys → Some zs ≡ joined_said says t
  both_say l r xs ys zs e f g p =
      ap Some p ∙ sym (said_append (λ u. says (out-Term u)) (conjuncts l) (conjuncts r) xs ys (sym f) (sym g)) ∙ ap (all_said (λ u. says (out-Term u))) (sym (conjuncts_two t l r e))

  pub left_says_none : (l r : Term) → t ≡ term.Node COMMA (l ∷ r ∷ []) → None ≡ joined_said says l → None ≡ joined_said says t
  left_says_none l r e f = sym (ap (all_said (λ u. says (out-Term u))) (conjuncts_two t l r e) ∙ said_none_left (λ u. says (out-Term u)) (conjuncts l) (conjuncts r) (sym f))

  pub right_says_none : (l r : Term) → t ≡ term.Node COMMA (l ∷ r ∷ []) → None ≡ joined_said says r → None ≡ joined_said says t
  right_says_none l r e f = sym (ap (all_said (λ u. says (out-Term u))) (conjuncts_two t l r e) ∙ said_none_right (λ u. says (out-Term u)) (conjuncts l) (conjuncts r) (sym f))

-- what a term is, by its outermost

pub some_part : {A : Type 0} (x y : A) → ◌≡◌ {A = Option A} (Some x) (Some y) → x ≡ y
some_part x y e = cc

pub none_part : {A : Type 0} (x : A) → ◌≡◌ {A = Option A} None (Some x) → ⊥
none_part x e = cc

pub eqb-eq : (a b : ℕ) → (a == b) ≡ true → a ≡ b
eqb-eq a b e = grind (arith, nat_tests)

one_if : {A : Type 0} (f g : ℕ) (t : Bool) (x y : A) → t ≡ (f == g) → ◌≡◌ {A = Option A} (cond t (Some x) None) (Some y) → (f ≡ g) × (x ≡ y)
one_if f g true x y e h = (eqb-eq f g (sym e), some_part x y h)
one_if f g false x y e h = absurd (none_part y h)

single_by : (name : ℕ) (x : layer.Term-F Term) (t inner : Term) → roll-Term x ≡ t → single_of name x ≡ Some inner → t ≡ term.Node name (inner ∷ [])
single_by name (layer.Var v) t inner e h = absurd (none_part inner h)
single_by name (layer.Int v) t inner e h = absurd (none_part inner h)
single_by name (layer.Atom v) t inner e h = absurd (none_part inner h)
single_by name (layer.Node f []) t inner e h = absurd (none_part inner h)
single_by name (layer.Node f (a ∷ [])) t inner e h =
    let s = one_if f name (f == name) a inner refl h in sym e ∙ rolls-Node f (a ∷ []) ∙ ap (λ g. term.Node g (a ∷ [])) s.0 ∙ ap (λ u. term.Node name (u ∷ [])) s.1
single_by name (layer.Node f (a ∷ b ∷ rest)) t inner e h = absurd (none_part inner h)

pub single_is : (name : ℕ) (t inner : Term) → single_of name (out-Term t) ≡ Some inner → t ≡ term.Node name (inner ∷ [])
single_is name t inner h = single_by name (out-Term t) t inner (roll-out-Term t) h

pub of_single : (name : ℕ) (t inner : Term) → t ≡ term.Node name (inner ∷ []) → single_of name (out-Term t) ≡ Some inner
of_single name t inner e = ap (λ u. single_of name (out-Term u)) e ∙ ap (single_of name) (outs-Node name (inner ∷ [])) ∙ ap (λ b. cond b (Some inner) None) (eq-eqb name name refl)

pair_by : (name : ℕ) (x : layer.Term-F Term) (t : Term) (p : Term × Term) → roll-Term x ≡ t → pair_of name x ≡ Some p → t ≡ term.Node name (p.0 ∷ p.1 ∷ [])
pair_by name (layer.Var v) t p e h = absurd (none_part p h)
pair_by name (layer.Int v) t p e h = absurd (none_part p h)
pair_by name (layer.Atom v) t p e h = absurd (none_part p h)
pair_by name (layer.Node f []) t p e h = absurd (none_part p h)
pair_by name (layer.Node f (a ∷ [])) t p e h = absurd (none_part p h)
pair_by name (layer.Node f (a ∷ b ∷ [])) t p e h =
    let s = one_if f name (f == name) (a, b) p refl h in sym e ∙ rolls-Node f (a ∷ b ∷ []) ∙ ap (λ g. term.Node g (a ∷ b ∷ [])) s.0 ∙ ap (λ q. term.Node name (q.0 ∷ q.1 ∷ [])) s.1
pair_by name (layer.Node f (a ∷ b ∷ c ∷ rest)) t p e h = absurd (none_part p h)

pub pair_is : (name : ℕ) (t : Term) (p : Term × Term) → pair_of name (out-Term t) ≡ Some p → t ≡ term.Node name (p.0 ∷ p.1 ∷ [])
pair_is name t p h = pair_by name (out-Term t) t p (roll-out-Term t) h

pub of_pair : (name : ℕ) (t l r : Term) → t ≡ term.Node name (l ∷ r ∷ []) → pair_of name (out-Term t) ≡ Some (l, r)
of_pair name t l r e = ap (λ u. pair_of name (out-Term u)) e ∙ ap (pair_of name) (outs-Node name (l ∷ r ∷ [])) ∙ ap (λ b. cond b (Some (l, r)) None) (eq-eqb name name refl)

-- a compound of one name is no pair of another
pub no_pair_of : (name f : ℕ) (t l r : Term) → (f == name) ≡ false → t ≡ term.Node f (l ∷ r ∷ []) → pair_of name (out-Term t) ≡ None
no_pair_of name f t l r n e = ap (λ u. pair_of name (out-Term u)) e ∙ ap (pair_of name) (outs-Node f (l ∷ r ∷ [])) ∙ ap (λ b. cond b (Some (l, r)) None) n

-- what is split is written again

pub unsplit : (mark : ℕ) (t : Term) → with_mark mark (split mark t).0 (split mark t).1 ≡ t
unsplit mark t = by (pair_of mark (out-Term t)) refl
  where
    by : (o : Option (Term × Term)) → pair_of mark (out-Term t) ≡ o → with_mark mark (split_by t o).0 (split_by t o).1 ≡ t
    by None e = refl
    by (Some p) e = sym (pair_is mark t p e)

pub split_none : (mark : ℕ) (t : Term) → pair_of mark (out-Term t) ≡ None → split mark t ≡ (t, None)
split_none mark t e = ap (split_by t) e

pub split_some : (mark : ℕ) (t l r : Term) → t ≡ term.Node mark (l ∷ r ∷ []) → split mark t ≡ (l, Some r)
split_some mark t l r e = ap (split_by t) (of_pair mark t l r e)
