-- What is read of a sentence in range is in range.
use Rattle.std.proofs.Common.{◌≡◌, ◌<◌, ℕ, suc, ◌+◌, ◌==◌, nat_lt, Bool, true, false, List, [], ◌∷◌, ◌++◌, map, length, refl, ap, sym, ◌∙◌, subst, arith}
use Rattle.std.specs.Prelude.{cond, pos, negsuc, Option, Some, None, option_map, option_and_then}
use Rattle.std.specs.List.{list_all, AllByRecursion, position_or_len}
use Rattle.std.proofs.lemmas.Bool.{and_parts}
use Rattle.std.proofs.lemmas.Bool.Decides.{nat_tests}
use Rattle.term_core.specs.declared.fixed.TheConstants.{NECK, PLUS, COLON, HASH, IMPLIES, COMMA, TIMES, SLASH, LIST, TRUE}
use Rattle.term_core.specs.declared.terms.Term.{Term, out-Term, roll-Term, roll-out-Term}
use Rattle.term_core.specs.declared.terms.Term as term
use Rattle.term_core.specs.declared.terms.Term.TheOpen as layer
use Rattle.term_core.specs.declared.terms.Term.TheVariants.{outs-Node, rolls-Atom, rolls-Node}
use Rattle.term_core.specs.declared.terms.Term.TheFolds.{fold-Term}
use Rattle.term_core.specs.Ranges.{has_names_step, has_names}
use Rattle.term_core.specs.Shapes.{pair_of, with_mark, atom_at, parts_of}
use Rattle.term_core.specs.Terms.{is_atom_of}
use Rattle.term_core.proofs.TermFolds.{fold-Atom, fold-Node, fold-Var, fold-Int, ind_terms}
use Rattle.ciao_reader.specs.declared.sentences.Sentence.{Sentence}
use Rattle.term_core.specs.Operands.{Joined, joined_step, on_both_sides, on_the_left, conjuncts, chain, before_all, all_said, joined_said}
use Rattle.term_core.proofs.OperandLaws.{joined_alone, joined_two, whole_is, none_part, some_part, eqb-eq}
use Rattle.assertion_read.specs.declared.heads.Head.{Head}
use Rattle.assertion_read.specs.declared.assertions.Mark.{Mark}
use Rattle.assertion_read.specs.declared.assertions.Written.{Written}
use Rattle.assertion_read.specs.declared.assertions.Assertion.{Assertion}
use Rattle.assertion_read.specs.Words.{word_name, mark_name}
use Rattle.assertion_read.specs.Heads.{is_same_variable, are_distinct_variables, argument_of, is_field, naming, number_form, by_number_at, head_at}
use Rattle.assertion_read.specs.Properties.{plain, listed, property_at, placed_at, all_placed, said_of_variables, said_in_order, said}
use Rattle.assertion_read.specs.Readings.{pre_said, post_said, comp_said}
use Rattle.assertion_read.specs.Ranges.{IsPropertyInRange, IsAssertionInRange, StaysInRange}
use Rattle.assertion_read.specs.Written.{with_fields, with_status, IsAssertion}

less : (a b : ℕ) → nat_lt a b ≡ true → a < b
less a b e = grind (arith, nat_tests, e)

-- a place that was found is one of the list
found_below : {A : Type 0} (p : A → Bool) (xs : List A) (i : ℕ) → cond (nat_lt (position_or_len p xs) (length xs)) (Some (position_or_len p xs)) None ≡ Some i → i < length xs
found_below p xs i e = by (nat_lt (position_or_len p xs) (length xs)) refl e
  where
    by : (b : Bool) → nat_lt (position_or_len p xs) (length xs) ≡ b → cond b (Some (position_or_len p xs)) None ≡ Some i → i < length xs
    by true h e = subst (λ k. k < length xs) (some_part (position_or_len p xs) i e) (less (position_or_len p xs) (length xs) h)
    by false h e = absurd (none_part i e)

-- what each of some terms says has a property that holds of what one says
module _ {A : Type 0} (P : Term → Type 0) (Q : A → Type 0) (says : Term → Option A) (holds : (t : Term) (x : A) → P t → says t ≡ Some x → Q x) where
  all_hold : (ts : List Term) (xs : List A) → AllByRecursion P ts → all_said says ts ≡ Some xs → AllByRecursion Q xs
  all_hold [] xs h e = subst (AllByRecursion Q) (some_part [] xs e) tt
  all_hold (t ∷ ts) xs h e = by (says t) (all_said says ts) refl (λ ys i. all_hold ts ys h.1 i) refl e
    where
      by : (o : Option A) (os : Option (List A)) → says t ≡ o → ((ys : List A) → all_said says ts ≡ Some ys → AllByRecursion Q ys) → all_said says ts ≡ os → before_all o os ≡ Some xs → AllByRecursion Q xs
      by None os i rest j e = absurd (none_part xs e)
      by (Some x) None i rest j e = absurd (none_part xs e)
      by (Some x) (Some ys) i rest j e = subst (AllByRecursion Q) (some_part (x ∷ ys) xs e) (holds t x h.0 i, rest ys j)

module _ (n : ℕ) where
  -- the names of a term are below n
  abbrev IsNamed : Term → Type 0
  IsNamed t = has_names n t ≡ true

  abbrev AreNamed : List Term → Type 0
  AreNamed ts = AllByRecursion IsNamed ts

  named_of : (ts : List Term) → list_all (λ b. b) (map (has_names n) ts) ≡ true → AreNamed ts
  named_of [] e = tt
  named_of (t ∷ ts) e = let both = and_parts (has_names n t) _ e in (both.0, named_of ts both.1)

  record NodeNamed (f : ℕ) (ts : List Term) : Type 0 where
    name : f < n
    parts : AreNamed ts

  node_named : (f : ℕ) (ts : List Term) → IsNamed (term.Node f ts) → NodeNamed f ts
  node_named f ts e =
      let whole = sym (fold-Node Bool (has_names_step n) f ts) ∙ e in
      let first = and_parts (nat_lt f n) _ whole in
      record { name = less f n first.0; parts = named_of ts (and_parts _ _ first.1).1 }

  node_at : (t : Term) (f : ℕ) (ts : List Term) → t ≡ term.Node f ts → IsNamed t → NodeNamed f ts
  node_at t f ts e h = node_named f ts (subst IsNamed e h)

  node_by : (t : Term) (f : ℕ) (ts : List Term) → roll-Term (layer.Node f ts) ≡ t → IsNamed t → NodeNamed f ts
  node_by t f ts e h = node_at t f ts (sym e ∙ rolls-Node f ts) h

  atom_by : (t : Term) (a : ℕ) → roll-Term (layer.Atom a) ≡ t → IsNamed t → a < n
  atom_by t a e h = less a n (sym (fold-Atom Bool (has_names_step n) a) ∙ ap (has_names n) (sym (rolls-Atom a) ∙ e) ∙ h)

  all_append : (xs ys : List Term) → AreNamed xs → AreNamed ys → AreNamed (xs ++ ys)
  all_append [] ys h k = k
  all_append (x ∷ xs) ys h k = (h.0, all_append xs ys h.1 k)

  -- what an operator joins is named
  module _ (join : Joined → Joined → List Term) (name : ℕ)
      (joined : (l r : Joined) → AreNamed l.items → AreNamed r.items → IsNamed r.whole → AreNamed (join l r)) where
    abbrev joins : Term → Joined
    joins = fold-Term Joined (joined_step join name)

    alone_named : (t : Term) → pair_of name (out-Term t) ≡ None → IsNamed t → AreNamed (joins t).items
    alone_named t e h = subst AreNamed (sym (joined_alone join name t e)) (h, tt)

    node_items : (f : ℕ) (ts : List Term) → AllByRecursion (λ t. IsNamed t → AreNamed (joins t).items) ts → IsNamed (term.Node f ts) → AreNamed (joins (term.Node f ts)).items
    node_items f [] ih h = alone_named _ (ap (pair_of name) (outs-Node f [])) h
    node_items f (a ∷ []) ih h = alone_named _ (ap (pair_of name) (outs-Node f (a ∷ []))) h
    node_items f (a ∷ b ∷ c ∷ rest) ih h = alone_named _ (ap (pair_of name) (outs-Node f (a ∷ b ∷ c ∷ rest))) h
    node_items f (a ∷ b ∷ []) ih h = by (f == name) refl
      where
        by : (q : Bool) → (f == name) ≡ q → AreNamed (joins (term.Node f (a ∷ b ∷ []))).items
        by false e = alone_named _ (ap (pair_of name) (outs-Node f (a ∷ b ∷ [])) ∙ ap (λ q. cond q (Some (a, b)) None) e) h
        by true e =
            let parts = (node_named f (a ∷ b ∷ []) h).parts in
            subst AreNamed (sym (joined_two join name _ a b (ap (λ g. term.Node g (a ∷ b ∷ [])) (eqb-eq f name e))))
            (joined (joins a) (joins b) (ih.0 parts.0) (ih.1.0 parts.1.0) (subst IsNamed (sym (whole_is join name b)) parts.1.0))

    items_named : (t : Term) → IsNamed t → AreNamed (joins t).items
    items_named = ind_terms (λ t. IsNamed t → AreNamed (joins t).items)
        (λ v h. subst AreNamed (sym (ap (λ j. j.items) (fold-Var Joined (joined_step join name) v))) (h, tt))
        (λ i h. subst AreNamed (sym (ap (λ j. j.items) (fold-Int Joined (joined_step join name) i))) (h, tt))
        (λ a h. subst AreNamed (sym (ap (λ j. j.items) (fold-Atom Joined (joined_step join name) a))) (h, tt))
        node_items

  conjuncts_named : (t : Term) → IsNamed t → AreNamed (conjuncts t)
  conjuncts_named = items_named on_both_sides COMMA (λ l r h k w. all_append l.items r.items h k)

  chain_named : (t : Term) → IsNamed t → AreNamed (chain TIMES t)
  chain_named = items_named on_the_left TIMES (λ l r h k w. all_append l.items (r.whole ∷ []) h (w, tt))

  -- properties

  plain_range : (arity name at : ℕ) → name < n → at < arity → IsPropertyInRange n arity (plain name at)
  plain_range arity name at p q = record { property = p; argument = q; element = λ e i. absurd (none_part e i) }

  listed_range : (arity at : ℕ) (t : Term) (w : Written) → LIST < n → at < arity → IsNamed t → listed (out-Term t) at ≡ Some w → IsPropertyInRange n arity w
  listed_range arity at t w p q h e = by (out-Term t) (roll-out-Term t) e
    where
      by : (x : layer.Term-F Term) → roll-Term x ≡ t → listed x at ≡ Some w → IsPropertyInRange n arity w
      by (layer.Var v) r e = absurd (none_part w e)
      by (layer.Int v) r e = absurd (none_part w e)
      by (layer.Node f ts) r e = absurd (none_part w e)
      by (layer.Atom a) r e = subst (IsPropertyInRange n arity) (some_part _ w e)
          (record { property = p; argument = q; element = λ b i. subst (λ k. k < n) (some_part a b i) (atom_by t a r h) })

  property_range : (arguments : List Term) (t : Term) (w : Written) → IsNamed t → property_at arguments (out-Term t) ≡ Some w → IsPropertyInRange n (length arguments) w
  property_range arguments t w h e = by (out-Term t) (roll-out-Term t) e
    where
      place : (v : Term) (i : ℕ) → argument_of arguments v ≡ Some i → i < length arguments
      place v i e = found_below (λ u. is_same_variable (out-Term v) (out-Term u)) arguments i e

      one : (f : ℕ) (v : Term) (o : Option ℕ) → argument_of arguments v ≡ o → f < n → option_map (plain f) o ≡ Some w → IsPropertyInRange n (length arguments) w
      one f v None i p e = absurd (none_part w e)
      one f v (Some at) i p e = subst (IsPropertyInRange n (length arguments)) (some_part (plain f at) w e) (plain_range (length arguments) f at p (place v at i))

      two : (v u : Term) (o : Option ℕ) → argument_of arguments v ≡ o → LIST < n → IsNamed u → option_and_then (listed (out-Term u)) o ≡ Some w → IsPropertyInRange n (length arguments) w
      two v u None i p k e = absurd (none_part w e)
      two v u (Some at) i p k e = listed_range (length arguments) at u w p (place v at i) k e

      pair : (f : ℕ) (v u : Term) (b : Bool) → (f == LIST) ≡ b → f < n → IsNamed u → cond b (option_and_then (listed (out-Term u)) (argument_of arguments v)) None ≡ Some w → IsPropertyInRange n (length arguments) w
      pair f v u false i p k e = absurd (none_part w e)
      pair f v u true i p k e = two v u (argument_of arguments v) refl (subst (λ g. g < n) (eqb-eq f LIST i) p) k e

      by : (x : layer.Term-F Term) → roll-Term x ≡ t → property_at arguments x ≡ Some w → IsPropertyInRange n (length arguments) w
      by (layer.Var v) r e = absurd (none_part w e)
      by (layer.Int v) r e = absurd (none_part w e)
      by (layer.Atom v) r e = absurd (none_part w e)
      by (layer.Node f []) r e = absurd (none_part w e)
      by (layer.Node f (v ∷ [])) r e = one f v (argument_of arguments v) refl (node_by t f (v ∷ []) r h).name e
      by (layer.Node f (v ∷ u ∷ [])) r e = pair f v u (f == LIST) refl (node_by t f (v ∷ u ∷ []) r h).name (node_by t f (v ∷ u ∷ []) r h).parts.1.0 e
      by (layer.Node f (v ∷ u ∷ q ∷ rest)) r e = absurd (none_part w e)

  placed_range : (arity at : ℕ) (t : Term) (w : Written) → at < arity → IsNamed t → placed_at at (out-Term t) ≡ Some w → IsPropertyInRange n arity w
  placed_range arity at t w q h e = by (out-Term t) (roll-out-Term t) e
    where
      list_of_one : (f : ℕ) (u : Term) (b : Bool) → (f == LIST) ≡ b → f < n → IsNamed u → cond b (listed (out-Term u) at) None ≡ Some w → IsPropertyInRange n arity w
      list_of_one f u false i p k e = absurd (none_part w e)
      list_of_one f u true i p k e = listed_range arity at u w (subst (λ g. g < n) (eqb-eq f LIST i) p) q k e

      by : (x : layer.Term-F Term) → roll-Term x ≡ t → placed_at at x ≡ Some w → IsPropertyInRange n arity w
      by (layer.Var v) r e = absurd (none_part w e)
      by (layer.Int v) r e = absurd (none_part w e)
      by (layer.Atom a) r e = subst (IsPropertyInRange n arity) (some_part (plain a at) w e) (plain_range arity a at (atom_by t a r h) q)
      by (layer.Node f []) r e = absurd (none_part w e)
      by (layer.Node f (u ∷ [])) r e = list_of_one f u (f == LIST) refl (node_by t f (u ∷ []) r h).name (node_by t f (u ∷ []) r h).parts.0 e
      by (layer.Node f (v ∷ u ∷ rest)) r e = absurd (none_part w e)

  all_placed_range : (arity at : ℕ) (ts : List Term) (ws : List Written) → length ts + at ≡ arity → AreNamed ts → all_placed at ts ≡ Some ws → AllByRecursion (IsPropertyInRange n arity) ws
  all_placed_range arity at [] ws q h e = subst (AllByRecursion (IsPropertyInRange n arity)) (some_part [] ws e) tt
  all_placed_range arity at (t ∷ ts) ws q h e = by (placed_at at (out-Term t)) (all_placed (suc at) ts) refl (λ ys i. all_placed_range arity (suc at) ts ys (omega (arith, q)) h.1 i) refl e
    where
      by : (o : Option Written) (os : Option (List Written)) → placed_at at (out-Term t) ≡ o → ((ys : List Written) → all_placed (suc at) ts ≡ Some ys → AllByRecursion (IsPropertyInRange n arity) ys) → all_placed (suc at) ts ≡ os
          → before_all o os ≡ Some ws → AllByRecursion (IsPropertyInRange n arity) ws
      by None os i rest j e = absurd (none_part ws e)
      by (Some x) None i rest j e = absurd (none_part ws e)
      by (Some x) (Some ys) i rest j e =
          let here : at < arity = omega (arith, q) in
          subst (AllByRecursion (IsPropertyInRange n arity)) (some_part (x ∷ ys) ws e) (placed_range arity at t x here h.0 i, rest ys j)

  -- fields

  module _ (about : Head) (arguments : List Term) (is_form : about.by_number ≡ false → about.arity ≡ length arguments) where
    abbrev AreProperties : List Written → Type 0
    AreProperties ws = AllByRecursion (IsPropertyInRange n about.arity) ws

    said_range : (t : Term) (ws : List Written) → IsNamed t → said about arguments t ≡ Some ws → AreProperties ws
    said_range t ws h e = by about.by_number refl e
      where
        in_order : (b : Bool) → (length (chain TIMES t) == about.arity) ≡ b → cond b (all_placed 0 (chain TIMES t)) None ≡ Some ws → AreProperties ws
        in_order false i e = absurd (none_part ws e)
        in_order true i e = let same : length (chain TIMES t) ≡ about.arity = eqb-eq (length (chain TIMES t)) about.arity i in all_placed_range about.arity 0 (chain TIMES t) ws (omega (arith, same)) (chain_named t h) e

        of_variables : (b : Bool) → about.arity ≡ length arguments → cond b (Some []) (joined_said (property_at arguments) t) ≡ Some ws → AreProperties ws
        of_variables true i e = subst AreProperties (some_part [] ws e) tt
        of_variables false i e = subst (λ k. AllByRecursion (IsPropertyInRange n k) ws) (sym i)
            (all_hold IsNamed (IsPropertyInRange n (length arguments)) (λ u. property_at arguments (out-Term u)) (λ u w. property_range arguments u w) (conjuncts t) ws (conjuncts_named t h) e)

        by : (b : Bool) → about.by_number ≡ b → cond b (said_in_order about.arity t) (said_of_variables arguments t) ≡ Some ws → AreProperties ws
        by true i e = in_order (length (chain TIMES t) == about.arity) refl e
        by false i e = of_variables (is_atom_of TRUE (out-Term t)) (is_form i) e

    -- a field that is there is named
    abbrev FieldNamed : Option Term → Type 0
    FieldNamed o = (t : Term) → o ≡ Some t → IsNamed t

    pre_range : (o : Option Term) (ws : List Written) → FieldNamed o → pre_said about arguments o ≡ Some ws → AreProperties ws
    pre_range None ws h e = subst AreProperties (some_part [] ws e) tt
    pre_range (Some t) ws h e = said_range t ws (h t refl) e

    post_range : (o : Option Term) (post : Option (List Written)) (ws : List Written) → FieldNamed o → post_said about arguments o ≡ Some post → post ≡ Some ws → AreProperties ws
    post_range None post ws h e i = absurd (none_part ws (some_part None post e ∙ i))
    post_range (Some t) post ws h e i = by (said about arguments t) refl e
      where
        by : (o : Option (List Written)) → said about arguments t ≡ o → option_map (λ ps. Some ps) o ≡ Some post → AreProperties ws
        by None j e = absurd (none_part post e)
        by (Some ps) j e = said_range t ws (h t refl) (j ∙ some_part (Some ps) post e ∙ i)

  comp_range : (o : Option Term) (names : List ℕ) → ((t : Term) → o ≡ Some t → IsNamed t) → comp_said o ≡ Some names → AllByRecursion (λ p. p < n) names
  comp_range None names h e = subst (AllByRecursion (λ p. p < n)) (some_part [] names e) tt
  comp_range (Some t) names h e = all_hold IsNamed (λ p. p < n) (λ u. atom_at (out-Term u)) (λ u a k i. atom_is u a k (out-Term u) (roll-out-Term u) i) (conjuncts t) names (conjuncts_named t (h t refl)) e
    where
      atom_is : (u : Term) (a : ℕ) → IsNamed u → (x : layer.Term-F Term) → roll-Term x ≡ u → atom_at x ≡ Some a → a < n
      atom_is u a k (layer.Var v) r i = absurd (none_part a i)
      atom_is u a k (layer.Int v) r i = absurd (none_part a i)
      atom_is u a k (layer.Node f ts) r i = absurd (none_part a i)
      atom_is u a k (layer.Atom b) r i = subst (λ m. m < n) (some_part b a i) (atom_by u b r k)

  -- the head

  record HeadRange (t : Term) (about : Head) : Type 0 where
    name : about.name < n
    is_form : about.by_number ≡ false → about.arity ≡ length (parts_of (out-Term t))

  head_range : (t : Term) (about : Head) → IsNamed t → head_at (out-Term t) ≡ Some about → HeadRange t about
  head_range t about h e = by (out-Term t) (roll-out-Term t) refl e
    where
      yes_no : true ≡ false → ⊥
      yes_no q = cc

      number : (a u : Term) → IsNamed a → (x y : layer.Term-F Term) → roll-Term x ≡ a → number_form x y ≡ Some about → HeadRange t about
      number a u k (layer.Var v) y r e = absurd (none_part about e)
      number a u k (layer.Int v) y r e = absurd (none_part about e)
      number a u k (layer.Node f ts) y r e = absurd (none_part about e)
      number a u k (layer.Atom p) (layer.Var v) r e = absurd (none_part about e)
      number a u k (layer.Atom p) (layer.Atom v) r e = absurd (none_part about e)
      number a u k (layer.Atom p) (layer.Node f ts) r e = absurd (none_part about e)
      number a u k (layer.Atom p) (layer.Int (negsuc m)) r e = absurd (none_part about e)
      number a u k (layer.Atom p) (layer.Int (pos m)) r e =
          let s = some_part _ about e in
          record { name = subst (λ m. m < n) (ap (λ d. d.name) s) (atom_by a p r k); is_form = λ q. absurd (yes_no (ap (λ d. d.by_number) s ∙ q)) }

      slash : (f : ℕ) (ts : List Term) → AreNamed ts → by_number_at f ts ≡ Some about → HeadRange t about
      slash f [] k e = absurd (none_part about e)
      slash f (a ∷ []) k e = absurd (none_part about e)
      slash f (a ∷ u ∷ []) k e = if_slash (f == SLASH) e
        where
          if_slash : (b : Bool) → cond b (number_form (out-Term a) (out-Term u)) None ≡ Some about → HeadRange t about
          if_slash false e = absurd (none_part about e)
          if_slash true e = number a u k.0 (out-Term a) (out-Term u) (roll-out-Term a) e
      slash f (a ∷ u ∷ v ∷ rest) k e = absurd (none_part about e)

      naming_range : (f : ℕ) (ts : List Term) → out-Term t ≡ layer.Node f ts → f < n → (b : Bool) → cond b None (Some (naming f (length ts))) ≡ Some about → HeadRange t about
      naming_range f ts w k true e = absurd (none_part about e)
      naming_range f ts w k false e =
          let s = some_part (naming f (length ts)) about e in
          record { name = subst (λ m. m < n) (ap (λ d. d.name) s) k; is_form = λ q. sym (ap (λ d. d.arity) s) ∙ ap (λ x. length (parts_of x)) (sym w) }

      compound : (f : ℕ) (ts : List Term) → out-Term t ≡ layer.Node f ts → NodeNamed f ts → (b : Bool) → cond b (cond (is_field f (length ts)) None (Some (naming f (length ts)))) (by_number_at f ts) ≡ Some about → HeadRange t about
      compound f ts w k true e = naming_range f ts w k.name (is_field f (length ts)) e
      compound f ts w k false e = slash f ts k.parts e

      by : (x : layer.Term-F Term) → roll-Term x ≡ t → out-Term t ≡ x → head_at x ≡ Some about → HeadRange t about
      by (layer.Var v) r w e = absurd (none_part about e)
      by (layer.Int v) r w e = absurd (none_part about e)
      by (layer.Atom p) r w e =
          let s = some_part (naming p 0) about e in
          record { name = subst (λ m. m < n) (ap (λ d. d.name) s) (atom_by t p r h); is_form = λ q. sym (ap (λ d. d.arity) s) ∙ ap (λ x. length (parts_of x)) (sym w) }
      by (layer.Node f ts) r w e = compound f ts w (node_by t f ts r h) (are_distinct_variables ts) e

  -- the fields of what is written

  behind_mark_named : (mark : ℕ) (t : Term) (o : Option Term) → IsNamed (with_mark mark t o) → IsNamed t × ((u : Term) → o ≡ Some u → IsNamed u)
  behind_mark_named mark t None h = (h, λ u i. absurd (none_part u i))
  behind_mark_named mark t (Some f) h =
      let parts = (node_named mark (t ∷ f ∷ []) h).parts in (parts.0, λ u i. subst IsNamed (some_part f u i) parts.1.0)

  record FieldsNamed (head : Term) (pre post comp : Option Term) : Type 0 where
    head_named : IsNamed head
    pre_named : (u : Term) → pre ≡ Some u → IsNamed u
    post_named : (u : Term) → post ≡ Some u → IsNamed u
    comp_named : (u : Term) → comp ≡ Some u → IsNamed u

  fields_named : (head : Term) (pre post comp : Option Term) → IsNamed (with_fields head pre post comp) → FieldsNamed head pre post comp
  fields_named head pre (Some post) comp h =
      let parts = (node_named IMPLIES (with_mark COLON head pre ∷ with_mark PLUS post comp ∷ []) h).parts in
      let front = behind_mark_named COLON head pre parts.0 in
      let back = behind_mark_named PLUS post comp parts.1.0 in
      record { head_named = front.0; pre_named = front.1; post_named = λ u i. subst IsNamed (some_part post u i) back.0; comp_named = back.1 }
  fields_named head (Some pre) None comp h =
      let parts = (node_named COLON (head ∷ with_mark PLUS pre comp ∷ []) h).parts in
      let back = behind_mark_named PLUS pre comp parts.1.0 in
      record { head_named = parts.0; pre_named = λ u i. subst IsNamed (some_part pre u i) back.0; post_named = λ u i. absurd (none_part u i); comp_named = back.1 }
  fields_named head None None comp h =
      let back = behind_mark_named PLUS head comp h in
      record { head_named = back.0; pre_named = λ u i. absurd (none_part u i); post_named = λ u i. absurd (none_part u i); comp_named = back.1 }

  status_named : (status : Option Mark) (t : Term) → IsNamed (with_status status t) → IsNamed t
  status_named None t h = h
  status_named (Some mark) t h = (node_named (mark_name mark) (t ∷ []) h).parts.0

  written_range : (s : Sentence) (a : Assertion) → IsAssertion s a → IsNamed s.term → IsAssertionInRange n a
  written_range s a x h =
      let directive = (node_at s.term NECK _ x.whole h).parts.0 in
      let body = (node_named (word_name a.keyword) _ (status_named x.status _ directive)).parts.0 in
      let fields = fields_named x.head x.pre x.post x.comp (behind_mark_named HASH _ x.comment body).0 in
      let head = head_range x.head x.about fields.head_named x.is_head in
      let arguments = parts_of (out-Term x.head) in
      record {
        name = subst (λ m. m < n) (sym x.name_is) head.name;
        pre = subst (λ m. AllByRecursion (IsPropertyInRange n m) a.pre) (sym x.arity_is) (pre_range x.about arguments head.is_form x.pre a.pre fields.pre_named x.pre_says);
        post = λ ws i. subst (λ m. AllByRecursion (IsPropertyInRange n m) ws) (sym x.arity_is) (post_range x.about arguments head.is_form x.post a.post ws fields.post_named x.post_says i);
        comp = comp_range x.comp a.comp fields.comp_named x.comp_says;
      }

pub stays_in_range : (s : Sentence) (a : Assertion) → IsAssertion s a → StaysInRange s a
stays_in_range s a x names r = written_range names s a x r.named
