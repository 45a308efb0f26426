-- Derivations of the form that printed terms have fit and are guarded, and their names and numbers are in range.
use Rattle.std.proofs.Common.{◌≡◌, ◌≤◌, ℕ, List, [], ◌∷◌, ◌++◌, refl, ap, sym, ◌∙◌, Bool, true, false, arith}
use Rattle.std.specs.Prelude.{⊤, ◌&&◌, ◌||◌, ◌==◌, ◌^◌, not, nat_lt, nat_le, Option, Some, None, if◌then◌else◌}
use Rattle.std.proofs.lemmas.Bool.{and_from, and_parts, or_left, or_right, ltb-true, le-leb, ne_eqb, not_from_false}
use Rattle.std.proofs.lemmas.List.{append_assoc, append-nil}
use Rattle.term_core.specs.declared.fixed.TheConstants as fixed
use Rattle.term_core.specs.declared.operators.Op.{Op}
use Rattle.term_core.specs.declared.operators.Operators.{Operators}
use Rattle.term_core.specs.Operators.{prefix_of, infix_of}
use Rattle.term_core.specs.OperatorLaws.{IsOrderly}
use Rattle.ciao_reader.specs.declared.words.Word.{Word}
use Rattle.ciao_reader.specs.declared.words.Word.TheVariants as word
use Rattle.ciao_reader.specs.Derivations.{Tree, Trees, number, negative, variable, text, atom, no_items, no_braces, call, parens, braces, items, items_and_tail, before, between, one, more, words, words_of_all, infix_word, op_priority, priority, takes_one, takes_two, fits, all_fit}
use Rattle.ciao_reader.specs.Derivations as tree
use Rattle.ciao_reader.proofs.PrintedTrees.{is_guarded, all_guarded, is_operand}
use Rattle.ciao_reader.proofs.PrintedWords.{Spaced, blank, one_word, spaced, spaced_of_all, spaced_infix, are_within, has_none_large}

module _ (ops : Operators) (count : ℕ) where
  abbrev mutual
    -- names are among so many, a variable has 64 bits, a number is less than 2^63, or 2^63 behind a sign, and each argument is one that its place allows and is no operator alone where that is one of an operator
    pub IsFormed : Tree → Type 0
    IsFormed (number n) = nat_lt n (2 ^ 63) ≡ true
    IsFormed (negative n) = nat_le n (2 ^ 63) ≡ true
    IsFormed (variable v) = nat_lt v (2 ^ 64) ≡ true
    IsFormed (text cs) = ⊥
    IsFormed (atom a) = nat_lt a count ≡ true
    IsFormed (call f ts) = (nat_lt f count ≡ true) × (nat_le (tree.count ts) 255 ≡ true) × AreFormed ts
    IsFormed (parens t) = IsFormed t
    IsFormed (braces t) = IsFormed t
    IsFormed (items ts) = AreFormed ts
    IsFormed (items_and_tail ts t) = AreFormed ts × (nat_le (priority ops t) 999 ≡ true) × IsFormed t
    IsFormed (before f t) = (nat_lt f count ≡ true) × (takes_one (prefix_of ops f) (priority ops t) ≡ true) × (is_operand ops t ≡ true) × IsFormed t
    IsFormed (between f t u) =
        (nat_lt f count ≡ true) × (takes_two (infix_of ops f) (priority ops t) (priority ops u) ≡ true) × (is_operand ops t ≡ true) × (is_operand ops u ≡ true) × IsFormed t × IsFormed u
    IsFormed leaf = ⊤

    pub AreFormed : Trees → Type 0
    AreFormed (one t) = (nat_le (priority ops t) 999 ≡ true) × IsFormed t
    AreFormed (more t ts) = (nat_le (priority ops t) 999 ≡ true) × IsFormed t × AreFormed ts

-- an operator has at most 1200
module _ (ops : Operators) (orderly : IsOrderly ops) where
  prefix_within : (f : ℕ) (o : Option Op) → prefix_of ops f ≡ o → op_priority o ≤ 1200
  prefix_within f None e = omega arith
  prefix_within f (Some o) e = (orderly.prefix_is f o e).0.1

  infix_within : (f : ℕ) (o : Option Op) → infix_of ops f ≡ o → op_priority o ≤ 1200
  infix_within f None e = omega arith
  infix_within f (Some o) e = (orderly.infix_is f o e).0.1

  -- each derivation has at most 1200
  pub priority_within : (t : Tree) → priority ops t ≤ 1200
  priority_within (before f t) = prefix_within f (prefix_of ops f) refl
  priority_within (between f t u) = infix_within f (infix_of ops f) refl
  priority_within other = omega arith

  module _ (count : ℕ) where
    mutual
      pub formed_fits : (t : Tree) → IsFormed ops count t → fits ops t ≡ true
      formed_fits (text cs) h = refl
      formed_fits (call f ts) h = and_from _ _ h.1 (all_formed_fit ts h.2)
      formed_fits (parens t) h = and_from _ _ (le-leb _ _ (priority_within t)) (formed_fits t h)
      formed_fits (braces t) h = and_from _ _ (le-leb _ _ (priority_within t)) (formed_fits t h)
      formed_fits (items ts) h = all_formed_fit ts h
      formed_fits (items_and_tail ts t) h = and_from _ _ (all_formed_fit ts h.0) (and_from _ _ h.1 (formed_fits t h.2))
      formed_fits (before f t) h = and_from _ _ h.1 (formed_fits t h.3)
      formed_fits (between f t u) h = and_from _ _ h.1 (and_from _ _ (formed_fits t h.4) (formed_fits u h.5))
      formed_fits leaf h = refl

      all_formed_fit : (ts : Trees) → AreFormed ops count ts → all_fit ops ts ≡ true
      all_formed_fit (one t) h = and_from _ _ h.0 (formed_fits t h.1)
      all_formed_fit (more t ts) h = and_from _ _ (and_from _ _ h.0 (formed_fits t h.1)) (all_formed_fit ts h.2)

module _ (ops : Operators) (count : ℕ) where
  mutual
    pub formed_guarded : (t : Tree) → IsFormed ops count t → is_guarded ops t ≡ true
    formed_guarded (text cs) h = absurd h
    formed_guarded (call f ts) h = all_formed_guarded ts h.2
    formed_guarded (parens t) h = formed_guarded t h
    formed_guarded (braces t) h = formed_guarded t h
    formed_guarded (items ts) h = all_formed_guarded ts h
    formed_guarded (items_and_tail ts t) h = and_from _ _ (all_formed_guarded ts h.0) (formed_guarded t h.2)
    formed_guarded (before f t) h = and_from _ _ h.2 (formed_guarded t h.3)
    formed_guarded (between f t u) h = and_from _ _ (and_from _ _ h.2 h.3) (and_from _ _ (formed_guarded t h.4) (formed_guarded u h.5))
    formed_guarded leaf h = refl

    all_formed_guarded : (ts : Trees) → AreFormed ops count ts → all_guarded ops ts ≡ true
    all_formed_guarded (one t) h = formed_guarded t h.1
    all_formed_guarded (more t ts) h = and_from _ _ (formed_guarded t h.1) (all_formed_guarded ts h.2)

-- names and numbers in range

within_both : (count : ℕ) (xs ys : List Spaced) → are_within count xs ≡ true → are_within count ys ≡ true → are_within count (xs ++ ys) ≡ true
within_both count [] ys e f = f
within_both count (blank ∷ xs) ys e f = within_both count xs ys e f
within_both count (one_word w ∷ xs) ys e f = and_from _ _ (and_parts _ _ e).0 (within_both count xs ys (and_parts _ _ e).1 f)

infix_within_spaced : (count f : ℕ) (bs : List Spaced) → nat_lt f count ≡ true → are_within count bs ≡ true → are_within count (spaced_infix f ++ bs) ≡ true
infix_within_spaced count f bs l e = by (f == fixed.COMMA) (f == fixed.BAR)
  where
    by : (b c : Bool) → are_within count ((if b then one_word word.Comma ∷ [] else if c then blank ∷ one_word word.Bar ∷ blank ∷ [] else blank ∷ one_word (word.Between f) ∷ blank ∷ []) ++ bs) ≡ true
    by true c = e
    by false true = e
    by false false = and_from _ _ l e

module _ (ops : Operators) (count : ℕ) where
  mutual
    pub formed_within : (t : Tree) → IsFormed ops count t → are_within count (spaced t) ≡ true
    formed_within (number n) h = and_from _ _ (le-leb _ _ (omega (arith, ltb-true _ _ h))) refl
    formed_within (negative n) h = and_from _ _ h refl
    formed_within (variable v) h = and_from _ _ h refl
    formed_within (text cs) h = refl
    formed_within (atom a) h = and_from _ _ h refl
    formed_within no_items h = refl
    formed_within no_braces h = refl
    formed_within (call f ts) h = and_from _ _ h.0 (within_both count (spaced_of_all ts) _ (all_formed_within ts h.2) refl)
    formed_within (parens t) h = within_both count (spaced t) _ (formed_within t h) refl
    formed_within (braces t) h = within_both count (spaced t) _ (formed_within t h) refl
    formed_within (items ts) h = within_both count (spaced_of_all ts) _ (all_formed_within ts h) refl
    formed_within (items_and_tail ts t) h = within_both count (spaced_of_all ts) _ (all_formed_within ts h.0) (within_both count (spaced t) _ (formed_within t h.2) refl)
    formed_within (before f t) h = and_from _ _ h.0 (formed_within t h.3)
    formed_within (between f t u) h = within_both count (spaced t) _ (formed_within t h.4) (infix_within_spaced count f (spaced u) h.0 (formed_within u h.5))

    all_formed_within : (ts : Trees) → AreFormed ops count ts → are_within count (spaced_of_all ts) ≡ true
    all_formed_within (one t) h = formed_within t h.1
    all_formed_within (more t ts) h = within_both count (spaced t) _ (formed_within t h.1) (all_formed_within ts h.2)

-- 2^63 stands behind a sign only

small_number : (n : ℕ) (signed rest : Bool) → nat_lt n (2 ^ 63) ≡ true → rest ≡ true → ((not (n == 2 ^ 63) || signed) && rest) ≡ true
small_number n signed rest l e = and_from _ _ (or_left _ _ (not_from_false _ (ne_eqb n (2 ^ 63) (λ same. omega (arith, ltb-true _ _ l, same))))) e

infix_none_large : (f : ℕ) (ws : List Word) → has_none_large false ws ≡ true → has_none_large false (infix_word f ∷ ws) ≡ true
infix_none_large f ws e = by (f == fixed.COMMA) (f == fixed.BAR)
  where
    by : (b c : Bool) → has_none_large false ((if b then word.Comma else if c then word.Bar else word.Between f) ∷ ws) ≡ true
    by true c = e
    by false true = e
    by false false = e

module _ (ops : Operators) (count : ℕ) where
  mutual
    none_large_before : (t : Tree) → IsFormed ops count t → (ws : List Word) → has_none_large false ws ≡ true → has_none_large false (words t ++ ws) ≡ true
    none_large_before (number n) h ws e = small_number n false _ h e
    none_large_before (negative n) h ws e = and_from _ _ (or_right _ _ refl) e
    none_large_before (variable v) h ws e = e
    none_large_before (text cs) h ws e = e
    none_large_before (atom a) h ws e = e
    none_large_before no_items h ws e = e
    none_large_before no_braces h ws e = e
    none_large_before (call f ts) h ws e = rw (append_assoc (words_of_all ts) (word.CloseParen ∷ []) ws) (all_none_large_before ts h.2 (word.CloseParen ∷ ws) e)
    none_large_before (parens t) h ws e = rw (append_assoc (words t) (word.CloseParen ∷ []) ws) (none_large_before t h (word.CloseParen ∷ ws) e)
    none_large_before (braces t) h ws e = rw (append_assoc (words t) (word.CloseCurly ∷ []) ws) (none_large_before t h (word.CloseCurly ∷ ws) e)
    none_large_before (items ts) h ws e = rw (append_assoc (words_of_all ts) (word.CloseList ∷ []) ws) (all_none_large_before ts h (word.CloseList ∷ ws) e)
    none_large_before (items_and_tail ts t) h ws e =
        rw (append_assoc (words_of_all ts) (word.Bar ∷ (words t ++ (word.CloseList ∷ []))) ws, append_assoc (words t) (word.CloseList ∷ []) ws)
        (all_none_large_before ts h.0 (word.Bar ∷ (words t ++ (word.CloseList ∷ ws))) (none_large_before t h.2 (word.CloseList ∷ ws) e))
    none_large_before (before f t) h ws e = none_large_before t h.3 ws e
    none_large_before (between f t u) h ws e =
        rw (append_assoc (words t) (infix_word f ∷ words u) ws) (none_large_before t h.4 (infix_word f ∷ (words u ++ ws)) (infix_none_large f (words u ++ ws) (none_large_before u h.5 ws e)))

    all_none_large_before : (ts : Trees) → AreFormed ops count ts → (ws : List Word) → has_none_large false ws ≡ true → has_none_large false (words_of_all ts ++ ws) ≡ true
    all_none_large_before (one t) h ws e = none_large_before t h.1 ws e
    all_none_large_before (more t ts) h ws e =
        rw (append_assoc (words t) (word.Comma ∷ words_of_all ts) ws) (none_large_before t h.1 (word.Comma ∷ (words_of_all ts ++ ws)) (all_none_large_before ts h.2 ws e))

  pub formed_none_large : (t : Tree) → IsFormed ops count t → has_none_large false (words t) ≡ true
  formed_none_large t h = ap (has_none_large false) (sym (append-nil (words t))) ∙ none_large_before t h [] refl
