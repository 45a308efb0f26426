-- The texts and meanings of a derivation's parts, where they are put in parentheses, behind one another and before a list.
use Rattle.std.proofs.Common.{◌≡◌, ℕ, suc, List, [], ◌∷◌, ◌++◌, map, length, drop, refl, ap, sym, ◌∙◌, Bool, true, false, arith}
use Rattle.std.specs.Prelude.{◌||◌, ◌==◌, nat_lt, nat_le, if◌then◌else◌, codes}
use Rattle.std.specs.List.{AllByRecursion}
use Rattle.std.proofs.lemmas.Bool.{ltb-false, le-leb, false≢true}
use Rattle.std.proofs.lemmas.List.{append_assoc, append-nil}
use Rattle.std.proofs.lemmas.List.Concat.{flat_map-append}
use Rattle.term_core.specs.declared.fixed.TheConstants as fixed
use Rattle.term_core.specs.Printing.{with_commas, infix_name}
use Rattle.term_core.specs.Printing as shown
use Rattle.term_core.specs.declared.operators.Operators.{Operators}
use Rattle.term_core.specs.declared.terms.Term.{Term}
use Rattle.term_core.specs.declared.terms.Term as term
use Rattle.ciao_reader.specs.declared.words.Word.TheVariants as word
use Rattle.ciao_reader.specs.Derivations.{Tree, Trees, atom, items, items_and_tail, one, more, priority}
use Rattle.ciao_reader.specs.Derivations as tree
use Rattle.ciao_reader.specs.Readings.{term_of, terms_of}
use Rattle.ciao_reader.proofs.PrintedTrees.{with_first, trees_of, in_parens_where, is_operator_atom, is_operand}
use Rattle.ciao_reader.proofs.PrintedWords.{Spaced, blank, one_word, spaced, spaced_of_all, spaced_infix, spaced_bytes, bytes_of}
use Rattle.ciao_reader.proofs.PrintedTermsForm.{IsFormed, AreFormed}

-- in parentheses or not

pub same_meaning : (b : Bool) (t : Tree) → term_of (in_parens_where b t) ≡ term_of t
same_meaning true t = refl
same_meaning false t = refl

module _ (ops : Operators) where
  pub within_limit : (limit : ℕ) (b c : Bool) (t : Tree) → b ≡ nat_lt limit (priority ops t) → nat_le (priority ops (in_parens_where (b || c) t)) limit ≡ true
  within_limit limit true c t e = le-leb 0 limit (omega arith)
  within_limit limit false true t e = le-leb 0 limit (omega arith)
  within_limit limit false false t e = le-leb _ _ (ltb-false _ _ (sym e))

  pub within_argument : (limit : ℕ) (b : Bool) (t : Tree) → b ≡ nat_lt limit (priority ops t) → nat_le (priority ops (in_parens_where b t)) limit ≡ true
  within_argument limit true t e = le-leb 0 limit (omega arith)
  within_argument limit false t e = le-leb _ _ (ltb-false _ _ (sym e))

  no_operator : (t : Tree) → is_operator_atom ops t ≡ false → is_operand ops t ≡ true
  no_operator (atom a) e = ap (λ b. if b then false else true) e
  no_operator other e = refl

  pub operand_there : (b c : Bool) (t : Tree) → c ≡ is_operator_atom ops t → is_operand ops (in_parens_where (b || c) t) ≡ true
  operand_there true c t e = refl
  operand_there false true t e = refl
  operand_there false false t e = no_operator t (sym e)

  pub formed_there : (count : ℕ) (b : Bool) (t : Tree) → IsFormed ops count t → IsFormed ops count (in_parens_where b t)
  formed_there count true t h = h
  formed_there count false t h = h

-- behind one another

pub count_of_trees : (t : Tree) (ts : List Tree) → tree.count (trees_of t ts) ≡ suc (length ts)
count_of_trees t [] = refl
count_of_trees t (u ∷ us) = omega (arith, count_of_trees u us)

pub meaning_of_trees : (t : Tree) (ts : List Tree) → terms_of (trees_of t ts) ≡ term_of t ∷ map term_of ts
meaning_of_trees t [] = refl
meaning_of_trees t (u ∷ us) = ap (λ xs. term_of t ∷ xs) (meaning_of_trees u us)

module _ (ops : Operators) (count : ℕ) where
  -- it may stand as an argument
  abbrev pub IsArgument : Tree → Type 0
  IsArgument t = (nat_le (priority ops t) 999 ≡ true) × IsFormed ops count t

  pub formed_trees : (t : Tree) (ts : List Tree) → IsArgument t → AllByRecursion IsArgument ts → AreFormed ops count (trees_of t ts)
  formed_trees t [] h hs = h
  formed_trees t (u ∷ us) h hs = (h.0, h.1, formed_trees u us hs.0 hs.1)

-- before a list

-- a list of items
abbrev pub is_list : Tree → Bool
is_list (items ts) = true
is_list (items_and_tail ts t) = true
is_list other = false

pub list_with_first : (first whole : Tree) → is_list whole ≡ true → is_list (with_first first whole) ≡ true
list_with_first first (items ts) e = refl
list_with_first first (items_and_tail ts t) e = refl
list_with_first first other e = e

pub meaning_with_first : (first whole : Tree) → is_list whole ≡ true → term_of (with_first first whole) ≡ term.Node fixed.CELL (term_of first ∷ term_of whole ∷ [])
meaning_with_first first (items ts) e = refl
meaning_with_first first (items_and_tail ts t) e = refl
meaning_with_first first other e = absurd (false≢true e)

module _ (ops : Operators) where
  pub list_priority : (t : Tree) → is_list t ≡ true → 0 ≡ priority ops t
  list_priority (items ts) e = refl
  list_priority (items_and_tail ts t) e = refl
  list_priority other e = absurd (false≢true e)

  pub list_no_operator : (t : Tree) → is_list t ≡ true → false ≡ is_operator_atom ops t
  list_no_operator (items ts) e = refl
  list_no_operator (items_and_tail ts t) e = refl
  list_no_operator other e = absurd (false≢true e)

  pub formed_with_first : (count : ℕ) (first whole : Tree) → is_list whole ≡ true → IsFormed ops count whole → IsArgument ops count first → IsFormed ops count (with_first first whole)
  formed_with_first count first (items ts) e h a = (a.0, a.1, h)
  formed_with_first count first (items_and_tail ts t) e h a = ((a.0, a.1, h.0), h.1, h.2)
  formed_with_first count first other e h a = absurd (false≢true e)

-- texts

module _ (names : List (List ℕ)) where
  abbrev pub tree_text : Tree → List ℕ
  tree_text t = bytes_of names (spaced t)

  pub text_before : (xs ys : List Spaced) → bytes_of names (xs ++ ys) ≡ bytes_of names xs ++ bytes_of names ys
  text_before xs ys = flat_map-append (spaced_bytes names) xs ys

  pub text_there : (b : Bool) (t : Tree) → shown.in_parens_where b (tree_text t) ≡ tree_text (in_parens_where b t)
  text_there true t = ap (λ cs. 40 ∷ cs) (sym (text_before (spaced t) (one_word word.CloseParen ∷ [])))
  text_there false t = refl

  pub text_of_trees : (t : Tree) (ts : List Tree) → bytes_of names (spaced_of_all (trees_of t ts)) ≡ with_commas (tree_text t ∷ map tree_text ts)
  text_of_trees t [] = sym (append-nil (tree_text t))
  text_of_trees t (u ∷ us) = text_before (spaced t) (one_word word.Comma ∷ spaced_of_all (trees_of u us)) ∙ ap (λ cs. tree_text t ++ (44 ∷ cs)) (text_of_trees u us)

  pub text_with_first : (first whole : Tree) → is_list whole ≡ true → tree_text (with_first first whole) ≡ 91 ∷ (tree_text first ++ (44 ∷ drop 1 (tree_text whole)))
  text_with_first first (items ts) e =
      ap (λ cs. 91 ∷ cs) (ap (bytes_of names) (append_assoc (spaced first) (one_word word.Comma ∷ spaced_of_all ts) (one_word word.CloseList ∷ [])) ∙ text_before (spaced first) _)
  text_with_first first (items_and_tail ts t) e =
      ap (λ cs. 91 ∷ cs) (ap (bytes_of names) (append_assoc (spaced first) (one_word word.Comma ∷ spaced_of_all ts) (one_word word.Bar ∷ (spaced t ++ (one_word word.CloseList ∷ [])))) ∙ text_before (spaced first) _)
  text_with_first first other e = absurd (false≢true e)

  pub infix_text : (ops : Operators) (f : ℕ) → infix_name names ops true f ≡ bytes_of names (spaced_infix f)
  infix_text ops f = by (f == fixed.COMMA) (f == fixed.BAR)
    where
      by : (b c : Bool) → (if b then codes "," else if c then codes " | " else codes " " ++ shown.name_shown names ops true f ++ codes " ")
          ≡ bytes_of names (if b then one_word word.Comma ∷ [] else if c then blank ∷ one_word word.Bar ∷ blank ∷ [] else blank ∷ one_word (word.Between f) ∷ blank ∷ [])
      by true c = refl
      by false true = refl
      by false false = refl
