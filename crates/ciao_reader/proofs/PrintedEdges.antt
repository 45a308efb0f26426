-- What is printed of a term begins so that a prefix operator before it does not stand alone.
use Rattle.std.proofs.Common.{arith, ◌≡◌, ◌≤◌, ℕ, Bool, true, false, List, [], ◌∷◌, ◌++◌, refl, ap, sym, ◌∙◌}
use Rattle.std.specs.Prelude.{not, is_some, if◌then◌else◌, Option, Some, None}
use Rattle.std.proofs.lemmas.Bool.{and_parts, and_left, and_right, or_parts, leb-true, le-ltb, false≢true}
use Rattle.std.proofs.lemmas.List.{append_assoc}
use Rattle.term_core.specs.declared.fixed.TheConstants as fixed
use Rattle.term_core.specs.declared.operators.Op.{Op}
use Rattle.term_core.specs.declared.operators.Operators.{Operators}
use Rattle.term_core.specs.Operators.{prefix_of, infix_of, left_limit}
use Rattle.ciao_tokens.specs.declared.kinds.Token.{Token}
use Rattle.ciao_tokens.specs.declared.kinds.TokenKind.TheVariants as kind
use Rattle.ciao_reader.specs.declared.words.Word.TheVariants as word
use Rattle.ciao_reader.specs.Roles.{calls_next, is_above, goes_on, breaks_at, stands_alone}
use Rattle.ciao_reader.specs.Derivations.{Tree, number, negative, variable, text, atom, no_items, no_braces, call, parens, braces, items, items_and_tail, before, between, op_priority, priority, takes_one, takes_two, fits}
use Rattle.ciao_reader.proofs.OneTree.{left_le}
use Rattle.ciao_reader.proofs.PrintedTrees.{is_operator, is_guarded, is_operand}
use Rattle.ciao_reader.proofs.PrintedWords.{Spaced, one_word, spaced_infix, spaced, spaced_of_all, name_kind, tokens_of}

module _ (ops : Operators) where
  -- an atom that is no operator is neither a prefix nor an infix operator
  pub no_operator : (a : ℕ) → is_operand ops (atom a) ≡ true → (is_some (prefix_of ops a) ≡ false) × (is_some (infix_of ops a) ≡ false)
  no_operator a e = or_parts (is_some (prefix_of ops a)) (is_some (infix_of ops a)) (by (is_operator ops a) e)
    where
      by : (b : Bool) → (if b then false else true) ≡ true → b ≡ false
      by true d = sym d
      by false d = refl

  -- a prefix operator of at most the priority is none above it
  not_above : (limit : ℕ) (o : Option Op) (p : ℕ) → takes_one o p ≡ true → op_priority o ≤ limit → is_above limit o ≡ false
  not_above limit None p e l = sym e
  not_above limit (Some o) p e l = le-ltb limit o.priority l

  -- the left argument of an infix operator has at most its priority
  left_within : (limit : ℕ) (o : Option Op) (p q : ℕ) → takes_two o p q ≡ true → op_priority o ≤ limit → p ≤ limit
  left_within limit None p q e l = absurd (false≢true e)
  left_within limit (Some o) p q e l = omega (arith, leb-true p (left_limit o) (and_parts _ _ e).0, left_le o, l)

  module _ (spelling : ℕ → ℕ) (is_bare : ℕ → Bool) (limit : ℕ) where
    -- a name that does not go on breaks nothing off, quoted or not
    name_holds : (f : ℕ) (ts : List Token) → goes_on ops limit f ts ≡ false → breaks_at ops limit (name_kind spelling is_bare f) ts ≡ false
    name_holds f ts e = by (is_bare f)
      where
        by : (b : Bool) → breaks_at ops limit (if b then kind.Name f else kind.Quoted f) ts ≡ false
        by true = and_left _ _ e
        by false = and_left _ _ e

    -- before the words and blanks of a term no prefix operator with this limit stands alone
    pub holds : (t : Tree) (behind_name behind_layout : Bool) (rest : List Spaced) → fits ops t ≡ true → is_guarded ops t ≡ true → is_operand ops t ≡ true → priority ops t ≤ limit
        → stands_alone ops limit (tokens_of spelling is_bare behind_name behind_layout (spaced t ++ rest)) ≡ false
    holds (number n) bn bl rest f g o l = refl
    holds (negative n) bn bl rest f g o l = and_right (goes_on ops limit fixed.MINUS (tokens_of spelling is_bare true false (one_word (word.Number n) ∷ rest))) false refl
    holds (variable v) bn bl rest f g o l = refl
    holds (text cs) bn bl rest f g o l = refl
    holds (atom a) bn bl rest f g o l = name_holds a (tokens_of spelling is_bare true false rest) (and_left _ _ (no_operator a o).1)
    holds no_items bn bl rest f g o l = refl
    holds no_braces bn bl rest f g o l = refl
    holds (call h ts) bn bl rest f g o l = name_holds h (tokens_of spelling is_bare true false (one_word word.Paren ∷ ((spaced_of_all ts ++ (one_word word.CloseParen ∷ [])) ++ rest))) (and_right (is_some (infix_of ops h)) false refl)
    holds (parens t) true bl rest f g o l = refl
    holds (parens t) false bl rest f g o l = refl
    holds (braces t) bn bl rest f g o l = refl
    holds (items ts) bn bl rest f g o l = refl
    holds (items_and_tail ts t) bn bl rest f g o l = refl
    holds (before h t) bn bl rest f g o l =
        let above : is_above limit (prefix_of ops h) ≡ false = not_above limit (prefix_of ops h) (priority ops t) (and_parts _ _ f).0 l in
        let ts = tokens_of spelling is_bare false true (spaced t ++ rest) in
        name_holds h ts (and_right (is_some (infix_of ops h)) _ (and_right (not (calls_next ts)) _ above))
    holds (between h t u) bn bl rest f g o l =
        ap (λ bs. stands_alone ops limit (tokens_of spelling is_bare bn bl bs)) (append_assoc (spaced t) (spaced_infix h ++ spaced u) rest)
        ∙ holds t bn bl ((spaced_infix h ++ spaced u) ++ rest) (and_parts _ _ (and_parts _ _ f).1).0 (and_parts _ _ (and_parts _ _ g).1).0 (and_parts _ _ (and_parts _ _ g).0).0
        (left_within limit (infix_of ops h) (priority ops t) (priority ops u) (and_parts _ _ f).0 l)
