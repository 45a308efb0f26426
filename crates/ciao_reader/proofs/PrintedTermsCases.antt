-- What is shown of a term agrees with its derivation: what that says, and that it is so of variables, integers and atoms.
use Rattle.std.proofs.Common.{◌≡◌, ℕ, suc, List, [], ◌∷◌, ◌++◌, length, refl, ap, sym, ◌∙◌, subst, Bool, true, false, arith}
use Rattle.std.specs.Prelude.{◌||◌, ◌==◌, ◌^◌, nat_lt, nat_le, is_some, if◌then◌else◌, ℤ, pos, negsuc, codes, decimal}
use Rattle.std.specs.Fmt.{signed_decimal}
use Rattle.std.proofs.lemmas.Bool.{ltb-true, le-leb, eqb-true}
use Rattle.std.proofs.lemmas.List.{append-nil}
use Rattle.term_core.specs.declared.fixed.TheConstants as fixed
use Rattle.term_core.specs.Names.{fixed_names, name_text}
use Rattle.term_core.specs.Lists.{IsPrefix}
use Rattle.term_core.specs.Printing.{Shown, after_bar, plain_shown, name_shown, atom_shown}
use Rattle.term_core.specs.Printing as shown
use Rattle.term_core.specs.OperatorLaws.{IsOrderly}
use Rattle.term_core.specs.Operators.{prefix_of, infix_of}
use Rattle.term_core.specs.Standard.{standard}
use Rattle.term_core.specs.declared.operators.Operators.{Operators}
use Rattle.term_core.specs.declared.terms.Term.{Term}
use Rattle.term_core.specs.declared.terms.Term as term
use Rattle.ciao_reader.specs.Derivations.{Tree, number, negative, variable, atom, no_braces, priority}
use Rattle.ciao_reader.specs.Readings.{term_of}
use Rattle.ciao_reader.specs.ReadingBack.{has_64_bits}
use Rattle.ciao_reader.proofs.PrintedTrees.{Derived, is_operator, is_operator_atom, at_argument, at_operand, plain_derived, atom_derived, integer_tree, is_operand}
use Rattle.ciao_reader.proofs.PrintedWords.{spaced}
use Rattle.ciao_reader.proofs.PrintedTermsForm.{IsFormed}
use Rattle.ciao_reader.proofs.PrintedTermsTexts.{tree_text, text_before, text_there, is_list, IsArgument, same_meaning, within_limit, within_argument, operand_there, formed_there}

module _ (names : List (List ℕ)) (ops : Operators) where
  -- what is shown of a term, and its derivation, alone and as the tail of a list
  pub record Agrees (t : Term) (s : Shown) (d : Derived) : Type 0 where
    pub text : s.text ≡ tree_text names d.tree
    pub has_priority : s.priority ≡ priority ops d.tree
    pub operator : s.is_operator ≡ is_operator_atom ops d.tree
    pub meaning : term_of d.tree ≡ t
    pub formed : IsFormed ops (length names) d.tree
    pub tail_text : (item : Tree) → tree_text names (d.as_tail item) ≡ 91 ∷ (tree_text names item ++ s.as_tail)
    pub tail_list : (item : Tree) → is_list (d.as_tail item) ≡ true
    pub tail_meaning : (item : Tree) → term_of (d.as_tail item) ≡ term.Node fixed.CELL (term_of item ∷ t ∷ [])
    pub tail_formed : (item : Tree) → IsArgument ops (length names) item → IsFormed ops (length names) (d.as_tail item)

  there_text : (s : Shown) (tree : Tree) → s.text ≡ tree_text names tree → s.priority ≡ priority ops tree → shown.at_argument s ≡ tree_text names (at_argument ops tree)
  there_text s tree text has_priority =
      ap (λ p. shown.in_parens_where (nat_lt 999 p) s.text) has_priority ∙ ap (shown.in_parens_where (nat_lt 999 (priority ops tree))) text
      ∙ text_there names (nat_lt 999 (priority ops tree)) tree

  there_argument : (tree : Tree) → IsFormed ops (length names) tree → IsArgument ops (length names) (at_argument ops tree)
  there_argument tree formed = (within_argument ops 999 (nat_lt 999 (priority ops tree)) tree refl, formed_there ops (length names) (nat_lt 999 (priority ops tree)) tree formed)

  -- at its place as an argument
  module _ {t : Term} {s : Shown} {d : Derived} (a : Agrees t s d) where
    pub argument_text : shown.at_argument s ≡ tree_text names (at_argument ops d.tree)
    argument_text = there_text s d.tree a.text a.has_priority

    pub argument_meaning : term_of (at_argument ops d.tree) ≡ t
    argument_meaning = same_meaning (nat_lt 999 (priority ops d.tree)) d.tree ∙ a.meaning

    pub argument_formed : IsArgument ops (length names) (at_argument ops d.tree)
    argument_formed = there_argument d.tree a.formed

    -- at its place as an argument of an operator
    module _ (limit : ℕ) where
      pub operand_text : shown.at_operand limit s ≡ tree_text names (at_operand ops limit d.tree)
      operand_text =
          ap (λ p. shown.in_parens_where (nat_lt limit p || s.is_operator) s.text) a.has_priority ∙ ap (λ b. shown.in_parens_where (nat_lt limit (priority ops d.tree) || b) s.text) a.operator
          ∙ ap (shown.in_parens_where (nat_lt limit (priority ops d.tree) || is_operator_atom ops d.tree)) a.text
          ∙ text_there names (nat_lt limit (priority ops d.tree) || is_operator_atom ops d.tree) d.tree

      pub operand_meaning : term_of (at_operand ops limit d.tree) ≡ t
      operand_meaning = same_meaning (nat_lt limit (priority ops d.tree) || is_operator_atom ops d.tree) d.tree ∙ a.meaning

      pub operand_within : nat_le (priority ops (at_operand ops limit d.tree)) limit ≡ true
      operand_within = within_limit ops limit (nat_lt limit (priority ops d.tree)) (is_operator_atom ops d.tree) d.tree refl

      pub operand_is : is_operand ops (at_operand ops limit d.tree) ≡ true
      operand_is = operand_there ops (nat_lt limit (priority ops d.tree)) (is_operator_atom ops d.tree) d.tree refl

      pub operand_formed : IsFormed ops (length names) (at_operand ops limit d.tree)
      operand_formed = formed_there ops (length names) (nat_lt limit (priority ops d.tree) || is_operator_atom ops d.tree) d.tree a.formed

  -- neither the empty list nor a list cell
  pub plain : (t : Term) (s : Shown) (tree : Tree) → s.text ≡ tree_text names tree → s.priority ≡ priority ops tree → s.is_operator ≡ is_operator_atom ops tree → term_of tree ≡ t → IsFormed ops (length names) tree
      → s.as_tail ≡ after_bar (shown.at_argument s) → Agrees t s (plain_derived ops tree)
  plain t s tree text has_priority operator meaning formed as_tail =
      record {
        text = text;
        has_priority = has_priority;
        operator = operator;
        meaning = meaning;
        formed = formed;
        tail_text = λ item.
            ap (λ cs. 91 ∷ cs)
            (text_before names (spaced item) _ ∙ ap (λ cs. tree_text names item ++ (124 ∷ cs)) (text_before names (spaced (at_argument ops tree)) _)
            ∙ ap (λ cs. tree_text names item ++ cs) (ap after_bar (sym (there_text s tree text has_priority)) ∙ sym as_tail));
        tail_list = λ item. refl;
        tail_meaning = λ item. ap (λ u. term.Node fixed.CELL (term_of item ∷ u ∷ [])) (same_meaning (nat_lt 999 (priority ops tree)) tree ∙ meaning);
        tail_formed = λ item h. (h, (there_argument tree formed).0, (there_argument tree formed).1);
      }

  -- a variable and an integer

  pub variable_agrees : (v : ℕ) → nat_lt v (2 ^ 64) ≡ true → Agrees (term.Var v) (plain_shown 0 (codes "_" ++ decimal v)) (plain_derived ops (variable v))
  variable_agrees v h = plain (term.Var v) _ (variable v) (sym (append-nil (codes "_" ++ decimal v))) refl refl refl h refl

  pub integer_agrees : (n : ℤ) → has_64_bits n ≡ true → Agrees (term.Int n) (plain_shown 0 (signed_decimal n)) (plain_derived ops (integer_tree ops n))
  integer_agrees (pos n) h = plain (term.Int (pos n)) _ (number n) (sym (append-nil (decimal n))) refl refl (ap (λ b. term.Int (if b then pos n else pos 0)) h) h refl
  integer_agrees (negsuc n) h =
      plain (term.Int (negsuc n)) _ (negative (suc n)) (ap (λ cs. 45 ∷ cs) (sym (append-nil (decimal (suc n))))) refl refl (ap (λ b. term.Int (if b then negsuc n else pos 0)) h)
      (le-leb (suc n) (2 ^ 63) (omega (arith, ltb-true _ _ h))) refl

  -- an atom, by whether it is `[]` or `{}`
  module _ (begin : IsPrefix fixed_names names) (orderly : IsOrderly ops) where
    never_operator : (a : ℕ) → nat_le a fixed.BAR ≡ true → is_some (prefix_of standard a) ≡ false → is_some (infix_of standard a) ≡ false → is_operator ops a ≡ false
    never_operator a r p i = ap (λ o. is_some o || is_some (infix_of ops a)) (orderly.reserved_stay a r).0 ∙ ap (λ b. b || is_some (infix_of ops a)) p ∙ ap is_some (orderly.reserved_stay a r).1 ∙ i

    nil_agrees : Agrees (term.Atom fixed.NIL) (atom_shown names ops true fixed.NIL) (atom_derived ops fixed.NIL)
    nil_agrees = record {
      text = ap (λ ns. name_text ns fixed.NIL) (sym begin.1);
      has_priority = refl;
      operator = never_operator fixed.NIL refl refl refl;
      meaning = refl;
      formed = tt;
      tail_text = λ item. ap (λ cs. 91 ∷ cs) (text_before names (spaced item) _);
      tail_list = λ item. refl;
      tail_meaning = λ item. refl;
      tail_formed = λ item h. h;
    }

    braces_agrees : Agrees (term.Atom fixed.BRACES) (atom_shown names ops true fixed.BRACES) (atom_derived ops fixed.BRACES)
    braces_agrees = plain (term.Atom fixed.BRACES) _ no_braces (ap (λ ns. name_text ns fixed.BRACES) (sym begin.1)) refl (never_operator fixed.BRACES refl refl refl) refl tt refl

    pub atom_agrees : (a : ℕ) → nat_lt a (length names) ≡ true → Agrees (term.Atom a) (atom_shown names ops true a) (atom_derived ops a)
    atom_agrees a h = by (a == fixed.NIL) (a == fixed.BRACES) refl refl
      where
        by : (b c : Bool) → b ≡ (a == fixed.NIL) → c ≡ (a == fixed.BRACES) → Agrees (term.Atom a) (atom_shown names ops true a) (atom_derived ops a)
        by true c e f = subst (λ n. Agrees (term.Atom n) (atom_shown names ops true n) (atom_derived ops n)) (sym (eqb-true a fixed.NIL (sym e))) nil_agrees
        by false true e f = subst (λ n. Agrees (term.Atom n) (atom_shown names ops true n) (atom_derived ops n)) (sym (eqb-true a fixed.BRACES (sym f))) braces_agrees
        by false false e f =
            rw (sym e, sym f) (plain (term.Atom a) (record { text = name_shown names ops true a; priority = 0; is_operator = is_operator ops a; as_tail = after_bar (name_shown names ops true a) }) (atom a)
            (sym (append-nil (name_shown names ops true a))) refl refl refl h refl)
