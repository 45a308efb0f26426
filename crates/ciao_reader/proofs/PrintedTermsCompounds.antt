-- What is shown of a compound agrees with its derivation where that of each part does.
use Rattle.std.proofs.Common.{◌≡◌, ℕ, suc, List, [], ◌∷◌, ◌++◌, map, length, drop, refl, ap, sym, ◌∙◌, subst, Bool, true, false, arith}
use Rattle.std.specs.Prelude.{◌==◌, nat_lt, nat_le, Option, Some, None, if◌then◌else◌, codes}
use Rattle.std.specs.List.{AllByRecursion}
use Rattle.std.proofs.lemmas.Bool.{and_from, eqb-true, leb-true}
use Rattle.std.proofs.lemmas.List.{append_assoc}
use Rattle.term_core.specs.declared.fixed.TheConstants as fixed
use Rattle.term_core.specs.Printing.{Shown, plain_shown, cell_shown, name_shown, call_shown, one_shown, two_shown, compound_shown, shown_of}
use Rattle.term_core.specs.Printing as shown
use Rattle.term_core.specs.Operators.{prefix_of, infix_of, left_limit, right_limit}
use Rattle.term_core.specs.declared.operators.Op.{Op}
use Rattle.term_core.specs.declared.operators.Operators.{Operators}
use Rattle.term_core.specs.declared.terms.Term.{Term}
use Rattle.term_core.specs.declared.terms.Term as term
use Rattle.ciao_reader.specs.declared.words.Word.TheVariants as word
use Rattle.ciao_reader.specs.Derivations.{call, braces, before, between, op_priority, priority, takes_one, takes_two}
use Rattle.ciao_reader.specs.Readings.{term_of}
use Rattle.ciao_reader.proofs.PrintedTrees.{Derived, trees_of, at_argument, at_operand, plain_derived, cell_derived, argument_trees, call_derived, one_derived, two_derived, compound_derived, derived_of}
use Rattle.ciao_reader.proofs.PrintedWords.{one_word, spaced, spaced_of_all, spaced_infix, bytes_of}
use Rattle.ciao_reader.proofs.PrintedTermsTexts.{tree_text, text_before, text_of_trees, text_with_first, infix_text, list_with_first, meaning_with_first, list_priority, list_no_operator, formed_with_first, IsArgument, formed_trees, count_of_trees, meaning_of_trees}
use Rattle.ciao_reader.proofs.PrintedTermsCases.{Agrees, plain, argument_text, argument_meaning, argument_formed, operand_text, operand_meaning, operand_within, operand_is, operand_formed}

module _ (names : List (List ℕ)) (ops : Operators) where
  abbrev pub shows : Term → Shown
  shows = shown_of names ops true

  abbrev pub derives : Term → Derived
  derives = derived_of ops

  -- what is shown of the term agrees with its derivation
  abbrev pub IsShown : Term → Type 0
  IsShown t = Agrees names ops t (shows t) (derives t)

  -- arguments

  arguments_text : (ts : List Term) → AllByRecursion IsShown ts → map shown.at_argument (map shows ts) ≡ map (tree_text names) (argument_trees ops (map derives ts))
  arguments_text [] h = refl
  arguments_text (t ∷ ts) h =
      ap (λ c. c ∷ map shown.at_argument (map shows ts)) (argument_text names ops h.0)
      ∙ ap (λ cs. tree_text names (at_argument ops (derives t).tree) ∷ cs) (arguments_text ts h.1)

  arguments_meaning : (ts : List Term) → AllByRecursion IsShown ts → map term_of (argument_trees ops (map derives ts)) ≡ ts
  arguments_meaning [] h = refl
  arguments_meaning (t ∷ ts) h =
      ap (λ u. u ∷ map term_of (argument_trees ops (map derives ts))) (argument_meaning names ops h.0) ∙ ap (λ us. t ∷ us) (arguments_meaning ts h.1)

  arguments_formed : (ts : List Term) → AllByRecursion IsShown ts → AllByRecursion (IsArgument ops (length names)) (argument_trees ops (map derives ts))
  arguments_formed [] h = tt
  arguments_formed (t ∷ ts) h = (argument_formed names ops h.0, arguments_formed ts h.1)

  argument_count : (ts : List Term) → length (argument_trees ops (map derives ts)) ≡ length ts
  argument_count [] = refl
  argument_count (t ∷ ts) = ap suc (argument_count ts)

  -- a name and arguments
  call_agrees : (f : ℕ) (t : Term) (ts : List Term) → AllByRecursion IsShown (t ∷ ts) → nat_lt f (length names) ≡ true → nat_le (suc (length ts)) 255 ≡ true
      → Agrees names ops (term.Node f (t ∷ ts)) (call_shown names ops true f (map shows (t ∷ ts))) (call_derived ops f (map derives (t ∷ ts)))
  call_agrees f t ts h known few =
      let first = at_argument ops (derives t).tree in
      let others = argument_trees ops (map derives ts) in
      let name = name_shown names ops true f in
      let inside = shown.with_commas (map shown.at_argument (map shows (t ∷ ts))) in
      let inner : inside ≡ bytes_of names (spaced_of_all (trees_of first others)) = ap shown.with_commas (arguments_text (t ∷ ts) h) ∙ sym (text_of_trees names first others) in
      plain names ops (term.Node f (t ∷ ts)) (call_shown names ops true f (map shows (t ∷ ts))) (call f (trees_of first others))
      (append_assoc (name ++ codes "(") inside (codes ")") ∙ append_assoc name (codes "(") (inside ++ codes ")")
      ∙ ap (λ cs. name ++ (40 ∷ cs)) (ap (λ cs. cs ++ codes ")") inner ∙ sym (text_before names (spaced_of_all (trees_of first others)) (one_word word.CloseParen ∷ []))))
      refl refl (ap (term.Node f) (meaning_of_trees first others ∙ arguments_meaning (t ∷ ts) h))
      (known, ap (λ n. nat_le n 255) (count_of_trees first others ∙ ap suc (argument_count ts)) ∙ few, formed_trees ops (length names) first others (arguments_formed (t ∷ ts) h).0 (arguments_formed (t ∷ ts) h).1) refl

  -- one argument

  one_agrees : (f : ℕ) (t : Term) (o : Option Op) → prefix_of ops f ≡ o → IsShown t → nat_lt f (length names) ≡ true
      → Agrees names ops (term.Node f (t ∷ [])) (one_shown names ops true f o (shows t)) (one_derived ops f o (derives t))
  one_agrees f t None e a known = call_agrees f t [] (a, tt) known refl
  one_agrees f t (Some o) e a known = by (o.priority == 1150)
    where
      by : (b : Bool) → Agrees names ops (term.Node f (t ∷ []))
          (if b then call_shown names ops true f (shows t ∷ []) else plain_shown o.priority (shown.prefix_text names ops true f o (shows t)))
          (if b then call_derived ops f (derives t ∷ []) else plain_derived ops (before f (at_operand ops (right_limit o) (derives t).tree)))
      by true = call_agrees f t [] (a, tt) known refl
      by false =
          plain names ops (term.Node f (t ∷ [])) _ (before f (at_operand ops (right_limit o) (derives t).tree))
          (append_assoc (name_shown names ops true f) (codes " ") (shown.at_operand (right_limit o) (shows t))
          ∙ ap (λ cs. name_shown names ops true f ++ (32 ∷ cs)) (operand_text names ops a (right_limit o)))
          (sym (ap op_priority e)) refl (ap (λ u. term.Node f (u ∷ [])) (operand_meaning names ops a (right_limit o))) (
            known,
            ap (λ p. takes_one p (priority ops (at_operand ops (right_limit o) (derives t).tree))) e ∙ operand_within names ops a (right_limit o),
            operand_is names ops a (right_limit o),
            operand_formed names ops a (right_limit o),
          ) refl

  braces_agree : (t : Term) → IsShown t → Agrees names ops (term.Node fixed.BRACES (t ∷ [])) (plain_shown 0 (codes "{" ++ (shows t).text ++ codes "}")) (plain_derived ops (braces (derives t).tree))
  braces_agree t a =
      plain names ops (term.Node fixed.BRACES (t ∷ [])) _ (braces (derives t).tree)
      (ap (λ cs. 123 ∷ cs) (ap (λ cs. cs ++ codes "}") a.text ∙ sym (text_before names (spaced (derives t).tree) (one_word word.CloseCurly ∷ []))))
      refl refl (ap (λ u. term.Node fixed.BRACES (u ∷ [])) a.meaning) a.formed refl

  -- two arguments

  two_agree : (f : ℕ) (t u : Term) (o : Option Op) → infix_of ops f ≡ o → IsShown t → IsShown u → nat_lt f (length names) ≡ true
      → Agrees names ops (term.Node f (t ∷ u ∷ [])) (two_shown names ops true f o (shows t) (shows u)) (two_derived ops f o (derives t) (derives u))
  two_agree f t u None e a b known = call_agrees f t (u ∷ []) (a, (b, tt)) known refl
  two_agree f t u (Some o) e a b known =
      let left = at_operand ops (left_limit o) (derives t).tree in
      let right = at_operand ops (right_limit o) (derives u).tree in
      let left_text = shown.at_operand (left_limit o) (shows t) in
      let right_text = shown.at_operand (right_limit o) (shows u) in
      plain names ops (term.Node f (t ∷ u ∷ [])) (two_shown names ops true f (Some o) (shows t) (shows u)) (between f left right)
      (append_assoc left_text (shown.infix_name names ops true f) right_text
      ∙ ap (λ cs. cs ++ (shown.infix_name names ops true f ++ right_text)) (operand_text names ops a (left_limit o))
      ∙ ap (λ cs. tree_text names left ++ cs)
      (ap (λ cs. cs ++ right_text) (infix_text names ops f) ∙ ap (λ cs. bytes_of names (spaced_infix f) ++ cs) (operand_text names ops b (right_limit o))
      ∙ sym (text_before names (spaced_infix f) (spaced right)))
      ∙ sym (text_before names (spaced left) (spaced_infix f ++ spaced right)))
      (sym (ap op_priority e)) refl
      (ap (λ v. term.Node f (v ∷ term_of right ∷ [])) (operand_meaning names ops a (left_limit o))
      ∙ ap (λ v. term.Node f (t ∷ v ∷ [])) (operand_meaning names ops b (right_limit o))) (
        known,
        ap (λ p. takes_two p (priority ops left) (priority ops right)) e
            ∙ and_from _ _ (operand_within names ops a (left_limit o)) (operand_within names ops b (right_limit o)),
        operand_is names ops a (left_limit o),
        operand_is names ops b (right_limit o),
        operand_formed names ops a (left_limit o),
        operand_formed names ops b (right_limit o),
      ) refl

  -- a list cell
  cell_agrees : (t u : Term) → IsShown t → IsShown u → Agrees names ops (term.Node fixed.CELL (t ∷ u ∷ [])) (cell_shown (shows t) (shows u)) (cell_derived ops (derives t) (derives u))
  cell_agrees t u a b =
      let item = at_argument ops (derives t).tree in
      let whole = (derives u).as_tail item in
      let lists = b.tail_list item in
      let text : 91 ∷ (shown.at_argument (shows t) ++ (shows u).as_tail) ≡ tree_text names whole =
      ap (λ cs. 91 ∷ (cs ++ (shows u).as_tail)) (argument_text names ops a) ∙ sym (b.tail_text item) in
      let meaning : term_of whole ≡ term.Node fixed.CELL (t ∷ u ∷ []) =
      b.tail_meaning item ∙ ap (λ v. term.Node fixed.CELL (v ∷ u ∷ [])) (argument_meaning names ops a) in
      let formed = b.tail_formed item (argument_formed names ops a) in
      record {
        text = text;
        has_priority = list_priority ops whole lists;
        operator = list_no_operator ops whole lists;
        meaning = meaning;
        formed = formed;
        tail_text = λ first. text_with_first names first whole lists ∙ ap (λ cs. 91 ∷ (tree_text names first ++ (44 ∷ drop 1 cs))) (sym text);
        tail_list = λ first. list_with_first first whole lists;
        tail_meaning = λ first. meaning_with_first first whole lists ∙ ap (λ v. term.Node fixed.CELL (term_of first ∷ v ∷ [])) meaning;
        tail_formed = λ first h. formed_with_first ops (length names) first whole lists formed h;
      }

  -- a compound of 1 to 255 arguments
  pub compound_agrees : (f : ℕ) (ts : List Term) → AllByRecursion IsShown ts → nat_lt f (length names) ≡ true → nat_le 1 (length ts) ≡ true → nat_le (length ts) 255 ≡ true
      → Agrees names ops (term.Node f ts) (compound_shown names ops true f (map shows ts)) (compound_derived ops f (map derives ts))
  compound_agrees f [] h known some few = absurd (omega (arith, leb-true 1 0 some))
  compound_agrees f (t ∷ []) h known some few = by (f == fixed.BRACES) refl
    where
      by : (b : Bool) → b ≡ (f == fixed.BRACES) → Agrees names ops (term.Node f (t ∷ []))
          (if b then plain_shown 0 (codes "{" ++ (shows t).text ++ codes "}") else one_shown names ops true f (prefix_of ops f) (shows t))
          (if b then plain_derived ops (braces (derives t).tree) else one_derived ops f (prefix_of ops f) (derives t))
      by true e = subst (λ g. Agrees names ops (term.Node g (t ∷ [])) (plain_shown 0 (codes "{" ++ (shows t).text ++ codes "}")) (plain_derived ops (braces (derives t).tree)))
          (sym (eqb-true f fixed.BRACES (sym e))) (braces_agree t h.0)
      by false e = one_agrees f t (prefix_of ops f) refl h.0 known
  compound_agrees f (t ∷ u ∷ []) h known some few = by (f == fixed.CELL) refl
    where
      by : (b : Bool) → b ≡ (f == fixed.CELL) → Agrees names ops (term.Node f (t ∷ u ∷ []))
          (if b then cell_shown (shows t) (shows u) else two_shown names ops true f (infix_of ops f) (shows t) (shows u))
          (if b then cell_derived ops (derives t) (derives u) else two_derived ops f (infix_of ops f) (derives t) (derives u))
      by true e = subst (λ g. Agrees names ops (term.Node g (t ∷ u ∷ [])) (cell_shown (shows t) (shows u)) (cell_derived ops (derives t) (derives u))) (sym (eqb-true f fixed.CELL (sym e)))
          (cell_agrees t u h.0 h.1.0)
      by false e = two_agree f t u (infix_of ops f) refl h.0 h.1.0 known
  compound_agrees f (t ∷ u ∷ v ∷ ts) h known some few = call_agrees f t (u ∷ v ∷ ts) h known few
