-- The variables of a sentence are numbered from 0 by first appearance.
use Rattle.std.proofs.Common.{arith, ◌≡◌, ◌<◌, ◌≤◌, ◌⊎◌, inl, inr, ℕ, zero, suc, List, [], ◌∷◌, ◌++◌, length, refl, ap, sym, ◌∙◌, Bool, true, false}
use Rattle.std.specs.Prelude.{◌&&◌, ◌||◌, ◌==◌, not, pos, nat_eq, flat_map, Option, Some, None, if◌then◌else◌}
use Rattle.std.specs.List.{list_any, position_or_len}
use Rattle.std.proofs.lemmas.List.{append_assoc, append-nil, length-append}
use Rattle.std.proofs.lemmas.List.Folds.{list_any-append}
use Rattle.std.proofs.lemmas.Bool.{and_parts, eq-eqb, ne_eqb, cases_lt}
use Rattle.term_core.specs.declared.fixed.TheConstants as fixed
use Rattle.term_core.specs.declared.terms.Term.{Term}
use Rattle.term_core.specs.declared.terms.Term as term
use Rattle.term_core.specs.Terms.{occurrences, occurrences_step, vars, with_new, with_all_new}
use Rattle.term_core.proofs.TermFolds.{fold-Var, fold-Int, fold-Atom, fold-Node}
use Rattle.term_core.proofs.VarLemmas.{flat_map_map, with_all_new_append}
use Rattle.term_core.specs.declared.operators.Op.{Op}
use Rattle.term_core.specs.declared.operators.Operators.{Operators}
use Rattle.term_core.specs.Operators.{prefix_of, right_limit}
use Rattle.ciao_tokens.specs.declared.kinds.Token.{Token}
use Rattle.ciao_tokens.specs.declared.kinds.TokenKind.{TokenKind}
use Rattle.ciao_tokens.specs.declared.kinds.TokenKind.TheVariants as kind
use Rattle.ciao_reader.specs.declared.words.Word.{Word}
use Rattle.ciao_reader.specs.declared.words.Word.TheVariants as word
use Rattle.ciao_reader.specs.Roles.{calls_next, number_next, stands_alone, operand_role, name_role, is_known, with_variable, spellings, due_behind, role, roles_from}
use Rattle.ciao_reader.specs.Derivations.{Tree, Trees, number, negative, variable, text, atom, no_items, no_braces, call, parens, braces, items, items_and_tail, before, between, one, more, words, words_of_all, infix_word}
use Rattle.ciao_reader.specs.Readings.{term_of, terms_of, list_term, codes_term}
use Rattle.ciao_reader.specs.Laws.{below, NumberedFromZero}
use Rattle.ciao_reader.proofs.Positions.{position_within}

-- the numbers of variables in words, in order
abbrev number_in : Word → List ℕ
number_in (word.Variable v) = v ∷ []
number_in other = []

abbrev pub numbers_in : List Word → List ℕ
numbers_in [] = []
numbers_in (w ∷ ws) = number_in w ++ numbers_in ws

numbers_append : (xs ys : List Word) → numbers_in (xs ++ ys) ≡ numbers_in xs ++ numbers_in ys
numbers_append [] ys = refl
numbers_append (x ∷ xs) ys = ap (λ ns. number_in x ++ ns) (numbers_append xs ys) ∙ sym (append_assoc (number_in x) (numbers_in xs) (numbers_in ys))

-- a term has the variables of its words

pub at_node : (f : ℕ) (ts : List Term) → occurrences (term.Node f ts) ≡ flat_map occurrences ts
at_node f ts = fold-Node (List ℕ) occurrences_step f ts ∙ flat_map_map occurrences ts

at_one : (f : ℕ) (t : Term) → occurrences (term.Node f (t ∷ [])) ≡ occurrences t
at_one f t = at_node f (t ∷ []) ∙ append-nil (occurrences t)

at_two : (f : ℕ) (t u : Term) → occurrences (term.Node f (t ∷ u ∷ [])) ≡ occurrences t ++ occurrences u
at_two f t u = at_node f (t ∷ u ∷ []) ∙ ap (λ ns. occurrences t ++ ns) (append-nil (occurrences u))

pub at_atom : (a : ℕ) → occurrences (term.Atom a) ≡ []
at_atom a = fold-Atom (List ℕ) occurrences_step a

at_list : (ts : List Term) (tail : Term) → occurrences (list_term ts tail) ≡ flat_map occurrences ts ++ occurrences tail
at_list [] tail = refl
at_list (t ∷ ts) tail = at_two fixed.CELL t (list_term ts tail) ∙ ap (λ ns. occurrences t ++ ns) (at_list ts tail) ∙ sym (append_assoc (occurrences t) (flat_map occurrences ts) (occurrences tail))

at_codes : (cs : List ℕ) → occurrences (codes_term cs) ≡ []
at_codes [] = at_atom fixed.NIL
at_codes (c ∷ cs) = at_two fixed.CELL (term.Int (pos c)) (codes_term cs) ∙ ap (λ ns. ns ++ occurrences (codes_term cs)) (fold-Int (List ℕ) occurrences_step (pos c)) ∙ at_codes cs

-- in brackets
closed : (xs : List Word) (w : Word) → number_in w ≡ [] → numbers_in (xs ++ w ∷ []) ≡ numbers_in xs
closed xs w e = numbers_append xs (w ∷ []) ∙ ap (λ ns. numbers_in xs ++ (ns ++ [])) e ∙ append-nil (numbers_in xs)

infix_number : (f : ℕ) → number_in (infix_word f) ≡ []
infix_number f = by (f == fixed.COMMA) (f == fixed.BAR)
  where
    by : (b c : Bool) → number_in (if b then word.Comma else if c then word.Bar else word.Between f) ≡ []
    by true c = refl
    by false true = refl
    by false false = refl

mutual
  pub same_numbers : (t : Tree) → occurrences (term_of t) ≡ numbers_in (words t)
  same_numbers (number n) = fold-Int (List ℕ) occurrences_step _
  same_numbers (negative n) = fold-Int (List ℕ) occurrences_step _
  same_numbers (variable v) = fold-Var (List ℕ) occurrences_step v
  same_numbers (text cs) = at_codes cs
  same_numbers (atom a) = at_atom a
  same_numbers no_items = at_atom fixed.NIL
  same_numbers no_braces = at_atom fixed.BRACES
  same_numbers (call f ts) = at_node f (terms_of ts) ∙ all_numbers ts ∙ sym (closed (words_of_all ts) word.CloseParen refl)
  same_numbers (parens t) = same_numbers t ∙ sym (closed (words t) word.CloseParen refl)
  same_numbers (braces t) = at_one fixed.BRACES (term_of t) ∙ same_numbers t ∙ sym (closed (words t) word.CloseCurly refl)
  same_numbers (items ts) =
      at_list (terms_of ts) (term.Atom fixed.NIL) ∙ ap (λ ns. flat_map occurrences (terms_of ts) ++ ns) (at_atom fixed.NIL) ∙ append-nil (flat_map occurrences (terms_of ts)) ∙ all_numbers ts
      ∙ sym (closed (words_of_all ts) word.CloseList refl)
  same_numbers (items_and_tail ts t) =
      at_list (terms_of ts) (term_of t) ∙ ap (λ ns. ns ++ occurrences (term_of t)) (all_numbers ts) ∙ ap (λ ns. numbers_in (words_of_all ts) ++ ns) (same_numbers t ∙ sym (closed (words t) word.CloseList refl))
      ∙ sym (numbers_append (words_of_all ts) (word.Bar ∷ (words t ++ (word.CloseList ∷ []))))
  same_numbers (before f t) = at_one f (term_of t) ∙ same_numbers t
  same_numbers (between f t u) =
      at_two f (term_of t) (term_of u) ∙ ap (λ ns. ns ++ occurrences (term_of u)) (same_numbers t) ∙ ap (λ ns. numbers_in (words t) ++ ns) (same_numbers u)
      ∙ ap (λ ns. numbers_in (words t) ++ (ns ++ numbers_in (words u))) (sym (infix_number f)) ∙ sym (numbers_append (words t) (infix_word f ∷ words u))

  all_numbers : (ts : Trees) → flat_map occurrences (terms_of ts) ≡ numbers_in (words_of_all ts)
  all_numbers (one t) = append-nil (occurrences (term_of t)) ∙ same_numbers t
  all_numbers (more t ts) = ap (λ ns. ns ++ flat_map occurrences (terms_of ts)) (same_numbers t) ∙ ap (λ ns. numbers_in (words t) ++ ns) (all_numbers ts) ∙ sym (numbers_append (words t) (word.Comma ∷ words_of_all ts))

-- the numbers below a bound

in_below : (n p : ℕ) → p < n → list_any (nat_eq p) (below n) ≡ true
in_below zero p l = absurd (omega (arith, l))
in_below (suc n) p l = list_any-append (nat_eq p) (below n) (n ∷ []) ∙ by (cases_lt p n) (in_below n p)
  where
    or_true : (b : Bool) → (b || true) ≡ true
    or_true true = refl
    or_true false = refl

    by : (p < n) ⊎ (n ≤ p) → (p < n → list_any (nat_eq p) (below n) ≡ true) → (list_any (nat_eq p) (below n) || (nat_eq p n || false)) ≡ true
    by (inl m) rest = ap (λ b. b || (nat_eq p n || false)) (rest m)
    by (inr m) rest = ap (λ b. list_any (nat_eq p) (below n) || (b || false)) (eq-eqb p n (omega (arith, l, m))) ∙ or_true (list_any (nat_eq p) (below n))

not_below : (n p : ℕ) → n ≤ p → list_any (nat_eq p) (below n) ≡ false
not_below zero p l = refl
not_below (suc n) p l =
    list_any-append (nat_eq p) (below n) (n ∷ []) ∙ ap (λ b. b || (nat_eq p n || false)) (not_below n p (omega (arith, l))) ∙ ap (λ b. b || false) (ne_eqb p n (λ e. omega (arith, l, e)))

old_number : (n p : ℕ) → p < n → with_new (below n) p ≡ below n
old_number n p l = ap (λ b. if b then below n else below n ++ p ∷ []) (in_below n p l)

new_number : (n : ℕ) → with_new (below n) n ≡ below (suc n)
new_number n = ap (λ b. if b then below n else below n ++ n ∷ []) (not_below n n (omega arith))

one_longer : (v : ℕ) (seen : List ℕ) → length (seen ++ v ∷ []) ≡ suc (length seen)
one_longer v seen = length-append seen (v ∷ []) ∙ omega arith

module _ (names : List (List ℕ)) (ops : Operators) where
  -- a name is no variable
  operand_number : (name : ℕ) (o : Option Op) (ts : List Token) → number_in (operand_role ops name o ts) ≡ []
  operand_number name None ts = refl
  operand_number name (Some o) ts = by (stands_alone ops (right_limit o) ts)
    where
      by : (b : Bool) → number_in (if b then word.Atom name else word.Before name) ≡ []
      by true = refl
      by false = refl

  name_number : (due : Bool) (name : ℕ) (is_minus : Bool) (ts : List Token) → number_in (name_role ops due name is_minus ts) ≡ []
  name_number due name is_minus ts = by (not due) (calls_next ts) (is_minus && number_next ts)
    where
      by : (b c d : Bool) → number_in (if b then word.Between name else if c then word.Call name else if d then word.Sign else operand_role ops name (prefix_of ops name) ts) ≡ []
      by true c d = refl
      by false true d = refl
      by false false true = refl
      by false false false = operand_number name (prefix_of ops name) ts

  -- a token's word adds the next number, or none
  token_number : (due : Bool) (seen : List ℕ) (k : TokenKind) (ts : List Token) → with_all_new (below (length seen)) (number_in (role names ops due seen k ts)) ≡ below (length (with_variable names seen k))
  token_number due seen (kind.Name name) ts = ap (with_all_new (below (length seen))) (name_number due name (name == fixed.MINUS) ts)
  token_number due seen (kind.Quoted name) ts = ap (with_all_new (below (length seen))) (name_number due name false ts)
  token_number due seen (kind.Variable v) ts = by (is_known names seen v) refl
    where
      by : (b : Bool) → b ≡ is_known names seen v → with_new (below (length seen)) (if b then position_or_len (nat_eq v) seen else length seen) ≡ below (length (if b then seen else seen ++ v ∷ []))
      by true e = old_number (length seen) (position_or_len (nat_eq v) seen) (position_within (nat_eq v) seen (and_parts _ _ (sym e)).1)
      by false e = new_number (length seen) ∙ ap below (sym (one_longer v seen))
  token_number due seen other ts = refl

  scan_numbers : (due : Bool) (seen : List ℕ) (ts : List Token) → with_all_new (below (length seen)) (numbers_in (roles_from names ops due seen ts)) ≡ below (length (spellings names seen ts))
  scan_numbers due seen [] = refl
  scan_numbers due seen (t ∷ ts) =
      let w = role names ops due seen t.kind ts in
      with_all_new_append (below (length seen)) (number_in w) (numbers_in (roles_from names ops (due_behind w) (with_variable names seen t.kind) ts))
      ∙ ap (λ ns. with_all_new ns (numbers_in (roles_from names ops (due_behind w) (with_variable names seen t.kind) ts))) (token_number due seen t.kind ts)
      ∙ scan_numbers (due_behind w) (with_variable names seen t.kind) ts

pub numbered_from_zero : NumberedFromZero
numbered_from_zero names ops ts s is =
    ap vars (sym is.reads.meaning) ∙ ap (with_all_new []) (same_numbers is.reads.tree ∙ ap numbers_in is.reads.derives.spans) ∙ scan_numbers names ops true [] ts ∙ ap below (sym is.vars)
