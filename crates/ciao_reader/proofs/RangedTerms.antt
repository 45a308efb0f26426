-- What is read from tokens in range is in range.
use Rattle.std.proofs.Common.{arith, ◌≡◌, ◌≤◌, ◌<◌, ℕ, zero, suc, ◌+◌, Bool, true, false, List, [], ◌∷◌, ◌++◌, map, length, inl, inr, refl, sym, ap, ◌∙◌, subst}
use Rattle.std.proofs.lemmas.Bool.{and_parts}
use Rattle.std.proofs.lemmas.Bool.Decides.{nat_tests}
use Rattle.std.proofs.lemmas.List.{length-map, length-append}
use Rattle.std.specs.Prelude.{◌&&◌, ◌==◌, not, nat_lt, nat_le, ⊤, pos, Option, Some, None, if◌then◌else◌}
use Rattle.std.specs.List.{list_all, AllByRecursion}
use Rattle.term_core.specs.declared.fixed.TheConstants as fixed
use Rattle.term_core.specs.Names.{fixed_names, with_texts}
use Rattle.term_core.specs.Lists.{IsPrefix}
use Rattle.term_core.specs.Terms.{vars, above}
use Rattle.term_core.specs.Ranges.{is_compound, has_names, has_names_step, IsInRange, RangesStay}
use Rattle.term_core.specs.Operators.{prefix_of, right_limit}
use Rattle.term_core.specs.declared.operators.Op.{Op}
use Rattle.term_core.specs.declared.operators.Operators.{Operators}
use Rattle.term_core.specs.declared.terms.Term.{Term, Var, Int, Atom, Node}
use Rattle.term_core.proofs.TermFolds.{fold-Var, fold-Int, fold-Atom, fold-Node}
use Rattle.ciao_tokens.specs.Ranges.{IsNamedBelow, AreNamedBelow, TokensAreNamed}
use Rattle.ciao_tokens.specs.declared.kinds.Token.{Token}
use Rattle.ciao_tokens.specs.declared.kinds.TokenKind.{TokenKind}
use Rattle.ciao_tokens.specs.declared.kinds.TokenKind.TheVariants as kind
use Rattle.ciao_reader.specs.declared.words.Word.{Word}
use Rattle.ciao_reader.specs.declared.words.Word.TheVariants as word
use Rattle.ciao_reader.specs.Roles.{calls_next, number_next, stands_alone, operand_role, name_role, with_variable, due_behind, role, roles_from, roles}
use Rattle.ciao_reader.specs.Derivations.{Tree, Trees, number, negative, variable, text, atom, no_items, no_braces, call, parens, braces, items, items_and_tail, before, between, one, more, infix_word, words, words_of_all, count, takes_one, takes_two, op_priority, priority, fits, all_fit}
use Rattle.ciao_reader.specs.Readings.{term_of, terms_of, list_term, codes_term}

-- lists whose items all pass

pub all_parts : {A : Type 0} (P : A → Type 0) (xs ys : List A) → AllByRecursion P (xs ++ ys) → AllByRecursion P xs × AllByRecursion P ys
all_parts P [] ys h = (tt, h)
all_parts P (x ∷ xs) ys h = let rest = all_parts P xs ys h.1 in ((h.0, rest.0), rest.1)

both : (a b : Bool) → a ≡ true → b ≡ true → (a && b) ≡ true
both true b e h = h
both false b e h = cc

-- names below a number, above that of the bar
module _ (n : ℕ) (enough : fixed.BAR < n) where
  -- words

  abbrev IsWordNamed : Word → Type 0
  IsWordNamed (word.Atom f) = f < n
  IsWordNamed (word.Call f) = f < n
  IsWordNamed (word.Before f) = f < n
  IsWordNamed (word.Between f) = f < n
  IsWordNamed other = ⊤

  abbrev AreWordsNamed : List Word → Type 0
  AreWordsNamed = AllByRecursion IsWordNamed

  module _ (names : List (List ℕ)) (ops : Operators) where
    operand_named : (name : ℕ) → name < n → (o : Option Op) (ts : List Token) → IsWordNamed (operand_role ops name o ts)
    operand_named name lt None ts = lt
    operand_named name lt (Some o) ts = by (stands_alone ops (right_limit o) ts)
      where
        by : (b : Bool) → IsWordNamed (if b then word.Atom name else word.Before name)
        by true = lt
        by false = lt

    name_named : (due : Bool) (name : ℕ) → name < n → (is_minus : Bool) (ts : List Token) → IsWordNamed (name_role ops due name is_minus ts)
    name_named due name lt is_minus ts = by (not due) (calls_next ts) (is_minus && number_next ts)
      where
        by : (b c d : Bool) → IsWordNamed (if b then word.Between name else if c then word.Call name else if d then word.Sign else operand_role ops name (prefix_of ops name) ts)
        by true c d = lt
        by false true d = lt
        by false false true = tt
        by false false false = operand_named name lt (prefix_of ops name) ts

    token_named : (due : Bool) (seen : List ℕ) (k : TokenKind) (ts : List Token) → IsNamedBelow n k → IsWordNamed (role names ops due seen k ts)
    token_named due seen (kind.Name name) ts lt = name_named due name lt (name == fixed.MINUS) ts
    token_named due seen (kind.Quoted name) ts lt = name_named due name lt false ts
    token_named due seen other ts h = tt

    scan_named : (due : Bool) (seen : List ℕ) (ts : List Token) → AreNamedBelow n ts → AreWordsNamed (roles_from names ops due seen ts)
    scan_named due seen [] h = tt
    scan_named due seen (t ∷ ts) h = (token_named due seen t.kind ts h.0, scan_named (due_behind (role names ops due seen t.kind ts)) (with_variable names seen t.kind) ts h.1)

  -- terms

  lt_true : (f : ℕ) → f < n → nat_lt f n ≡ true
  lt_true f lt = grind (arith, nat_tests)

  le_true : (a b : ℕ) → a ≤ b → nat_le a b ≡ true
  le_true a b le = grind (arith, nat_tests)

  abbrev AllNamed : List Term → Type 0
  AllNamed ts = list_all (λ part. part) (map (has_names n) ts) ≡ true

  atom_named : (a : ℕ) → a < n → has_names n (Atom a) ≡ true
  atom_named a lt = fold-Atom Bool (has_names_step n) a ∙ lt_true a lt

  node_named : (f : ℕ) (ts : List Term) → f < n → 1 ≤ length ts → length ts ≤ 255 → AllNamed ts → has_names n (Node f ts) ≡ true
  node_named f ts lt some few named =
      let same : length (map (has_names n) ts) ≡ length ts = length-map ts (has_names n) in
      fold-Node Bool (has_names_step n) f ts ∙ both (nat_lt f n) _ (lt_true f lt) (both _ _ (both _ _ (le_true 1 (length (map (has_names n) ts)) (omega (arith, same, some))) (le_true (length (map (has_names n) ts)) 255 (omega (arith, same, few)))) named)

  pair_named : (t u : Term) → has_names n t ≡ true → has_names n u ≡ true → AllNamed (t ∷ u ∷ [])
  pair_named t u e f = both (has_names n t) _ e (both (has_names n u) true f refl)

  single_named : (t : Term) → has_names n t ≡ true → AllNamed (t ∷ [])
  single_named t e = both (has_names n t) true e refl

  list_named : (ts : List Term) (tail : Term) → AllNamed ts → has_names n tail ≡ true → has_names n (list_term ts tail) ≡ true
  list_named [] tail h e = e
  list_named (t ∷ ts) tail h e =
      let parts = and_parts (has_names n t) _ h in
      node_named fixed.CELL (t ∷ list_term ts tail ∷ []) (omega (arith, enough)) (omega arith) (omega arith) (pair_named t (list_term ts tail) parts.0 (list_named ts tail parts.1 e))

  codes_named : (cs : List ℕ) → has_names n (codes_term cs) ≡ true
  codes_named [] = atom_named fixed.NIL (omega (arith, enough))
  codes_named (c ∷ cs) =
      node_named fixed.CELL (Int (pos c) ∷ codes_term cs ∷ []) (omega (arith, enough)) (omega arith) (omega arith) (pair_named (Int (pos c)) (codes_term cs) (fold-Int Bool (has_names_step n) (pos c)) (codes_named cs))

  infix_named : (f : ℕ) → IsWordNamed (infix_word f) → f < n
  infix_named f h = by (f == fixed.COMMA) (f == fixed.BAR) refl refl h
    where
      is_comma : true ≡ (f == fixed.COMMA) → f ≡ fixed.COMMA
      is_comma e = grind (arith, nat_tests)

      is_bar : true ≡ (f == fixed.BAR) → f ≡ fixed.BAR
      is_bar e = grind (arith, nat_tests)

      by : (b c : Bool) → b ≡ (f == fixed.COMMA) → c ≡ (f == fixed.BAR) → IsWordNamed (if b then word.Comma else if c then word.Bar else word.Between f) → f < n
      by true c e d h = let p : _ = is_comma e in omega (arith, p, enough)
      by false true e d h = let p : _ = is_bar d in omega (arith, p, enough)
      by false false e d h = h

  as_many : (ts : Trees) → (length (terms_of ts) ≡ count ts) × (1 ≤ count ts)
  as_many (one t) = (refl, omega arith)
  as_many (more t ts) = let rest = as_many ts in let p : _ = rest.0 in (omega (arith, p), omega arith)

  module _ (ops : Operators) where
    at_most : (ts : Trees) → nat_le (count ts) 255 ≡ true → count ts ≤ 255
    at_most ts e = grind (arith, nat_tests)

    mutual
      tree_named : (t : Tree) → AreWordsNamed (words t) → fits ops t ≡ true → has_names n (term_of t) ≡ true
      tree_named (number k) h e = fold-Int Bool (has_names_step n) _
      tree_named (negative k) h e = fold-Int Bool (has_names_step n) _
      tree_named (variable v) h e = fold-Var Bool (has_names_step n) v
      tree_named (text cs) h e = codes_named cs
      tree_named (atom a) h e = atom_named a h.0
      tree_named no_items h e = atom_named fixed.NIL (omega (arith, enough))
      tree_named no_braces h e = atom_named fixed.BRACES (omega (arith, enough))
      tree_named (call f ts) h e =
          let allowed = and_parts (nat_le (count ts) 255) (all_fit ops ts) e in
          let many = as_many ts in
          let few : _ = at_most ts allowed.0 in
          let same : _ = many.0 in
          let some : _ = many.1 in
          node_named f (terms_of ts) h.0 (omega (arith, same, some)) (omega (arith, same, few)) (trees_named ts (all_parts IsWordNamed (words_of_all ts) _ h.1.1).0 allowed.1)
      tree_named (parens t) h e = tree_named t (all_parts IsWordNamed (words t) _ h.1).0 (and_parts (nat_le (priority ops t) 1200) (fits ops t) e).1
      tree_named (braces t) h e =
          node_named fixed.BRACES (term_of t ∷ []) (omega (arith, enough)) (omega arith) (omega arith)
          (single_named (term_of t) (tree_named t (all_parts IsWordNamed (words t) _ h.1).0 (and_parts (nat_le (priority ops t) 1200) (fits ops t) e).1))
      tree_named (items ts) h e = list_named (terms_of ts) (Atom fixed.NIL) (trees_named ts (all_parts IsWordNamed (words_of_all ts) _ h.1).0 e) (atom_named fixed.NIL (omega (arith, enough)))
      tree_named (items_and_tail ts t) h e =
          let parts = all_parts IsWordNamed (words_of_all ts) _ h.1 in
          let allowed = and_parts (all_fit ops ts) _ e in
          list_named (terms_of ts) (term_of t) (trees_named ts parts.0 allowed.0) (tree_named t (all_parts IsWordNamed (words t) _ parts.1.1).0 (and_parts (nat_le (priority ops t) 999) (fits ops t) allowed.1).1)
      tree_named (before f t) h e = node_named f (term_of t ∷ []) h.0 (omega arith) (omega arith) (single_named (term_of t) (tree_named t h.1 (and_parts (takes_one (prefix_of ops f) (priority ops t)) (fits ops t) e).1))
      tree_named (between f t u) h e =
          let parts = all_parts IsWordNamed (words t) _ h in
          let allowed = and_parts (fits ops t) (fits ops u) (and_parts _ (fits ops t && fits ops u) e).1 in
          node_named f (term_of t ∷ term_of u ∷ []) (infix_named f parts.1.0) (omega arith) (omega arith) (pair_named (term_of t) (term_of u) (tree_named t parts.0 allowed.0) (tree_named u parts.1.1 allowed.1))

      trees_named : (ts : Trees) → AreWordsNamed (words_of_all ts) → all_fit ops ts ≡ true → AllNamed (terms_of ts)
      trees_named (one t) h e = single_named (term_of t) (tree_named t h (and_parts (nat_le (priority ops t) 999) (fits ops t) e).1)
      trees_named (more t ts) h e =
          let parts = all_parts IsWordNamed (words t) _ h in
          let allowed = and_parts (nat_le (priority ops t) 999 && fits ops t) (all_fit ops ts) e in
          both (has_names n (term_of t)) _ (tree_named t parts.0 (and_parts (nat_le (priority ops t) 999) (fits ops t) allowed.0).1) (trees_named ts parts.1.1 allowed.1)

  -- what is read from tokens in range
  pub read_named : (names : List (List ℕ)) (ops : Operators) (ts : List Token) (tree : Tree) → AreNamedBelow n ts → words tree ≡ roles names ops ts → fits ops tree ≡ true → has_names n (term_of tree) ≡ true
  read_named names ops ts tree named spans allowed = tree_named ops tree (subst AreWordsNamed (sym spans) (scan_named names ops true [] ts named)) allowed
