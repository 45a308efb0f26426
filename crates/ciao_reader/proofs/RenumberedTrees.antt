-- A derivation with other variables: its words, what it means, and that it fits as before.
use Rattle.std.proofs.Common.{◌≡◌, ℕ, Bool, true, false, List, [], ◌∷◌, ◌++◌, map, refl, sym, ap, ap₂, ◌∙◌}
use Rattle.std.specs.Prelude.{not, ◌&&◌, ◌||◌, ◌+◌, ◌==◌, nat_le, pos, if◌then◌else◌}
use Rattle.std.proofs.lemmas.List.{map-append}
use Rattle.term_core.specs.declared.fixed.TheConstants as fixed
use Rattle.term_core.specs.Operators.{prefix_of, infix_of}
use Rattle.term_core.specs.Terms.{instance, instance_step}
use Rattle.term_core.specs.declared.terms.Term.{Term}
use Rattle.term_core.specs.declared.terms.Term as term
use Rattle.term_core.specs.declared.operators.Operators.{Operators}
use Rattle.term_core.proofs.TermFolds.{fold-Var, fold-Int, fold-Atom, fold-Node}
use Rattle.ciao_reader.specs.declared.words.Word.{Word}
use Rattle.ciao_reader.specs.declared.words.Word.TheVariants as word
use Rattle.ciao_reader.specs.Derivations.{Tree, Trees, number, negative, variable, text, atom, no_items, no_braces, call, parens, braces, items, items_and_tail, before, between, one, more, words, words_of_all, infix_word, count, priority, fits, all_fit, takes_one, takes_two}
use Rattle.ciao_reader.specs.Readings.{term_of, terms_of, list_term, codes_term}
use Rattle.ciao_reader.specs.Sentences.{is_large, is_sign}
use Rattle.ciao_reader.proofs.PrintedWords.{has_none_large}

module _ (new : ℕ → ℕ) where
  -- a word with the new number of its variable
  abbrev renumbered_word : Word → Word
  renumbered_word (word.Variable v) = word.Variable (new v)
  renumbered_word other = other

  abbrev pub renumbered_words : List Word → List Word
  renumbered_words ws = map renumbered_word ws

  abbrev mutual
    -- a derivation with the new number of each variable
    pub renumbered : Tree → Tree
    renumbered (variable v) = variable (new v)
    renumbered (call f ts) = call f (all_renumbered ts)
    renumbered (parens t) = parens (renumbered t)
    renumbered (braces t) = braces (renumbered t)
    renumbered (items ts) = items (all_renumbered ts)
    renumbered (items_and_tail ts t) = items_and_tail (all_renumbered ts) (renumbered t)
    renumbered (before f t) = before f (renumbered t)
    renumbered (between f t u) = between f (renumbered t) (renumbered u)
    renumbered leaf = leaf

    pub all_renumbered : Trees → Trees
    all_renumbered (one t) = one (renumbered t)
    all_renumbered (more t ts) = more (renumbered t) (all_renumbered ts)

  -- words

  -- words, and what stands behind them
  then_words : (ws us vs : List Word) → us ≡ renumbered_words ws → (rest : List Word) → vs ≡ renumbered_words rest → us ++ vs ≡ renumbered_words (ws ++ rest)
  then_words ws us vs e rest d = ap (λ xs. xs ++ vs) e ∙ ap (λ xs. renumbered_words ws ++ xs) d ∙ sym (map-append renumbered_word ws rest)

  infix_same : (f : ℕ) → infix_word f ≡ renumbered_word (infix_word f)
  infix_same f = by (f == fixed.COMMA) (f == fixed.BAR)
    where
      by : (b c : Bool) → (if b then word.Comma else if c then word.Bar else word.Between f) ≡ renumbered_word (if b then word.Comma else if c then word.Bar else word.Between f)
      by true c = refl
      by false true = refl
      by false false = refl

  mutual
    pub words_renumbered : (t : Tree) → words (renumbered t) ≡ renumbered_words (words t)
    words_renumbered (call f ts) = ap (λ ws. word.Call f ∷ word.Paren ∷ ws) (then_words (words_of_all ts) _ (word.CloseParen ∷ []) (all_words_renumbered ts) (word.CloseParen ∷ []) refl)
    words_renumbered (parens t) = ap (λ ws. word.Paren ∷ ws) (then_words (words t) _ (word.CloseParen ∷ []) (words_renumbered t) (word.CloseParen ∷ []) refl)
    words_renumbered (braces t) = ap (λ ws. word.OpenCurly ∷ ws) (then_words (words t) _ (word.CloseCurly ∷ []) (words_renumbered t) (word.CloseCurly ∷ []) refl)
    words_renumbered (items ts) = ap (λ ws. word.OpenList ∷ ws) (then_words (words_of_all ts) _ (word.CloseList ∷ []) (all_words_renumbered ts) (word.CloseList ∷ []) refl)
    words_renumbered (items_and_tail ts t) =
        ap (λ ws. word.OpenList ∷ ws) (then_words (words_of_all ts) _ _ (all_words_renumbered ts) (word.Bar ∷ (words t ++ (word.CloseList ∷ [])))
        (ap (λ ws. word.Bar ∷ ws) (then_words (words t) _ (word.CloseList ∷ []) (words_renumbered t) (word.CloseList ∷ []) refl)))
    words_renumbered (before f t) = ap (λ ws. word.Before f ∷ ws) (words_renumbered t)
    words_renumbered (between f t u) =
        then_words (words t) _ _ (words_renumbered t) (infix_word f ∷ words u) (ap (λ w. w ∷ words (renumbered u)) (infix_same f) ∙ ap (λ ws. renumbered_word (infix_word f) ∷ ws) (words_renumbered u))
    words_renumbered leaf = refl

    all_words_renumbered : (ts : Trees) → words_of_all (all_renumbered ts) ≡ renumbered_words (words_of_all ts)
    all_words_renumbered (one t) = words_renumbered t
    all_words_renumbered (more t ts) = then_words (words t) _ _ (words_renumbered t) (word.Comma ∷ words_of_all ts) (ap (λ ws. word.Comma ∷ ws) (all_words_renumbered ts))

  large_same : (w : Word) → is_large (renumbered_word w) ≡ is_large w
  large_same (word.Variable v) = refl
  large_same other = refl

  sign_same : (w : Word) → is_sign (renumbered_word w) ≡ is_sign w
  sign_same (word.Variable v) = refl
  sign_same other = refl

  pub none_large_renumbered : (signed : Bool) (ws : List Word) → has_none_large signed (renumbered_words ws) ≡ has_none_large signed ws
  none_large_renumbered signed [] = refl
  none_large_renumbered signed (w ∷ ws) =
      ap (λ b. (not b || signed) && has_none_large (is_sign (renumbered_word w)) (renumbered_words ws)) (large_same w)
      ∙ ap (λ b. (not (is_large w) || signed) && has_none_large b (renumbered_words ws)) (sign_same w)
      ∙ ap (λ b. (not (is_large w) || signed) && b) (none_large_renumbered (is_sign w) ws)

  -- what is allowed

  counts_same : (ts : Trees) → count (all_renumbered ts) ≡ count ts
  counts_same (one t) = refl
  counts_same (more t ts) = ap (λ n. n + 1) (counts_same ts)

  module _ (ops : Operators) where
    pub priority_renumbered : (t : Tree) → priority ops (renumbered t) ≡ priority ops t
    priority_renumbered (number n) = refl
    priority_renumbered leaf = refl

    -- two tests, each as before
    both : {a b c d : Bool} → a ≡ c → b ≡ d → (a && b) ≡ (c && d)
    both e d = ap₂ (λ x y. x && y) e d

    within : (limit : ℕ) (t : Tree) → fits ops (renumbered t) ≡ fits ops t → (nat_le (priority ops (renumbered t)) limit && fits ops (renumbered t)) ≡ (nat_le (priority ops t) limit && fits ops t)
    within limit t same = both (ap (λ p. nat_le p limit) (priority_renumbered t)) same

    mutual
      pub fits_renumbered : (t : Tree) → fits ops (renumbered t) ≡ fits ops t
      fits_renumbered (call f ts) = both (ap (λ n. nat_le n 255) (counts_same ts)) (all_fit_renumbered ts)
      fits_renumbered (parens t) = within 1200 t (fits_renumbered t)
      fits_renumbered (braces t) = within 1200 t (fits_renumbered t)
      fits_renumbered (items ts) = all_fit_renumbered ts
      fits_renumbered (items_and_tail ts t) = both (all_fit_renumbered ts) (within 999 t (fits_renumbered t))
      fits_renumbered (before f t) = both (ap (takes_one (prefix_of ops f)) (priority_renumbered t)) (fits_renumbered t)
      fits_renumbered (between f t u) =
          both (ap (λ p. takes_two (infix_of ops f) p (priority ops (renumbered u))) (priority_renumbered t) ∙ ap (takes_two (infix_of ops f) (priority ops t)) (priority_renumbered u))
          (both (fits_renumbered t) (fits_renumbered u))
      fits_renumbered leaf = refl

      all_fit_renumbered : (ts : Trees) → all_fit ops (all_renumbered ts) ≡ all_fit ops ts
      all_fit_renumbered (one t) = within 999 t (fits_renumbered t)
      all_fit_renumbered (more t ts) = both (within 999 t (fits_renumbered t)) (all_fit_renumbered ts)

  -- what it means

  -- the term with these variables in the place of its own
  abbrev pub with_variables : Term → Term
  with_variables = instance (λ v. term.Var (new v))

  at_node : (f : ℕ) (ts : List Term) → with_variables (term.Node f ts) ≡ term.Node f (map with_variables ts)
  at_node f ts = fold-Node Term (instance_step (λ v. term.Var (new v))) f ts

  at_atom : (a : ℕ) → with_variables (term.Atom a) ≡ term.Atom a
  at_atom a = fold-Atom Term (instance_step (λ v. term.Var (new v))) a

  at_list : (ts : List Term) (tail : Term) → with_variables (list_term ts tail) ≡ list_term (map with_variables ts) (with_variables tail)
  at_list [] tail = refl
  at_list (t ∷ ts) tail = at_node fixed.CELL (t ∷ list_term ts tail ∷ []) ∙ ap (λ u. term.Node fixed.CELL (with_variables t ∷ u ∷ [])) (at_list ts tail)

  at_codes : (cs : List ℕ) → with_variables (codes_term cs) ≡ codes_term cs
  at_codes [] = at_atom fixed.NIL
  at_codes (c ∷ cs) =
      at_node fixed.CELL (term.Int (pos c) ∷ codes_term cs ∷ [])
      ∙ ap (λ t. term.Node fixed.CELL (t ∷ with_variables (codes_term cs) ∷ [])) (fold-Int Term (instance_step (λ v. term.Var (new v))) (pos c))
      ∙ ap (λ t. term.Node fixed.CELL (term.Int (pos c) ∷ t ∷ [])) (at_codes cs)

  mutual
    pub term_renumbered : (t : Tree) → term_of (renumbered t) ≡ with_variables (term_of t)
    term_renumbered (number n) = sym (fold-Int Term (instance_step (λ v. term.Var (new v))) _)
    term_renumbered (negative n) = sym (fold-Int Term (instance_step (λ v. term.Var (new v))) _)
    term_renumbered (variable v) = sym (fold-Var Term (instance_step (λ w. term.Var (new w))) v)
    term_renumbered (text cs) = sym (at_codes cs)
    term_renumbered (atom a) = sym (at_atom a)
    term_renumbered no_items = sym (at_atom fixed.NIL)
    term_renumbered no_braces = sym (at_atom fixed.BRACES)
    term_renumbered (call f ts) = ap (term.Node f) (terms_renumbered ts) ∙ sym (at_node f (terms_of ts))
    term_renumbered (parens t) = term_renumbered t
    term_renumbered (braces t) = ap (λ u. term.Node fixed.BRACES (u ∷ [])) (term_renumbered t) ∙ sym (at_node fixed.BRACES (term_of t ∷ []))
    term_renumbered (items ts) =
        ap (λ us. list_term us (term.Atom fixed.NIL)) (terms_renumbered ts) ∙ ap (list_term (map with_variables (terms_of ts))) (sym (at_atom fixed.NIL)) ∙ sym (at_list (terms_of ts) (term.Atom fixed.NIL))
    term_renumbered (items_and_tail ts t) =
        ap (λ us. list_term us (term_of (renumbered t))) (terms_renumbered ts) ∙ ap (list_term (map with_variables (terms_of ts))) (term_renumbered t) ∙ sym (at_list (terms_of ts) (term_of t))
    term_renumbered (before f t) = ap (λ u. term.Node f (u ∷ [])) (term_renumbered t) ∙ sym (at_node f (term_of t ∷ []))
    term_renumbered (between f t u) =
        ap (λ w. term.Node f (w ∷ term_of (renumbered u) ∷ [])) (term_renumbered t) ∙ ap (λ w. term.Node f (with_variables (term_of t) ∷ w ∷ [])) (term_renumbered u) ∙ sym (at_node f (term_of t ∷ term_of u ∷ []))

    terms_renumbered : (ts : Trees) → terms_of (all_renumbered ts) ≡ map with_variables (terms_of ts)
    terms_renumbered (one t) = ap (λ u. u ∷ []) (term_renumbered t)
    terms_renumbered (more t ts) = ap₂ (λ u us. u ∷ us) (term_renumbered t) (terms_renumbered ts)
