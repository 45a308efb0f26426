-- The scan tells the tokens of what is printed with the words that they are.
use Rattle.std.proofs.Common.{◌≡◌, ℕ, Bool, true, false, List, [], ◌∷◌, ◌++◌, refl, ap, sym, ◌∙◌}
use Rattle.std.specs.Prelude.{◌&&◌, ◌==◌, is_some, if◌then◌else◌, Option, Some, None}
use Rattle.std.proofs.lemmas.Bool.{and_parts, and_right, cond-true, cond-false, leb-true, true≢false, false≢true}
use Rattle.std.proofs.lemmas.List.{append_assoc, append-nil}
use Rattle.term_core.specs.declared.fixed.TheConstants as fixed
use Rattle.term_core.specs.declared.operators.Op.{Op}
use Rattle.term_core.specs.declared.operators.Operators.{Operators}
use Rattle.term_core.specs.Operators.{prefix_of, right_limit}
use Rattle.ciao_tokens.specs.declared.kinds.Token.{Token}
use Rattle.ciao_tokens.specs.declared.kinds.TokenKind.TheVariants as kind
use Rattle.ciao_reader.specs.declared.words.Word.{Word}
use Rattle.ciao_reader.specs.declared.words.Word.TheVariants as word
use Rattle.ciao_reader.specs.Roles.{is_open_call, calls_next, is_number, number_next, stands_alone, operand_role, name_role, due_behind, roles_from, roles}
use Rattle.ciao_reader.specs.Derivations.{Tree, Trees, number, negative, variable, text, atom, no_items, no_braces, call, parens, braces, items, items_and_tail, before, between, one, more, words, words_of_all, infix_word, priority, takes_one, fits, all_fit}
use Rattle.ciao_reader.proofs.PrintedTrees.{is_guarded, is_operand, all_guarded}
use Rattle.ciao_reader.proofs.PrintedWords.{Spaced, blank, one_word, spaced_infix, spaced, spaced_of_all, name_kind, kind_of, token_of, tokens_of, seen_after, numbered_word, numbered_words}
use Rattle.ciao_reader.proofs.PrintedEdges.{no_operator, holds}

module _ (names : List (List ℕ)) (spelling : ℕ → ℕ) where
  -- the words with their variables numbered, and behind them what is told by the spellings up to there
  abbrev told : List ℕ → List Word → (List ℕ → List Word) → List Word
  told seen [] onward = onward seen
  told seen (w ∷ ws) onward = numbered_word names spelling seen w ∷ told (seen_after names spelling seen w) ws onward

  -- of one list behind another
  told_both : (seen : List ℕ) (ws vs : List Word) (onward : List ℕ → List Word) → told seen (ws ++ vs) onward ≡ told seen ws (λ s. told s vs onward)
  told_both seen [] vs onward = refl
  told_both seen (w ∷ ws) vs onward = ap (λ us. numbered_word names spelling seen w ∷ us) (told_both (seen_after names spelling seen w) ws vs onward)

  told_same : (seen : List ℕ) (ws : List Word) (a b : List ℕ → List Word) → ((s : List ℕ) → a s ≡ b s) → told seen ws a ≡ told seen ws b
  told_same seen [] a b e = e seen
  told_same seen (w ∷ ws) a b e = ap (λ us. numbered_word names spelling seen w ∷ us) (told_same (seen_after names spelling seen w) ws a b e)

  told_alone : (seen : List ℕ) (ws : List Word) → told seen ws (λ s. []) ≡ numbered_words names spelling seen ws
  told_alone seen [] = refl
  told_alone seen (w ∷ ws) = ap (λ us. numbered_word names spelling seen w ∷ us) (told_alone (seen_after names spelling seen w) ws)

-- nothing comes next, or a word that ends a term
abbrev closes : List Spaced → Bool
closes [] = true
closes (one_word word.CloseParen ∷ bs) = true
closes (one_word word.CloseList ∷ bs) = true
closes (one_word word.CloseCurly ∷ bs) = true
closes (one_word word.Comma ∷ bs) = true
closes (one_word word.Bar ∷ bs) = true
closes other = false

-- what holds before nothing and before each word that ends a term
by_closing : (P : List Spaced → Type 0) → P [] → ((bs : List Spaced) → P (one_word word.CloseParen ∷ bs)) → ((bs : List Spaced) → P (one_word word.CloseList ∷ bs)) → ((bs : List Spaced) → P (one_word word.CloseCurly ∷ bs))
    → ((bs : List Spaced) → P (one_word word.Comma ∷ bs)) → ((bs : List Spaced) → P (one_word word.Bar ∷ bs)) → (bs : List Spaced) → closes bs ≡ true → P bs
by_closing P none paren list curly comma bar [] e = none
by_closing P none paren list curly comma bar (one_word word.CloseParen ∷ bs) e = paren bs
by_closing P none paren list curly comma bar (one_word word.CloseList ∷ bs) e = list bs
by_closing P none paren list curly comma bar (one_word word.CloseCurly ∷ bs) e = curly bs
by_closing P none paren list curly comma bar (one_word word.Comma ∷ bs) e = comma bs
by_closing P none paren list curly comma bar (one_word word.Bar ∷ bs) e = bar bs
by_closing P none paren list curly comma bar bs e = absurd (false≢true e)

module _ (names : List (List ℕ)) (ops : Operators) (spelling : ℕ → ℕ) (is_bare : ℕ → Bool) where
  -- what ends a term comes behind this one, or a blank behind one that is no atom of an operator
  abbrev may_follow : Tree → List Spaced → Bool
  may_follow t (blank ∷ rest) = is_operand ops t
  may_follow t rest = closes rest

  abbrev tokens : Bool → Bool → List Spaced → List Token
  tokens = tokens_of spelling is_bare

  -- what is told behind a term
  abbrev behind : List Spaced → List ℕ → List Word
  behind rest seen = roles_from names ops false seen (tokens false false rest)

  -- what ends a term may follow each term, and an argument of an operator all that the operator's term may
  closing_follows : (t : Tree) (rest : List Spaced) → closes rest ≡ true → may_follow t rest ≡ true
  closing_follows t (blank ∷ rest) e = absurd (false≢true e)
  closing_follows t [] e = e
  closing_follows t (one_word w ∷ rest) e = e

  operand_follows : (t u : Tree) (rest : List Spaced) → is_operand ops t ≡ true → may_follow u rest ≡ true → may_follow t rest ≡ true
  operand_follows t u (blank ∷ rest) e m = e
  operand_follows t u [] e m = m
  operand_follows t u (one_word w ∷ rest) e m = m

  -- names

  -- a name that has this role, quoted or not
  name_told : (due behind_layout : Bool) (seen : List ℕ) (f : ℕ) (w : Word) (ts : List Token) → ((is_minus : Bool) → name_role ops due f is_minus ts ≡ w)
      → roles_from names ops due seen (token_of spelling is_bare (name_kind spelling is_bare f) behind_layout ∷ ts) ≡ w ∷ roles_from names ops (due_behind w) seen ts
  name_told due bl seen f w ts e = by (is_bare f)
    where
      by : (b : Bool) → roles_from names ops due seen (token_of spelling is_bare (if b then kind.Name f else kind.Quoted f) bl ∷ ts) ≡ w ∷ roles_from names ops (due_behind w) seen ts
      by true = ap (λ v. v ∷ roles_from names ops (due_behind v) seen ts) (e (f == fixed.MINUS))
      by false = ap (λ v. v ∷ roles_from names ops (due_behind v) seen ts) (e false)

  -- a name where an operand is due, that calls nothing and is no sign
  operand_is : (f : ℕ) (w : Word) (ts : List Token) → calls_next ts ≡ false → number_next ts ≡ false → operand_role ops f (prefix_of ops f) ts ≡ w → (is_minus : Bool) → name_role ops true f is_minus ts ≡ w
  operand_is f w ts c n e m = cond-false (calls_next ts) _ _ c ∙ cond-false (m && number_next ts) _ _ (and_right m (number_next ts) n) ∙ e

  name_opens_none : (f : ℕ) → is_open_call (name_kind spelling is_bare f) ≡ false
  name_opens_none f = by (is_bare f)
    where
      by : (b : Bool) → is_open_call (if b then kind.Name f else kind.Quoted f) ≡ false
      by true = refl
      by false = refl

  opens_none : (w : Word) → is_open_call (kind_of spelling is_bare false w) ≡ false
  opens_none (word.Atom a) = name_opens_none a
  opens_none (word.Call f) = name_opens_none f
  opens_none (word.Before f) = name_opens_none f
  opens_none (word.Between f) = name_opens_none f
  opens_none w = refl

  -- behind no name, nothing is called
  none_called : (behind_layout : Bool) (bs : List Spaced) → calls_next (tokens false behind_layout bs) ≡ false
  none_called bl [] = refl
  none_called bl (blank ∷ bs) = none_called true bs
  none_called bl (one_word w ∷ bs) = opens_none w

  -- behind layout, no number makes a `-` a sign
  none_signed : (behind_name : Bool) (bs : List Spaced) → number_next (tokens behind_name true bs) ≡ false
  none_signed bn [] = refl
  none_signed bn (blank ∷ bs) = none_signed false bs
  none_signed bn (one_word w ∷ bs) = and_right (is_number (kind_of spelling is_bare bn w)) false refl

  -- what comes behind leaves the name an atom
  record Leaves (a : ℕ) (rest : List Spaced) : Type 0 where
    pub calls : calls_next (tokens true false rest) ≡ false
    pub signs : number_next (tokens true false rest) ≡ false
    pub role : operand_role ops a (prefix_of ops a) (tokens true false rest) ≡ word.Atom a
    pub same : tokens true false rest ≡ tokens false false rest

  no_prefix : (a : ℕ) (o : Option Op) (ts : List Token) → is_some o ≡ false → operand_role ops a o ts ≡ word.Atom a
  no_prefix a None ts e = refl
  no_prefix a (Some o) ts e = absurd (true≢false e)

  alone : (a : ℕ) (o : Option Op) (ts : List Token) → ((limit : ℕ) → stands_alone ops limit ts ≡ true) → operand_role ops a o ts ≡ word.Atom a
  alone a None ts e = refl
  alone a (Some o) ts e = cond-true (stands_alone ops (right_limit o) ts) _ _ (e (right_limit o))

  closing_leaves : (a : ℕ) (rest : List Spaced) → closes rest ≡ true → Leaves a rest
  closing_leaves a rest e = record {
    calls = by_closing (λ bs. calls_next (tokens true false bs) ≡ false) refl (λ bs. refl) (λ bs. refl) (λ bs. refl) (λ bs. refl) (λ bs. refl) rest e;
    signs = by_closing (λ bs. number_next (tokens true false bs) ≡ false) refl (λ bs. refl) (λ bs. refl) (λ bs. refl) (λ bs. refl) (λ bs. refl) rest e;
    role = alone a (prefix_of ops a) (tokens true false rest)
        (λ limit. by_closing (λ bs. stands_alone ops limit (tokens true false bs) ≡ true) refl (λ bs. refl) (λ bs. refl) (λ bs. refl) (λ bs. refl) (λ bs. refl) rest e);
    same = by_closing (λ bs. tokens true false bs ≡ tokens false false bs) refl (λ bs. refl) (λ bs. refl) (λ bs. refl) (λ bs. refl) (λ bs. refl) rest e;
  }

  leaves : (a : ℕ) (rest : List Spaced) → may_follow (atom a) rest ≡ true → Leaves a rest
  leaves a [] e = closing_leaves a [] e
  leaves a (one_word w ∷ rest) e = closing_leaves a (one_word w ∷ rest) e
  leaves a (blank ∷ rest) e = record { calls = none_called true rest; signs = none_signed false rest; role = no_prefix a (prefix_of ops a) (tokens false true rest) (no_operator ops a e).0; same = refl }

  -- terms

  -- the tokens of the term are told with its words, whatever may follow
  abbrev IsTold : Tree → Type 0
  IsTold t = (behind_name behind_layout : Bool) (seen : List ℕ) (rest : List Spaced) → may_follow t rest ≡ true
      → roles_from names ops true seen (tokens behind_name behind_layout (spaced t ++ rest)) ≡ told names spelling seen (words t) (behind rest)

  abbrev AreTold : Trees → Type 0
  AreTold ts = (behind_name behind_layout : Bool) (seen : List ℕ) (rest : List Spaced) → closes rest ≡ true
      → roles_from names ops true seen (tokens behind_name behind_layout (spaced_of_all ts ++ rest)) ≡ told names spelling seen (words_of_all ts) (behind rest)

  atom_told : (a : ℕ) → IsTold (atom a)
  atom_told a bn bl seen rest m =
      let l = leaves a rest m in
      let ts = tokens true false rest in
      name_told true bl seen a (word.Atom a) ts (operand_is a (word.Atom a) ts l.calls l.signs l.role) ∙ ap (λ us. word.Atom a ∷ roles_from names ops false seen us) l.same

  -- a term up to the word behind it
  ended : (t : Tree) → IsTold t → (behind_layout : Bool) (seen : List ℕ) (w : Word) (rest : List Spaced) → closes (one_word w ∷ rest) ≡ true
      → roles_from names ops true seen (tokens false behind_layout ((spaced t ++ (one_word w ∷ [])) ++ rest)) ≡ told names spelling seen (words t) (behind (one_word w ∷ rest))
  ended t told_t bl seen w rest e =
      ap (λ bs. roles_from names ops true seen (tokens false bl bs)) (append_assoc (spaced t) (one_word w ∷ []) rest) ∙ told_t false bl seen (one_word w ∷ rest) (closing_follows t (one_word w ∷ rest) e)

  all_ended : (ts : Trees) → AreTold ts → (seen : List ℕ) (w : Word) (rest : List Spaced) → closes (one_word w ∷ rest) ≡ true
      → roles_from names ops true seen (tokens false false ((spaced_of_all ts ++ (one_word w ∷ [])) ++ rest)) ≡ told names spelling seen (words_of_all ts) (behind (one_word w ∷ rest))
  all_ended ts told_ts seen w rest e =
      ap (λ bs. roles_from names ops true seen (tokens false false bs)) (append_assoc (spaced_of_all ts) (one_word w ∷ []) rest) ∙ told_ts false false seen (one_word w ∷ rest) e

  call_told : (f : ℕ) (ts : Trees) → AreTold ts → IsTold (call f ts)
  call_told f ts told_ts bn bl seen rest m =
      name_told true bl seen f (word.Call f) (tokens true false (one_word word.Paren ∷ ((spaced_of_all ts ++ (one_word word.CloseParen ∷ [])) ++ rest))) (λ is_minus. refl)
      ∙ ap (λ ws. word.Call f ∷ word.Paren ∷ ws) (all_ended ts told_ts seen word.CloseParen rest refl ∙ sym (told_both names spelling seen (words_of_all ts) (word.CloseParen ∷ []) (behind rest)))

  parens_told : (t : Tree) → IsTold t → IsTold (parens t)
  parens_told t told_t bn bl seen rest m = by bn
    where
      inner : roles_from names ops true seen (tokens false false ((spaced t ++ (one_word word.CloseParen ∷ [])) ++ rest)) ≡ told names spelling seen (words t ++ (word.CloseParen ∷ [])) (behind rest)
      inner = ended t told_t false seen word.CloseParen rest refl ∙ sym (told_both names spelling seen (words t) (word.CloseParen ∷ []) (behind rest))

      by : (b : Bool) → roles_from names ops true seen (tokens b bl (spaced (parens t) ++ rest)) ≡ told names spelling seen (words (parens t)) (behind rest)
      by true = ap (λ ws. word.Paren ∷ ws) inner
      by false = ap (λ ws. word.Paren ∷ ws) inner

  braces_told : (t : Tree) → IsTold t → IsTold (braces t)
  braces_told t told_t bn bl seen rest m =
      ap (λ ws. word.OpenCurly ∷ ws) (ended t told_t false seen word.CloseCurly rest refl ∙ sym (told_both names spelling seen (words t) (word.CloseCurly ∷ []) (behind rest)))

  items_told : (ts : Trees) → AreTold ts → IsTold (items ts)
  items_told ts told_ts bn bl seen rest m =
      ap (λ ws. word.OpenList ∷ ws) (all_ended ts told_ts seen word.CloseList rest refl ∙ sym (told_both names spelling seen (words_of_all ts) (word.CloseList ∷ []) (behind rest)))

  tail_told : (ts : Trees) (t : Tree) → AreTold ts → IsTold t → IsTold (items_and_tail ts t)
  tail_told ts t told_ts told_t bn bl seen rest m =
      ap (λ ws. word.OpenList ∷ ws) (
      ap (λ bs. roles_from names ops true seen (tokens false false bs)) (append_assoc (spaced_of_all ts) (one_word word.Bar ∷ (spaced t ++ (one_word word.CloseList ∷ []))) rest)
      ∙ told_ts false false seen (one_word word.Bar ∷ ((spaced t ++ (one_word word.CloseList ∷ [])) ++ rest)) refl
      ∙ told_same names spelling seen (words_of_all ts) _ _ (λ s. ap (λ ws. word.Bar ∷ ws) (ended t told_t false s word.CloseList rest refl ∙ sym (told_both names spelling s (words t) (word.CloseList ∷ []) (behind rest))))
      ∙ sym (told_both names spelling seen (words_of_all ts) (word.Bar ∷ (words t ++ (word.CloseList ∷ []))) (behind rest)))

  more_told : (t : Tree) (ts : Trees) → IsTold t → AreTold ts → AreTold (more t ts)
  more_told t ts told_t told_ts bn bl seen rest e =
      ap (λ bs. roles_from names ops true seen (tokens bn bl bs)) (append_assoc (spaced t) (one_word word.Comma ∷ spaced_of_all ts) rest)
      ∙ told_t bn bl seen (one_word word.Comma ∷ (spaced_of_all ts ++ rest)) (closing_follows t (one_word word.Comma ∷ (spaced_of_all ts ++ rest)) refl)
      ∙ told_same names spelling seen (words t) _ _ (λ s. ap (λ ws. word.Comma ∷ ws) (told_ts false false s rest e))
      ∙ sym (told_both names spelling seen (words t) (word.Comma ∷ words_of_all ts) (behind rest))

  before_told : (f : ℕ) (t : Tree) (o : Option Op) → prefix_of ops f ≡ o → takes_one o (priority ops t) ≡ true → fits ops t ≡ true → is_guarded ops t ≡ true → is_operand ops t ≡ true → IsTold t → IsTold (before f t)
  before_told f t None d k fit guarded operand told_t bn bl seen rest m = absurd (false≢true k)
  before_told f t (Some o) d k fit guarded operand told_t bn bl seen rest m =
      let ts = tokens false true (spaced t ++ rest) in
      let stays : stands_alone ops (right_limit o) ts ≡ false = holds ops spelling is_bare (right_limit o) t false true rest fit guarded operand (leb-true _ _ k) in
      let role_is : operand_role ops f (prefix_of ops f) ts ≡ word.Before f = ap (λ x. operand_role ops f x ts) d ∙ cond-false (stands_alone ops (right_limit o) ts) _ _ stays in
      name_told true bl seen f (word.Before f) ts (operand_is f (word.Before f) ts (none_called true (spaced t ++ rest)) (none_signed false (spaced t ++ rest)) role_is)
      ∙ ap (λ ws. word.Before f ∷ ws) (told_t false true seen rest (operand_follows t (before f t) rest operand m))

  -- the word of an infix operator and its right argument
  right_told : (f : ℕ) (u : Tree) → IsTold u → (seen : List ℕ) (rest : List Spaced) → may_follow u rest ≡ true
      → behind (spaced_infix f ++ (spaced u ++ rest)) seen ≡ told names spelling seen (infix_word f ∷ words u) (behind rest)
  right_told f u told_u seen rest m = by (f == fixed.COMMA) (f == fixed.BAR)
    where
      by : (b c : Bool) → behind ((if b then one_word word.Comma ∷ [] else if c then blank ∷ one_word word.Bar ∷ blank ∷ [] else blank ∷ one_word (word.Between f) ∷ blank ∷ []) ++ (spaced u ++ rest)) seen
          ≡ told names spelling seen ((if b then word.Comma else if c then word.Bar else word.Between f) ∷ words u) (behind rest)
      by true c = ap (λ ws. word.Comma ∷ ws) (told_u false false seen rest m)
      by false true = ap (λ ws. word.Bar ∷ ws) (told_u false true seen rest m)
      by false false = name_told false true seen f (word.Between f) (tokens false true (spaced u ++ rest)) (λ is_minus. refl) ∙ ap (λ ws. word.Between f ∷ ws) (told_u false true seen rest m)

  -- an infix operator may stand behind its left argument
  infix_follows : (f : ℕ) (t : Tree) (bs : List Spaced) → is_operand ops t ≡ true → may_follow t (spaced_infix f ++ bs) ≡ true
  infix_follows f t bs e = by (f == fixed.COMMA) (f == fixed.BAR)
    where
      by : (b c : Bool) → may_follow t ((if b then one_word word.Comma ∷ [] else if c then blank ∷ one_word word.Bar ∷ blank ∷ [] else blank ∷ one_word (word.Between f) ∷ blank ∷ []) ++ bs) ≡ true
      by true c = refl
      by false true = e
      by false false = e

  between_told : (f : ℕ) (t u : Tree) → is_operand ops t ≡ true → is_operand ops u ≡ true → IsTold t → IsTold u → IsTold (between f t u)
  between_told f t u left right told_t told_u bn bl seen rest m =
      ap (λ bs. roles_from names ops true seen (tokens bn bl bs)) (append_assoc (spaced t) (spaced_infix f ++ spaced u) rest ∙ ap (λ bs. spaced t ++ bs) (append_assoc (spaced_infix f) (spaced u) rest))
      ∙ told_t bn bl seen (spaced_infix f ++ (spaced u ++ rest)) (infix_follows f t (spaced u ++ rest) left)
      ∙ told_same names spelling seen (words t) _ _ (λ s. right_told f u told_u s rest (operand_follows u (between f t u) rest right m))
      ∙ sym (told_both names spelling seen (words t) (infix_word f ∷ words u) (behind rest))

  mutual
    is_told : (t : Tree) → fits ops t ≡ true → is_guarded ops t ≡ true → IsTold t
    is_told (number n) f g = λ bn bl seen rest m. refl
    is_told (negative n) f g = λ bn bl seen rest m. refl
    is_told (variable v) f g = λ bn bl seen rest m. refl
    is_told (text cs) f g = λ bn bl seen rest m. refl
    is_told (atom a) f g = atom_told a
    is_told no_items f g = λ bn bl seen rest m. refl
    is_told no_braces f g = λ bn bl seen rest m. refl
    is_told (call h ts) f g = call_told h ts (are_told ts (and_parts _ _ f).1 g)
    is_told (parens t) f g = parens_told t (is_told t (and_parts _ _ f).1 g)
    is_told (braces t) f g = braces_told t (is_told t (and_parts _ _ f).1 g)
    is_told (items ts) f g = items_told ts (are_told ts f g)
    is_told (items_and_tail ts t) f g = tail_told ts t (are_told ts (and_parts _ _ f).0 (and_parts _ _ g).0) (is_told t (and_parts _ _ (and_parts _ _ f).1).1 (and_parts _ _ g).1)
    is_told (before h t) f g =
        let (takes, fit) = and_parts _ _ f in
        let (operand, guarded) = and_parts _ _ g in
        before_told h t (prefix_of ops h) refl takes fit guarded operand (is_told t fit guarded)
    is_told (between h t u) f g =
        let (left_fits, right_fits) = and_parts _ _ (and_parts _ _ f).1 in
        let (operands, guarded) = and_parts _ _ g in
        between_told h t u (and_parts _ _ operands).0 (and_parts _ _ operands).1 (is_told t left_fits (and_parts _ _ guarded).0) (is_told u right_fits (and_parts _ _ guarded).1)

    are_told : (ts : Trees) → all_fit ops ts ≡ true → all_guarded ops ts ≡ true → AreTold ts
    are_told (one t) f g = λ bn bl seen rest e. is_told t (and_parts _ _ f).1 g bn bl seen rest (closing_follows t rest e)
    are_told (more t ts) f g = more_told t ts (is_told t (and_parts _ _ (and_parts _ _ f).0).1 (and_parts _ _ g).0) (are_told ts (and_parts _ _ f).1 (and_parts _ _ g).1)

  -- the roles of what is printed of a tree are its words, with its variables numbered
  pub printed_roles : (t : Tree) → fits ops t ≡ true → is_guarded ops t ≡ true → roles names ops (tokens_of spelling is_bare false false (spaced t)) ≡ numbered_words names spelling [] (words t)
  printed_roles t f g =
      ap (λ bs. roles names ops (tokens false false bs)) (sym (append-nil (spaced t))) ∙ is_told t f g false false [] [] (closing_follows t [] refl) ∙ told_alone names spelling [] (words t)
