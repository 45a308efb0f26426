-- What the machine makes of words is a derivation of them.
use Rattle.std.proofs.Common.{arith, ◌≡◌, ◌≤◌, ℕ, List, [], ◌∷◌, ◌++◌, refl, ap, sym, ◌∙◌, subst, Bool, true, false}
use Rattle.std.specs.Prelude.{⊤, ◌&&◌, ◌||◌, ◌==◌, nat_le, Option, Some, None, if◌then◌else◌}
use Rattle.std.specs.List.{list_all}
use Rattle.std.proofs.lemmas.Bool.{and_parts, leb-true, le-leb}
use Rattle.std.proofs.lemmas.List.{append_assoc, append-nil}
use Rattle.term_core.specs.declared.operators.Op.{Op}
use Rattle.term_core.specs.declared.operators.Operators.{Operators}
use Rattle.term_core.specs.Operators.{prefix_of, infix_of, left_limit, right_limit}
use Rattle.ciao_reader.specs.declared.words.Word.{Word}
use Rattle.ciao_reader.specs.declared.words.Word.TheVariants as word
use Rattle.ciao_reader.specs.Derivations.{Tree, Trees, number, negative, variable, text, atom, call, before, between, one, more, words, words_of_all, infix_word, count, op_priority, priority, takes_one, takes_two, fits, all_fit, Derives}
use Rattle.ciao_reader.specs.Steps.{named, operator_of, operator_next}
use Rattle.ciao_reader.proofs.Climbing.{Frame, in_before, in_between, in_parens, in_braces, in_call, in_items, in_tail, State, need, have, done, stuck, put_before, need_before, need_number, need_call, no_item, no_brace, need_step, end_call, reduce_last, reduce_parens, reduce_braces, reduce_call, reduce_items, reduce_tail, reduce, have_at, step, Leads, here, goes}
use Rattle.ciao_reader.proofs.OneTree.{and_true, with_parts}

-- the words of trees, the last one first, each with a comma, before some words
abbrev pub put_words : List Tree → List Word → List Word
put_words [] ws = ws
put_words (d ∷ ds) ws = put_words ds (words d ++ (word.Comma ∷ ws))

-- all words, by those that stand where a tree is waited for
abbrev pub plug : List Frame → List Word → List Word
plug [] ws = ws
plug (in_before f q ∷ st) ws = plug st (word.Before f ∷ ws)
plug (in_between h l q ∷ st) ws = plug st (words l ++ (infix_word h ∷ ws))
plug (in_parens q ∷ st) ws = plug st (word.Paren ∷ ws)
plug (in_braces q ∷ st) ws = plug st (word.OpenCurly ∷ ws)
plug (in_call f ds q ∷ st) ws = plug st (word.Call f ∷ word.Paren ∷ put_words ds ws)
plug (in_items ds q ∷ st) ws = plug st (word.OpenList ∷ put_words ds ws)
plug (in_tail ts q ∷ st) ws = plug st (word.OpenList ∷ (words_of_all ts ++ (word.Bar ∷ ws)))

put_all : (ds : List Tree) (ts : Trees) (ws : List Word) → put_words ds (words_of_all ts ++ ws) ≡ (words_of_all (put_before ds ts) ++ ws)
put_all [] ts ws = refl
put_all (d ∷ ds) ts ws = ap (put_words ds) (sym (append_assoc (words d) (word.Comma ∷ words_of_all ts) ws)) ∙ put_all ds (more d ts) ws

abbrev limit_before : Option Op → ℕ
limit_before None = 0
limit_before (Some o) = right_limit o

module _ (ops : Operators) where
  -- the greatest priority of the tree that is waited for
  abbrev pub hole : List Frame → ℕ
  hole [] = 1200
  hole (in_before f q ∷ st) = limit_before (prefix_of ops f)
  hole (in_between h l q ∷ st) = limit_before (infix_of ops h)
  hole (in_parens q ∷ st) = 1200
  hole (in_braces q ∷ st) = 1200
  hole (in_call f ds q ∷ st) = 999
  hole (in_items ds q ∷ st) = 999
  hole (in_tail ts q ∷ st) = 999

  abbrev pub item_fits : Tree → Bool
  item_fits t = nat_le (priority ops t) 999 && fits ops t

  -- an operator is defined, and may stand where this priority is the greatest
  pub record IsOp (o : Option Op) (most : ℕ) : Type 0 where
    pub op : Op
    pub is : o ≡ Some op
    pub within : op.priority ≤ most

  -- the left argument goes with the operator
  pub record GoesWith (o : Option Op) (t : Tree) : Type 0 where
    pub op : Op
    pub is : o ≡ Some op
    pub left : priority ops t ≤ left_limit op
    pub allowed : fits ops t ≡ true

  -- what stands already is allowed
  abbrev pub Good : List Frame → Type 0
  Good [] = ⊤
  Good (in_before f q ∷ st) = IsOp (prefix_of ops f) q × (q ≡ hole st) × Good st
  Good (in_between h l q ∷ st) = IsOp (infix_of ops h) q × GoesWith (infix_of ops h) l × (q ≡ hole st) × Good st
  Good (in_parens q ∷ st) = (q ≡ hole st) × Good st
  Good (in_braces q ∷ st) = (q ≡ hole st) × Good st
  Good (in_call f ds q ∷ st) = (list_all item_fits ds ≡ true) × (q ≡ hole st) × Good st
  Good (in_items ds q ∷ st) = (list_all item_fits ds ≡ true) × (q ≡ hole st) × Good st
  Good (in_tail ts q ∷ st) = (all_fit ops ts ≡ true) × (q ≡ hole st) × Good st

  module _ (all : List Word) where
    pub record Needs (p : ℕ) (ws : List Word) (st : List Frame) : Type 0 where
      pub most : p ≡ hole st
      pub good : Good st
      pub spans : plug st ws ≡ all

    pub record Has (p : ℕ) (t : Tree) (ws : List Word) (st : List Frame) : Type 0 where
      pub most : p ≡ hole st
      pub allowed : fits ops t ≡ true
      pub within : priority ops t ≤ p
      pub good : Good st
      pub spans : plug st (words t ++ ws) ≡ all

    -- the state stands for all the words
    abbrev pub Stands : State → Type 0
    Stands (need p ws st) = Needs p ws st
    Stands (have p t ws st) = Has p t ws st
    Stands (done t) = Derives ops all 1200 t
    Stands stuck = ⊤

    primary : (p : ℕ) (t : Tree) (ws ws' : List Word) (st : List Frame) → Needs p ws st → priority ops t ≡ 0 → fits ops t ≡ true → ws ≡ (words t ++ ws') → Has p t ws' st
    primary p t ws ws' st n e f g = record { most = n.most; allowed = f; within = subst (λ x. x ≤ p) (sym e) (omega arith); good = n.good; spans = ap (plug st) (sym g) ∙ n.spans }

    before_stands : (o : Option Op) (f p : ℕ) (ws : List Word) (st : List Frame) → prefix_of ops f ≡ o → Needs p (word.Before f ∷ ws) st → Stands (need_before ops o f p ws st)
    before_stands None f p ws st e n = tt
    before_stands (Some o) f p ws st e n = by (nat_le o.priority p) refl
      where
        by : (b : Bool) → b ≡ nat_le o.priority p → Stands (if b then need (right_limit o) ws (in_before f p ∷ st) else stuck)
        by false l = tt
        by true l = record { most = ap limit_before (sym e); good = (record { op = o; is = e; within = leb-true _ _ (sym l) }, n.most, n.good); spans = n.spans }

    number_stands : (p : ℕ) (ws : List Word) (st : List Frame) → Needs p (word.Sign ∷ ws) st → Stands (need_number ops p ws st)
    number_stands p (word.Number n ∷ ws) st d = primary p (negative n) _ ws st d refl refl refl
    number_stands p ws st d = tt

    call_stands : (f p : ℕ) (ws : List Word) (st : List Frame) → Needs p (word.Call f ∷ ws) st → Stands (need_call ops f p ws st)
    call_stands f p (word.Paren ∷ ws) st n = record { most = refl; good = (refl, n.most, n.good); spans = n.spans }
    call_stands f p ws st n = tt

    no_item_stands : (p : ℕ) (ws : List Word) (st : List Frame) → Needs p (word.CloseList ∷ ws) st → Stands (no_item ops ws st)
    no_item_stands p ws (in_items [] q ∷ st) n = record { most = n.good.1; allowed = refl; within = omega arith; good = n.good.2; spans = n.spans }
    no_item_stands p ws st n = tt

    no_brace_stands : (p : ℕ) (ws : List Word) (st : List Frame) → Needs p (word.CloseCurly ∷ ws) st → Stands (no_brace ops ws st)
    no_brace_stands p ws (in_braces q ∷ st) n = record { most = n.good.0; allowed = refl; within = omega arith; good = n.good.1; spans = n.spans }
    no_brace_stands p ws st n = tt

    need_stands : (p : ℕ) (ws : List Word) (st : List Frame) → Needs p ws st → Stands (need_step ops p ws st)
    need_stands p (word.Number n ∷ ws) st d = primary p (number n) _ ws st d refl refl refl
    need_stands p (word.Variable v ∷ ws) st d = primary p (variable v) _ ws st d refl refl refl
    need_stands p (word.Text cs ∷ ws) st d = primary p (text cs) _ ws st d refl refl refl
    need_stands p (word.Atom a ∷ ws) st d = primary p (atom a) _ ws st d refl refl refl
    need_stands p (word.Sign ∷ ws) st d = number_stands p ws st d
    need_stands p (word.Call f ∷ ws) st d = call_stands f p ws st d
    need_stands p (word.Before f ∷ ws) st d = before_stands (prefix_of ops f) f p ws st refl d
    need_stands p (word.Paren ∷ ws) st d = record { most = refl; good = (d.most, d.good); spans = d.spans }
    need_stands p (word.OpenCurly ∷ ws) st d = record { most = refl; good = (d.most, d.good); spans = d.spans }
    need_stands p (word.OpenList ∷ ws) st d = record { most = refl; good = (refl, d.most, d.good); spans = d.spans }
    need_stands p (word.CloseList ∷ ws) st d = no_item_stands p ws st d
    need_stands p (word.CloseCurly ∷ ws) st d = no_brace_stands p ws st d
    need_stands p ws st d = tt

    -- the next trees up

    bracket : (a : List Word) (w : Word) (rest : List Word) → (a ++ (w ∷ [])) ++ rest ≡ a ++ (w ∷ rest)
    bracket a w rest = append_assoc a (w ∷ []) rest

    fits_all : (ds : List Tree) (ts : Trees) → list_all item_fits ds ≡ true → all_fit ops ts ≡ true → all_fit ops (put_before ds ts) ≡ true
    fits_all [] ts e f = f
    fits_all (d ∷ ds) ts e f = fits_all ds (more d ts) (and_parts _ _ e).1 (and_true _ _ (and_parts _ _ e).0 f)

    fits_item : (p : ℕ) (t : Tree) → p ≡ 999 → fits ops t ≡ true → priority ops t ≤ p → item_fits t ≡ true
    fits_item p t e f l = and_true _ _ (le-leb _ _ (omega (arith, e, l))) f

    last_stands : (p : ℕ) (t : Tree) (ws : List Word) → Has p t ws [] → Stands (reduce_last ops t ws)
    last_stands p t [] h = record { spans = sym (append-nil (words t)) ∙ h.spans; allowed = h.allowed; within = subst (λ x. priority ops t ≤ x) h.most h.within }
    last_stands p t (w ∷ ws) h = tt

    parens_stands : (p : ℕ) (t : Tree) (q : ℕ) (ws : List Word) (st : List Frame) → Has p t ws (in_parens q ∷ st) → Stands (reduce_parens ops t q ws st)
    parens_stands p t q (word.CloseParen ∷ ws) st h = record {
      most = h.good.0;
      allowed = and_true _ _ (le-leb _ _ (subst (λ x. priority ops t ≤ x) h.most h.within)) h.allowed;
      within = omega arith;
      good = h.good.1;
      spans = ap (λ x. plug st (word.Paren ∷ x)) (bracket (words t) word.CloseParen ws) ∙ h.spans;
    }
    parens_stands p t q ws st h = tt

    braces_stands : (p : ℕ) (t : Tree) (q : ℕ) (ws : List Word) (st : List Frame) → Has p t ws (in_braces q ∷ st) → Stands (reduce_braces ops t q ws st)
    braces_stands p t q (word.CloseCurly ∷ ws) st h = record {
      most = h.good.0;
      allowed = and_true _ _ (le-leb _ _ (subst (λ x. priority ops t ≤ x) h.most h.within)) h.allowed;
      within = omega arith;
      good = h.good.1;
      spans = ap (λ x. plug st (word.OpenCurly ∷ x)) (bracket (words t) word.CloseCurly ws) ∙ h.spans;
    }
    braces_stands p t q ws st h = tt

    end_stands : (p : ℕ) (t : Tree) (f : ℕ) (ds : List Tree) (q : ℕ) (ws : List Word) (st : List Frame) → Has p t (word.CloseParen ∷ ws) (in_call f ds q ∷ st) → Stands (end_call ops (put_before ds (one t)) f q ws st)
    end_stands p t f ds q ws st h = by (nat_le (count (put_before ds (one t))) 255) refl
      where
        ts : Trees
        ts = put_before ds (one t)

        by : (b : Bool) → b ≡ nat_le (count ts) 255 → Stands (if b then have q (call f ts) ws st else stuck)
        by false l = tt
        by true l = record {
          most = h.good.1;
          allowed = and_true _ _ (sym l) (fits_all ds (one t) h.good.0 (fits_item p t h.most h.allowed h.within));
          within = omega arith;
          good = h.good.2;
          spans = ap (λ x. plug st (word.Call f ∷ word.Paren ∷ x)) (bracket (words_of_all ts) word.CloseParen ws ∙ sym (put_all ds (one t) (word.CloseParen ∷ ws))) ∙ h.spans;
        }

    call_reduces : (p : ℕ) (t : Tree) (f : ℕ) (ds : List Tree) (q : ℕ) (ws : List Word) (st : List Frame) → Has p t ws (in_call f ds q ∷ st) → Stands (reduce_call ops t f ds q ws st)
    call_reduces p t f ds q (word.Comma ∷ ws) st h = record { most = refl; good = (and_true _ _ (fits_item p t h.most h.allowed h.within) h.good.0, h.good.1, h.good.2); spans = h.spans }
    call_reduces p t f ds q (word.CloseParen ∷ ws) st h = end_stands p t f ds q ws st h
    call_reduces p t f ds q ws st h = tt

    items_reduce : (p : ℕ) (t : Tree) (ds : List Tree) (q : ℕ) (ws : List Word) (st : List Frame) → Has p t ws (in_items ds q ∷ st) → Stands (reduce_items ops t ds q ws st)
    items_reduce p t ds q (word.Comma ∷ ws) st h = record { most = refl; good = (and_true _ _ (fits_item p t h.most h.allowed h.within) h.good.0, h.good.1, h.good.2); spans = h.spans }
    items_reduce p t ds q (word.Bar ∷ ws) st h = record {
      most = refl;
      good = (fits_all ds (one t) h.good.0 (fits_item p t h.most h.allowed h.within), h.good.1, h.good.2);
      spans = ap (λ x. plug st (word.OpenList ∷ x)) (sym (put_all ds (one t) (word.Bar ∷ ws))) ∙ h.spans;
    }
    items_reduce p t ds q (word.CloseList ∷ ws) st h = record {
      most = h.good.1;
      allowed = fits_all ds (one t) h.good.0 (fits_item p t h.most h.allowed h.within);
      within = omega arith;
      good = h.good.2;
      spans = ap (λ x. plug st (word.OpenList ∷ x)) (bracket (words_of_all (put_before ds (one t))) word.CloseList ws ∙ sym (put_all ds (one t) (word.CloseList ∷ ws))) ∙ h.spans;
    }
    items_reduce p t ds q ws st h = tt

    tail_reduces : (p : ℕ) (t : Tree) (ts : Trees) (q : ℕ) (ws : List Word) (st : List Frame) → Has p t ws (in_tail ts q ∷ st) → Stands (reduce_tail ops t ts q ws st)
    tail_reduces p t ts q (word.CloseList ∷ ws) st h = record {
      most = h.good.1;
      allowed = and_true _ _ h.good.0 (fits_item p t h.most h.allowed h.within);
      within = omega arith;
      good = h.good.2;
      spans = ap (λ x. plug st (word.OpenList ∷ x)) (append_assoc (words_of_all ts) (word.Bar ∷ (words t ++ (word.CloseList ∷ []))) ws ∙ ap (λ x. words_of_all ts ++ (word.Bar ∷ x)) (bracket (words t) word.CloseList ws)) ∙ h.spans;
    }
    tail_reduces p t ts q ws st h = tt

    -- an operator and its arguments
    prefix_reduces : (p : ℕ) (t : Tree) (f q : ℕ) (ws : List Word) (st : List Frame) → Has p t ws (in_before f q ∷ st) → Has q (before f t) ws st
    prefix_reduces p t f q ws st h =
        let is : prefix_of ops f ≡ Some h.good.0.op = h.good.0.is in
        let most : p ≡ right_limit h.good.0.op = h.most ∙ ap limit_before is in
        record {
          most = h.good.1;
          allowed = ap (λ x. takes_one x (priority ops t) && fits ops t) is ∙ and_true _ _ (le-leb _ _ (subst (λ x. priority ops t ≤ x) most h.within)) h.allowed;
          within = subst (λ x. op_priority x ≤ q) (sym is) h.good.0.within;
          good = h.good.2;
          spans = h.spans;
        }

    infix_reduces : (p : ℕ) (t : Tree) (g : ℕ) (l : Tree) (q : ℕ) (ws : List Word) (st : List Frame) → Has p t ws (in_between g l q ∷ st) → Has q (between g l t) ws st
    infix_reduces p t g l q ws st h =
        let is : infix_of ops g ≡ Some h.good.0.op = h.good.0.is in
        let most : p ≡ right_limit h.good.0.op = h.most ∙ ap limit_before is in
        let left : priority ops l ≤ left_limit h.good.0.op = subst (λ (x : Op). priority ops l ≤ left_limit x) (same (sym h.good.1.is ∙ is)) h.good.1.left in
        record {
          most = h.good.2;
          allowed = ap (λ x. takes_two x (priority ops l) (priority ops t) && (fits ops l && fits ops t)) is
              ∙ and_true _ _ (and_true _ _ (le-leb _ _ left) (le-leb _ _ (subst (λ x. priority ops t ≤ x) most h.within))) (and_true _ _ h.good.1.allowed h.allowed);
          within = subst (λ x. op_priority x ≤ q) (sym is) h.good.0.within;
          good = h.good.3;
          spans = ap (plug st) (append_assoc (words l) (infix_word g ∷ words t) ws) ∙ h.spans;
        }
      where
        same : {x y : Op} → Some x ≡ Some y → x ≡ y
        same e = cc

    reduce_stands : (p : ℕ) (t : Tree) (ws : List Word) (st : List Frame) → Has p t ws st → Stands (reduce ops t ws st)
    reduce_stands p t ws [] h = last_stands p t ws h
    reduce_stands p t ws (in_before f q ∷ st) h = prefix_reduces p t f q ws st h
    reduce_stands p t ws (in_between g l q ∷ st) h = infix_reduces p t g l q ws st h
    reduce_stands p t ws (in_parens q ∷ st) h = parens_stands p t q ws st h
    reduce_stands p t ws (in_braces q ∷ st) h = braces_stands p t q ws st h
    reduce_stands p t ws (in_call f ds q ∷ st) h = call_reduces p t f ds q ws st h
    reduce_stands p t ws (in_items ds q ∷ st) h = items_reduce p t ds q ws st h
    reduce_stands p t ws (in_tail ts q ∷ st) h = tail_reduces p t ts q ws st h

    -- the word of an operator, and its definition
    abbrev IsInfix : Word → ℕ → Op → Type 0
    IsInfix w g q = (w ≡ infix_word g) × (infix_of ops g ≡ Some q)

    infix_is : (w : Word) (f g : ℕ) (q : Op) → w ≡ infix_word f → named f (infix_of ops f) ≡ Some (g, q) → IsInfix w g q
    infix_is w f g q i e = let (d, o) = with_parts ops f g q (infix_of ops f) e in (i ∙ ap infix_word d, ap (infix_of ops) (sym d) ∙ o)

    between_is : (f g : ℕ) (q : Op) (b c : Bool) → b ≡ (f == 3) → c ≡ (f == 4) → (if b || c then None else named f (infix_of ops f)) ≡ Some (g, q) → IsInfix (word.Between f) g q
    between_is f g q true c d e h = cc
    between_is f g q false true d e h = cc
    between_is f g q false false d e h = infix_is (word.Between f) f g q (λ i. if d i then word.Comma else if e i then word.Bar else word.Between f) h

    word_is : (w : Word) (g : ℕ) (q : Op) → operator_of ops w ≡ Some (g, q) → IsInfix w g q
    word_is (word.Between f) g q e = between_is f g q (f == 3) (f == 4) refl refl e
    word_is word.Comma g q e = infix_is word.Comma 3 g q refl e
    word_is word.Bar g q e = infix_is word.Bar 4 g q refl e
    word_is w g q e = cc

    operator_stands : (p : ℕ) (t : Tree) (ws : List Word) (st : List Frame) (o : Option (ℕ × Op)) → operator_next ops ws ≡ o → Has p t ws st → Stands (have_at ops p t ws st o)
    operator_stands p t ws st None e h = reduce_stands p t ws st h
    operator_stands p t [] st (Some (g, q)) e h = cc
    operator_stands p t (w ∷ ws) st (Some (g, q)) e h = by (nat_le q.priority p) (nat_le (priority ops t) (left_limit q)) refl refl
      where
        by : (b c : Bool) → b ≡ nat_le q.priority p → c ≡ nat_le (priority ops t) (left_limit q) → Stands (if b && c then need (right_limit q) ws (in_between g t p ∷ st) else reduce ops t (w ∷ ws) st)
        by false c i j = reduce_stands p t (w ∷ ws) st h
        by true false i j = reduce_stands p t (w ∷ ws) st h
        by true true i j =
            let (is, defined) = word_is w g q e in
            record {
              most = ap limit_before (sym defined);
              good = (record { op = q; is = defined; within = leb-true _ _ (sym i) }, record { op = q; is = defined; left = leb-true _ _ (sym j); allowed = h.allowed }, h.most, h.good);
              spans = ap (λ x. plug st (words t ++ (x ∷ ws))) (sym is) ∙ h.spans;
            }

    step_stands : (s : State) → Stands s → Stands (step ops s)
    step_stands (need p ws st) h = need_stands p ws st h
    step_stands (have p t ws st) h = operator_stands p t ws st (operator_next ops ws) refl h
    step_stands (done t) h = h
    step_stands stuck h = h

    pub leads_stands : {s t : State} → Leads ops s t → Stands s → Stands t
    leads_stands (here e) h = subst Stands e h
    leads_stands {s = s} (goes l) h = leads_stands l (step_stands s h)

  pub sound : (ws : List Word) (t : Tree) → Leads ops (need 1200 ws []) (done t) → Derives ops ws 1200 t
  sound ws t l = leads_stands ws l (record { most = refl; good = tt; spans = refl })
