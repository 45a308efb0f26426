-- Words have one tree, whatever the table, as long as no two operators of one priority could both be the root.
use Rattle.std.proofs.Common.{arith, ◌≡◌, ◌<◌, ◌≤◌, ◌⊎◌, inl, inr, ℕ, zero, suc, List, [], ◌∷◌, ◌++◌, refl, ap, sym, ◌∙◌, subst, Bool, true, false}
use Rattle.std.specs.Prelude.{◌&&◌, ◌||◌, ◌==◌, Option, Some, None, if◌then◌else◌, nat_le}
use Rattle.std.proofs.lemmas.Bool.{and_parts, leb-true, le-leb, lt-leb, eqb-true}
use Rattle.std.proofs.lemmas.List.{append_assoc, append-nil}
use Rattle.term_core.specs.declared.operators.Op.{Op}
use Rattle.term_core.specs.declared.operators.OpKind.{OpKind}
use Rattle.term_core.specs.declared.operators.OpKind.TheVariants.{Xfx, Xfy, Yfx, Fy, Fx}
use Rattle.term_core.specs.declared.operators.Operators.{Operators}
use Rattle.term_core.specs.Operators.{prefix_of, infix_of, left_limit, right_limit}
use Rattle.term_core.specs.OperatorLaws.{HasOneRoot}
use Rattle.ciao_reader.specs.declared.words.Word.{Word}
use Rattle.ciao_reader.specs.declared.words.Word.TheVariants as word
use Rattle.ciao_reader.specs.Derivations.{Tree, Trees, number, negative, variable, text, atom, no_items, no_braces, call, parens, braces, items, items_and_tail, before, between, one, more, words, words_of_all, infix_word, count, priority, op_priority, takes_one, takes_two, fits, all_fit, Derives}
use Rattle.ciao_reader.specs.Laws.{OneTree}
use Rattle.ciao_reader.specs.Steps.{named, operator_of, operator_next}
use Rattle.ciao_reader.proofs.Climbing.{Frame, in_before, in_between, in_parens, in_braces, in_call, in_items, in_tail, State, need, have, done, stuck, put_before, need_before, end_call, have_at, reduce, step, Leads, here, goes}

limit_of : (k : OpKind) (p : ℕ) → right_limit (record { priority = p; kind = k }) ≤ p
limit_of Xfx p = omega arith
limit_of Xfy p = omega arith
limit_of Yfx p = omega arith
limit_of Fy p = omega arith
limit_of Fx p = omega arith

left_limit_of : (k : OpKind) (p : ℕ) → left_limit (record { priority = p; kind = k }) ≤ p
left_limit_of Xfx p = omega arith
left_limit_of Xfy p = omega arith
left_limit_of Yfx p = omega arith
left_limit_of Fy p = omega arith
left_limit_of Fx p = omega arith

pub left_le : (o : Op) → left_limit o ≤ o.priority
left_le o = left_limit_of o.kind o.priority

abbrev limit_or : Option Op → ℕ
limit_or None = 0
limit_or (Some o) = left_limit o

limit : (o : Op) → right_limit o ≤ o.priority
limit o = limit_of o.kind o.priority

if_true : {X : Type 0} (b : Bool) (x y : X) → b ≡ true → (if b then x else y) ≡ x
if_true true x y e = refl
if_true false x y e = cc

if_false : {X : Type 0} (b : Bool) (x y : X) → b ≡ false → (if b then x else y) ≡ y
if_false true x y e = cc
if_false false x y e = refl

pub and_true : (b c : Bool) → b ≡ true → c ≡ true → (b && c) ≡ true
and_true true true e f = refl
and_true true false e f = cc
and_true false c e f = cc

and_false : (b c : Bool) → b ≡ false → (b && c) ≡ false
and_false true c e = cc
and_false false c e = refl

abbrev first_or : ℕ → Option (ℕ × Op) → ℕ
first_or f None = f
first_or f (Some (h, q)) = h

abbrev second : Option (ℕ × Op) → Option Op
second None = None
second (Some (h, q)) = Some q

module _ (ops : Operators) where
  append_leads : {s t u : State} → Leads ops s t → Leads ops t u → Leads ops s u
  append_leads {u = u} (here e) m = subst (λ x. Leads ops x u) (sym e) m
  append_leads (goes l) m = goes (append_leads l m)

  -- a step that is known
  pub from : {s t u : State} → s ≡ t → Leads ops t u → Leads ops s u
  from e m = append_leads (here e) m

  -- no operator that begins the words goes with so low a priority
  abbrev Closed : ℕ → List Word → Type 0
  Closed p ws = (h : ℕ) (q : Op) → operator_next ops ws ≡ Some (h, q) → p < q.priority

  -- the tree does not grow below this priority, but may be the left argument of what comes
  abbrev Ends : ℕ → Tree → List Word → Type 0
  Ends p t ws = (h : ℕ) (q : Op) → operator_next ops ws ≡ Some (h, q) → (priority ops t ≤ left_limit q) ⊎ (p < q.priority)

  ends_closed : (p : ℕ) (t : Tree) (ws : List Word) → Closed p ws → Ends p t ws
  ends_closed p t ws c h q e = inr (c h q e)

  -- the step at a tree that does not grow
  closed_at : (p : ℕ) (t : Tree) (ws : List Word) (st : List Frame) (o : Option (ℕ × Op)) → ((h : ℕ) (q : Op) → o ≡ Some (h, q) → p < q.priority) → have_at ops p t ws st o ≡ reduce ops t ws st
  closed_at p t ws st None c = refl
  closed_at p t ws st (Some (h, q)) c = if_false _ _ _ (and_false _ _ (lt-leb q.priority p (c h q refl)))

  closed_step : (p : ℕ) (t : Tree) (ws : List Word) (st : List Frame) → Closed p ws → step ops (have p t ws st) ≡ reduce ops t ws st
  closed_step p t ws st c = closed_at p t ws st (operator_next ops ws) c

  -- and at one that does
  grows : (p : ℕ) (t : Tree) (w : Word) (ws : List Word) (st : List Frame) (h : ℕ) (q : Op) → operator_of ops w ≡ Some (h, q) → q.priority ≤ p → priority ops t ≤ left_limit q
      → step ops (have p t (w ∷ ws) st) ≡ need (right_limit q) ws (in_between h t p ∷ st)
  grows p t w ws st h q e l m = ap (have_at ops p t (w ∷ ws) st) e ∙ if_true _ _ _ (and_true _ _ (le-leb q.priority p l) (le-leb (priority ops t) (left_limit q) m))

  word_at : (f : ℕ) (b c : Bool) → b ≡ (f == 3) → c ≡ (f == 4) → operator_of ops (if b then word.Comma else if c then word.Bar else word.Between f) ≡ named f (infix_of ops f)
  word_at f true c e d = ap (λ x. named x (infix_of ops x)) (sym (eqb-true f 3 (sym e)))
  word_at f false true e d = ap (λ x. named x (infix_of ops x)) (sym (eqb-true f 4 (sym d)))
  word_at f false false e d = if_false _ _ _ (ap (λ b. b || (f == 4)) (sym e) ∙ sym d)

  word_is : (f : ℕ) → operator_of ops (infix_word f) ≡ named f (infix_of ops f)
  word_is f = word_at f (f == 3) (f == 4) refl refl

  pub with_parts : (f h : ℕ) (q : Op) (o : Option Op) → named f o ≡ Some (h, q) → (f ≡ h) × (o ≡ Some q)
  with_parts f h q None e = absurd (cc_none e)
    where
      cc_none : ◌≡◌ {A = Option (ℕ × Op)} None (Some (h, q)) → ⊥
      cc_none d = cc
  with_parts f h q (Some r) e = (ap (first_or f) e, ap second e)

  with_defined : (f h : ℕ) (q : Op) → named f (infix_of ops f) ≡ Some (h, q) → infix_of ops h ≡ Some q
  with_defined f h q e = let (d, i) = with_parts f h q (infix_of ops f) e in ap (infix_of ops) (sym d) ∙ i

  between_defined : (f h : ℕ) (q : Op) (b : Bool) → (if b then None else named f (infix_of ops f)) ≡ Some (h, q) → infix_of ops h ≡ Some q
  between_defined f h q true e = cc
  between_defined f h q false e = with_defined f h q e

  -- an operator at the front is defined
  is_defined : (ws : List Word) (h : ℕ) (q : Op) → operator_next ops ws ≡ Some (h, q) → infix_of ops h ≡ Some q
  is_defined (word.Between f ∷ ws) h q e = between_defined f h q (f == 3 || f == 4) e
  is_defined (word.Comma ∷ ws) h q e = with_defined 3 h q e
  is_defined (word.Bar ∷ ws) h q e = with_defined 4 h q e
  is_defined ws h q e = cc

  module _ (table : HasOneRoot ops) where
    -- behind an operator of this priority, what may follow it does not go with its right argument
    closed_behind : (f p : ℕ) (o : Op) (t : Tree) (ws : List Word) → infix_of ops f ≡ Some o → priority ops t ≡ o.priority → o.priority ≤ p → Ends p t ws → Closed (right_limit o) ws
    closed_behind f p o t ws d e l c h q at = by (c h q at)
      where
        by : (priority ops t ≤ left_limit q) ⊎ (p < q.priority) → right_limit o < q.priority
        by (inl m) = table.infix_ties f h o q d (is_defined ws h q at) (subst (λ n. n ≤ left_limit q) e m)
        by (inr m) = omega (arith, m, l, limit o)

    closed_behind_prefix : (f p : ℕ) (o : Op) (t : Tree) (ws : List Word) → prefix_of ops f ≡ Some o → priority ops t ≡ o.priority → o.priority ≤ p → Ends p t ws → Closed (right_limit o) ws
    closed_behind_prefix f p o t ws d e l c h q at = by (c h q at)
      where
        by : (priority ops t ≤ left_limit q) ⊎ (p < q.priority) → right_limit o < q.priority
        by (inl m) = table.prefix_ties f h o q d (is_defined ws h q at) (subst (λ n. n ≤ left_limit q) e m)
        by (inr m) = omega (arith, m, l, limit o)

    -- the tree comes to be, whatever stands behind its words, if that may not grow it
    abbrev Climbs : Tree → Type 0
    Climbs t = (p : ℕ) (rest : List Word) (st : List Frame) → fits ops t ≡ true → priority ops t ≤ p → Ends p t rest → Leads ops (need p (words t ++ rest) st) (have p t rest st)

    closed_climb : (t : Tree) → Climbs t → (p : ℕ) (rest : List Word) (st : List Frame) → fits ops t ≡ true → priority ops t ≤ p → Closed p rest → Leads ops (need p (words t ++ rest) st) (reduce ops t rest st)
    closed_climb t c p rest st f l e = append_leads (c p rest st f l (ends_closed p t rest e)) (goes (here (closed_step p t rest st e)))

    before_climbs : (f : ℕ) (t : Tree) → Climbs t → (o : Option Op) → o ≡ prefix_of ops f → (takes_one o (priority ops t) && fits ops t) ≡ true → Climbs (before f t)
    before_climbs f t c None d k p rest st k' l e = cc
    before_climbs f t c (Some o) d k p rest st k' l e =
        let (k1, k2) = and_parts _ _ k in
        let within : o.priority ≤ p = subst (λ x. op_priority x ≤ p) (sym d) l in
        goes (from (ap (λ x. need_before ops x f p (words t ++ rest) st) (sym d) ∙ if_true _ _ _ (le-leb o.priority p within))
        (append_leads (closed_climb t c (right_limit o) rest (in_before f p ∷ st) k2 (leb-true _ _ k1) (closed_behind_prefix f p o (before f t) rest (sym d) (ap op_priority (sym d)) within e)) (here refl)))

    between_climbs : (f : ℕ) (t u : Tree) → Climbs t → Climbs u → (o : Option Op) → o ≡ infix_of ops f → (takes_two o (priority ops t) (priority ops u) && (fits ops t && fits ops u)) ≡ true → Climbs (between f t u)
    between_climbs f t u ct cu None d k p rest st k' l e = cc
    between_climbs f t u ct cu (Some o) d k p rest st k' l e =
        let (k1, k2) = and_parts _ _ k in
        let (l1, l2) = and_parts _ _ k1 in
        let (f1, f2) = and_parts _ _ k2 in
        let within : o.priority ≤ p = subst (λ x. op_priority x ≤ p) (sym d) l in
        let left : priority ops t ≤ left_limit o = leb-true _ _ l1 in
        let is_op : operator_of ops (infix_word f) ≡ Some (f, o) = word_is f ∙ ap (named f) (sym d) in
        from (ap (λ ws. need p ws st) (append_assoc (words t) (infix_word f ∷ words u) rest))
        (append_leads (ct p (infix_word f ∷ (words u ++ rest)) st f1 (omega (arith, left, left_le o, within)) (λ h q at. inl (same_limit o q h at is_op left)))
        (goes (from (grows p t (infix_word f) (words u ++ rest) st f o is_op within left)
        (closed_climb u cu (right_limit o) rest (in_between f t p ∷ st) f2 (leb-true _ _ l2) (closed_behind f p o (between f t u) rest (sym d) (ap op_priority (sym d)) within e)))))
      where
        same_limit : (o q : Op) (h : ℕ) → operator_of ops (infix_word f) ≡ Some (h, q) → operator_of ops (infix_word f) ≡ Some (f, o) → priority ops t ≤ left_limit o → priority ops t ≤ left_limit q
        same_limit o q h a b m = subst (λ x. priority ops t ≤ limit_or x) (ap second (sym b ∙ a)) m

    -- no operator at all, or the comma or the bar, which do not go into an item
    none_closed : (p : ℕ) (ws : List Word) → operator_next ops ws ≡ None → Closed p ws
    none_closed p ws e h q at = absurd (clash (sym e ∙ at))
      where
        clash : ◌≡◌ {A = Option (ℕ × Op)} None (Some (h, q)) → ⊥
        clash d = cc

    comma_closed : (ws : List Word) → Closed 999 (word.Comma ∷ ws)
    comma_closed ws h q at = table.comma q (with_parts 3 h q (infix_of ops 3) at).1

    bar_closed : (ws : List Word) → Closed 999 (word.Bar ∷ ws)
    bar_closed ws h q at = table.bar q (with_parts 4 h q (infix_of ops 4) at).1

    abbrev ClimbsAll : Trees → Type 0
    ClimbsAll ts = (w : Word) (rest : List Word) (frame : List Tree → Frame) (end : Trees → State) (st : List Frame) → all_fit ops ts ≡ true → Closed 999 (w ∷ rest)
        → ((t : Tree) (ds : List Tree) (ws : List Word) → reduce ops t (word.Comma ∷ ws) (frame ds ∷ st) ≡ need 999 ws (frame (t ∷ ds) ∷ st))
        → ((t : Tree) (ds : List Tree) → reduce ops t (w ∷ rest) (frame ds ∷ st) ≡ end (put_before ds (one t)))
        → (ds : List Tree) → Leads ops (need 999 (words_of_all ts ++ (w ∷ rest)) (frame ds ∷ st)) (end (put_before ds ts))

    bracket : (a : List Word) (w : Word) (rest : List Word) → (a ++ (w ∷ [])) ++ rest ≡ a ++ (w ∷ rest)
    bracket a w rest = append_assoc a (w ∷ []) rest

    mutual
      climbs : (t : Tree) → Climbs t
      climbs (number n) p rest st f l e = goes (here refl)
      climbs (negative n) p rest st f l e = goes (here refl)
      climbs (variable v) p rest st f l e = goes (here refl)
      climbs (text cs) p rest st f l e = goes (here refl)
      climbs (atom a) p rest st f l e = goes (here refl)
      climbs no_items p rest st f l e = goes (goes (here refl))
      climbs no_braces p rest st f l e = goes (goes (here refl))
      climbs (call g ts) p rest st f l e =
          goes (from (ap (λ ws. need 999 ws (in_call g [] p ∷ st)) (bracket (words_of_all ts) word.CloseParen rest))
          (append_leads
          (climbs_all ts word.CloseParen rest (λ ds. in_call g ds p) (λ us. end_call ops us g p rest st) st (and_parts _ _ f).1 (none_closed 999 (word.CloseParen ∷ rest) refl) (λ t ds ws. refl) (λ t ds. refl) [])
          (here (if_true (nat_le (count ts) 255) (have p (call g ts) rest st) stuck (and_parts (nat_le (count ts) 255) (all_fit ops ts) f).0))))
      climbs (parens t) p rest st f l e =
          goes (from (ap (λ ws. need 1200 ws (in_parens p ∷ st)) (bracket (words t) word.CloseParen rest))
          (closed_climb t (climbs t) 1200 (word.CloseParen ∷ rest) (in_parens p ∷ st) (and_parts _ _ f).1 (leb-true _ _ (and_parts _ _ f).0) (none_closed 1200 (word.CloseParen ∷ rest) refl)))
      climbs (braces t) p rest st f l e =
          goes (from (ap (λ ws. need 1200 ws (in_braces p ∷ st)) (bracket (words t) word.CloseCurly rest))
          (closed_climb t (climbs t) 1200 (word.CloseCurly ∷ rest) (in_braces p ∷ st) (and_parts _ _ f).1 (leb-true _ _ (and_parts _ _ f).0) (none_closed 1200 (word.CloseCurly ∷ rest) refl)))
      climbs (items ts) p rest st f l e =
          goes (from (ap (λ ws. need 999 ws (in_items [] p ∷ st)) (bracket (words_of_all ts) word.CloseList rest))
          (climbs_all ts word.CloseList rest (λ ds. in_items ds p) (λ us. have p (items us) rest st) st f (none_closed 999 (word.CloseList ∷ rest) refl) (λ t ds ws. refl) (λ t ds. refl) []))
      climbs (items_and_tail ts t) p rest st f l e =
          goes (from (ap (λ ws. need 999 ws (in_items [] p ∷ st)) (append_assoc (words_of_all ts) (word.Bar ∷ (words t ++ (word.CloseList ∷ []))) rest ∙ ap (λ ws. words_of_all ts ++ (word.Bar ∷ ws)) (bracket (words t) word.CloseList rest)))
          (append_leads
          (climbs_all ts word.Bar (words t ++ (word.CloseList ∷ rest)) (λ ds. in_items ds p) (λ us. need 999 (words t ++ (word.CloseList ∷ rest)) (in_tail us p ∷ st)) st (and_parts _ _ f).0 (bar_closed (words t ++ (word.CloseList ∷ rest))) (λ u ds ws. refl) (λ u ds. refl) [])
          (closed_climb t (climbs t) 999 (word.CloseList ∷ rest) (in_tail ts p ∷ st) (and_parts _ _ (and_parts _ _ f).1).1 (leb-true _ _ (and_parts _ _ (and_parts _ _ f).1).0) (none_closed 999 (word.CloseList ∷ rest) refl))))
      climbs (before g t) p rest st f l e = before_climbs g t (climbs t) (prefix_of ops g) refl f p rest st f l e
      climbs (between g t u) p rest st f l e = between_climbs g t u (climbs t) (climbs u) (infix_of ops g) refl f p rest st f l e

      climbs_all : (ts : Trees) → ClimbsAll ts
      climbs_all (one t) w rest frame end st f c more_is end_is ds =
          append_leads (closed_climb t (climbs t) 999 (w ∷ rest) (frame ds ∷ st) (and_parts _ _ f).1 (leb-true _ _ (and_parts _ _ f).0) c) (here (end_is t ds))
      climbs_all (more t ts) w rest frame end st f c more_is end_is ds =
          from (ap (λ ws. need 999 ws (frame ds ∷ st)) (append_assoc (words t) (word.Comma ∷ words_of_all ts) (w ∷ rest)))
          (append_leads (closed_climb t (climbs t) 999 (word.Comma ∷ (words_of_all ts ++ (w ∷ rest))) (frame ds ∷ st) (and_parts _ _ (and_parts _ _ f).0).1 (leb-true _ _ (and_parts _ _ (and_parts _ _ f).0).0) (comma_closed (words_of_all ts ++ (w ∷ rest))))
          (from (more_is t ds (words_of_all ts ++ (w ∷ rest))) (climbs_all ts w rest frame end st (and_parts _ _ f).1 c more_is end_is (t ∷ ds))))

    -- a derivation comes to its end
    pub whole : (ws : List Word) (t : Tree) → Derives ops ws 1200 t → Leads ops (need 1200 ws []) (done t)
    whole ws t d = from (ap (λ us. need 1200 us []) (sym d.spans ∙ sym (append-nil (words t)))) (closed_climb t (climbs t) 1200 [] [] d.allowed d.within (none_closed 1200 [] refl))

  -- two ends of one beginning
  pub onward : {s t : State} (u : Tree) → Leads ops s t → Leads ops s (done u) → Leads ops t (done u)
  onward u (here e) m = subst (λ x. Leads ops x (done u)) e m
  onward u (goes l) (here e) = onward u l (here (ap (step ops) e))
  onward u (goes l) (goes m) = onward u l m

  abbrev tree_in : State → Tree → Tree
  tree_in (done t) u = t
  tree_in s u = u

  ended : {s v : State} (t u : Tree) → s ≡ done t → v ≡ done u → Leads ops s v → t ≡ u
  ended t u e d (here g) = ap (λ s. tree_in s u) (sym e ∙ g ∙ d)
  ended t u e d (goes l) = ended t u (ap (step ops) e) d l

  pub one_tree : HasOneRoot ops → OneTree ops
  one_tree table ws t u d e = ended t u refl refl (onward u (whole table ws t d) (whole table ws u e))

  -- words on which the machine gets stuck have no tree
  abbrev pub run : ℕ → State → State
  run zero s = s
  run (suc k) s = run k (step ops s)

  pub run_leads : (k : ℕ) (s : State) → Leads ops s (run k s)
  run_leads zero s = here refl
  run_leads (suc k) s = goes (run_leads k (step ops s))

  pub never : {s v : State} (u : Tree) → s ≡ stuck → v ≡ done u → Leads ops s v → ⊥
  never u e d (here g) = clash (sym e ∙ g ∙ d)
    where
      clash : stuck ≡ done u → ⊥
      clash h = cc
  never u e d (goes l) = never u (ap (step ops) e) d l

  pub no_tree : HasOneRoot ops → (ws : List Word) (k : ℕ) → run k (need 1200 ws []) ≡ stuck → (t : Tree) → Derives ops ws 1200 t → ⊥
  no_tree table ws k e t d = never t e refl (onward t (run_leads k (need 1200 ws [])) (whole table ws t d))
