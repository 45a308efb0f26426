-- The clauses of rules in range are in range.
use Rattle.std.proofs.Common.{◌≡◌, ◌≤◌, ◌<◌, ◌+◌, ℕ, Bool, true, false, List, [], ◌∷◌, ◌++◌, map, length, suc, refl, sym, ap, ◌∙◌, arith, subst}
use Rattle.std.proofs.lemmas.Option.{same_Some, none-some}
use Rattle.std.specs.Prelude.{◌==◌, nat_le, Option, Some, None, Ok, Err, IfOk, IfSome, option_map, if◌then◌else◌}
use Rattle.std.specs.List.{AllByRecursion}
use Rattle.std.specs.declared.result.Result.{Result}
use Rattle.term_core.specs.Names.{fixed_names}
use Rattle.term_core.specs.Ranges.{IsInRange}
use Rattle.term_core.specs.Shapes.{is_pair, pair_of}
use Rattle.term_core.specs.declared.fixed.TheConstants.{NIL, CELL, BRACES, COMMA, CUT, SEMICOLON, NECK, GRAMMAR_ARROW, NEGATION, EQUALS}
use Rattle.term_core.specs.declared.terms.Term.{Term, Var, Atom, Node, out-Term, roll-Term, roll-out-Term}
use Rattle.term_core.specs.declared.terms.Term.TheOpen as layer
use Rattle.term_core.specs.declared.terms.Term.TheVariants.{rolls-Node, rolls-Atom}
use Rattle.term_core.proofs.TermFolds.{ind_terms, fold-Var, fold-Int, fold-Atom, fold-Node}
use Rattle.ciao_reader.specs.Ranges.{IsSentenceInRange}
use Rattle.ciao_reader.specs.declared.sentences.Sentence.{Sentence}
use Rattle.dcg_expand.specs.declared.faults.ExpandFault.{ExpandFault}
use Rattle.dcg_expand.specs.Making.{Making, Expands, made, no_line, followed, ◌>>=◌}
use Rattle.dcg_expand.specs.Expansion.{pair, compound, with_two_variables, reading_nothing, list_goal, GrammarBody, in_sequence, in_parallel, not_there, cell_with_tail, atom_between, one_between, is_sequence, is_choice, two_between, compound_between, compound_with_tail, grammar_body_step, grammar_body, translated, called_between, head_between, rule_clause, clause_of_rule, made_sentence, DcgExpanded}
use Rattle.dcg_expand.specs.Ranges.{RulesStayInRange}
use Rattle.dcg_expand.proofs.RangeParts.{chosen, within_is, widened, all_behind, variable_in, atom_in, atom_name, compound_in, compound_name, compound_parts, compound_length, BothIn, pair_parts, MadeIn, then_in}

-- a term that is made, where it is there, is in range of the variables then
abbrev pub Ranged : ℕ → ℕ → Option (Term × ℕ) → Type 0
Ranged n = MadeIn (IsInRange n)

pub then_ranged : (n next here : ℕ) (o : Option (Term × ℕ)) (f : Term → Making Term) → Ranged n here o → ((t : Term) (k : ℕ) → here ≤ k → IsInRange n k t → Ranged n next (f t k)) → Ranged n next (followed f o)
then_ranged n = then_in (IsInRange n) (IsInRange n)

pub some_more : (xs : List Term) (y : Term) (ys : List Term) → 1 ≤ length (xs ++ y ∷ ys)
some_more [] y ys = omega arith
some_more (x ∷ xs) y ys = omega arith

-- a name with arguments in range
pub compound_ranged : (n v f : ℕ) (args : List Term) → f < n → 1 ≤ length args → AllByRecursion (IsInRange n v) args → Ranged n v (compound f args v)
compound_ranged n v f args lt some h = by (nat_le (length args) 255) refl
  where
    by : (b : Bool) → nat_le (length args) 255 ≡ b → Ranged n v ((if b then made (Node f args) else no_line) v)
    by true e = (omega arith, compound_in n v f args lt some (within_is (length args) 255 e) h)
    by false e = tt

pub pair_in : (n v f : ℕ) (l r : Term) → f < n → IsInRange n v l → IsInRange n v r → IsInRange n v (pair f l r)
pair_in n v f l r lt p q = compound_in n v f (l ∷ r ∷ []) lt (omega arith) (omega arith) (p, (q, tt))

-- a sentence that was made
pub sentence_in : (n line next : ℕ) (o : Option (Term × ℕ)) (s : Sentence) → Ranged n next o → made_sentence line o ≡ Some s → IsSentenceInRange n s
sentence_in n line next None s h e = absurd (none-some _ e)
sentence_in n line next (Some x) s h e = subst (IsSentenceInRange n) (same_Some _ _ e) h.1

-- a body in range becomes goals in range, and a list with a tail in range
record BodyStays (n v : ℕ) (b : GrammarBody) : Type 0 where
  itself : IsInRange n v b.itself
  between : (from to next : ℕ) → from < next → to < next → v ≤ next → Ranged n next (b.between from to next)
  with_tail : (w : ℕ) (tail : Term) → v ≤ w → IsInRange n w tail → IfSome (b.with_tail tail) (IsInRange n w)

module _ (n : ℕ) (fixed : 75 ≤ n) where
  two_ranged : (f : ℕ) (args : List Term) (from to next : ℕ) → f < n → from < next → to < next → AllByRecursion (IsInRange n next) args → Ranged n next (with_two_variables f args from to next)
  two_ranged f args from to next lt p q h =
      compound_ranged n next f (args ++ Var from ∷ Var to ∷ []) lt (some_more args (Var from) (Var to ∷ [])) (all_behind n next args (Var from ∷ Var to ∷ []) h (variable_in n next from p, (variable_in n next to q, tt)))

  same_in : (next from to : ℕ) → from < next → to < next → IsInRange n next (pair EQUALS (Var from) (Var to))
  same_in next from to p q = pair_in n next EQUALS (Var from) (Var to) (omega (arith, fixed)) (variable_in n next from p) (variable_in n next to q)

  nothing_in : (next : ℕ) (goal : Term) (from to : ℕ) → IsInRange n next goal → from < next → to < next → IsInRange n next (reading_nothing goal from to)
  nothing_in next goal from to is p q = pair_in n next COMMA goal (pair EQUALS (Var from) (Var to)) (omega (arith, fixed)) is (same_in next from to p q)

  list_ranged : (o : Option Term) (from next : ℕ) → from < next → IfSome o (IsInRange n next) → Ranged n next (list_goal o from next)
  list_ranged None from next p h = tt
  list_ranged (Some items) from next p h = (omega arith, pair_in n next EQUALS (Var from) items (omega (arith, fixed)) (variable_in n next from p) h)

  sequence_ranged : (v f : ℕ) (a b : GrammarBody) → f < n → BodyStays n v a → BodyStays n v b → (from to next : ℕ) → from < next → to < next → v ≤ next → Ranged n next (in_sequence f a b from to next)
  sequence_ranged v f a b lt p q from to next x y le =
      then_ranged n next (next + 1) (a.between from next (next + 1)) (λ left. b.between next to >>= (λ right. made (pair f left right)))
      (p.between from next (next + 1) (omega (arith, x)) (omega arith) (omega (arith, le)))
      (λ left k more is. then_ranged n next k (b.between next to k) (λ right. made (pair f left right))
      (q.between next to k (omega (arith, more)) (omega (arith, y, more)) (omega (arith, le, more)))
      (λ right m further so. (omega (arith, more, further), pair_in n m f left right lt (widened n k m left further is) so)))

  parallel_ranged : (v : ℕ) (a b : GrammarBody) → BodyStays n v a → BodyStays n v b → (from to next : ℕ) → from < next → to < next → v ≤ next → Ranged n next (in_parallel a b from to next)
  parallel_ranged v a b p q from to next x y le =
      then_ranged n next next (a.between from to next) (λ left. b.between from to >>= (λ right. made (pair SEMICOLON left right)))
      (p.between from to next x y le)
      (λ left k more is. then_ranged n next k (b.between from to k) (λ right. made (pair SEMICOLON left right))
      (q.between from to k (omega (arith, x, more)) (omega (arith, y, more)) (omega (arith, le, more)))
      (λ right m further so. (omega (arith, more, further), pair_in n m SEMICOLON left right (omega (arith, fixed)) (widened n k m left further is) so)))

  not_ranged : (v : ℕ) (a : GrammarBody) → BodyStays n v a → (from to next : ℕ) → from < next → to < next → v ≤ next → Ranged n next (not_there a from to next)
  not_ranged v a p from to next x y le =
      then_ranged n next (next + 1) (a.between from next (next + 1)) (λ goal. made (reading_nothing (Node NEGATION (goal ∷ [])) from to))
      (p.between from next (next + 1) (omega (arith, x)) (omega arith) (omega (arith, le)))
      (λ goal k more is. (omega (arith, more), nothing_in k (Node NEGATION (goal ∷ [])) from to (compound_in n k NEGATION (goal ∷ []) (omega (arith, fixed)) (omega arith) (omega arith) (is, tt)) (omega (arith, x, more)) (omega (arith, y, more))))

  atom_ranged : (a : ℕ) → a < n → (from to next : ℕ) → from < next → to < next → Ranged n next (atom_between a from to next)
  atom_ranged a lt from to next x y =
      chosen (λ (m : Making Term). Ranged n next (m next)) (a == NIL) (list_goal (Some (Var to)) from) (if a == CUT then made (reading_nothing (Atom CUT) from to) else with_two_variables a [] from to)
      (list_ranged (Some (Var to)) from next x (variable_in n next to y))
      (chosen (λ (m : Making Term). Ranged n next (m next)) (a == CUT) (made (reading_nothing (Atom CUT) from to)) (with_two_variables a [] from to)
      (omega arith, nothing_in next (Atom CUT) from to (atom_in n next CUT (omega (arith, fixed))) x y)
      (two_ranged a [] from to next lt x y tt))

  one_ranged : (v f : ℕ) (a : GrammarBody) → f < n → BodyStays n v a → (from to next : ℕ) → from < next → to < next → v ≤ next → Ranged n next (one_between f a from to next)
  one_ranged v f a lt p from to next x y le =
      chosen (λ (m : Making Term). Ranged n next (m next)) (f == NEGATION) (not_there a from to) (if f == BRACES then made (reading_nothing a.itself from to) else with_two_variables f (a.itself ∷ []) from to)
      (not_ranged v a p from to next x y le)
      (chosen (λ (m : Making Term). Ranged n next (m next)) (f == BRACES) (made (reading_nothing a.itself from to)) (with_two_variables f (a.itself ∷ []) from to)
      (omega arith, nothing_in next a.itself from to (widened n v next a.itself le p.itself) x y)
      (two_ranged f (a.itself ∷ []) from to next lt x y (widened n v next a.itself le p.itself, tt)))

  cell_in : (v w : ℕ) (a b : GrammarBody) (tail : Term) → BodyStays n v a → BodyStays n v b → v ≤ w → IsInRange n w tail → IfSome (cell_with_tail a b tail) (IsInRange n w)
  cell_in v w a b tail p q le is = by (b.with_tail tail) (q.with_tail w tail le is)
    where
      by : (o : Option Term) → IfSome o (IsInRange n w) → IfSome (option_map (pair CELL a.itself) o) (IsInRange n w)
      by None h = tt
      by (Some items) h = pair_in n w CELL a.itself items (omega (arith, fixed)) (widened n v w a.itself le p.itself) h

  plain_two_ranged : (v f : ℕ) (a b : GrammarBody) → f < n → BodyStays n v a → BodyStays n v b → (from to next : ℕ) → from < next → to < next → v ≤ next → Ranged n next (two_between f a b from to next)
  plain_two_ranged v f a b lt p q from to next x y le =
      let called : Ranged n next (with_two_variables f (a.itself ∷ b.itself ∷ []) from to next) = two_ranged f (a.itself ∷ b.itself ∷ []) from to next lt x y (widened n v next a.itself le p.itself, (widened n v next b.itself le q.itself, tt)) in
      chosen (λ (m : Making Term). Ranged n next (m next)) (is_sequence f) (in_sequence f a b from to) (if is_choice f then in_parallel a b from to else if f == CELL then list_goal (cell_with_tail a b (Var to)) from else with_two_variables f (a.itself ∷ b.itself ∷ []) from to)
      (sequence_ranged v f a b lt p q from to next x y le)
      (chosen (λ (m : Making Term). Ranged n next (m next)) (is_choice f) (in_parallel a b from to) (if f == CELL then list_goal (cell_with_tail a b (Var to)) from else with_two_variables f (a.itself ∷ b.itself ∷ []) from to)
      (parallel_ranged v a b p q from to next x y le)
      (chosen (λ (m : Making Term). Ranged n next (m next)) (f == CELL) (list_goal (cell_with_tail a b (Var to)) from) (with_two_variables f (a.itself ∷ b.itself ∷ []) from to)
      (list_ranged (cell_with_tail a b (Var to)) from next x (cell_in v next a b (Var to) p q le (variable_in n next to y)))
      called))

  themselves_in : (v w : ℕ) (bs : List GrammarBody) → v ≤ w → AllByRecursion (BodyStays n v) bs → AllByRecursion (IsInRange n w) (map (λ b. b.itself) bs)
  themselves_in v w [] le h = tt
  themselves_in v w (b ∷ bs) le h = (widened n v w b.itself le h.0.itself, themselves_in v w bs le h.1)

  compound_between_ranged : (v f : ℕ) (bs : List GrammarBody) → f < n → AllByRecursion (BodyStays n v) bs → (from to next : ℕ) → from < next → to < next → v ≤ next → Ranged n next (compound_between f bs from to next)
  compound_between_ranged v f [] lt h from to next x y le = two_ranged f [] from to next lt x y tt
  compound_between_ranged v f (a ∷ []) lt h from to next x y le = one_ranged v f a lt h.0 from to next x y le
  compound_between_ranged v f (a ∷ b ∷ []) lt h from to next x y le = plain_two_ranged v f a b lt h.0 h.1.0 from to next x y le
  compound_between_ranged v f (a ∷ b ∷ c ∷ rest) lt h from to next x y le = two_ranged f (map (λ b. b.itself) (a ∷ b ∷ c ∷ rest)) from to next lt x y (themselves_in v next (a ∷ b ∷ c ∷ rest) le h)

  compound_with_tail_in : (v f : ℕ) (bs : List GrammarBody) → AllByRecursion (BodyStays n v) bs → (w : ℕ) (tail : Term) → v ≤ w → IsInRange n w tail → IfSome (compound_with_tail f bs tail) (IsInRange n w)
  compound_with_tail_in v f [] h w tail le is = tt
  compound_with_tail_in v f (a ∷ []) h w tail le is = tt
  compound_with_tail_in v f (a ∷ b ∷ []) h w tail le is = chosen (λ (o : Option Term). IfSome o (IsInRange n w)) (f == CELL) (cell_with_tail a b tail) None (cell_in v w a b tail h.0 h.1.0 le is) tt
  compound_with_tail_in v f (a ∷ b ∷ c ∷ rest) h w tail le is = tt

  bodies_stay : (v : ℕ) (t : Term) → IsInRange n v t → BodyStays n v (grammar_body t)
  bodies_stay v =
      ind_terms (λ t. IsInRange n v t → BodyStays n v (grammar_body t))
      (λ x is. subst (BodyStays n v) (sym (fold-Var GrammarBody grammar_body_step x)) (record { itself = is; between = λ from to next p q le. tt; with_tail = λ w tail le so. tt }))
      (λ i is. subst (BodyStays n v) (sym (fold-Int GrammarBody grammar_body_step i)) (record { itself = is; between = λ from to next p q le. tt; with_tail = λ w tail le so. tt }))
      (λ a is. subst (BodyStays n v) (sym (fold-Atom GrammarBody grammar_body_step a)) (record { itself = is; between = λ from to next p q le. atom_ranged a (atom_name n v a is) from to next p q; with_tail = λ w tail le so. chosen (λ (o : Option Term). IfSome o (IsInRange n w)) (a == NIL) (Some tail) None so tt }))
      (λ f ts h is.
      let lt : f < n = compound_name n v f ts is in
      let each : AllByRecursion (BodyStays n v) (map grammar_body ts) = all ts h (compound_parts n v f ts is) in
      subst (BodyStays n v) (sym (fold-Node GrammarBody grammar_body_step f ts)) (record {
        itself = compound_in n v f (map (λ b. b.itself) (map grammar_body ts)) lt (subst (λ k. 1 ≤ k) (same_length ts) (compound_length n v f ts is).0) (subst (λ k. k ≤ 255) (same_length ts) (compound_length n v f ts is).1) (themselves_in v v (map grammar_body ts) (omega arith) each);
        between = compound_between_ranged v f (map grammar_body ts) lt each;
        with_tail = compound_with_tail_in v f (map grammar_body ts) each;
      }))
    where
      all : (ts : List Term) → AllByRecursion (λ t. IsInRange n v t → BodyStays n v (grammar_body t)) ts → AllByRecursion (IsInRange n v) ts → AllByRecursion (BodyStays n v) (map grammar_body ts)
      all [] h is = tt
      all (t ∷ ts) h is = (h.0 is.0, all ts h.1 is.1)

      same_length : (ts : List Term) → length ts ≡ length (map (λ b. b.itself) (map grammar_body ts))
      same_length [] = refl
      same_length (t ∷ ts) = ap (λ k. suc k) (same_length ts)

  called_ranged : (t : layer.Term-F Term) (u : Term) (from to next : ℕ) → roll-Term t ≡ u → IsInRange n next u → from < next → to < next → Ranged n next (called_between t from to next)
  called_ranged (layer.Var v) u from to next e is x y = tt
  called_ranged (layer.Int i) u from to next e is x y = tt
  called_ranged (layer.Atom a) u from to next e is x y = two_ranged a [] from to next (atom_name n next a (subst (IsInRange n next) (sym e ∙ rolls-Atom a) is)) x y tt
  called_ranged (layer.Node f args) u from to next e is x y =
      let so = subst (IsInRange n next) (sym e ∙ rolls-Node f args) is in
      two_ranged f args from to next (compound_name n next f args so) x y (compound_parts n next f args so)

  head_ranged : (head : Term) (from to next : ℕ) → IsInRange n next head → from < next → to < next → Ranged n next (head_between head from to next)
  head_ranged head from to next is x y =
      chosen (λ (m : Making Term). Ranged n next (m next)) (is_pair COMMA (out-Term head)) no_line (called_between (out-Term head) from to) tt
      (called_ranged (out-Term head) head from to next (roll-out-Term head) is x y)

  rule_ranged : (head body : Term) (v : ℕ) → IsInRange n v head → IsInRange n v body → Ranged n v (rule_clause head body v)
  rule_ranged head body v p q =
      then_ranged n v (v + 1 + 1) (head_between head v (v + 1) (v + 1 + 1)) (λ new_head. translated body v (v + 1) >>= (λ goal. made (pair NECK new_head goal)))
      (head_ranged head v (v + 1) (v + 1 + 1) (widened n v (v + 1 + 1) head (omega arith) p) (omega arith) (omega arith))
      (λ new_head k more is. then_ranged n v k (translated body v (v + 1) k) (λ goal. made (pair NECK new_head goal))
      ((bodies_stay v body q).between v (v + 1) k (omega (arith, more)) (omega (arith, more)) (omega (arith, more)))
      (λ goal m further so. (omega (arith, more, further), pair_in n m NECK new_head goal (omega (arith, fixed)) (widened n k m new_head further is) so)))

  parts_ranged : (o : Option (Term × Term)) (v : ℕ) → BothIn n v o → Ranged n v (clause_of_rule o v)
  parts_ranged None v h = tt
  parts_ranged (Some p) v h = rule_ranged p.0 p.1 v h.0 h.1

-- so is the clause of a rule
pub rules_stay : RulesStayInRange
rules_stay n rule clause fixed e is =
    sentence_in n rule.line rule.vars (clause_of_rule (pair_of GRAMMAR_ARROW (out-Term rule.term)) rule.vars) clause
    (parts_ranged n fixed (pair_of GRAMMAR_ARROW (out-Term rule.term)) rule.vars (pair_parts n rule.vars GRAMMAR_ARROW (out-Term rule.term) rule.term (roll-out-Term rule.term) is)) e

-- so is what a call gives
pub given_stays : (result : Result Sentence ExpandFault) (rule : Sentence) → Expands result (DcgExpanded rule) → IfOk result (λ clause. (names : ℕ) → length fixed_names ≤ names → IsSentenceInRange names rule → IsSentenceInRange names clause)
given_stays (Ok clause) rule e = λ names fixed is. rules_stay names rule clause fixed e is
given_stays (Err fault) rule e = tt
