-- The clauses of clauses in range are in range.
use Rattle.std.proofs.Common.{◌≡◌, ◌≤◌, ◌<◌, ◌+◌, ℕ, List, [], ◌∷◌, ◌++◌, map, length, suc, refl, sym, ap, ◌∙◌, arith, subst}
use Rattle.std.proofs.lemmas.Option.{same_Some, none-some}
use Rattle.std.specs.Prelude.{◌==◌, ◌&&◌, ◌||◌, not, Option, Some, None, Ok, Err, IfOk, IfSome, option_and_then, if◌then◌else◌}
use Rattle.std.specs.List.{AllByRecursion}
use Rattle.std.specs.declared.result.Result.{Result}
use Rattle.term_core.specs.Names.{fixed_names}
use Rattle.term_core.specs.Ranges.{IsInRange}
use Rattle.term_core.specs.Shapes.{pair_of}
use Rattle.term_core.specs.declared.fixed.TheConstants.{COMMA, BAR, SEMICOLON, NECK, DEFINES, ARROW, QUESTION, NEGATION, EQUALS, TILDE}
use Rattle.term_core.specs.declared.terms.Term.{Term, Var, Int, Atom, Node, out-Term, roll-Term, roll-out-Term}
use Rattle.term_core.specs.declared.terms.Term.TheOpen as layer
use Rattle.term_core.specs.declared.terms.Term.TheVariants.{rolls-Node, rolls-Atom}
use Rattle.term_core.proofs.TermFolds.{ind_terms, fold-Var, fold-Int, fold-Atom, fold-Node}
use Rattle.ciao_reader.specs.Ranges.{IsSentenceInRange}
use Rattle.ciao_reader.specs.declared.sentences.Sentence.{Sentence}
use Rattle.dcg_expand.specs.declared.faults.ExpandFault.{ExpandFault}
use Rattle.dcg_expand.specs.Making.{Making, Expands, made, ◌>>=◌}
use Rattle.dcg_expand.specs.Expansion.{pair, made_sentence}
use Rattle.dcg_expand.proofs.RangeParts.{chosen, widened, all_widened, all_behind, variable_in, atom_name, compound_in, compound_name, compound_parts, compound_length, BothIn, pair_parts, MadeIn, then_in}
use Rattle.dcg_expand.proofs.RangeLaws.{Ranged, then_ranged, some_more, compound_ranged, pair_in}
use Rattle.fsyntax_expand.specs.Flattening.{Flattened, with_one_more, call_result, in_order, rebuilt, compound_flat, flat_step, flat}
use Rattle.fsyntax_expand.specs.Expansion.{before, conjunction, clause, is_connective, Uses, goal_body, equal_to, both_bodies, not_body, either_result, result_if, whole, compound_body, compound_result, compound_alternatives, leaf_uses, uses_step, uses, with_body, plain_clause, head_with_value, argument_clause, variable_clause, is_chosen, definition_clause, rule_clauses, clause_clauses, clauses_by, term_clauses, all_made, FunctionalExpanded}
use Rattle.fsyntax_expand.specs.Ranges.{ClausesStayInRange}

-- a flattened term and its goals are in range
abbrev FlatIn : ℕ → ℕ → Term × List Term → Type 0
FlatIn n k x = IsInRange n k x.0 × AllByRecursion (IsInRange n k) x.1

-- so many flattened terms and their goals are
abbrev OrderIn : ℕ → ℕ → ℕ → List Term × List Term → Type 0
OrderIn n count k x = (length x.0 ≡ count) × (AllByRecursion (IsInRange n k) x.0 × AllByRecursion (IsInRange n k) x.1)

-- goals are in range
abbrev AllIn : ℕ → ℕ → List Term → Type 0
AllIn n k ts = AllByRecursion (IsInRange n k) ts

-- behind goals in range a term in range is flattened to one in range
abbrev FlatStays : ℕ → ℕ → Flattened Term → Type 0
FlatStays n v b = (goals : List Term) (next : ℕ) → v ≤ next → AllByRecursion (IsInRange n next) goals → MadeIn (FlatIn n) next (b goals next)

-- what is made from a later number on is made from an earlier one on
sooner : {A : Type 0} (Q : ℕ → A → Type 0) (next k : ℕ) (o : Option (A × ℕ)) → next ≤ k → MadeIn Q k o → MadeIn Q next o
sooner Q next k None le h = tt
sooner Q next k (Some x) le h = (let p : _ = h.0 in omega (arith, le, p), h.1)

one_longer : (xs : List Term) (x : Term) → length (xs ++ x ∷ []) ≡ length xs + 1
one_longer [] x = omega arith
one_longer (y ∷ xs) x = let p : _ = one_longer xs x in omega (arith, p)

before_in : (n k : ℕ) → 75 ≤ n → (gs : List Term) (last : Term) → AllByRecursion (IsInRange n k) gs → IsInRange n k last → IsInRange n k (before gs last)
before_in n k fixed [] last h is = is
before_in n k fixed (g ∷ gs) last h is = pair_in n k COMMA g (before gs last) (omega (arith, fixed)) h.0 (before_in n k fixed gs last h.1 is)

conjunction_in : (n k : ℕ) → 75 ≤ n → (g : Term) (gs : List Term) → IsInRange n k g → AllByRecursion (IsInRange n k) gs → IsInRange n k (conjunction g gs)
conjunction_in n k fixed g [] is h = is
conjunction_in n k fixed g (h ∷ hs) is all = pair_in n k COMMA g (conjunction h hs) (omega (arith, fixed)) is (conjunction_in n k fixed h hs all.0 all.1)

clause_in : (n k : ℕ) → 75 ≤ n → (head : Term) (gs : List Term) → IsInRange n k head → AllByRecursion (IsInRange n k) gs → IsInRange n k (clause head gs)
clause_in n k fixed head [] is h = is
clause_in n k fixed head (g ∷ gs) is h = pair_in n k NECK head (conjunction g gs) (omega (arith, fixed)) is (conjunction_in n k fixed g gs h.0 h.1)

one_more_in : (n next : ℕ) (t : layer.Term-F Term) (u last : Term) → roll-Term t ≡ u → IsInRange n next u → IsInRange n next last → Ranged n next (with_one_more t last next)
one_more_in n next (layer.Var v) u last e is so = tt
one_more_in n next (layer.Int i) u last e is so = tt
one_more_in n next (layer.Atom a) u last e is so = compound_ranged n next a (last ∷ []) (atom_name n next a (subst (IsInRange n next) (sym e ∙ rolls-Atom a) is)) (omega arith) (so, tt)
one_more_in n next (layer.Node f args) u last e is so =
    let whole = subst (IsInRange n next) (sym e ∙ rolls-Node f args) is in
    compound_ranged n next f (args ++ last ∷ []) (compound_name n next f args whole) (some_more args last []) (all_behind n next args (last ∷ []) (compound_parts n next f args whole) (so, tt))

-- flattening

result_in : (n next : ℕ) (g : Term × List Term) → FlatIn n next g → MadeIn (FlatIn n) next (call_result g next)
result_in n next g h =
    then_in (IsInRange n) (FlatIn n) next (next + 1) (with_one_more (out-Term g.0) (Var next) (next + 1)) (λ goal. made (Var next, g.1 ++ goal ∷ []))
    (one_more_in n (next + 1) (out-Term g.0) g.0 (Var next) (roll-out-Term g.0) (widened n next (next + 1) g.0 (omega arith) h.0) (variable_in n (next + 1) next (omega arith)))
    (λ goal k more is. (omega (arith, more), (variable_in n k next (omega (arith, more)), all_behind n k g.1 (goal ∷ []) (all_widened n next k g.1 (omega (arith, more)) h.1) (is, tt))))

order_in : (n v count : ℕ) (done : List Term) (parts : List (Flattened Term)) (goals : List Term) (next : ℕ) → length done + length parts ≡ count → v ≤ next → AllByRecursion (IsInRange n next) done → AllByRecursion (FlatStays n v) parts → AllByRecursion (IsInRange n next) goals → MadeIn (OrderIn n count) next (in_order done parts goals next)
order_in n v count done [] goals next e le d h g = (omega arith, (omega (arith, e), (d, g)))
order_in n v count done (p ∷ ps) goals next e le d h g =
    then_in (FlatIn n) (OrderIn n count) next next (p goals next) (λ first. in_order (done ++ first.0 ∷ []) ps first.1)
    (h.0 goals next le g)
    (λ first k more is. sooner (OrderIn n count) next k (in_order (done ++ first.0 ∷ []) ps first.1 k) more
    (order_in n v count (done ++ first.0 ∷ []) ps first.1 k (let q : _ = one_longer done first.0 in omega (arith, e, q)) (omega (arith, le, more)) (all_behind n k done (first.0 ∷ []) (all_widened n next k done more d) (is.0, tt)) h.1 is.1))

rebuilt_stays : (n v f : ℕ) (parts : List (Flattened Term)) → f < n → 1 ≤ length parts → length parts ≤ 255 → AllByRecursion (FlatStays n v) parts → FlatStays n v (rebuilt f parts)
rebuilt_stays n v f parts lt some few h goals next le g =
    then_in (OrderIn n (length parts)) (FlatIn n) next next (in_order [] parts goals next) (λ all. made (Node f all.0, all.1))
    (order_in n v (length parts) [] parts goals next (omega arith) le tt h g)
    (λ all k more is. (more, (compound_in n k f all.0 lt (subst (λ c. 1 ≤ c) (sym is.0) some) (subst (λ c. c ≤ 255) (sym is.0) few) is.1.0, is.1.1)))

compound_flat_stays : (n v f : ℕ) (parts : List (Flattened Term)) → f < n → 1 ≤ length parts → length parts ≤ 255 → AllByRecursion (FlatStays n v) parts → FlatStays n v (compound_flat f parts)
compound_flat_stays n v f [] lt some few h goals next le g = rebuilt_stays n v f [] lt some few h goals next le g
compound_flat_stays n v f (p ∷ []) lt some few h goals next le g =
    chosen (λ (m : Making (Term × List Term)). MadeIn (FlatIn n) next (m next)) (f == TILDE) (p goals >>= (λ g. call_result g)) (rebuilt f (p ∷ []) goals)
    (then_in (FlatIn n) (FlatIn n) next next (p goals next) (λ g. call_result g) (h.0 goals next le g) (λ g k more is. sooner (FlatIn n) next k (call_result g k) more (result_in n k g is)))
    (rebuilt_stays n v f (p ∷ []) lt some few h goals next le g)
compound_flat_stays n v f (p ∷ q ∷ rest) lt some few h goals next le g = rebuilt_stays n v f (p ∷ q ∷ rest) lt some few h goals next le g

leaf_flat : (n v : ℕ) (t : Term) → IsInRange n v t → FlatStays n v (λ goals. made (t, goals))
leaf_flat n v t is goals next le g = (omega arith, (widened n v next t le is, g))

same_length : {A : Type 0} (f : Term → A) (ts : List Term) → length ts ≡ length (map f ts)
same_length f [] = refl
same_length f (t ∷ ts) = ap (λ k. suc k) (same_length f ts)

each_stays : {A : Type 0} (n v : ℕ) (f : Term → A) (P : A → Type 0) (ts : List Term) → AllByRecursion (λ t. IsInRange n v t → P (f t)) ts → AllByRecursion (IsInRange n v) ts → AllByRecursion P (map f ts)
each_stays n v f P [] h is = tt
each_stays n v f P (t ∷ ts) h is = (h.0 is.0, each_stays n v f P ts h.1 is.1)

flats_stay : (n v : ℕ) (t : Term) → IsInRange n v t → FlatStays n v (flat t)
flats_stay n v =
    ind_terms (λ t. IsInRange n v t → FlatStays n v (flat t))
    (λ x is. subst (FlatStays n v) (sym (fold-Var (Flattened Term) flat_step x)) (leaf_flat n v (Var x) is))
    (λ i is. subst (FlatStays n v) (sym (fold-Int (Flattened Term) flat_step i)) (leaf_flat n v (Int i) is))
    (λ a is. subst (FlatStays n v) (sym (fold-Atom (Flattened Term) flat_step a)) (leaf_flat n v (Atom a) is))
    (λ f ts h is. subst (FlatStays n v) (sym (fold-Node (Flattened Term) flat_step f ts))
    (compound_flat_stays n v f (map flat ts) (compound_name n v f ts is)
    (subst (λ k. 1 ≤ k) (same_length flat ts) (compound_length n v f ts is).0) (subst (λ k. k ≤ 255) (same_length flat ts) (compound_length n v f ts is).1)
    (each_stays n v flat (FlatStays n v) ts h (compound_parts n v f ts is))))

-- bodies and results

-- a term in range becomes bodies and results in range
record UsesStay (n v : ℕ) (u : Uses) : Type 0 where
  itself : IsInRange n v u.itself
  body : (next : ℕ) → v ≤ next → Ranged n next (u.body next)
  result : (variable next : ℕ) → variable < next → v ≤ next → Ranged n next (u.result variable next)
  alternatives : AllByRecursion (IsInRange n v) u.alternatives

module _ (n : ℕ) (fixed : 75 ≤ n) where
  goal_in : (v : ℕ) (t : Term) → IsInRange n v t → (next : ℕ) → v ≤ next → Ranged n next (goal_body t next)
  goal_in v t is next le =
      then_in (FlatIn n) (IsInRange n) next next (flat t [] next) (λ goal. made (before goal.1 goal.0))
      (flats_stay n v t is [] next le tt)
      (λ goal k more so. (more, before_in n k fixed goal.1 goal.0 so.1 so.0))

  equal_in : (v : ℕ) (t : Term) → IsInRange n v t → (variable next : ℕ) → variable < next → v ≤ next → Ranged n next (equal_to t variable next)
  equal_in v t is variable next lt le =
      then_in (FlatIn n) (IsInRange n) next next (flat t [] next) (λ value. made (before value.1 (pair EQUALS (Var variable) value.0)))
      (flats_stay n v t is [] next le tt)
      (λ value k more so. (more, before_in n k fixed value.1 (pair EQUALS (Var variable) value.0) so.1 (pair_in n k EQUALS (Var variable) value.0 (omega (arith, fixed)) (variable_in n k variable (omega (arith, lt, more))) so.0)))

  -- two that are made one behind the other as a compound
  both_in : (f : ℕ) → f < n → (first second : Making Term) (next : ℕ) → Ranged n next (first next) → ((k : ℕ) → next ≤ k → Ranged n k (second k)) → Ranged n next ((first >>= (λ left. second >>= (λ right. made (pair f left right)))) next)
  both_in f lt first second next p q =
      then_ranged n next next (first next) (λ left. second >>= (λ right. made (pair f left right))) p
      (λ left k more is. then_ranged n next k (second k) (λ right. made (pair f left right)) (q k more)
      (λ right m further so. (omega (arith, more, further), pair_in n m f left right lt (widened n k m left further is) so)))

  not_in : (v : ℕ) (a : Uses) → UsesStay n v a → (next : ℕ) → v ≤ next → Ranged n next (not_body a next)
  not_in v a p next le =
      then_ranged n next next (a.body next) (λ goal. made (Node NEGATION (goal ∷ []))) (p.body next le)
      (λ goal k more is. (more, compound_in n k NEGATION (goal ∷ []) (omega (arith, fixed)) (omega arith) (omega arith) (is, tt)))

  body_stays : (v f : ℕ) (parts : List Uses) → f < n → IsInRange n v (whole f parts) → AllByRecursion (UsesStay n v) parts → (next : ℕ) → v ≤ next → Ranged n next (compound_body f parts next)
  body_stays v f [] lt is h next le = goal_in v (whole f []) is next le
  body_stays v f (a ∷ []) lt is h next le =
      chosen (λ (m : Making Term). Ranged n next (m next)) (f == NEGATION) (not_body a) (goal_body (whole f (a ∷ []))) (not_in v a h.0 next le) (goal_in v (whole f (a ∷ [])) is next le)
  body_stays v f (a ∷ b ∷ []) lt is h next le =
      chosen (λ (m : Making Term). Ranged n next (m next)) (is_connective f) (both_bodies f a b) (goal_body (whole f (a ∷ b ∷ [])))
      (both_in f lt a.body b.body next (h.0.body next le) (λ k more. h.1.0.body k (omega (arith, le, more))))
      (goal_in v (whole f (a ∷ b ∷ [])) is next le)
  body_stays v f (a ∷ b ∷ c ∷ rest) lt is h next le = goal_in v (whole f (a ∷ b ∷ c ∷ rest)) is next le

  result_stays : (v f : ℕ) (parts : List Uses) → IsInRange n v (whole f parts) → AllByRecursion (UsesStay n v) parts → (variable next : ℕ) → variable < next → v ≤ next → Ranged n next (compound_result f parts variable next)
  result_stays v f [] is h variable next lt le = equal_in v (whole f []) is variable next lt le
  result_stays v f (a ∷ []) is h variable next lt le = equal_in v (whole f (a ∷ [])) is variable next lt le
  result_stays v f (a ∷ b ∷ []) is h variable next lt le =
      chosen (λ (m : Making Term). Ranged n next (m next)) (f == BAR) (either_result a b variable) (if f == QUESTION then result_if a b variable else equal_to (whole f (a ∷ b ∷ [])) variable)
      (both_in SEMICOLON (omega (arith, fixed)) (a.result variable) (b.result variable) next (h.0.result variable next lt le) (λ k more. h.1.0.result variable k (omega (arith, lt, more)) (omega (arith, le, more))))
      (chosen (λ (m : Making Term). Ranged n next (m next)) (f == QUESTION) (result_if a b variable) (equal_to (whole f (a ∷ b ∷ [])) variable)
      (both_in ARROW (omega (arith, fixed)) a.body (b.result variable) next (h.0.body next le) (λ k more. h.1.0.result variable k (omega (arith, lt, more)) (omega (arith, le, more))))
      (equal_in v (whole f (a ∷ b ∷ [])) is variable next lt le))
  result_stays v f (a ∷ b ∷ c ∷ rest) is h variable next lt le = equal_in v (whole f (a ∷ b ∷ c ∷ rest)) is variable next lt le

  alternatives_stay : (v f : ℕ) (parts : List Uses) → IsInRange n v (whole f parts) → AllByRecursion (UsesStay n v) parts → AllByRecursion (IsInRange n v) (compound_alternatives f parts)
  alternatives_stay v f [] is h = (is, tt)
  alternatives_stay v f (a ∷ []) is h = (is, tt)
  alternatives_stay v f (a ∷ b ∷ []) is h =
      chosen (AllByRecursion (IsInRange n v)) (f == BAR && not (a.is_conditional || b.has_conditional)) (a.alternatives ++ b.alternatives) (whole f (a ∷ b ∷ []) ∷ [])
      (all_behind n v a.alternatives b.alternatives h.0.alternatives h.1.0.alternatives) (is, tt)
  alternatives_stay v f (a ∷ b ∷ c ∷ rest) is h = (is, tt)

  leaf_stays : (v : ℕ) (t : Term) → IsInRange n v t → UsesStay n v (leaf_uses t)
  leaf_stays v t is = record { itself = is; body = goal_in v t is; result = equal_in v t is; alternatives = (is, tt) }

  themselves_in : (v : ℕ) (parts : List Uses) → AllByRecursion (UsesStay n v) parts → AllByRecursion (IsInRange n v) (map (λ p. p.itself) parts)
  themselves_in v [] h = tt
  themselves_in v (p ∷ ps) h = (h.0.itself, themselves_in v ps h.1)

  themselves_many : (ts : List Term) → length ts ≡ length (map (λ p. p.itself) (map uses ts))
  themselves_many [] = refl
  themselves_many (t ∷ ts) = ap (λ k. suc k) (themselves_many ts)

  uses_stay : (v : ℕ) (t : Term) → IsInRange n v t → UsesStay n v (uses t)
  uses_stay v =
      ind_terms (λ t. IsInRange n v t → UsesStay n v (uses t))
      (λ x is. subst (UsesStay n v) (sym (fold-Var Uses uses_step x)) (leaf_stays v (Var x) is))
      (λ i is. subst (UsesStay n v) (sym (fold-Int Uses uses_step i)) (leaf_stays v (Int i) is))
      (λ a is. subst (UsesStay n v) (sym (fold-Atom Uses uses_step a)) (leaf_stays v (Atom a) is))
      (λ f ts h is.
      let lt : f < n = compound_name n v f ts is in
      let each : AllByRecursion (UsesStay n v) (map uses ts) = each_stays n v uses (UsesStay n v) ts h (compound_parts n v f ts is) in
      let so : IsInRange n v (whole f (map uses ts)) = compound_in n v f (map (λ p. p.itself) (map uses ts)) lt (subst (λ k. 1 ≤ k) (themselves_many ts) (compound_length n v f ts is).0) (subst (λ k. k ≤ 255) (themselves_many ts) (compound_length n v f ts is).1) (themselves_in v (map uses ts) each) in
      subst (UsesStay n v) (sym (fold-Node Uses uses_step f ts)) (record {
        itself = so;
        body = body_stays v f (map uses ts) lt so each;
        result = result_stays v f (map uses ts) so each;
        alternatives = alternatives_stay v f (map uses ts) so each;
      }))

  -- clauses

  with_body_in : (v : ℕ) (body : Option Term) → IfSome body (IsInRange n v) → (goals : List Term) (next : ℕ) → v ≤ next → AllByRecursion (IsInRange n next) goals → MadeIn (AllIn n) next (with_body body goals next)
  with_body_in v None is goals next le h = (omega arith, h)
  with_body_in v (Some b) is goals next le h =
      then_in (IsInRange n) (AllIn n) next next ((uses b).body next) (λ goal. made (goals ++ goal ∷ [])) ((uses_stay v b is).body next le)
      (λ goal k more so. (more, all_behind n k goals (goal ∷ []) (all_widened n next k goals more h) (so, tt)))

  plain_in : (v : ℕ) (head : Term) (body : Option Term) → IsInRange n v head → IfSome body (IsInRange n v) → Ranged n v (plain_clause head body v)
  plain_in v head body is so =
      then_in (FlatIn n) (IsInRange n) v v (flat head [] v) (λ h. with_body body h.1 >>= (λ goals. made (clause h.0 goals)))
      (flats_stay n v head is [] v (omega arith) tt)
      (λ h k more p. then_in (AllIn n) (IsInRange n) v k (with_body body h.1 k) (λ goals. made (clause h.0 goals))
      (with_body_in v body so h.1 k more p.1)
      (λ goals m further q. (omega (arith, more, further), clause_in n m fixed h.0 goals (widened n k m h.0 further p.0) q)))

  value_in : (v : ℕ) (head result : Term) → IsInRange n v result → (goals : List Term) (next : ℕ) → v ≤ next → IsInRange n next head → AllByRecursion (IsInRange n next) goals → MadeIn (FlatIn n) next (head_with_value head result goals next)
  value_in v head result is goals next le p q =
      then_in (FlatIn n) (FlatIn n) next next (flat result goals next) (λ value. with_one_more (out-Term head) value.0 >>= (λ new_head. made (new_head, value.1)))
      (flats_stay n v result is goals next le q)
      (λ value k more so. then_in (IsInRange n) (FlatIn n) next k (with_one_more (out-Term head) value.0 k) (λ new_head. made (new_head, value.1))
      (one_more_in n k (out-Term head) head value.0 (roll-out-Term head) (widened n next k head more p) so.0)
      (λ new_head m further here. (omega (arith, more, further), (here, all_widened n k m value.1 further so.1))))

  argument_in : (v : ℕ) (head : Term) (body : Option Term) (result : Term) → IsInRange n v head → IfSome body (IsInRange n v) → IsInRange n v result → Ranged n v (argument_clause head body result v)
  argument_in v head body result is so last =
      then_in (FlatIn n) (IsInRange n) v v (flat head [] v) (λ h. with_body body h.1 >>= (λ goals. head_with_value h.0 result goals >>= (λ new. made (clause new.0 new.1))))
      (flats_stay n v head is [] v (omega arith) tt)
      (λ h k more p. then_in (AllIn n) (IsInRange n) v k (with_body body h.1 k) (λ goals. head_with_value h.0 result goals >>= (λ new. made (clause new.0 new.1)))
      (with_body_in v body so h.1 k more p.1)
      (λ goals m further q. then_in (FlatIn n) (IsInRange n) v m (head_with_value h.0 result goals m) (λ new. made (clause new.0 new.1))
      (value_in v h.0 result last goals m (omega (arith, more, further)) (widened n k m h.0 further p.0) q)
      (λ new j later r. (omega (arith, more, further, later), clause_in n j fixed new.0 new.1 r.0 r.1))))

  variable_clause_in : (v : ℕ) (head : Term) (body : Option Term) (result : Term) → IsInRange n v head → IfSome body (IsInRange n v) → IsInRange n v result → Ranged n v (variable_clause head body result v)
  variable_clause_in v head body result is so last =
      then_in (FlatIn n) (IsInRange n) v (v + 1) (flat head [] (v + 1)) (λ h. with_one_more (out-Term h.0) (Var v) >>= (λ new_head. with_body body h.1 >>= (λ goals. (uses result).result v >>= (λ value. made (pair NECK new_head (before goals value))))))
      (flats_stay n v head is [] (v + 1) (omega arith) tt)
      (λ h k more p. then_in (IsInRange n) (IsInRange n) v k (with_one_more (out-Term h.0) (Var v) k) (λ new_head. with_body body h.1 >>= (λ goals. (uses result).result v >>= (λ value. made (pair NECK new_head (before goals value)))))
      (one_more_in n k (out-Term h.0) h.0 (Var v) (roll-out-Term h.0) p.0 (variable_in n k v (omega (arith, more))))
      (λ new_head m further here. then_in (AllIn n) (IsInRange n) v m (with_body body h.1 m) (λ goals. (uses result).result v >>= (λ value. made (pair NECK new_head (before goals value))))
      (with_body_in v body so h.1 m (omega (arith, more, further)) (all_widened n k m h.1 further p.1))
      (λ goals j later q. then_in (IsInRange n) (IsInRange n) v j ((uses result).result v j) (λ value. made (pair NECK new_head (before goals value)))
      ((uses_stay v result last).result v j (omega (arith, more, further, later)) (omega (arith, more, further, later)))
      (λ value i after r. (omega (arith, more, further, later, after), pair_in n i NECK new_head (before goals value) (omega (arith, fixed)) (widened n m i new_head (omega (arith, later, after)) here) (before_in n i fixed goals value (all_widened n j i goals after q) r))))))

  definition_in : (v : ℕ) (head : Term) (body : Option Term) (result : Term) → IsInRange n v head → IfSome body (IsInRange n v) → IsInRange n v result → Ranged n v (definition_clause head body result v)
  definition_in v head body result is so last =
      chosen (λ (m : Making Term). Ranged n v (m v)) (is_chosen (out-Term result)) (variable_clause head body result) (argument_clause head body result)
      (variable_clause_in v head body result is so last) (argument_in v head body result is so last)

  definitions_in : (v : ℕ) (head : Term) (body : Option Term) → IsInRange n v head → IfSome body (IsInRange n v) → (results : List Term) → AllByRecursion (IsInRange n v) results → AllByRecursion (λ (m : Making Term). Ranged n v (m v)) (map (definition_clause head body) results)
  definitions_in v head body is so [] h = tt
  definitions_in v head body is so (r ∷ rs) h = (definition_in v head body r is so h.0, definitions_in v head body is so rs h.1)

  rule_in : (v : ℕ) (head body : Term) (d : Option (Term × Term)) → IsInRange n v head → IsInRange n v body → BothIn n v d → AllByRecursion (λ (m : Making Term). Ranged n v (m v)) (rule_clauses head body d)
  rule_in v head body None is so h = (plain_in v head (Some body) is so, tt)
  rule_in v head body (Some d) is so h = definitions_in v d.0 (Some body) h.0 so (uses d.1).alternatives (uses_stay v d.1 h.1).alternatives

  undefined_in : (v : ℕ) (t : Term) (rule : Option (Term × Term)) → IsInRange n v t → BothIn n v rule → AllByRecursion (λ (m : Making Term). Ranged n v (m v)) (clause_clauses t rule)
  undefined_in v t None is h = (plain_in v t None is tt, tt)
  undefined_in v t (Some rule) is h = rule_in v rule.0 rule.1 (pair_of DEFINES (out-Term rule.0)) h.0 h.1 (pair_parts n v DEFINES (out-Term rule.0) rule.0 (roll-out-Term rule.0) h.0)

  clauses_in : (v : ℕ) (t : Term) (d : Option (Term × Term)) → IsInRange n v t → BothIn n v d → AllByRecursion (λ (m : Making Term). Ranged n v (m v)) (clauses_by t d)
  clauses_in v t None is h = undefined_in v t (pair_of NECK (out-Term t)) is (pair_parts n v NECK (out-Term t) t (roll-out-Term t) is)
  clauses_in v t (Some d) is h = definitions_in v d.0 None h.0 tt (uses d.1).alternatives (uses_stay v d.1 h.1).alternatives

sentences_behind : (n : ℕ) (ss : List Sentence) (s : Sentence) → AllByRecursion (IsSentenceInRange n) ss → IsSentenceInRange n s → AllByRecursion (IsSentenceInRange n) (ss ++ s ∷ [])
sentences_behind n [] s h is = (is, tt)
sentences_behind n (t ∷ ss) s h is = (h.0, sentences_behind n ss s h.1 is)

all_made_in : (n line v : ℕ) (done : List Sentence) (cs : List (Making Term)) (all : List Sentence) → AllByRecursion (IsSentenceInRange n) done → AllByRecursion (λ (m : Making Term). Ranged n v (m v)) cs → all_made line v done cs ≡ Some all → AllByRecursion (IsSentenceInRange n) all
all_made_in n line v done [] all d h e = subst (AllByRecursion (IsSentenceInRange n)) (same_Some _ _ e) d
all_made_in n line v done (c ∷ cs) all d h e = by (c v) h.0 (λ s is f. all_made_in n line v (done ++ s ∷ []) cs all (sentences_behind n done s d is) h.1 f) e
  where
    by : (o : Option (Term × ℕ)) → Ranged n v o → ((s : Sentence) → IsSentenceInRange n s → all_made line v (done ++ s ∷ []) cs ≡ Some all → AllByRecursion (IsSentenceInRange n) all) → option_and_then (λ s. all_made line v (done ++ s ∷ []) cs) (made_sentence line o) ≡ Some all → AllByRecursion (IsSentenceInRange n) all
    by None r more e = absurd (none-some _ e)
    by (Some x) r more e = more (record { term = x.0; line = line; vars = x.1 }) r.1 e

-- so are the clauses that a clause stands for
pub clauses_stay : ClausesStayInRange
clauses_stay n s all fixed e is =
    all_made_in n s.line s.vars [] (term_clauses s.term) all tt (clauses_in n fixed s.vars s.term (pair_of DEFINES (out-Term s.term)) is (pair_parts n s.vars DEFINES (out-Term s.term) s.term (roll-out-Term s.term) is)) e

-- so are those that a call gives
pub given_stay : (result : Result (List Sentence) ExpandFault) (s : Sentence) → Expands result (FunctionalExpanded s) → IfOk result (λ all. (names : ℕ) → length fixed_names ≤ names → IsSentenceInRange names s → AllByRecursion (IsSentenceInRange names) all)
given_stay (Ok all) s e = λ names fixed is. clauses_stay names s all fixed e is
given_stay (Err fault) s e = tt
