-- A term belongs to the name of a part exactly where it has the part's shape.
use Rattle.std.proofs.Common.{◌≡◌, ℕ, ℤ, suc, ◌+◌, List, [], ◌∷◌, map, length, refl, ap, sym, ◌∙◌, subst}
use Rattle.std.specs.List.{AllByRecursion}
use Rattle.std.proofs.lemmas.List.{length-map}
use Rattle.term_core.specs.declared.terms.Term.{Term, out-Term}
use Rattle.term_core.specs.declared.terms.Term as term
use Rattle.term_core.specs.declared.terms.Term.TheOpen as layer
use Rattle.term_core.specs.declared.terms.Term.TheVariants.{outs-Var, outs-Int, outs-Atom, outs-Node}
use Rattle.term_core.proofs.TermFolds.{fold-Var, fold-Int, fold-Atom, fold-Node, ind_terms}
use Rattle.prog_data.specs.declared.grammars.Grammar.{Grammar}
use Rattle.regtype_grammar.specs.TermRules.{Part, part_step, part_of, part_rules, all_called, all_rules}
use Rattle.regtype_grammar.specs.TypeTerms.{Shaped, variable, integer, atom, compound, ShapedEach, no_shapes, more_shapes}
use Rattle.regtype_grammar.proofs.PartLaws.{filled, inner_length}
use Rattle.regtype_grammar.proofs.PartLoops.{single, map_append}
use Rattle.regtype_grammar.proofs.RuleMeaning.{EachHas, Admits, Steps, one_rule, Stand, stand_parts}

-- the outermost of a shape

module _ (holds : ℕ → Term → Type 0) where
  of_variable : {t u : Term} (v : ℕ) → Shaped holds t u → t ≡ term.Var v → holds v u
  of_variable {t} {u} v (variable w e h) i = let same : ◌≡◌ {A = layer.Term-F Term} (layer.Var w) (layer.Var v) = sym (outs-Var w) ∙ ap out-Term (sym e ∙ i) ∙ outs-Var v in let name : w ≡ v = cc in subst (λ k. holds k u) name h
  of_variable v (integer k e h) i = let no : ◌≡◌ {A = layer.Term-F Term} (layer.Int k) (layer.Var v) = sym (outs-Int k) ∙ ap out-Term (sym e ∙ i) ∙ outs-Var v in cc
  of_variable v (atom a e h) i = let no : ◌≡◌ {A = layer.Term-F Term} (layer.Atom a) (layer.Var v) = sym (outs-Atom a) ∙ ap out-Term (sym e ∙ i) ∙ outs-Var v in cc
  of_variable v (compound f ts us e h each) i = let no : ◌≡◌ {A = layer.Term-F Term} (layer.Node f ts) (layer.Var v) = sym (outs-Node f ts) ∙ ap out-Term (sym e ∙ i) ∙ outs-Var v in cc

  of_integer : {t u : Term} (k : ℤ) → Shaped holds t u → t ≡ term.Int k → u ≡ term.Int k
  of_integer k (variable w e h) i = let no : ◌≡◌ {A = layer.Term-F Term} (layer.Var w) (layer.Int k) = sym (outs-Var w) ∙ ap out-Term (sym e ∙ i) ∙ outs-Int k in cc
  of_integer k (integer j e h) i = let same : ◌≡◌ {A = layer.Term-F Term} (layer.Int j) (layer.Int k) = sym (outs-Int j) ∙ ap out-Term (sym e ∙ i) ∙ outs-Int k in h ∙ ap term.Int cc
  of_integer k (atom a e h) i = let no : ◌≡◌ {A = layer.Term-F Term} (layer.Atom a) (layer.Int k) = sym (outs-Atom a) ∙ ap out-Term (sym e ∙ i) ∙ outs-Int k in cc
  of_integer k (compound f ts us e h each) i = let no : ◌≡◌ {A = layer.Term-F Term} (layer.Node f ts) (layer.Int k) = sym (outs-Node f ts) ∙ ap out-Term (sym e ∙ i) ∙ outs-Int k in cc

  of_atom : {t u : Term} (a : ℕ) → Shaped holds t u → t ≡ term.Atom a → u ≡ term.Atom a
  of_atom a (variable w e h) i = let no : ◌≡◌ {A = layer.Term-F Term} (layer.Var w) (layer.Atom a) = sym (outs-Var w) ∙ ap out-Term (sym e ∙ i) ∙ outs-Atom a in cc
  of_atom a (integer j e h) i = let no : ◌≡◌ {A = layer.Term-F Term} (layer.Int j) (layer.Atom a) = sym (outs-Int j) ∙ ap out-Term (sym e ∙ i) ∙ outs-Atom a in cc
  of_atom a (atom b e h) i = let same : ◌≡◌ {A = layer.Term-F Term} (layer.Atom b) (layer.Atom a) = sym (outs-Atom b) ∙ ap out-Term (sym e ∙ i) ∙ outs-Atom a in h ∙ ap term.Atom cc
  of_atom a (compound f ts us e h each) i = let no : ◌≡◌ {A = layer.Term-F Term} (layer.Node f ts) (layer.Atom a) = sym (outs-Node f ts) ∙ ap out-Term (sym e ∙ i) ∙ outs-Atom a in cc

  record IsCompound (f : ℕ) (ts : List Term) (u : Term) : Type 0 where
    parts : List Term
    is : u ≡ term.Node f parts
    each : ShapedEach holds ts parts

  of_compound : {t u : Term} (f : ℕ) (ts : List Term) → Shaped holds t u → t ≡ term.Node f ts → IsCompound f ts u
  of_compound f ts (variable w e h) i = let no : ◌≡◌ {A = layer.Term-F Term} (layer.Var w) (layer.Node f ts) = sym (outs-Var w) ∙ ap out-Term (sym e ∙ i) ∙ outs-Node f ts in cc
  of_compound f ts (integer j e h) i = let no : ◌≡◌ {A = layer.Term-F Term} (layer.Int j) (layer.Node f ts) = sym (outs-Int j) ∙ ap out-Term (sym e ∙ i) ∙ outs-Node f ts in cc
  of_compound f ts (atom b e h) i = let no : ◌≡◌ {A = layer.Term-F Term} (layer.Atom b) (layer.Node f ts) = sym (outs-Atom b) ∙ ap out-Term (sym e ∙ i) ∙ outs-Node f ts in cc
  of_compound f ts (compound h ss us e is each) i =
      let same : ◌≡◌ {A = layer.Term-F Term} (layer.Node h ss) (layer.Node f ts) = sym (outs-Node h ss) ∙ ap out-Term (sym e ∙ i) ∙ outs-Node f ts in
      let name : h ≡ f = cc in
      let parts : ss ≡ ts = cc in
      record { parts = us; is = is ∙ ap (λ k. term.Node k us) name; each = subst (λ xs. ShapedEach holds xs us) parts each }

-- what holds in place of variables may be said in another way
module _ (holds others : ℕ → Term → Type 0) (same : (v : ℕ) (u : Term) → holds v u → others v u) where
  mutual
    pub shape_more : {t u : Term} → Shaped holds t u → Shaped others t u
    shape_more {t} {u} (variable v e h) = variable v e (same v u h)
    shape_more (integer k e h) = integer k e h
    shape_more (atom a e h) = atom a e h
    shape_more (compound f ts us e h each) = compound f ts us e h (shapes_more each)

    shapes_more : {ts us : List Term} → ShapedEach holds ts us → ShapedEach others ts us
    shapes_more no_shapes = no_shapes
    shapes_more (more_shapes s rest) = more_shapes (shape_more s) (shapes_more rest)

-- the parts of a term, where each term of A comes by a rule, and each that comes by a rule is one of B
module _ (g : Grammar) (A B : ℕ → Term → Type 0) (steps : Steps g A B) (f : ℕ → ℕ) where
  abbrev pub OfType : (ℕ → Term → Type 0) → ℕ → Term → Type 0
  OfType has v u = has (f v) u

  -- what a part means, by its name and by its rule
  pub record Means (p : Part) (S T : Term → Type 0) : Type 0 where
    pub name : (n : ℕ) → Stand g n (map single (part_rules p.needs n p)) → (u : Term) → (A (p.called n) u → S u) × (T u → B (p.called n) u)
    pub whole : (n : ℕ) → Stand g n (map single (p.inner n)) → (u : Term) → (Admits A (p.rule n) u → S u) × (T u → Admits B (p.rule n) u)

  -- the terms with the shape of one
  abbrev pub MeansShape : Part → Term → Type 0
  MeansShape p t = Means p (Shaped (OfType A) t) (Shaped (OfType B) t)

  -- a part with a name of its own
  named : (p : Part) (S T : Term → Type 0) (k : ℕ) → p.needs ≡ suc k → ((n : ℕ) → p.called n ≡ n)
      → ((n : ℕ) → Stand g n (map single (p.inner n)) → (u : Term) → (Admits A (p.rule n) u → S u) × (T u → Admits B (p.rule n) u)) → Means p S T
  named p S T k needs own whole = record { name = by_name; whole = whole }
    where
      by_name : (n : ℕ) → Stand g n (map single (part_rules p.needs n p)) → (u : Term) → (A (p.called n) u → S u) × (T u → B (p.called n) u)
      by_name n h u =
          let both = subst (λ m. Stand g n (map single (part_rules m n p))) needs h in
          let one = one_rule g A B steps n (p.rule (suc n)) both.0 u in
          let all = whole (suc n) both.1 u in
          (λ a. all.0 (one.0 (subst (λ m. A m u) (own n) a)), λ s. subst (λ m. B m u) (sym (own n)) (one.1 (all.1 s)))

  no_means : (us : List Term) → (EachHas A us [] → ShapedEach (OfType A) [] us) × (ShapedEach (OfType B) [] us → EachHas B us [])
  no_means us = (forth us, back)
    where
      forth : (vs : List Term) → EachHas A vs [] → ShapedEach (OfType A) [] vs
      forth [] h = no_shapes
      forth (v ∷ vs) h = absurd h

      back : {vs : List Term} → ShapedEach (OfType B) [] vs → EachHas B vs []
      back no_shapes = tt

  more_means : (t : Term) (ts : List Term) (name : ℕ) (names : List ℕ) → ((u : Term) → (A name u → Shaped (OfType A) t u) × (Shaped (OfType B) t u → B name u))
      → ((us : List Term) → (EachHas A us names → ShapedEach (OfType A) ts us) × (ShapedEach (OfType B) ts us → EachHas B us names))
      → (us : List Term) → (EachHas A us (name ∷ names) → ShapedEach (OfType A) (t ∷ ts) us) × (ShapedEach (OfType B) (t ∷ ts) us → EachHas B us (name ∷ names))
  more_means t ts name names one rest us = (forth us, back)
    where
      forth : (vs : List Term) → EachHas A vs (name ∷ names) → ShapedEach (OfType A) (t ∷ ts) vs
      forth [] h = absurd h
      forth (v ∷ vs) h = more_shapes ((one v).0 h.0) ((rest vs).0 h.1)

      back : {vs : List Term} → ShapedEach (OfType B) (t ∷ ts) vs → EachHas B vs (name ∷ names)
      back (more_shapes {u = u} {us = us} s each) = ((one u).1 s, (rest us).1 each)

  each_means : (ts : List Term) → AllByRecursion (λ t. MeansShape (part_of f t) t) ts → (n : ℕ) → Stand g n (map single (all_rules n (map (part_of f) ts))) → (us : List Term)
      → (EachHas A us (all_called n (map (part_of f) ts)) → ShapedEach (OfType A) ts us) × (ShapedEach (OfType B) ts us → EachHas B us (all_called n (map (part_of f) ts)))
  each_means [] h n k us = no_means us
  each_means (t ∷ ts) h n k us =
      let p = part_of f t in
      let rules = all_rules (p.needs + n) (map (part_of f) ts) in
      let many : length (map single (part_rules p.needs n p)) + n ≡ p.needs + n = ap (λ m. m + n) (length-map (part_rules p.needs n p) single ∙ filled f p (inner_length f t) n) in
      let both = stand_parts g n (map single (part_rules p.needs n p)) (map single rules) (subst (Stand g n) (map_append (part_rules p.needs n p) rules) k) in
      more_means t ts (p.called n) (all_called (p.needs + n) (map (part_of f) ts)) (h.0.name n both.0) (each_means ts h.1 (p.needs + n) (subst (λ m. Stand g m (map single rules)) many both.1)) us

  pub part_means : (t : Term) → MeansShape (part_of f t) t
  part_means = ind_terms (λ t. MeansShape (part_of f t) t)
      (λ v. subst (λ p. MeansShape p (term.Var v)) (sym (fold-Var Part (part_step f) v))
      (record { name = λ n h u. (λ b. variable v refl b, λ s. of_variable (OfType B) v s refl); whole = λ n h u. (λ b. variable v refl b, λ s. of_variable (OfType B) v s refl) }))
      (λ k. subst (λ p. MeansShape p (term.Int k)) (sym (fold-Int Part (part_step f) k))
      (named (part_step f (layer.Int k)) (Shaped (OfType A) (term.Int k)) (Shaped (OfType B) (term.Int k)) 0 refl (λ n. refl) (λ n h u. (λ e. integer k refl e, λ s. of_integer (OfType B) k s refl))))
      (λ a. subst (λ p. MeansShape p (term.Atom a)) (sym (fold-Atom Part (part_step f) a))
      (named (part_step f (layer.Atom a)) (Shaped (OfType A) (term.Atom a)) (Shaped (OfType B) (term.Atom a)) 0 refl (λ n. refl) (λ n h u. (λ e. atom a refl e, λ s. of_atom (OfType B) a s refl))))
      (λ k ts h. subst (λ p. MeansShape p (term.Node k ts)) (sym (fold-Node Part (part_step f) k ts))
      (named (part_step f (layer.Node k (map (part_of f) ts))) (Shaped (OfType A) (term.Node k ts)) (Shaped (OfType B) (term.Node k ts)) _ refl (λ n. refl)
      (λ n s u. (λ a. compound k ts a.0 refl a.1 ((each_means ts h n s a.0).0 a.2), λ shape. let c = of_compound (OfType B) k ts shape refl in (c.parts, c.is, (each_means ts h n s c.parts).1 c.each)))))
