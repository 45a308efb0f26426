-- Each step of unification keeps the values that solve the equations, so the outcome is right.
use Rattle.std.proofs.Common.{◌≡◌, ◌≤◌, ◌+◌, ℕ, zero, suc, Bool, true, false, ◌==◌, ◌||◌, List, [], ◌∷◌, ◌++◌, map, length, refl, sym, ap, ◌∙◌, subst, append-nil, append_assoc, arith, true≢false}
use Rattle.std.specs.Prelude.{if◌then◌else◌, ◌&&◌, ℤ}
use Rattle.std.specs.List.{AllByRecursion, list_any}
use Rattle.std.specs.Ordering.{int_eq}
use Rattle.std.proofs.lemmas.Bool.Decides.{nat_tests, Decides-int_eq}
use Rattle.std.proofs.lemmas.List.{length-map}
use Rattle.term_core.specs.declared.terms.Term.{Term, out-Term, roll-Term, roll-out-Term}
use Rattle.term_core.specs.declared.terms.Term as term
use Rattle.term_core.specs.declared.terms.Term.TheOpen.{Term-F, Var, Int, Atom, Node}
use Rattle.term_core.specs.declared.terms.Term.TheVariants.{rolls-Var, rolls-Int, rolls-Atom, rolls-Node, outs-Int, outs-Atom, outs-Node}
use Rattle.term_core.specs.declared.equations.Equation.{Equation}
use Rattle.term_core.specs.declared.equations.Binding.{Binding}
use Rattle.term_core.specs.declared.equations.Outcome.{Outcome}
use Rattle.term_core.specs.declared.equations.Outcome.TheVariants.{Solved, Clash, Cyclic}
use Rattle.term_core.specs.Terms.{instance, instance_step, only, replace, occurs}
use Rattle.term_core.specs.Unify.{pairs, Move, Becomes, Binds, Clashes, Cycles, move_at, move, replace_all, Stage, Open, Ended, after, solve, solves, values}
use Rattle.term_core.specs.Solutions.{Solves, IsRight, HasOneOutcome}
use Rattle.term_core.proofs.TermFolds.{fold-Node, fold-Int, fold-Atom, ind_terms}
use Rattle.term_core.proofs.TermLaws.{instance-Var, instance-Node, instance-instance, replace-absent}
use Rattle.term_core.proofs.Occurrences.{occurs-Node, occurs-Var}
use Rattle.term_core.specs.Sizes.{total, size, size_step}
use Rattle.term_core.proofs.Sizes.{move_binds}
use Rattle.term_core.proofs.UnifyEnds.{stage_ends}

same_number : (m n : ℕ) → (m == n) ≡ true → m ≡ n
same_number m n h = grind (arith, nat_tests)

equal_itself : (v : ℕ) → (v == v) ≡ true
equal_itself v = grind (arith, nat_tests)

both_true : (a b : Bool) → (a && b) ≡ true → (a ≡ true) × (b ≡ true)
both_true true b h = (refl, h)
both_true false b h = cc

first_same : {A : Type 0} {x y : A} {xs ys : List A} → x ∷ xs ≡ y ∷ ys → x ≡ y
first_same e = cc

rest_same : {A : Type 0} {x y : A} {xs ys : List A} → x ∷ xs ≡ y ∷ ys → xs ≡ ys
rest_same e = cc

-- what solves two lists of equations one after the other solves each of them
solves_split : (value : ℕ → Term) (es fs : List Equation) → Solves value (es ++ fs) → Solves value es × Solves value fs
solves_split value [] fs s = (tt, s)
solves_split value (e ∷ es) fs s = let r = solves_split value es fs s.1 in ((s.0, r.0), r.1)

-- and the other way round
solves_joined : (value : ℕ → Term) (es fs : List Equation) → Solves value es → Solves value fs → Solves value (es ++ fs)
solves_joined value [] fs s r = r
solves_joined value (e ∷ es) fs s r = (s.0, solves_joined value es fs s.1 r)

module _ (value : ℕ → Term) where
  -- the outermost construct of an instance
  abbrev pub layer : Term-F Term → Term-F Term
  layer (Var v) = out-Term (value v)
  layer (Int n) = Int n
  layer (Atom a) = Atom a
  layer (Node f ts) = Node f (map (instance value) ts)

  -- it is so for each term, by what the term is
  layer_is : (x : Term-F Term) (l : Term) → roll-Term x ≡ l → out-Term (instance value l) ≡ layer x
  layer_is (Var v) l e = ap (λ t. out-Term (instance value t)) (sym e ∙ rolls-Var v) ∙ ap out-Term (instance-Var value v)
  layer_is (Int n) l e = ap (λ t. out-Term (instance value t)) (sym e ∙ rolls-Int n) ∙ ap out-Term (fold-Int Term (instance_step value) n) ∙ outs-Int n
  layer_is (Atom a) l e = ap (λ t. out-Term (instance value t)) (sym e ∙ rolls-Atom a) ∙ ap out-Term (fold-Atom Term (instance_step value) a) ∙ outs-Atom a
  layer_is (Node f ts) l e = ap (λ t. out-Term (instance value t)) (sym e ∙ rolls-Node f ts) ∙ ap out-Term (instance-Node value f ts) ∙ outs-Node f _

  -- the instance of a variable is its value
  var_is : (v : ℕ) (l : Term) → roll-Term (Var v) ≡ l → instance value l ≡ value v
  var_is v l e = ap (instance value) (sym e ∙ rolls-Var v) ∙ instance-Var value v

  -- instances are the same exactly where their layers are
  layers_same : (l r : Term) (x y : Term-F Term) → roll-Term x ≡ l → roll-Term y ≡ r → instance value l ≡ instance value r → layer x ≡ layer y
  layers_same l r x y el er h = sym (layer_is x l el) ∙ ap out-Term h ∙ layer_is y r er

  terms_same : (l r : Term) (x y : Term-F Term) → roll-Term x ≡ l → roll-Term y ≡ r → layer x ≡ layer y → instance value l ≡ instance value r
  terms_same l r x y el er h = sym (roll-out-Term (instance value l)) ∙ ap roll-Term (layer_is x l el ∙ h ∙ sym (layer_is y r er)) ∙ roll-out-Term (instance value r)

  -- the value of a variable that stands in one of some terms is no larger than their instances
  abbrev pub Inside : ℕ → Term → Type 0
  Inside v t = occurs v t ≡ true → size (value v) ≤ size (instance value t)

  inside_parts : (v : ℕ) (ts : List Term) → AllByRecursion (Inside v) ts → list_any (λ b. b) (map (occurs v) ts) ≡ true → size (value v) ≤ total (map size (map (instance value) ts))
  inside_parts v [] h o = absurd (true≢false (sym o))
  inside_parts v (t ∷ ts) h o = either (occurs v t) refl o (inside_parts v ts h.1)
    where
      either : (b : Bool) → occurs v t ≡ b → (b || list_any (λ b. b) (map (occurs v) ts)) ≡ true → (list_any (λ b. b) (map (occurs v) ts) ≡ true → size (value v) ≤ total (map size (map (instance value) ts))) →
          size (value v) ≤ size (instance value t) + total (map size (map (instance value) ts))
      either true is o rest = let p = h.0 is in omega (arith, p)
      either false is o rest = let p = rest o in omega (arith, p)

  -- an instance of a compound is one larger than the instances of its parts
  size_node : (f : ℕ) (ts : List Term) → size (instance value (term.Node f ts)) ≡ total (map size (map (instance value) ts)) + 1
  size_node f ts = ap size (instance-Node value f ts) ∙ fold-Node ℕ size_step f _

  -- and so of a variable that stands in a term
  inside : (v : ℕ) (t : Term) → Inside v t
  inside v =
      ind_terms (Inside v)
      (λ w o. let same = ap (λ w. size (value w)) (same_number v w (sym (occurs-Var v w) ∙ o)) in let is = ap size (instance-Var value w) in omega (arith, same, is))
      (λ n o. absurd (true≢false (sym o ∙ fold-Int Bool _ n)))
      (λ a o. absurd (true≢false (sym o ∙ fold-Atom Bool _ a)))
      (λ f ts h o. let p = inside_parts v ts h (sym (occurs-Node v f ts) ∙ o) in let is = size_node f ts in omega (arith, p, is))

  -- so no value of a variable is an instance of a compound in which it stands
  no_cycle : (v f : ℕ) (ts : List Term) (t : Term) → roll-Term (Node f ts) ≡ t → occurs v t ≡ true → value v ≡ instance value t → ⊥
  no_cycle v f ts t e o same =
      let is : t ≡ term.Node f ts = sym e ∙ rolls-Node f ts in
      let parts = inside_parts v ts (all_inside ts) (sym (occurs-Node v f ts) ∙ ap (occurs v) (sym is) ∙ o) in
      let sizes : size (value v) ≡ total (map size (map (instance value) ts)) + 1 = ap size (same ∙ ap (instance value) is) ∙ size_node f ts in
      absurd (omega (arith, parts, sizes))
    where
      all_inside : (ts : List Term) → AllByRecursion (Inside v) ts
      all_inside [] = tt
      all_inside (t ∷ ts) = (inside v t, all_inside ts)

  -- what a move says of the equation of two terms: it is solved exactly where what becomes of it is
  abbrev pub Keeps : Term → Term → Move → Type 0
  Keeps l r (Becomes es) = (instance value l ≡ instance value r → Solves value es) × (Solves value es → instance value l ≡ instance value r)
  Keeps l r (Binds v t) = (instance value l ≡ instance value r → value v ≡ instance value t) × (value v ≡ instance value t → instance value l ≡ instance value r)
  Keeps l r Clashes = instance value l ≡ instance value r → ⊥
  Keeps l r Cycles = instance value l ≡ instance value r → ⊥

  -- a variable on the left, or on the right, is bound to the other side
  left_binds : (l r : Term) (v : ℕ) → roll-Term (Var v) ≡ l → Keeps l r (Binds v r)
  left_binds l r v el = (λ h. sym (var_is v l el) ∙ h, λ h. var_is v l el ∙ h)

  right_binds : (l r : Term) (v : ℕ) → roll-Term (Var v) ≡ r → Keeps l r (Binds v l)
  right_binds l r v er = (λ h. sym (var_is v r er) ∙ sym h, λ h. sym h ∙ sym (var_is v r er))

  -- two variables: nothing is left of one variable with itself
  two_vars : (l r : Term) (v w : ℕ) (b : Bool) → (v == w) ≡ b → roll-Term (Var v) ≡ l → roll-Term (Var w) ≡ r → Keeps l r (if b then Becomes [] else Binds v r)
  two_vars l r v w true is el er = (λ h. tt, λ s. ap (instance value) (sym el ∙ ap (λ n. roll-Term (Var n)) (same_number v w is) ∙ er))
  two_vars l r v w false is el er = left_binds l r v el

  -- a variable and a compound: it is bound where it does not stand there
  left_compound : (l r : Term) (v f : ℕ) (ts : List Term) (b : Bool) → occurs v r ≡ b → roll-Term (Var v) ≡ l → roll-Term (Node f ts) ≡ r → Keeps l r (if b then Cycles else Binds v r)
  left_compound l r v f ts true is el er = λ h. no_cycle v f ts r er is (sym (var_is v l el) ∙ h)
  left_compound l r v f ts false is el er = left_binds l r v el

  right_compound : (l r : Term) (v f : ℕ) (ts : List Term) (b : Bool) → occurs v l ≡ b → roll-Term (Node f ts) ≡ l → roll-Term (Var v) ≡ r → Keeps l r (if b then Cycles else Binds v l)
  right_compound l r v f ts true is el er = λ h. no_cycle v f ts l el is (sym (var_is v r er) ∙ sym h)
  right_compound l r v f ts false is el er = right_binds l r v er

  -- two integers, and two atoms, have to be the same
  two_ints : (l r : Term) (m n : ℤ) (b : Bool) → int_eq m n ≡ b → roll-Term (Int m) ≡ l → roll-Term (Int n) ≡ r → Keeps l r (if b then Becomes [] else Clashes)
  two_ints l r m n true is el er = (λ h. tt, λ s. ap (instance value) (sym el ∙ ap (λ n. roll-Term (Int n)) ((Decides-int_eq m n).0 is) ∙ er))
  two_ints l r m n false is el er = λ h. let same : m ≡ n = (let e = layers_same l r (Int m) (Int n) el er h in cc) in true≢false (sym ((Decides-int_eq m n).1 same) ∙ is)

  two_atoms : (l r : Term) (a b : ℕ) (test : Bool) → (a == b) ≡ test → roll-Term (Atom a) ≡ l → roll-Term (Atom b) ≡ r → Keeps l r (if test then Becomes [] else Clashes)
  two_atoms l r a b true is el er = (λ h. tt, λ s. ap (instance value) (sym el ∙ ap (λ n. roll-Term (Atom n)) (same_number a b is) ∙ er))
  two_atoms l r a b false is el er = λ h. let same : a ≡ b = (let e = layers_same l r (Atom a) (Atom b) el er h in cc) in true≢false (sym (ap (λ n. a == n) (sym same) ∙ equal_itself a) ∙ is)

  -- the instances of two lists of terms are the same exactly where the equations of their parts are solved
  parts_solved : (ts us : List Term) → map (instance value) ts ≡ map (instance value) us → Solves value (pairs ts us)
  parts_solved [] us h = tt
  parts_solved (t ∷ ts) [] h = tt
  parts_solved (t ∷ ts) (u ∷ us) h = (first_same h, parts_solved ts us (rest_same h))

  parts_same : (ts us : List Term) → length ts ≡ length us → Solves value (pairs ts us) → map (instance value) ts ≡ map (instance value) us
  parts_same [] [] h s = refl
  parts_same [] (u ∷ us) h s = absurd (omega (arith, h))
  parts_same (t ∷ ts) [] h s = absurd (omega (arith, h))
  parts_same (t ∷ ts) (u ∷ us) h s = ap (λ x. x ∷ map (instance value) ts) s.0 ∙ ap (λ xs. instance value u ∷ xs) (parts_same ts us (omega (arith, h)) s.1)

  -- two compounds are the same only where their names and their parts are
  abbrev compound : ℕ → List Term → Term-F Term
  compound f ts = Node f ts

  same_name : (f g : ℕ) (ts us : List Term) → compound f ts ≡ compound g us → f ≡ g
  same_name f g ts us e = cc

  same_parts : (f g : ℕ) (ts us : List Term) → compound f ts ≡ compound g us → ts ≡ us
  same_parts f g ts us e = cc

  -- two compounds have to be of one name and number of parts, and then their parts are left
  two_compounds : (l r : Term) (f g : ℕ) (ts us : List Term) (b : Bool) → ((f == g) && (length ts == length us)) ≡ b → roll-Term (Node f ts) ≡ l → roll-Term (Node g us) ≡ r → Keeps l r (if b then Becomes (pairs ts us) else Clashes)
  two_compounds l r f g ts us true is el er =
      let tests = both_true (f == g) (length ts == length us) is in
      let name = same_number f g tests.0 in
      let long = same_number (length ts) (length us) tests.1 in (
        λ h. parts_solved ts us (same_parts f g _ _ (layers_same l r (Node f ts) (Node g us) el er h)),
        λ s. terms_same l r (Node f ts) (Node g us) el er (ap (λ n. Node n (map (instance value) ts)) name ∙ ap (Node g) (parts_same ts us long s)),
      )
  two_compounds l r f g ts us false is el er = λ h.
      let e = layers_same l r (Node f ts) (Node g us) el er h in
      let name = same_name f g _ _ e in
      let long : length ts ≡ length us = sym (length-map ts (instance value)) ∙ ap length (same_parts f g _ _ e) ∙ length-map us (instance value) in
      true≢false (sym (ap (λ b. b && (length ts == length us)) (ap (λ n. f == n) (sym name) ∙ equal_itself f) ∙ ap (λ n. length ts == n) (sym long) ∙ equal_itself (length ts)) ∙ is)

  -- different constants, or a constant and a compound, have no instances that are the same
  different : (l r : Term) (x y : Term-F Term) → roll-Term x ≡ l → roll-Term y ≡ r → (layer x ≡ layer y → ⊥) → Keeps l r Clashes
  different l r x y el er never = λ h. never (layers_same l r x y el er h)

  -- by what the two sides are
  keeps : (l r : Term) (x y : Term-F Term) → roll-Term x ≡ l → roll-Term y ≡ r → Keeps l r (move_at l r x y)
  keeps l r (Var v) (Var w) el er = two_vars l r v w (v == w) refl el er
  keeps l r (Var v) (Int n) el er = left_binds l r v el
  keeps l r (Var v) (Atom b) el er = left_binds l r v el
  keeps l r (Var v) (Node g us) el er = left_compound l r v g us (occurs v r) refl el er
  keeps l r (Int m) (Var w) el er = right_binds l r w er
  keeps l r (Int m) (Int n) el er = two_ints l r m n (int_eq m n) refl el er
  keeps l r (Int m) (Atom b) el er = different l r (Int m) (Atom b) el er (λ e. cc)
  keeps l r (Int m) (Node g us) el er = different l r (Int m) (Node g us) el er (λ e. cc)
  keeps l r (Atom a) (Var w) el er = right_binds l r w er
  keeps l r (Atom a) (Int n) el er = different l r (Atom a) (Int n) el er (λ e. cc)
  keeps l r (Atom a) (Atom b) el er = two_atoms l r a b (a == b) refl el er
  keeps l r (Atom a) (Node g us) el er = different l r (Atom a) (Node g us) el er (λ e. cc)
  keeps l r (Node f ts) (Var w) el er = right_compound l r w f ts (occurs w l) refl el er
  keeps l r (Node f ts) (Int n) el er = different l r (Node f ts) (Int n) el er (λ e. cc)
  keeps l r (Node f ts) (Atom b) el er = different l r (Node f ts) (Atom b) el er (λ e. cc)
  keeps l r (Node f ts) (Node g us) el er = two_compounds l r f g ts us ((f == g) && (length ts == length us)) refl el er

  -- and so for the move of an equation
  move_keeps : (e : Equation) → Keeps e.left e.right (move e)
  move_keeps e = keeps e.left e.right (out-Term e.left) (out-Term e.right) (roll-out-Term e.left) (roll-out-Term e.right)

  -- where v has the value of t, putting t in its place changes no instance
  module _ (v : ℕ) (t : Term) (same : value v ≡ instance value t) where
    -- of a variable
    only_same : (w : ℕ) → instance value (only v t w) ≡ value w
    only_same w = either (v == w) refl
      where
        either : (b : Bool) → (v == w) ≡ b → instance value (if b then t else term.Var w) ≡ value w
        either true is = sym same ∙ ap value (same_number v w is)
        either false is = instance-Var value w

    -- of a term
    replaced_same : (u : Term) → instance value (replace v t u) ≡ instance value u
    replaced_same u = instance-instance value (only v t) u ∙ (λ i. instance (λ w. only_same w i) u)

    -- so what solves equations solves them with t in the place of v
    replaced_solved : (es : List Equation) → Solves value es → Solves value (replace_all v t es)
    replaced_solved [] s = tt
    replaced_solved (e ∷ es) s = (replaced_same e.left ∙ s.0 ∙ sym (replaced_same e.right), replaced_solved es s.1)

-- the values of a binding and more are those of the more, with the binding put in first
bound_solved : (b : Binding) (more : List Binding) (es : List Equation) → Solves (values more) (replace_all b.variable b.value es) → Solves (values (b ∷ more)) es
bound_solved b more [] s = tt
bound_solved b more (e ∷ es) s = (sym (moved e.left) ∙ s.0 ∙ moved e.right, bound_solved b more es s.1)
  where
    moved : (u : Term) → instance (values more) (replace b.variable b.value u) ≡ instance (values (b ∷ more)) u
    moved u = instance-instance (values more) (only b.variable b.value) u

-- under the bindings a bound variable has the value of its term
bound_itself : (b : Binding) (more : List Binding) → occurs b.variable b.value ≡ false → values (b ∷ more) b.variable ≡ instance (values (b ∷ more)) b.value
bound_itself b more absent =
    ap (λ test. instance (values more) (if test then b.value else term.Var b.variable)) (equal_itself b.variable)
    ∙ ap (instance (values more)) (sym (replace-absent b.variable b.value b.value absent)) ∙ instance-instance (values more) (only b.variable b.value) b.value

-- what an outcome says of equations that are left after some bindings
abbrev RightAfter : List Equation → List Binding → Outcome → Type 0
RightAfter es done (Solved bs) = (more : List Binding) × (bs ≡ done ++ more) × IsRight es (Solved more)
RightAfter es done Clash = IsRight es Clash
RightAfter es done Cyclic = IsRight es Cyclic

-- an outcome stays
over_stays : (k : ℕ) (o : Outcome) → solves k (Ended o) ≡ Ended o
over_stays zero o = refl
over_stays (suc k) o = over_stays k o

ended_inside : (o p : Outcome) → Ended o ≡ Ended p → o ≡ p
ended_inside o p e = cc

-- after a clash, or a cycle, nothing solves the equations
clash_right : (es : List Equation) (done : List Binding) (o : Outcome) → ((value : ℕ → Term) → Solves value es → ⊥) → Clash ≡ o → RightAfter es done o
clash_right es done o never e = subst (RightAfter es done) e never

cycle_right : (es : List Equation) (done : List Binding) (o : Outcome) → ((value : ℕ → Term) → Solves value es → ⊥) → Cyclic ≡ o → RightAfter es done o
cycle_right es done o never e = subst (RightAfter es done) e never

-- where equations take the place of one, the outcome says the same
becomes_right : (e : Equation) (es rest : List Equation) (done : List Binding) (o : Outcome) → ((value : ℕ → Term) → Keeps value e.left e.right (Becomes es)) → RightAfter (es ++ rest) done o → RightAfter (e ∷ rest) done o
becomes_right e es rest done o keep right = by_outcome o right
  where
    there : (value : ℕ → Term) → Solves value (e ∷ rest) → Solves value (es ++ rest)
    there value s = solves_joined value es rest ((keep value).0 s.0) s.1

    back : (value : ℕ → Term) → Solves value (es ++ rest) → Solves value (e ∷ rest)
    back value s = let parts = solves_split value es rest s in ((keep value).1 parts.0, parts.1)

    by_outcome : (o : Outcome) → RightAfter (es ++ rest) done o → RightAfter (e ∷ rest) done o
    by_outcome (Solved bs) r = (r.0, r.1, (back (values r.0) r.2.0, λ value s. r.2.1 value (there value s)))
    by_outcome Clash r = λ value s. r value (there value s)
    by_outcome Cyclic r = λ value s. r value (there value s)

-- where a variable is bound, its binding comes first
binds_right : (e : Equation) (v : ℕ) (t : Term) (rest : List Equation) (done : List Binding) (o : Outcome) → occurs v t ≡ false → ((value : ℕ → Term) → Keeps value e.left e.right (Binds v t)) →
    RightAfter (replace_all v t rest) (done ++ record { variable = v; value = t } ∷ []) o → RightAfter (e ∷ rest) done o
binds_right e v t rest done o absent keep right = by_outcome o right
  where
    there : (value : ℕ → Term) → Solves value (e ∷ rest) → Solves value (replace_all v t rest)
    there value s = replaced_solved value v t ((keep value).0 s.0) rest s.1

    by_outcome : (o : Outcome) → RightAfter (replace_all v t rest) (done ++ record { variable = v; value = t } ∷ []) o → RightAfter (e ∷ rest) done o
    by_outcome (Solved bs) r =
        let b : Binding = record { variable = v; value = t } in (
          b ∷ r.0,
          r.1 ∙ append_assoc done (b ∷ []) r.0,
          (
            ((keep (values (b ∷ r.0))).1 (bound_itself b r.0 absent), bound_solved b r.0 rest r.2.0),
            λ value s w. let general = r.2.1 value (there value s) in
                sym (only_same value v t ((keep value).0 s.0) w) ∙ (λ i. instance (λ z. general z i) (only v t w)) ∙ sym (instance-instance value (values r.0) (only v t w)),
          ),
        )
    by_outcome Clash r = λ value s. r value (there value s)
    by_outcome Cyclic r = λ value s. r value (there value s)

-- the outcome after some number of steps is right
right_after : (k : ℕ) (es : List Equation) (done : List Binding) (o : Outcome) → solves k (Open es done) ≡ Ended o → RightAfter es done o
right_after zero es done o h = cc
right_after (suc k) [] done o h =
    subst (RightAfter [] done) (ended_inside (Solved done) o (sym (over_stays k (Solved done)) ∙ h))
    ([], sym (append-nil done), (tt, λ value s v. sym (instance-Var value v)))
right_after (suc k) (e ∷ rest) done o h = by_move (move e) refl h (λ value. move_keeps value e) (right_after k)
  where
    by_move : (m : Move) → move e ≡ m → solves k (after m rest done) ≡ Ended o → ((value : ℕ → Term) → Keeps value e.left e.right m) →
        ((es : List Equation) (done : List Binding) (o : Outcome) → solves k (Open es done) ≡ Ended o → RightAfter es done o) → RightAfter (e ∷ rest) done o
    by_move (Becomes es) is h keep ih = becomes_right e es rest done o keep (ih (es ++ rest) done o h)
    by_move (Binds v t) is h keep ih = binds_right e v t rest done o (move_binds e v t is).0 keep (ih (replace_all v t rest) (done ++ record { variable = v; value = t } ∷ []) o h)
    by_move Clashes is h keep ih = clash_right (e ∷ rest) done o (λ value s. keep value s.0) (ended_inside Clash o (sym (over_stays k Clash) ∙ h))
    by_move Cycles is h keep ih = cycle_right (e ∷ rest) done o (λ value s. keep value s.0) (ended_inside Cyclic o (sym (over_stays k Cyclic) ∙ h))

-- two numbers of steps after which it has ended give one outcome
one_outcome : (j k : ℕ) (s : Stage) (o p : Outcome) → solves j s ≡ Ended o → solves k s ≡ Ended p → o ≡ p
one_outcome j k (Ended q) o p x y = ended_inside o p (sym x ∙ over_stays j q ∙ sym (over_stays k q) ∙ y)
one_outcome zero k (Open es bs) o p x y = cc
one_outcome (suc j) zero (Open es bs) o p x y = cc
one_outcome (suc j) (suc k) (Open es bs) o p x y = one_outcome j k (solve (Open es bs)) o p x y

is_right : (es : List Equation) (o : Outcome) → RightAfter es [] o → IsRight es o
is_right es (Solved bs) r = subst (λ bs. IsRight es (Solved bs)) (sym r.1) r.2
is_right es Clash r = r
is_right es Cyclic r = r

-- unification ends, in one outcome, which is right
pub has_one_outcome : (es : List Equation) → HasOneOutcome es
has_one_outcome es =
    let e = stage_ends (Open es []) in
    record {
      outcome = e.1;
      ends = (e.0, e.2);
      alone = λ o u. one_outcome u.0 e.0 (Open es []) o e.1 u.1 e.2;
      is_right = is_right es e.1 (right_after e.0 es [] e.1 e.2);
    }
