-- Pairs of places whose terms are to be the same.
use Rattle.std.proofs.Common.{◌≡◌, ◌<◌, ◌≤◌, ◌⊎◌, inl, inr, ℕ, zero, suc, ◌+◌, Bool, true, false, ◌&&◌, ◌==◌, List, [], ◌∷◌, ◌++◌, map, reverse, refl, sym, ap, ◌∙◌, subst, arith, true≢false}
use Rattle.std.specs.List.{list_all, AllByRecursion}
use Rattle.std.specs.Ordering.{int_eq}
use Rattle.std.proofs.lemmas.Bool.{and_parts, eq-eqb, ne_eqb, eqb-true, cases_eq}
use Rattle.std.proofs.lemmas.Bool.Decides.{Decides-int_eq}
use Rattle.std.proofs.lemmas.List.{append_assoc, reverse-append}
use Rattle.term_core.specs.declared.terms.Term.{Term, out-Term}
use Rattle.term_core.specs.declared.terms.Term as term
use Rattle.term_core.specs.declared.terms.Term.TheVariants.{outs-Var, outs-Int, outs-Atom, outs-Node}
use Rattle.term_core.specs.Terms.{pairwise, is_var_of, is_int_of, is_atom_of, is_node_of, same, same_step}
use Rattle.term_core.specs.Sizes.{size, size_step, total}
use Rattle.term_core.proofs.Sizes.{size_pos}
use Rattle.term_core.proofs.TermFolds.{fold-Var, fold-Int, fold-Atom, fold-Node, ind_terms}
use Rattle.term_heap.specs.declared.cells.Cell.{Cell}
use Rattle.term_heap.specs.declared.cells.Cell.TheVariants as cell
use Rattle.term_heap.specs.Changes.{Change, value_of, size_of, cells_of, cell_at, cell_term, places, NamesBelow, IsMade, IsEnd}
use Rattle.term_heap.proofs.ValueLaws.{fits, names_in}
use Rattle.unify_core.specs.Meets.{agrees, first_of, count_of}
use Rattle.engine_moves.specs.declared.builtins.comparing.Pair.{Pair}
use Rattle.engine_moves.specs.SamePairs.{paired, are_same, ArePlaces, weight, Compared, HasMet}

-- tests of lists

and_true : (b : Bool) → (b && true) ≡ b
and_true true = refl
and_true false = refl

and_turned : (a b : Bool) → (a && b) ≡ (b && a)
and_turned true b = sym (and_true b)
and_turned false true = refl
and_turned false false = refl

and_joined : (a b c : Bool) → ((a && b) && c) ≡ (a && (b && c))
and_joined true b c = refl
and_joined false b c = refl

and_past : (a b c : Bool) → (a && (b && c)) ≡ (b && (a && c))
and_past true b c = refl
and_past false true c = refl
and_past false false c = refl

all-append : (p : Pair → Bool) (xs ys : List Pair) → list_all p (xs ++ ys) ≡ (list_all p xs && list_all p ys)
all-append p [] ys = refl
all-append p (x ∷ xs) ys = ap (λ b. p x && b) (all-append p xs ys) ∙ sym (and_joined (p x) (list_all p xs) (list_all p ys))

all-reverse : (p : Pair → Bool) (xs : List Pair) → list_all p (reverse xs) ≡ list_all p xs
all-reverse p [] = refl
all-reverse p (x ∷ xs) =
    ap (list_all p) (reverse-append (x ∷ []) xs) ∙ all-append p (reverse xs) (x ∷ []) ∙ and_turned (list_all p (reverse xs)) (p x && true)
    ∙ ap (λ b. b && list_all p (reverse xs)) (and_true (p x)) ∙ ap (λ b. p x && b) (all-reverse p xs)

-- a term is the same as itself

rows_itself : (ts : List Term) → AllByRecursion (λ t. same t t ≡ true) ts → pairwise (map same ts) ts ≡ true
rows_itself [] h = refl
rows_itself (t ∷ ts) h = λ i. h.0 i && rows_itself ts h.1 i

pub same_itself : (t : Term) → same t t ≡ true
same_itself = ind_terms (λ t. same t t ≡ true)
    (λ v. ap (λ f. f (term.Var v)) (fold-Var (Term → Bool) same_step v) ∙ ap (is_var_of v) (outs-Var v) ∙ eq-eqb v v refl)
    (λ n. ap (λ f. f (term.Int n)) (fold-Int (Term → Bool) same_step n) ∙ ap (is_int_of n) (outs-Int n) ∙ (Decides-int_eq n n).1 refl)
    (λ a. ap (λ f. f (term.Atom a)) (fold-Atom (Term → Bool) same_step a) ∙ ap (is_atom_of a) (outs-Atom a) ∙ eq-eqb a a refl)
    (λ f ts h. ap (λ x. x (term.Node f ts)) (fold-Node (Term → Bool) same_step f ts) ∙ ap (is_node_of f (map same ts)) (outs-Node f ts) ∙ (λ i. eq-eqb f f refl i && rows_itself ts h i))

-- numbers that are one more

eqb_suc : (m n : ℕ) → (suc m == suc n) ≡ (m == n)
eqb_suc m n = by_number (cases_eq m n) where
  by_number : (m ≡ n) ⊎ (m ≡ n → ⊥) → (suc m == suc n) ≡ (m == n)
  by_number (inl e) = eq-eqb (suc m) (suc n) (ap suc e) ∙ sym (eq-eqb m n e)
  by_number (inr ne) = ne_eqb (suc m) (suc n) (λ e. ne (omega (arith, e))) ∙ sym (ne_eqb m n ne)

-- two cells

module _ (value : ℕ → Term) where
  rows_paired : (m n p q : ℕ) → pairwise (map same (map value (places p m))) (map value (places q n)) ≡ ((m == n) && are_same value (paired p q m))
  rows_paired zero zero p q = refl
  rows_paired zero (suc n) p q = sym (ap (λ b. b && are_same value (paired p q zero)) (ne_eqb zero (suc n) (λ e. omega (arith, e))))
  rows_paired (suc m) zero p q = sym (ap (λ b. b && are_same value (paired p q (suc m))) (ne_eqb (suc m) zero (λ e. omega (arith, e))))
  rows_paired (suc m) (suc n) p q =
      ap (λ b. same (value p) (value q) && b) (rows_paired m n (suc p) (suc q)) ∙ and_past (same (value p) (value q)) (m == n) (are_same value (paired (suc p) (suc q) m))
      ∙ ap (λ b. b && are_same value (paired p q (suc m))) (sym (eqb_suc m n))

  at_var : (v : ℕ) (t : Term) → same (term.Var v) t ≡ is_var_of v (out-Term t)
  at_var v t = ap (λ f. f t) (fold-Var (Term → Bool) same_step v)

  at_int : (n : _) (t : Term) → same (term.Int n) t ≡ is_int_of n (out-Term t)
  at_int n t = ap (λ f. f t) (fold-Int (Term → Bool) same_step n)

  at_atom : (a : ℕ) (t : Term) → same (term.Atom a) t ≡ is_atom_of a (out-Term t)
  at_atom a t = ap (λ f. f t) (fold-Atom (Term → Bool) same_step a)

  at_node : (f : ℕ) (ts : List Term) (t : Term) → same (term.Node f ts) t ≡ is_node_of f (map same ts) (out-Term t)
  at_node f ts t = ap (λ x. x t) (fold-Node (Term → Bool) same_step f ts)

  cells_same : (x y : ℕ) → (x ≡ y → ⊥) → (c d : Cell) → IsEnd c → IsEnd d → same (cell_term value x c) (cell_term value y d) ≡ (agrees c d && are_same value (paired (first_of c) (first_of d) (count_of c)))
  cells_same x y ne (cell.Ref to) d end other = absurd end
  cells_same x y ne cell.Free (cell.Ref to) end other = absurd other
  cells_same x y ne (cell.Int m) (cell.Ref to) end other = absurd other
  cells_same x y ne (cell.Atom a) (cell.Ref to) end other = absurd other
  cells_same x y ne (cell.Node f m p) (cell.Ref to) end other = absurd other
  cells_same x y ne cell.Free cell.Free end other = at_var x (term.Var y) ∙ ap (is_var_of x) (outs-Var y) ∙ ne_eqb x y ne
  cells_same x y ne cell.Free (cell.Int n) end other = at_var x (term.Int n) ∙ ap (is_var_of x) (outs-Int n)
  cells_same x y ne cell.Free (cell.Atom b) end other = at_var x (term.Atom b) ∙ ap (is_var_of x) (outs-Atom b)
  cells_same x y ne cell.Free (cell.Node g n q) end other = at_var x (term.Node g (map value (places q n))) ∙ ap (is_var_of x) (outs-Node g (map value (places q n)))
  cells_same x y ne (cell.Int m) cell.Free end other = at_int m (term.Var y) ∙ ap (is_int_of m) (outs-Var y)
  cells_same x y ne (cell.Int m) (cell.Int n) end other = at_int m (term.Int n) ∙ ap (is_int_of m) (outs-Int n) ∙ sym (and_true (int_eq m n))
  cells_same x y ne (cell.Int m) (cell.Atom b) end other = at_int m (term.Atom b) ∙ ap (is_int_of m) (outs-Atom b)
  cells_same x y ne (cell.Int m) (cell.Node g n q) end other = at_int m (term.Node g (map value (places q n))) ∙ ap (is_int_of m) (outs-Node g (map value (places q n)))
  cells_same x y ne (cell.Atom a) cell.Free end other = at_atom a (term.Var y) ∙ ap (is_atom_of a) (outs-Var y)
  cells_same x y ne (cell.Atom a) (cell.Int n) end other = at_atom a (term.Int n) ∙ ap (is_atom_of a) (outs-Int n)
  cells_same x y ne (cell.Atom a) (cell.Atom b) end other = at_atom a (term.Atom b) ∙ ap (is_atom_of a) (outs-Atom b) ∙ sym (and_true (a == b))
  cells_same x y ne (cell.Atom a) (cell.Node g n q) end other = at_atom a (term.Node g (map value (places q n))) ∙ ap (is_atom_of a) (outs-Node g (map value (places q n)))
  cells_same x y ne (cell.Node f m p) cell.Free end other = at_node f (map value (places p m)) (term.Var y) ∙ ap (is_node_of f (map same (map value (places p m)))) (outs-Var y)
  cells_same x y ne (cell.Node f m p) (cell.Int n) end other = at_node f (map value (places p m)) (term.Int n) ∙ ap (is_node_of f (map same (map value (places p m)))) (outs-Int n)
  cells_same x y ne (cell.Node f m p) (cell.Atom b) end other = at_node f (map value (places p m)) (term.Atom b) ∙ ap (is_node_of f (map same (map value (places p m)))) (outs-Atom b)
  cells_same x y ne (cell.Node f m p) (cell.Node g n q) end other =
      at_node f (map value (places p m)) (term.Node g (map value (places q n))) ∙ ap (is_node_of f (map same (map value (places p m)))) (outs-Node g (map value (places q n)))
      ∙ ap (λ b. (f == g) && b) (rows_paired m n p q) ∙ sym (and_joined (f == g) (m == n) (are_same value (paired p q m)))

  -- how large they are

  pub weight-append : (xs ys : List Pair) → weight value (xs ++ ys) ≡ weight value xs + weight value ys
  weight-append [] ys = omega arith
  weight-append (x ∷ xs) ys = omega (arith, weight-append xs ys)

  weight-reverse : (ps : List Pair) → weight value (reverse ps) ≡ weight value ps
  weight-reverse [] = refl
  weight-reverse (p ∷ ps) = omega (arith, ap (weight value) (reverse-append (p ∷ []) ps), weight-append (reverse ps) (p ∷ []), weight-reverse ps)

  weight-paired : (l r n : ℕ) → weight value (paired l r n) ≡ total (map size (map value (places l n)))
  weight-paired l r zero = refl
  weight-paired l r (suc n) = ap (λ k. size (value l) + k) (weight-paired (suc l) (suc r) n)

  parts_smaller : (x : ℕ) (c d : Cell) → weight value (paired (first_of c) (first_of d) (count_of c)) < size (cell_term value x c)
  parts_smaller x cell.Free d = size_pos _
  parts_smaller x (cell.Ref to) d = size_pos _
  parts_smaller x (cell.Int n) d = size_pos _
  parts_smaller x (cell.Atom a) d = size_pos _
  parts_smaller x (cell.Node f count first) d =
      let whole : size (term.Node f (map value (places first count))) ≡ total (map size (map value (places first count))) + 1 = fold-Node ℕ size_step f (map value (places first count)) in
      omega (arith, whole, weight-paired first (first_of d) count)

-- places

pub all_joined : (P : Pair → Type 0) (xs ys : List Pair) → AllByRecursion P xs → AllByRecursion P ys → AllByRecursion P (xs ++ ys)
all_joined P [] ys h k = k
all_joined P (x ∷ xs) ys h k = (h.0, all_joined P xs ys h.1 k)

pub all_split : (P : Pair → Type 0) (xs ys : List Pair) → AllByRecursion P (xs ++ ys) → AllByRecursion P xs × AllByRecursion P ys
all_split P [] ys h = (tt, h)
all_split P (x ∷ xs) ys h = let k = all_split P xs ys h.1 in ((h.0, k.0), k.1)

all_turned : (P : Pair → Type 0) (ps : List Pair) → AllByRecursion P ps → AllByRecursion P (reverse ps)
all_turned P [] h = tt
all_turned P (p ∷ ps) h = subst (AllByRecursion P) (sym (reverse-append (p ∷ []) ps)) (all_joined P (reverse ps) (p ∷ []) (all_turned P ps h.1) (h.0, tt))

paired_in : (n l r count : ℕ) → l + count ≤ n → r + count ≤ n → ArePlaces n (paired l r count)
paired_in n l r zero a b = tt
paired_in n l r (suc count) a b = ((omega (arith, a), omega (arith, b)), paired_in n (suc l) (suc r) count (omega (arith, a)) (omega (arith, b)))

block_in : (n : ℕ) (c : Cell) → NamesBelow n c → first_of c + count_of c ≤ n
block_in n cell.Free names = omega arith
block_in n (cell.Ref b) names = omega arith
block_in n (cell.Int k) names = omega arith
block_in n (cell.Atom a) names = omega arith
block_in n (cell.Node f count first) names = names

same_count : (c d : Cell) → agrees c d ≡ true → count_of c ≡ count_of d
same_count (cell.Int m) (cell.Int n) e = refl
same_count (cell.Atom a) (cell.Atom b) e = refl
same_count (cell.Node f m p) (cell.Node g n q) e = eqb-true m n (and_parts (f == g) (m == n) e).1
same_count (cell.Int m) cell.Free e = refl
same_count (cell.Int m) (cell.Ref b) e = refl
same_count (cell.Int m) (cell.Atom b) e = refl
same_count (cell.Int m) (cell.Node g n q) e = absurd (true≢false (sym e))
same_count (cell.Atom a) cell.Free e = refl
same_count (cell.Atom a) (cell.Ref b) e = refl
same_count (cell.Atom a) (cell.Int n) e = refl
same_count (cell.Atom a) (cell.Node g n q) e = absurd (true≢false (sym e))
same_count (cell.Node f m p) cell.Free e = absurd (true≢false (sym e))
same_count (cell.Node f m p) (cell.Ref b) e = absurd (true≢false (sym e))
same_count (cell.Node f m p) (cell.Int n) e = absurd (true≢false (sym e))
same_count (cell.Node f m p) (cell.Atom b) e = absurd (true≢false (sym e))
same_count cell.Free d e = absurd (true≢false (sym e))
same_count (cell.Ref b) d e = absurd (true≢false (sym e))

-- pairs that are added

paired_more : (l r n : ℕ) → paired l r (suc n) ≡ paired l r n ++ record { left = l + n; right = r + n } ∷ []
paired_more l r zero = λ i. record { left = here l i; right = here r i } ∷ [] where
  here : (k : ℕ) → k ≡ k + 0
  here k = omega arith
paired_more l r (suc n) =
    ap (λ ps. record { left = l; right = r } ∷ ps) (paired_more (suc l) (suc r) n ∙ (λ i. paired (suc l) (suc r) n ++ record { left = over l i; right = over r i } ∷ []))
  where
    over : (k : ℕ) → suc k + n ≡ k + suc n
    over k = omega arith

pub pairs_pushed : (old new : List Pair) (l r n k : ℕ) → n ≡ suc k → new ≡ old ++ record { left = l + k; right = r + k } ∷ [] → new ++ reverse (paired l r k) ≡ old ++ reverse (paired l r n)
pairs_pushed old new l r n k is_n e =
    ap (λ ps. ps ++ reverse (paired l r k)) e ∙ append_assoc old _ (reverse (paired l r k))
    ∙ ap (λ ps. old ++ ps) (sym (ap (λ m. reverse (paired l r m)) is_n ∙ ap reverse (paired_more l r k) ∙ reverse-append (paired l r k) _))

-- two places that are met

-- one place
pub met_once : (h : List Change) (left right root : ℕ) (before : List Pair) → value_of h root ≡ value_of h left → value_of h root ≡ value_of h right → HasMet h left right before true before
met_once h left right root before one other =
    let terms : same (value_of h left) (value_of h right) ≡ true = ap (same (value_of h left)) (sym other ∙ one) ∙ same_itself (value_of h left) in
    record {
      same_are = ap (λ b. b && are_same (value_of h) before) terms;
      lighter = omega (arith, size_pos (value_of h left));
      places = λ all. all;
    }

module _ (h : List Change) (made : IsMade h) (left right x y : ℕ) (ne : x ≡ y → ⊥) (x_in : x < size_of h) (y_in : y < size_of h) (x_end : IsEnd (cell_at (cells_of h) x)) (y_end : IsEnd (cell_at (cells_of h) y))
    (x_same : value_of h x ≡ value_of h left) (y_same : value_of h y ≡ value_of h right) (before : List Pair) where
  abbrev c : Cell
  c = cell_at (cells_of h) x

  abbrev d : Cell
  d = cell_at (cells_of h) y

  abbrev parts : List Pair
  parts = paired (first_of c) (first_of d) (count_of c)

  abbrev value : ℕ → Term
  value = value_of h

  left_is : value left ≡ cell_term value x c
  left_is = sym x_same ∙ fits h x made x_in

  terms_are : same (value left) (value right) ≡ (agrees c d && are_same value parts)
  terms_are = (λ i. same (left_is i) ((sym y_same ∙ fits h y made y_in) i)) ∙ cells_same value x y ne c d x_end y_end

  met_agreed : (after : List Pair) → agrees c d ≡ true → after ≡ before ++ reverse parts → HasMet h left right before true after
  met_agreed after agreed is = record {
    same_are = ap (λ b. b && are_same value before) (terms_are ∙ ap (λ b. b && are_same value parts) agreed) ∙ and_turned (are_same value parts) (are_same value before)
        ∙ ap (λ b. are_same value before && b) (sym (all-reverse (λ p. same (value p.left) (value p.right)) parts))
        ∙ sym (all-append (λ p. same (value p.left) (value p.right)) before (reverse parts)) ∙ ap (are_same value) (sym is);
    lighter =
        let less : weight value parts < size (value left) = subst (λ t. weight value parts < size t) (sym left_is) (parts_smaller value x c d) in
        let sum : weight value after ≡ weight value before + weight value (reverse parts) = ap (weight value) is ∙ weight-append value before (reverse parts) in
        omega (arith, less, sum, weight-reverse value parts);
    places = λ all.
        let in_x : first_of c + count_of c ≤ size_of h = block_in (size_of h) c (names_in h x made x_in) in
        let in_y : first_of d + count_of d ≤ size_of h = block_in (size_of h) d (names_in h y made y_in) in
        let counts : count_of c ≡ count_of d = same_count c d agreed in
        subst (ArePlaces (size_of h)) (sym is)
        (all_joined _ before (reverse parts) all (all_turned _ parts (paired_in (size_of h) (first_of c) (first_of d) (count_of c) in_x (omega (arith, in_y, counts)))));
  }

  met_apart : (after : List Pair) → agrees c d ≡ false → after ≡ before → HasMet h left right before false after
  met_apart after apart is = record {
    same_are = ap (λ b. b && are_same value before) (terms_are ∙ ap (λ b. b && are_same value parts) apart);
    lighter = omega (arith, size_pos (value left), ap (weight value) is);
    places = λ all. subst (ArePlaces (size_of h)) (sym is) all;
  }

  pub met_compared : (met : Bool) (after : List Pair) → Compared c d before met after → HasMet h left right before met after
  met_compared true after compared = met_agreed after compared.0 compared.1
  met_compared false after compared = met_apart after compared.0 compared.1

-- the pairs that are left

-- the last pair is taken off
pub last_off : (value : ℕ → Term) (old rest : List Pair) (p : Pair) → old ≡ rest ++ p ∷ [] → are_same value old ≡ (same (value p.left) (value p.right) && are_same value rest)
last_off value old rest p is =
    let test : Pair → Bool = λ p. same (value p.left) (value p.right) in
    ap (are_same value) is ∙ all-append test rest (p ∷ []) ∙ ap (λ b. list_all test rest && b) (and_true (test p)) ∙ and_turned (list_all test rest) (test p)

pub left_weight : (value : ℕ → Term) (old rest : List Pair) (p : Pair) → old ≡ rest ++ p ∷ [] → weight value old ≡ size (value p.left) + weight value rest
left_weight value old rest p is = omega (arith, ap (weight value) is, weight-append value rest (p ∷ []))

-- the first pair
pub only_pair : (value : ℕ → Term) (l r : ℕ) (work : List Pair) → work ≡ record { left = l; right = r } ∷ [] → are_same value work ≡ same (value l) (value r)
only_pair value l r work is = ap (are_same value) is ∙ and_true (same (value l) (value r))
