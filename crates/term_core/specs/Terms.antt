-- Variables of terms, and their instances.
use Rattle.std.specs.Prelude.{ℕ, ◌+◌, ◌==◌, Bool, true, false, ◌&&◌, List, [], ◌∷◌, ◌++◌, max, if◌then◌else◌, flat_map, nat_eq}
use Rattle.std.specs.List.{list_any, list_all, position_or_len}
use Rattle.std.specs.Ordering.{int_eq}
use Rattle.std.specs.Prelude.{ℤ}
use Rattle.term_core.specs.declared.terms.Term.{Term, out-Term}
use Rattle.term_core.specs.declared.terms.Term as term
use Rattle.term_core.specs.declared.terms.Term.TheOpen.{Term-F, Var, Int, Atom, Node}
use Rattle.term_core.specs.declared.terms.Term.TheFolds.{fold-Term}

-- each variable's value in its place
abbrev pub instance_step : (ℕ → Term) → Term-F Term → Term
instance_step value (Var v) = value v
instance_step value (Int n) = term.Int n
instance_step value (Atom a) = term.Atom a
instance_step value (Node f ts) = term.Node f ts

-- the term with each variable's value in its place
abbrev pub instance : (ℕ → Term) → Term → Term
instance value = fold-Term Term (instance_step value)

-- t for the variable v, and each other variable for itself
abbrev pub only : ℕ → Term → ℕ → Term
only v t w = if v == w then t else term.Var w

-- t in the place of the variable v
abbrev pub replace : ℕ → Term → Term → Term
replace v t = instance (only v t)

-- each variable `base` higher
abbrev pub higher : ℕ → ℕ → Term
higher base v = term.Var (v + base)

-- a term with each variable `base` higher
abbrev pub rename : ℕ → Term → Term
rename base = instance (higher base)

-- whether the variable stands in the term
abbrev pub occurs_step : ℕ → Term-F Bool → Bool
occurs_step v (Var w) = v == w
occurs_step v (Int n) = false
occurs_step v (Atom a) = false
occurs_step v (Node f bs) = list_any (λ b. b) bs

-- whether a variable stands in a term
abbrev pub occurs : ℕ → Term → Bool
occurs v = fold-Term Bool (occurs_step v)

-- the variables from the left, each as often as it stands there
abbrev pub occurrences_step : Term-F (List ℕ) → List ℕ
occurrences_step (Var v) = v ∷ []
occurrences_step (Int n) = []
occurrences_step (Atom a) = []
occurrences_step (Node f vss) = flat_map (λ vs. vs) vss

-- all the variables of a term
abbrev pub occurrences : Term → List ℕ
occurrences = fold-Term (List ℕ) occurrences_step

-- with the variable at the end, if it is new
abbrev pub with_new : List ℕ → ℕ → List ℕ
with_new seen v = if list_any (nat_eq v) seen then seen else seen ++ v ∷ []

-- with each that is new
abbrev pub with_all_new : List ℕ → List ℕ → List ℕ
with_all_new seen [] = seen
with_all_new seen (v ∷ vs) = with_all_new (with_new seen v) vs

-- the distinct variables by first appearance
abbrev pub vars : Term → List ℕ
vars t = with_all_new [] (occurrences t)

-- the variables numbered 1, 2 and so on by first appearance
abbrev pub numbered : Term → Term
numbered t = instance (λ v. term.Var (position_or_len (nat_eq v) (vars t) + 1)) t

-- the greatest of some numbers, or 0
abbrev pub greatest : List ℕ → ℕ
greatest [] = 0
greatest (n ∷ ns) = max n (greatest ns)

-- a number above all variables
abbrev pub above_step : Term-F ℕ → ℕ
above_step (Var v) = v + 1
above_step (Int n) = 0
above_step (Atom a) = 0
above_step (Node f ns) = greatest ns

-- a number above all variables of a term
abbrev pub above : Term → ℕ
above = fold-Term ℕ above_step

-- a variable, number or atom has depth 1, and a compound one more than its deepest part
abbrev pub depth_step : Term-F ℕ → ℕ
depth_step (Var v) = 1
depth_step (Int n) = 1
depth_step (Atom a) = 1
depth_step (Node f ds) = greatest ds + 1

-- the depth of a term
abbrev pub depth_of : Term → ℕ
depth_of = fold-Term ℕ depth_step

-- whether it has no variable
abbrev pub is_ground_step : Term-F Bool → Bool
is_ground_step (Var v) = false
is_ground_step (Int n) = true
is_ground_step (Atom a) = true
is_ground_step (Node f bs) = list_all (λ b. b) bs

-- whether a term has no variable
abbrev pub is_ground : Term → Bool
is_ground = fold-Term Bool is_ground_step

-- each test passes at the term in its place, and there are as many
abbrev pub pairwise : List (Term → Bool) → List Term → Bool
pairwise [] [] = true
pairwise [] (t ∷ ts) = false
pairwise (test ∷ tests) [] = false
pairwise (test ∷ tests) (t ∷ ts) = test t && pairwise tests ts

-- whether it is this variable
abbrev pub is_var_of : ℕ → Term-F Term → Bool
is_var_of v (Var w) = v == w
is_var_of v other = false

-- whether it is this integer
abbrev pub is_int_of : ℤ → Term-F Term → Bool
is_int_of n (Int m) = int_eq n m
is_int_of n other = false

-- whether it is this atom
abbrev pub is_atom_of : ℕ → Term-F Term → Bool
is_atom_of a (Atom b) = a == b
is_atom_of a other = false

-- whether it is a compound of this name whose parts pass
abbrev pub is_node_of : ℕ → List (Term → Bool) → Term-F Term → Bool
is_node_of f tests (Node g ts) = (f == g) && pairwise tests ts
is_node_of f tests other = false

-- whether two terms are the same
abbrev pub same_step : Term-F (Term → Bool) → Term → Bool
same_step (Var v) t = is_var_of v (out-Term t)
same_step (Int n) t = is_int_of n (out-Term t)
same_step (Atom a) t = is_atom_of a (out-Term t)
same_step (Node f tests) t = is_node_of f tests (out-Term t)

-- whether two terms are the same
abbrev pub same : Term → Term → Bool
same = fold-Term (Term → Bool) same_step

-- whether it is a variable
abbrev pub is_variable : Term-F Term → Bool
is_variable (Var v) = true
is_variable other = false
