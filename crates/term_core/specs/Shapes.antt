-- What a term is at its outermost.
use Rattle.std.specs.Prelude.{ℕ, ◌==◌, Bool, true, false, if◌then◌else◌, List, [], ◌∷◌, Option, Some, None}
use Rattle.term_core.specs.declared.terms.Term.{Term, out-Term}
use Rattle.term_core.specs.declared.terms.Term as term
use Rattle.term_core.specs.declared.terms.Term.TheOpen.{Term-F, Atom, Node}

-- how many arguments a compound has at most
abbrev pub greatest_arity : ℕ
greatest_arity = 255

-- the name of an atom
abbrev pub atom_at : Term-F Term → Option ℕ
atom_at (Atom name) = Some name
atom_at other = None

-- whether a term is an atom
abbrev pub is_atom : Term-F Term → Bool
is_atom (Atom name) = true
is_atom other = false

-- the arguments of a compound, none of another term
abbrev pub parts_of : Term-F Term → List Term
parts_of (Node f parts) = parts
parts_of other = []

-- whether it is a compound
abbrev pub is_compound : Term-F Term → Bool
is_compound (Node f parts) = true
is_compound other = false

-- whether it is a compound of this name with one argument
abbrev pub is_single : ℕ → Term-F Term → Bool
is_single name (Node f (inner ∷ [])) = f == name
is_single name other = false

-- the argument of such a compound
abbrev pub single_of : ℕ → Term-F Term → Option Term
single_of name (Node f (inner ∷ [])) = if f == name then Some inner else None
single_of name other = None

-- whether it is a compound of this name with two arguments
abbrev pub is_pair : ℕ → Term-F Term → Bool
is_pair name (Node f (left ∷ right ∷ [])) = f == name
is_pair name other = false

-- the arguments of such a compound
abbrev pub pair_of : ℕ → Term-F Term → Option (Term × Term)
pair_of name (Node f (left ∷ right ∷ [])) = if f == name then Some (left, right) else None
pair_of name other = None

-- a term alone, or the two that a mark joins
abbrev pub split_by : Term → Option (Term × Term) → Term × Option Term
split_by t None = (t, None)
split_by t (Some p) = (p.0, Some p.1)

-- a term before a mark, and the field behind it if the mark is there
abbrev pub split : ℕ → Term → Term × Option Term
split mark t = split_by t (pair_of mark (out-Term t))

-- a term with a mark and a field behind it, or alone
abbrev pub with_mark : ℕ → Term → Option Term → Term
with_mark mark t None = t
with_mark mark t (Some field) = term.Node mark (t ∷ field ∷ [])
