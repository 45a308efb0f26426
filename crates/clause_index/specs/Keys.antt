-- The keys of terms, by which some are told from one another before they are unified.
-- The headline does not rest on this file.
use Rattle.std.specs.Prelude.{ℕ, ℤ, ◌==◌, Bool, true, false, ◌&&◌, ◌||◌, List, [], ◌∷◌, length}
use Rattle.std.specs.Ordering.{int_eq}
use Rattle.term_core.specs.declared.terms.Term.{Term, out-Term}
use Rattle.term_core.specs.declared.terms.Term.TheOpen as layer
use Rattle.prog_data.specs.declared.programs.Clause.{Clause}
use Rattle.clause_index.specs.declared.keys.Key.{Key}
use Rattle.clause_index.specs.declared.keys.Key.TheVariants.{Free, Int, Atom, Node}

-- the key of a term, by what it is outermost
abbrev pub key_at : layer.Term-F Term → Key
key_at (layer.Var v) = Free
key_at (layer.Int n) = Int n
key_at (layer.Atom a) = Atom a
key_at (layer.Node f ts) = Node f (length ts)

-- the key of the first of some arguments, which is free where there is none
abbrev pub first_key : List Term → Key
first_key [] = Free
first_key (t ∷ ts) = key_at (out-Term t)

-- the key of a clause: that of the first argument of its head
abbrev pub head_key : Clause → Key
head_key clause = first_key clause.head

-- whether a key is that of a variable
abbrev pub is_free : Key → Bool
is_free Free = true
is_free (Int n) = false
is_free (Atom a) = false
is_free (Node f n) = false

-- whether a key is that of this integer
abbrev pub is_int : ℤ → Key → Bool
is_int m (Int n) = int_eq m n
is_int m other = false

-- whether a key is that of this atom
abbrev pub is_atom : ℕ → Key → Bool
is_atom a (Atom b) = a == b
is_atom a other = false

-- whether a key is that of the compounds with this name and so many arguments
abbrev pub is_node : (name arity : ℕ) → Key → Bool
is_node f m (Node g n) = (f == g) && (m == n)
is_node f m other = false

-- whether two keys are the same
abbrev pub same : Key → Key → Bool
same Free k = is_free k
same (Int n) k = is_int n k
same (Atom a) k = is_atom a k
same (Node f n) k = is_node f n k

-- whether a term with the first key and a head's argument with the second may be unified: one is a variable, or the keys are the same
abbrev pub agrees : Key → Key → Bool
agrees key k = is_free key || (is_free k || same k key)
