-- The derivation of what is printed of a term.
use Rattle.std.proofs.Common.{ℕ, Bool, true, false, List, [], ◌∷◌, suc}
use Rattle.std.specs.Prelude.{◌||◌, ◌&&◌, ◌==◌, nat_lt, is_some, if◌then◌else◌, ℤ, pos, negsuc, Option, Some, None}
use Rattle.term_core.specs.declared.fixed.TheConstants as fixed
use Rattle.term_core.specs.Operators.{prefix_of, infix_of, left_limit, right_limit}
use Rattle.term_core.specs.declared.operators.Op.{Op}
use Rattle.term_core.specs.declared.operators.Operators.{Operators}
use Rattle.term_core.specs.declared.terms.Term.{Term}
use Rattle.term_core.specs.declared.terms.Term.TheOpen.{Term-F, Var, Int, Atom, Node}
use Rattle.term_core.specs.declared.terms.Term.TheFolds.{fold-Term}
use Rattle.ciao_reader.specs.Derivations.{Tree, Trees, number, negative, variable, text, atom, no_items, no_braces, call, parens, braces, items, items_and_tail, before, between, one, more, priority}

-- the derivation of a term, and that of the list with an item before the term as its tail
pub record Derived : Type 0 where
  pub tree : Tree
  pub as_tail : Tree → Tree

-- an item more before a list
abbrev pub with_first : Tree → Tree → Tree
with_first item (items ts) = items (more item ts)
with_first item (items_and_tail ts t) = items_and_tail (more item ts) t
with_first item other = other

-- more arguments behind the first
abbrev pub trees_of : Tree → List Tree → Trees
trees_of t [] = one t
trees_of t (u ∷ us) = more t (trees_of u us)

abbrev pub in_parens_where : Bool → Tree → Tree
in_parens_where needed t = if needed then parens t else t

module _ (ops : Operators) where
  abbrev pub is_operator : ℕ → Bool
  is_operator a = is_some (prefix_of ops a) || is_some (infix_of ops a)

  -- an atom that is a prefix or infix operator
  abbrev pub is_operator_atom : Tree → Bool
  is_operator_atom (atom a) = is_operator a
  is_operator_atom other = false

  abbrev pub at_argument : Tree → Tree
  at_argument t = in_parens_where (nat_lt 999 (priority ops t)) t

  abbrev pub at_operand : ℕ → Tree → Tree
  at_operand limit t = in_parens_where (nat_lt limit (priority ops t) || is_operator_atom t) t

  -- a term that is neither the empty list nor a list cell
  abbrev pub plain_derived : Tree → Derived
  plain_derived t = record { tree = t; as_tail = λ item. items_and_tail (one item) (at_argument t) }

  abbrev pub cell_derived : Derived → Derived → Derived
  cell_derived item tail =
      let whole = tail.as_tail (at_argument item.tree) in
      record { tree = whole; as_tail = λ first. with_first first whole }

  abbrev pub atom_derived : ℕ → Derived
  atom_derived a =
      if a == fixed.NIL then record { tree = no_items; as_tail = λ item. items (one item) }
      else if a == fixed.BRACES then plain_derived no_braces
      else plain_derived (atom a)

  abbrev pub argument_trees : List Derived → List Tree
  argument_trees [] = []
  argument_trees (d ∷ ds) = at_argument d.tree ∷ argument_trees ds

  -- a compound without arguments is none that is printed to be read
  abbrev pub call_tree : ℕ → List Tree → Tree
  call_tree f [] = atom f
  call_tree f (t ∷ ts) = call f (trees_of t ts)

  abbrev pub call_derived : ℕ → List Derived → Derived
  call_derived f parts = plain_derived (call_tree f (argument_trees parts))

  abbrev pub one_derived : ℕ → Option Op → Derived → Derived
  one_derived f None part = call_derived f (part ∷ [])
  one_derived f (Some o) part = if o.priority == 1150 then call_derived f (part ∷ []) else plain_derived (before f (at_operand (right_limit o) part.tree))

  abbrev pub two_derived : ℕ → Option Op → Derived → Derived → Derived
  two_derived f None left right = call_derived f (left ∷ right ∷ [])
  two_derived f (Some o) left right = plain_derived (between f (at_operand (left_limit o) left.tree) (at_operand (right_limit o) right.tree))

  abbrev pub compound_derived : ℕ → List Derived → Derived
  compound_derived f (part ∷ []) = if f == fixed.BRACES then plain_derived (braces part.tree) else one_derived f (prefix_of ops f) part
  compound_derived f (left ∷ right ∷ []) = if f == fixed.CELL then cell_derived left right else two_derived f (infix_of ops f) left right
  compound_derived f parts = call_derived f parts

  abbrev pub integer_tree : ℤ → Tree
  integer_tree (pos n) = number n
  integer_tree (negsuc n) = negative (suc n)

  abbrev pub derived_step : Term-F Derived → Derived
  derived_step (Var v) = plain_derived (variable v)
  derived_step (Int n) = plain_derived (integer_tree n)
  derived_step (Atom a) = atom_derived a
  derived_step (Node f parts) = compound_derived f parts

  abbrev pub derived_of : Term → Derived
  derived_of = fold-Term Derived derived_step

  -- the derivation of what is printed of a term; its variables have the numbers that they have in the term
  abbrev pub tree_of : Term → Tree
  tree_of t = (derived_of t).tree

  -- no operator has an atom that is an operator as an argument, each prefix and infix operator is defined, and nothing is a text of character codes
  abbrev mutual
    pub is_guarded : Tree → Bool
    is_guarded (text cs) = false
    is_guarded (call f ts) = all_guarded ts
    is_guarded (parens t) = is_guarded t
    is_guarded (braces t) = is_guarded t
    is_guarded (items ts) = all_guarded ts
    is_guarded (items_and_tail ts t) = all_guarded ts && is_guarded t
    is_guarded (before f t) = is_operand t && is_guarded t
    is_guarded (between f t u) = (is_operand t && is_operand u) && (is_guarded t && is_guarded u)
    is_guarded leaf = true

    pub is_operand : Tree → Bool
    is_operand (atom a) = if is_operator a then false else true
    is_operand other = true

    pub all_guarded : Trees → Bool
    all_guarded (one t) = is_guarded t
    all_guarded (more t ts) = is_guarded t && all_guarded ts
