-- What is kept of a derivation while a sentence is read: its term, as long as it is not too deep.
-- The headline does not rest on this file.
use Rattle.std.specs.Prelude.{◌≡◌, ℕ, ◌+◌, nat_le, max, pos, List, [], ◌∷◌, if◌then◌else◌}
use Rattle.term_core.specs.declared.fixed.TheConstants as fixed
use Rattle.term_core.specs.declared.terms.Term.{Term}
use Rattle.term_core.specs.declared.terms.Term as term
use Rattle.term_core.specs.declared.operators.Operators.{Operators}
use Rattle.term_core.specs.Operators.{greatest_priority}
use Rattle.ciao_reader.specs.declared.words.Word.{Word}
use Rattle.ciao_reader.specs.Derivations.{Tree, Derives}
use Rattle.ciao_reader.specs.Readings.{term_of, depth}
use Rattle.ciao_reader.specs.Sentences.{depth_limit}
use Rattle.ciao_reader.specs.declared.parts.Part.{Part}

-- a term of this depth, or none where it is too deep
abbrev pub capped : ℕ → Term → Part
capped deep t = if nat_le deep depth_limit then record { term = t; depth = deep } else record { term = term.Atom fixed.NIL; depth = depth_limit + 1 }

-- what is kept of the derivation
abbrev pub part_of : Tree → Part
part_of t = capped (depth t) (term_of t)

-- a variable, a number or an atom
abbrev pub leaf : Term → Part
leaf t = record { term = t; depth = 1 }

-- a compound of terms, the deepest of which has this depth
abbrev pub node_part : ℕ → List Term → ℕ → Part
node_part name ts deepest = capped (deepest + 1) (term.Node name ts)

-- a compound of one
abbrev pub prefix_part : ℕ → Part → Part
prefix_part name p = node_part name (p.term ∷ []) p.depth

-- a compound of two
abbrev pub infix_part : ℕ → Part → Part → Part
infix_part name p q = node_part name (p.term ∷ q.term ∷ []) (max p.depth q.depth)

-- one in parentheses, which count for one of its depth
abbrev pub paren_part : Part → Part
paren_part p = capped (p.depth + 1) p.term

-- a list of these and a tail
abbrev pub list_part : List Part → Part → Part
list_part [] tail = tail
list_part (p ∷ ps) tail = infix_part fixed.CELL p (list_part ps tail)

-- a list of these integers and a tail
abbrev pub codes_part : List ℕ → Part → Part
codes_part [] tail = tail
codes_part (c ∷ cs) tail = infix_part fixed.CELL (leaf (term.Int (pos c))) (codes_part cs tail)

-- what is kept of a derivation of these words
pub record IsPartOf (ops : Operators) (ws : List Word) (p : Part) : Type 0 where
  pub tree : Tree
  pub derives : Derives ops ws greatest_priority tree
  pub is : p ≡ part_of tree
