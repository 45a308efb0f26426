-- One step of the reading of a sentence: what comes of the next words, and of what waits for a term, the newest first.
-- The headline does not rest on this file.
use Rattle.std.specs.Prelude.{ℕ, ◌&&◌, ◌||◌, ◌==◌, nat_le, max, pos, neg_ℤ, List, [], ◌∷◌, ◌++◌, length, drop, Option, Some, None, if◌then◌else◌}
use Rattle.term_core.specs.declared.fixed.TheConstants as fixed
use Rattle.term_core.specs.declared.terms.Term.{Term}
use Rattle.term_core.specs.declared.terms.Term as term
use Rattle.term_core.specs.declared.operators.Op.{Op}
use Rattle.term_core.specs.declared.operators.Operators.{Operators}
use Rattle.term_core.specs.Operators.{greatest_priority, argument_priority, prefix_of, infix_of, left_limit, right_limit}
use Rattle.term_core.specs.Shapes.{greatest_arity}
use Rattle.ciao_reader.specs.declared.words.Word.{Word}
use Rattle.ciao_reader.specs.declared.words.Word.TheVariants as word
use Rattle.ciao_reader.specs.declared.parts.Part.{Part}
use Rattle.ciao_reader.specs.declared.frames.Frame.{Frame}
use Rattle.ciao_reader.specs.declared.frames.Frame.TheVariants.{Before, Between, Paren, Curly, Call, Listed, Tail}
use Rattle.ciao_reader.specs.declared.frames.Mode.{Mode}
use Rattle.ciao_reader.specs.declared.frames.Mode.TheVariants as mode
use Rattle.ciao_reader.specs.Derivations.{op_priority}
use Rattle.ciao_reader.specs.Readings.{as_integer}
use Rattle.ciao_reader.specs.Parts.{leaf, node_part, prefix_part, infix_part, paren_part, list_part, codes_part}

-- what is due or there, the words that are left, and what waits
pub data Now : Type 0 where
  need : ℕ → List Word → List Frame → Now
  have : ℕ → ℕ → Part → List Word → List Frame → Now
  done : Part → Now
  stuck : Now

-- a mode of the code with the words and what waits
abbrev pub now : Mode → List Word → List Frame → Now
now (mode.Need most) ws st = need most ws st
now (mode.Have most priority p) ws st = have most priority p ws st
now (mode.Done p) ws st = done p
now mode.Stuck ws st = stuck

-- where a term is due

-- behind a sign: its number
abbrev pub number_next : ℕ → List Word → List Frame → Now
number_next most (word.Number n ∷ ws) st = have most 0 (leaf (term.Int (as_integer (neg_ℤ (pos n))))) ws st
number_next most ws st = stuck

-- behind the name of a call: its parenthesis
abbrev pub call_next : ℕ → ℕ → List Word → List Frame → Now
call_next f most (word.Paren ∷ ws) st = need argument_priority ws (Call f [] 0 most ∷ st)
call_next f most ws st = stuck

-- behind a prefix operator: its argument, where its priority is allowed
abbrev pub prefix_next : Option Op → ℕ → ℕ → List Word → List Frame → Now
prefix_next None f most ws st = stuck
prefix_next (Some o) f most ws st = if nat_le o.priority most then need (right_limit o) ws (Before f most ∷ st) else stuck

-- a list that is closed with no item
abbrev pub no_item : List Word → List Frame → Now
no_item ws (Listed [] most ∷ st) = have most 0 (leaf (term.Atom fixed.NIL)) ws st
no_item ws st = stuck

-- braces that are closed with nothing in them
abbrev pub no_brace : List Word → List Frame → Now
no_brace ws (Curly most ∷ st) = have most 0 (leaf (term.Atom fixed.BRACES)) ws st
no_brace ws st = stuck

module _ (ops : Operators) where
  -- by the next word, where a term of at most this priority is due
  abbrev pub after_need : ℕ → List Word → List Frame → Now
  after_need most (word.Number n ∷ ws) st = have most 0 (leaf (term.Int (as_integer (pos n)))) ws st
  after_need most (word.Variable v ∷ ws) st = have most 0 (leaf (term.Var v)) ws st
  after_need most (word.Text cs ∷ ws) st = have most 0 (codes_part cs (leaf (term.Atom fixed.NIL))) ws st
  after_need most (word.Atom a ∷ ws) st = have most 0 (leaf (term.Atom a)) ws st
  after_need most (word.Sign ∷ ws) st = number_next most ws st
  after_need most (word.Call f ∷ ws) st = call_next f most ws st
  after_need most (word.Before f ∷ ws) st = prefix_next (prefix_of ops f) f most ws st
  after_need most (word.Paren ∷ ws) st = need greatest_priority ws (Paren most ∷ st)
  after_need most (word.OpenCurly ∷ ws) st = need greatest_priority ws (Curly most ∷ st)
  after_need most (word.OpenList ∷ ws) st = need argument_priority ws (Listed [] most ∷ st)
  after_need most (word.CloseList ∷ ws) st = no_item ws st
  after_need most (word.CloseCurly ∷ ws) st = no_brace ws st
  after_need most ws st = stuck

-- where a term is there that does not grow

-- where nothing waits: the end of the words
abbrev pub at_end : Part → List Word → Now
at_end p [] = done p
at_end p ws = stuck

-- in parentheses: their end
abbrev pub in_paren : Part → ℕ → List Word → List Frame → Now
in_paren p most (word.CloseParen ∷ ws) st = have most 0 (paren_part p) ws st
in_paren p most ws st = stuck

-- in braces: their end
abbrev pub in_curly : Part → ℕ → List Word → List Frame → Now
in_curly p most (word.CloseCurly ∷ ws) st = have most 0 (prefix_part fixed.BRACES p) ws st
in_curly p most ws st = stuck

-- these arguments, the deepest of this depth
abbrev pub called : ℕ → List Term → ℕ → ℕ → List Word → List Frame → Now
called f ts deepest most ws st = if nat_le (length ts) greatest_arity then have most 0 (node_part f ts deepest) ws st else stuck

-- behind an argument: one more, or the end
abbrev pub in_call : ℕ → List Term → ℕ → ℕ → List Word → List Frame → Now
in_call f ts deepest most (word.Comma ∷ ws) st = need argument_priority ws (Call f ts deepest most ∷ st)
in_call f ts deepest most (word.CloseParen ∷ ws) st = called f ts deepest most ws st
in_call f ts deepest most ws st = stuck

-- behind an item: one more, the tail, or the end
abbrev pub in_list : List Part → ℕ → List Word → List Frame → Now
in_list ps most (word.Comma ∷ ws) st = need argument_priority ws (Listed ps most ∷ st)
in_list ps most (word.Bar ∷ ws) st = need argument_priority ws (Tail ps most ∷ st)
in_list ps most (word.CloseList ∷ ws) st = have most 0 (list_part ps (leaf (term.Atom fixed.NIL))) ws st
in_list ps most ws st = stuck

-- behind the tail of a list: the end
abbrev pub in_tail : Part → List Part → ℕ → List Word → List Frame → Now
in_tail p ps most (word.CloseList ∷ ws) st = have most 0 (list_part ps p) ws st
in_tail p ps most ws st = stuck

-- an operator with its name
abbrev pub named : ℕ → Option Op → Option (ℕ × Op)
named f None = None
named f (Some o) = Some (f, o)

module _ (ops : Operators) where
  -- the term goes to what waits for it
  abbrev pub given : Part → List Word → List Frame → Now
  given p ws [] = at_end p ws
  given p ws (Before f most ∷ st) = have most (op_priority (prefix_of ops f)) (prefix_part f p) ws st
  given p ws (Between f left most ∷ st) = have most (op_priority (infix_of ops f)) (infix_part f left p) ws st
  given p ws (Paren most ∷ st) = in_paren p most ws st
  given p ws (Curly most ∷ st) = in_curly p most ws st
  given p ws (Call f ts deepest most ∷ st) = in_call f (ts ++ p.term ∷ []) (max deepest p.depth) most ws st
  given p ws (Listed ps most ∷ st) = in_list (ps ++ p ∷ []) most ws st
  given p ws (Tail ps most ∷ st) = in_tail p ps most ws st

  -- the infix operator that a word is
  abbrev pub operator_of : Word → Option (ℕ × Op)
  operator_of (word.Between f) = if f == fixed.COMMA || f == fixed.BAR then None else named f (infix_of ops f)
  operator_of word.Comma = named fixed.COMMA (infix_of ops fixed.COMMA)
  operator_of word.Bar = named fixed.BAR (infix_of ops fixed.BAR)
  operator_of other = None

  -- the infix operator at the front of these words
  abbrev pub operator_next : List Word → Option (ℕ × Op)
  operator_next [] = None
  operator_next (w ∷ ws) = operator_of w

  -- the term grows where an operator comes next that it may stand before
  abbrev pub grown : ℕ → ℕ → Part → List Word → List Frame → Option (ℕ × Op) → Now
  grown most priority p ws st None = given p ws st
  grown most priority p ws st (Some (f, o)) =
      if nat_le o.priority most && nat_le priority (left_limit o) then need (right_limit o) (drop 1 ws) (Between f p most ∷ st) else given p ws st

  -- one step
  abbrev pub next : Now → Now
  next (need most ws st) = after_need ops most ws st
  next (have most priority p ws st) = grown most priority p ws st (operator_next ws)
  next (done p) = done p
  next stuck = stuck
