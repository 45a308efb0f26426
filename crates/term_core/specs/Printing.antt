-- The text of a term.
use Rattle.std.specs.Prelude.{ℕ, Bool, false, not, ◌||◌, ◌==◌, nat_lt, if◌then◌else◌, List, [], ◌∷◌, ◌++◌, map, flat_map, is_some, Option, Some, None, codes, decimal}
use Rattle.std.specs.Str.{byte}
use Rattle.std.specs.Fmt.{signed_decimal}
use Rattle.term_core.specs.declared.operators.Op.{Op}
use Rattle.term_core.specs.declared.operators.Operators.{Operators}
use Rattle.term_core.specs.declared.terms.Term.{Term}
use Rattle.term_core.specs.declared.terms.Term.TheOpen.{Term-F, Var, Int, Atom, Node}
use Rattle.term_core.specs.declared.terms.Term.TheFolds.{fold-Term}
use Rattle.term_core.specs.Names.{name_text}
use Rattle.term_core.specs.declared.fixed.TheConstants.{NIL, CELL, BRACES, COMMA, BAR}
use Rattle.term_core.specs.Characters.{is_name}
use Rattle.term_core.specs.Operators.{argument_priority, keyword_priority, prefix_of, infix_of, left_limit, right_limit}

-- names

-- a character between quotes
abbrev pub escaped : ℕ → List ℕ
escaped c =
    if c == byte "\\" then codes "\\\\"
    else if c == byte "'" then codes "\\'"
    else if c == byte "\n" then codes "\\n"
    else if c == byte "\t" then codes "\\t"
    else if c == byte "\r" then codes "\\r"
    else c ∷ []

-- a text between quotes
abbrev pub in_quotes : List ℕ → List ℕ
in_quotes text = codes "'" ++ flat_map escaped text ++ codes "'"

-- a text with quotes, where they are asked for and a name needs them
abbrev pub quoted_where_needed : Bool → List ℕ → List ℕ
quoted_where_needed quoted text = if not quoted || is_name text then text else in_quotes text

-- what is shown of a term

-- the text of a term, and what its surroundings ask of it
pub record Shown : Type 0 where
  pub text : List ℕ
  pub priority : ℕ
  -- an atom that is a prefix or infix operator
  pub is_operator : Bool
  -- what stands behind the items before it where it is the tail of a list
  pub as_tail : List ℕ

-- a text in parentheses
abbrev pub in_parens : List ℕ → List ℕ
in_parens text = codes "(" ++ text ++ codes ")"

-- a text, in parentheses where they are needed
abbrev pub in_parens_where : Bool → List ℕ → List ℕ
in_parens_where needed text = if needed then in_parens text else text

-- at its place as an argument of a compound or as an item or the tail of a list
abbrev pub at_argument : Shown → List ℕ
at_argument s = in_parens_where (nat_lt argument_priority s.priority) s.text

-- at its place as an argument of an operator, where this priority is allowed
abbrev pub at_operand : ℕ → Shown → List ℕ
at_operand limit s = in_parens_where (nat_lt limit s.priority || s.is_operator) s.text

-- a text after a comma
abbrev pub after_comma : List ℕ → List ℕ
after_comma text = codes "," ++ text

-- each text, with a comma between two
abbrev pub with_commas : List (List ℕ) → List ℕ
with_commas [] = []
with_commas (text ∷ others) = text ++ flat_map after_comma others

-- the tail of a list behind the bar, and the end of the list
abbrev pub after_bar : List ℕ → List ℕ
after_bar text = codes "|" ++ text ++ codes "]"

-- a term that is neither an atom nor a list cell
abbrev pub plain_shown : ℕ → List ℕ → Shown
plain_shown priority text = record { text = text; priority = priority; is_operator = false; as_tail = after_bar (in_parens_where (nat_lt argument_priority priority) text) }

-- a list cell: an item, and what stands behind it
abbrev pub cell_shown : Shown → Shown → Shown
cell_shown item tail = record { text = codes "[" ++ at_argument item ++ tail.as_tail; priority = 0; is_operator = false; as_tail = after_comma (at_argument item) ++ tail.as_tail }

module _ (names : List (List ℕ)) (ops : Operators) (quoted : Bool) where
  -- a name before parentheses or as an operator
  abbrev pub name_shown : ℕ → List ℕ
  name_shown n = quoted_where_needed quoted (name_text names n)

  -- a name alone: `[]` and `{}` need no quotes
  abbrev pub atom_text : ℕ → List ℕ
  atom_text a = if a == NIL || a == BRACES then name_text names a else name_shown a

  -- an atom: it may be an operator, and as a tail `[]` ends the list
  abbrev pub atom_shown : ℕ → Shown
  atom_shown a = record {
    text = atom_text a;
    priority = 0;
    is_operator = is_some (prefix_of ops a) || is_some (infix_of ops a);
    as_tail = if a == NIL then codes "]" else after_bar (atom_text a);
  }

  -- a name and, in parentheses, arguments
  abbrev pub call_text : ℕ → List (List ℕ) → List ℕ
  call_text f texts = name_shown f ++ codes "(" ++ with_commas texts ++ codes ")"

  -- a compound written as a call
  abbrev pub call_shown : ℕ → List Shown → Shown
  call_shown f parts = plain_shown 0 (call_text f (map at_argument parts))

  -- one argument behind a prefix operator
  abbrev pub prefix_text : ℕ → Op → Shown → List ℕ
  prefix_text f o part = name_shown f ++ codes " " ++ at_operand (right_limit o) part

  -- an infix operator between its arguments; the comma and the bar need no quotes
  abbrev pub infix_name : ℕ → List ℕ
  infix_name f = if f == COMMA then codes "," else if f == BAR then codes " | " else codes " " ++ name_shown f ++ codes " "

  -- two arguments with an infix operator between them
  abbrev pub infix_text : ℕ → Op → Shown → Shown → List ℕ
  infix_text f o left right = at_operand (left_limit o) left ++ infix_name f ++ at_operand (right_limit o) right

  -- a compound of one argument, by what its name is as a prefix operator; one of the priority of keywords, whatever its name, is written as a call
  abbrev pub one_shown : ℕ → Option Op → Shown → Shown
  one_shown f None part = call_shown f (part ∷ [])
  one_shown f (Some o) part = if o.priority == keyword_priority then call_shown f (part ∷ []) else plain_shown o.priority (prefix_text f o part)

  -- a compound of two arguments, by what its name is as an infix operator
  abbrev pub two_shown : ℕ → Option Op → Shown → Shown → Shown
  two_shown f None left right = call_shown f (left ∷ right ∷ [])
  two_shown f (Some o) left right = plain_shown o.priority (infix_text f o left right)

  -- a compound: `{}` with one argument, a list cell, by its name as an operator, or as a call
  abbrev pub compound_shown : ℕ → List Shown → Shown
  compound_shown f (part ∷ []) = if f == BRACES then plain_shown 0 (codes "{" ++ part.text ++ codes "}") else one_shown f (prefix_of ops f) part
  compound_shown f (left ∷ right ∷ []) = if f == CELL then cell_shown left right else two_shown f (infix_of ops f) left right
  compound_shown f parts = call_shown f parts

  -- a term from what is shown of its parts
  abbrev pub shown_step : Term-F Shown → Shown
  shown_step (Var v) = plain_shown 0 (codes "_" ++ decimal v)
  shown_step (Int n) = plain_shown 0 (signed_decimal n)
  shown_step (Atom a) = atom_shown a
  shown_step (Node f parts) = compound_shown f parts

  -- what is shown of a term
  abbrev pub shown_of : Term → Shown
  shown_of = fold-Term Shown shown_step

  -- the text of a term: a variable is `_` and its number, a list its items in brackets, a compound whose name is an operator that name before or between its arguments, in parentheses where they need them, another compound its name and, in parentheses, its arguments
  abbrev pub Printed : Term → List ℕ
  Printed t = (shown_of t).text

  -- what stands behind the items of a list before this tail
  abbrev pub PrintedTail : Term → List ℕ
  PrintedTail t = (shown_of t).as_tail
