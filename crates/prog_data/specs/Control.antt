-- Control and built-ins: what a name with so many arguments means as a goal.
use Rattle.std.specs.Prelude.{ℕ, ◌==◌, Bool, true, false, ◌&&◌, List, [], ◌∷◌, find, Option, Some, is_none, option_map}
use Rattle.prog_data.specs.declared.goals.Builtin.TheVariants as builtin
use Rattle.prog_data.specs.declared.control.Control.TheVariants as control
use Rattle.prog_data.specs.declared.control.Meaning.{Meaning}
use Rattle.prog_data.specs.declared.control.Meaning.TheVariants.{Control, Builtin, ListTest}
use Rattle.term_core.specs.declared.fixed.TheConstants.{COMMA, BAR, CUT, SEMICOLON, TRUE, FAIL, ARROW, NEGATION, EQUALS, NOT_EQUALS, SAME, NOT_SAME, IS, NUMBER_EQUALS, NUMBER_NOT_EQUALS, LESS, GREATER, LESS_OR_EQUAL, GREATER_OR_EQUAL, INTEGER, ATOM, WRITE, WRITEQ, NL, TERM, INT, NNEGINT, NUM, ATM, GND, CONSTANT, STRUCT, CALLABLE, LIST, VAR, NONVAR, GROUND}
use Rattle.prog_data.specs.declared.basic_names.TheConstants.{TERM_TYPE, INT_TYPE, NNEGINT_TYPE, NUM_TYPE, ATM_TYPE, GND_TYPE, CONSTANT_TYPE, STRUCT_TYPE, CALLABLE_TYPE, LIST_TYPE}

-- a name, its number of arguments and its meaning
abbrev pub Predefined : Type 0
Predefined = ℕ × ℕ × Meaning

-- each construct of control and each built-in
abbrev pub predefined : List Predefined
predefined =
    (COMMA, 2, Control control.Conjunction) ∷
    (SEMICOLON, 2, Control control.Disjunction) ∷
    (BAR, 2, Control control.Disjunction) ∷
    (ARROW, 2, Control control.IfThen) ∷
    (NEGATION, 1, Control control.Negation) ∷
    (CUT, 0, Control control.Cut) ∷
    (TRUE, 0, Control control.True) ∷
    (FAIL, 0, Control control.Fail) ∷
    (EQUALS, 2, Builtin builtin.Unify) ∷
    (NOT_EQUALS, 2, Builtin builtin.NotUnify) ∷
    (SAME, 2, Builtin builtin.Same) ∷
    (NOT_SAME, 2, Builtin builtin.NotSame) ∷
    (IS, 2, Builtin builtin.Is) ∷
    (LESS, 2, Builtin builtin.Less) ∷
    (GREATER, 2, Builtin builtin.Greater) ∷
    (LESS_OR_EQUAL, 2, Builtin builtin.LessEq) ∷
    (GREATER_OR_EQUAL, 2, Builtin builtin.GreaterEq) ∷
    (NUMBER_EQUALS, 2, Builtin builtin.NumEq) ∷
    (NUMBER_NOT_EQUALS, 2, Builtin builtin.NumNotEq) ∷
    (INTEGER, 1, Builtin builtin.Integer) ∷
    (ATOM, 1, Builtin builtin.Atom) ∷
    (WRITE, 1, Builtin builtin.Write) ∷
    (WRITEQ, 1, Builtin builtin.Writeq) ∷
    (NL, 0, Builtin builtin.Nl) ∷
    (TERM, 1, Builtin (builtin.Belongs TERM_TYPE)) ∷
    (INT, 1, Builtin (builtin.Belongs INT_TYPE)) ∷
    (NNEGINT, 1, Builtin (builtin.Belongs NNEGINT_TYPE)) ∷
    (NUM, 1, Builtin (builtin.Belongs NUM_TYPE)) ∷
    (ATM, 1, Builtin (builtin.Belongs ATM_TYPE)) ∷
    (GND, 1, Builtin (builtin.Belongs GND_TYPE)) ∷
    (CONSTANT, 1, Builtin (builtin.Belongs CONSTANT_TYPE)) ∷
    (STRUCT, 1, Builtin (builtin.Belongs STRUCT_TYPE)) ∷
    (CALLABLE, 1, Builtin (builtin.Belongs CALLABLE_TYPE)) ∷
    (LIST, 1, Builtin (builtin.Belongs LIST_TYPE)) ∷
    (VAR, 1, Builtin builtin.IsVar) ∷
    (NONVAR, 1, Builtin builtin.IsNonvar) ∷
    (GROUND, 1, Builtin builtin.IsGround) ∷
    (LIST, 2, ListTest) ∷
    []

-- the meaning of a name with so many arguments in a table
abbrev pub meaning_among : List Predefined → ℕ → ℕ → Option Meaning
meaning_among table name arity = option_map (λ row. row.2) (find (λ row. (row.0 == name) && (row.1 == arity)) table)

-- what a name with so many arguments means, none where it is no control and no built-in
abbrev pub meaning_of : ℕ → ℕ → Option Meaning
meaning_of = meaning_among predefined

-- whether a meaning is control
abbrev pub is_control_meaning : Option Meaning → Bool
is_control_meaning (Some (Control c)) = true
is_control_meaning other = false

-- whether a name with so many arguments is control
abbrev pub is_control : ℕ → ℕ → Bool
is_control name arity = is_control_meaning (meaning_of name arity)

-- whether a meaning is that of a built-in
abbrev pub is_built_in_meaning : Option Meaning → Bool
is_built_in_meaning (Some (Builtin b)) = true
is_built_in_meaning (Some ListTest) = true
is_built_in_meaning other = false

-- whether it is a built-in
abbrev pub is_built_in : ℕ → ℕ → Bool
is_built_in name arity = is_built_in_meaning (meaning_of name arity)

-- whether it is a predicate of the user
abbrev pub is_user : ℕ → ℕ → Bool
is_user name arity = is_none (meaning_of name arity)
