-- Clauses as terms, as they are written in source.
-- The headline does not rest on this file.
use Rattle.std.specs.Prelude.{ℕ, ◌+◌, min, List, [], ◌∷◌, ◌++◌, bytes_eq, position, Option, None, Some, codes}
use Rattle.term_core.specs.declared.fixed.TheConstants.{COMMA, CUT, SEMICOLON, EXIT, TRUE, FAIL, LIBRARY, NECK, ARROW, NEGATION, EQUALS, NOT_EQUALS, SAME, NOT_SAME, IS, NUMBER_EQUALS, NUMBER_NOT_EQUALS, LESS, GREATER, LESS_OR_EQUAL, GREATER_OR_EQUAL, COLON, INTEGER, ATOM, WRITE, WRITEQ, NL, TERM, VAR, NONVAR, GROUND}
use Rattle.term_core.specs.declared.terms.Term.{Term}
use Rattle.term_core.specs.declared.terms.Term as term
use Rattle.term_core.specs.Names.{name_text}
use Rattle.prog_data.specs.declared.basic_names.TheConstants.{LIST_TYPE}
use Rattle.prog_data.specs.declared.goals.Goal.{Goal, out-Goal}
use Rattle.prog_data.specs.declared.goals.Goal.TheOpen.{Goal-F, True, Fail, Cut, Call, Builtin as BuiltinGoal, Conj, Disj, IfElse, Not, Exit}
use Rattle.prog_data.specs.declared.goals.Goal.TheFolds.{fold-Goal}
use Rattle.prog_data.specs.declared.goals.Builtin.{Builtin}
use Rattle.prog_data.specs.declared.goals.Builtin.TheVariants as builtin
use Rattle.prog_data.specs.declared.programs.Clause.{Clause}
use Rattle.prog_data.specs.declared.programs.Pred.{Pred}
use Rattle.prog_data.specs.declared.programs.Program.{Program}
use Rattle.prog_data.specs.Goals.{pred_of}

-- names

-- a name with arguments: an atom where there are none
abbrev pub applied : ℕ → List Term → Term
applied name [] = term.Atom name
applied name (t ∷ ts) = term.Node name (t ∷ ts)

-- the name of a built-in; the test of a basic type has the type's name, and one of another type is `list`, with the element in the source behind it
abbrev pub builtin_name : Builtin → ℕ
builtin_name builtin.Unify = EQUALS
builtin_name builtin.NotUnify = NOT_EQUALS
builtin_name builtin.Same = SAME
builtin_name builtin.NotSame = NOT_SAME
builtin_name builtin.Is = IS
builtin_name builtin.Less = LESS
builtin_name builtin.Greater = GREATER
builtin_name builtin.LessEq = LESS_OR_EQUAL
builtin_name builtin.GreaterEq = GREATER_OR_EQUAL
builtin_name builtin.NumEq = NUMBER_EQUALS
builtin_name builtin.NumNotEq = NUMBER_NOT_EQUALS
builtin_name builtin.Integer = INTEGER
builtin_name builtin.Atom = ATOM
builtin_name builtin.Write = WRITE
builtin_name builtin.Writeq = WRITEQ
builtin_name builtin.Nl = NL
builtin_name (builtin.Belongs type) = TERM + min type LIST_TYPE
builtin_name builtin.IsVar = VAR
builtin_name builtin.IsNonvar = NONVAR
builtin_name builtin.IsGround = GROUND

-- modules

-- the text of a library's module
abbrev pub library_text : List ℕ → List ℕ
library_text name = codes "library(" ++ name ++ codes ")"

-- the library that has this text as a module, if it is one of the names
abbrev pub library_of : List (List ℕ) → List ℕ → Option ℕ
library_of names text = position (λ name. bytes_eq (library_text name) text) names

-- `library(L)`, or the module's atom
abbrev pub module_or_library : ℕ → Option ℕ → Term
module_or_library m None = term.Atom m
module_or_library m (Some library) = term.Node LIBRARY (term.Atom library ∷ [])

-- a module as it stands before a goal
abbrev pub module_term : List (List ℕ) → ℕ → Term
module_term names m = module_or_library m (library_of names (name_text names m))

-- goals and clauses

module _ (program : Program) where
  -- a call of a predicate, behind its module
  abbrev pub call_term : Pred → List Term → Term
  call_term pred args = term.Node COLON (module_term program.names pred.«module» ∷ applied pred.name args ∷ [])

  -- a goal, its parts being terms already
  abbrev pub goal_step : Goal-F Term → Term
  goal_step True = term.Atom TRUE
  goal_step Fail = term.Atom FAIL
  goal_step Cut = term.Atom CUT
  goal_step (Call p args) = call_term (pred_of program p) args
  goal_step (BuiltinGoal b args) = applied (builtin_name b) args
  goal_step (Conj a b) = term.Node COMMA (a ∷ b ∷ [])
  goal_step (Disj a b) = term.Node SEMICOLON (a ∷ b ∷ [])
  goal_step (IfElse c a b) = term.Node SEMICOLON (term.Node ARROW (c ∷ a ∷ []) ∷ b ∷ [])
  goal_step (Not a) = term.Node NEGATION (a ∷ [])
  goal_step Exit = term.Atom EXIT

  -- a goal as a term
  abbrev pub goal_term : Goal → Term
  goal_term = fold-Goal Term goal_step

  -- a head alone where the body is `true`, else before the body
  abbrev pub rule_term : Term → Goal → Goal-F Goal → Term
  rule_term head body True = head
  rule_term head body other = term.Node NECK (head ∷ goal_term body ∷ [])

  -- a clause as a term, its variables under their own numbers
  abbrev pub clause_term : Pred → Clause → Term
  clause_term pred clause = rule_term (applied pred.name clause.head) clause.body (out-Goal clause.body)
