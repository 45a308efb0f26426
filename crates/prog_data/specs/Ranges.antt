-- Which terms, goals, clauses and conditions are in range of a program.
-- The headline does not rest on this file.
use Rattle.std.specs.Prelude.{ℕ, ◌==◌, nat_lt, nat_le, Bool, true, false, ◌&&◌, List, [], ◌∷◌, length}
use Rattle.std.specs.List.{list_all}
use Rattle.term_core.specs.declared.terms.Term.{Term, out-Term}
use Rattle.term_core.specs.declared.terms.Term.TheOpen as layer
use Rattle.term_core.specs.Ranges.{has_names}
use Rattle.term_core.specs.Terms.{above}
use Rattle.term_core.specs.Shapes.{is_atom}
use Rattle.prog_data.specs.declared.goals.Goal.{Goal}
use Rattle.prog_data.specs.declared.goals.Goal.TheOpen.{Goal-F, Call, Builtin, Conj, Disj, IfElse, Not, Exit}
use Rattle.prog_data.specs.declared.goals.Goal.TheFolds.{fold-Goal}
use Rattle.prog_data.specs.declared.goals.Builtin.{Builtin as BuiltinName}
use Rattle.prog_data.specs.declared.goals.Builtin.TheVariants as builtin
use Rattle.prog_data.specs.declared.conditions.Prop.{Prop}
use Rattle.prog_data.specs.declared.conditions.Prop.TheVariants.{Belongs, IsVar, IsNonvar, IsGround}
use Rattle.prog_data.specs.declared.conditions.CondKind.{CondKind}
use Rattle.prog_data.specs.declared.conditions.CondKind.TheVariants.{Calls, Success, Comp}
use Rattle.prog_data.specs.declared.programs.Clause.{Clause}
use Rattle.prog_data.specs.declared.programs.Place.{Place}
use Rattle.prog_data.specs.declared.programs.Program.{Program}
use Rattle.prog_data.specs.Goals.{pred_of, without_exit}

-- whether a number is that of a name of the program
abbrev pub is_name_of : Program → ℕ → Bool
is_name_of program name = nat_lt name (length program.names)

-- whether the file of a place is a name of the program
abbrev pub is_place_of : Program → Place → Bool
is_place_of program place = is_name_of program place.file

-- whether a number is that of a predicate of the program
abbrev pub is_pred_of : Program → ℕ → Bool
is_pred_of program p = nat_lt p (length program.preds)

-- whether a number is that of a condition of the program
abbrev pub is_cond_of : Program → ℕ → Bool
is_cond_of program c = nat_lt c (length program.conds)

-- whether a term is in range: the names in it are the program's, and its variables are below a number
abbrev pub is_term_of : Program → ℕ → Term → Bool
is_term_of program vars t = has_names (length program.names) t && nat_le (above t) vars

-- goals

-- how many arguments a built-in has; a test of a type may have two
abbrev pub arity_of : BuiltinName → ℕ
arity_of builtin.Nl = 0
arity_of builtin.Integer = 1
arity_of builtin.Atom = 1
arity_of builtin.Write = 1
arity_of builtin.Writeq = 1
arity_of (builtin.Belongs n) = 1
arity_of builtin.IsVar = 1
arity_of builtin.IsNonvar = 1
arity_of builtin.IsGround = 1
arity_of other = 2

-- whether a test of a type has one argument and a basic type, or a second argument that is an atom and one of so many types
abbrev pub is_type_test : (size type : ℕ) → List Term → Bool
is_type_test size type (t ∷ []) = nat_lt type 10
is_type_test size type (t ∷ name ∷ []) = nat_lt type size && is_atom (out-Term name)
is_type_test size type other = false

-- whether a built-in has as many arguments as it takes, and a test of a type one of so many types
abbrev pub is_builtin_of : ℕ → BuiltinName → List Term → Bool
is_builtin_of size (builtin.Belongs type) ts = is_type_test size type ts
is_builtin_of size b ts = length ts == arity_of b

-- whether a call is of a predicate of the program and has as many arguments
abbrev pub is_call_of : Program → ℕ → List Term → Bool
is_call_of program p ts = is_pred_of program p && (length ts == (pred_of program p).arity)

-- whether a goal is in range, by whether its parts are; an exit is no goal
abbrev pub goal_step : Program → ℕ → Goal-F Bool → Bool
goal_step program vars (Call p ts) = is_call_of program p ts && list_all (is_term_of program vars) ts
goal_step program vars (Builtin b ts) = is_builtin_of (length program.grammar.rules) b ts && list_all (is_term_of program vars) ts
goal_step program vars (Conj a b) = a && b
goal_step program vars (Disj a b) = a && b
goal_step program vars (IfElse c a b) = c && (a && b)
goal_step program vars (Not a) = a
goal_step program vars Exit = false
goal_step program vars other = true

-- whether the calls, built-ins and terms of a goal are in range, its variables below a number, and no part of it is an exit
abbrev pub is_goal_of : Program → ℕ → Goal → Bool
is_goal_of program vars = fold-Goal Bool (goal_step program vars)

-- whether a body is in range: it may be an exit, or end in one
abbrev pub is_body_of : Program → ℕ → Goal → Bool
is_body_of program vars body = is_goal_of program vars (without_exit body)

-- whether a clause has as many arguments in its head, and its terms and its body are in range
abbrev pub is_clause_of : Program → ℕ → Clause → Bool
is_clause_of program arity clause =
    ((length clause.head == arity) && list_all (is_term_of program clause.vars) clause.head) && (is_body_of program clause.vars clause.body && is_place_of program clause.place)

-- conditions

-- whether a property is one of so many arguments, and its type one of so many
abbrev pub is_prop_of : (arity size : ℕ) → Prop → Bool
is_prop_of arity size (Belongs i type) = nat_lt i arity && nat_lt type size
is_prop_of arity size (IsVar i) = nat_lt i arity
is_prop_of arity size (IsNonvar i) = nat_lt i arity
is_prop_of arity size (IsGround i) = nat_lt i arity

-- whether each property of a condition is
abbrev pub is_kind_of : (arity size : ℕ) → CondKind → Bool
is_kind_of arity size (Calls disjuncts) = list_all (list_all (is_prop_of arity size)) disjuncts
is_kind_of arity size (Success pre post) = list_all (is_prop_of arity size) pre && list_all (is_prop_of arity size) post
is_kind_of arity size (Comp pre property) = list_all (is_prop_of arity size) pre

-- whether each property is one of the arguments of a predicate of the program
abbrev pub are_props_of : Program → ℕ → List Prop → Bool
are_props_of program p props = list_all (is_prop_of (pred_of program p).arity (length program.grammar.rules)) props
