-- Small programs to compute with.
use Rattle.std.specs.Prelude.{ℕ, List, [], ◌∷◌, ◌++◌, map, pos, negsuc, codes, None}
use Rattle.machine_model.specs.State.{Item, Does, Exits, Doing, State}
use Rattle.term_core.specs.declared.terms.Term.{Term, Var, Int, Atom, Node}
use Rattle.term_core.specs.Standard.{standard}
use Rattle.term_core.specs.Names.{fixed_names}
use Rattle.term_core.specs.declared.fixed.TheConstants.{NIL, CELL, QUOTIENT, REMAINDER, MODULO}
use Rattle.prog_data.specs.declared.goals.Goal as goal
use Rattle.prog_data.specs.declared.goals.Goal.{Goal}
use Rattle.prog_data.specs.declared.goals.Builtin.{Builtin}
use Rattle.prog_data.specs.declared.goals.Builtin.TheVariants as builtin
use Rattle.prog_data.specs.declared.programs.Place.{Place}
use Rattle.prog_data.specs.declared.conditions.Prop.TheVariants as prop
use Rattle.prog_data.specs.declared.conditions.CompProp.TheVariants as comp
use Rattle.prog_data.specs.declared.conditions.Cond.{Cond}
use Rattle.prog_data.specs.declared.conditions.CondKind.{CondKind}
use Rattle.prog_data.specs.declared.conditions.CondKind.TheVariants as kind
use Rattle.prog_data.specs.declared.programs.Clause.{Clause}
use Rattle.prog_data.specs.declared.programs.Pred.{Pred}
use Rattle.prog_data.specs.declared.programs.Program.{Program}
use Rattle.prog_data.specs.declared.grammars.Rule.{Rule}
use Rattle.prog_data.specs.declared.grammars.Rule.TheVariants as rule
use Rattle.prog_data.specs.declared.grammars.Basic.TheVariants as basic

-- the ten basic names
abbrev pub basic_rules : List (List Rule)
basic_rules =
    (rule.Basic basic.Term ∷ []) ∷ (rule.Basic basic.Int ∷ []) ∷ (rule.Basic basic.Nnegint ∷ []) ∷ (rule.Unit 1 ∷ []) ∷ (rule.Basic basic.Atm ∷ []) ∷ (rule.Basic basic.Gnd ∷ []) ∷
    (rule.Basic basic.Int ∷ rule.Basic basic.Atm ∷ []) ∷ (rule.Basic basic.Struct ∷ []) ∷ (rule.Basic basic.Atm ∷ rule.Basic basic.Struct ∷ []) ∷ (rule.Atom 0 ∷ rule.Node 1 (0 ∷ 9 ∷ []) ∷ []) ∷ []

-- p q f a b
abbrev pub p : ℕ
p = 100

abbrev pub q : ℕ
q = 101

abbrev pub f : Term → Term
f t = Node 102 (t ∷ [])

abbrev pub f2 : Term → Term → Term
f2 s t = Node 102 (s ∷ t ∷ [])

abbrev pub a : Term
a = Atom 103

abbrev pub b : Term
b = Atom 104

abbrev pub number : ℕ → Term
number n = Int (pos n)

-- the number below 0 that is so far from -1
abbrev pub negative : ℕ → Term
negative n = Int (negsuc n)

abbrev pub X : Term
X = Var 0

abbrev pub Y : Term
Y = Var 1

abbrev pub at : ℕ → Place
at line = record { file = 110; line = line }

abbrev pub clause : List Term → Goal → ℕ → ℕ → Clause
clause head body vars line = record { head = head; body = body; vars = vars; place = at line }

abbrev pub pred : ℕ → ℕ → List Clause → List ℕ → Pred
pred name arity clauses conds = record { «module» = 111; name = name; arity = arity; clauses = clauses; conds = conds; call_checks = [] }

abbrev pub cond : ℕ → ℕ → ℕ → CondKind → Cond
cond id of line k = record { id = id; pred = of; place = at line; kind = k }

abbrev pub program : List Pred → List Cond → List ℕ → Program
program preds conds exports = record { names = []; ops = standard; files = []; preds = preds; conds = conds; claims = []; grammar = record { rules = basic_rules }; exports = exports; entries = map (λ e. record { pred = e; pre = [] }) exports }

abbrev pub call : Builtin → Term → Term → Goal
call builtin s t = goal.Builtin builtin (s ∷ t ∷ [])

abbrev pub equal : Term → Term → Goal
equal s t = call builtin.Unify s t

abbrev pub evaluates : Term → ℕ → Term → Term → Goal
evaluates result f s t = call builtin.Is result (Node f (s ∷ t ∷ []))

-- `:- pred p(X) : int(X). :- pred p(X) : atm(X). p(_).`
abbrev pub two_entries : Program
two_entries = program (pred p 1 (clause (X ∷ []) goal.True 1 4 ∷ []) (0 ∷ []) ∷ []) (cond 0 0 2 (kind.Calls ((prop.Belongs 0 1 ∷ []) ∷ (prop.Belongs 0 4 ∷ []) ∷ [])) ∷ []) (0 ∷ [])

-- `:- success p(X) : int(X) => atm(X). p(f(a)). p(1).`
abbrev pub promised : Program
promised = program (pred p 1 (clause (f a ∷ []) goal.True 0 3 ∷ clause (number 1 ∷ []) goal.True 0 4 ∷ []) (0 ∷ []) ∷ []) (cond 0 0 2 (kind.Success (prop.Belongs 0 1 ∷ []) (prop.Belongs 0 4 ∷ [])) ∷ []) (0 ∷ [])

-- `:- success p(X) : int(X) => atm(X). p(1).`
abbrev pub promised_once : Program
promised_once = program (pred p 1 (clause (number 1 ∷ []) goal.True 0 3 ∷ []) (0 ∷ []) ∷ []) (cond 0 0 2 (kind.Success (prop.Belongs 0 1 ∷ []) (prop.Belongs 0 4 ∷ [])) ∷ []) (0 ∷ [])

-- `p(a). p(f(X)) :- p(X).`
abbrev pub counted : Program
counted = program (pred p 1 (clause (a ∷ []) goal.True 0 2 ∷ clause (f X ∷ []) (goal.Call 0 (X ∷ [])) 1 3 ∷ []) [] ∷ []) [] (0 ∷ [])

-- `p(X,X).`
abbrev pub twice : Program
twice = program (pred p 2 (clause (X ∷ X ∷ []) goal.True 1 2 ∷ []) [] ∷ []) [] (0 ∷ [])

-- `p :- X = f(X).`
abbrev pub cycle : Program
cycle = program (pred p 0 (clause [] (equal X (f X)) 1 2 ∷ []) [] ∷ []) [] (0 ∷ [])

-- `p :- f(X,a) = f(f(X),b). q :- f(a,X) = f(b,f(X)).`
abbrev pub cycle_or_clash : Program
cycle_or_clash = program
    (pred p 0 (clause [] (equal (f2 X a) (f2 (f X) b)) 1 2 ∷ []) [] ∷
    pred q 0 (clause [] (equal (f2 a X) (f2 b (f X))) 1 3 ∷ []) [] ∷ [])
    [] (0 ∷ 1 ∷ [])

-- `p(X) :- X is S op T.`
abbrev pub evaluated : ℕ → Term → Term → Program
evaluated op s t = program (pred p 1 (clause (X ∷ []) (evaluates X op s t) 1 2 ∷ []) [] ∷ []) [] (0 ∷ [])

-- `p(-9223372036854775808).`
abbrev pub least : Program
least = program (pred p 1 (clause (negative 9223372036854775807 ∷ []) goal.True 0 3 ∷ []) [] ∷ []) [] (0 ∷ [])

-- `:- comp p(X) + is_det. p(1). p(2). q(X) :- p(X), !.`
abbrev pub one_answer : Program
one_answer = program
    (pred p 1 (clause (number 1 ∷ []) goal.True 0 3 ∷ clause (number 2 ∷ []) goal.True 0 4 ∷ []) (0 ∷ []) ∷
    pred q 1 (clause (X ∷ []) (goal.Conj (goal.Call 0 (X ∷ [])) goal.Cut) 1 5 ∷ []) [] ∷ [])
    (cond 0 0 2 (kind.Comp [] comp.IsDet) ∷ []) (0 ∷ 1 ∷ [])

-- `:- comp q + not_fails. q :- !, fail. p :- \+ q.`
abbrev pub never_fails : Program
never_fails = program
    (pred q 0 (clause [] (goal.Conj goal.Cut goal.Fail) 0 3 ∷ []) (0 ∷ []) ∷ pred p 0 (clause [] (goal.Not (goal.Call 0 [])) 0 4 ∷ []) [] ∷ [])
    (cond 0 0 2 (kind.Comp [] comp.NotFails) ∷ []) (1 ∷ [])

-- `:- comp p + not_fails. p.`
abbrev pub exits_once : Program
exits_once = program (pred p 0 (clause [] goal.True 0 3 ∷ []) (0 ∷ []) ∷ []) (cond 0 0 2 (kind.Comp [] comp.NotFails) ∷ []) (0 ∷ [])

-- `p :- ( fail ; true ; nl ), !.`
abbrev pub control : Program
control = program (pred p 0 (clause [] (goal.Conj (goal.Disj goal.Fail (goal.Disj goal.True (goal.Builtin builtin.Nl []))) goal.Cut) 0 2 ∷ []) [] ∷ []) [] (0 ∷ [])

-- `p :- ( ( true ; true ) -> nl ; true ).`
abbrev pub once : Program
once = program (pred p 0 (clause [] (goal.IfElse (goal.Disj goal.True goal.True) (goal.Builtin builtin.Nl []) goal.True) 0 2 ∷ []) [] ∷ []) [] (0 ∷ [])

-- `:- comp p + fails. :- comp p + fails. p.`
abbrev pub broken_twice : Program
broken_twice = program (pred p 0 (clause [] goal.True 0 4 ∷ []) (0 ∷ 1 ∷ []) ∷ []) (cond 0 0 2 (kind.Comp [] comp.Fails) ∷ cond 1 0 3 (kind.Comp [] comp.Fails) ∷ []) (0 ∷ [])

-- a list cell
abbrev pub cell : Term → Term → Term
cell s t = Node CELL (s ∷ t ∷ [])

-- a list of four
abbrev pub four : Term → Term → Term → Term → Term
four s t u v = cell s (cell t (cell u (cell v (Atom NIL))))

-- `p([A,B,C,D]) :- A is -7 // 2, B is -7 rem 2, C is -7 mod 2, D is 7 mod -2.`
abbrev pub divided : Program
divided = program
    (pred p 1 (clause (four X Y (Var 2) (Var 3) ∷ [])
    (goal.Conj (evaluates X QUOTIENT (negative 6) (number 2))
    (goal.Conj (evaluates Y REMAINDER (negative 6) (number 2))
    (goal.Conj (evaluates (Var 2) MODULO (negative 6) (number 2))
    (evaluates (Var 3) MODULO (number 7) (negative 1))))) 4 4 ∷ []) [] ∷ [])
    [] (0 ∷ [])

-- `p(X) :- ( X = 1 ; X = 2 ; X = 3 ), ( X > 1 -> true ; fail ), !.`
abbrev pub chosen : Program
chosen = program
    (pred p 1 (clause (X ∷ [])
    (goal.Conj (goal.Disj (equal X (number 1)) (goal.Disj (equal X (number 2)) (equal X (number 3))))
    (goal.Conj (goal.IfElse (call builtin.Greater X (number 1)) goal.True goal.Fail) goal.Cut)) 1 2 ∷ []) [] ∷ [])
    [] (0 ∷ [])

-- `p(X) :- \+ \+ X = a.`
abbrev pub negated_twice : Program
negated_twice = program (pred p 1 (clause (X ∷ []) (goal.Not (goal.Not (equal X a))) 1 2 ∷ []) [] ∷ []) [] (0 ∷ [])

-- what ends a line
abbrev pub line_ends : Goal
line_ends = goal.Builtin builtin.Nl []

-- the atoms `one` and `two`: the first names behind the fixed ones
abbrev pub first_word : Term
first_word = Atom 75

abbrev pub second_word : Term
second_word = Atom 76

-- `:- success p(X) => int(X). p(1) :- write(one), nl. p(a) :- write(two), nl.`
abbrev pub written : Program
written = record (program
    (pred p 1
    (clause (number 1 ∷ []) (goal.Conj (goal.Builtin builtin.Write (first_word ∷ [])) line_ends) 0 3 ∷
    clause (a ∷ []) (goal.Conj (goal.Builtin builtin.Write (second_word ∷ [])) line_ends) 0 4 ∷ []) (0 ∷ []) ∷ [])
    (cond 0 0 2 (kind.Success [] (prop.Belongs 0 1 ∷ [])) ∷ []) (0 ∷ [])) { names = fixed_names ++ (codes "one" ∷ codes "two" ∷ []) }

-- two clauses of `p` without arguments
abbrev pub two_clauses : Goal → Goal → Program
two_clauses first second = program (pred p 0 (clause [] first 0 2 ∷ clause [] second 0 3 ∷ []) [] ∷ []) [] (0 ∷ [])

-- `p :- \+ true. p :- \+ fail, nl.`
abbrev pub negated_in_turn : Program
negated_in_turn = two_clauses (goal.Not goal.True) (goal.Conj (goal.Not goal.Fail) line_ends)

-- `p :- ( fail -> true ; nl ). p :- fail.`
abbrev pub otherwise : Program
otherwise = two_clauses (goal.IfElse goal.Fail goal.True line_ends) goal.Fail

-- `p :- ( ! -> true ; fail ). p :- nl.`
abbrev pub cut_in_condition : Program
cut_in_condition = two_clauses (goal.IfElse goal.Cut goal.True goal.Fail) line_ends

-- `p :- \+ ( !, fail ). p :- nl.`
abbrev pub cut_in_negation : Program
cut_in_negation = two_clauses (goal.Not (goal.Conj goal.Cut goal.Fail)) line_ends

-- `p :- ( true -> ! ; true ). p :- nl.`
abbrev pub cut_in_branch : Program
cut_in_branch = two_clauses (goal.IfElse goal.True goal.Cut goal.True) line_ends

-- `p :- X \= f(X).`
abbrev pub not_cyclic : Program
not_cyclic = program (pred p 0 (clause [] (call builtin.NotUnify X (f X)) 1 2 ∷ []) [] ∷ []) [] (0 ∷ [])

-- a run of `divided` with some results found: this goal is left
abbrev pub divided_at : Goal → Term → Term → Term → State
divided_at left s t u = record {
  calls = 1;
  fresh = 5;
  choices = [];
  current = Doing (record { items = Does left 0 (at 4) ∷ Exits 0 (four s t u (Var 4) ∷ []) [] None ∷ []; query = Node p (four s t u (Var 4) ∷ []) });
}

-- the first division is made
abbrev pub one_divided : State
one_divided = divided_at
    (goal.Conj (evaluates (Var 2) REMAINDER (negative 6) (number 2))
    (goal.Conj (evaluates (Var 3) MODULO (negative 6) (number 2))
    (evaluates (Var 4) MODULO (number 7) (negative 1)))) (negative 2) (Var 2) (Var 3)

-- three are
abbrev pub three_divided : State
three_divided = divided_at (evaluates (Var 4) MODULO (number 7) (negative 1)) (negative 2) (negative 0) (number 1)

-- a run of `chosen` with these items left
abbrev pub chosen_at : List Item → State
chosen_at items = record {
  calls = 1;
  fresh = 2;
  choices = [];
  current = Doing (record { items = items; query = Node p (Y ∷ []) });
}

-- the last part of the body of `chosen`
abbrev pub greater_one : Goal
greater_one = goal.Conj (goal.IfElse (call builtin.Greater Y (number 1)) goal.True goal.Fail) goal.Cut

-- its clause is entered
abbrev pub entered_choice : State
entered_choice = chosen_at (Does (goal.Conj (goal.Disj (equal Y (number 1)) (goal.Disj (equal Y (number 2)) (equal Y (number 3)))) greater_one) 0 (at 2) ∷ Exits 0 (Y ∷ []) [] None ∷ [])

-- the first branch has failed
abbrev pub second_choice : State
second_choice = chosen_at (Does (goal.Disj (equal Y (number 2)) (equal Y (number 3))) 0 (at 2) ∷ Does greater_one 0 (at 2) ∷ Exits 0 (Y ∷ []) [] None ∷ [])

-- its clause is entered
abbrev pub entered_divisions : State
entered_divisions = divided_at
    (goal.Conj (evaluates Y QUOTIENT (negative 6) (number 2))
    (goal.Conj (evaluates (Var 2) REMAINDER (negative 6) (number 2))
    (goal.Conj (evaluates (Var 3) MODULO (negative 6) (number 2))
    (evaluates (Var 4) MODULO (number 7) (negative 1))))) Y (Var 2) (Var 3)
