-- Unification: steps on a list of equations, the first of which is solved next.
use Rattle.std.specs.Prelude.{◌≡◌, ℕ, zero, suc, ◌==◌, ◌&&◌, ◌||◌, Bool, List, [], ◌∷◌, ◌++◌, map, length, if◌then◌else◌}
use Rattle.std.specs.List.{list_any}
use Rattle.std.specs.Ordering.{int_eq}
use Rattle.term_core.specs.declared.terms.Term.{Term, out-Term}
use Rattle.term_core.specs.declared.terms.Term as term
use Rattle.term_core.specs.declared.terms.Term.TheOpen.{Term-F, Var, Int, Atom, Node}
use Rattle.term_core.specs.declared.equations.Equation.{Equation}
use Rattle.term_core.specs.declared.equations.Binding.{Binding}
use Rattle.term_core.specs.declared.equations.Outcome.{Outcome}
use Rattle.term_core.specs.declared.equations.Outcome.TheVariants.{Solved, Clash, Cyclic}
use Rattle.term_core.specs.Terms.{instance, only, replace, occurs}

-- the equations of the parts, in order
abbrev pub pairs : List Term → List Term → List Equation
pairs [] us = []
pairs (t ∷ ts) [] = []
pairs (t ∷ ts) (u ∷ us) = record { left = t; right = u } ∷ pairs ts us

-- what becomes of one equation: equations in its place, a binding, or an end
pub data Move : Type 0 where
  Becomes : List Equation → Move
  Binds : ℕ → Term → Move
  Clashes : Move
  Cycles : Move

-- a variable and a compound
abbrev pub meets_compound : ℕ → Term → Move
meets_compound v t = if occurs v t then Cycles else Binds v t

-- by the two sides and what they are
abbrev pub move_at : Term → Term → Term-F Term → Term-F Term → Move
move_at l r (Var v) (Var w) = if v == w then Becomes [] else Binds v r
move_at l r (Var v) (Int n) = Binds v r
move_at l r (Var v) (Atom b) = Binds v r
move_at l r (Var v) (Node g us) = meets_compound v r
move_at l r (Int m) (Var w) = Binds w l
move_at l r (Int m) (Int n) = if int_eq m n then Becomes [] else Clashes
move_at l r (Int m) (Atom b) = Clashes
move_at l r (Int m) (Node g us) = Clashes
move_at l r (Atom a) (Var w) = Binds w l
move_at l r (Atom a) (Int n) = Clashes
move_at l r (Atom a) (Atom b) = if a == b then Becomes [] else Clashes
move_at l r (Atom a) (Node g us) = Clashes
move_at l r (Node f ts) (Var w) = meets_compound w l
move_at l r (Node f ts) (Int n) = Clashes
move_at l r (Node f ts) (Atom b) = Clashes
move_at l r (Node f ts) (Node g us) = if (f == g) && (length ts == length us) then Becomes (pairs ts us) else Clashes

-- what becomes of an equation
abbrev pub move : Equation → Move
move e = move_at e.left e.right (out-Term e.left) (out-Term e.right)

-- t for v in each equation
abbrev pub replace_all : ℕ → Term → List Equation → List Equation
replace_all v t = map (λ e. record { left = replace v t e.left; right = replace v t e.right })

-- these equations are left after these bindings, or it has ended
pub data Stage : Type 0 where
  Open : List Equation → List Binding → Stage
  Ended : Outcome → Stage

-- the stage after a move on the first equation
abbrev pub after : Move → List Equation → List Binding → Stage
after (Becomes es) rest bs = Open (es ++ rest) bs
after (Binds v t) rest bs = Open (replace_all v t rest) (bs ++ record { variable = v; value = t } ∷ [])
after Clashes rest bs = Ended Clash
after Cycles rest bs = Ended Cyclic

-- one step
abbrev pub solve : Stage → Stage
solve (Ended o) = Ended o
solve (Open [] bs) = Ended (Solved bs)
solve (Open (e ∷ rest) bs) = after (move e) rest bs

-- some number of steps
abbrev pub solves : ℕ → Stage → Stage
solves zero s = s
solves (suc k) s = solves k (solve s)

-- after some number of steps the equations have ended so
abbrev pub Unified : List Equation → Outcome → Type 0
Unified es o = (k : ℕ) × (solves k (Open es []) ≡ Ended o)

-- the value of each variable under the bindings
abbrev pub values : List Binding → ℕ → Term
values [] v = term.Var v
values (b ∷ bs) v = instance (values bs) (only b.variable b.value v)

-- the term under the bindings
abbrev pub resolve : List Binding → Term → Term
resolve bs = instance (values bs)

-- whether a variable stands in an equation
abbrev pub occurs_at : ℕ → Equation → Bool
occurs_at k e = occurs k e.left || occurs k e.right

-- whether a variable stands in one of the equations
abbrev pub occurs_in : ℕ → List Equation → Bool
occurs_in k es = list_any (occurs_at k) es
