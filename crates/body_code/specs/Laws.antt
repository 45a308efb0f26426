-- What is true of bodies and of their problems.
-- The headline does not rest on this file.
use Rattle.std.specs.Prelude.{◌≡◌, ◌↔◌, ◌≤◌, ℕ, ℤ, List, [], map, Contains, Option, Some, None, IfSome}
use Rattle.std.specs.List.{AllByRecursion}
use Rattle.term_core.specs.declared.terms.Term.{Term}
use Rattle.term_core.specs.declared.terms.Term as term
use Rattle.body_code.specs.declared.faults.Problem.{Problem}
use Rattle.body_code.specs.declared.scopes.Visible.{Visible}
use Rattle.body_code.specs.Problems.{rank, first_of}
use Rattle.body_code.specs.Bodies.{no_goal, named_body, body_of}

-- a problem is one of several, and none of these comes before it
pub record IsFirst (problems : List (Option Problem)) (p : Problem) : Type 0 where
  pub among : Contains problems (Some p)
  pub first : AllByRecursion (λ q. IfSome q (λ r. rank p ≤ rank r)) problems

-- of several there is no first one exactly where none is there, and where there is one it is so
pub record FirstIsFound : Type 0 where
  pub none : (problems : List (Option Problem)) → (first_of problems ≡ None) ↔ AllByRecursion (λ p. p ≡ None) problems
  pub some : (problems : List (Option Problem)) (p : Problem) → first_of problems ≡ Some p → IsFirst problems p

-- a body is what its outermost makes of its parts as bodies
pub record BodiesAreOfParts : Type 0 where
  pub variables : (visible : Visible) (v : ℕ) → body_of visible (term.Var v) ≡ no_goal (term.Var v)
  pub numbers : (visible : Visible) (n : ℤ) → body_of visible (term.Int n) ≡ no_goal (term.Int n)
  pub atoms : (visible : Visible) (a : ℕ) → body_of visible (term.Atom a) ≡ named_body visible (term.Atom a) a [] []
  pub compounds : (visible : Visible) (f : ℕ) (args : List Term) → body_of visible (term.Node f args) ≡ named_body visible (term.Node f args) f args (map (body_of visible) args)
