-- The grammar behind a body has grown by lists alone.
use Rattle.std.proofs.Common.{◌≡◌, ℕ, Bool, true, false, List, [], ◌∷◌, map, length, refl, sym, subst}
use Rattle.std.specs.Prelude.{cond, ◌==◌, Option, Some, None, option_map}
use Rattle.std.specs.List.{AllByRecursion}
use Rattle.term_core.specs.declared.fixed.TheConstants.{ARROW}
use Rattle.term_core.specs.declared.terms.Term.{Term, Var, Int, Atom, Node}
use Rattle.term_core.proofs.TermFolds.{ind_terms}
use Rattle.ciao_reader.specs.declared.sentences.Sentence.{Sentence}
use Rattle.prog_data.specs.declared.control.Control.{Control}
use Rattle.prog_data.specs.declared.control.Control.TheVariants as control
use Rattle.prog_data.specs.declared.control.Meaning.{Meaning}
use Rattle.prog_data.specs.declared.control.Meaning.TheVariants as meaning
use Rattle.prog_data.specs.declared.goals.Builtin.TheVariants as builtin
use Rattle.prog_data.specs.declared.goals.Goal.{Goal}
use Rattle.prog_data.specs.declared.goals.Goal as goal
use Rattle.prog_data.specs.declared.grammars.Grammar.{Grammar}
use Rattle.prog_data.specs.Control.{meaning_of}
use Rattle.regtype_grammar.specs.declared.meanings.Meaning.{Meaning as TypeMeaning}
use Rattle.regtype_grammar.specs.declared.meanings.Meaning.TheVariants as type
use Rattle.regtype_grammar.specs.Lists.{Listed, list_of}
use Rattle.regtype_grammar.specs.Ranges.{ListingsStayInRange}
use Rattle.regtype_grammar.specs.TypeNames.{AreKindsBelow, MeaningsStayInRange}
use Rattle.body_code.specs.declared.faults.Compiled.{Compiled}
use Rattle.body_code.specs.declared.faults.Indicator.{Indicator}
use Rattle.body_code.specs.declared.scopes.Visible.{Visible}
use Rattle.body_code.specs.Making.{Making, made, followed, ◌>>=◌}
use Rattle.body_code.specs.Scopes.{callee_of}
use Rattle.body_code.specs.Bodies.{Body, element_type, call, name_in, list_name, list_test, lone_goal, in_turn, joined, chosen, either, pair_goal, control_goal, named_goal, branches_of, named_body, no_goal, body_of}
use Rattle.body_code.specs.Clauses.{body_term, indicator_of, body_goal, clause_with, compiled_with, compiled}
use Rattle.body_code.specs.Ranges.{Grows}
use Rattle.body_code.proofs.GrowLaws.{grows_self, grows_then, tested_grows}
use Rattle.body_code.proofs.Themselves.{at_variable, at_number, at_atom, at_compound}

module _ (stay : MeaningsStayInRange) (listings : ListingsStayInRange) (visible : Visible) where
  -- where it is there, the grammar behind it has grown
  abbrev MadeGrows : {A : Type 0} → Grammar → Option (A × Grammar) → Type 0
  MadeGrows g None = Unit {0}
  MadeGrows g (Some x) = Grows visible g x.1

  abbrev Growing : {A : Type 0} → Making A → Type 0
  Growing m = (g : Grammar) → MadeGrows g (m g)

  behind : {A : Type 0} (g mid : Grammar) (o : Option (A × Grammar)) → Grows visible g mid → MadeGrows mid o → MadeGrows g o
  behind g mid None h k = tt
  behind g mid (Some x) h k = grows_then visible g mid x.1 h k

  then_grows : {A B : Type 0} (g : Grammar) (o : Option (A × Grammar)) (f : A → Making B) → MadeGrows g o → ((x : A) → Growing (f x)) → MadeGrows g (followed f o)
  then_grows g None f h more = tt
  then_grows g (Some x) f h more = behind g x.1 (f x.0 x.1) h (more x.0 x.1)

  made_grows : {A : Type 0} (x : A) → Growing (made x)
  made_grows x g = grows_self (λ size. AreKindsBelow size visible.types) g

  turn_grows : (a b : Making Goal) → Growing a → Growing b → Growing (in_turn a b)
  turn_grows a b p q g = then_grows g (a g) (λ left. b >>= (λ right. made (left, right))) (p g) (λ left k. then_grows k (b k) (λ right. made (left, right)) (q k) (λ right. made_grows {A = Goal × Goal} (left, right)))

  joined_grows : (join : Goal → Goal → Goal) (a b : Making Goal) → Growing a → Growing b → Growing (joined join a b)
  joined_grows join a b p q g = then_grows g (in_turn a b g) (λ both. made (join both.0 both.1)) (turn_grows a b p q g) (λ both. made_grows (join both.0 both.1))

  chosen_grows : (c a b : Making Goal) → Growing c → Growing a → Growing b → Growing (chosen c a b)
  chosen_grows c a b o p q g =
      then_grows g (in_turn c a g) (λ both. b >>= (λ fails. made (goal.IfElse both.0 both.1 fails))) (turn_grows c a o p g)
      (λ both k. then_grows k (b k) (λ fails. made (goal.IfElse both.0 both.1 fails)) (q k) (λ fails. made_grows (goal.IfElse both.0 both.1 fails)))

  -- a test by the lists of a type

  list_name_grows : (ts : List Term) (element : ℕ) → type.One element ≡ element_type visible ts → Growing (list_name element)
  list_name_grows ts element is g = by (list_of g element) refl
    where
      by : (o : Option Listed) → list_of g element ≡ o → MadeGrows g (option_map name_in o)
      by None e = tt
      by (Some l) e =
          let listing = listings g element l e in
          tested_grows stay visible ts (type.One element) g l.grammar is (record { begins = listing.begins; range = λ grammar below. (listing.range grammar below).0; named = listing.named })

  test_grows : (ts : List Term) (m : TypeMeaning) → m ≡ element_type visible ts → Growing (list_test m ts)
  test_grows ts (type.One element) is g =
      then_grows g (list_name element g) (λ name. made (goal.Builtin (builtin.Belongs name) ts)) (list_name_grows ts element is g) (λ name. made_grows (goal.Builtin (builtin.Belongs name) ts))
  test_grows ts type.Unknown is g = made_grows goal.Fail g
  test_grows ts type.Several is g = made_grows goal.Fail g

  -- bodies

  abbrev BranchesGrow : Option (Making Goal × Making Goal) → Type 0
  BranchesGrow None = Unit {0}
  BranchesGrow (Some both) = Growing both.0 × Growing both.1

  record BodyGrowing (b : Body) : Type 0 where
    makes : Growing b.makes
    branches : BranchesGrow b.branches

  either_grows : (o : Option (Making Goal × Making Goal)) (a b : Making Goal) → BranchesGrow o → Growing a → Growing b → Growing (either o a b)
  either_grows None a b o p q = joined_grows goal.Disj a b p q
  either_grows (Some both) a b o p q = chosen_grows both.0 both.1 b o.0 o.1 q

  pair_grows : (c : Control) (a b : Body) → BodyGrowing a → BodyGrowing b → Growing (pair_goal c a b)
  pair_grows control.Conjunction a b p q = joined_grows goal.Conj a.makes b.makes p.makes q.makes
  pair_grows control.Disjunction a b p q = either_grows a.branches a.makes b.makes p.branches p.makes q.makes
  pair_grows control.IfThen a b p q = chosen_grows a.makes b.makes (made goal.Fail) p.makes q.makes (made_grows goal.Fail)
  pair_grows control.Negation a b p q = chosen_grows a.makes b.makes (made goal.Fail) p.makes q.makes (made_grows goal.Fail)
  pair_grows control.Cut a b p q = chosen_grows a.makes b.makes (made goal.Fail) p.makes q.makes (made_grows goal.Fail)
  pair_grows control.True a b p q = chosen_grows a.makes b.makes (made goal.Fail) p.makes q.makes (made_grows goal.Fail)
  pair_grows control.Fail a b p q = chosen_grows a.makes b.makes (made goal.Fail) p.makes q.makes (made_grows goal.Fail)

  control_grows : (c : Control) (parts : List Body) → AllByRecursion BodyGrowing parts → Growing (control_goal c parts)
  control_grows c [] h = made_grows (lone_goal c)
  control_grows c (a ∷ []) h = λ g. then_grows g (a.makes g) (λ inner. made (goal.Not inner)) (h.0.makes g) (λ inner. made_grows (goal.Not inner))
  control_grows c (a ∷ b ∷ []) h = pair_grows c a b h.0 h.1.0
  control_grows c (a ∷ b ∷ d ∷ rest) h = made_grows goal.Fail

  named_grows : (m : Option Meaning) (name : ℕ) (ts : List Term) (parts : List Body) → AllByRecursion BodyGrowing parts → Growing (named_goal visible m name ts parts)
  named_grows None name ts parts h = made_grows (call (callee_of visible name (length ts)) ts)
  named_grows (Some (meaning.Control c)) name ts parts h = control_grows c parts h
  named_grows (Some (meaning.Builtin b)) name ts parts h = made_grows (goal.Builtin b ts)
  named_grows (Some meaning.ListTest) name ts parts h = test_grows ts (element_type visible ts) refl

  branches_grow : (name : ℕ) (parts : List Body) → AllByRecursion BodyGrowing parts → BranchesGrow (branches_of name parts)
  branches_grow name [] h = tt
  branches_grow name (a ∷ []) h = tt
  branches_grow name (a ∷ b ∷ []) h = by (name == ARROW)
    where
      by : (t : Bool) → BranchesGrow (cond t (Some (a.makes, b.makes)) None)
      by true = (h.0.makes, h.1.0.makes)
      by false = tt
  branches_grow name (a ∷ b ∷ d ∷ rest) h = tt

  named_body_grows : (itself : Term) (name : ℕ) (ts : List Term) (parts : List Body) → AllByRecursion BodyGrowing parts → BodyGrowing (named_body visible itself name ts parts)
  named_body_grows itself name ts parts h = record { makes = named_grows (meaning_of name (length ts)) name ts parts h; branches = branches_grow name parts h }

  no_goal_grows : (itself : Term) → BodyGrowing (no_goal itself)
  no_goal_grows itself = record { makes = made_grows goal.Fail; branches = tt }

  bodies_grow : (ts : List Term) → AllByRecursion (λ t. BodyGrowing (body_of visible t)) ts → AllByRecursion BodyGrowing (map (body_of visible) ts)
  bodies_grow [] h = tt
  bodies_grow (t ∷ ts) h = (h.0, bodies_grow ts h.1)

  body_grows : (t : Term) → BodyGrowing (body_of visible t)
  body_grows = ind_terms (λ t. BodyGrowing (body_of visible t))
      (λ v. subst BodyGrowing (sym (at_variable visible v)) (no_goal_grows (Var v)))
      (λ n. subst BodyGrowing (sym (at_number visible n)) (no_goal_grows (Int n)))
      (λ a. subst BodyGrowing (sym (at_atom visible a)) (named_body_grows (Atom a) a [] [] tt))
      (λ f ts k. subst BodyGrowing (sym (at_compound visible f ts)) (named_body_grows (Node f ts) f ts (map (body_of visible) ts) (bodies_grow ts k)))

  -- clauses

  goal_grows : (o : Option Term) → Growing (body_goal visible o)
  goal_grows None = made_grows goal.True
  goal_grows (Some body) = (body_grows body).makes

  module _ (file : ℕ) (s : Sentence) where
    clause_grows : (o : Option Indicator) → Growing (compiled_with visible file s o)
    clause_grows None g = tt
    clause_grows (Some i) g = then_grows g (body_goal visible (body_term s.term) g) (λ body. made (clause_with file s i body)) (goal_grows (body_term s.term) g) (λ body. made_grows (clause_with file s i body))

    pub compiled_grows : (old : Grammar) (made_so : Compiled × Grammar) → compiled visible file s old ≡ Some made_so → Grows visible old made_so.1
    compiled_grows old made_so e = subst (MadeGrows old) e (clause_grows (indicator_of s.term) old)
