-- Conjunctions, taken apart by a loop.
use Rattle.std.proofs.Common.{◌≡◌, ℕ, ◌==◌, Bool, true, false, List, [], ◌∷◌, ◌++◌, map, refl, ap, sym, ◌∙◌}
use Rattle.std.specs.Prelude.{cond, Option, Some, None, Err, option_map}
use Rattle.std.proofs.lemmas.Option.{none-some}
use Rattle.term_core.specs.declared.fixed.TheConstants.{COMMA, ARROW}
use Rattle.term_core.specs.declared.terms.Term.{Term, Node, out-Term, roll-Term, roll-out-Term}
use Rattle.term_core.specs.declared.terms.Term.TheOpen as layer
use Rattle.term_core.specs.declared.terms.Term.TheVariants.{rolls-Var, rolls-Int, rolls-Atom, rolls-Node}
use Rattle.term_core.specs.Shapes.{pair_of}
use Rattle.prog_data.specs.declared.goals.Goal.{Goal}
use Rattle.prog_data.specs.declared.goals.Goal as goal
use Rattle.prog_data.specs.declared.grammars.Grammar.{Grammar}
use Rattle.body_code.specs.declared.faults.BodyFault.{BodyFault}
use Rattle.body_code.specs.declared.faults.BodyFault.TheVariants.{UnknownProperty, BadClause, Ambiguous, Undefined, TooManyNames, NoMemory}
use Rattle.body_code.specs.declared.faults.Problem.{Problem}
use Rattle.body_code.specs.declared.scopes.Visible.{Visible}
use Rattle.body_code.specs.Making.{Making, made, followed, ◌>>=◌, Makes}
use Rattle.body_code.specs.Problems.{sooner}
use Rattle.body_code.specs.Bodies.{joined, branches_of, body_of}
use Rattle.body_code.specs.Conjunctions.{conjoined, conjoined_before}
use Rattle.body_code.proofs.SoonerLaws.{sooner_none, sooner_assoc}
use Rattle.body_code.proofs.Themselves.{at_variable, at_number, at_atom, compound_is}

-- one goal more at the end of those before the last
pub conjoined_more : (gs : List Goal) (g last : Goal) → conjoined (gs ++ g ∷ []) last ≡ conjoined gs (goal.Conj g last)
conjoined_more [] g last = refl
conjoined_more (x ∷ gs) g last = ap (goal.Conj x) (conjoined_more gs g last)

-- what is refused as a part is refused as a whole, where there is no room for the part
pub refuses : {A B : Type 0} (fault : BodyFault) (g k : Grammar) (part : Option (A × Grammar)) (whole : Option (B × Grammar)) → (part ≡ None → whole ≡ None) → Makes {A = A} (Err fault) g part → Makes {A = B} (Err fault) k whole
refuses (UnknownProperty line) g k part whole leads h = h
refuses (BadClause line) g k part whole leads h = h
refuses (Ambiguous line) g k part whole leads h = h
refuses (Undefined line) g k part whole leads h = h
refuses TooManyNames g k part whole leads h = leads h
refuses NoMemory g k part whole leads h = tt

module _ (visible : Visible) where
  -- the problem of a conjunction
  pub conjunction_problem : (t a b : Term) → t ≡ Node COMMA (a ∷ b ∷ []) → (body_of visible t).problem ≡ sooner (body_of visible a).problem (body_of visible b).problem
  conjunction_problem t a b e =
      ap (λ body. body.problem) (compound_is visible t COMMA (a ∷ b ∷ []) e) ∙ ap (sooner (body_of visible a).problem) (sooner_none (body_of visible b).problem)

  -- the turn of the loop that looks for problems
  pub problem_turn : (t a b : Term) (first next whole : Option Problem) → t ≡ Node COMMA (a ∷ b ∷ []) → next ≡ sooner first (body_of visible a).problem → sooner first (body_of visible t).problem ≡ whole
      → sooner next (body_of visible b).problem ≡ whole
  problem_turn t a b first next whole e is h =
      ap (λ p. sooner p (body_of visible b).problem) is
      ∙ sooner_assoc first (body_of visible a).problem (body_of visible b).problem
      ∙ ap (sooner first) (sym (conjunction_problem t a b e))
      ∙ h

  -- the goal of a conjunction
  pub conjunction_makes : (t a b : Term) → t ≡ Node COMMA (a ∷ b ∷ []) → (body_of visible t).makes ≡ joined goal.Conj (body_of visible a).makes (body_of visible b).makes
  conjunction_makes t a b e = ap (λ body. body.makes) (compound_is visible t COMMA (a ∷ b ∷ []) e)

  -- the turn of the loop that makes goals
  pub goal_turn : (t a b : Term) (gs more : List Goal) (g k : Grammar) (x : Goal) (whole : Option (Goal × Grammar)) → t ≡ Node COMMA (a ∷ b ∷ []) → (body_of visible a).makes g ≡ Some (x, k) → more ≡ gs ++ x ∷ []
      → option_map (conjoined_before gs) ((body_of visible t).makes g) ≡ whole → option_map (conjoined_before more) ((body_of visible b).makes k) ≡ whole
  goal_turn t a b gs more g k x whole e first pushed h =
      ap (λ goals. option_map (conjoined_before goals) ((body_of visible b).makes k)) pushed
      ∙ behind ((body_of visible b).makes k)
      ∙ ap (λ o. option_map (conjoined_before gs) (followed {A = Goal × Goal} (λ both. made (goal.Conj both.0 both.1)) (followed {A = Goal} (λ left. (body_of visible b).makes >>= (λ right. made (left, right))) o))) (sym first)
      ∙ ap (λ m. option_map (conjoined_before gs) (m g)) (sym (conjunction_makes t a b e))
      ∙ h
    where
      behind : (o : Option (Goal × Grammar)) → option_map (conjoined_before (gs ++ x ∷ [])) o ≡ option_map (conjoined_before gs) (followed {A = Goal × Goal} (λ both. made (goal.Conj both.0 both.1)) (followed {A = Goal} (λ right. made (x, right)) o))
      behind None = refl
      behind (Some y) = ap (λ last. Some (last, y.1)) (conjoined_more gs x y.0)

  -- where there is no room for the first part, there is none for the whole
  pub goal_stops : (t a b : Term) (gs : List Goal) (g : Grammar) (whole : Option (Goal × Grammar)) → t ≡ Node COMMA (a ∷ b ∷ []) → option_map (conjoined_before gs) ((body_of visible t).makes g) ≡ whole → (body_of visible a).makes g ≡ None → whole ≡ None
  goal_stops t a b gs g whole e h none =
      sym h
      ∙ ap (λ m. option_map (conjoined_before gs) (m g)) (conjunction_makes t a b e)
      ∙ ap (λ o. option_map (conjoined_before gs) (followed {A = Goal × Goal} (λ both. made (goal.Conj both.0 both.1)) (followed {A = Goal} (λ left. (body_of visible b).makes >>= (λ right. made (left, right))) o))) none

  -- the last part
  pub last_stops : (gs : List Goal) (o whole : Option (Goal × Grammar)) → option_map (conjoined_before gs) o ≡ whole → o ≡ None → whole ≡ None
  last_stops gs o whole h none = sym h ∙ ap (option_map (conjoined_before gs)) none

  pub last_makes : (gs : List Goal) (o whole : Option (Goal × Grammar)) (x y : Goal) (g : Grammar) → option_map (conjoined_before gs) o ≡ whole → o ≡ Some (x, g) → y ≡ conjoined gs x → whole ≡ Some (y, g)
  last_makes gs o whole x y g h some is = sym h ∙ ap (option_map (conjoined_before gs)) some ∙ ap (λ z. Some (z, g)) (sym is)

  -- the branches of `C -> A`, and of what is none
  pub arrow_branches : (t c a : Term) → t ≡ Node ARROW (c ∷ a ∷ []) → (body_of visible t).branches ≡ Some ((body_of visible c).makes, (body_of visible a).makes)
  arrow_branches t c a e = ap (λ body. body.branches) (compound_is visible t ARROW (c ∷ a ∷ []) e)

  pub no_branches : (t : Term) → pair_of ARROW (out-Term t) ≡ None → (body_of visible t).branches ≡ None
  no_branches t none = by (out-Term t) (roll-out-Term t) none
    where
      at_node : (f : ℕ) (ts : List Term) → pair_of ARROW (layer.Node f ts) ≡ None → branches_of f (map (body_of visible) ts) ≡ None
      at_node f [] n = refl
      at_node f (a ∷ []) n = refl
      at_node f (a ∷ b ∷ []) n = test (f == ARROW) n
        where
          test : (s : Bool) → ◌≡◌ {A = Option (Term × Term)} (cond s (Some (a, b)) None) None → ◌≡◌ {A = Option (Making Goal × Making Goal)} (cond s (Some ((body_of visible a).makes, (body_of visible b).makes)) None) None
          test true m = absurd (none-some _ (sym m))
          test false m = refl
      at_node f (a ∷ b ∷ c ∷ rest) n = refl

      by : (x : layer.Term-F Term) → roll-Term x ≡ t → pair_of ARROW x ≡ None → (body_of visible t).branches ≡ None
      by (layer.Var v) r n = ap (λ u. (body_of visible u).branches) (sym r ∙ rolls-Var v) ∙ ap (λ body. body.branches) (at_variable visible v)
      by (layer.Int i) r n = ap (λ u. (body_of visible u).branches) (sym r ∙ rolls-Int i) ∙ ap (λ body. body.branches) (at_number visible i)
      by (layer.Atom a) r n = ap (λ u. (body_of visible u).branches) (sym r ∙ rolls-Atom a) ∙ ap (λ body. body.branches) (at_atom visible a)
      by (layer.Node f ts) r n = ap (λ body. body.branches) (compound_is visible t f ts (sym r ∙ rolls-Node f ts)) ∙ at_node f ts n
