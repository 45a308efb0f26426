-- What is relied on: public laws of the crates below.
-- The headline does not rest on this file.
use Rattle.std.specs.Prelude.{◌≡◌, ◌↔◌, ℕ, List, true}
use Rattle.term_core.specs.declared.terms.Term.{Term}
use Rattle.term_core.specs.declared.equations.Equation.{Equation}
use Rattle.term_core.specs.Solutions.{HasOneOutcome}
use Rattle.term_core.specs.Terms.{instance, is_ground}
use Rattle.prog_data.specs.declared.grammars.Grammar.{Grammar}
use Rattle.prog_data.specs.Arithmetic.{ValuesAreGround}
use Rattle.prog_data.specs.GrammarRange.{IsGrammar}
use Rattle.prog_data.specs.Membership.{belongs, Belongs}
use Rattle.prog_data.specs.Laws.{MembershipPersists, ValuesPersist}
use Rattle.name_order.specs.Relations.{order, IsOrder, HasGnd}
use Rattle.name_order.specs.Laws.{SharedMeet}
use Rattle.type_domain.specs.Laws.{KeepTerms, AreOrdered}
use Rattle.goal_transfer.specs.Laws.{ValuesMonotone, GoalsMonotone, ExitsChangeNothing}

-- the laws, of one grammar
pub record ReliedOn (g : Grammar) : Type 0 where
  pub grammar : IsGrammar g
  pub unify : (es : List Equation) → HasOneOutcome es
  pub belongs : (t : Term) (n : ℕ) → (belongs g t n ≡ true) ↔ Belongs g t n
  pub persists : MembershipPersists g
  pub values_persist : ValuesPersist g
  pub ground_persists : (value : ℕ → Term) (t : Term) → is_ground t ≡ true → is_ground (instance value t) ≡ true
  pub evaluated : ValuesAreGround
  pub gnd : HasGnd g
  pub is_order : IsOrder g (order g)
  pub shared_meet : SharedMeet g
  pub keeps : KeepTerms g
  pub ordered : AreOrdered (order g)
  pub lower_values : ValuesMonotone (order g)
  pub lower_goals : GoalsMonotone (order g)
  pub exits_nothing : ExitsChangeNothing (order g)
