use Rattle.std.proofs.Common.{refl, [], ◌∷◌}
use Rattle.prog_data.specs.declared.conditions.Prop.TheVariants.{IsGround}
use Rattle.name_order.specs.Relations.{order}
use Rattle.discharger.proofs.laws.relied_law.Goals as goal

pub returns : goal.returns
returns c =
    λ g is.
    record {
      grammar = is;
      unify = c.unification_law.ensures;
      belongs = c.membership_law.ensures g;
      persists = c.persistence_law.ensures g;
      values_persist = c.value_persistence_law.ensures g;
      ground_persists = λ value t e. (c.property_persistence_law.ensures g (IsGround 0)).1 refl value (t ∷ []) e;
      evaluated = c.arithmetic_value_law.ensures;
      gnd = c.basic_rules_law.ensures.gnd g is;
      is_order = c.order_law.ensures g;
      shared_meet = c.belongs_meet_law.ensures.program g is;
      keeps = c.terms_law.ensures g is;
      ordered = c.order_law-2.ensures (order g);
      lower_values = c.monotone_law.ensures.values (order g);
      lower_goals = c.monotone_law.ensures.goals (order g);
      exits_nothing = c.exit_law.ensures (order g);
    }
