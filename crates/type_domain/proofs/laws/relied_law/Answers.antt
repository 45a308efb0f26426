use Rattle.type_domain.proofs.laws.relied_law.Goals as goal

pub returns : goal.returns
returns c =
    λ g is.
    record {
      belongs = c.membership_law.ensures g;
      is_order = c.order_law.ensures g;
      member = c.member_law.ensures g;
      transitive = c.below_order_law.ensures.transitive g;
      keeps_terms = c.below_belongs_law.ensures.program g is;
      shared_meet = c.belongs_meet_law.ensures.program g is;
      members_belong = c.members_belong_law.ensures g;
      term = c.basic_rules_law.ensures.term g is;
      gnd = c.basic_rules_law.ensures.gnd g is;
    }
