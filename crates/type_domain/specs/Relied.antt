-- What is relied on of the names of a grammar: public laws of prog_data and name_order.
-- The headline does not rest on this file.
use Rattle.std.specs.Prelude.{◌≡◌, ◌↔◌, ℕ, true}
use Rattle.term_core.specs.declared.terms.Term.{Term}
use Rattle.prog_data.specs.Membership.{belongs, Belongs}
use Rattle.prog_data.specs.declared.grammars.Grammar.{Grammar}
use Rattle.name_order.specs.Relations.{HasMember, has_member, order, IsOrder, HasGnd, HasTerm}
use Rattle.name_order.specs.Laws.{BelowKeepsTerms, SharedMeet, MembersBelong, BelowTransitive}

-- the laws, of one grammar
pub record Relied (g : Grammar) : Type 0 where
  pub belongs : (t : Term) (n : ℕ) → (belongs g t n ≡ true) ↔ Belongs g t n
  pub is_order : IsOrder g (order g)
  pub member : (n : ℕ) → (has_member g n ≡ true) ↔ HasMember g n
  pub transitive : BelowTransitive g
  pub keeps_terms : BelowKeepsTerms g
  pub shared_meet : SharedMeet g
  pub members_belong : MembersBelong g
  pub term : HasTerm g
  pub gnd : HasGnd g
