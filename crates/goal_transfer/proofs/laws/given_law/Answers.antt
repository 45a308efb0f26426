use Rattle.std.proofs.Common.{refl}
use Rattle.name_order.specs.Relations.{order}
use Rattle.goal_transfer.proofs.Given.{goal_gives, many_names, ten_names}
use Rattle.goal_transfer.proofs.ClausesGiven.{clauses_give}
use Rattle.goal_transfer.proofs.laws.given_law.Goals as goal

pub returns-clause-goals : goal.returns-clause-goals
returns-clause-goals c =
    λ program is exits given g vars e vs a.
    goal_gives (order program.grammar) (c.given_law.ensures program.grammar is) (many_names program.grammar is) program refl (ten_names program.grammar is) vars exits given g e vs a

pub returns-clause-clauses : goal.returns-clause-clauses
returns-clause-clauses c = λ program range. clauses_give program range c.program_ranges_law.ensures (c.given_law.ensures program.grammar range.grammar)
