-- What is relied on of values and of transfer.
-- The headline does not rest on this file.
use Rattle.prog_data.specs.declared.programs.Program.{Program}
use Rattle.name_order.specs.Relations.{order}
use Rattle.type_domain.specs.Laws.{GiveValues, AreOrdered}
use Rattle.goal_transfer.specs.Laws.{ClausesMonotone, ClausesGive}

-- the laws of the crates below that the analysis takes from them
pub record ReliedOn (program : Program) : Type 0 where
  pub ordered : AreOrdered (order program.grammar)
  pub values : GiveValues (order program.grammar)
  pub monotone : ClausesMonotone program
  pub clauses : ClausesGive program
