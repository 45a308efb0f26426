use Rattle.type_domain.specs.Values.{term_name}
use Rattle.discharger.proofs.ClosedTables.{has_term, any_closed}
use Rattle.discharger.proofs.laws.closed_table_law.Goals as goal

pub returns : goal.returns
returns c = λ program is. any_closed program ((c.given_law-2.ensures program.grammar is.grammar).name term_name (has_term program.grammar is.grammar)) (c.given_law.ensures.clauses program is)
