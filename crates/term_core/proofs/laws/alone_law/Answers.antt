use Rattle.term_core.proofs.AloneLaws.{stays_alone, binds_first}
use Rattle.term_core.proofs.laws.alone_law.Goals as goal

pub returns-clause-stays : goal.returns-clause-stays
returns-clause-stays c = stays_alone

pub returns-clause-binds : goal.returns-clause-binds
returns-clause-binds c = binds_first
