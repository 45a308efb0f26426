use Rattle.unit_scopes.proofs.SourceLaws.{indexes_answer}
use Rattle.unit_scopes.proofs.source_laws.index_law.Goals as goal

pub returns : goal.returns
returns c = indexes_answer
