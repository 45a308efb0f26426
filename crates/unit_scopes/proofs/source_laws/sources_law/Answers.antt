use Rattle.unit_scopes.proofs.SourceLaws.{sources_are}
use Rattle.unit_scopes.proofs.source_laws.sources_law.Goals as goal

pub returns : goal.returns
returns c = sources_are
