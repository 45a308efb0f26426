use Rattle.unit_scopes.proofs.SeenLaws.{types_are_seen}
use Rattle.unit_scopes.proofs.laws.types_seen_law.Goals as goal

pub returns : goal.returns
returns c = types_are_seen
