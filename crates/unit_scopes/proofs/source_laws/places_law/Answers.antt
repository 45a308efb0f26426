use Rattle.unit_scopes.proofs.GroupLaws.{places_pick}
use Rattle.unit_scopes.proofs.source_laws.places_law.Goals as goal

pub returns : goal.returns
returns c = places_pick
