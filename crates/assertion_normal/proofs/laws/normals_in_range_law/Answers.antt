use Rattle.assertion_normal.proofs.NormalRanges.{normals_in_range}
use Rattle.assertion_normal.proofs.laws.normals_in_range_law.Goals as goal

pub returns : goal.returns
returns c = normals_in_range c.meanings_law.ensures c.listings_in_range_law.ensures
