use Rattle.term_core.proofs.KindLaws.{same_kind}
use Rattle.term_core.proofs.laws.unified_variants_law.Goals as goal

pub returns : goal.returns
returns c = same_kind
