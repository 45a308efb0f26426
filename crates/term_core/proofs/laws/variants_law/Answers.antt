use Rattle.term_core.proofs.NameLaws.{numbered_same}
use Rattle.term_core.proofs.VariantLaws.{general_variants}
use Rattle.term_core.proofs.laws.variants_law.Goals as goal

pub returns-clause-solved : goal.returns-clause-solved
returns-clause-solved c = general_variants

pub returns-clause-numbered : goal.returns-clause-numbered
returns-clause-numbered c = numbered_same
