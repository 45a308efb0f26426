use Rattle.std.proofs.Common.{ap}
use Rattle.std.specs.Prelude.{option_copied}
use Rattle.prop_check.proofs.ChainLaws.{goes_on}
use Rattle.prop_check.proofs.chains.is_end.Goals as goal

pub returns-in-Some : goal.returns-in-Some
returns-in-Some c = goes_on _ _ (ap option_copied c.in-Some.is)
