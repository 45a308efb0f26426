use Rattle.prop_check.proofs.InRange.{fits_in_range}
use Rattle.prop_check.proofs.membership_at.grammar_fits.Goals as goal

pub returns : goal.returns
returns c = fits_in_range c.args.grammar.now c.requires
