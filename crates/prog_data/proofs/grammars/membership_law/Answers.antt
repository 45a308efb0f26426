use Rattle.prog_data.proofs.MembershipLaws.{belongs_sound, belongs_complete}
use Rattle.prog_data.proofs.grammars.membership_law.Goals as goal

pub returns : goal.returns
returns c g t n = (belongs_sound g t n, belongs_complete g)
