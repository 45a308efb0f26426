use Rattle.unify_core.proofs.MatchLaws.{head_may}
use Rattle.unify_core.proofs.matching.match_head.Goals as goal

pub match_row-requires : goal.match_row-requires
match_row-requires c = head_may c.args.heap.now.changes c.args.base c.args.first c.args.terms.now c.requires.base c.requires.block c.requires.terms c.requires.new
