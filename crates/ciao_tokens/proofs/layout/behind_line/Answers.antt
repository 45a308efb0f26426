use Rattle.ciao_tokens.proofs.CommentLaws.{line_boundary}
use Rattle.ciao_tokens.proofs.layout.behind_line.Goals as goal

pub split_at-requires : goal.split_at-requires
split_at-requires c = line_boundary _ _ c.bytes_of_line.ensures.count c.bytes_of_line.ensures.within
