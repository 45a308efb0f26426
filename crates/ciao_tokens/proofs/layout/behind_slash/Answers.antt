use Rattle.ciao_tokens.proofs.CommentLaws.{slash_boundary}
use Rattle.ciao_tokens.proofs.layout.behind_slash.Goals as goal

pub split_at-requires : goal.split_at-requires
split_at-requires c = slash_boundary _ _ c.utf8.text c.requires
