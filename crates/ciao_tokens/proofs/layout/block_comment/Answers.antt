use Rattle.std.proofs.Common.{sym, ◌∙◌}
use Rattle.ciao_tokens.proofs.CommentLaws.{block_found, block_open}
use Rattle.ciao_tokens.proofs.layout.block_comment.Goals as goal

pub returns-in-None : goal.returns-in-None
returns-in-None c = block_open _ _ c.requires c.split.ensures.behind (sym c.comment_size.ensures ∙ c.in-None.is)

pub returns-in-Some : goal.returns-in-Some
returns-in-Some c = (block_found _ _ _ _ c.requires c.split.ensures.behind (sym c.comment_size.ensures ∙ c.in-Some.is) c.behind_slash.ensures, c.behind_slash.utf8)
