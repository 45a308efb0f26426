use Rattle.ciao_tokens.proofs.CommentLaws.{line_first}
use Rattle.ciao_tokens.proofs.layout.line_comment.Goals as goal

pub returns-clause-finds : goal.returns-clause-finds
returns-clause-finds c = line_first _ _ c.requires c.behind_line.ensures
