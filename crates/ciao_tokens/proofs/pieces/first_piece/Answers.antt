use Rattle.std.proofs.Common.{sym, ◌∙◌}
use Rattle.ciao_tokens.proofs.OneByteLaws.{other_stuck}
use Rattle.ciao_tokens.proofs.pieces.first_piece.Goals as goal

pub returns-in-Other : goal.returns-in-Other
returns-in-Other c = other_stuck c.args.first _ c.requires (sym c.class_of.ensures ∙ c.in-Other.is)
