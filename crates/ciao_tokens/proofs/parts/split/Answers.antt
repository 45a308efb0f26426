use Rattle.std.proofs.Common.{sym, subst}
use Rattle.std.proofs.lemmas.Str.{IsCharBoundary-from_take, IsUtf8-drop}
use Rattle.std.specs.Prelude.{IsUtf8}
use Rattle.ciao_tokens.proofs.Ascii.{ascii_utf8}
use Rattle.ciao_tokens.proofs.parts.split.Goals as goal

pub split_at-requires : goal.split_at-requires
split_at-requires c = IsCharBoundary-from_take _ _ c.utf8.text c.requires.within (ascii_utf8 _ c.requires.ascii)

pub returns-clause-utf8 : goal.returns-clause-utf8
returns-clause-utf8 c =
    subst IsUtf8 (sym c.split_at.ensures.back)
    (IsUtf8-drop c.args.text.now c.args.count c.utf8.text (IsCharBoundary-from_take _ _ c.utf8.text c.requires.within (ascii_utf8 _ c.requires.ascii)))
