use Rattle.std.proofs.Common.{length}
use denote.Shadow.{shadow}
use denote.Text.{Utf8}
use Rattle.ciao_tokens.proofs.Closings.{HasRead}
use Rattle.ciao_tokens.proofs.quoted.read_parts.Given as goal

abbrev pub invariant-loop-part : goal.invariant-loop-part
invariant-loop-part l = HasRead l.fn.quote l.fn.text l.chars l.left × shadow (Utf8 l.left)

abbrev pub decreases-loop-part : goal.decreases-loop-part
decreases-loop-part l = length l.left
