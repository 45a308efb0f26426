use Rattle.std.proofs.Common.{◌+◌, ◌-◌, ◌≤◌, length}
use denote.Shadow.{shadow}
use denote.Text.{Utf8}
use Rattle.term_core.specs.Lists.{IsPrefix}
use Rattle.ciao_tokens.specs.TokensRead.{stand}
use Rattle.ciao_tokens.proofs.TokenLaws.{HasRead}
use Rattle.ciao_tokens.proofs.scanner.tokens_of.Given as goal

abbrev pub invariant-loop-first : goal.invariant-loop-first
invariant-loop-first l =
    HasRead l.text l.fn.names l.left l.names (stand l.scan (length l.text - length l.left)) × (length l.left ≤ length l.text) × (l.scan.line + length l.left ≤ length l.text + 1) × IsPrefix l.fn.names l.names × shadow (Utf8 l.left)

abbrev pub decreases-loop-first : goal.decreases-loop-first
decreases-loop-first l = length l.left
