use Rattle.std.proofs.Common.{◌≡◌, ◌+◌, ◌≤◌, drop}
use Rattle.ciao_tokens.specs.Tokens.{line_feeds}
use Rattle.ciao_tokens.proofs.scanner.line_feeds.Given as goal

abbrev pub invariant-loop-byte : goal.invariant-loop-byte
invariant-loop-byte l = (l.count + line_feeds (drop l.byte-index l.bytes) ≡ line_feeds l.bytes) × (l.count ≤ l.byte-index)
