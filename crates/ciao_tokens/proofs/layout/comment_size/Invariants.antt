use Rattle.std.proofs.Common.{◌≡◌, ◌+◌, length}
use Rattle.std.specs.Prelude.{option_map}
use Rattle.ciao_tokens.specs.Scanning.{comment_size}
use Rattle.ciao_tokens.proofs.layout.comment_size.Given as goal

abbrev pub invariant-loop-first : goal.invariant-loop-first
invariant-loop-first l = (option_map (λ n. l.size + n) (comment_size l.left) ≡ comment_size l.fn.text) × (l.size + length l.left ≡ length l.fn.text)

abbrev pub decreases-loop-first : goal.decreases-loop-first
decreases-loop-first l = length l.left
