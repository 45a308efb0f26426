use Rattle.std.proofs.Common.{◌≡◌, ◌++◌, length}
use Rattle.std.specs.Prelude.{string_bytes, flat_map}
use denote.Text.{Utf8}
use denote.Shadow.{shadow}
use Rattle.term_core.specs.Printing.{escaped}
use Rattle.term_core.proofs.quoting.push_quoted.Given as goal

abbrev pub invariant-loop-first : goal.invariant-loop-first
invariant-loop-first l = shadow (Utf8 l.left) × (string_bytes l.out ++ flat_map escaped l.left ≡ string_bytes l.initial.out ++ flat_map escaped l.text)

abbrev pub decreases-loop-first : goal.decreases-loop-first
decreases-loop-first l = length l.left
