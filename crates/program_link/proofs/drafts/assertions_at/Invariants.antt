use Rattle.std.proofs.Common.{◌≡◌, ◌++◌, drop}
use Rattle.program_link.specs.HeldPrograms.{items_at}
use Rattle.program_link.proofs.drafts.assertions_at.Given as goal

abbrev pub invariant-loop-place : goal.invariant-loop-place
invariant-loop-place l = l.list ++ items_at l.assertions (drop l.place-index l.places) ≡ items_at l.assertions l.places
