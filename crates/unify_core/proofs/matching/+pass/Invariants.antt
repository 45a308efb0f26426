use Rattle.std.proofs.Common.{◌≡◌, drop, min, max, map}
use Rattle.term_core.specs.Terms.{greatest, above}
use Rattle.unify_core.proofs.matching.+pass.Given as goal

abbrev pub invariant-loop-part : goal.invariant-loop-part
invariant-loop-part l = max l.next (min (greatest (map above (drop l.part-index l.part-items))) 18446744073709551615) ≡ max l.fn.next (min (greatest (map above l.part-items)) 18446744073709551615)
