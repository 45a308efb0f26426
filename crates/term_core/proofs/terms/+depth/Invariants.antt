use Rattle.std.proofs.Common.{◌≡◌, drop, min, max, map}
use Rattle.term_core.specs.Terms.{greatest, depth_of}
use Rattle.term_core.proofs.terms.+depth.Given as goal

abbrev pub invariant-loop-part : goal.invariant-loop-part
invariant-loop-part l = min (max l.deepest (greatest (map depth_of (drop l.part-index l.part-items)))) 18446744073709551615 ≡ min (greatest (map depth_of l.part-items)) 18446744073709551615
