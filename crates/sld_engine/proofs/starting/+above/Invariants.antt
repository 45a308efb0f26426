use Rattle.std.proofs.Common.{◌≡◌, drop, max, map}
use Rattle.term_core.specs.Terms.{greatest, above}
use Rattle.sld_engine.proofs.starting.+above.Given as goal

abbrev pub invariant-loop-part : goal.invariant-loop-part
invariant-loop-part l = max l.highest (greatest (map above (drop l.part-index l.part-items))) ≡ greatest (map above l.part-items)
