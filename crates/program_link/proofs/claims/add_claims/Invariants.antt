use Rattle.std.proofs.Common.{◌≡◌, ◌++◌, drop}
use Rattle.program_link.specs.HeldPrograms.{claims_counted, no_counts}
use Rattle.program_link.proofs.claims.add_claims.Given as goal

abbrev pub invariant-loop-assertion : goal.invariant-loop-assertion
invariant-loop-assertion l =
    l.claims ++ claims_counted l.normals l.first l.source.index.defined.keys l.counts (drop l.assertion-index l.assertion-items)
    ≡ l.fn.claims ++ claims_counted l.normals l.first l.source.index.defined.keys (no_counts l.source.index.defined.keys) l.assertion-items
