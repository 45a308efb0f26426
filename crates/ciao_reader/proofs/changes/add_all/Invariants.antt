use Rattle.std.proofs.Common.{◌≡◌, drop}
use Rattle.ciao_reader.specs.Changes.{added_all}
use Rattle.ciao_reader.proofs.changes.add_all.Given as goal

abbrev pub invariant-loop-name : goal.invariant-loop-name
invariant-loop-name l = added_all l.priority l.kind (drop l.name-index l.names) l.ops ≡ added_all l.priority l.kind l.names l.fn.ops
