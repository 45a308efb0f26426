use Rattle.std.proofs.Common.{◌≡◌, [], ◌++◌, length}
use Rattle.ciao_reader.specs.Roles.{spellings, roles, roles_from}
use Rattle.ciao_reader.proofs.scan.roles.Given as goal

abbrev pub invariant-loop-token : goal.invariant-loop-token
invariant-loop-token l = (l.words ++ roles_from l.fn.names l.fn.ops l.due l.seen.items l.left ≡ roles l.fn.names l.fn.ops l.fn.tokens) × (spellings l.fn.names l.seen.items l.left ≡ spellings l.fn.names [] l.fn.tokens)

abbrev pub decreases-loop-token : goal.decreases-loop-token
decreases-loop-token l = length l.left
