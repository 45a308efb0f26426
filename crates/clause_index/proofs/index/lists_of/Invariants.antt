use Rattle.std.proofs.Common.{◌≡◌, ◌++◌, length, drop}
use Rattle.clause_index.specs.declared.keys.Key.{Key}
use Rattle.clause_index.specs.declared.keys.Key.TheVariants.{Free}
use Rattle.clause_index.specs.Keys.{agrees}
use Rattle.clause_index.specs.Selected.{selected}
use Rattle.clause_index.specs.Lists.{found}
use Rattle.clause_index.proofs.PlaceLaws.{places_from}
use Rattle.clause_index.proofs.index.lists_of.Given as goal

abbrev pub invariant-loop-key : goal.invariant-loop-key
invariant-loop-key l = (key : Key) → found l.lists key ++ places_from (agrees key) (length (found l.lists Free)) (drop l.key-index l.keys) ≡ selected l.keys key
