use Rattle.clause_index.specs.declared.keys.Key.TheVariants.{Free}
use Rattle.clause_index.specs.Lists.{found}
use Rattle.clause_index.proofs.PlaceLaws.{no_key, next_at, last_key}
use Rattle.clause_index.proofs.index.lists_of.Goals as goal

pub loop-key-init : goal.loop-key-init
loop-key-init c = no_key (found c.new-lists.result) c.args.keys.now c.new-lists.ensures

pub loop-key-preserved : goal.loop-key-preserved
loop-key-preserved c = next_at (found c.loop-key.lists) (found c.add.new.self) c.args.keys.now c.loop-key.key-index Free c.loop-key-test.true c.in_ok-add.ensures c.loop-key.invariant

pub returns : goal.returns
returns c = last_key (found c.loop-key.lists) c.args.keys.now c.loop-key.key-index c.loop-key-test.false c.loop-key.invariant
