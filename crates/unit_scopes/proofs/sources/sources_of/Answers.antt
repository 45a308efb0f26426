use Rattle.std.proofs.Common.{map}
use Rattle.std.proofs.lemmas.List.{at_drop_all}
use Rattle.unit_scopes.specs.Sayings.{file_of}
use Rattle.unit_scopes.proofs.SourceLaws.{held_turn, held_end}
use Rattle.unit_scopes.proofs.sources.sources_of.Goals as goal

pub loop-at-preserved : goal.loop-at-preserved
loop-at-preserved c =
    held_turn c.args.units.now _ c.loop-at.at c.loop-at.first c.in_ok-source.next c.index-units-at.result c.loop-at.sources c.push.new.self c.in_ok-source.source
    c.loop-at-test.true c.index-units-at.is c.in_ok-source.ensures.source c.in_ok-source.ensures.next c.in_ok-push.ensures.ok c.loop-at.invariant

pub returns : goal.returns
returns c = held_end _ _ c.loop-at.at c.loop-at.first c.loop-at.sources (at_drop_all (map file_of) c.args.units.now c.loop-at.at c.loop-at-test.false) c.loop-at.invariant
