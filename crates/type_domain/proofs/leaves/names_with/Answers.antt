use Rattle.std.proofs.Common.{◌≡◌, length, map, ap, arith}
use Rattle.std.specs.List.{list_any}
use Rattle.prog_data.specs.Values.{seen}
use Rattle.name_order.specs.Relations.{order}
use Rattle.type_domain.specs.Wanted.{has_wanted}
use Rattle.name_order.proofs.Gathering.{gathered_none, gathered_more, gathered_all}
use Rattle.type_domain.proofs.LeafLists.{leaf_named}
use Rattle.type_domain.proofs.leaves.names_with.Goals as goal

pub loop-name-init : goal.loop-name-init
loop-name-init c = gathered_none (λ n. list_any (has_wanted c.args.wanted (map seen c.args.parts.now)) ((order c.args.rel.now).leaves n))

pub loop-name-preserved : goal.loop-name-preserved
loop-name-preserved c = gathered_more (λ n. list_any (has_wanted c.args.wanted (map seen c.args.parts.now)) ((order c.args.rel.now).leaves n)) c.loop-name.name c.name_has.result c.loop-name.names c.put_where.new.words c.loop-name.invariant c.name_has.ensures c.put_where.ensures

pub returns : goal.returns
returns c =
    gathered_all (λ n. list_any (has_wanted c.args.wanted (map seen c.args.parts.now)) ((order c.args.rel.now).leaves n)) c.loop-name.name c.loop-name.names c.loop-name.invariant
    (λ n e. let lt = leaf_named c.args.rel.now (has_wanted c.args.wanted (map seen c.args.parts.now)) n e in let same : length c.args.rel.now.rules ≡ length c.args.grammar.now.rules = ap (λ g. length g.rules) c.requires in omega (arith, lt, same, c.loop-name-test.false))
