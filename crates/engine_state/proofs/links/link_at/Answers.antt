use Rattle.std.proofs.Common.{◌≡◌, ◌<◌, ◌-◌, [], length, sym, subst, arith}
use Rattle.engine_state.specs.Engines.{chain}
use Rattle.engine_state.specs.Views.{as_links}
use Rattle.engine_state.proofs.LinkLaws.{chain_none, chain_past, length_links, looked_at}
use Rattle.engine_state.proofs.LetGoLaws.{link_placed}
use Rattle.engine_state.proofs.links.link_at.Goals as goal

pub returns-then-number-eq0-clause-tasks : goal.returns-then-number-eq0-clause-tasks
returns-then-number-eq0-clause-tasks c = λ notes. subst (λ k. chain (as_links notes c.args.links.now) k ≡ []) (sym c.if-number-eq0.true) (chain_none (as_links notes c.args.links.now))

pub returns-then-number-links-clause-tasks : goal.returns-then-number-links-clause-tasks
returns-then-number-links-clause-tasks c = λ notes. chain_past (as_links notes c.args.links.now) c.args.number (omega (arith, length_links notes c.args.links.now, c.if-number-links.true))

pub returns-clause-tasks : goal.returns-clause-tasks
returns-clause-tasks c =
    let some : c.args.number - 1 < length c.args.links.now = omega (arith, c.if-number-eq0.false, c.if-number-links.false) in
    λ notes. looked_at notes c.args.links.now (c.args.number - 1) c.args.number c.index-links-number.result c.index-links-number.result c.requires some (omega (arith, c.if-number-eq0.false)) c.index-links-number.is

pub returns-clause-placed : goal.returns-clause-placed
returns-clause-placed c =
    let some : c.args.number - 1 < length c.args.links.now = omega (arith, c.if-number-eq0.false, c.if-number-links.false) in
    λ program cells notes are. link_placed program cells notes c.args.links.now (c.args.number - 1) c.index-links-number.result c.index-links-number.result some c.index-links-number.is are
