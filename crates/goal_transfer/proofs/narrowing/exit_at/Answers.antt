use Rattle.std.proofs.Common.{◌≡◌, true, length, sym, subst}
use Rattle.std.specs.List.{list_all}
use Rattle.goal_transfer.specs.Range.{is_named}
use Rattle.goal_transfer.proofs.Named.{success_named}
use Rattle.goal_transfer.proofs.narrowing.exit_at.Goals as goal

pub met_if_implied-requires-clause-pre : goal.met_if_implied-requires-clause-pre
met_if_implied-requires-clause-pre c =
    let named = success_named c.args.program.now c.requires.range c.args.condition c.in-Some.found.now c.in-Success.pre c.in-Success.post (sym c.in-Some.ensures.value) c.in-Success.is in
    subst (λ ps. list_all (is_named (length c.args.rel.now.rules)) ps ≡ true) (sym c.as_slice-pre.ensures) (subst (λ g. list_all (is_named (length g.rules)) c.in-Success.pre ≡ true) (sym c.requires.grammar) named.0)

pub met_if_implied-requires-clause-post : goal.met_if_implied-requires-clause-post
met_if_implied-requires-clause-post c =
    let named = success_named c.args.program.now c.requires.range c.args.condition c.in-Some.found.now c.in-Success.pre c.in-Success.post (sym c.in-Some.ensures.value) c.in-Success.is in
    subst (λ ps. list_all (is_named (length c.args.rel.now.rules)) ps ≡ true) (sym c.as_slice-post.ensures) (subst (λ g. list_all (is_named (length g.rules)) c.in-Success.post ≡ true) (sym c.requires.grammar) named.1)
