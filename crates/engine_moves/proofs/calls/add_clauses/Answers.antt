use Rattle.std.proofs.Common.{◌≤◌, length, subst, arith}
use Rattle.engine_state.specs.Selections.{selected_at}
use Rattle.engine_moves.proofs.CallLaws.{no_clauses, some_clauses}
use Rattle.engine_moves.proofs.calls.add_clauses.Goals as goal

pub add_point-requires-clause-placed : goal.add_point-requires-clause-placed
add_point-requires-clause-placed c =
    let pred = c.args.exit.pred in
    let key = c.first_key-key.result in
    let count = c.count_selected-count.result in (
      c.requires.placed,
      subst (λ keys. count ≤ length (selected_at keys pred key)) c.requires.kept.indexed (omega (arith, c.count_selected-count.ensures)),
      c.requires.rest,
    )

pub returns-then-count-eq0 : goal.returns-then-count-eq0
returns-then-count-eq0 c =
    no_clauses c.pushed_law.ensures c.selected_law.ensures c.args.engine.now c.args.exit c.args.rest c.requires.kept c.first_key-key.result c.first_key-key.ensures c.count_selected-count.result c.count_selected-count.ensures c.if-count-eq0.true

pub returns : goal.returns
returns c =
    some_clauses c.pushed_law.ensures c.selected_law.ensures c.args.engine.now c.args.exit c.args.rest c.requires.kept c.first_key-key.result c.first_key-key.ensures c.count_selected-count.result c.count_selected-count.ensures c.add_point.new.self
    c.in_ok-height.height c.in_ok-height.ensures c.in_ok-add_point.ensures
