use Rattle.std.proofs.Common.{◌≡◌, ◌+◌, ◌≤◌, length, Some, slice_get, sym, ap, subst, ◌∙◌}
use Rattle.std.specs.List.{AllByRecursion}
use Rattle.term_heap.specs.Changes.{size_of}
use Rattle.term_heap.specs.Loads.{IsPlaced}
use Rattle.machine_model.specs.Leaner.{clause_at}
use Rattle.engine_moves.specs.Tries.{try_state}
use Rattle.engine_moves.proofs.MadeTurns.{from_heap}
use Rattle.engine_moves.proofs.TryLaws.{matched_as, tried_none, args_below, head_placed, entered_move, is_entered, tried_clash, tried_cyclic}
use Rattle.engine_moves.proofs.tries.try_clause.Goals as goal

pub match_head-requires-clause-block : goal.match_head-requires-clause-block
match_head-requires-clause-block c =
    let e = c.args.engine.now in
    let clause = c.in-Some.clause.now in
    let base = c.in_ok-base-in-Some.base in
    let there : clause_at e.program.now c.args.pending.exit.pred c.args.number ≡ Some clause = sym (c.in-Some.ensures ∙ ap (λ cs. slice_get cs c.args.number) c.clauses_of.ensures) in
    subst (λ ts. c.args.pending.exit.args.first + length ts ≤ base) (sym c.as_slice-head.ensures)
    (args_below c.relied_law.ensures c.args.reading 0 e c.args.number c.args.pending c.requires clause there base c.in_ok-base-in-Some.ensures.base_is)

pub match_head-requires-clause-terms : goal.match_head-requires-clause-terms
match_head-requires-clause-terms c =
    let e = c.args.engine.now in
    let clause = c.in-Some.clause.now in
    let base = c.in_ok-base-in-Some.base in
    let own = c.add_variables.new.heap in
    let there : clause_at e.program.now c.args.pending.exit.pred c.args.number ≡ Some clause = sym (c.in-Some.ensures ∙ ap (λ cs. slice_get cs c.args.number) c.clauses_of.ensures) in
    subst (AllByRecursion (IsPlaced (size_of own.changes) base)) (sym c.as_slice-head.ensures)
    (head_placed c.relied_law.ensures c.args.reading 0 e c.args.number c.args.pending c.requires clause there base own c.in_ok-base-in-Some.ensures)

pub enter-requires : goal.enter-requires
enter-requires c =
    let e = c.args.engine.now in
    let clause = c.in-Some.clause.now in
    let base = c.in_ok-base-in-Some.base in
    let own = c.add_variables.new.heap in
    let heap = c.match_head.new.heap in
    let there : clause_at e.program.now c.args.pending.exit.pred c.args.number ≡ Some clause = sym (c.in-Some.ensures ∙ ap (λ cs. slice_get cs c.args.number) c.clauses_of.ensures) in
    is_entered c.relied_law.ensures c.args.reading 0 e c.args.number c.args.pending c.requires clause there base own heap c.in_ok-base-in-Some.ensures c.in_ok-found-in-Some.ensures.later c.len-size.ensures.made
    (matched_as own.changes base c.args.pending.exit.args.first _ clause.head _ _ heap.changes c.as_slice-head.ensures c.in-Same.is c.in_ok-found-in-Some.ensures.matched)

pub returns-in-None : goal.returns-in-None
returns-in-None c = λ bound.
    tried_none c.relied_law.ensures c.args.reading bound c.args.engine.now c.args.number c.args.pending c.requires (sym (c.in-None.ensures ∙ ap (λ cs. slice_get cs c.args.number) c.clauses_of.ensures))

pub returns-in_ok-stage-in-Same : goal.returns-in_ok-stage-in-Same
returns-in_ok-stage-in-Same c = λ bound.
    let e = c.args.engine.now in
    let clause = c.in-Some.clause.now in
    let base = c.in_ok-base-in-Some.base in
    let own = c.add_variables.new.heap in
    let heap = c.match_head.new.heap in
    let there : clause_at e.program.now c.args.pending.exit.pred c.args.number ≡ Some clause = sym (c.in-Some.ensures ∙ ap (λ cs. slice_get cs c.args.number) c.clauses_of.ensures) in
    let from = try_state e c.args.number c.args.pending in
    from_heap c.args.reading bound e heap from _ 0 c.enter.new.engine c.in_ok-stage-in-Same.stage
    (c.in_ok-stage-in-Same.ensures bound from
    (entered_move c.relied_law.ensures c.args.reading bound e c.args.number c.args.pending c.requires clause there base own heap c.in_ok-base-in-Some.ensures c.in_ok-found-in-Some.ensures.later c.len-size.ensures.made
    (matched_as own.changes base c.args.pending.exit.args.first _ clause.head _ _ heap.changes c.as_slice-head.ensures c.in-Same.is c.in_ok-found-in-Some.ensures.matched)))

pub returns-in-Clash : goal.returns-in-Clash
returns-in-Clash c = λ bound.
    let e = c.args.engine.now in
    let clause = c.in-Some.clause.now in
    let base = c.in_ok-base-in-Some.base in
    let own = c.add_variables.new.heap in
    let heap = c.match_head.new.heap in
    let there : clause_at e.program.now c.args.pending.exit.pred c.args.number ≡ Some clause = sym (c.in-Some.ensures ∙ ap (λ cs. slice_get cs c.args.number) c.clauses_of.ensures) in
    tried_clash c.relied_law.ensures c.args.reading bound e c.args.number c.args.pending c.requires clause there base own heap c.in_ok-base-in-Some.ensures c.in_ok-found-in-Some.ensures.later c.len-size.ensures.made
    (matched_as own.changes base c.args.pending.exit.args.first _ clause.head _ _ heap.changes c.as_slice-head.ensures c.in-Clash.is c.in_ok-found-in-Some.ensures.matched)

pub returns-in-Cyclic : goal.returns-in-Cyclic
returns-in-Cyclic c = λ bound.
    let e = c.args.engine.now in
    let clause = c.in-Some.clause.now in
    let base = c.in_ok-base-in-Some.base in
    let own = c.add_variables.new.heap in
    let heap = c.match_head.new.heap in
    let there : clause_at e.program.now c.args.pending.exit.pred c.args.number ≡ Some clause = sym (c.in-Some.ensures ∙ ap (λ cs. slice_get cs c.args.number) c.clauses_of.ensures) in
    tried_cyclic c.relied_law.ensures c.args.reading bound e c.args.number c.args.pending c.requires clause there base own heap c.in_ok-base-in-Some.ensures c.in_ok-found-in-Some.ensures.later c.len-size.ensures.made
    (matched_as own.changes base c.args.pending.exit.args.first _ clause.head _ _ heap.changes c.as_slice-head.ensures c.in-Cyclic.is c.in_ok-found-in-Some.ensures.matched)
