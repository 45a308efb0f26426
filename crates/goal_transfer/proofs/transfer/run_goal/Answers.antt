use Rattle.std.proofs.Common.{◌≡◌, ◌++◌, true, length, map, ap, sym, subst, ◌∙◌, arith}
use Rattle.std.proofs.lemmas.List.{map-append}
use Rattle.std.specs.Prelude.{IfSome, option_map, Some}
use Rattle.prog_data.specs.Ranges.{is_body_of}
use Rattle.name_order.specs.Relations.{order}
use Rattle.goal_transfer.specs.Transfer.{known_where, from_known, run_goal}
use Rattle.goal_transfer.specs.Tables.{table_seen, exits_of}
use Rattle.goal_transfer.specs.States.{values_seen, state_seen, exits_seen, call_seen}
use Rattle.goal_transfer.proofs.GoalRuns.{written_back}
use Rattle.goal_transfer.proofs.transfer.run_goal.Goals as goal

pub run-requires-clause-range : goal.run-requires-clause-range
run-requires-clause-range c =
    let same : c.deref_mut.result.now ≡ c.in-Some.values.items = c.deref_mut.ensures.value ∙ c.in_ok-changed-in-Some.ensures ∙ c.deref.ensures.value in
    let fits : is_body_of c.args.program.now (length c.in-Some.values.items) c.args.goal.now ≡ true =
    subst (λ o. IfSome o (λ vs. is_body_of c.args.program.now (length vs.items) c.args.goal.now ≡ true)) c.in-Some.is c.requires.goal in
    subst (λ vs. is_body_of c.args.program.now (length vs) c.args.goal.now ≡ true) (sym same) fits

pub returns-in_ok-append-in-Some-clause-known : goal.returns-in_ok-append-in-Some-clause-known
returns-in_ok-append-in-Some-clause-known c =
    let o = order c.args.rel.now in
    let g = c.args.goal.now in
    let es = exits_of c.args.program.now o (table_seen c.args.table.now) in
    let kept = c.in_ok-kept-in-Some.kept in
    let same : c.deref_mut.result.now ≡ c.in-Some.values.items = c.deref_mut.ensures.value ∙ c.in_ok-changed-in-Some.ensures ∙ c.deref.ensures.value in
    let stored : exits_seen c.as_slice-exits.result.now ≡ es = ap exits_seen c.as_slice-exits.ensures ∙ c.in_ok-stored-in-Some.ensures in
    let known : state_seen o c.args.state.now ≡ Some (values_seen o c.in-Some.values.items) = ap (λ s. option_map (λ vs. values_seen o vs.items) s) c.in-Some.is in
    let count : c.in_ok-changed-in-Some.changed.len ≡ length c.run.new.values = omega (arith, c.deref_mut.ensures.len, c.run.auto.values) in
    c.state_of.ensures o ∙ ap (λ ws. known_where kept (values_seen o ws)) (written_back c.run.new.values c.in_ok-changed-in-Some.changed.items c.in_ok-changed-in-Some.changed.len count) ∙ c.in_ok-kept-in-Some.ensures.known
    ∙ (λ i. (run_goal o (stored i) g (values_seen o (same i))).known) ∙ ap (λ k. (from_known k (run_goal o es g)).known) (sym known)

pub returns-in_ok-append-in-Some-clause-calls : goal.returns-in_ok-append-in-Some-clause-calls
returns-in_ok-append-in-Some-clause-calls c =
    let o = order c.args.rel.now in
    let g = c.args.goal.now in
    let es = exits_of c.args.program.now o (table_seen c.args.table.now) in
    let old = c.args.calls.now.items in
    let same : c.deref_mut.result.now ≡ c.in-Some.values.items = c.deref_mut.ensures.value ∙ c.in_ok-changed-in-Some.ensures ∙ c.deref.ensures.value in
    let stored : exits_seen c.as_slice-exits.result.now ≡ es = ap exits_seen c.as_slice-exits.ensures ∙ c.in_ok-stored-in-Some.ensures in
    let known : state_seen o c.args.state.now ≡ Some (values_seen o c.in-Some.values.items) = ap (λ s. option_map (λ vs. values_seen o vs.items) s) c.in-Some.is in
    let run = run_goal o (exits_seen c.as_slice-exits.result.now) g (values_seen o c.deref_mut.result.now) in
    let made : map call_seen c.run.new.calls.items ≡ run.calls = c.in_ok-kept-in-Some.ensures.calls ∙ ap (λ cs. map call_seen cs ++ run.calls) c.new-made.ensures.items in
    let reached : run.calls ≡ (from_known (state_seen o c.args.state.now) (run_goal o es g)).calls = (λ i. (run_goal o (stored i) g (values_seen o (same i))).calls) ∙ ap (λ k. (from_known k (run_goal o es g)).calls) (sym known) in
    ap (map call_seen) c.in_ok-append-in-Some.ensures.items ∙ map-append call_seen old c.run.new.calls.items ∙ ap (λ cs. map call_seen old ++ cs) (made ∙ reached)
