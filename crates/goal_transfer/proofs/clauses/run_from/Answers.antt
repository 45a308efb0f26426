use Rattle.std.proofs.Common.{◌≡◌, ◌++◌, length, map, ap, sym, ◌∙◌, arith}
use Rattle.std.specs.Prelude.{Some}
use Rattle.prog_data.specs.Values.{seen}
use Rattle.name_order.specs.Relations.{order}
use Rattle.goal_transfer.specs.Transfer.{known_where, term_value, push_each, run_goal}
use Rattle.goal_transfer.specs.Tables.{unknown}
use Rattle.goal_transfer.specs.States.{values_seen, exits_seen, call_seen}
use Rattle.goal_transfer.proofs.Effects.{effect, gone}
use Rattle.goal_transfer.proofs.GoalRuns.{written_back}
use Rattle.goal_transfer.proofs.clauses.run_from.Goals as goal

pub returns : goal.returns
returns c =
    let o = order c.args.rel.now in
    let es = exits_seen c.args.exits.now in
    let clause = c.args.clause.now in
    let behind = c.push_each.new.values in
    let last = c.run.new.values in
    let vs = values_seen o c.deref_mut-2.result.now in
    let calls = map call_seen c.run.new.calls.items in
    let start : values_seen o c.deref_mut.result.now ≡ unknown o = ap (values_seen o) c.deref_mut.ensures.value ∙ c.in_ok-values.ensures.values in
    let count : c.in_ok-values.values.len ≡ length behind = omega (arith, c.deref_mut.ensures.len, c.push_each.auto.values) in
    let written : c.deref_mut-2.result.now ≡ behind = c.deref_mut-2.ensures.value ∙ written_back behind c.in_ok-values.values.items c.in_ok-values.values.len count in
    let count_last : c.in_ok-values.values.len ≡ length last = omega (arith, count, ap length written, c.run.auto.values) in
    let written_last : c.deref.result.now ≡ last = c.deref.ensures.value ∙ written_back last _ c.in_ok-values.values.len count_last in
    let head : Some vs ≡ push_each o clause.head (map seen c.args.entry.now) (unknown o) =
    ap (λ ws. Some (values_seen o ws)) written ∙ c.if-not-push_each.ensures ∙ (λ i. push_each o (c.as_slice-head.ensures i) (map seen c.args.entry.now) (start i)) in
    let known : Some (values_seen o last) ≡ (run_goal o es clause.body vs).known = ap (λ b. known_where b (values_seen o last)) (sym c.if-not-branch.false) ∙ c.in_ok-run.ensures.known in
    let reached : calls ≡ (run_goal o es clause.body vs).calls = c.in_ok-run.ensures.calls ∙ ap (λ cs. map call_seen cs ++ (run_goal o es clause.body vs).calls) c.new-calls.ensures.items in
    let exit : map seen c.in_ok-exit.exit ≡ map (term_value o (values_seen o last)) clause.head = c.in_ok-exit.ensures ∙ (λ i. map (term_value o (values_seen o (written_last i))) (c.as_slice-head.ensures i)) in
    ap (λ ws. effect (Some ws) calls) exit ∙ gone o es clause vs (push_each o clause.head (map seen c.args.entry.now) (unknown o)) (Some (values_seen o last)) calls head known reached
