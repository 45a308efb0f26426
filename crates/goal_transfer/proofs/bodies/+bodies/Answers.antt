use Rattle.std.proofs.Common.{◌≡◌, ◌+◌, ◌++◌, true, length, map, OnOk, ap, sym, subst, ◌∙◌, arith}
use Rattle.std.proofs.lemmas.Result.{IfOk-weaker}
use Rattle.std.specs.Prelude.{nat_le}
use Rattle.std.specs.List.{list_all}
use Rattle.term_core.specs.Terms.{above}
use Rattle.prog_data.specs.Ranges.{is_builtin_of, is_body_of}
use Rattle.name_order.specs.Relations.{order}
use Rattle.goal_transfer.specs.Transfer.{known_where, then_outcome, run_goal}
use Rattle.goal_transfer.specs.States.{values_seen, exits_seen, call_seen}
use Rattle.goal_transfer.proofs.BodyRanges.{conj_bodies, disj_bodies, if_bodies, not_body, call_within, builtin_within}
use Rattle.goal_transfer.proofs.GoalRuns.{written_back, if_runs, either_known, either_calls, on_ok, weight, weight_conj, weight_disj, weight_if, weight_not}
use Rattle.goal_transfer.proofs.bodies.+bodies.Goals as goal

pub run-run_both-requires : goal.run-run_both-requires
run-run_both-requires t c =
    let program = c.args.program.now in
    let places = length c.args.values.now in
    let g = c.args.goal.now in
    let is : weight g ≡ weight c.in-Conj.first + weight c.in-Conj.second + 1 = weight_conj g c.in-Conj.first c.in-Conj.second c.in-Conj.is in
    let parts = conj_bodies program places g c.in-Conj.first c.in-Conj.second c.in-Conj.is c.requires.range in (
      omega (arith, is, ap weight c.get-first.ensures, ap weight c.get-second.ensures, c.decreases),
      (c.requires.grammar, (ap (is_body_of program places) c.get-first.ensures ∙ parts.0, ap (is_body_of program places) c.get-second.ensures ∙ parts.1)),
    )

pub run-run_either-requires : goal.run-run_either-requires
run-run_either-requires t c =
    let program = c.args.program.now in
    let places = length c.args.values.now in
    let g = c.args.goal.now in
    let is : weight g ≡ weight c.in-Disj.first + weight c.in-Disj.second + 1 = weight_disj g c.in-Disj.first c.in-Disj.second c.in-Disj.is in
    let parts = disj_bodies program places g c.in-Disj.first c.in-Disj.second c.in-Disj.is c.requires.range in (
      omega (arith, is, ap weight c.get-first-in-Disj.ensures, ap weight c.get-second-in-Disj.ensures, c.decreases),
      (c.requires.grammar, (ap (is_body_of program places) c.get-first-in-Disj.ensures ∙ parts.0, ap (is_body_of program places) c.get-second-in-Disj.ensures ∙ parts.1)),
    )

pub run-run_branches-requires : goal.run-run_branches-requires
run-run_branches-requires t c =
    let program = c.args.program.now in
    let places = length c.args.values.now in
    let g = c.args.goal.now in
    let i = c.in-IfElse in
    let is : weight g ≡ weight i.condition + weight i.first + weight i.second + 2 = weight_if g i.condition i.first i.second i.is in
    let parts = if_bodies program places g i.condition i.first i.second i.is c.requires.range in (
      omega (arith, is, ap weight c.get.ensures, ap weight c.get-in-IfElse.ensures, ap weight c.get-in-IfElse-2.ensures, c.decreases),
      (c.requires.grammar, (ap (is_body_of program places) c.get.ensures ∙ parts.0, (ap (is_body_of program places) c.get-in-IfElse.ensures ∙ parts.1, ap (is_body_of program places) c.get-in-IfElse-2.ensures ∙ parts.2))),
    )

pub run-run_apart-requires : goal.run-run_apart-requires
run-run_apart-requires t c =
    let program = c.args.program.now in
    let places = length c.args.values.now in
    let g = c.args.goal.now in
    let is : weight g ≡ weight c.in-Not.inner + 1 = weight_not g c.in-Not.inner c.in-Not.is in (
      omega (arith, is, ap weight c.get-in-Not.ensures, c.decreases),
      (c.requires.grammar, ap (is_body_of program places) c.get-in-Not.ensures ∙ not_body program places g c.in-Not.inner c.in-Not.is c.requires.range),
    )

pub run-run_call-requires-clause-range : goal.run-run_call-requires-clause-range
run-run_call-requires-clause-range t c =
    let places = length c.args.values.now in
    subst (λ ts. list_all (λ t. nat_le (above t) places) ts ≡ true) (sym c.as_slice-terms.ensures) (call_within c.args.program.now places c.args.goal.now c.in-Call.pred c.in-Call.terms c.in-Call.is c.requires.range)

pub run-run_builtin-requires-clause-range : goal.run-run_builtin-requires-clause-range
run-run_builtin-requires-clause-range t c =
    let places = length c.args.values.now in
    subst (λ ts. list_all (λ t. nat_le (above t) places) ts ≡ true) (sym c.as_slice.ensures) (builtin_within c.args.program.now places c.args.goal.now c.in-Builtin.builtin c.in-Builtin.terms c.in-Builtin.is c.requires.range).1

pub run-run_builtin-requires-clause-name : goal.run-run_builtin-requires-clause-name
run-run_builtin-requires-clause-name t c =
    let named = (builtin_within c.args.program.now (length c.args.values.now) c.args.goal.now c.in-Builtin.builtin c.in-Builtin.terms c.in-Builtin.is c.requires.range).0 in
    subst (λ ts. is_builtin_of (length c.args.rel.now.rules) c.in-Builtin.builtin ts ≡ true) (sym c.as_slice.ensures) (subst (λ g. is_builtin_of (length g.rules) c.in-Builtin.builtin c.in-Builtin.terms ≡ true) (sym c.requires.grammar) named)

pub run-returns-in-IfElse-clause-calls : goal.run-returns-in-IfElse-clause-calls
run-returns-in-IfElse-clause-calls t c =
    let o = order c.args.rel.now in
    let i = c.in-IfElse in
    subst (λ out. OnOk c.run_branches.result (map call_seen c.run_branches.new.calls.items ≡ map call_seen c.args.calls.now.items ++ out.calls))
    (if_runs o (exits_seen c.args.exits.now) c.args.goal.now i.condition i.first i.second c.get.result.now c.get-in-IfElse.result.now c.get-in-IfElse-2.result.now (values_seen o c.args.values.now) i.is c.get.ensures c.get-in-IfElse.ensures c.get-in-IfElse-2.ensures)
    c.run_branches.ensures.calls

pub run_both-run-requires-2 : goal.run_both-run-requires-2
run_both-run-requires-2 t c =
    let same : length c.run.new.values ≡ length c.args.values.now = omega (arith, c.run.auto.values) in
    (omega (arith, c.decreases), (c.requires.grammar, subst (λ n. is_body_of c.args.program.now n c.args.second.now ≡ true) (sym same) c.requires.second))

pub run_branches-run_both-requires : goal.run_branches-run_both-requires
run_branches-run_both-requires t c =
    let same : c.deref_mut.result.now ≡ c.args.values.now = c.deref_mut.ensures.value ∙ c.in_ok-others.ensures in (
      omega (arith, c.decreases),
      (c.requires.grammar, (subst (λ vs. is_body_of c.args.program.now (length vs) c.args.condition.now ≡ true) (sym same) c.requires.condition, subst (λ vs. is_body_of c.args.program.now (length vs) c.args.first.now ≡ true) (sym same) c.requires.first)),
    )

pub run_branches-returns-clause-known : goal.run_branches-returns-clause-known
run_branches-returns-clause-known t c =
    let o = order c.args.rel.now in
    let es = exits_seen c.args.exits.now in
    let vs = values_seen o c.args.values.now in
    let same : c.deref_mut.result.now ≡ c.args.values.now = c.deref_mut.ensures.value ∙ c.in_ok-others.ensures in
    let a = then_outcome (run_goal o es c.args.condition.now vs) (run_goal o es c.args.first.now) in
    let b = run_goal o es c.args.second.now vs in
    let k = c.in_ok-others_kept.others_kept in
    let count : c.in_ok-others.others.len ≡ length c.run_both.new.values = omega (arith, c.deref_mut.ensures.len, c.run_both.auto.values) in
    let written : c.deref.result.now ≡ c.run_both.new.values = c.deref.ensures.value ∙ written_back c.run_both.new.values c.in_ok-others.others.items c.in_ok-others.others.len count in
    let first : known_where k (values_seen o c.deref.result.now) ≡ a.known =
    ap (λ ws. known_where k (values_seen o ws)) written ∙ c.in_ok-others_kept.ensures.known ∙ ap (λ ws. (then_outcome (run_goal o es c.args.condition.now (values_seen o ws)) (run_goal o es c.args.first.now)).known) same in
    IfOk-weaker c.either.result _ _ (λ now e. either_known a b (known_where k (values_seen o c.deref.result.now)) (known_where c.in_ok-kept.kept (values_seen o c.run.new.values)) (known_where now (values_seen o c.either.new.values)) first c.in_ok-kept.ensures.known e) (c.either.ensures o)

pub run_branches-returns-clause-calls : goal.run_branches-returns-clause-calls
run_branches-returns-clause-calls t c =
    let o = order c.args.rel.now in
    let es = exits_seen c.args.exits.now in
    let vs = values_seen o c.args.values.now in
    let same : c.deref_mut.result.now ≡ c.args.values.now = c.deref_mut.ensures.value ∙ c.in_ok-others.ensures in
    let a = then_outcome (run_goal o es c.args.condition.now vs) (run_goal o es c.args.first.now) in
    let b = run_goal o es c.args.second.now vs in
    let old = map call_seen c.args.calls.now.items in
    let mid : map call_seen c.run_both.new.calls.items ≡ old ++ a.calls =
    c.in_ok-others_kept.ensures.calls ∙ ap (λ ws. old ++ (then_outcome (run_goal o es c.args.condition.now (values_seen o ws)) (run_goal o es c.args.first.now)).calls) same in
    on_ok c.either.result (either_calls a b old (map call_seen c.run_both.new.calls.items) (map call_seen c.run.new.calls.items) mid c.in_ok-kept.ensures.calls)

pub run_either-returns-clause-known : goal.run_either-returns-clause-known
run_either-returns-clause-known t c =
    let o = order c.args.rel.now in
    let es = exits_seen c.args.exits.now in
    let vs = values_seen o c.args.values.now in
    let same : c.deref_mut.result.now ≡ c.args.values.now = c.deref_mut.ensures.value ∙ c.in_ok-others.ensures in
    let a = run_goal o es c.args.first.now vs in
    let b = run_goal o es c.args.second.now vs in
    let k = c.in_ok-others_kept.others_kept in
    let count : c.in_ok-others.others.len ≡ length c.run.new.values = omega (arith, c.deref_mut.ensures.len, c.run.auto.values) in
    let written : c.deref.result.now ≡ c.run.new.values = c.deref.ensures.value ∙ written_back c.run.new.values c.in_ok-others.others.items c.in_ok-others.others.len count in
    let first : known_where k (values_seen o c.deref.result.now) ≡ a.known =
    ap (λ ws. known_where k (values_seen o ws)) written ∙ c.in_ok-others_kept.ensures.known ∙ ap (λ ws. (run_goal o es c.args.first.now (values_seen o ws)).known) same in
    IfOk-weaker c.either.result _ _ (λ now e. either_known a b (known_where k (values_seen o c.deref.result.now)) (known_where c.in_ok-kept.kept (values_seen o c.run-2.new.values)) (known_where now (values_seen o c.either.new.values)) first c.in_ok-kept.ensures.known e) (c.either.ensures o)

pub run_either-returns-clause-calls : goal.run_either-returns-clause-calls
run_either-returns-clause-calls t c =
    let o = order c.args.rel.now in
    let es = exits_seen c.args.exits.now in
    let vs = values_seen o c.args.values.now in
    let same : c.deref_mut.result.now ≡ c.args.values.now = c.deref_mut.ensures.value ∙ c.in_ok-others.ensures in
    let a = run_goal o es c.args.first.now vs in
    let b = run_goal o es c.args.second.now vs in
    let old = map call_seen c.args.calls.now.items in
    let mid : map call_seen c.run.new.calls.items ≡ old ++ a.calls =
    c.in_ok-others_kept.ensures.calls ∙ ap (λ ws. old ++ (run_goal o es c.args.first.now (values_seen o ws)).calls) same in
    on_ok c.either.result (either_calls a b old (map call_seen c.run.new.calls.items) (map call_seen c.run-2.new.calls.items) mid c.in_ok-kept.ensures.calls)
