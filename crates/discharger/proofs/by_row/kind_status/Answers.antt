use Rattle.std.proofs.Common.{◌≡◌, true, length, ap, sym, ◌∙◌, subst}
use Rattle.std.proofs.lemmas.Result.{IfOk-weaker}
use Rattle.std.specs.List.{list_all}
use Rattle.goal_transfer.specs.Range.{is_named}
use Rattle.prog_data.specs.declared.conditions.CondKind.TheVariants.{Success}
use Rattle.name_order.specs.Relations.{order}
use Rattle.goal_transfer.specs.Tables.{row_seen}
use Rattle.discharger.proofs.Rows.{disjuncts_named, pre_named, post_named, by_facts}
use Rattle.discharger.proofs.by_row.kind_status.Goals as goal

pub calls_status-requires : goal.calls_status-requires
calls_status-requires c =
    subst (λ ds. list_all (list_all (is_named (length c.args.rel.now.rules))) ds ≡ true) (sym c.as_slice-disjuncts.ensures) (disjuncts_named c.args.arity (length c.args.rel.now.rules) c.args.kind.now c.requires c.in-Calls.disjuncts c.in-Calls.is)

pub success_status-requires-clause-pre : goal.success_status-requires-clause-pre
success_status-requires-clause-pre c =
    subst (λ ps. list_all (is_named (length c.args.rel.now.rules)) ps ≡ true) (sym c.as_slice-pre.ensures) (pre_named c.args.arity (length c.args.rel.now.rules) c.args.kind.now c.requires c.in-Success.pre c.in-Success.post c.in-Success.is)

pub success_status-requires-clause-post : goal.success_status-requires-clause-post
success_status-requires-clause-post c =
    subst (λ ps. list_all (is_named (length c.args.rel.now.rules)) ps ≡ true) (sym c.as_slice-post.ensures) (post_named c.args.arity (length c.args.rel.now.rules) c.args.kind.now c.requires c.in-Success.pre c.in-Success.post c.in-Success.is)

pub returns-in-Success : goal.returns-in-Success
returns-in-Success c =
    let by = by_facts (order c.args.rel.now) c.args.arity (row_seen c.args.row.now) in
    IfOk-weaker c.success_status.result _ _ (λ s is. is ∙ (λ i. by (Success (c.as_slice-pre.ensures i) (c.as_slice-post.ensures i))) ∙ ap by (sym c.in-Success.is)) c.success_status.ensures
