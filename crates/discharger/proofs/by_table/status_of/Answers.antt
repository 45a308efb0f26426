use Rattle.std.proofs.Common.{◌≡◌, true, length, sym, subst}
use Rattle.std.proofs.lemmas.Result.{IfOk-weaker}
use Rattle.prog_data.specs.Goals.{pred_of}
use Rattle.prog_data.specs.Ranges.{is_kind_of}
use Rattle.discharger.proofs.Rows.{by_row, by_none}
use Rattle.discharger.proofs.by_table.status_of.Goals as goal

pub returns-in-Some : goal.returns-in-Some
returns-in-Some c =
    IfOk-weaker c.kind_status.result _ _
    (λ s is. by_row c.args.program.now c.args.table.now.rows c.args.cond.now c.args.rel.now c.arity_of-arity.result c.in-Some.row.now s c.requires.grammar c.arity_of-arity.ensures c.in-Some.ensures.value is)
    c.kind_status.ensures

pub returns-in-None : goal.returns-in-None
returns-in-None c = by_none c.args.program.now c.args.table.now.rows c.args.cond.now c.in-None.ensures.value

pub kind_status-requires : goal.kind_status-requires
kind_status-requires c =
    subst (λ n. is_kind_of n (length c.args.rel.now.rules) c.args.cond.now.kind ≡ true) (sym c.arity_of-arity.ensures) (subst (λ g. is_kind_of (pred_of c.args.program.now c.args.cond.now.pred).arity (length g.rules) c.args.cond.now.kind ≡ true) (sym c.requires.grammar) c.requires.kind)
