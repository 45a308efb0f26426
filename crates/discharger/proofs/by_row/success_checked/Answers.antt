use Rattle.std.proofs.Common.{◌||◌, not, map, ap, sym, ◌∙◌}
use Rattle.prog_data.specs.Values.{seen}
use Rattle.name_order.specs.Relations.{order}
use Rattle.goal_transfer.specs.Conditions.{all_set, meet_each, types_of, all_implied}
use Rattle.discharger.proofs.by_row.success_checked.Goals as goal

pub returns : goal.returns
returns c =
    let o = order c.args.rel.now in
    let met = meet_each o (map seen c.args.row.now.exit) (types_of o c.args.arity c.args.pre.now) in
    c.met_checked.ensures
    ∙ ap (λ vs. not (all_set vs) || all_implied o vs c.args.post.now) (ap (map seen) c.as_slice-3.ensures ∙ c.in_ok-met.ensures ∙ (λ i. meet_each o (map seen (c.as_slice.ensures i)) ((ap (map seen) c.as_slice-2.ensures ∙ c.in_ok-types.ensures) i)))
    ∙ sym (ap (λ b. b || (not (all_set met) || all_implied o met c.args.post.now)) (sym c.never_exits.ensures ∙ c.if-never_exits.false))
