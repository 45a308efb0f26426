use Rattle.std.proofs.Common.{◌≡◌, ◌≤◌, length, map, ap, sym, ◌∙◌, subst}
use Rattle.name_order.specs.declared.marking.Kind.TheVariants.{Leads, Members, Outside, Meets}
use Rattle.name_order.specs.Held.{TablesHold}
use Rattle.name_order.specs.Tables.{has, marking, all_leaves_led, kept_leaves, IsLeast}
use Rattle.name_order.proofs.MakeLaws.{holds, all_led_length}
use Rattle.name_order.proofs.relations.Relations.make.Goals as goal

pub table-requires-2 : goal.table-requires-2
table-requires-2 c =
    let count = ap length (c.as_slice.ensures ∙ c.in_ok-all.ensures) ∙ all_led_length c.as_slice-rules.result.now (has c.in_ok-leads.leads) ∙ ap length c.as_slice-rules.ensures in
    subst (λ k. k ≤ 512) (sym count) c.requires.few

pub invariant_of-result : goal.invariant_of-result
invariant_of-result c =
    let g = c.args.grammar.now in
    let leads = c.in_ok-leads.leads in
    let members = c.in_ok-members.members in
    let is_all : c.in_ok-all.all ≡ all_leaves_led c.args.grammar.now.rules (has c.in_ok-leads.leads) = c.in_ok-all.ensures ∙ ap (λ lists. all_leaves_led lists (has c.in_ok-leads.leads)) c.as_slice-rules.ensures in
    let is_leaves : c.in_ok-leaves.leaves ≡ map (kept_leaves (has c.in_ok-members.members)) (all_leaves_led c.args.grammar.now.rules (has c.in_ok-leads.leads)) =
    c.in_ok-leaves.ensures ∙ ap (map (kept_leaves (has c.in_ok-members.members))) (c.as_slice-2.ensures ∙ is_all) in
    subst (λ grammar. TablesHold grammar c.in_ok-leaves.leaves c.in_ok-members.members c.in_ok-outside.outside c.in_ok-meeting.meeting c.in_ok-above.above c.in_ok-apart.apart) (sym c.in_ok-grammar.ensures)
    (subst (λ leaves. TablesHold c.args.grammar.now leaves c.in_ok-members.members c.in_ok-outside.outside c.in_ok-meeting.meeting c.in_ok-above.above c.in_ok-apart.apart) (sym is_leaves)
    (holds g c.requires leads members c.in_ok-outside.outside c.in_ok-meeting.meeting
    (subst (λ lists. IsLeast (marking Leads lists) (length lists) c.in_ok-leads.leads) c.as_slice-rules.ensures c.in_ok-leads.ensures)
    (subst (λ lists. IsLeast (marking Members lists) (length lists) c.in_ok-members.members) (c.as_slice.ensures ∙ is_all) c.in_ok-members.ensures)
    (subst (λ lists. IsLeast (marking Outside lists) (length lists) c.in_ok-outside.outside) (c.as_slice-3.ensures ∙ is_leaves) c.in_ok-outside.ensures)
    (subst (λ lists. IsLeast (marking Meets lists) (length lists) c.in_ok-meeting.meeting) (c.as_slice-4.ensures ∙ is_leaves) c.in_ok-meeting.ensures)
    c.in_ok-above.above c.in_ok-apart.apart c.in_ok-above.ensures c.in_ok-apart.ensures))
