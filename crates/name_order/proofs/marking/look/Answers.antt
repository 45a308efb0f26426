use Rattle.std.proofs.Common.{◌≡◌, length, true, ap, sym, ◌∙◌, subst}
use Rattle.name_order.specs.Relations.{are_names, same_pair}
use Rattle.name_order.specs.Tables.{has, marking, touched}
use Rattle.name_order.proofs.FixpointLaws.{and_both}
use Rattle.name_order.proofs.TableLaws.{marking_mono, look_marks, names_of_table, or_parts_true}
use Rattle.name_order.proofs.TouchLaws.{untouched}
use Rattle.name_order.proofs.marking.look.Goals as goal

pub returns : goal.returns
returns c =
    let names : are_names (length c.args.lists.now) (c.args.first, c.args.second) ≡ true = names_of_table (length c.args.lists.now) c.args.first c.args.second c.requires.first c.requires.second in
    look_marks (marking c.args.kind c.args.lists.now) (marking_mono c.args.kind c.args.lists.now) (touched c.args.kind c.args.users.now (c.args.first, c.args.second)) (c.args.first, c.args.second)
    c.args.marked.now c.args.done.now c.add-2.new.self c.add.new.self c.reopen.new.done
    (subst (λ k. are_names k (c.args.first, c.args.second) ≡ true) (sym c.requires.size) names)
    (sym c.if-has-2.ensures) (and_both (are_names (length c.args.lists.now) (c.args.first, c.args.second)) _ names (sym c.if-not-is_due.ensures))
    c.add-2.ensures.size c.add-2.ensures.has
    (λ p free. untouched c.args.lists.now (has c.args.marked.now) (has c.add-2.new.self) (c.args.first, c.args.second) names
    (λ x e. or_parts_true (same_pair x (c.args.first, c.args.second)) (has c.args.marked.now x) (sym (c.add-2.ensures.has x) ∙ e)) c.args.kind p
    (sym (ap (λ by. touched c.args.kind by (c.args.first, c.args.second) p) c.requires.users) ∙ free))
    c.add.ensures.size c.add.ensures.has c.reopen.ensures.size c.reopen.ensures.has
