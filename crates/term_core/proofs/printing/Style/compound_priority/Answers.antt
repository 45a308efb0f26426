use Rattle.std.proofs.Common.{map, sym, ap, ◌∙◌, arith}
use Rattle.term_core.specs.Printing.{compound_shown, shown_of}
use Rattle.term_core.proofs.ShortLists.{one_of, two_of}
use Rattle.term_core.proofs.printing.Style.compound_priority.Goals as goal

pub returns-in-len1 : goal.returns-in-len1
returns-in-len1 c =
    let style = c.args.self.now in
    let shown = shown_of style.names.now style.ops.now style.quoted in
    let only = one_of c.args.arguments.now (omega (arith, c.in-len1.len_at_least, c.in-len1.len_below)) in
    c.one_priority.ensures (shown only.0) ∙ ap (λ parts. (compound_shown style.names.now style.ops.now style.quoted c.args.name (map shown parts)).priority) (sym only.1)

pub returns-in-len2 : goal.returns-in-len2
returns-in-len2 c =
    let style = c.args.self.now in
    let shown = shown_of style.names.now style.ops.now style.quoted in
    let both = two_of c.args.arguments.now (omega (arith, c.in-len2.len_at_least, c.in-len2.len_below)) in
    c.two_priority.ensures (shown both.0) (shown both.1) ∙ ap (λ parts. (compound_shown style.names.now style.ops.now style.quoted c.args.name (map shown parts)).priority) (sym both.2)
