use Rattle.std.proofs.Common.{◌++◌, ap, sym, ◌∙◌}
use Rattle.std.specs.Prelude.{codes, string_bytes}
use Rattle.std.proofs.lemmas.List.{append_assoc}
use Rattle.term_core.specs.Printing.{shown_of, at_argument}
use Rattle.term_core.proofs.TailLemmas.{tail_behind_bar}
use Rattle.term_core.proofs.printing.Style.+printing.Goals as goal

pub push_end-returns : goal.push_end-returns
unfolding lib.Utf8.encode
push_end-returns t c =
    let style = c.args.self.now in
    let argument = at_argument (shown_of style.names.now style.ops.now style.quoted c.args.tail.now) in
    let start = string_bytes c.args.out.now in
    let tail = tail_behind_bar style.names.now style.ops.now style.quoted c.args.tail.now c.requires (sym c.is_empty_list.ensures ∙ c.if-is_empty_list.false) in
    c.in_ok-push-3.ensures.bytes ∙ ap (λ x. x ++ codes "]") c.in_ok-push_argument.ensures ∙ ap (λ x. (x ++ argument) ++ codes "]") c.in_ok-push-2.ensures.bytes
    ∙ append_assoc (start ++ codes "|") argument (codes "]") ∙ append_assoc start (codes "|") (argument ++ codes "]") ∙ ap (λ x. start ++ x) (sym tail)
