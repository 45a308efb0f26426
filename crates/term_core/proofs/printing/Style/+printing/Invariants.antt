use Rattle.std.proofs.Common.{◌≡◌, ◌≤◌, ◌++◌, take, map}
use Rattle.std.specs.Prelude.{flat_map, string_bytes}
use Rattle.term_core.specs.Printing.{shown_of, at_argument, PrintedTail, after_comma}
use Rattle.term_core.specs.declared.terms.Term.{size-Term}
use Rattle.term_core.proofs.printing.Style.+printing.Given as goal

abbrev pub invariant-push_arguments-loop-argument : goal.invariant-push_arguments-loop-argument
invariant-push_arguments-loop-argument l =
    string_bytes l.out ≡ string_bytes l.initial.out ++ flat_map after_comma (map at_argument (map (shown_of l.self.names.now l.self.ops.now l.self.quoted) (take l.argument-index l.others)))

-- what was printed and the rest is all, and the rest is no deeper than the list
abbrev pub invariant-push_tail-loop-item : goal.invariant-push_tail-loop-item
invariant-push_tail-loop-item l =
    let rest = PrintedTail l.self.names.now l.self.ops.now l.self.quoted in
    (string_bytes l.out ++ rest l.left ≡ string_bytes l.fn.out ++ rest l.fn.tail) × (size-Term l.left ≤ size-Term l.fn.tail)
