use Rattle.std.proofs.Common.{◌≡◌, ◌+◌, ◌++◌, drop, length}
use Rattle.assertion_normal.specs.Conditions.{comp_kinds, numbered}
use Rattle.assertion_normal.proofs.conditions.add_comp.Given as goal

abbrev pub invariant-loop-property : goal.invariant-loop-property
invariant-loop-property l =
    l.conds ++ numbered l.about.file l.about.pred (length l.conds + l.about.first) l.line (comp_kinds l.pre (drop l.property-index l.comp))
    ≡ l.fn.conds ++ numbered l.about.file l.about.pred (length l.fn.conds + l.about.first) l.line (comp_kinds l.pre l.comp)
