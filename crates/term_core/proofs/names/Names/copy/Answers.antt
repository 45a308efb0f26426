use Rattle.std.proofs.Common.{rules, ◌≡◌, ◌∙◌, map, string_bytes, subst, sym}
use Rattle.term_core.specs.Names.{fixed_names}
use Rattle.term_core.specs.Lists.{IsPrefix}
use Rattle.term_core.proofs.Copies.{same_mapped}
use Rattle.term_core.proofs.names.Names.copy.Goals as goal

pub invariant_of-result : goal.invariant_of-result
invariant_of-result c = subst (IsPrefix fixed_names) (sym (same_mapped string_bytes _ _ c.in_ok-clone.ensures.cases)) c.self.invariant

pub returns : goal.returns
returns c = same_mapped string_bytes _ _ c.in_ok-clone.ensures.cases ∙ c.self.view_is
