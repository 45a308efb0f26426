use Rattle.std.proofs.Common.{[], ◌∙◌, ap, map, sym, subst}
use Rattle.std.proofs.lemmas.List.{append-nil}
use Rattle.std.specs.Prelude.{string_bytes}
use Rattle.term_core.specs.Names.{fixed_names, with_texts}
use Rattle.term_core.specs.Lists.{IsPrefix}
use Rattle.term_core.proofs.FixedNames.{all_new}
use Rattle.term_core.proofs.names.Names.new.Goals as goal

pub returns : goal.returns
returns c = c.in_ok-add_all.ensures ∙ ap (λ keys. with_texts (map string_bytes keys) fixed_names) c.new-texts.ensures.empty ∙ all_new

pub invariant_of-result : goal.invariant_of-result
invariant_of-result c = subst (IsPrefix fixed_names) (sym (returns c)) ([], append-nil fixed_names)
