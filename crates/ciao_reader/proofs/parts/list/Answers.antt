use Rattle.std.proofs.Common.{sym, ap, ◌∙◌}
use Rattle.ciao_reader.specs.Parts.{list_part}
use Rattle.ciao_reader.proofs.PartLists.{list_behind}
use Rattle.ciao_reader.proofs.parts.list.Goals as goal

pub loop-part-preserved : goal.loop-part-preserved
loop-part-preserved c = ap (list_part c.pop.new.self) c.in_ok-list.ensures ∙ sym (list_behind c.pop.new.self c.in-Some.part c.loop-part.list) ∙ ap (λ ps. list_part ps c.loop-part.list) (sym c.in-Some.ensures) ∙ c.loop-part.invariant
