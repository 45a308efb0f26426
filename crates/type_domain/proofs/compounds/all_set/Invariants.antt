use Rattle.std.proofs.Common.{◌≡◌, map, drop}
use Rattle.std.specs.List.{list_all}
use Rattle.prog_data.specs.Values.{seen}
use Rattle.type_domain.specs.Values.{is_set}
use Rattle.type_domain.proofs.compounds.all_set.Given as goal

abbrev pub invariant-loop-part : goal.invariant-loop-part
invariant-loop-part l = list_all is_set (map seen (drop l.part-index l.parts)) ≡ list_all is_set (map seen l.parts)
