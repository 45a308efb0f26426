use Rattle.std.proofs.Common.{◌≡◌, map, drop}
use Rattle.std.specs.List.{list_all}
use Rattle.prog_data.specs.Values.{seen}
use Rattle.prog_data.specs.declared.basic_names.TheConstants.{GND_TYPE}
use Rattle.type_domain.specs.Values.{has_name}
use Rattle.type_domain.proofs.leaves.all_ground.Given as goal

abbrev pub invariant-loop-part : goal.invariant-loop-part
invariant-loop-part l = list_all (λ v. has_name v GND_TYPE) (map seen (drop l.part-index l.parts)) ≡ list_all (λ v. has_name v GND_TYPE) (map seen l.parts)
