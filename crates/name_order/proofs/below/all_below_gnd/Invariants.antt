use Rattle.std.proofs.Common.{◌≡◌, drop}
use Rattle.std.specs.List.{list_all}
use Rattle.prog_data.specs.declared.basic_names.TheConstants.{GND_TYPE}
use Rattle.name_order.specs.Tables.{lacks}
use Rattle.name_order.proofs.below.all_below_gnd.Given as goal

abbrev pub invariant-loop-name : goal.invariant-loop-name
invariant-loop-name l = list_all (λ n. lacks l.outside (n, GND_TYPE)) (drop l.name-index l.names) ≡ list_all (λ n. lacks l.outside (n, GND_TYPE)) l.names
