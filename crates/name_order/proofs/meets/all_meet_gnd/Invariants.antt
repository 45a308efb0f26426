use Rattle.std.proofs.Common.{◌≡◌, drop}
use Rattle.std.specs.List.{list_all}
use Rattle.prog_data.specs.declared.basic_names.TheConstants.{GND_TYPE}
use Rattle.name_order.specs.Tables.{has}
use Rattle.name_order.proofs.meets.all_meet_gnd.Given as goal

abbrev pub invariant-loop-name : goal.invariant-loop-name
invariant-loop-name l = list_all (λ n. has l.meeting (n, GND_TYPE)) (drop l.name-index l.names) ≡ list_all (λ n. has l.meeting (n, GND_TYPE)) l.names
