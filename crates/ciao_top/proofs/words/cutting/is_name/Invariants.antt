use Rattle.std.proofs.Common.{◌≡◌, map, drop, bytes_eq}
use Rattle.std.specs.List.{list_any}
use Rattle.ciao_top.specs.WordsSeen.{option_seen}
use Rattle.ciao_top.proofs.words.cutting.is_name.Given as goal

abbrev pub invariant-loop-row : goal.invariant-loop-row
invariant-loop-row l = list_any (λ row. bytes_eq row.name l.word) (map option_seen (drop l.row-index l.rows)) ≡ list_any (λ row. bytes_eq row.name l.word) (map option_seen l.rows)
