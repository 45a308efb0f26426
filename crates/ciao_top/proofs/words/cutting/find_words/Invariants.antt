use Rattle.std.proofs.Common.{◌≡◌, map, drop, None, option_map}
use Rattle.std.specs.Prelude.{string_bytes}
use Rattle.ciao_top.specs.WordsFound.{find_words, nothing_found}
use Rattle.ciao_top.specs.WordsSeen.{option_seen, few_seen, value_seen}
use Rattle.ciao_top.proofs.words.cutting.find_words.Given as goal

abbrev pub invariant-loop-at : goal.invariant-loop-at
invariant-loop-at l =
    find_words (map option_seen l.rows) l.name (option_map (λ name. name.now) l.due) (record { positional = few_seen l.positional; value = value_seen l.value }) (map string_bytes (drop l.at l.words))
    ≡ find_words (map option_seen l.rows) l.name None nothing_found (map string_bytes l.words)
