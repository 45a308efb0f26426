use Rattle.std.proofs.Common.{◌≡◌, drop, map}
use Rattle.std.specs.Prelude.{string_bytes}
use Rattle.term_core.specs.Names.{with_texts}
use Rattle.term_core.proofs.names.add_all.Given as goal

abbrev pub invariant-loop-text : goal.invariant-loop-text
invariant-loop-text l = with_texts (map string_bytes l.texts.keys) (map (λ t. t.now) (drop l.text-index l.new)) ≡ with_texts (map string_bytes l.fn.texts.keys) (map (λ t. t.now) l.new)
