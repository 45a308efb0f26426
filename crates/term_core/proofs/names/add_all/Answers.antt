use Rattle.std.proofs.Common.{◌+◌, drop, map, sym, ap, ◌∙◌}
use Rattle.std.proofs.lemmas.List.{at_drop_more}
use Rattle.std.specs.Prelude.{string_bytes}
use Rattle.term_core.specs.Names.{with_texts}
use Rattle.term_core.proofs.names.add_all.Goals as goal

pub loop-text-preserved : goal.loop-text-preserved
loop-text-preserved c =
    ap (λ s. with_texts s (map (λ t. t.now) (drop (c.loop-text.text-index + 1) c.args.new.now))) c.in_ok-add.ensures.ok
    ∙ sym (at_drop_more (λ ts. with_texts (map string_bytes c.loop-text.texts.keys) (map (λ t. t.now) ts)) c.args.new.now c.loop-text.text-index _ c.loop-text-test.true)
    ∙ c.loop-text.invariant
