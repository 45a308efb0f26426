use Rattle.std.proofs.Common.{ap, ◌∙◌}
use Rattle.regtype_grammar.specs.TypeNames.{numbered}
use Rattle.regtype_grammar.proofs.MadeLaws.{module_fits}
use Rattle.regtype_grammar.proofs.grammars.with_module.Goals as goal

pub returns : goal.returns
returns c =
    module_fits c.args.first c.args.firsts.now c.args.making c.args.one.now c.as_slice-2.result.now c.as_slice-3.result.now c.in_ok-made.made
    (c.as_slice-2.ensures ∙ c.in_ok-seen.ensures ∙ ap (numbered c.args.firsts.now) c.as_slice.ensures) c.as_slice-3.ensures c.in_ok-made.ensures
