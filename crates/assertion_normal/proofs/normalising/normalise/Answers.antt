use Rattle.std.proofs.Common.{ap, sym, ◌∙◌}
use Rattle.std.specs.Prelude.{Some, option_map}
use Rattle.assertion_normal.specs.Conditions.{normal_of}
use Rattle.assertion_normal.specs.Normals.{given}
use Rattle.assertion_normal.proofs.ConditionRanges.{normal_stays}
use Rattle.assertion_normal.proofs.GrownLaws.{grown_self}
use Rattle.assertion_normal.proofs.normalising.normalise.Goals as goal

pub returns-in-Some-clause-grown : goal.returns-in-Some-clause-grown
returns-in-Some-clause-grown c = grown_self c.args.visible.now c.args.grammar.now

pub returns-in_ok-normal-in-None-clause-range : goal.returns-in_ok-normal-in-None-clause-range
returns-in_ok-normal-in-None-clause-range c =
    let names = c.args.names.now in
    let file = c.args.file in
    let seen = c.args.visible.now in
    let old = c.args.grammar.now in
    let new = c.all_settled.new.grammar in
    let pred = c.args.pred in
    let first = c.args.first in
    let list = c.args.list.now in
    let is = c.in_ok-normal-in-None.ensures ∙ ap (normal_of file pred first) c.as_slice.ensures in
    normal_stays c.meanings_law.ensures names file seen old pred first list new c.in_ok-normal-in-None.normal
    (ap (option_map (given names file seen old pred first list)) c.in_ok-settled-in-None.ensures.ok ∙ ap (λ normal. Some (new, normal)) (sym is))
