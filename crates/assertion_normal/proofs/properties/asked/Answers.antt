use Rattle.std.proofs.Common.{◌<◌, length, rules, ap, sym, ◌∙◌, subst}
use Rattle.std.specs.Prelude.{IfErr}
use Rattle.regtype_grammar.specs.TypeNames.{meaning}
use Rattle.regtype_grammar.specs.Grammars.{number}
use Rattle.assertion_normal.specs.Properties.{type_name}
use Rattle.assertion_normal.specs.Settling.{IsNoRoom}
use Rattle.assertion_normal.proofs.AskedLaws.{list_asked, ten_names, number_below}
use Rattle.assertion_normal.proofs.GrownLaws.{grown_self}
use Rattle.assertion_normal.proofs.properties.asked.Goals as goal

pub returns-then-needs_no_type-clause-grown : goal.returns-then-needs_no_type-clause-grown
returns-then-needs_no_type-clause-grown c = grown_self c.args.visible.now c.args.grammar.now

pub returns-in-None-clause-grown : goal.returns-in-None-clause-grown
returns-in-None-clause-grown c = grown_self c.args.visible.now c.args.grammar.now

pub returns-in_err-prop-in-Some-clause-err : goal.returns-in_err-prop-in-Some-clause-err
returns-in_err-prop-in-Some-clause-err c =
    let is = c.number-kind.ensures ∙ ap number (c.type_meant.ensures ∙ ap (meaning c.args.visible.now) c.type_name.ensures) in
    subst (λ o. IfErr c.from_residual.result (IsNoRoom o))
    (sym (list_asked c.args.visible.now c.args.grammar.now c.args.written c.number-kind.result c.in-Some.field-0 (sym c.needs_no_type.ensures ∙ c.if-needs_no_type.false) is c.in-Some.is))
    (search rules)

pub returns-in_err-prop-in-Some-clause-grown : goal.returns-in_err-prop-in-Some-clause-grown
returns-in_err-prop-in-Some-clause-grown c =
    let is = c.number-kind.ensures ∙ ap number (c.type_meant.ensures ∙ ap (meaning c.args.visible.now) c.type_name.ensures) in
    record {
      grows = c.asked_list.ensures.grows;
      named = c.asked_list.ensures.named;
      range = λ h s. c.asked_list.ensures.range h
          (subst (λ n. n < length c.args.grammar.now.rules) (sym is) (number_below c.meanings_law.ensures c.args.visible.now (type_name c.args.written) (length c.args.grammar.now.rules) (ten_names c.args.grammar.now h) s));
    }

pub returns-in_ok-prop-in-Some-clause-grown : goal.returns-in_ok-prop-in-Some-clause-grown
returns-in_ok-prop-in-Some-clause-grown c =
    let is = c.number-kind.ensures ∙ ap number (c.type_meant.ensures ∙ ap (meaning c.args.visible.now) c.type_name.ensures) in
    record {
      grows = c.asked_list.ensures.grows;
      named = c.asked_list.ensures.named;
      range = λ h s. c.asked_list.ensures.range h
          (subst (λ n. n < length c.args.grammar.now.rules) (sym is) (number_below c.meanings_law.ensures c.args.visible.now (type_name c.args.written) (length c.args.grammar.now.rules) (ten_names c.args.grammar.now h) s));
    }
