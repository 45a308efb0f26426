use Rattle.std.proofs.Common.{◌≡◌, sym, ap, subst, ◌∙◌, []}
use Rattle.prog_data.specs.declared.goals.Goal as goals
use Rattle.machine_model.specs.State.{Going}
use Rattle.engine_state.specs.Stages.{goal_state, IsDue}
use Rattle.sld_engine.specs.Going.{HasGone}
use Rattle.sld_engine.proofs.TurningLaws.{no_exit, quiet_gone}
use Rattle.sld_engine.proofs.turning.from_goal.Goals as goal

pub do_true-requires : goal.do_true-requires
do_true-requires c = subst (λ g. IsDue c.args.engine.now g c.args.setting) c.in-True.is c.requires.due

pub returns-in-True : goal.returns-in-True
returns-in-True c =
    let e = c.args.engine.now in
    quiet_gone c.args.reading c.args.bound e e c.args.setting c.do_true.result c.args.goal.now _ c.args.told.now.items c.quiet.result c.quiet.ensures c.in-True.is c.requires.none c.do_true.ensures

pub do_fail-requires : goal.do_fail-requires
do_fail-requires c = subst (λ g. IsDue c.args.engine.now g c.args.setting) c.in-Fail.is c.requires.due

pub returns-in-Fail : goal.returns-in-Fail
returns-in-Fail c =
    let e = c.args.engine.now in
    quiet_gone c.args.reading c.args.bound e e c.args.setting c.do_fail.result c.args.goal.now _ c.args.told.now.items c.quiet-in-Fail.result c.quiet-in-Fail.ensures c.in-Fail.is c.requires.none c.do_fail.ensures

pub do_cut-requires : goal.do_cut-requires
do_cut-requires c = subst (λ g. IsDue c.args.engine.now g c.args.setting) c.in-Cut.is c.requires.due

pub returns-in-Cut : goal.returns-in-Cut
returns-in-Cut c =
    let e = c.args.engine.now in
    quiet_gone c.args.reading c.args.bound e c.do_cut.new.self c.args.setting c.do_cut.result c.args.goal.now _ c.args.told.now.items c.quiet-in-Cut.result c.quiet-in-Cut.ensures c.in-Cut.is c.requires.none c.do_cut.ensures

pub do_conj-requires : goal.do_conj-requires
do_conj-requires c =
    let is : c.args.goal.now ≡ goals.Conj c.get.result.now c.get-in-Conj.result.now = c.in-Conj.is ∙ sym (λ i. goals.Conj (c.get.ensures i) (c.get-in-Conj.ensures i)) in
    subst (λ g. IsDue c.args.engine.now g c.args.setting) is c.requires.due

pub returns-in_ok-stage-in-Conj : goal.returns-in_ok-stage-in-Conj
returns-in_ok-stage-in-Conj c =
    let e = c.args.engine.now in
    let stage = c.in_ok-stage-in-Conj.stage in
    let is : c.args.goal.now ≡ goals.Conj c.get.result.now c.get-in-Conj.result.now = c.in-Conj.is ∙ sym (λ i. goals.Conj (c.get.ensures i) (c.get-in-Conj.ensures i)) in
    quiet_gone c.args.reading c.args.bound e c.do_conj.new.self c.args.setting stage c.args.goal.now (goals.Conj c.get.result.now c.get-in-Conj.result.now) c.args.told.now.items c.quiet-in-Conj.result c.quiet-in-Conj.ensures is c.requires.none c.in_ok-stage-in-Conj.ensures

pub do_disj-requires : goal.do_disj-requires
do_disj-requires c =
    let is : c.args.goal.now ≡ goals.Disj c.get-in-Disj.result.now c.get-in-Disj-2.result.now = c.in-Disj.is ∙ sym (λ i. goals.Disj (c.get-in-Disj.ensures i) (c.get-in-Disj-2.ensures i)) in
    subst (λ g. IsDue c.args.engine.now g c.args.setting) is c.requires.due

pub returns-in_ok-stage-in-Disj : goal.returns-in_ok-stage-in-Disj
returns-in_ok-stage-in-Disj c =
    let e = c.args.engine.now in
    let stage = c.in_ok-stage-in-Disj.stage in
    let is : c.args.goal.now ≡ goals.Disj c.get-in-Disj.result.now c.get-in-Disj-2.result.now = c.in-Disj.is ∙ sym (λ i. goals.Disj (c.get-in-Disj.ensures i) (c.get-in-Disj-2.ensures i)) in
    quiet_gone c.args.reading c.args.bound e c.do_disj.new.self c.args.setting stage c.args.goal.now (goals.Disj c.get-in-Disj.result.now c.get-in-Disj-2.result.now) c.args.told.now.items c.quiet-in-Disj.result c.quiet-in-Disj.ensures is c.requires.none c.in_ok-stage-in-Disj.ensures

pub do_if-requires : goal.do_if-requires
do_if-requires c =
    let is : c.args.goal.now ≡ goals.IfElse c.get-in-IfElse.result.now c.get-in-IfElse-2.result.now c.get-in-IfElse-3.result.now = c.in-IfElse.is ∙ sym (λ i. goals.IfElse (c.get-in-IfElse.ensures i) (c.get-in-IfElse-2.ensures i) (c.get-in-IfElse-3.ensures i)) in
    subst (λ g. IsDue c.args.engine.now g c.args.setting) is c.requires.due

pub returns-in_ok-stage-in-IfElse : goal.returns-in_ok-stage-in-IfElse
returns-in_ok-stage-in-IfElse c =
    let e = c.args.engine.now in
    let stage = c.in_ok-stage-in-IfElse.stage in
    let is : c.args.goal.now ≡ goals.IfElse c.get-in-IfElse.result.now c.get-in-IfElse-2.result.now c.get-in-IfElse-3.result.now = c.in-IfElse.is ∙ sym (λ i. goals.IfElse (c.get-in-IfElse.ensures i) (c.get-in-IfElse-2.ensures i) (c.get-in-IfElse-3.ensures i)) in
    quiet_gone c.args.reading c.args.bound e c.do_if.new.self c.args.setting stage c.args.goal.now (goals.IfElse c.get-in-IfElse.result.now c.get-in-IfElse-2.result.now c.get-in-IfElse-3.result.now) c.args.told.now.items c.quiet-in-IfElse.result c.quiet-in-IfElse.ensures is c.requires.none c.in_ok-stage-in-IfElse.ensures

pub do_not-requires : goal.do_not-requires
do_not-requires c =
    let is : c.args.goal.now ≡ goals.Not c.get-in-Not.result.now = c.in-Not.is ∙ sym (λ i. goals.Not (c.get-in-Not.ensures i)) in
    subst (λ g. IsDue c.args.engine.now g c.args.setting) is c.requires.due

pub returns-in_ok-stage-in-Not : goal.returns-in_ok-stage-in-Not
returns-in_ok-stage-in-Not c =
    let e = c.args.engine.now in
    let stage = c.in_ok-stage-in-Not.stage in
    let is : c.args.goal.now ≡ goals.Not c.get-in-Not.result.now = c.in-Not.is ∙ sym (λ i. goals.Not (c.get-in-Not.ensures i)) in
    quiet_gone c.args.reading c.args.bound e c.do_not.new.self c.args.setting stage c.args.goal.now (goals.Not c.get-in-Not.result.now) c.args.told.now.items c.quiet-in-Not.result c.quiet-in-Not.ensures is c.requires.none c.in_ok-stage-in-Not.ensures

pub from_call-requires-clause-due : goal.from_call-requires-clause-due
from_call-requires-clause-due c =
    let is : c.args.goal.now ≡ goals.Call c.in-Call.pred c.as_slice-args.result.now = c.in-Call.is ∙ ap (goals.Call c.in-Call.pred) (sym c.as_slice-args.ensures) in
    subst (λ g. IsDue c.args.engine.now g c.args.setting) is c.requires.due

pub returns-in_ok-turn-in-Call : goal.returns-in_ok-turn-in-Call
returns-in_ok-turn-in-Call c =
    let e = c.args.engine.now in
    let turn = c.in_ok-turn-in-Call.turn in
    let is : c.args.goal.now ≡ goals.Call c.in-Call.pred c.as_slice-args.result.now = c.in-Call.is ∙ ap (goals.Call c.in-Call.pred) (sym c.as_slice-args.ensures) in
    subst (λ g. HasGone c.args.reading c.args.bound e.program.now (Going (goal_state e g c.args.setting)) turn.event c.from_call.new.told.items turn.tests c.from_call.new.engine turn.stage) (sym is) c.in_ok-turn-in-Call.ensures

pub from_builtin-requires : goal.from_builtin-requires
from_builtin-requires c =
    let is : c.args.goal.now ≡ goals.Builtin c.in-Builtin.builtin c.as_slice-args-in-Builtin.result.now = c.in-Builtin.is ∙ ap (goals.Builtin c.in-Builtin.builtin) (sym c.as_slice-args-in-Builtin.ensures) in
    subst (λ g. IsDue c.args.engine.now g c.args.setting) is c.requires.due

pub returns-in_ok-turn-in-Builtin : goal.returns-in_ok-turn-in-Builtin
returns-in_ok-turn-in-Builtin c =
    let e = c.args.engine.now in
    let turn = c.in_ok-turn-in-Builtin.turn in
    let is : c.args.goal.now ≡ goals.Builtin c.in-Builtin.builtin c.as_slice-args-in-Builtin.result.now = c.in-Builtin.is ∙ ap (goals.Builtin c.in-Builtin.builtin) (sym c.as_slice-args-in-Builtin.ensures) in
    subst (λ ts. HasGone c.args.reading c.args.bound e.program.now (Going (goal_state e c.args.goal.now c.args.setting)) turn.event ts turn.tests c.from_builtin.new.engine turn.stage) (sym c.requires.none)
    (subst (λ g. HasGone c.args.reading c.args.bound e.program.now (Going (goal_state e g c.args.setting)) turn.event [] turn.tests c.from_builtin.new.engine turn.stage) (sym is) (c.in_ok-turn-in-Builtin.ensures c.args.reading c.args.bound))

pub unreachable-requires : goal.unreachable-requires
unreachable-requires c = no_exit c.args.engine.now c.args.setting (subst (λ g. IsDue c.args.engine.now g c.args.setting) c.in-Exit.is c.requires.due)
