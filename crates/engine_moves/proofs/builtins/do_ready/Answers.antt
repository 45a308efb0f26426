use Rattle.std.proofs.Common.{FitsSigned, rules, subst, ◌∙◌, arith}
use Rattle.std.specs.Int.{w64}
use Rattle.std.proofs.lemmas.Int.{to_z-of_z}
use Rattle.engine_moves.specs.BuiltinEffects.{HasUnifiedNumber}
use Rattle.engine_moves.proofs.BuiltinWork.{succeeded, failed, faulted, equated_number, refuted, told}
use Rattle.engine_moves.proofs.builtins.do_ready.Goals as goal

pub effect_of-requires-clause-grammar : goal.effect_of-requires-clause-grammar
effect_of-requires-clause-grammar c = c.requires.kept.in_range.grammar

pub effect_of-requires-clause-places : goal.effect_of-requires-clause-places
effect_of-requires-clause-places c = omega (arith, c.requires.enough, c.requires.within)

pub returns-in-Succeeds : goal.returns-in-Succeeds
returns-in-Succeeds c = succeeded c.builtin_moves_law.ensures c.args.engine.now c.args.builtin c.args.args c.args.setting c.requires c.in_ok-effect.effect c.in_ok-effect.ensures
    c.quiet.result.stage c.quiet.result.text c.quiet.ensures.text c.in-Succeeds.is c.quiet.ensures.stage

pub returns-in-Fails : goal.returns-in-Fails
returns-in-Fails c = failed c.builtin_moves_law.ensures c.args.engine.now c.args.builtin c.args.args c.args.setting c.requires c.in_ok-effect.effect c.in_ok-effect.ensures
    c.quiet-in-Fails.result.stage c.quiet-in-Fails.result.text c.quiet-in-Fails.ensures.text c.in-Fails.is c.quiet-in-Fails.ensures.stage

pub returns-in-Faults : goal.returns-in-Faults
returns-in-Faults c = faulted c.builtin_moves_law.ensures c.args.engine.now c.args.builtin c.args.args c.args.setting c.requires c.in_ok-effect.effect c.in_ok-effect.ensures
    c.quiet-in-Faults.result.stage c.quiet-in-Faults.result.text c.quiet-in-Faults.ensures.text c.in-Faults.kind c.in-Faults.is c.quiet-in-Faults.ensures.stage

pub returns-in-Writes : goal.returns-in-Writes
returns-in-Writes c = told c.builtin_moves_law.ensures c.args.engine.now c.args.builtin c.args.args c.args.setting c.requires c.in_ok-effect.effect c.in_ok-effect.ensures c.in-Writes.text c.in-Writes.is

pub returns-in_ok-unified-in-EquatesNumber : goal.returns-in_ok-unified-in-EquatesNumber
returns-in_ok-unified-in-EquatesNumber c =
    let x = c.in-EquatesNumber.place in
    let n = c.in-EquatesNumber.number in
    let fits : FitsSigned w64 n = search rules in
    let u = c.in_ok-unified-in-EquatesNumber.unified in
    let new = c.equate_number.new.engine in
    equated_number c.builtin_moves_law.ensures c.args.engine.now c.args.builtin c.args.args c.args.setting c.requires c.in_ok-effect.effect c.in_ok-effect.ensures
    c.quiet-in-EquatesNumber.result.stage c.quiet-in-EquatesNumber.result.text c.quiet-in-EquatesNumber.ensures.text x n u new c.in-EquatesNumber.is
    (subst (λ k. HasUnifiedNumber c.args.engine.now x k u new) (to_z-of_z w64 n fits) c.in_ok-unified-in-EquatesNumber.ensures) (c.quiet-in-EquatesNumber.ensures.stage ∙ c.equated-in-EquatesNumber.ensures)

pub returns-in_ok-unified-in-Differs : goal.returns-in_ok-unified-in-Differs
returns-in_ok-unified-in-Differs c =
    refuted c.builtin_moves_law.ensures c.args.engine.now c.args.builtin c.args.args c.args.setting c.requires c.in_ok-effect.effect c.in_ok-effect.ensures
    c.quiet-in-Differs.result.stage c.quiet-in-Differs.result.text c.quiet-in-Differs.ensures.text c.in-Differs.left c.in-Differs.right c.in_ok-unified-in-Differs.unified c.differ.new.engine c.in-Differs.is c.in_ok-unified-in-Differs.ensures
    (c.quiet-in-Differs.ensures.stage ∙ c.refuted.ensures)
