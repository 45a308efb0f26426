use Rattle.std.proofs.Common.{◌≡◌, ◌≤◌, true, sym, ◌∙◌, subst}
use Rattle.std.specs.List.{list_all}
use Rattle.std.proofs.lemmas.Option.{MatchOption-at_none, MatchOption-at_some}
use Rattle.regtype_grammar.specs.TypeNames.{are_few}
use Rattle.regtype_grammar.specs.Grammars.{with_modules, AllFit}
use Rattle.regtype_grammar.proofs.SeenLaws.{all_few}
use Rattle.regtype_grammar.proofs.MadeLaws.{no_room_for_types, no_room, room}
use Rattle.regtype_grammar.proofs.grammars.made_grammar.Goals as goal

pub returns-in-None : goal.returns-in-None
returns-in-None c = no_room_for_types c.args.modules.now (MatchOption-at_none _ _ c.in-None.is c.in_ok-first_names.ensures)

pub with_modules-requires-clause-few : goal.with_modules-requires-clause-few
with_modules-requires-clause-few c =
    let s = MatchOption-at_some _ _ _ c.in-Some.is c.in_ok-first_names.ensures in
    let behind : c.in-Some.first ≤ 512 = s.2 in
    subst (λ fs. list_all (λ m. are_few fs m.visible) c.args.modules.now ≡ true) (sym (c.as_slice.ensures ∙ s.0)) (all_few c.args.modules.now c.requires (subst (λ n. n ≤ 512) s.1 behind))

pub returns-in-None-2 : goal.returns-in-None-2
returns-in-None-2 c =
    let s = MatchOption-at_some _ _ _ c.in-Some.is c.in_ok-first_names.ensures in
    no_room c.args.modules.now c.in-Some.first c.as_slice.result.now c.in_ok-start-in-Some.start s.1 (c.as_slice.ensures ∙ s.0) c.in_ok-start-in-Some.ensures
    (subst (AllFit c.in-Some.first (with_modules c.in-Some.first c.as_slice.result.now c.in_ok-start-in-Some.start c.args.modules.now)) c.in-None-2.is c.in_ok-with_modules-in-Some.ensures)

pub returns : goal.returns
returns c =
    let s = MatchOption-at_some _ _ _ c.in-Some.is c.in_ok-first_names.ensures in
    room c.args.modules.now c.in-Some.first c.as_slice.result.now c.in_ok-start-in-Some.start s.1 (c.as_slice.ensures ∙ s.0) c.in_ok-start-in-Some.ensures c.in-Some-2.making _
    (subst (AllFit c.in-Some.first (with_modules c.in-Some.first c.as_slice.result.now c.in_ok-start-in-Some.start c.args.modules.now)) c.in-Some-2.is c.in_ok-with_modules-in-Some.ensures) c.in_ok-joined-in-Some-2.ensures
