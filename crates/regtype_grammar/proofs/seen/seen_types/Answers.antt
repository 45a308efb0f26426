use Rattle.std.proofs.Common.{◌≡◌, ◌≤◌, true, ap, sym, ◌∙◌, subst, map}
use Rattle.std.specs.List.{list_all}
use Rattle.std.proofs.lemmas.Option.{MatchOption-at_none, MatchOption-at_some}
use Rattle.regtype_grammar.specs.TypeNames.{are_few, numbered}
use Rattle.regtype_grammar.proofs.SeenLaws.{all_few, too_many}
use Rattle.regtype_grammar.proofs.seen.seen_types.Goals as goal

pub returns-in-None-clause-err : goal.returns-in-None-clause-err
returns-in-None-clause-err c = too_many c.args.modules.now (MatchOption-at_none _ _ c.in-None.is c.in_ok-first_names.ensures)

pub all_numbered-requires : goal.all_numbered-requires
all_numbered-requires c =
    let s = MatchOption-at_some _ _ _ c.in-Some.is c.in_ok-first_names.ensures in
    subst (λ fs. list_all (λ m. are_few fs m.visible) c.args.modules.now ≡ true) (sym (c.as_slice.ensures ∙ s.0)) (all_few c.args.modules.now c.requires (subst (λ n. n ≤ 512) s.1 s.2))

pub returns-in_ok-seen-in-Some-clause-ok : goal.returns-in_ok-seen-in-Some-clause-ok
returns-in_ok-seen-in-Some-clause-ok c =
    let s = MatchOption-at_some _ _ _ c.in-Some.is c.in_ok-first_names.ensures in
    c.in_ok-seen-in-Some.ensures ∙ ap (λ fs. map (λ m. numbered fs m.visible) c.args.modules.now) (c.as_slice.ensures ∙ s.0)
