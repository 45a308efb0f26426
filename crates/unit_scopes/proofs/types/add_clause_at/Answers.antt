use Rattle.std.proofs.Common.{◌≡◌, ◌++◌, OnOk, length, refl, ap, sym, subst, ◌∙◌, append-nil}
use Rattle.std.proofs.lemmas.Option.{slice_get_past, slice_get_read}
use Rattle.unit_scopes.specs.Held.{clause_at}
use Rattle.unit_scopes.proofs.types.add_clause_at.Goals as goal

pub returns-in-None : goal.returns-in-None
returns-in-None c = sym (append-nil c.args.made.now) ∙ ap (λ o. c.args.made.now ++ clause_at o) (sym (slice_get_past c.args.clauses.now c.args.place c.in-None.ensures.lookup.3))

pub returns-in-Some : goal.returns-in-Some
returns-in-Some c =
    let there = slice_get_read c.args.clauses.now (length c.args.clauses.now) c.args.place c.in-Some.clause.now refl c.in-Some.ensures.lookup.3.0 c.in-Some.ensures.lookup.1 in
    subst (λ o. OnOk c.add_copy.result (c.add_copy.new.sentences ≡ c.args.made.now ++ clause_at o)) (sym there) c.add_copy.ensures
