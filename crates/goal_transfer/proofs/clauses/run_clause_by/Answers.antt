use Rattle.std.proofs.Common.{◌≡◌, IfOk, map, ap, sym, subst, ◌∙◌}
use Rattle.std.specs.Prelude.{Some}
use Rattle.std.proofs.lemmas.Option.{same_Some}
use Rattle.prog_data.specs.Values.{seen}
use Rattle.prog_data.specs.Goals.{pred_of}
use Rattle.name_order.specs.Relations.{order}
use Rattle.goal_transfer.specs.Conditions.{narrowed_entry}
use Rattle.goal_transfer.specs.States.{list_seen, exits_seen, effect_seen}
use Rattle.goal_transfer.proofs.Effects.{by_entry}
use Rattle.goal_transfer.proofs.Named.{clause_within}
use Rattle.goal_transfer.proofs.clauses.run_clause_by.Goals as goal

pub returns-in-Some : goal.returns-in-Some
returns-in-Some c = λ clause is.
    let same : c.clause_at-found.result.now ≡ clause = same_Some c.clause_at-found.result.now clause (sym c.clause_at-found.ensures.found ∙ is) in
    let o = order c.args.rel.now in
    subst (λ k. IfOk c.run_from.result (λ e. effect_seen e ≡ k))
    (by_entry o (exits_seen c.args.exits.now) clause c.clause_at-found.result.now (narrowed_entry c.args.program.now o c.args.pred (map seen c.args.entry.now)) (map seen c.as_slice.result.now) same (ap (λ vs. Some (map seen vs)) c.as_slice.ensures ∙ sym (ap list_seen c.in-Some.is) ∙ c.in_ok-narrowed_entry.ensures))
    c.run_from.ensures

pub run_from-requires-clause-head : goal.run_from-requires-clause-head
run_from-requires-clause-head c = (clause_within c.args.program.now c.requires.range (pred_of c.args.program.now c.args.pred).arity c.clause_at-found.result.now c.clause_at-found.ensures.range).0

pub run_from-requires-clause-body : goal.run_from-requires-clause-body
run_from-requires-clause-body c = (clause_within c.args.program.now c.requires.range (pred_of c.args.program.now c.args.pred).arity c.clause_at-found.result.now c.clause_at-found.ensures.range).1
