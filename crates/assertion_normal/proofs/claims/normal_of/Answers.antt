use Rattle.std.proofs.Common.{◌+◌, ◌++◌, drop, length, ap, sym, ◌∙◌}
use Rattle.term_core.proofs.Turns.{turn}
use Rattle.assertion_normal.specs.Conditions.{conditions_from, claims_from, entries_of}
use Rattle.assertion_normal.proofs.TurnLaws.{conditions_turn, claims_turn, entries_turn}
use Rattle.assertion_normal.proofs.claims.normal_of.Goals as goal

pub loop-settled-preserved : goal.loop-settled-preserved
loop-settled-preserved c =
    let file = c.args.about.file in
    let pred = c.args.about.pred in
    let first = c.args.about.first in
    let list = c.args.list.now in
    let at = c.loop-settled.settled-index in
    let rest = drop (at + 1) list in
    let one = c.settled-item.result in
    let conds = c.loop-settled.conds in
    let number = length conds + first in
    record {
      conds = conditions_turn file pred first conds c.add_own.new.conds _ one rest c.in_ok-add_own.ensures
          (sym (turn (λ ss. conds ++ conditions_from file pred number ss) list at one c.loop-settled-test.true c.settled-item.is) ∙ c.loop-settled.invariant.conds);
      claims = claims_turn file pred first c.in_ok-from.from c.in_ok-to.to conds c.add_own.new.conds c.loop-settled.claims c.add_claim.new.claims _ one rest
          (c.in_ok-from.ensures ∙ ap (λ n. n + first) c.len.ensures) (c.in_ok-to.ensures ∙ ap (λ n. n + first) c.len-in-loop-settled.ensures) c.in_ok-add_own.ensures c.in_ok-add_claim.ensures
          (sym (turn (λ ss. c.loop-settled.claims ++ claims_from file pred first number ss) list at one c.loop-settled-test.true c.settled-item.is) ∙ c.loop-settled.invariant.claims);
      entries = entries_turn pred c.loop-settled.entries c.add_entry.new.entries _ one rest c.in_ok-add_entry.ensures
          (sym (turn (λ ss. c.loop-settled.entries ++ entries_of pred ss) list at one c.loop-settled-test.true c.settled-item.is) ∙ c.loop-settled.invariant.entries);
    }
