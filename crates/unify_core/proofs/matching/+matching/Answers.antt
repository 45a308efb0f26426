use Rattle.std.proofs.Common.{◌<◌, ◌≤◌, ◌∷◌, [], sym, subst, arith}
use Rattle.std.proofs.lemmas.Result.{IfOk-weaker}
use Rattle.term_core.specs.declared.terms.Term.{out-Term}
use Rattle.term_core.specs.Sizes.{size, size_all}
use Rattle.term_core.proofs.VariantLaws.{view}
use Rattle.term_heap.proofs.PastLaws.{goes_further}
use Rattle.unify_core.specs.Heads.{HasMatched}
use Rattle.unify_core.specs.Unmet.{MayMatch, AreMet, IsAlike, Seen}
use Rattle.unify_core.proofs.HeadLaws.{size_at, gone_none, turn_may, turn_more, turn_clash, turn_cycle, gone_all}
use Rattle.unify_core.proofs.MatchLaws.{goes_itself, goes_sizes, alike_may, alike_matched, alike_met, parts_smaller}
use Rattle.unify_core.proofs.matching.+matching.Goals as goal

pub match_term-match_row-requires : goal.match_term-match_row-requires
match_term-match_row-requires t c =
    let h = c.args.heap.now.changes in
    let first = c.in-Alike.first in
    let term = c.args.term.now in
    let alike : IsAlike h c.args.at first (out-Term term) = subst (Seen h c.args.at term) c.in-Alike.is c.see.ensures in
    let less : size_all c.parts.result.now < size term = subst (λ ts. size_all ts < size term) (sym c.parts.ensures) (parts_smaller term (view term)) in
    (omega (arith, less, c.decreases), subst (MayMatch h c.args.base c.args.next.now first) (sym c.parts.ensures) (alike_may h c.args.base c.args.next.now c.args.at first term (view term) c.requires alike))

pub match_term-returns-in-Alike-clause-matched : goal.match_term-returns-in-Alike-clause-matched
match_term-returns-in-Alike-clause-matched t c =
    let h = c.args.heap.now.changes in
    let first = c.in-Alike.first in
    let term = c.args.term.now in
    let new = c.match_row.new.heap.changes in
    let alike : IsAlike h c.args.at first (out-Term term) = subst (Seen h c.args.at term) c.in-Alike.is c.see.ensures in
    IfOk-weaker c.match_row.result _ _ (λ u m. alike_matched h c.args.base c.args.next.now c.args.at first term u new alike (subst (λ ts. HasMatched h c.args.base first ts u new) c.parts.ensures m)) c.match_row.ensures.matched

pub match_term-returns-in-Alike-clause-met : goal.match_term-returns-in-Alike-clause-met
match_term-returns-in-Alike-clause-met t c =
    let h = c.args.heap.now.changes in
    let first = c.in-Alike.first in
    let term = c.args.term.now in
    let last = c.match_row.new.next in
    let alike : IsAlike h c.args.at first (out-Term term) = subst (Seen h c.args.at term) c.in-Alike.is c.see.ensures in
    IfOk-weaker c.match_row.result _ _ (λ u m. alike_met h c.args.at first c.args.next.now last term u alike (subst (λ ts. AreMet u c.args.next.now ts last) c.parts.ensures m)) c.match_row.ensures.met

pub match_row-match_term-requires : goal.match_row-match_term-requires
match_row-match_term-requires t c =
    let old = c.args.heap.now in
    let mid = c.loop-term.heap in
    let i = c.loop-term.term-index in
    let ts = c.args.terms.now in
    let term = c.term-item.result in
    let inv = c.loop-term.invariant in
    let less : size term ≤ size_all ts = size_at i ts term c.loop-term-test.true c.term-item.is in
    (omega (arith, less, c.decreases), turn_may c.sequence_law.ensures old mid c.args.base c.args.next.now c.args.first i c.loop-term.at ts term c.requires c.loop-term.next inv.gone c.loop-term-test.true c.term-item.is inv.place (goes_sizes old mid inv.goes_on))

pub match_row-returns-in_err-match_term-clause-later : goal.match_row-returns-in_err-match_term-clause-later
match_row-returns-in_err-match_term-clause-later t c = goes_further c.args.heap.now c.loop-term.heap c.match_term.new.heap c.loop-term.invariant.goes_on c.match_term.ensures.later

pub match_row-returns-in-Clash-clause-matched : goal.match_row-returns-in-Clash-clause-matched
match_row-returns-in-Clash-clause-matched t c =
    let old = c.args.heap.now in
    let mid = c.loop-term.heap in
    let ts = c.args.terms.now in
    let term = c.term-item.result in
    let inv = c.loop-term.invariant in
    let new = c.match_term.new.heap.changes in
    turn_clash c.sequence_law.ensures old mid c.args.base c.args.next.now c.args.first c.loop-term.term-index c.loop-term.at ts term c.requires c.loop-term.next inv.gone c.loop-term-test.true c.term-item.is inv.place (goes_sizes old mid inv.goes_on)
    new (subst (λ u. HasMatched mid.changes c.args.base c.loop-term.at (term ∷ []) u new) c.in-Clash.is c.in_ok-match_term.ensures.matched)

pub match_row-returns-in-Clash-clause-later : goal.match_row-returns-in-Clash-clause-later
match_row-returns-in-Clash-clause-later t c = goes_further c.args.heap.now c.loop-term.heap c.match_term.new.heap c.loop-term.invariant.goes_on c.match_term.ensures.later

pub match_row-returns-in-Cyclic-clause-matched : goal.match_row-returns-in-Cyclic-clause-matched
match_row-returns-in-Cyclic-clause-matched t c =
    let old = c.args.heap.now in
    let mid = c.loop-term.heap in
    let ts = c.args.terms.now in
    let term = c.term-item.result in
    let inv = c.loop-term.invariant in
    let new = c.match_term.new.heap.changes in
    turn_cycle c.sequence_law.ensures old mid c.args.base c.args.next.now c.args.first c.loop-term.term-index c.loop-term.at ts term c.requires c.loop-term.next inv.gone c.loop-term-test.true c.term-item.is inv.place (goes_sizes old mid inv.goes_on)
    new (subst (λ u. HasMatched mid.changes c.args.base c.loop-term.at (term ∷ []) u new) c.in-Cyclic.is c.in_ok-match_term.ensures.matched)

pub match_row-returns-in-Cyclic-clause-later : goal.match_row-returns-in-Cyclic-clause-later
match_row-returns-in-Cyclic-clause-later t c = goes_further c.args.heap.now c.loop-term.heap c.match_term.new.heap c.loop-term.invariant.goes_on c.match_term.ensures.later

pub match_row-loop-term-preserved : goal.match_row-loop-term-preserved
match_row-loop-term-preserved t c =
    let old = c.args.heap.now in
    let mid = c.loop-term.heap in
    let ts = c.args.terms.now in
    let term = c.term-item.result in
    let inv = c.loop-term.invariant in
    let new = c.match_term.new.heap in
    let last = c.match_term.new.next in
    record {
      gone = turn_more c.sequence_law.ensures old mid c.args.base c.args.next.now c.args.first c.loop-term.term-index c.loop-term.at ts term c.requires c.loop-term.next inv.gone c.loop-term-test.true c.term-item.is inv.place (goes_sizes old mid inv.goes_on)
          new last (subst (λ u. HasMatched mid.changes c.args.base c.loop-term.at (term ∷ []) u new.changes) c.in-Same.is c.in_ok-match_term.ensures.matched)
          (subst (λ u. AreMet u c.loop-term.next (term ∷ []) last) c.in-Same.is c.in_ok-match_term.ensures.met);
      goes_on = goes_further old mid new inv.goes_on c.match_term.ensures.later;
      place = omega (arith, inv.place);
    }

pub match_row-returns-clause-matched : goal.match_row-returns-clause-matched
match_row-returns-clause-matched t c =
    (gone_all c.loop-term.term-index c.args.heap.now c.loop-term.heap c.args.base c.args.first c.args.next.now c.loop-term.next c.args.terms.now (λ lt. omega (arith, lt, c.loop-term-test.false)) c.loop-term.invariant.gone).0

pub match_row-loop-term-init : goal.match_row-loop-term-init
match_row-loop-term-init t c = record {
  gone = gone_none c.args.heap.now c.args.base c.args.first c.args.next.now;
  goes_on = goes_itself c.args.heap.now;
  place = omega arith;
}
