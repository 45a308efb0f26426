use Rattle.std.proofs.Common.{arith}
use Rattle.std.proofs.lemmas.Result.{IfOk-weaker}
use Rattle.term_heap.specs.Changes.{size_of}
use Rattle.term_heap.proofs.PastLaws.{goes_further}
use Rattle.unify_core.proofs.MatchLaws.{loaded_places, loaded_matched, loaded_met, loaded_goes}
use Rattle.unify_core.proofs.matching.match_loaded.Goals as goal

pub load-requires : goal.load-requires
load-requires c = loaded_places c.requires.limit (size_of c.args.heap.now.changes) c.args.base c.args.term.now c.requires.there c.requires.placed.0

pub returns-clause-matched : goal.returns-clause-matched
returns-clause-matched c =
    IfOk-weaker c.unify.result _ _
    (λ u has. loaded_matched c.args.heap.now c.load.new.self c.args.base c.args.at c.in_ok-place.place c.args.term.now c.in_ok-place.ensures.ok (omega (arith, c.requires.within)) u c.unify.new.heap.changes has)
    c.unify.ensures.unified

pub returns-clause-met : goal.returns-clause-met
returns-clause-met c =
    IfOk-weaker c.unify.result _ _
    (λ u has. loaded_met c.requires.limit (size_of c.args.heap.now.changes) c.args.base c.args.next.now c.pass.new.next c.args.term.now u c.requires.placed.0 c.requires.there (omega (arith, c.len-size.ensures.len)) c.pass.ensures)
    c.unify.ensures.unified

pub returns-clause-later : goal.returns-clause-later
returns-clause-later c =
    goes_further c.args.heap.now c.load.new.self c.unify.new.heap (loaded_goes c.args.heap.now c.load.new.self c.args.base c.in_ok-place.place _ c.len-size.ensures.last c.in_ok-place.ensures.ok) c.unify.ensures.later.goes_on
