use Rattle.std.proofs.Common.{ap}
use Rattle.term_heap.specs.Changes.{next_serial}
use Rattle.heap_tests.proofs.Premises.{ready}
use Rattle.heap_tests.proofs.heads.head_ends.Goals as goal

pub match_head-requires-clause-base : goal.match_head-requires-clause-base
match_head-requires-clause-base c =
    let old = c.args.heap.now in
    (ready c.new_law.ensures old.changes c.fresh.new.self.changes c.in_ok-base.base c.args.first (next_serial old.last) c.args.head.now c.len-size.ensures.made (ap (λ h. h.changes) c.in_ok-base.ensures.ok) c.in_ok-base.ensures.place c.requires.block c.requires.head).base_in

pub match_head-requires-clause-block : goal.match_head-requires-clause-block
match_head-requires-clause-block c =
    let old = c.args.heap.now in
    (ready c.new_law.ensures old.changes c.fresh.new.self.changes c.in_ok-base.base c.args.first (next_serial old.last) c.args.head.now c.len-size.ensures.made (ap (λ h. h.changes) c.in_ok-base.ensures.ok) c.in_ok-base.ensures.place c.requires.block c.requires.head).block

pub match_head-requires-clause-terms : goal.match_head-requires-clause-terms
match_head-requires-clause-terms c =
    let old = c.args.heap.now in
    (ready c.new_law.ensures old.changes c.fresh.new.self.changes c.in_ok-base.base c.args.first (next_serial old.last) c.args.head.now c.len-size.ensures.made (ap (λ h. h.changes) c.in_ok-base.ensures.ok) c.in_ok-base.ensures.place c.requires.block c.requires.head).terms

pub match_head-requires-clause-new : goal.match_head-requires-clause-new
match_head-requires-clause-new c =
    let old = c.args.heap.now in
    (ready c.new_law.ensures old.changes c.fresh.new.self.changes c.in_ok-base.base c.args.first (next_serial old.last) c.args.head.now c.len-size.ensures.made (ap (λ h. h.changes) c.in_ok-base.ensures.ok) c.in_ok-base.ensures.place c.requires.block c.requires.head).are_new
