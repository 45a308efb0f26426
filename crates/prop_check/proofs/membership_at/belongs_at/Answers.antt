use Rattle.term_heap.specs.Changes.{value_of}
use Rattle.prop_check.proofs.OneOfLaws.{single_belongs}
use Rattle.prop_check.proofs.membership_at.belongs_at.Goals as goal

pub returns : goal.returns
returns c =
    single_belongs c.args.grammar.now c.grammar_fits.ensures (value_of c.args.heap.now.changes c.args.place) c.args.name c.put.new.names c.one_belongs.result c.put.ensures c.one_belongs.ensures.some c.one_belongs.ensures.none
