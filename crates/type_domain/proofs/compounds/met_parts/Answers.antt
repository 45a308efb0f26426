use Rattle.std.proofs.Common.{ap, sym, ◌∙◌}
use Rattle.prog_data.specs.Values.{bit_at}
use Rattle.name_order.specs.Relations.{order}
use Rattle.type_domain.specs.Values.{name_part, names_of}
use Rattle.type_domain.specs.Meeting.{fitting}
use Rattle.type_domain.proofs.InLaws.{top_fits}
use Rattle.type_domain.proofs.Meeting.{met_once}
use Rattle.type_domain.proofs.compounds.met_parts.Goals as goal

pub returns : goal.returns
returns c =
    c.fitting.ensures ∙ ap (fitting (order c.args.rel.now)) c.said_parts.ensures
    ∙ sym (met_once (order c.args.rel.now) (bit_at c.args.words.now) (name_part (order c.args.rel.now) c.args.place.name c.args.place.arity c.args.place.part)
    (top_fits c.args.rel.now (c.relied_law.ensures c.args.rel.now c.range.ensures)) (names_of (order c.args.rel.now)))
