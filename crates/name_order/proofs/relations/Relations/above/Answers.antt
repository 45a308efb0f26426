use Rattle.std.proofs.Common.{◌<◌, [], length, ap, sym, ◌∙◌, subst}
use Rattle.std.specs.Prelude.{slice_index_or}
use Rattle.prog_data.specs.Values.{bit_at}
use Rattle.name_order.specs.Relations.{below}
use Rattle.name_order.proofs.relations.Relations.above.Goals as goal

pub returns : goal.returns
returns c =
    c.set_at.ensures ∙ ap (λ rows. bit_at (slice_index_or rows c.args.name [])) c.as_slice.ensures
    ∙ c.self.invariant.aboves c.args.name (subst (λ g. c.args.name < length g.rules) (sym c.self.view_is) c.requires)
    ∙ ap (λ g. below g c.args.name) c.self.view_is
