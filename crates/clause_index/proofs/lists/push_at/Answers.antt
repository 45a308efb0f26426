use Rattle.std.proofs.Common.{ap, ◌∙◌}
use Rattle.indexmap.specs.IndexMap.{set_value_at}
use Rattle.clause_index.proofs.FoundLaws.{set_placed}
use Rattle.clause_index.proofs.lists.push_at.Goals as goal

pub returns : goal.returns
returns c =
    let es = c.args.lists.now.entries in
    ap (set_value_at es c.args.at) c.in_ok-push.ensures.ok ∙ set_placed es c.args.at c.args.place c.index_mut.result.now c.index_mut.ensures.value
