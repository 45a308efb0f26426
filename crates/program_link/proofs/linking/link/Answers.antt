use Rattle.std.proofs.lemmas.Result.{IfOk-weaker}
use Rattle.program_link.proofs.LinkedLaws.{linked_in_range}
use Rattle.program_link.proofs.LowerLaws.{LowerLaws}
use Rattle.program_link.proofs.linking.link.Goals as goal

pub returns-clause-range : goal.returns-clause-range
returns-clause-range c =
    let lower : LowerLaws = record {
      files = c.files_in_range_law.ensures;
      seen = c.types_seen_law.ensures;
      grammars = c.grammars_in_range_law.ensures;
      heads = c.compiled_in_range_law.ensures.heads;
      clauses = c.compiled_in_range_law.ensures.clauses;
      grow = c.ranges_grow_law.ensures;
      normals = c.normals_in_range_law.ensures;
    } in
    IfOk-weaker c.link_sources-result.result _ _ (λ program linked. (linked_in_range c.args.names c.args.units.now lower c.len.ensures.begins c.requires.units program linked).0) c.link_sources-result.ensures.linked

pub returns-clause-as_linked : goal.returns-clause-as_linked
returns-clause-as_linked c =
    let lower : LowerLaws = record {
      files = c.files_in_range_law.ensures;
      seen = c.types_seen_law.ensures;
      grammars = c.grammars_in_range_law.ensures;
      heads = c.compiled_in_range_law.ensures.heads;
      clauses = c.compiled_in_range_law.ensures.clauses;
      grow = c.ranges_grow_law.ensures;
      normals = c.normals_in_range_law.ensures;
    } in
    IfOk-weaker c.link_sources-result.result _ _ (λ program linked. (linked_in_range c.args.names c.args.units.now lower c.len.ensures.begins c.requires.units program linked).1) c.link_sources-result.ensures.linked
