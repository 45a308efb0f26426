use Rattle.std.proofs.Common.{[], ap, ◌∙◌}
use Rattle.std.specs.List.{list_any}
use Rattle.unit_scopes.specs.Indicators.{is_among}
use Rattle.unit_scopes.specs.Numbering.{heads_behind}
use Rattle.unit_scopes.specs.Imports.{is_named_in, lets_in}
use Rattle.unit_scopes.specs.Sources.{lets}
use Rattle.unit_scopes.proofs.IndexLaws.{named_is, lets_is}
use Rattle.unit_scopes.proofs.indexes.index_of.Goals as goal

pub returns : goal.returns
returns c = record {
  defined = c.in_ok-defined.ensures ∙ ap (heads_behind []) c.as_slice.ensures;
  all = c.exports_all.ensures;
  exported = λ p. ap (is_among p) c.in_ok-exported.ensures ∙ named_is p [] c.named_exports.result.now ∙ ap (λ es. is_named_in es p) c.named_exports.ensures;
  lets_in = λ at p. ap (λ i. lets i at p) c.in_ok-whole.ensures ∙ lets_is at p (record { whole = []; wanted = [] }) c.as_slice-2.result.now ∙ ap (list_any (lets_in at p)) c.as_slice-2.ensures;
}
