use Rattle.std.proofs.Common.{◌≡◌, ℕ, drop}
use Rattle.std.specs.Prelude.{filter}
use Rattle.body_code.specs.Scopes.{is_named, meaning_of_preds}
use Rattle.body_code.specs.Indexes.{looked_up}
use Rattle.body_code.proofs.IndexLaws.{with_more}
use Rattle.body_code.proofs.scopes.index_of.Given as goal

abbrev pub invariant-loop-named : goal.invariant-loop-named
invariant-loop-named l = (name arity : ℕ) → with_more (looked_up l.index name arity) (filter (is_named name arity) (drop l.named-index l.preds)) ≡ meaning_of_preds (filter (is_named name arity) l.preds)
