use Rattle.std.proofs.Common.{rules, ◌≡◌, ◌∙◌, sym, false, true, Some, nat_abs, to_z, of_z, w64}
use Rattle.term_core.specs.Operators.{added, is_torn}
use Rattle.term_core.specs.Standard.{change}
use Rattle.term_core.proofs.OperatorTables.{torn_now}
use Rattle.term_core.proofs.operators.OpTable.add.Goals as goal

pub returns-then-is_torn_at-clause-refused : goal.returns-then-is_torn_at-clause-refused
returns-then-is_torn_at-clause-refused c =
    let torn : is_torn c.in_ok-changed.changed ≡ true = torn_now (nat_abs (to_z w64 (of_z w64 c.args.priority))) c.args.kind c.args.name c.self.inside.operators c.in_ok-changed.changed c.self.invariant c.in_ok-changed.ensures ∙ sym c.is_torn_at.ensures ∙ c.if-is_torn_at.true in
    search (rules, torn)

pub invariant_of-self : goal.invariant_of-self
invariant_of-self c =
    let whole : is_torn c.in_ok-changed.changed ≡ false = torn_now (nat_abs (to_z w64 (of_z w64 c.args.priority))) c.args.kind c.args.name c.self.inside.operators c.in_ok-changed.changed c.self.invariant c.in_ok-changed.ensures ∙ sym c.is_torn_at.ensures ∙ c.if-is_torn_at.false in
    let made : added c.args.priority c.args.kind c.args.name c.self.inside.operators ≡ Some c.in_ok-changed.changed = search (rules, whole) in
    change c.self.inside.operators c.args.priority c.args.kind c.args.name c.self.invariant made

pub returns-clause-ok : goal.returns-clause-ok
returns-clause-ok c =
    let whole : is_torn c.in_ok-changed.changed ≡ false = torn_now (nat_abs (to_z w64 (of_z w64 c.args.priority))) c.args.kind c.args.name c.self.inside.operators c.in_ok-changed.changed c.self.invariant c.in_ok-changed.ensures ∙ sym c.is_torn_at.ensures ∙ c.if-is_torn_at.false in
    search (rules, whole)
