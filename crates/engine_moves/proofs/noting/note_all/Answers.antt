use Rattle.std.proofs.Common.{◌≡◌, ◌+◌, ◌-◌, ◌^◌, ℕ, Bool, min, [], ◌∷◌, filter, take, get_or, subst, arith}
use Rattle.std.proofs.lemmas.List.{take_all, take_more}
use Rattle.std.proofs.lemmas.List.Elements.{filter-append}
use Rattle.prog_data.specs.Conditions.{kind_of}
use Rattle.prop_check.specs.Places.{row_at}
use Rattle.engine_moves.specs.Looking.{is_of, IsNoted}
use Rattle.engine_moves.proofs.NotingLaws.{none_noted, turn_noted}
use Rattle.engine_moves.proofs.noting.note_all.Goals as goal

pub loop-condition-init : goal.loop-condition-init
loop-condition-init c = none_noted c.args.program.now (row_at c.args.heap.now.changes c.args.args.first c.args.args.count) c.args.notes.now.items

pub loop-condition-preserved : goal.loop-condition-preserved
loop-condition-preserved c =
    let cs = c.args.conditions.now in
    let i = c.loop-condition.condition-index in
    let test : ℕ → Bool = λ d. is_of c.args.kind (kind_of c.args.program.now d) in
    let sum : c.saturating_add-tests.result ≡ min (c.loop-condition.tests + c.in_ok-one.one) (2 ^ 64 - 1) = omega (arith, c.saturating_add-tests.ensures) in
    turn_noted c.args.program.now (row_at c.args.heap.now.changes c.args.args.first c.args.args.count) (filter test) (λ x. filter test (x ∷ [])) (λ xs x. filter-append test xs (x ∷ [])) (take i cs) (take (i + 1) cs) (get_or cs i 0)
    (take_more cs i 0 c.loop-condition-test.true)
    c.args.notes.now.items c.loop-condition.notes.items c.note_by_kind.new.notes.items c.loop-condition.tests c.in_ok-one.one c.saturating_add-tests.result c.loop-condition.invariant c.in_ok-one.ensures sum

pub returns : goal.returns
returns c =
    let cs = c.args.conditions.now in
    let le = c.loop-condition-test.false in
    let test : ℕ → Bool = λ d. is_of c.args.kind (kind_of c.args.program.now d) in
    subst (λ xs. IsNoted c.args.program.now (row_at c.args.heap.now.changes c.args.args.first c.args.args.count) (filter test xs) c.args.notes.now.items c.loop-condition.notes.items c.loop-condition.tests)
    (take_all c.loop-condition.condition-index cs (omega (arith, le))) c.loop-condition.invariant
