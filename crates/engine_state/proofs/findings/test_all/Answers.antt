use Rattle.std.proofs.Common.{◌≡◌, ◌+◌, ℕ, Bool, List, None, Some, get_or, sym, ap, subst, arith}
use Rattle.machine_model.specs.Step.{finding}
use Rattle.engine_state.specs.Tested.{found}
use Rattle.engine_state.specs.Findings.{IsAdded, HasAdded}
use Rattle.engine_state.proofs.FindingLaws.{whole, none_added, turn, all_added}
use Rattle.engine_state.proofs.findings.test_all.Goals as goal

pub loop-condition-init : goal.loop-condition-init
loop-condition-init g c = (c.requires, λ test h. none_added c.args.stops c.args.counts (λ d. finding (test d)) c.args.told.now.items)

pub returns-in-Some : goal.returns-in-Some
returns-in-Some g c = λ test h.
    let cs = c.args.conditions.now in
    let i = c.loop-condition.condition-index in
    let here = get_or cs i 0 in
    let small = c.type_inv.conditions i in
    let held = c.holds-is_held.result in
    let told = c.args.told.now.items in
    let mid = c.loop-condition.told.items in
    let new = c.add_finding.new.told.items in
    let total = c.in_ok-one.one.tests in
    let is : finding (test here) ≡ finding held = ap finding (sym (h here held (omega (arith, small)) c.holds-is_held.ensures)) in
    all_added c.args.stops c.args.counts (λ d. finding (test d)) cs (i + 1) told new total c.in-Some.ending
    (turn c.args.stops c.args.counts (λ d. finding (test d)) cs i held told mid c.loop-condition.tests new total (Some c.in-Some.ending) c.loop-condition-test.true is (c.loop-condition.invariant.1 test h)
    (subst (λ e. IsAdded mid c.loop-condition.tests (found c.args.stops c.args.counts here (finding held)) new total e) c.in-Some.is c.in_ok-one.ensures))

pub loop-condition-preserved : goal.loop-condition-preserved
loop-condition-preserved g c = (
  c.loop-condition.invariant.0,
  λ test h.
      let cs = c.args.conditions.now in
      let i = c.loop-condition.condition-index in
      let here = get_or cs i 0 in
      let small = c.type_inv.conditions i in
      let held = c.holds-is_held.result in
      let mid = c.loop-condition.told.items in
      let new = c.add_finding.new.told.items in
      let total = c.in_ok-one.one.tests in
      let is : finding (test here) ≡ finding held = ap finding (sym (h here held (omega (arith, small)) c.holds-is_held.ensures)) in
      turn c.args.stops c.args.counts (λ d. finding (test d)) cs i held c.args.told.now.items mid c.loop-condition.tests new total None c.loop-condition-test.true is (c.loop-condition.invariant.1 test h)
      (subst (λ e. IsAdded mid c.loop-condition.tests (found c.args.stops c.args.counts here (finding held)) new total e) c.in-None.is c.in_ok-one.ensures),
)

pub returns : goal.returns
returns g c = λ test h.
    let cs = c.args.conditions.now in
    let le = c.loop-condition-test.false in
    subst (λ xs. HasAdded c.args.stops c.args.counts (λ d. finding (test d)) xs c.args.told.now.items c.loop-condition.told.items c.loop-condition.tests None) (whole cs c.loop-condition.condition-index (omega (arith, le))) (c.loop-condition.invariant.1 test h)
