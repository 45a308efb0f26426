use Rattle.std.proofs.Common.{◌+◌, get_or, drop, ap, sym, ◌∙◌}
use Rattle.std.specs.Prelude.{◌||◌, nat_eq}
use Rattle.std.specs.List.{list_any}
use Rattle.std.proofs.lemmas.List.{at_drop_more, at_drop_all}
use Rattle.run_report.proofs.Sets.{or_false, or_turn}
use Rattle.run_report.proofs.kept.set_of.Goals as goal

pub loop-number-init : goal.loop-number-init
loop-number-init c = λ n. ap (λ ks. list_any (nat_eq n) c.args.numbers.now || list_any (nat_eq n) ks) c.new-set.ensures.empty ∙ or_false (list_any (nat_eq n) c.args.numbers.now)

pub loop-number-preserved : goal.loop-number-preserved
loop-number-preserved c = λ n.
    let numbers = c.args.numbers.now in
    let i = c.loop-number.number-index in
    let keys = c.loop-number.set.keys in
    ap (λ b. list_any (nat_eq n) (drop (i + 1) numbers) || b) (c.in_ok-add.ensures n)
    ∙ sym (or_turn (nat_eq n (get_or numbers i 0)) (list_any (nat_eq n) (drop (i + 1) numbers)) (list_any (nat_eq n) keys))
    ∙ sym (at_drop_more (λ vs. list_any (nat_eq n) vs || list_any (nat_eq n) keys) numbers i 0 c.loop-number-test.true)
    ∙ c.loop-number.invariant n

pub returns : goal.returns
returns c = λ n.
    sym (at_drop_all (λ vs. list_any (nat_eq n) vs || list_any (nat_eq n) c.loop-number.set.keys) c.args.numbers.now c.loop-number.number-index c.loop-number-test.false) ∙ c.loop-number.invariant n
