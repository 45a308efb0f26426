use Rattle.std.proofs.Common.{reverse, sym, ◌<◌, subst}
use Rattle.ciao_reader.specs.Steps.{need, have, now}
use Rattle.ciao_reader.proofs.Followed.{Followed, at_start, followed_on, done_read, stuck_unread, weight, have_below}
use Rattle.ciao_reader.proofs.reading.read_words.Goals as goal

pub loop-mode-init : goal.loop-mode-init
loop-mode-init c = subst (λ st. Followed c.args.ops.now c.args.words.now (need 1200 c.args.words.now (reverse st))) (sym c.new-stack.ensures) (at_start c.args.ops.now c.args.words.now)

pub returns-in-Done-clause-some : goal.returns-in-Done-clause-some
returns-in-Done-clause-some c =
    done_read c.args.ops.now c.args.words.now c.in-Done.part
    (subst (λ m. Followed c.args.ops.now c.args.words.now (now m c.loop-mode.left.now (reverse c.loop-mode.stack))) c.in-Done.is c.loop-mode.invariant)

pub returns-in-Stuck-clause-none : goal.returns-in-Stuck-clause-none
returns-in-Stuck-clause-none c =
    stuck_unread c.args.ops.now c.args.words.now c.made.ensures
    (subst (λ m. Followed c.args.ops.now c.args.words.now (now m c.loop-mode.left.now (reverse c.loop-mode.stack))) c.in-Stuck.is c.loop-mode.invariant)

pub loop-mode-preserved-in-Need : goal.loop-mode-preserved-in-Need
loop-mode-preserved-in-Need c =
    followed_on c.args.ops.now c.args.words.now (need c.in-Need.most c.loop-mode.left.now (reverse c.loop-mode.stack)) _
    (subst (λ m. Followed c.args.ops.now c.args.words.now (now m c.loop-mode.left.now (reverse c.loop-mode.stack))) c.in-Need.is c.loop-mode.invariant)
    c.in_ok-stepped-in-Need.ensures

pub loop-mode-preserved : goal.loop-mode-preserved
loop-mode-preserved c =
    followed_on c.args.ops.now c.args.words.now (have c.in-Have.most c.in-Have.priority c.in-Have.part c.loop-mode.left.now (reverse c.loop-mode.stack)) _
    (subst (λ m. Followed c.args.ops.now c.args.words.now (now m c.loop-mode.left.now (reverse c.loop-mode.stack))) c.in-Have.is c.loop-mode.invariant)
    c.in_ok-stepped-in-Have.ensures

pub loop-mode-smaller : goal.loop-mode-smaller
loop-mode-smaller c =
    subst (λ m. weight (now c.in_ok-stepped-in-Have.stepped.mode c.in_ok-stepped-in-Have.stepped.left.now (reverse c.after_have.new.stack)) < weight (now m c.loop-mode.left.now (reverse c.loop-mode.stack))) (sym c.in-Have.is)
    (subst (λ n. weight n < weight (have c.in-Have.most c.in-Have.priority c.in-Have.part c.loop-mode.left.now (reverse c.loop-mode.stack))) (sym c.in_ok-stepped-in-Have.ensures)
    (have_below c.args.ops.now c.in-Have.most c.in-Have.priority c.in-Have.part c.loop-mode.left.now (reverse c.loop-mode.stack)))
