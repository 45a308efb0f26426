use Rattle.std.proofs.Common.{◌≡◌, ◌+◌, ◌-◌, length, arith}
use Rattle.std.proofs.lemmas.Bool.Decides.{nat_tests}
use Rattle.fixpoint_analyser.proofs.CallerLaws.{ends_at}
use Rattle.fixpoint_analyser.proofs.callers.ends_in.Goals as goal

pub returns : goal.returns
returns c =
    let ns = c.args.numbers.now in
    let is : length ns - 1 + 1 ≡ length ns = grind (arith, nat_tests, c.if-count-eq0.false) in
    ends_at ns (length ns - 1) c.args.number is
