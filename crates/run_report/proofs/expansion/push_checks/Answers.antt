use Rattle.std.proofs.Common.{◌++◌, map, filter, ◌∙◌}
use Rattle.run_report.specs.Expansion.{numbered_line}
use Rattle.run_report.proofs.expansion.push_checks.Goals as goal

pub returns : goal.returns
returns c =
    let program = c.args.program.now in
    c.in_ok-push_among.ensures ∙ (λ i. c.args.lines.now ++ map (numbered_line program) (filter (λ n. c.in_ok-kept.ensures n i) c.args.pred.now.conds))
