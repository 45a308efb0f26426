use Rattle.std.proofs.Common.{sym, ap, ◌∙◌, ◌+◌}
use Rattle.ciao_tokens.specs.TokensRead.{stand, shape_of}
use Rattle.ciao_tokens.proofs.ScanLaws.{with_added}
use Rattle.ciao_tokens.proofs.scanner.Scan.add.Goals as goal

pub returns-in_ok-add_token-in-Some-clause-stand : goal.returns-in_ok-add_token-in-Some-clause-stand
returns-in_ok-add_token-in-Some-clause-stand c =
    ap (λ s. stand s (c.args.start + c.args.size)) c.in_ok-add_token-in-Some.ensures
    ∙ with_added c.args.names.now c.args.self.now c.args.start c.args.size _ c.args.left.now (shape_of c.args.part) _ c.line_feeds-feeds.ensures.count (sym c.in_ok-kind_of.ensures.kind ∙ c.in-Some.is)
