use Rattle.std.proofs.Common.{refl, sym, ◌∙◌}
use Rattle.ciao_tokens.specs.TokensRead.{stand, shape_of}
use Rattle.ciao_tokens.proofs.ScanLaws.{found_piece, has_read}
use Rattle.ciao_tokens.proofs.scanner.Scan.read.Goals as goal

pub returns-clause-ok : goal.returns-clause-ok
returns-clause-ok c =
    has_read (shape_of c.args.found.part) c.args.left.now c.args.found.behind.now _ _ _ (stand c.add.new.self) _ c.args.start _
    (found_piece c.args.found.part _ _ (sym c.is_too_large.ensures ∙ c.if-is_too_large.false) c.requires.found) refl c.in_ok-add.ensures.names c.in_ok-add.ensures.stand c.as_bytes.ensures.value
