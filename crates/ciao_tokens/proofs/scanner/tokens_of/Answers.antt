use Rattle.std.proofs.Common.{sym, ap, ◌∙◌, length, arith}
use Rattle.ciao_tokens.specs.TokensRead.{stand}
use Rattle.ciao_tokens.proofs.NamePlaces.{front_twice}
use Rattle.ciao_tokens.proofs.TokenLaws.{shorter, stands_at, all_read}
use Rattle.ciao_tokens.proofs.scanner.tokens_of.Goals as goal

pub loop-first-smaller : goal.loop-first-smaller
loop-first-smaller c = shorter _ _ _ _ _ _ c.in_ok-left.ensures.ok

pub loop-first-preserved : goal.loop-first-preserved
loop-first-preserved c =
    let inv = c.loop-first.invariant in
    let less = shorter _ _ _ _ _ _ c.in_ok-left.ensures.ok in (
      stands_at c.args.text.now c.args.names.now _ _ _ _ (stand c.loop-first.scan) (stand c.step.new.self) (length c.args.text.now) inv.1 inv.0 c.in_ok-left.ensures.ok,
      omega (arith, less, inv.1),
      omega (arith, c.in_ok-left.ensures.line, inv.2),
      front_twice _ _ _ inv.3 c.in_ok-left.ensures.kept,
      c.in_ok-left.ensures.utf8,
    )

pub returns-clause-ok : goal.returns-clause-ok
returns-clause-ok c =
    all_read c.args.text.now c.args.names.now _ _ _ c.utf8.text c.loop-first.invariant.0 (sym (ap length c.as_bytes-in-loop-first.ensures.value) ∙ c.in_default.ensures.cases)
