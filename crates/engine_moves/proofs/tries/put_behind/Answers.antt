use Rattle.std.proofs.Common.{sym, ◌∙◌}
use Rattle.engine_moves.proofs.EnterLaws.{behind_none, behind_exit}
use Rattle.engine_moves.proofs.tries.put_behind.Goals as goal

pub returns-then-has_exit : goal.returns-then-has_exit
returns-then-has_exit c =
    let e = c.args.engine.now in
    behind_exit c.args.reading e c.args.body.now c.args.pending c.requires.kept c.requires.placed c.put_exit.new.self c.in_ok-link.link (sym c.if-has_exit.true ∙ c.has_exit.ensures e.program.now) c.in_ok-link.ensures

pub returns : goal.returns
returns c =
    let e = c.args.engine.now in
    behind_none c.args.reading e c.args.body.now c.args.pending c.requires.kept c.requires.placed (sym c.if-has_exit.false ∙ c.has_exit.ensures e.program.now)
