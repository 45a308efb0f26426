use Rattle.std.proofs.Common.{sym}
use Rattle.ciao_top.specs.Refused.{NoCommand}
use Rattle.ciao_top.proofs.Contracts.{refused_answers, run_answers, stopped, no_command_reads, command_reads, complete}
use Rattle.ciao_top.proofs.FileLaws.{none_follow}
use Rattle.ciao_top.proofs.tool.run_tool.Goals as goal

pub returns-in-None-clause-answered : goal.returns-in-None-clause-answered
returns-in-None-clause-answered g c =
    refused_answers c.relied_law.ensures (g.F.Files.held c.args.files.now) _ _ (no_command_reads (g.F.Files.held c.args.files.now) _ (g.F.Files.reads c.args.files.now) (sym c.in-None.ensures.command)) _ _ _ _ _ _
    (λ files agree. NoCommand (sym c.in-None.ensures.command)) c.write_stop.ensures.comes

pub returns-in-None-clause-complete : goal.returns-in-None-clause-complete
returns-in-None-clause-complete g c = complete _ _ _ _ _ _ _ _ (returns-in-None-clause-answered g c)

pub returns-in-None-clause-reads : goal.returns-in-None-clause-reads
returns-in-None-clause-reads g c = none_follow _

pub returns-in-Err-clause-answered : goal.returns-in-Err-clause-answered
returns-in-Err-clause-answered g c =
    stopped c.relied_law.ensures _ _ _ (command_reads _ _ _ _ _ (sym c.in-Some.ensures.command) c.prepare.ensures.reads) _ _ _ _ _ _ (sym c.in-Some.ensures.command) c.in-Err.stop c.in-Err.ensures.err c.write_stop-in-Err.ensures.comes

pub returns-in-Err-clause-complete : goal.returns-in-Err-clause-complete
returns-in-Err-clause-complete g c = complete _ _ _ _ _ _ _ _ (returns-in-Err-clause-answered g c)

pub returns-in-Err-clause-reads : goal.returns-in-Err-clause-reads
returns-in-Err-clause-reads g c = c.prepare.ensures.reads.follow

pub returns-in-Ok-clause-answered : goal.returns-in-Ok-clause-answered
returns-in-Ok-clause-answered g c =
    run_answers c.relied_law.ensures _ _ _ (command_reads _ _ _ _ _ (sym c.in-Some.ensures.command) c.prepare.ensures.reads) _ _ _ _ _ _ (sym c.in-Some.ensures.command) c.in-Ok.prepared.program c.in-Ok.prepared.query c.in-Ok.ensures.ok c.in-Ok.ensures.met c.write_whole.ensures.comes

pub returns-in-Ok-clause-complete : goal.returns-in-Ok-clause-complete
returns-in-Ok-clause-complete g c = complete _ _ _ _ _ _ _ _ (returns-in-Ok-clause-answered g c)

pub returns-in-Ok-clause-reads : goal.returns-in-Ok-clause-reads
returns-in-Ok-clause-reads g c = c.prepare.ensures.reads.follow
