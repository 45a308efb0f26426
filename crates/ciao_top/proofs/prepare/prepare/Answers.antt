use Rattle.byte_io.specs.Outside.{Rose}
use Rattle.ciao_top.specs.InnerAnswers.{run_words}
use Rattle.ciao_top.proofs.FileLaws.{no_reads, load_reads, load_stops, loaded_from, units_ok, units_err}
use Rattle.ciao_top.proofs.prepare.prepare.Goals as goal

pub returns-in-Err-clause-reads : goal.returns-in-Err-clause-reads
returns-in-Err-clause-reads g c = no_reads _ _ _

pub returns-in-Err-load_set-clause-reads : goal.returns-in-Err-load_set-clause-reads
returns-in-Err-load_set-clause-reads g c = load_reads _ _ _ c.load_set.result _ _ c.in-Ok.ensures c.load_set.ensures.reads c.load_set.ensures.order c.load_set.ensures.tell

pub returns-in-Err-load_set-clause-err : goal.returns-in-Err-load_set-clause-err
returns-in-Err-load_set-clause-err g c = load_stops (run_words c.args.command.now) _ _ _ _ c.in-Err-load_set.fault c.load_stop.result c.in-Ok.ensures c.in-Err-load_set.ensures.fault c.load_stop.ensures

pub returns-in-Ok-load_set-clause-reads : goal.returns-in-Ok-load_set-clause-reads
returns-in-Ok-load_set-clause-reads g c = load_reads _ _ _ c.load_set.result _ _ c.in-Ok.ensures c.load_set.ensures.reads c.load_set.ensures.order c.load_set.ensures.tell

pub returns-in-Ok-load_set-clause-ok : goal.returns-in-Ok-load_set-clause-ok
returns-in-Ok-load_set-clause-ok g c =
    units_ok (run_words c.args.command.now) _ (Rose (g.F.Files.faults c.args.files.now) (g.F.Files.faults c.load_set.new.files)) _ _
    (loaded_from (run_words c.args.command.now) _ _ _ _ _ c.in-Ok.ensures c.as_slice.ensures c.in-Ok-load_set.ensures.loaded) c.prepare_units.result c.prepare_units.ensures.ok

pub returns-in-Ok-load_set-clause-err : goal.returns-in-Ok-load_set-clause-err
returns-in-Ok-load_set-clause-err g c =
    units_err (run_words c.args.command.now) _ _ _ _
    (loaded_from (run_words c.args.command.now) _ _ _ _ _ c.in-Ok.ensures c.as_slice.ensures c.in-Ok-load_set.ensures.loaded) c.prepare_units.result c.prepare_units.ensures.err
