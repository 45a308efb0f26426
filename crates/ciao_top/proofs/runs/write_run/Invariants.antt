use Rattle.std.proofs.Common.{◌≡◌, IsSome}
use Rattle.engine_moves.specs.declared.readings.Reading.TheVariants.{All}
use Rattle.sld_engine.specs.Runs.{left_of, program_of, bound_of, reading_of}
use Rattle.ciao_top.specs.Answers.{output_of}
use Rattle.ciao_top.specs.InnerAnswers.{DeviceGoesOn, HasWritten, RunTells}
use Rattle.ciao_top.proofs.RunEnds.{events_left}
use Rattle.ciao_top.proofs.runs.write_run.Given as goal

abbrev pub invariant-events : goal.invariant-events
invariant-events g l = record {
  so_far : HasWritten (RunTells l.program (bound_of l.fn.run) l.fn.limit (left_of l.fn.run)) (RunTells l.program (bound_of l.fn.run) l.more (left_of l.run)) (output_of (g.S.Sink.written l.fn.out) (g.S.Sink.taken l.fn.out)) (output_of (g.S.Sink.written l.out) (g.S.Sink.taken l.out));
  sink : DeviceGoesOn (g.S.Sink.steady l.fn.out) (g.S.Sink.steady l.out) (g.S.Sink.faults l.fn.out) (g.S.Sink.faults l.out);
  program : program_of l.run ≡ l.program;
  reading : reading_of l.run ≡ All;
  bound : bound_of l.run ≡ bound_of l.fn.run;
  there : IsSome (left_of l.run);
}

abbrev pub decreases-events : goal.decreases-events
decreases-events g l = events_left l.program (bound_of l.fn.run) (left_of l.run)
