use Rattle.std.proofs.Common.{refl, sym, subst, ◌∙◌}
use Rattle.byte_io.specs.Outside.{Rose}
use Rattle.sld_engine.specs.Runs.{left_of}
use Rattle.ciao_top.specs.Answers.{output_of}
use Rattle.ciao_top.specs.InnerAnswers.{Comes, HasWritten, RunTells, GoesOn}
use Rattle.ciao_top.proofs.Comings.{stays, goes_on_twice, nothing_written, written_twice, comes_behind}
use Rattle.ciao_top.proofs.RunEnds.{fewer_left}
use Rattle.ciao_top.proofs.RunTexts.{comes_reached, some_left}
use Rattle.ciao_top.proofs.runs.write_run.Goals as goal

pub events-init : goal.events-init
events-init g c = record { so_far = nothing_written _ _; sink = stays _ _; program = c.requires.program; reading = c.requires.reading; bound = refl; there = c.requires.left }

pub events-preserved : goal.events-preserved
events-preserved g c = record {
  so_far = written_twice _ _ _ _ _ _ c.events.invariant.so_far
      (subst (λ b. HasWritten (RunTells c.args.program.now b c.events.more (left_of c.events.run)) (RunTells c.args.program.now b c.in-GoesOn.next (left_of c.write_next.new.run)) (output_of (g.S.Sink.written c.events.out) (g.S.Sink.taken c.events.out)) (output_of (g.S.Sink.written c.write_next.new.out) (g.S.Sink.taken c.write_next.new.out)))
      c.events.invariant.bound c.in-GoesOn.ensures.told);
  sink = goes_on_twice _ _ _ _ _ _ c.events.invariant.sink c.write_next.ensures.sink;
  program = c.write_next.ensures.program;
  reading = c.write_next.ensures.reading;
  bound = c.write_next.ensures.bound ∙ c.events.invariant.bound;
  there = some_left _ _ _ _ c.in-GoesOn.ensures.goes;
}

pub returns-then-is_reached-clause-comes : goal.returns-then-is_reached-clause-comes
returns-then-is_reached-clause-comes g c =
    comes_behind _ _ _ _ _ _ _ _ _ c.events.invariant.sink.later c.events.invariant.so_far
    (comes_reached _ _ _ (sym c.if-is_reached.ensures) _ _ _ _ _ c.events.invariant.there c.write_limit.ensures.comes)

pub returns-then-is_reached-clause-sink : goal.returns-then-is_reached-clause-sink
returns-then-is_reached-clause-sink g c = goes_on_twice _ _ _ _ _ _ c.events.invariant.sink c.write_limit.ensures.sink

pub returns-in-Ends : goal.returns-in-Ends
returns-in-Ends g c = record {
  comes = comes_behind _ _ _ _ _ _ _ _ _ c.events.invariant.sink.later c.events.invariant.so_far
      (subst (λ b. Comes (RunTells c.args.program.now b c.events.more (left_of c.events.run)) (Rose (g.S.Sink.faults c.events.out) (g.S.Sink.faults c.write_next.new.out)) (output_of (g.S.Sink.written c.events.out) (g.S.Sink.taken c.events.out)) (output_of (g.S.Sink.written c.write_next.new.out) (g.S.Sink.taken c.write_next.new.out)) c.in-Ends.status)
      c.events.invariant.bound c.in-Ends.ensures.told);
  sink = goes_on_twice _ _ _ _ _ _ c.events.invariant.sink c.write_next.ensures.sink;
}

pub events-smaller : goal.events-smaller
events-smaller g c =
    fewer_left _ _ _ _ (subst (λ b. GoesOn c.args.program.now b (left_of c.events.run) (left_of c.write_next.new.run)) c.events.invariant.bound c.in-GoesOn.ensures.goes)
