use Rattle.std.proofs.Common.{◌≡◌, ◌≤◌, ◌-◌, length}
use Rattle.byte_io.specs.Outside.{StaysSteady}
use Rattle.term_core.specs.Lists.{IsPrefix}
use Rattle.ciao_modules.specs.Stages.{capacity, progress_of}
use Rattle.ciao_modules.proofs.Rounds.{Round}
use Rattle.ciao_modules.proofs.loading.load_all.Given as goal

abbrev pub invariant-loop-member : goal.invariant-loop-member
invariant-loop-member g l = record {
  round : Round (g.F.Files.held l.fn.files) l.folder (progress_of l.fn.names l.fn.queue) (g.F.Files.reads l.fn.files) (g.F.Files.reads l.files) l.names l.waiting l.units;
  kept : IsPrefix l.fn.names l.names;
  same : g.F.Files.held l.files ≡ g.F.Files.held l.fn.files;
  later : g.F.Files.faults l.fn.files ≤ g.F.Files.faults l.files;
  steady : StaysSteady (g.F.Files.steady l.fn.files) (g.F.Files.steady l.files) (g.F.Files.faults l.fn.files) (g.F.Files.faults l.files);
}

abbrev pub decreases-loop-member : goal.decreases-loop-member
decreases-loop-member g l = capacity l.waiting - length l.units
