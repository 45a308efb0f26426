use Rattle.std.proofs.Common.{◌≡◌, ◌++◌, drop, map}
use Rattle.program_link.proofs.programs.files_of.Given as goal

abbrev pub invariant-loop-source : goal.invariant-loop-source
invariant-loop-source l = l.files ++ map (λ s. s.file) (drop l.source-index l.sources) ≡ map (λ s. s.file) l.sources
