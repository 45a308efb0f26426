use Rattle.term_core.proofs.SequenceLaws.{ends_after, solved_after, clashes_first, cycles_first}
use Rattle.term_core.proofs.laws.sequence_law.Goals as goal

pub returns : goal.returns
returns c = record { ends = λ es rest value o m u. ends_after es rest value o (c.unification_law.ensures es) m u; solved = solved_after; clashes = clashes_first; cycles = cycles_first }
