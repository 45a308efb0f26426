use Rattle.std.proofs.Common.{true}
use Rattle.discharger.proofs.Narrowing.{tests_of}
use Rattle.discharger.proofs.Sound.{sound}
use Rattle.discharger.proofs.laws.sound_law.Goals as goal

pub returns : goal.returns
returns c = λ program rows is closed. sound true program rows (c.relied_law.ensures program.grammar is.grammar) closed (c.program_parts_law.ensures.own program is) (c.marks_law.ensures (tests_of true program) program)
