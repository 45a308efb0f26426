use Rattle.std.proofs.Common.{◌≡◌, ◌++◌, drop}
use Rattle.ciao_tokens.proofs.quoted.codes_of.Given as goal

abbrev pub invariant-loop-char : goal.invariant-loop-char
invariant-loop-char l = l.codes ++ drop l.char-index l.chars ≡ l.chars
