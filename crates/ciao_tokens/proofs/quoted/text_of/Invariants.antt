use Rattle.std.proofs.Common.{◌≡◌, ◌++◌, drop}
use Rattle.std.specs.Prelude.{encode_utf8_all, string_bytes}
use Rattle.ciao_tokens.proofs.quoted.text_of.Given as goal

abbrev pub invariant-loop-char : goal.invariant-loop-char
invariant-loop-char l = string_bytes l.text ++ encode_utf8_all (drop l.char-index l.chars) ≡ encode_utf8_all l.chars
