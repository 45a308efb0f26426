use Rattle.std.proofs.Common.{sym, subst, take}
use Rattle.std.specs.List.{list_all}
use Rattle.std.specs.Char.{is_ascii}
use Rattle.std.specs.Prelude.{◌≡◌, true}
use Rattle.ciao_tokens.proofs.WordLaws.{word_ascii}
use Rattle.ciao_tokens.proofs.words.split_word.Goals as goal

pub split-requires-clause-ascii : goal.split-requires-clause-ascii
split-requires-clause-ascii c = subst (λ n. list_all is_ascii (take n c.args.text.now) ≡ true) (sym c.word_bytes.ensures.count) (word_ascii c.args.text.now)
