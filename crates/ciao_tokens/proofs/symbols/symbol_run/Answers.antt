use Rattle.std.proofs.Common.{sym, ap, ◌∙◌}
use Rattle.term_core.specs.Characters.{is_point}
use Rattle.ciao_tokens.proofs.SymbolLaws.{run_found, stop_found, nothing_found}
use Rattle.ciao_tokens.proofs.symbols.symbol_run.Goals as goal

pub returns-then-not-is_point : goal.returns-then-not-is_point
returns-then-not-is_point c = (
  run_found _ _ _ (record { begins = c.requires.begins; no_comment = c.requires.no_comment; word_is = c.split_symbols.ensures.front; behind_is = c.split_symbols.ensures.behind })
      (sym (c.is_point.ensures ∙ ap is_point c.as_bytes.ensures.value) ∙ c.if-not-is_point.true),
  c.split_symbols.ensures.utf8,
)

pub returns-then-may_follow_end : goal.returns-then-may_follow_end
returns-then-may_follow_end c = (
  stop_found _ _ _ (record { begins = c.requires.begins; no_comment = c.requires.no_comment; word_is = c.split_symbols.ensures.front; behind_is = c.split_symbols.ensures.behind })
      (sym (c.is_point.ensures ∙ ap is_point c.as_bytes.ensures.value) ∙ c.if-not-is_point.false) (sym c.may_follow_end.ensures ∙ c.if-may_follow_end.true),
  c.split_symbols.ensures.utf8,
)

pub returns-else-may_follow_end : goal.returns-else-may_follow_end
returns-else-may_follow_end c =
    nothing_found _ _ _ (record { begins = c.requires.begins; no_comment = c.requires.no_comment; word_is = c.split_symbols.ensures.front; behind_is = c.split_symbols.ensures.behind })
    (sym (c.is_point.ensures ∙ ap is_point c.as_bytes.ensures.value) ∙ c.if-not-is_point.false) (sym c.may_follow_end.ensures ∙ c.if-may_follow_end.false)
