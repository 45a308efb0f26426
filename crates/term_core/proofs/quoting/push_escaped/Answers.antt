use Rattle.std.proofs.Common.{◌≡◌, ◌++◌, [], ◌∷◌, rules, ap, sym, ◌∙◌}
use Rattle.std.specs.Prelude.{string_bytes}
use Rattle.term_core.specs.Printing.{escaped}
use Rattle.term_core.proofs.QuotingLemmas.{escaped_char}
use Rattle.term_core.proofs.quoting.push_escaped.Goals as goal

pub returns-in_ok-push-in_default : goal.returns-in_ok-push-in_default
returns-in_ok-push-in_default c =
    let plain : escaped c.args.char ≡ c.args.char ∷ [] = search rules in
    c.in_ok-push-in_default.ensures.bytes ∙ ap (λ bytes. string_bytes c.args.out.now ++ bytes) (sym (escaped_char c.args.char plain))
