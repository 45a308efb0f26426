use Rattle.std.proofs.Common.{ap, ◌∙◌, sym, subst}
use Rattle.std.proofs.lemmas.Slice.Eq.{bytes_eq-Decides}
use Rattle.std.specs.Prelude.{string_bytes, bytes_eq}
use Rattle.term_core.specs.Names.{place_of}
use Rattle.term_core.specs.Lists.{IsPrefix}
use Rattle.term_core.proofs.TextLemmas.{place-texts, insert-texts, front_with, texts_of, text_at}
use Rattle.term_core.proofs.names.add.Goals as goal

pub returns-clause-place : goal.returns-clause-place
returns-clause-place c =
    c.in_ok-at.ensures.index
    ∙ place-texts (bytes_eq (string_bytes c.in_ok-owned.owned)) c.args.texts.now.keys
    ∙ ap (λ t. place_of t (texts_of c.args.texts.now.keys)) c.in_ok-owned.ensures.ok

pub returns-clause-ok : goal.returns-clause-ok
returns-clause-ok c =
    ap texts_of c.in_ok-at.ensures.keys
    ∙ insert-texts c.in_ok-owned.owned c.args.texts.now.keys c.args.text.now c.in_ok-owned.ensures.ok

pub returns-clause-found : goal.returns-clause-found
returns-clause-found c =
    let stored = c.in_ok-at.ensures.stored in
    text_at c.insert_full.new.self.keys c.in_ok-at.at stored.0 c.args.text.now stored.1
    (sym ((bytes_eq-Decides (string_bytes c.in_ok-owned.owned) (string_bytes stored.0)).0 stored.2) ∙ c.in_ok-owned.ensures.ok)

pub returns-clause-kept : goal.returns-clause-kept
returns-clause-kept c = subst (IsPrefix (texts_of c.args.texts.now.keys)) (sym (returns-clause-ok c)) (front_with (texts_of c.args.texts.now.keys) c.args.text.now)
