use Rattle.std.proofs.Common.{refl, sym, ap, ◌∙◌, subst, arith, false}
use Rattle.ciao_reader.specs.Sentences.{large_line}
use Rattle.ciao_reader.specs.Parts.{IsPartOf}
use Rattle.ciao_reader.proofs.SentenceLaws.{deep_reading, large_reading, whole_reading}
use Rattle.ciao_reader.proofs.reader.read_sentence.Goals as goal

pub returns-then-part-gt-DEPTH_LIMIT-clause-err : goal.returns-then-part-gt-DEPTH_LIMIT-clause-err
returns-then-part-gt-DEPTH_LIMIT-clause-err c = (
  deep_reading c.args.names.now c.args.ops.now c.args.tokens.now c.in-Some.part
      (subst (λ ws. IsPartOf c.args.ops.now ws c.in-Some.part) (c.as_slice.ensures ∙ c.in_ok-scanned.ensures.words) (rw c.in-Some.is at c.in_ok-read_words.ensures.some))
      c.if-part-gt-DEPTH_LIMIT.true,
  refl,
)

pub returns-in-Some-large_line-clause-err : goal.returns-in-Some-large_line-clause-err
returns-in-Some-large_line-clause-err c =
    large_reading c.args.names.now c.args.ops.now c.args.tokens.now c.in-Some.part c.in-Some-large_line.large
    (subst (λ ws. IsPartOf c.args.ops.now ws c.in-Some.part) (c.as_slice.ensures ∙ c.in_ok-scanned.ensures.words) (rw c.in-Some.is at c.in_ok-read_words.ensures.some))
    (omega (arith, c.if-part-gt-DEPTH_LIMIT.false))
    (ap (λ ws. large_line false ws c.args.tokens.now) (sym (c.as_slice-in-Some.ensures ∙ c.in_ok-scanned.ensures.words)) ∙ sym c.in-Some-large_line.ensures)

pub returns-clause-ok : goal.returns-clause-ok
returns-clause-ok c =
    whole_reading c.args.names.now c.args.ops.now c.args.tokens.now c.in-Some.part c.line_of.result c.in_ok-scanned.scanned.vars
    (subst (λ ws. IsPartOf c.args.ops.now ws c.in-Some.part) (c.as_slice.ensures ∙ c.in_ok-scanned.ensures.words) (rw c.in-Some.is at c.in_ok-read_words.ensures.some))
    (omega (arith, c.if-part-gt-DEPTH_LIMIT.false))
    (ap (λ ws. large_line false ws c.args.tokens.now) (sym (c.as_slice-in-Some.ensures ∙ c.in_ok-scanned.ensures.words)) ∙ sym c.in-None-large_line.ensures)
    c.line_of.ensures c.in_ok-scanned.ensures.vars
