-- A sentence that is no assertion.
use Rattle.std.proofs.Common.{◌≡◌, Option, None, Some, refl}
use Rattle.ciao_reader.specs.declared.sentences.Sentence.{Sentence}
use Rattle.assertion_read.specs.declared.assertions.Assertion.{Assertion}
use Rattle.assertion_read.specs.Readings.{assertion_of}
use Rattle.assertion_read.specs.Written.{IsAssertion, AssertionsAreWritten}

pub no_assertion : (s : Sentence) → AssertionsAreWritten → ((a : Assertion) → IsAssertion s a → ⊥) → assertion_of s ≡ None
no_assertion s law none = by (assertion_of s) refl
  where
    by : (o : Option Assertion) → assertion_of s ≡ o → o ≡ None
    by None e = refl
    by (Some a) e = absurd (none a ((law s a).0 e))
