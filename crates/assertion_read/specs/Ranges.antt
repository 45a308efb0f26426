-- Assertions in range: their names are among the names, and their properties are of arguments of the predicate.
-- The headline does not rest on this file.
use Rattle.std.specs.Prelude.{◌≡◌, ◌<◌, ℕ, List, Some}
use Rattle.std.specs.List.{AllByRecursion}
use Rattle.ciao_reader.specs.Ranges.{IsSentenceInRange}
use Rattle.ciao_reader.specs.declared.sentences.Sentence.{Sentence}
use Rattle.assertion_read.specs.declared.assertions.Written.{Written}
use Rattle.assertion_read.specs.declared.assertions.Assertion.{Assertion}
use Rattle.assertion_read.specs.Readings.{assertion_of}

-- a property of one of so many arguments, whose names are below a number
pub record IsPropertyInRange (names arity : ℕ) (w : Written) : Type 0 where
  pub property : w.property < names
  pub argument : w.arg < arity
  pub element : (e : ℕ) → w.element ≡ Some e → e < names

-- an assertion whose names are below a number, and whose properties are of the arguments of its predicate
pub record IsAssertionInRange (names : ℕ) (a : Assertion) : Type 0 where
  pub name : a.name < names
  pub pre : AllByRecursion (IsPropertyInRange names a.arity) a.pre
  pub post : (written : List Written) → a.post ≡ Some written → AllByRecursion (IsPropertyInRange names a.arity) written
  pub comp : AllByRecursion (λ p. p < names) a.comp

-- the assertion of a sentence in range of so many names is in range of them
abbrev pub StaysInRange : Sentence → Assertion → Type 0
StaysInRange sentence assertion = (names : ℕ) → IsSentenceInRange names sentence → IsAssertionInRange names assertion

-- so is the assertion that is computed of it
abbrev pub AssertionsStayInRange : Type 0
AssertionsStayInRange = (sentence : Sentence) (assertion : Assertion) → assertion_of sentence ≡ Some assertion → StaysInRange sentence assertion
