-- How an assertion is written.
-- The headline does not rest on this file.
use Rattle.std.specs.Prelude.{◌≡◌, ◌↔◌, true, [], ◌∷◌, Option, Some, None}
use Rattle.term_core.specs.declared.terms.Term.{Term, out-Term}
use Rattle.term_core.specs.declared.terms.Term as term
use Rattle.term_core.specs.declared.fixed.TheConstants.{NECK, PLUS, COLON, HASH, IMPLIES}
use Rattle.term_core.specs.Shapes.{with_mark, parts_of}
use Rattle.ciao_reader.specs.declared.sentences.Sentence.{Sentence}
use Rattle.assertion_read.specs.declared.heads.Head.{Head}
use Rattle.assertion_read.specs.declared.assertions.Mark.{Mark}
use Rattle.assertion_read.specs.declared.assertions.Mark.TheVariants.{Check}
use Rattle.assertion_read.specs.declared.assertions.Assertion.{Assertion}
use Rattle.assertion_read.specs.declared.assertions.AssertFault.{AssertFault}
use Rattle.assertion_read.specs.declared.assertions.AssertFault.TheVariants.{BadAssertion, NoMemory}
use Rattle.assertion_read.specs.Words.{word_name, mark_name, may_have}
use Rattle.assertion_read.specs.Heads.{head_at}
use Rattle.assertion_read.specs.Readings.{is_there, pre_said, post_said, comp_said, assertion_of}

-- `Head : Pre => Post`, with `+ Comp` behind the last of these
abbrev pub with_fields : Term → Option Term → Option Term → Option Term → Term
with_fields head pre (Some post) comp = term.Node IMPLIES (with_mark COLON head pre ∷ with_mark PLUS post comp ∷ [])
with_fields head (Some pre) None comp = term.Node COLON (head ∷ with_mark PLUS pre comp ∷ [])
with_fields head None None comp = with_mark PLUS head comp

-- a status before a term, or nothing
abbrev pub with_status : Option Mark → Term → Term
with_status None t = t
with_status (Some mark) t = term.Node (mark_name mark) (t ∷ [])

-- an assertion without a status has the status check
abbrev pub status_or_check : Option Mark → Mark
status_or_check None = Check
status_or_check (Some mark) = mark

-- the sentence is `:- S K Head : Pre => Post + Comp # Comment`, with fields that the keyword may have, and they say this assertion
pub record IsAssertion (sentence : Sentence) (assertion : Assertion) : Type 0 where
  pub status : Option Mark
  pub head : Term
  pub pre : Option Term
  pub post : Option Term
  pub comp : Option Term
  pub comment : Option Term
  pub about : Head
  pub whole : sentence.term ≡
      term.Node NECK (with_status status (term.Node (word_name assertion.keyword) (with_mark HASH (with_fields head pre post comp) comment ∷ [])) ∷ [])
  pub fields : may_have assertion.keyword (is_there pre) (is_there post) (is_there comp) ≡ true
  pub is_head : head_at (out-Term head) ≡ Some about
  pub mark_is : assertion.mark ≡ status_or_check status
  pub name_is : assertion.name ≡ about.name
  pub arity_is : assertion.arity ≡ about.arity
  pub pre_says : pre_said about (parts_of (out-Term head)) pre ≡ Some assertion.pre
  pub post_says : post_said about (parts_of (out-Term head)) post ≡ Some assertion.post
  pub comp_says : comp_said comp ≡ Some assertion.comp
  pub line_is : assertion.line ≡ sentence.line

-- a sentence that has no shape of an assertion has its own line as the fault
abbrev pub IsNoAssertion : Sentence → AssertFault → Type 0
IsNoAssertion sentence (BadAssertion line) = (line ≡ sentence.line) × ((assertion : Assertion) → IsAssertion sentence assertion → ⊥)
IsNoAssertion sentence NoMemory = Unit {0}

-- the computed assertion is the written one, so a sentence is one assertion at most
abbrev pub AssertionsAreWritten : Type 0
AssertionsAreWritten = (sentence : Sentence) (assertion : Assertion) → (assertion_of sentence ≡ Some assertion) ↔ IsAssertion sentence assertion
