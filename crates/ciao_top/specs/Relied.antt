-- The laws of the crates below on which uniqueness rests.
-- The headline does not rest on this file.
use Rattle.std.specs.Prelude.{ℕ, List}
use Rattle.term_core.specs.Standard.{IsMade}
use Rattle.term_core.specs.declared.operators.Operators.{Operators}
use Rattle.ciao_reader.specs.Laws.{OneGoal}
use Rattle.ciao_modules.specs.LoadLaws.{OneLoad, NoLoadRefused, OneLoadRefusal, OneRefusalName, OperatorsAreMade}

-- a load has one outcome, and a text is one goal by the operators of a unit
pub record Relied : Type 0 where
  pub load : OneLoad
  pub unrefused : NoLoadRefused
  pub refusal : OneLoadRefusal
  pub name : OneRefusalName
  pub operators : OperatorsAreMade
  pub goal : (ops : Operators) → IsMade ops → (bytes : List ℕ) → OneGoal ops bytes
