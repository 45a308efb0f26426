-- What a sentence becomes, or why it becomes nothing.
use Rattle.std.proofs.Common.{◌≡◌, ℕ, refl, ap, ◌∙◌}
use Rattle.std.specs.Prelude.{Some, None, Ok, Err, IfOk, IfErr}
use Rattle.std.specs.declared.result.Result.{Result}
use Rattle.ciao_reader.specs.declared.sentences.Sentence.{Sentence}
use Rattle.prog_data.specs.declared.grammars.Grammar.{Grammar}
use Rattle.body_code.specs.declared.faults.BodyFault.{BodyFault}
use Rattle.body_code.specs.declared.faults.BodyFault.TheVariants as fault
use Rattle.body_code.specs.declared.faults.Compiled.{Compiled}
use Rattle.body_code.specs.declared.faults.Indicator.{Indicator}
use Rattle.body_code.specs.declared.faults.Problem.{Problem}
use Rattle.body_code.specs.declared.faults.Problem.TheVariants.{UnknownProperty, BadClause, Ambiguous, Undefined}
use Rattle.body_code.specs.declared.scopes.Visible.{Visible}
use Rattle.body_code.specs.Making.{Makes}
use Rattle.body_code.specs.Clauses.{body_term, indicator_of, body_problem, problem_with, problem_of, compiled_with, compiled, told, IsCompiled, IsNoClause}
use Rattle.body_code.specs.Ranges.{StaysInRange}
use Rattle.body_code.proofs.ClauseRanges.{clause_stays}

module _ (visible : Visible) (file : ℕ) (s : Sentence) (old : Grammar) where
  -- a head that is none
  pub head_outcome : indicator_of s.term ≡ None → IsNoClause visible file s old (fault.BadClause s.line)
  head_outcome e = record { first = ap (problem_with visible (body_term s.term)) e; in_line = refl }

  -- a problem of a goal
  told_by : (p : Problem) → problem_of visible s.term ≡ Some p → IsNoClause visible file s old (told s.line p)
  told_by UnknownProperty e = record { first = e; in_line = refl }
  told_by BadClause e = record { first = e; in_line = refl }
  told_by Ambiguous e = record { first = e; in_line = refl }
  told_by Undefined e = record { first = e; in_line = refl }

  module _ (i : Indicator) (head : indicator_of s.term ≡ Some i) where
    pub problem_outcome : (p : Problem) → body_problem visible (body_term s.term) ≡ Some p → IsNoClause visible file s old (told s.line p)
    problem_outcome p e = told_by p (ap (problem_with visible (body_term s.term)) head ∙ e)

    -- no problem
    module _ (new : Grammar) (none : body_problem visible (body_term s.term) ≡ None) where
      sound : problem_of visible s.term ≡ None
      sound = ap (problem_with visible (body_term s.term)) head ∙ none

      whole : compiled visible file s old ≡ compiled_with visible file s (Some i) old
      whole = ap (λ o. compiled_with visible file s o old) head

      pub ok_outcome : (r : Result Compiled BodyFault) → Makes r new (compiled_with visible file s (Some i) old) → IfOk r (λ c. IsCompiled visible file s old new c)
      ok_outcome (Ok c) m = record { sound = sound; gives = whole ∙ m }
      ok_outcome (Err f) m = tt

      pub range_outcome : (r : Result Compiled BodyFault) → Makes r new (compiled_with visible file s (Some i) old) → IfOk r (λ c. StaysInRange visible s file new c)
      range_outcome (Ok c) m = clause_stays visible file s old new c (whole ∙ m)
      range_outcome (Err f) m = tt

      pub err_outcome : (r : Result Compiled BodyFault) → Makes r new (compiled_with visible file s (Some i) old) → IfErr r (IsNoClause visible file s old)
      err_outcome (Ok c) m = tt
      err_outcome (Err (fault.UnknownProperty line)) m = absurd m
      err_outcome (Err (fault.BadClause line)) m = absurd m
      err_outcome (Err (fault.Ambiguous line)) m = absurd m
      err_outcome (Err (fault.Undefined line)) m = absurd m
      err_outcome (Err fault.TooManyNames) m = (sound, whole ∙ m)
      err_outcome (Err fault.NoMemory) m = tt
