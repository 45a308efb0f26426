-- The expansion: each predicate with its kept conditions and its clauses.
-- The headline does not rest on this file.
use Rattle.std.specs.Prelude.{ℕ, nat_eq, Bool, List, [], ◌∷◌, ◌++◌, map, filter, flat_map, slice_get, Option, None, Some, codes}
use Rattle.std.specs.Str.{byte}
use Rattle.std.specs.List.{list_any}
use Rattle.term_core.specs.Names.{name_text}
use Rattle.prog_data.specs.declared.conditions.Cond.{Cond}
use Rattle.prog_data.specs.declared.programs.Check.{Check}
use Rattle.prog_data.specs.declared.programs.Check.TheVariants.{Calls, Note, Mark}
use Rattle.prog_data.specs.declared.programs.Clause.{Clause}
use Rattle.prog_data.specs.declared.programs.Pred.{Pred}
use Rattle.prog_data.specs.declared.programs.Program.{Program}
use Rattle.run_report.specs.Lines.{line, condition_word, place_text, quoted_text, pred_text}
use Rattle.run_report.specs.ClauseTerms.{clause_term}

-- the conditions of a check
abbrev pub conds_of : Check → List ℕ
conds_of (Calls c) = c ∷ []
conds_of (Note c) = c ∷ []
conds_of (Mark cs) = cs

-- whether a condition is kept: a call check of its predicate names it
abbrev pub is_kept_in : Pred → ℕ → Bool
is_kept_in pred c = list_any (nat_eq c) (flat_map conds_of pred.call_checks)

module _ (program : Program) where
  -- the line before a predicate: its module, a colon, its name and arity
  abbrev pub header_line : Pred → List ℕ
  header_line pred = line (name_text program.names pred.«module» ++ byte ":" ∷ pred_text program pred)

  -- the line of a kept condition
  abbrev pub check_line : Option Cond → List ℕ
  check_line None = []
  check_line (Some c) = line (codes "  check " ++ condition_word c.kind ++ byte " " ∷ place_text program.names c.place)

  -- the line of the kept condition with a number
  abbrev pub numbered_line : ℕ → List ℕ
  numbered_line c = check_line (slice_get program.conds c)

  -- the line of a clause
  abbrev pub clause_line : Pred → Clause → List ℕ
  clause_line pred clause = line (codes "  " ++ quoted_text program (clause_term program pred clause) ++ codes ".")

  -- a predicate: its line, its kept conditions in order of number, and its clauses
  abbrev pub pred_lines : Pred → List (List ℕ)
  pred_lines pred = header_line pred ∷ map numbered_line (filter (is_kept_in pred) pred.conds) ++ map (clause_line pred) pred.clauses

  -- the expansion of an instrumented program, line by line
  abbrev pub expand_lines : List (List ℕ)
  expand_lines = flat_map pred_lines program.preds
