-- The report: a line for each assertion with its status, and a line of how many have which.
-- The headline does not rest on this file.
use Rattle.std.specs.Prelude.{ℕ, Bool, true, false, List, [], ◌∷◌, ◌++◌, map, filter, length, slice_get, if◌then◌else◌, codes, decimal}
use Rattle.std.specs.Str.{byte}
use Rattle.std.specs.List.{list_any, list_all}
use Rattle.std.specs.Option.{option_map_or}
use Rattle.prog_data.specs.declared.programs.Claim.{Claim}
use Rattle.prog_data.specs.declared.programs.Keyword.{Keyword}
use Rattle.prog_data.specs.declared.programs.Keyword.TheVariants as keyword
use Rattle.prog_data.specs.declared.programs.Program.{Program}
use Rattle.prog_data.specs.declared.tables.Status.{Status}
use Rattle.prog_data.specs.declared.tables.Status.TheVariants.{Checked, Check, False}
use Rattle.run_report.specs.Lines.{line, place_text, numbered_text}

-- whether two statuses are the same
abbrev pub same_status : Status → Status → Bool
same_status Checked Checked = true
same_status Check Check = true
same_status False False = true
same_status one other = false

-- whether a condition has this status
abbrev pub has_status : List Status → Status → ℕ → Bool
has_status statuses status c = option_map_or (same_status status) (slice_get statuses c) false

-- the status of an assertion, from those of its conditions: false where one is, checked where all are, else check
abbrev pub claim_status : List Status → Claim → Status
claim_status statuses claim =
    if list_any (has_status statuses False) claim.conds then False
    else if list_all (has_status statuses Checked) claim.conds then Checked
    else Check

abbrev pub status_word : Status → List ℕ
status_word Checked = codes "checked"
status_word Check = codes "check"
status_word False = codes "false"

abbrev pub keyword_word : Keyword → List ℕ
keyword_word keyword.Pred = codes "pred"
keyword_word keyword.Calls = codes "calls"
keyword_word keyword.Success = codes "success"
keyword_word keyword.Comp = codes "comp"

module _ (program : Program) (statuses : List Status) where
  -- the line of an assertion
  abbrev pub claim_line : Claim → List ℕ
  claim_line claim =
      line (status_word (claim_status statuses claim) ++ byte " " ∷ place_text program.names claim.place ++ byte " " ∷ keyword_word claim.keyword ++ byte " " ∷ numbered_text program claim.pred)

  -- how many assertions have a status
  abbrev pub claims_with : Status → ℕ
  claims_with status = length (filter (λ claim. same_status status (claim_status statuses claim)) program.claims)

  -- the last line
  abbrev pub count_line : List ℕ
  count_line =
      line (codes "checked " ++ decimal (claims_with Checked) ++ codes ", check " ++ decimal (claims_with Check) ++ codes ", false " ++ decimal (claims_with False))

  -- the report, line by line, the assertions in the order of the program
  abbrev pub report_lines : List (List ℕ)
  report_lines = map claim_line program.claims ++ count_line ∷ []

  -- the status of a report: whether an assertion is false
  abbrev pub report_status : ℕ
  report_status = if list_any (λ claim. same_status False (claim_status statuses claim)) program.claims then 1 else 0
