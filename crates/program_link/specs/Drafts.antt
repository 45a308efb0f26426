-- Predicates with their clauses and assertions.
-- The headline does not rest on this file.
use Rattle.std.specs.Prelude.{ℕ, suc, List, [], ◌∷◌, ◌++◌, map}
use Rattle.body_code.specs.declared.faults.Indicator.{Indicator}
use Rattle.unit_scopes.specs.Sayings.{File}
use Rattle.unit_scopes.specs.Numbering.{indicators, clauses_of, assertions_of}
use Rattle.program_link.specs.declared.drafts.Draft.{Draft}

-- a predicate of the file at a place
abbrev pub draft_of : ℕ → File → Indicator → Draft
draft_of at f p = record { unit = at; indicator = p; clauses = clauses_of f p; assertions = assertions_of f p }

-- the predicates of files, the first of which is at this place
abbrev pub drafts_from : ℕ → List File → List Draft
drafts_from at [] = []
drafts_from at (f ∷ fs) = map (draft_of at f) (indicators f) ++ drafts_from (suc at) fs

-- the predicates of all files, in the order of their numbers
abbrev pub drafts : List File → List Draft
drafts files = drafts_from 0 files
