-- What is held of units is what their files say.
-- The headline does not rest on this file.
use Rattle.std.specs.Prelude.{◌≡◌, ℕ, List, [], map, length, slice_get, slice_index_or, Some}
use Rattle.body_code.specs.declared.faults.Indicator.{Indicator}
use Rattle.unit_scopes.specs.Indicators.{is_among}
use Rattle.unit_scopes.specs.Sayings.{File}
use Rattle.unit_scopes.specs.Numbering.{indicators, defines, clauses_of, assertions_of, first_pred}
use Rattle.unit_scopes.specs.Imports.{is_exported, gets}
use Rattle.unit_scopes.specs.Groups.{clause_place, assertion_place, AreGroups}
use Rattle.unit_scopes.specs.Sources.{index_exports, index_gets, IsIndex, IsSource, AreSources}
use Rattle.unit_scopes.specs.declared.indexes.Index.{Index}
use Rattle.unit_scopes.specs.declared.sources.Source.{Source}

-- there is one source for each file, at its place, with its predicates numbered behind those of the files before it
pub record SourcesAreOfFiles : Type 0 where
  pub count : (files : List File) (sources : List Source) → AreSources 0 0 files sources → length sources ≡ length files
  pub file : (files : List File) (sources : List Source) → AreSources 0 0 files sources → (at : ℕ) (s : Source) → slice_get sources at ≡ Some s
      → (f : File) × (slice_get files at ≡ Some f) × IsSource at (first_pred files at) f s
  pub both : (files : List File) (sources : List Source) → AreSources 0 0 files sources → (at : ℕ) (f : File) (s : Source) → slice_get files at ≡ Some f → slice_get sources at ≡ Some s
      → IsSource at (first_pred files at) f s

-- an index answers as its file
pub record IndexesAnswer : Type 0 where
  pub defined : (f : File) (x : Index) → IsIndex f x → (p : Indicator) → is_among p x.defined.keys ≡ defines f p
  pub exported : (f : File) (x : Index) → IsIndex f x → (p : Indicator) → index_exports x p ≡ is_exported f p
  pub given : (f g : File) (x y : Index) → IsIndex f x → IsIndex g y → (at : ℕ) (p : Indicator) → index_gets x at y p ≡ gets f at g p

-- at these places of a list stand these items, in order
abbrev pub Picks : {A : Type 0} → List A → List ℕ → List A → Type 0
Picks xs places items = map (slice_get xs) places ≡ map (λ x. Some x) items

-- at the places of a predicate stand its clauses and the assertions about it
pub record PlacesPick : Type 0 where
  pub clauses : (f : File) (groups : List (List ℕ)) → AreGroups (length (indicators f)) (clause_place (indicators f)) f.parts.clauses groups
      → (q : ℕ) (p : Indicator) → slice_get (indicators f) q ≡ Some p → Picks f.parts.clauses (slice_index_or groups q []) (clauses_of f p)
  pub assertions : (f : File) (groups : List (List ℕ)) → AreGroups (length (indicators f)) (assertion_place (indicators f)) f.parts.assertions groups
      → (q : ℕ) (p : Indicator) → slice_get (indicators f) q ≡ Some p → Picks f.parts.assertions (slice_index_or groups q []) (assertions_of f p)
