-- Files in which no fault is found: each of their sentences is as it should be.
use Rattle.std.proofs.Common.{◌≡◌, ℕ, zero, suc, ◌+◌, Bool, true, false, not, List, [], ◌∷◌, ◌++◌, map, refl, ap, sym, ◌∙◌, subst, arith}
use Rattle.std.specs.Prelude.{flat_map, slice_get, Option, Some, None}
use Rattle.std.specs.List.{AllByRecursion}
use Rattle.term_core.proofs.OperandLaws.{none_part, some_part}
use Rattle.prog_data.specs.declared.refusals.RefusalKind.{RefusalKind}
use Rattle.prog_data.specs.declared.refusals.RefusalKind.TheVariants.{Undefined}
use Rattle.ciao_modules.specs.FileNames.{Word}
use Rattle.ciao_modules.specs.UnitRanges.{exports_of}
use Rattle.ciao_modules.specs.declared.units.Export.{Export}
use Rattle.ciao_reader.specs.declared.sentences.Sentence.{Sentence}
use Rattle.assertion_read.specs.declared.assertions.Assertion.{Assertion}
use Rattle.assertion_normal.specs.Troubles.{trouble_of}
use Rattle.assertion_normal.specs.declared.troubles.Trouble.{Trouble}
use Rattle.assertion_normal.specs.declared.troubles.Trouble.TheVariants as trouble
use Rattle.regtype_grammar.specs.TypeFaults.{refused}
use Rattle.regtype_grammar.specs.Grammars.{IsTypeFault}
use Rattle.regtype_grammar.specs.declared.modules.TypeFault.{TypeFault}
use Rattle.regtype_grammar.specs.declared.modules.TypeFault.TheVariants as types
use Rattle.body_code.specs.Clauses.{problem_of}
use Rattle.body_code.specs.declared.faults.Problem.{Problem}
use Rattle.body_code.specs.declared.faults.Problem.TheVariants as problem
use Rattle.unit_scopes.specs.Sayings.{File}
use Rattle.unit_scopes.specs.Numbering.{defines, asserted}
use Rattle.unit_scopes.specs.Imports.{exported, kinds_seen, scope_of, type_modules}
use Rattle.program_link.specs.FaultOrder.{least}
use Rattle.program_link.specs.NamedFaults.{fault_where, fault_of, broken_fault, export_faults, import_faults}
use Rattle.program_link.specs.Faults.{trouble_kind, problem_kind, assertion_faults, clause_faults, type_faults, file_faults, faults_from, all_faults}
use Rattle.program_link.specs.declared.faults.Fault.{Fault}
use Rattle.program_link.proofs.LeastLaws.{none_least}

-- what is so of the file at a place where no fault is found: no sentence breaks a rule by itself; exports and assertions are of predicates that have clauses; the properties of assertions and the goals of clauses mean something
pub record HasNoFault (names : List Word) (files : List File) (at : ℕ) (f : File) : Type 0 where
  pub broken : f.parts.broken ≡ []
  pub exports : AllByRecursion (λ e. defines f (exported e) ≡ true) (exports_of f.unit.exports)
  pub assertions : AllByRecursion (λ a. defines f (asserted a) ≡ true) f.parts.assertions
  pub properties : AllByRecursion (λ a. trouble_of names (kinds_seen files at f) a ≡ None) f.parts.assertions
  pub clauses : AllByRecursion (λ s. problem_of (scope_of files at f) s.term ≡ None) f.parts.clauses

-- lists without elements

not_empty : {A : Type 0} (x : A) (xs : List A) → x ∷ xs ≡ [] → ⊥
not_empty x xs e = cc

front_empty : {A : Type 0} (xs ys : List A) → xs ++ ys ≡ [] → xs ≡ []
front_empty [] ys e = refl
front_empty (x ∷ xs) ys e = absurd (not_empty x (xs ++ ys) e)

rest_empty : {A : Type 0} (xs ys : List A) → xs ++ ys ≡ [] → ys ≡ []
rest_empty [] ys e = e
rest_empty (x ∷ xs) ys e = absurd (not_empty x (xs ++ ys) e)

map_empty : {A B : Type 0} (f : A → B) (xs : List A) → map f xs ≡ [] → xs ≡ []
map_empty f [] e = refl
map_empty f (x ∷ xs) e = absurd (not_empty (f x) (map f xs) e)

-- what gives no fault in any of some elements is so of each
each_empty : {A B : Type 0} (f : A → List B) (P : A → Type 0) → ((x : A) → f x ≡ [] → P x) → (xs : List A) → flat_map f xs ≡ [] → AllByRecursion P xs
each_empty f P so [] e = tt
each_empty f P so (x ∷ xs) e = (so x (front_empty (f x) (flat_map f xs) e), each_empty f P so xs (rest_empty (f x) (flat_map f xs) e))

-- one of each kind

none_wrong : (fine : Bool) (at line : ℕ) (what : RefusalKind) → fault_where (not fine) at line what ≡ [] → fine ≡ true
none_wrong true at line what e = refl
none_wrong false at line what e = absurd (not_empty _ [] e)

none_of : (at line : ℕ) (what : Option RefusalKind) → fault_of at line what ≡ [] → what ≡ None
none_of at line None e = refl
none_of at line (Some what) e = absurd (not_empty _ [] e)

no_trouble : (t : Option Trouble) → trouble_kind t ≡ None → t ≡ None
no_trouble None e = refl
no_trouble (Some trouble.Unknown) e = absurd (none_part _ (sym e))
no_trouble (Some trouble.Several) e = absurd (none_part _ (sym e))

no_problem : (p : Option Problem) → problem_kind p ≡ None → p ≡ None
no_problem None e = refl
no_problem (Some problem.UnknownProperty) e = absurd (none_part _ (sym e))
no_problem (Some problem.BadClause) e = absurd (none_part _ (sym e))
no_problem (Some problem.Ambiguous) e = absurd (none_part _ (sym e))
no_problem (Some problem.Undefined) e = absurd (none_part _ (sym e))

-- files

-- the lists of a file's faults, one behind the other
module _ (names : List Word) (files : List File) (at : ℕ) (f : File) where
  abbrev behind_clauses : List Fault
  behind_clauses = flat_map (clause_faults (scope_of files at f) at) f.parts.clauses

  abbrev behind_assertions : List Fault
  behind_assertions = flat_map (assertion_faults names (kinds_seen files at f) at f) f.parts.assertions ++ behind_clauses

  abbrev behind_imports : List Fault
  behind_imports = flat_map (import_faults names files at) f.unit.imports ++ behind_assertions

  abbrev behind_exports : List Fault
  behind_exports = export_faults at f ++ behind_imports

  export_is : (e : Export) → fault_where (not (defines f (exported e))) at e.line Undefined ≡ [] → defines f (exported e) ≡ true
  export_is e = none_wrong (defines f (exported e)) at e.line Undefined

  assertion_is : (a : Assertion) → assertion_faults names (kinds_seen files at f) at f a ≡ [] → defines f (asserted a) ≡ true
  assertion_is a e = none_wrong (defines f (asserted a)) at a.line Undefined (front_empty _ (fault_of at a.line (trouble_kind (trouble_of names (kinds_seen files at f) a))) e)

  properties_are : (a : Assertion) → assertion_faults names (kinds_seen files at f) at f a ≡ [] → trouble_of names (kinds_seen files at f) a ≡ None
  properties_are a e =
      no_trouble (trouble_of names (kinds_seen files at f) a) (none_of at a.line (trouble_kind (trouble_of names (kinds_seen files at f) a)) (rest_empty (fault_where (not (defines f (asserted a))) at a.line Undefined) _ e))

  clause_is : (s : Sentence) → clause_faults (scope_of files at f) at s ≡ [] → problem_of (scope_of files at f) s.term ≡ None
  clause_is s e = no_problem (problem_of (scope_of files at f) s.term) (none_of at s.line (problem_kind (problem_of (scope_of files at f) s.term)) e)

  has_no_fault : file_faults names files at f ≡ [] → HasNoFault names files at f
  has_no_fault e = record {
    broken = map_empty (broken_fault at) f.parts.broken (front_empty (map (broken_fault at) f.parts.broken) behind_exports e);
    exports = each_empty (λ x. fault_where (not (defines f (exported x))) at x.line Undefined) (λ x. defines f (exported x) ≡ true) export_is (exports_of f.unit.exports) (front_empty (export_faults at f) behind_imports exports_left);
    assertions = each_empty (assertion_faults names (kinds_seen files at f) at f) (λ a. defines f (asserted a) ≡ true) assertion_is f.parts.assertions asserted_none;
    properties = each_empty (assertion_faults names (kinds_seen files at f) at f) (λ a. trouble_of names (kinds_seen files at f) a ≡ None) properties_are f.parts.assertions asserted_none;
    clauses = each_empty (clause_faults (scope_of files at f) at) (λ s. problem_of (scope_of files at f) s.term ≡ None) clause_is f.parts.clauses clauses_none;
  }
    where
      exports_left : behind_exports ≡ []
      exports_left = rest_empty (map (broken_fault at) f.parts.broken) behind_exports e

      assertions_left : behind_assertions ≡ []
      assertions_left = rest_empty (flat_map (import_faults names files at) f.unit.imports) behind_assertions (rest_empty (export_faults at f) behind_imports exports_left)

      asserted_none : flat_map (assertion_faults names (kinds_seen files at f) at f) f.parts.assertions ≡ []
      asserted_none = front_empty (flat_map (assertion_faults names (kinds_seen files at f) at f) f.parts.assertions) behind_clauses assertions_left

      clauses_none : behind_clauses ≡ []
      clauses_none = rest_empty (flat_map (assertion_faults names (kinds_seen files at f) at f) f.parts.assertions) behind_clauses assertions_left

-- the file at a place has no faults, where files from a place on have none
none_there : (names : List Word) (files : List File) (start : ℕ) (fs : List File) → faults_from names files start fs ≡ [] → (i : ℕ) (f : File) → slice_get fs i ≡ Some f → (at : ℕ) → at ≡ i + start → file_faults names files at f ≡ []
none_there names files start [] e i f is at place = absurd (none_part f is)
none_there names files start (g ∷ fs) e zero f is at place =
    let same : at ≡ start = omega (arith, place) in
    subst (λ n. file_faults names files n f ≡ []) (sym same)
    (subst (λ h. file_faults names files start h ≡ []) (some_part g f is) (front_empty (file_faults names files start g) (faults_from names files (suc start) fs) e))
none_there names files start (g ∷ fs) e (suc i) f is at place =
    none_there names files (suc start) fs (rest_empty (file_faults names files start g) (faults_from names files (suc start) fs) e) i f is at (omega (arith, place))

-- where no fault is found, each file has none
pub no_fault_at : (names : List Word) (files : List File) → least (all_faults names files) ≡ None → (at : ℕ) (f : File) → slice_get files at ≡ Some f → HasNoFault names files at f
no_fault_at names files none at f is =
    has_no_fault names files at f
    (none_there names files 0 files (front_empty (faults_from names files 0 files) (type_faults (refused (type_modules files))) (none_least (all_faults names files) none)) at f is at (omega arith))

-- types

-- where no fault is found, none is told of types
pub no_types_told : (names : List Word) (files : List File) → least (all_faults names files) ≡ None → type_faults (refused (type_modules files)) ≡ []
no_types_told names files none = rest_empty (faults_from names files 0 files) (type_faults (refused (type_modules files))) (none_least (all_faults names files) none)
