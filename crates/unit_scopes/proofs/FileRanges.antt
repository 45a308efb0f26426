-- The files of units in range.
use Rattle.std.proofs.Common.{◌≡◌, ℕ, ◌<◌, ◌≤◌, Bool, true, false, List, [], ◌∷◌, ◌++◌, map, length, refl, subst}
use Rattle.std.specs.Prelude.{cond, ◌==◌, ◌&&◌, Option, Some, None, option_and_then}
use Rattle.std.specs.List.{list_all, AllByRecursion}
use Rattle.term_core.specs.Names.{fixed_names}
use Rattle.term_core.specs.Shapes.{is_pair, single_of}
use Rattle.term_core.specs.declared.fixed.TheConstants.{NECK, GRAMMAR_ARROW, REGTYPE}
use Rattle.term_core.specs.declared.terms.Term.{Term, out-Term}
use Rattle.term_core.specs.declared.terms.Term.TheOpen as layer
use Rattle.term_core.proofs.OperandLaws.{none_part, some_part}
use Rattle.ciao_reader.specs.Ranges.{IsSentenceInRange}
use Rattle.ciao_reader.specs.declared.sentences.Sentence.{Sentence}
use Rattle.prog_data.specs.declared.refusals.RefusalKind.TheVariants.{BadClause}
use Rattle.dcg_expand.specs.Expansion.{DcgExpanded}
use Rattle.dcg_expand.specs.Ranges.{RulesStayInRange}
use Rattle.fsyntax_expand.specs.Expansion.{FunctionalExpanded}
use Rattle.fsyntax_expand.specs.Ranges.{ClausesStayInRange}
use Rattle.assertion_read.specs.Readings.{assertion_of}
use Rattle.assertion_read.specs.Ranges.{IsAssertionInRange, AssertionsStayInRange}
use Rattle.assertion_read.specs.declared.assertions.Assertion.{Assertion}
use Rattle.regtype_grammar.specs.Declarations.{declared_type}
use Rattle.ciao_modules.specs.Directives.{is_declaration}
use Rattle.ciao_modules.specs.UnitRanges.{IsUnitInRange}
use Rattle.ciao_modules.specs.declared.units.Unit.{Unit as Loaded}
use Rattle.unit_scopes.specs.Sayings.{after_dcg, after_fsyntax, expanded, has_head, breaks, clauses_said, assertion_said, type_said, declaration_said, directive_said, said_by, saying, with_saying, parts_behind, no_parts, File, file_of}
use Rattle.unit_scopes.specs.declared.sayings.Parts.{Parts}
use Rattle.unit_scopes.specs.declared.sayings.Saying.{Saying}
use Rattle.unit_scopes.specs.declared.sayings.Saying.TheVariants.{Clauses, Asserts, Declares, Passes, Breaks}
use Rattle.unit_scopes.specs.Ranges.{IsFileInRange, FilesStayInRange}

each_append : {A : Type 0} (P : A → Type 0) (xs ys : List A) → AllByRecursion P xs → AllByRecursion P ys → AllByRecursion P (xs ++ ys)
each_append P [] ys h k = k
each_append P (x ∷ xs) ys h k = (h.0, each_append P xs ys h.1 k)

module _ (rules_stay : RulesStayInRange) (clauses_stay : ClausesStayInRange) (assertions_stay : AssertionsStayInRange) (names : ℕ) (fixed : length fixed_names ≤ names) where
  abbrev SentenceIn : Sentence → Type 0
  SentenceIn s = IsSentenceInRange names s

  -- what is said
  abbrev SayingIn : Saying → Type 0
  SayingIn (Clauses clauses) = AllByRecursion SentenceIn clauses
  SayingIn (Asserts a) = IsAssertionInRange names a
  SayingIn (Declares d) = Unit {0}
  SayingIn Passes = Unit {0}
  SayingIn (Breaks b) = Unit {0}

  abbrev PartsIn : Parts → Type 0
  PartsIn p = AllByRecursion SentenceIn p.clauses × AllByRecursion (IsAssertionInRange names) p.assertions

  -- clauses

  dcg_in : (dcg : Bool) (s t : Sentence) → SentenceIn s → after_dcg dcg s ≡ Some t → SentenceIn t
  dcg_in dcg s t h e = by (dcg && is_pair GRAMMAR_ARROW (out-Term s.term)) e
    where
      by : (b : Bool) → cond b (DcgExpanded s) (Some s) ≡ Some t → SentenceIn t
      by true e' = rules_stay names s t fixed e' h
      by false e' = subst SentenceIn (some_part s t e') h

  fsyntax_in : (fsyntax : Bool) (s : Sentence) (ts : List Sentence) → SentenceIn s → after_fsyntax fsyntax s ≡ Some ts → AllByRecursion SentenceIn ts
  fsyntax_in true s ts h e = clauses_stay names s ts fixed e h
  fsyntax_in false s ts h e = subst (AllByRecursion SentenceIn) (some_part (s ∷ []) ts e) (h, tt)

  expanded_in : (dcg fsyntax : Bool) (s : Sentence) (ts : List Sentence) → SentenceIn s → expanded dcg fsyntax s ≡ Some ts → AllByRecursion SentenceIn ts
  expanded_in dcg fsyntax s ts h e = by (after_dcg dcg s) refl e
    where
      by : (o : Option Sentence) → after_dcg dcg s ≡ o → option_and_then (after_fsyntax fsyntax) o ≡ Some ts → AllByRecursion SentenceIn ts
      by None i e' = absurd (none_part ts e')
      by (Some t) i e' = fsyntax_in fsyntax t ts (dcg_in dcg s t h i) e'

  clauses_in : (line : ℕ) (o : Option (List Sentence)) → ((ts : List Sentence) → o ≡ Some ts → AllByRecursion SentenceIn ts) → SayingIn (clauses_said line o)
  clauses_in line None h = tt
  clauses_in line (Some ts) h = by (list_all has_head ts)
    where
      by : (b : Bool) → SayingIn (cond b (Clauses ts) (breaks line BadClause))
      by true = h ts refl
      by false = tt

  -- directives

  type_in : (line : ℕ) (o : Option ℕ) → SayingIn (type_said line o)
  type_in line None = tt
  type_in line (Some name) = tt

  assertion_in : (s : Sentence) → SentenceIn s → (o : Option Assertion) → assertion_of s ≡ o → SayingIn (assertion_said s.line o)
  assertion_in s h None i = tt
  assertion_in s h (Some a) i = assertions_stay s a i names h

  declaration_in : (s : Sentence) → SentenceIn s → (f : ℕ) → SayingIn (declaration_said s f)
  declaration_in s h f = by (f == REGTYPE) (is_declaration f)
    where
      by : (b c : Bool) → SayingIn (cond b (type_said s.line (declared_type s)) (cond c (assertion_said s.line (assertion_of s)) Passes))
      by true c = type_in s.line (declared_type s)
      by false true = assertion_in s h (assertion_of s) refl
      by false false = tt

  directive_in : (s : Sentence) → SentenceIn s → (x : layer.Term-F Term) → SayingIn (directive_said s x)
  directive_in s h (layer.Var v) = tt
  directive_in s h (layer.Int n) = tt
  directive_in s h (layer.Atom a) = tt
  directive_in s h (layer.Node f []) = tt
  directive_in s h (layer.Node f (part ∷ [])) = declaration_in s h f
  directive_in s h (layer.Node f (part ∷ other ∷ rest)) = tt

  -- sentences

  said_in : (dcg fsyntax : Bool) (s : Sentence) → SentenceIn s → (o : Option Term) → SayingIn (said_by dcg fsyntax s o)
  said_in dcg fsyntax s h None = clauses_in s.line (expanded dcg fsyntax s) (λ ts e. expanded_in dcg fsyntax s ts h e)
  said_in dcg fsyntax s h (Some directive) = directive_in s h (out-Term directive)

  with_in : (p : Parts) (x : Saying) → PartsIn p → SayingIn x → PartsIn (with_saying p x)
  with_in p (Clauses clauses) h k = (each_append SentenceIn p.clauses clauses h.0 k, h.1)
  with_in p (Asserts a) h k = (h.0, each_append (IsAssertionInRange names) p.assertions (a ∷ []) h.1 (k, tt))
  with_in p (Declares d) h k = h
  with_in p Passes h k = h
  with_in p (Breaks b) h k = h

  behind_in : (dcg fsyntax : Bool) (p : Parts) (ss : List Sentence) → PartsIn p → AllByRecursion SentenceIn ss → PartsIn (parts_behind dcg fsyntax p ss)
  behind_in dcg fsyntax p [] h k = h
  behind_in dcg fsyntax p (s ∷ ss) h k =
      behind_in dcg fsyntax (with_saying p (saying dcg fsyntax s)) ss (with_in p (saying dcg fsyntax s) h (said_in dcg fsyntax s k.0 (single_of NECK (out-Term s.term)))) k.1

  file_in : (count : ℕ) (u : Loaded) → IsUnitInRange names count u → IsFileInRange names (file_of u)
  file_in count u h =
      let parts = behind_in u.dcg u.fsyntax no_parts u.sentences (tt, tt) h.sentences in
      record { file = h.file; name = h.name; clauses = parts.0; assertions = parts.1 }

  files_in : (count : ℕ) (units : List Loaded) → AllByRecursion (IsUnitInRange names count) units → AllByRecursion (IsFileInRange names) (map file_of units)
  files_in count [] h = tt
  files_in count (u ∷ us) h = (file_in count u h.0, files_in count us h.1)

pub files_stay : RulesStayInRange → ClausesStayInRange → AssertionsStayInRange → FilesStayInRange
files_stay rules_stay clauses_stay assertions_stay names count units fixed h = files_in rules_stay clauses_stay assertions_stay names fixed count units h
