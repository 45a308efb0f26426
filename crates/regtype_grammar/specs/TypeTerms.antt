-- Which terms a regular type has, by its clauses.
-- The headline does not rest on this file.
use Rattle.std.specs.Prelude.{◌≡◌, ◌↔◌, ◌⊎◌, ◌<◌, ℕ, zero, suc, ℤ, ◌+◌, ◌==◌, Bool, true, false, List, [], ◌∷◌, Some, slice_get, slice_index_or}
use Rattle.term_core.specs.declared.terms.Term.{Term}
use Rattle.term_core.specs.declared.terms.Term as term
use Rattle.ciao_reader.specs.declared.sentences.Sentence.{Sentence}
use Rattle.prog_data.specs.declared.grammars.Grammar.{Grammar}
use Rattle.prog_data.specs.BasicNames.{basic_grammar}
use Rattle.prog_data.specs.Membership.{Belongs}
use Rattle.regtype_grammar.specs.declared.literals.Literal.{Literal}
use Rattle.regtype_grammar.specs.declared.meanings.Meaning.{Meaning}
use Rattle.regtype_grammar.specs.declared.modules.RegType.{RegType}
use Rattle.regtype_grammar.specs.declared.modules.TypeModule.{TypeModule}
use Rattle.regtype_grammar.specs.TypeNames.{count_types, first_names, numbered, meaning, are_seen}
use Rattle.regtype_grammar.specs.TypeClauses.{TypeClause, clause_of}
use Rattle.regtype_grammar.specs.Grammars.{number, grammar_of}
use Rattle.regtype_grammar.specs.ListTerms.{IsListOf}

-- a term has the shape of another one, with a term that holds in the place of each variable
mutual
  pub data Shaped (holds : ℕ → Term → Type 0) : Term → Term → Type 0 where
    variable : {t u : Term} (v : ℕ) → t ≡ term.Var v → holds v u → Shaped holds t u
    integer : {t u : Term} (k : ℤ) → t ≡ term.Int k → u ≡ term.Int k → Shaped holds t u
    atom : {t u : Term} (a : ℕ) → t ≡ term.Atom a → u ≡ term.Atom a → Shaped holds t u
    compound : {t u : Term} (f : ℕ) (ts us : List Term) → t ≡ term.Node f ts → u ≡ term.Node f us → ShapedEach holds ts us → Shaped holds t u

  -- each of some terms has the shape of the one in its place
  pub data ShapedEach (holds : ℕ → Term → Type 0) : List Term → List Term → Type 0 where
    no_shapes : ShapedEach holds [] []
    more_shapes : {t u : Term} {ts us : List Term} → Shaped holds t u → ShapedEach holds ts us → ShapedEach holds (t ∷ ts) (u ∷ us)

-- in what follows, `has n u` says that the term u is one of the type with the grammar name n

-- the term is one of a type, or a proper list of such terms
abbrev pub IsOfType : (ℕ → Term → Type 0) → ℕ → Bool → Term → Type 0
IsOfType has type true u = IsListOf (has type) u
IsOfType has type false u = has type u

-- the term is what a literal says
abbrev pub IsAsSaid : (ℕ → Term → Type 0) → (ℕ → Meaning) → Literal → Term → Type 0
IsAsSaid has means literal u = IsOfType has (number (means literal.name)) literal.in_list u

-- the first of two claims where a test passes, else the second
abbrev pub Chosen : Bool → Type 0 → Type 0 → Type 0
Chosen true A B = A
Chosen false A B = B

-- the term may stand in the place of a variable: it is what the variable's literal says, any term where there is none
abbrev pub MayStand : (ℕ → Term → Type 0) → (ℕ → Meaning) → List Literal → ℕ → Term → Type 0
MayStand has means [] v u = Unit {0}
MayStand has means (literal ∷ rest) v u = Chosen (literal.variable == v) (IsAsSaid has means literal u) (MayStand has means rest v u)

-- the term is one that a sentence gives to the type of this name
abbrev pub IsGivenBy : (ℕ → Term → Type 0) → (ℕ → Meaning) → ℕ → Sentence → Term → Type 0
IsGivenBy has means name sentence u = (clause : TypeClause) × (clause_of name sentence ≡ Some clause) × Shaped (MayStand has means clause.literals) clause.argument u

-- the term is one that one of some sentences gives
abbrev pub IsGiven : (ℕ → Term → Type 0) → (ℕ → Meaning) → ℕ → List Sentence → Term → Type 0
IsGiven has means name [] u = ⊥
IsGiven has means name (s ∷ ss) u = IsGivenBy has means name s u ⊎ IsGiven has means name ss u

-- a term belongs to a type exactly where it has the shape of the argument of one of the type's clauses, with a term that belongs to its type in the place of each variable
abbrev pub TypesHaveTheirTerms : Type 0
TypesHaveTheirTerms = (modules : List TypeModule) (g : Grammar) → grammar_of modules ≡ Some g → (k j : ℕ) (one : TypeModule) (t : RegType) → slice_get modules k ≡ Some one → slice_get one.types j ≡ Some t → (u : Term)
    → Belongs g u (slice_index_or (first_names modules) k 0 + j) ↔ IsGiven (λ n w. Belongs g w n) (meaning (numbered (first_names modules) one.visible)) t.name t.clauses u

-- the term is given to the declared type with the grammar name n
pub record IsDeclared (modules : List TypeModule) (has : ℕ → Term → Type 0) (n : ℕ) (u : Term) : Type 0 where
  pub position : ℕ
  pub place : ℕ
  pub one : TypeModule
  pub declared : RegType
  pub of_module : slice_get modules position ≡ Some one
  pub of_types : slice_get one.types place ≡ Some declared
  pub name_is : n ≡ slice_index_or (first_names modules) position 0 + place
  pub given : IsGiven has (meaning (numbered (first_names modules) one.visible)) declared.name declared.clauses u

-- the term is given to the type with the grammar name n within so many clauses, one inside the other: a basic type has its terms, a declared one has a term by a clause and by terms that are given within one clause less
abbrev pub GivenWithin : List TypeModule → ℕ → ℕ → Term → Type 0
GivenWithin modules zero n u = ⊥
GivenWithin modules (suc depth) n u = ((n < 10) × Belongs basic_grammar u n) ⊎ IsDeclared modules (GivenWithin modules depth) n u

-- the term is given to the type within some number of clauses: the least that the clauses give, so a type whose clauses only lead back to itself has no term
abbrev pub Given : List TypeModule → ℕ → Term → Type 0
Given modules n u = (depth : ℕ) × GivenWithin modules depth n u

-- a term belongs to a basic type or a declared one exactly where the types' clauses give it
abbrev pub TypesHaveLeastTerms : Type 0
TypesHaveLeastTerms = (modules : List TypeModule) (g : Grammar) → are_seen modules ≡ true → grammar_of modules ≡ Some g → (n : ℕ) → n < 10 + count_types modules → (u : Term) → Belongs g u n ↔ Given modules n u
