-- Which terms are the lists of an element, and that names keep their terms where others come behind.
-- The headline does not rest on this file.
use Rattle.std.specs.Prelude.{◌≡◌, ◌↔◌, ◌<◌, ℕ, [], ◌∷◌, length, Some}
use Rattle.term_core.specs.declared.fixed.TheConstants.{NIL, CELL}
use Rattle.term_core.specs.declared.terms.Term.{Term}
use Rattle.term_core.specs.declared.terms.Term as term
use Rattle.term_core.specs.Lists.{IsPrefix}
use Rattle.prog_data.specs.declared.grammars.Grammar.{Grammar}
use Rattle.prog_data.specs.GrammarRange.{IsGrammar}
use Rattle.prog_data.specs.Membership.{Belongs}
use Rattle.regtype_grammar.specs.Lists.{Listed, list_of}

-- the term is a proper list, and what is asked of an item holds of each of its items
pub data IsListOf (holds : Term → Type 0) : Term → Type 0 where
  empty : {t : Term} → t ≡ term.Atom NIL → IsListOf holds t
  cell : {t : Term} (first rest : Term) → t ≡ term.Node CELL (first ∷ rest ∷ []) → holds first → IsListOf holds rest → IsListOf holds t

-- what belongs to the lists of an element is exactly the proper lists of what belongs to the element
abbrev pub ListsAreLists : Type 0
ListsAreLists = (g : Grammar) (element : ℕ) (listed : Listed) → list_of g element ≡ Some listed → (t : Term) → Belongs listed.grammar t listed.name ↔ IsListOf (λ u. Belongs listed.grammar u element) t

-- a name of a grammar in range keeps its terms where rules of further names come behind
abbrev pub OldNamesKeepTerms : Type 0
OldNamesKeepTerms = (old new : Grammar) → IsGrammar old → IsPrefix old.rules new.rules → (name : ℕ) → name < length old.rules → (t : Term) → Belongs new t name ↔ Belongs old t name
