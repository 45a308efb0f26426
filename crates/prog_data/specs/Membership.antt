-- What belongs to a grammar name.
use Rattle.std.specs.Prelude.{◌≡◌, ℕ, zero, suc, ◌==◌, Bool, true, false, ◌&&◌, List, [], ◌∷◌, ◌++◌, length, slice_index_or, Contains, flat_map, filter, ℤ, pos, int_le}
use Rattle.std.specs.List.{list_any, list_all}
use Rattle.std.specs.Ordering.{int_eq}
use Rattle.term_core.specs.declared.terms.Term.{Term}
use Rattle.term_core.specs.declared.terms.Term as term
use Rattle.term_core.specs.declared.terms.Term.TheOpen as layer
use Rattle.term_core.specs.declared.terms.Term.TheFolds.{fold-Term}
use Rattle.term_core.specs.Terms.{is_ground}
use Rattle.prog_data.specs.declared.grammars.Basic.{Basic}
use Rattle.prog_data.specs.declared.grammars.Basic.TheVariants as basic
use Rattle.prog_data.specs.declared.grammars.Rule.{Rule}
use Rattle.prog_data.specs.declared.grammars.Rule.TheVariants.{Basic as BasicRule, Int, Atom, Node, Unit as UnitRule}
use Rattle.prog_data.specs.declared.grammars.Grammar.{Grammar}

-- the rules of a name, none where it is not there
abbrev pub rules_of : Grammar → ℕ → List Rule
rules_of g n = slice_index_or g.rules n []

-- which terms a basic rule has
abbrev pub IsBasic : Basic → Term → Type 0
IsBasic basic.Term t = Unit {0}
IsBasic basic.Int t = (n : ℤ) × (t ≡ term.Int n)
IsBasic basic.Nnegint t = (n : ℕ) × (t ≡ term.Int (pos n))
IsBasic basic.Atm t = (a : ℕ) × (t ≡ term.Atom a)
IsBasic basic.Gnd t = is_ground t ≡ true
IsBasic basic.Struct t = (f : ℕ) × (ts : List Term) × (t ≡ term.Node f ts)

-- the least relation that the rules of the names give
mutual
  -- a term belongs to a name by one of its rules
  pub data Belongs (g : Grammar) : Term → ℕ → Type 0 where
    by_basic : {t : Term} {n : ℕ} (b : Basic) → Contains (rules_of g n) (BasicRule b) → IsBasic b t → Belongs g t n
    by_int : {t : Term} {n : ℕ} (k : ℤ) → Contains (rules_of g n) (Int k) → t ≡ term.Int k → Belongs g t n
    by_atom : {t : Term} {n : ℕ} (a : ℕ) → Contains (rules_of g n) (Atom a) → t ≡ term.Atom a → Belongs g t n
    by_node : {t : Term} {n : ℕ} (f : ℕ) (ts : List Term) (ns : List ℕ) → Contains (rules_of g n) (Node f ns) → t ≡ term.Node f ts → BelongEach g ts ns → Belongs g t n
    by_unit : {t : Term} {n : ℕ} (m : ℕ) → Contains (rules_of g n) (UnitRule m) → Belongs g t m → Belongs g t n

  -- each term to the name in its place
  pub data BelongEach (g : Grammar) : List Term → List ℕ → Type 0 where
    none : BelongEach g [] []
    more : {t : Term} {ts : List Term} {n : ℕ} {ns : List ℕ} → Belongs g t n → BelongEach g ts ns → BelongEach g (t ∷ ts) (n ∷ ns)

-- membership as a test: a term belongs to a name where a leaf of the name admits it

-- whether a rule is no unit
abbrev pub is_leaf : Rule → Bool
is_leaf (UnitRule m) = false
is_leaf other = true

-- the name that a unit rule leads to
abbrev pub unit_of : Rule → List ℕ
unit_of (UnitRule m) = m ∷ []
unit_of other = []

-- the rules that are no unit, of the name and of those that up to k unit rules lead to
abbrev pub leaves_within : ℕ → Grammar → ℕ → List Rule
leaves_within zero g n = filter is_leaf (rules_of g n)
leaves_within (suc k) g n = filter is_leaf (rules_of g n) ++ flat_map (leaves_within k g) (flat_map unit_of (rules_of g n))

-- the leaves of a name; unit rules that lead to one by no name twice are at most as many as there are names
abbrev pub leaves : Grammar → ℕ → List Rule
leaves g n = leaves_within (length g.rules) g n

-- whether a leaf admits a variable
abbrev pub admits_var : Rule → Bool
admits_var (BasicRule basic.Term) = true
admits_var other = false

-- whether a leaf admits an integer
abbrev pub admits_int : ℤ → Rule → Bool
admits_int k (BasicRule basic.Term) = true
admits_int k (BasicRule basic.Int) = true
admits_int k (BasicRule basic.Nnegint) = int_le (pos 0) k
admits_int k (BasicRule basic.Gnd) = true
admits_int k (Int j) = int_eq k j
admits_int k other = false

-- whether a leaf admits an atom
abbrev pub admits_atom : ℕ → Rule → Bool
admits_atom a (BasicRule basic.Term) = true
admits_atom a (BasicRule basic.Atm) = true
admits_atom a (BasicRule basic.Gnd) = true
admits_atom a (Atom b) = a == b
admits_atom a other = false

-- for each part, whether a leaf of the name in its place admits it
abbrev pub admit_each : Grammar → List (Rule → Bool) → List ℕ → Bool
admit_each g [] [] = true
admit_each g [] (n ∷ ns) = false
admit_each g (p ∷ ps) [] = false
admit_each g (p ∷ ps) (n ∷ ns) = list_any p (leaves g n) && admit_each g ps ns

-- whether a leaf admits a compound, by what admits its parts
abbrev pub admits_node : Grammar → ℕ → List (Rule → Bool) → Rule → Bool
admits_node g f ps (BasicRule basic.Term) = true
admits_node g f ps (BasicRule basic.Struct) = true
admits_node g f ps (BasicRule basic.Gnd) = list_all (λ p. p (BasicRule basic.Gnd)) ps
admits_node g f ps (Node h ns) = (f == h) && admit_each g ps ns
admits_node g f ps other = false

-- whether a leaf admits a term, by what admits its parts
abbrev pub admits_step : Grammar → layer.Term-F (Rule → Bool) → Rule → Bool
admits_step g (layer.Var v) = admits_var
admits_step g (layer.Int n) = admits_int n
admits_step g (layer.Atom a) = admits_atom a
admits_step g (layer.Node f ps) = admits_node g f ps

-- whether a leaf admits a term
abbrev pub admits : Grammar → Term → Rule → Bool
admits g = fold-Term (Rule → Bool) (admits_step g)

-- whether a term belongs to a name
abbrev pub belongs : Grammar → Term → ℕ → Bool
belongs g t n = list_any (admits g t) (leaves g n)
