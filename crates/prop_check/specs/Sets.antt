-- What of a set of grammar names a term belongs to.
-- The headline does not rest on this file.
use Rattle.std.specs.Prelude.{◌≡◌, ◌<◌, ◌≤◌, ◌⊎◌, ℕ, suc, ◌==◌, Bool, true, false, ◌&&◌, List, [], ◌∷◌, length, Option, Some, None, slice_get, drop, if◌then◌else◌}
use Rattle.std.specs.List.{list_any, list_all}
use Rattle.term_core.specs.declared.terms.Term.{Term}
use Rattle.term_core.specs.declared.terms.Term as term
use Rattle.prog_data.specs.declared.basic_names.TheConstants.{GND_TYPE}
use Rattle.prog_data.specs.declared.grammars.Basic.TheVariants as basic
use Rattle.prog_data.specs.declared.grammars.Rule.{Rule}
use Rattle.prog_data.specs.declared.grammars.Rule.TheVariants.{Basic as BasicRule, Node, Unit as UnitRule}
use Rattle.prog_data.specs.declared.grammars.Grammar.{Grammar}
use Rattle.prog_data.specs.Membership.{rules_of, admits_var, admits_int, admits_atom, belongs}
use Rattle.prop_check.specs.declared.gathering.Look.{Look}
use Rattle.prop_check.specs.declared.gathering.Look.TheVariants.{Units, Part, Last}
use Rattle.prop_check.specs.declared.heads.Head.{Head}
use Rattle.prop_check.specs.declared.heads.Head.TheVariants as head

-- a grammar of 512 names at most, in which gnd has its own rule alone
pub record Fits (g : Grammar) : Type 0 where
  pub few : length g.rules ≤ 512
  pub gnd : rules_of g GND_TYPE ≡ BasicRule basic.Gnd ∷ []

-- the name to which a unit rule leads
abbrev pub unit_picked : Rule → Option ℕ
unit_picked (UnitRule m) = Some m
unit_picked other = None

-- the name in a place of a rule for the compounds of a name, and gnd where the rule asks for it
abbrev pub part_picked : ℕ → ℕ → Rule → Option ℕ
part_picked f place (Node h ns) = if f == h then slice_get ns place else None
part_picked f place (BasicRule basic.Gnd) = Some GND_TYPE
part_picked f place other = None

-- the last of some names, where each set has the name in its place, and there is one name more
abbrev pub last_name : List (ℕ → Bool) → List ℕ → Option ℕ
last_name known [] = None
last_name [] (n ∷ []) = Some n
last_name [] (n ∷ m ∷ ns) = None
last_name (has ∷ rest) (n ∷ ns) = if has n then last_name rest ns else None

-- the name gnd, where each set has it
abbrev pub ground_name : List (ℕ → Bool) → Option ℕ
ground_name known = if list_all (λ has. has GND_TYPE) known then Some GND_TYPE else None

-- the name that a rule for the compounds of a name asks of the last part, by the sets of names to which the others belong
abbrev pub last_picked : List (ℕ → Bool) → ℕ → Rule → Option ℕ
last_picked known f (Node h ns) = if f == h then last_name known ns else None
last_picked known f (BasicRule basic.Gnd) = ground_name known
last_picked known f other = None

-- the name that is found in a rule
abbrev pub picked : List (ℕ → Bool) → Look → Rule → Option ℕ
picked known Units = unit_picked
picked known (Part f place) = part_picked f place
picked known (Last f) = last_picked known f

-- whether it is this name
abbrev pub has_name : ℕ → Option ℕ → Bool
has_name m None = false
has_name m (Some k) = m == k

-- whether this name is found in a rule
abbrev pub is_picked : List (ℕ → Bool) → Look → ℕ → Rule → Bool
is_picked known look m r = has_name m (picked known look r)

-- whether the second name is found in a rule of the first
abbrev pub finds_in : Grammar → List (ℕ → Bool) → Look → ℕ → ℕ → Bool
finds_in g known look n m = list_any (is_picked known look m) (rules_of g n)

-- the same where no part is known
abbrev pub finds : Grammar → Look → ℕ → ℕ → Bool
finds g = finds_in g []

-- a name was there, or is found in a rule of a name of the set
abbrev pub IsFrom : Grammar → List (ℕ → Bool) → Look → (ℕ → Bool) → (ℕ → Bool) → ℕ → Type 0
IsFrom g known look from old m = (old m ≡ true) ⊎ ((n : ℕ) × (from n ≡ true) × (finds_in g known look n m ≡ true))

-- a set has the names, below 512, to which unit rules lead from its names
abbrev pub IsClosed : Grammar → (ℕ → Bool) → Type 0
IsClosed g reach = (n m : ℕ) → reach n ≡ true → finds g Units n m ≡ true → m < 512 → reach m ≡ true

-- each set tells, of the names that rules of the compounds of a name ask of the part in its place, whether it belongs there
abbrev pub AreTold : Grammar → (ℕ → Bool) → ℕ → ℕ → List Term → List (ℕ → Bool) → Type 0
AreTold g reach f place [] [] = Unit {0}
AreTold g reach f place [] (has ∷ rest) = ⊥
AreTold g reach f place (t ∷ ts) [] = ⊥
AreTold g reach f place (t ∷ ts) (has ∷ rest) = ((n m : ℕ) → reach n ≡ true → finds g (Part f place) n m ≡ true → has m ≡ belongs g t m) × AreTold g reach f (suc place) ts rest

-- the parts of a compound from one on are told by sets, for the names of a closed set
pub record IsTold (g : Grammar) (reach : ℕ → Bool) (t : Term) (f : ℕ) (ts : List Term) (left : ℕ) (sets : List (ℕ → Bool)) : Type 0 where
  pub fits : Fits g
  pub closed : IsClosed g reach
  pub compound : t ≡ term.Node f ts
  pub within : left ≤ length ts
  pub told : AreTold g reach f left (drop left ts) sets

-- whether each set has the name in its place, and there are as many
abbrev pub each_has : List (ℕ → Bool) → List ℕ → Bool
each_has [] [] = true
each_has [] (n ∷ ns) = false
each_has (has ∷ rest) [] = false
each_has (has ∷ rest) (n ∷ ns) = has n && each_has rest ns

-- whether a leaf holds of a compound, by the sets of names to which its parts belong
abbrev pub node_holds : List (ℕ → Bool) → ℕ → Rule → Bool
node_holds known f (BasicRule basic.Term) = true
node_holds known f (BasicRule basic.Struct) = true
node_holds known f (BasicRule basic.Gnd) = list_all (λ has. has GND_TYPE) known
node_holds known f (Node h ns) = (f == h) && each_has known ns
node_holds known f other = false

-- whether a leaf holds of a term with this outermost, likewise
abbrev pub head_holds : List (ℕ → Bool) → Head → Rule → Bool
head_holds known head.Var = admits_var
head_holds known (head.Int n) = admits_int n
head_holds known (head.Atom a) = admits_atom a
head_holds known (head.Node f) = node_holds known f

-- whether a rule passes: a unit rule by the names that are found so far
abbrev pub passes_in : (Rule → Bool) → (ℕ → Bool) → Rule → Bool
passes_in holds found (UnitRule m) = found m
passes_in holds found other = holds other
