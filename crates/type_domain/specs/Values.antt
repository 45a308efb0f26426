-- Values of terms: none, or names that a term is known to belong to.
-- The headline does not rest on this file.
use Rattle.std.specs.Prelude.{◌≡◌, ℕ, ◌<◌, ◌==◌, Bool, true, false, ◌&&◌, ◌||◌, not, List, [], ◌∷◌, map, length, slice_index_or, None, Some, ℤ}
use Rattle.std.specs.List.{list_any, list_all}
use Rattle.prog_data.specs.declared.grammars.Basic.TheVariants as basic
use Rattle.prog_data.specs.declared.grammars.Rule.{Rule}
use Rattle.prog_data.specs.declared.grammars.Rule.TheVariants.{Basic as BasicRule, Node}
use Rattle.prog_data.specs.Values.{TypeValue}
use Rattle.prog_data.specs.Membership.{admits_int, admits_atom}
use Rattle.prog_data.specs.declared.basic_names.TheConstants.{GND_TYPE}
use Rattle.name_order.specs.Relations.{names_below, Order}

-- the name term
abbrev pub term_name : ℕ
term_name = 0

-- whether a value is not none and has the name
abbrev pub has_name : TypeValue → ℕ → Bool
has_name None n = false
has_name (Some p) n = p n

-- whether a value is not none
abbrev pub is_set : TypeValue → Bool
is_set None = false
is_set (Some p) = true

-- what the analysis keeps: with term, and with each name what it is below; only names of the grammar
pub record IsUp (o : Order) (p : ℕ → Bool) : Type 0 where
  pub term : p term_name ≡ true
  pub up : (n m : ℕ) → p n ≡ true → o.below n m ≡ true → p m ≡ true
  pub names : (n : ℕ) → p n ≡ true → n < o.size

-- none, or names that the analysis keeps
abbrev pub IsValue : Order → TypeValue → Type 0
IsValue o None = Unit {0}
IsValue o (Some p) = IsUp o p

-- a value says at least as much as another
abbrev pub Leq : TypeValue → TypeValue → Type 0
Leq None b = Unit {0}
Leq (Some p) None = ⊥
Leq (Some p) (Some q) = (n : ℕ) → q n ≡ true → p n ≡ true

-- the names that are in both; none is neutral
abbrev pub join : TypeValue → TypeValue → TypeValue
join None b = b
join (Some p) None = Some p
join (Some p) (Some q) = Some (λ n. p n && q n)

-- the names of the grammar
abbrev pub names_of : Order → List ℕ
names_of o = names_below o.size

-- whether a name has a leaf with members
abbrev pub is_inhabited : List Rule → Bool
is_inhabited [] = false
is_inhabited (r ∷ rs) = true

-- whether a name meets each that passes
abbrev pub meets_all : Order → (ℕ → Bool) → ℕ → Bool
meets_all o p n = list_all (λ m. not (p m) || o.meets n m) (names_of o)

-- whether a name, if it passes, has a member and meets each that passes
abbrev pub is_fit : Order → (ℕ → Bool) → ℕ → Bool
is_fit o p n = not (p n) || (is_inhabited (o.leaves n) && meets_all o p n)

-- whether each name that passes has a member and each two of them meet
abbrev pub all_fit : Order → (ℕ → Bool) → Bool
all_fit o p = list_all (is_fit o p) (names_of o)

-- whether a value is none, or its names all fit
abbrev pub is_coherent : Order → TypeValue → Bool
is_coherent o None = true
is_coherent o (Some p) = all_fit o p

-- the names, or none where a test that they all fit fails
abbrev pub unless_apart : Bool → (ℕ → Bool) → TypeValue
unless_apart true p = Some p
unless_apart false p = None

-- the names that are in one of them, none where these do not all fit; a union of two values holds with each name what it is below
abbrev pub meet : Order → TypeValue → TypeValue → TypeValue
meet o None b = None
meet o (Some p) None = None
meet o (Some p) (Some q) = unless_apart (all_fit o (λ n. p n || q n)) (λ n. p n || q n)

-- a name and all that it is below
abbrev pub of_name : Order → ℕ → TypeValue
of_name o n = Some (o.below n)

-- the names with a leaf that admits an integer
abbrev pub of_int : Order → ℤ → TypeValue
of_int o k = Some (λ n. list_any (admits_int k) (o.leaves n))

-- the names with a leaf that admits an atom
abbrev pub of_atom : Order → ℕ → TypeValue
of_atom o a = Some (λ n. list_any (admits_atom a) (o.leaves n))

-- each name is in the value in its place, and there are as many
abbrev pub each_has : List TypeValue → List ℕ → Bool
each_has [] [] = true
each_has [] (n ∷ ns) = false
each_has (v ∷ vs) [] = false
each_has (v ∷ vs) (n ∷ ns) = has_name v n && each_has vs ns

-- whether a leaf takes the compounds of this name whose parts are in these values
abbrev pub leaf_builds : ℕ → List TypeValue → Rule → Bool
leaf_builds f vs (BasicRule basic.Term) = true
leaf_builds f vs (BasicRule basic.Struct) = true
leaf_builds f vs (BasicRule basic.Gnd) = list_all (λ v. has_name v GND_TYPE) vs
leaf_builds f vs (Node h ns) = (f == h) && each_has vs ns
leaf_builds f vs other = false

-- where a test holds, a value, else none
abbrev pub where_fits : Bool → TypeValue → TypeValue
where_fits true v = v
where_fits false v = None

-- the names with a leaf that takes the compounds of this name whose parts are in these values; none where a part is none
abbrev pub build : Order → ℕ → List TypeValue → TypeValue
build o f vs = where_fits (list_all is_set vs) (Some (λ n. list_any (leaf_builds f vs) (o.leaves n)))

-- what a leaf says of a part of its compounds of this name and arity; none where it has none of them
abbrev pub leaf_part : Order → ℕ → ℕ → ℕ → Rule → TypeValue
leaf_part o f arity part (BasicRule basic.Term) = of_name o term_name
leaf_part o f arity part (BasicRule basic.Struct) = of_name o term_name
leaf_part o f arity part (BasicRule basic.Gnd) = of_name o GND_TYPE
leaf_part o f arity part (Node h ns) = where_fits ((f == h) && (length ns == arity)) (of_name o (slice_index_or ns part term_name))
leaf_part o f arity part other = None

-- values, joined
abbrev pub join_all : List TypeValue → TypeValue
join_all [] = None
join_all (v ∷ vs) = join v (join_all vs)

-- what the leaves of a name say of the part, joined
abbrev pub name_part : Order → ℕ → ℕ → ℕ → ℕ → TypeValue
name_part o f arity part n = join_all (map (leaf_part o f arity part) (o.leaves n))

-- where a name passes, a value met with another, else the other
abbrev pub meet_where : Order → Bool → TypeValue → TypeValue → TypeValue
meet_where o true v w = meet o v w
meet_where o false v w = w

-- of the names that pass, what each says is met; every value has the name term
abbrev pub meet_parts : Order → (ℕ → Bool) → (ℕ → TypeValue) → List ℕ → TypeValue
meet_parts o p says [] = of_name o term_name
meet_parts o p says (n ∷ ns) = meet_where o (p n) (says n) (meet_parts o p says ns)

-- what is known of a part of the compounds of this name and arity in the value; none where the value is none, a name of it has no fitting leaf, or what two names say does not meet
abbrev pub project : Order → TypeValue → ℕ → ℕ → ℕ → TypeValue
project o None f arity part = None
project o (Some p) f arity part = meet_parts o p (name_part o f arity part) (names_of o)
