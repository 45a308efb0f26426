-- Members, below and meets, for the names of a grammar.
-- The headline does not rest on this file.
use Rattle.std.specs.Prelude.{◌≡◌, ◌↔◌, ℕ, zero, suc, ◌+◌, nat_lt, ◌==◌, nat_eq, Bool, true, false, ◌&&◌, not, List, [], ◌∷◌, map, flat_map, filter, length, slice_index_or}
use Rattle.std.specs.List.{list_any, list_all}
use Rattle.prog_data.specs.declared.grammars.Basic.{Basic}
use Rattle.prog_data.specs.declared.grammars.Basic.TheVariants as basic
use Rattle.prog_data.specs.declared.grammars.Rule.{Rule}
use Rattle.prog_data.specs.declared.grammars.Rule.TheVariants.{Basic as BasicRule, Int, Atom, Node, Unit as UnitRule}
use Rattle.prog_data.specs.declared.grammars.Grammar.{Grammar}
use Rattle.prog_data.specs.declared.basic_names.TheConstants.{GND_TYPE}
use Rattle.prog_data.specs.Membership.{rules_of, leaves, admits_int, admits_atom}
use Rattle.name_order.specs.Fixpoints.{RuleOf, GreatestTest, LeastTest, is_in, greatest_of, not_least}

-- two names
abbrev pub Pair : Type 0
Pair = ℕ × ℕ

-- whether two pairs are the same
abbrev pub same_pair : Pair → Pair → Bool
same_pair a b = (a.0 == b.0) && (a.1 == b.1)

-- whether it is a name of a grammar with so many
abbrev pub is_name : ℕ → ℕ → Bool
is_name size n = nat_lt n size

-- whether both are names
abbrev pub are_names : ℕ → Pair → Bool
are_names size p = is_name size p.0 && is_name size p.1

-- members

-- whether a leaf has a member, where a test says which names have one
abbrev pub leaf_has : (ℕ → Bool) → Rule → Bool
leaf_has has (Node f ns) = list_all has ns
leaf_has has other = true

-- a name has a member where a leaf of it has
abbrev pub member_rule : Grammar → RuleOf ℕ
member_rule g has n = list_any (leaf_has has) (leaves g n)

-- the least test by which a name has a member
abbrev pub HasMember : Grammar → ℕ → Type 0
HasMember g n = LeastTest (member_rule g) n

-- so many names, from the first on
abbrev pub names_from : ℕ → ℕ → List ℕ
names_from first zero = []
names_from first (suc k) = first ∷ names_from (first + 1) k

-- all names of a grammar with so many
abbrev pub names_below : ℕ → List ℕ
names_below size = names_from 0 size

-- the names without members
abbrev pub empty_names : Grammar → List ℕ
empty_names g = not_least nat_eq (member_rule g) (is_name (length g.rules)) (names_below (length g.rules))

-- whether a name has a member
abbrev pub has_member : Grammar → ℕ → Bool
has_member g n = is_name (length g.rules) n && not (is_in nat_eq (empty_names g) n)

-- the leaves of a name that have members; in all that follows the others are left out
abbrev pub full_leaves : Grammar → ℕ → List Rule
full_leaves g n = filter (leaf_has (has_member g)) (leaves g n)

-- below

-- each name to the one in its place, and there are as many
abbrev pub each_pair : (Pair → Bool) → List ℕ → List ℕ → Bool
each_pair r [] [] = true
each_pair r [] (m ∷ ms) = false
each_pair r (n ∷ ns) [] = false
each_pair r (n ∷ ns) (m ∷ ms) = r (n, m) && each_pair r ns ms

-- between basic leaves
abbrev pub basic_below : Basic → Basic → Bool
basic_below a basic.Term = true
basic_below basic.Int basic.Int = true
basic_below basic.Int basic.Gnd = true
basic_below basic.Nnegint basic.Nnegint = true
basic_below basic.Nnegint basic.Int = true
basic_below basic.Nnegint basic.Gnd = true
basic_below basic.Atm basic.Atm = true
basic_below basic.Atm basic.Gnd = true
basic_below basic.Gnd basic.Gnd = true
basic_below basic.Struct basic.Struct = true
basic_below a b = false

-- a basic leaf is below basic leaves alone
abbrev pub below_of_basic : Basic → Rule → Bool
below_of_basic a (BasicRule b) = basic_below a b
below_of_basic a other = false

-- a node, where a test says which names are below which
abbrev pub below_of_node : (Pair → Bool) → ℕ → List ℕ → Rule → Bool
below_of_node r f ns (BasicRule basic.Term) = true
below_of_node r f ns (BasicRule basic.Struct) = true
below_of_node r f ns (BasicRule basic.Gnd) = list_all (λ n. r (n, GND_TYPE)) ns
below_of_node r f ns (Node h ms) = (f == h) && each_pair r ns ms
below_of_node r f ns other = false

-- whether a leaf is below a leaf; a constant is below the leaves that admit it
abbrev pub leaf_below : (Pair → Bool) → Rule → Rule → Bool
leaf_below r (BasicRule a) b = below_of_basic a b
leaf_below r (Int k) b = admits_int k b
leaf_below r (Atom a) b = admits_atom a b
leaf_below r (Node f ns) b = below_of_node r f ns b
leaf_below r (UnitRule m) b = false

-- of two names of the grammar the first is below the second where each leaf of it is below a leaf of the second
abbrev pub below_rule : ℕ → (ℕ → List Rule) → RuleOf Pair
below_rule size full r p = are_names size p && list_all (λ a. list_any (leaf_below r a) (full p.1)) (full p.0)

-- the greatest relation by which a name is below a name
abbrev pub Below : Grammar → ℕ → ℕ → Type 0
Below g n m = GreatestTest (below_rule (length g.rules) (full_leaves g)) (n, m)

-- all pairs of names
abbrev pub all_pairs : ℕ → List Pair
all_pairs size = flat_map (λ n. map (λ m. (n, m)) (names_below size)) (names_below size)

-- the pairs of names of which the first is below the second
abbrev pub below_pairs : ℕ → (ℕ → List Rule) → List Pair
below_pairs size full = greatest_of same_pair (below_rule size full) (all_pairs size)

-- whether a name is below a name
abbrev pub below : Grammar → ℕ → ℕ → Bool
below g n m = is_in same_pair (below_pairs (length g.rules) (full_leaves g)) (n, m)

-- meets

-- between basic leaves
abbrev pub basic_meets : Basic → Basic → Bool
basic_meets basic.Term b = true
basic_meets basic.Gnd b = true
basic_meets a basic.Term = true
basic_meets a basic.Gnd = true
basic_meets basic.Int basic.Int = true
basic_meets basic.Int basic.Nnegint = true
basic_meets basic.Nnegint basic.Int = true
basic_meets basic.Nnegint basic.Nnegint = true
basic_meets basic.Atm basic.Atm = true
basic_meets basic.Struct basic.Struct = true
basic_meets a b = false

-- a node and a basic leaf
abbrev pub node_meets_basic : (Pair → Bool) → List ℕ → Basic → Bool
node_meets_basic r ns basic.Term = true
node_meets_basic r ns basic.Struct = true
node_meets_basic r ns basic.Gnd = list_all (λ n. r (n, GND_TYPE)) ns
node_meets_basic r ns other = false

-- a basic leaf and a leaf
abbrev pub meets_of_basic : (Pair → Bool) → Basic → Rule → Bool
meets_of_basic r a (BasicRule b) = basic_meets a b
meets_of_basic r a (Int k) = admits_int k (BasicRule a)
meets_of_basic r a (Atom c) = admits_atom c (BasicRule a)
meets_of_basic r a (Node f ns) = node_meets_basic r ns a
meets_of_basic r a (UnitRule m) = false

-- a node and a leaf
abbrev pub meets_of_node : (Pair → Bool) → ℕ → List ℕ → Rule → Bool
meets_of_node r f ns (BasicRule b) = node_meets_basic r ns b
meets_of_node r f ns (Node h ms) = (f == h) && each_pair r ns ms
meets_of_node r f ns other = false

-- whether a leaf meets a leaf
abbrev pub leaf_meets : (Pair → Bool) → Rule → Rule → Bool
leaf_meets r (BasicRule a) b = meets_of_basic r a b
leaf_meets r (Int k) b = admits_int k b
leaf_meets r (Atom a) b = admits_atom a b
leaf_meets r (Node f ns) b = meets_of_node r f ns b
leaf_meets r (UnitRule m) b = false

-- two names meet where a leaf of one meets a leaf of the other
abbrev pub meets_rule : (ℕ → List Rule) → RuleOf Pair
meets_rule full r p = list_any (λ a. list_any (leaf_meets r a) (full p.1)) (full p.0)

-- the least relation by which names meet
abbrev pub Meets : Grammar → ℕ → ℕ → Type 0
Meets g n m = LeastTest (meets_rule (full_leaves g)) (n, m)

-- the pairs of names that do not meet
abbrev pub apart_pairs : ℕ → (ℕ → List Rule) → List Pair
apart_pairs size full = not_least same_pair (meets_rule full) (are_names size) (all_pairs size)

-- whether two names meet
abbrev pub meets : Grammar → ℕ → ℕ → Bool
meets g n m = are_names (length g.rules) (n, m) && not (is_in same_pair (apart_pairs (length g.rules) (full_leaves g)) (n, m))

-- all of it once

-- what values are computed with
pub record Order : Type 0 where
  pub size : ℕ
  pub leaves : ℕ → List Rule
  pub below : ℕ → ℕ → Bool
  pub meets : ℕ → ℕ → Bool

-- from the leaves and lists of pairs
abbrev pub order_by : ℕ → (ℕ → List Rule) → List Pair → List Pair → Order
order_by size full belows aparts =
    record {
      size = size;
      leaves = full;
      below = λ n m. is_in same_pair belows (n, m);
      meets = λ n m. are_names size (n, m) && not (is_in same_pair aparts (n, m));
    }

-- from the leaves
abbrev pub order_of_leaves : ℕ → (ℕ → List Rule) → Order
order_of_leaves size full = order_by size full (below_pairs size full) (apart_pairs size full)

-- a name's leaves, looked up
abbrev pub looked_up : List (List Rule) → ℕ → List Rule
looked_up lists n = slice_index_or lists n []

-- the order of a grammar, each part computed once
abbrev pub order : Grammar → Order
order g = order_of_leaves (length g.rules) (looked_up (map (full_leaves g) (names_below (length g.rules))))

-- it is that of a grammar: its parts are the leaves with members and the relations
pub record IsOrder (g : Grammar) (o : Order) : Type 0 where
  pub size : o.size ≡ length g.rules
  pub leaves : o.leaves ≡ full_leaves g
  pub below : (n m : ℕ) → (o.below n m ≡ true) ↔ Below g n m
  pub meets : (n m : ℕ) → (o.meets n m ≡ true) ↔ Meets g n m

-- the rule of the name gnd is that of every grammar
abbrev pub HasGnd : Grammar → Type 0
HasGnd g = rules_of g GND_TYPE ≡ BasicRule basic.Gnd ∷ []

-- and that of the name term
abbrev pub HasTerm : Grammar → Type 0
HasTerm g = rules_of g 0 ≡ BasicRule basic.Term ∷ []
