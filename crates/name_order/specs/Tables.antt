-- Relations on names as tables of bits, and what is marked in them, pass by pass.
-- The headline does not rest on this file.
use Rattle.std.specs.Prelude.{◌≡◌, ◌↔◌, ◌<◌, ℕ, ◌+◌, ◌*◌, ◌-◌, ◌==◌, Bool, true, false, ◌&&◌, ◌||◌, not, cond, List, [], ◌∷◌, map, flat_map, filter, length, slice_index_or}
use Rattle.std.specs.List.{list_any, list_all}
use Rattle.prog_data.specs.declared.grammars.Rule.{Rule}
use Rattle.prog_data.specs.declared.grammars.Rule.TheVariants.{Node, Unit as UnitRule}
use Rattle.prog_data.specs.Membership.{is_leaf}
use Rattle.name_order.specs.declared.marking.Kind.{Kind}
use Rattle.name_order.specs.declared.marking.Kind.TheVariants.{Leads, Members, Outside, Meets}
use Rattle.prog_data.specs.Values.{bit_at}
use Rattle.name_order.specs.Fixpoints.{RuleOf, ClosedTest, LeastTest, Within}
use Rattle.prog_data.specs.declared.basic_names.TheConstants.{GND_TYPE}
use Rattle.name_order.specs.Relations.{Pair, are_names, names_below, all_pairs, leaf_has, leaf_below, leaf_meets, looked_up}

-- a bit for each pair of so many names, row by row
pub record Grid : Type 0 where
  pub size : ℕ
  pub words : List ℕ

-- whether a pair of names is marked
abbrev pub has : Grid → Pair → Bool
has t p = are_names t.size p && bit_at t.words (p.0 * t.size + p.1)

-- whether a pair of names is not marked
abbrev pub lacks : Grid → Pair → Bool
lacks t p = are_names t.size p && not (has t p)

-- how many pairs of names are not marked
abbrev pub unmarked : Grid → ℕ
unmarked t = length (filter (λ p. not (has t p)) (all_pairs t.size))

-- no more is marked in the new table than the rule gives from what was marked in the old one
pub record Grown (rule : RuleOf Pair) (old new : Grid) : Type 0 where
  pub size : new.size ≡ old.size
  pub sound : (s : Pair → Bool) → ClosedTest rule s → Within (has old) s → Within (has new) s

-- what is done and given by the rule is marked
abbrev pub DoneAreMarked : RuleOf Pair → Grid → Grid → Type 0
DoneAreMarked rule marked done = (p : Pair) → has done p ≡ true → rule (has marked) p ≡ true → has marked p ≡ true

-- a look at the pairs that pass `seen` and are not done: what the rule gives is marked, what this may change is done no more, and it is said whether there was any
pub record Looked (rule : RuleOf Pair) (seen : Pair → Bool) (old old_done new new_done : Grid) (any : Bool) : Type 0 where
  pub grown : Grown rule old new
  pub size : new_done.size ≡ old_done.size
  pub fewer : any ≡ true → unmarked new < unmarked old
  pub same : any ≡ false → new ≡ old
  pub done_marked : DoneAreMarked rule old old_done → DoneAreMarked rule new new_done
  pub more : any ≡ false → Within (has old_done) (has new_done)
  pub done : any ≡ false → (p : Pair) → seen p ≡ true → has new_done p ≡ true

-- the table of so many names has just what the rule gives
pub record IsLeast (rule : RuleOf Pair) (count : ℕ) (t : Grid) : Type 0 where
  pub size : t.size ≡ count
  pub least : (p : Pair) → (has t p ≡ true) ↔ LeastTest rule p

-- the rules by which the tables are filled, over a list of rules for each name

-- whether a unit rule leads to a name that leads to a name
abbrev pub unit_leads : (Pair → Bool) → ℕ → Rule → Bool
unit_leads r m (UnitRule k) = r (k, m)
unit_leads r m other = false

-- what is to be marked, if both are names
abbrev pub due : Kind → List (List Rule) → RuleOf Pair
due Leads lists r p = (p.0 == p.1) || list_any (unit_leads r p.1) (looked_up lists p.0)
due Members lists r p = (p.0 == p.1) && list_any (leaf_has (λ n. r (n, n))) (looked_up lists p.0)
due Outside lists r p = not (list_all (λ a. list_any (leaf_below (λ q. are_names (length lists) q && not (r q)) a) (looked_up lists p.1)) (looked_up lists p.0))
due Meets lists r p = list_any (λ a. list_any (leaf_meets r a) (looked_up lists p.1)) (looked_up lists p.0)

-- the rule of a table: what is to be marked, and both are names
abbrev pub marking : Kind → List (List Rule) → RuleOf Pair
marking kind lists r p = are_names (length lists) p && due kind lists r p

-- the name that is looked at after so many, from the first on or from the last on
abbrev pub name_after : Bool → ℕ → ℕ → ℕ
name_after true size step = step
name_after false size step = size - 1 - step

-- of a name that a name leads to, the rules that are no unit
abbrev pub led_leaves : List (List Rule) → (Pair → Bool) → ℕ → ℕ → List Rule
led_leaves lists leads n m = cond (leads (n, m)) (filter is_leaf (looked_up lists m)) []

-- the leaves of a name, by the names that it leads to
abbrev pub leaves_led : List (List Rule) → (Pair → Bool) → ℕ → List Rule
leaves_led lists leads n = flat_map (led_leaves lists leads n) (names_below (length lists))

-- and of each name
abbrev pub all_leaves_led : List (List Rule) → (Pair → Bool) → List (List Rule)
all_leaves_led lists leads = map (leaves_led lists leads) (names_below (length lists))

-- those of them that have members
abbrev pub kept_leaves : (Pair → Bool) → List Rule → List Rule
kept_leaves members leaves = filter (leaf_has (λ n. members (n, n))) leaves

-- whether a name stands in a list
abbrev pub listed : List ℕ → ℕ → Bool
listed names n = list_any (λ m. n == m) names

-- whether a rule has a name as a part, or leads to it
abbrev pub speaks_of : ℕ → Rule → Bool
speaks_of k (Node f ns) = listed ns k
speaks_of k (UnitRule n) = k == n
speaks_of k other = false

-- a name alone, if what it has may hang on the used one: on gnd, or on what a rule speaks of
abbrev pub user_if : List (List Rule) → ℕ → ℕ → List ℕ
user_if lists used n = cond ((used == GND_TYPE) || list_any (speaks_of used) (looked_up lists n)) (n ∷ []) []

-- the names whose tables may hang on the used one
abbrev pub users : List (List Rule) → ℕ → List ℕ
users lists used = flat_map (user_if lists used) (names_below (length lists))

-- and for each name
abbrev pub all_users : List (List Rule) → List (List ℕ)
all_users lists = map (users lists) (names_below (length lists))

-- whether a pair is to be looked at again where another was marked, by the users of each name
abbrev pub touched : Kind → List (List ℕ) → Pair → Pair → Bool
touched Leads by q p = listed (slice_index_or by q.0 []) p.0 && listed (q.1 ∷ []) p.1
touched Meets by q p = (listed (slice_index_or by q.1 []) p.0 && listed (slice_index_or by q.0 []) p.1) || (listed (slice_index_or by q.0 []) p.0 && listed (slice_index_or by q.1 []) p.1)
touched other by q p = listed (slice_index_or by q.0 []) p.0 && listed (slice_index_or by q.1 []) p.1
