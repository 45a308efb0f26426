-- Each call gives a value of the analysis, and a name below another has a value that says at least as much.
use Rattle.std.proofs.Common.{◌≡◌, inl, inr, ℕ, zero, suc, ◌<◌, ◌≤◌, Bool, true, false, ◌&&◌, ◌||◌, List, [], ◌∷◌, length, map, refl, sym, subst, arith}
use Rattle.std.proofs.lemmas.Bool.{and_from, or_left, or_right, or_cases}
use Rattle.std.proofs.lemmas.Bool.Decides.{nat_tests}
use Rattle.std.specs.Prelude.{ℤ, ◌==◌, nat_lt, slice_index_or, None, Some}
use Rattle.std.specs.List.{list_any, list_all, AllByRecursion}
use Rattle.term_core.specs.declared.terms.Term.{Term, Int, Atom}
use Rattle.prog_data.specs.declared.grammars.Basic.{Basic}
use Rattle.prog_data.specs.declared.grammars.Basic.TheVariants as basic
use Rattle.prog_data.specs.declared.grammars.Rule.{Rule}
use Rattle.prog_data.specs.declared.grammars.Rule.TheVariants as rule
use Rattle.prog_data.specs.declared.grammars.Grammar.{Grammar}
use Rattle.prog_data.specs.GrammarRange.{IsGrammar, is_rule_of}
use Rattle.prog_data.specs.Membership.{admits_int, admits_atom, Belongs}
use Rattle.prog_data.specs.Values.{TypeValue}
use Rattle.prog_data.proofs.Leaves.{any_in, in_any}
use Rattle.prog_data.specs.declared.basic_names.TheConstants.{GND_TYPE}
use Rattle.name_order.specs.Relations.{names_below, each_pair, basic_below, leaf_below, Order, order, IsOrder}
use Rattle.name_order.specs.Laws.{BelowTransitive}
use Rattle.type_domain.specs.Values.{term_name, has_name, is_set, IsUp, IsValue, join, all_fit, unless_apart, meet, of_name, of_int, of_atom, each_has, leaf_builds, where_fits, build, leaf_part, join_all, name_part, meet_where, meet_parts, project}
use Rattle.type_domain.specs.Relied.{Relied}
use Rattle.type_domain.specs.Laws.{GiveValues, NamesMonotone}
use Rattle.type_domain.proofs.Lists.{and_left, and_right}
use Rattle.type_domain.proofs.Orders.{below_names, below_leaf, below_term, ten_names}
use Rattle.type_domain.proofs.LeafLists.{leaves_range, leaf_named}
use Rattle.type_domain.proofs.TermLeaves.{term_leaf, in_top}
use Rattle.type_domain.proofs.InLaws.{in_int, in_atom, whole_int, whole_atom}

-- join and meet, for any order

module _ (o : Order) where
  pub join_given : (a b : TypeValue) → IsValue o a → IsValue o b → IsValue o (join a b)
  join_given None b u v = v
  join_given (Some p) None u v = u
  join_given (Some p) (Some q) u v =
      record {
        term = and_from (p term_name) (q term_name) u.term v.term;
        up = λ n m e l. and_from (p m) (q m) (u.up n m (and_left _ _ e) l) (v.up n m (and_right (p n) _ e) l);
        names = λ n e. u.names n (and_left _ _ e);
      }

  pub meet_given : (a b : TypeValue) → IsValue o a → IsValue o b → IsValue o (meet o a b)
  meet_given None b u v = tt
  meet_given (Some p) None u v = tt
  meet_given (Some p) (Some q) u v = either (all_fit o (λ n. p n || q n))
    where
      union : IsUp o (λ n. p n || q n)
      union =
          record {
            term = or_left (p term_name) (q term_name) u.term;
            up = λ n m e l. elim (or_cases (p n) (q n) e) as (λ _. (p m || q m) ≡ true) [ inl h ↦ or_left (p m) (q m) (u.up n m h l) | inr h ↦ or_right (p m) (q m) (v.up n m h l) ];
            names = λ n e. elim (or_cases (p n) (q n) e) as (λ _. n < o.size) [ inl h ↦ u.names n h | inr h ↦ v.names n h ];
          }

      either : (b : Bool) → IsValue o (unless_apart b (λ n. p n || q n))
      either true = union
      either false = tt

-- what stands above holds

module _ (up : ℕ → ℕ → Bool) where
  abbrev IsClosed : TypeValue → Type 0
  IsClosed v = (n m : ℕ) → has_name v n ≡ true → up n m ≡ true → has_name v m ≡ true

  gnd_rises : (vs : List TypeValue) (ns : List ℕ) → AllByRecursion IsClosed vs → list_all (λ n. up n GND_TYPE) ns ≡ true → each_has vs ns ≡ true → list_all (λ v. has_name v GND_TYPE) vs ≡ true
  gnd_rises [] [] h l e = refl
  gnd_rises [] (n ∷ ns) h l e = cc
  gnd_rises (v ∷ vs) [] h l e = cc
  gnd_rises (v ∷ vs) (n ∷ ns) h l e = and_from (has_name v GND_TYPE) (list_all (λ v. has_name v GND_TYPE) vs) (h.0 n GND_TYPE (and_left _ _ e) (and_left _ _ l)) (gnd_rises vs ns h.1 (and_right (up n GND_TYPE) _ l) (and_right (has_name v n) _ e))

  each_rises : (vs : List TypeValue) (ns ms : List ℕ) → AllByRecursion IsClosed vs → each_pair (λ p. up p.0 p.1) ns ms ≡ true → each_has vs ns ≡ true → each_has vs ms ≡ true
  each_rises [] [] [] h l e = refl
  each_rises [] [] (m ∷ ms) h l e = cc
  each_rises [] (n ∷ ns) ms h l e = cc
  each_rises (v ∷ vs) [] ms h l e = cc
  each_rises (v ∷ vs) (n ∷ ns) [] h l e = cc
  each_rises (v ∷ vs) (n ∷ ns) (m ∷ ms) h l e = and_from (has_name v m) (each_has vs ms) (h.0 n m (and_left _ _ e) (and_left _ _ l)) (each_rises vs ns ms h.1 (and_right (up n m) _ l) (and_right (has_name v n) _ e))

  basic_builds : (f : ℕ) (vs : List TypeValue) (a b : Basic) → basic_below a b ≡ true → leaf_builds f vs (rule.Basic a) ≡ true → leaf_builds f vs (rule.Basic b) ≡ true
  basic_builds f vs a basic.Term l e = refl
  basic_builds f vs a basic.Struct l e = refl
  basic_builds f vs basic.Gnd basic.Gnd l e = e
  basic_builds f vs basic.Term b l e = cc
  basic_builds f vs basic.Int b l e = cc
  basic_builds f vs basic.Nnegint b l e = cc
  basic_builds f vs basic.Gnd b l e = cc
  basic_builds f vs basic.Atm b l e = cc
  basic_builds f vs basic.Struct b l e = cc

  builds_passes : (f : ℕ) (vs : List TypeValue) → AllByRecursion IsClosed vs → (a b : Rule) → leaf_below (λ p. up p.0 p.1) a b ≡ true → leaf_builds f vs a ≡ true → leaf_builds f vs b ≡ true
  builds_passes f vs h (rule.Basic a) (rule.Basic b) l e = basic_builds f vs a b l e
  builds_passes f vs h (rule.Node k ns) (rule.Basic basic.Term) l e = refl
  builds_passes f vs h (rule.Node k ns) (rule.Basic basic.Struct) l e = refl
  builds_passes f vs h (rule.Node k ns) (rule.Basic basic.Gnd) l e = gnd_rises vs ns h l (and_right (f == k) _ e)
  builds_passes f vs h (rule.Node k ns) (rule.Node j ms) l e = and_from (f == j) _ (same_third f k j (and_left _ _ e) (and_left _ _ l)) (each_rises vs ns ms h (and_right (k == j) _ l) (and_right (f == k) _ e))
    where
      same_third : (a b c : ℕ) → (a == b) ≡ true → (b == c) ≡ true → (a == c) ≡ true
      same_third a b c e f = let g : a ≡ b = grind (arith, nat_tests) in let h : b ≡ c = grind (arith, nat_tests) in grind (arith, nat_tests)
  builds_passes f vs h (rule.Basic a) b l e = cc
  builds_passes f vs h (rule.Node k ns) b l e = cc
  builds_passes f vs h a b l e = cc

part_name : (size : ℕ) → 0 < size → (ns : List ℕ) (part : ℕ) → list_all (λ n. nat_lt n size) ns ≡ true → slice_index_or ns part 0 < size
part_name size lt [] part e = lt
part_name size lt (n ∷ ns) zero e = let f : nat_lt n size ≡ true = and_left _ _ e in grind (arith, nat_tests)
part_name size lt (n ∷ ns) (suc part) e = part_name size lt ns part (and_right (nat_lt n size) _ e)

-- a name below another has a value that says at least as much
pub names_mono : (g : Grammar) → IsOrder g (order g) → BelowTransitive g → NamesMonotone (order g)
names_mono g is transitive n m l = λ k e. (is.below n k).1 (transitive n m k ((is.below n m).0 l) ((is.below m k).0 e))

module _ (g : Grammar) (is : IsGrammar g) (says : Relied g) where
  abbrev o : Order
  o = order g

  below_top : (n : ℕ) → n < length g.rules → o.below n 0 ≡ true
  below_top n lt = below_term g o says.is_order (term_leaf g says) n lt

  -- the names that a term belongs to
  owned : (t : Term) (p : ℕ → Bool) → ((n : ℕ) → p n ≡ true → Belongs g t n) → ((n : ℕ) → Belongs g t n → p n ≡ true) → ((n : ℕ) → p n ≡ true → n < length g.rules) → IsUp o p
  owned t p own whole named =
      record {
        term = whole 0 (in_top g says t);
        up = λ n m e l. whole m (says.keeps_terms t n m ((says.is_order.below n m).0 l) (own n e));
        names = named;
      }

  int_given : (k : ℤ) → IsValue o (of_int o k)
  int_given k = owned (Int k) _ (in_int g says k) (whole_int g says k) (leaf_named g (admits_int k))

  atom_given : (a : ℕ) → IsValue o (of_atom o a)
  atom_given a = owned (Atom a) _ (in_atom g says a) (whole_atom g says a) (leaf_named g (admits_atom a))

  closed : (v : TypeValue) → IsValue o v → IsClosed o.below v
  closed None u n m e l = e
  closed (Some p) u n m e l = u.up n m e l

  all_closed : (vs : List TypeValue) → AllByRecursion (IsValue o) vs → (r : ℕ → ℕ → Bool) → ((n m : ℕ) → r n m ≡ true → o.below n m ≡ true) → AllByRecursion (IsClosed r) vs
  all_closed [] u r h = tt
  all_closed (v ∷ vs) u r h = ((λ n m e l. closed v u.0 n m e (h n m l)), all_closed vs u.1 r h)

  built : (f : ℕ) (vs : List TypeValue) → AllByRecursion (IsValue o) vs → IsUp o (λ n. list_any (leaf_builds f vs) (o.leaves n))
  built f vs u =
      record {
        term = in_any (leaf_builds f vs) (o.leaves 0) (term_leaf g says) refl;
        up = λ n m e l.
            let a = any_in (leaf_builds f vs) (o.leaves n) e in
            let b = below_leaf g o says.is_order n m a.0 l a.1 in
            in_any (leaf_builds f vs) (o.leaves m) b.3 (builds_passes (λ x y. b.0 (x, y)) f vs (all_closed vs u (λ x y. b.0 (x, y)) b.1) a.0 b.2 b.4 a.2);
        names = leaf_named g (leaf_builds f vs);
      }

  build_given : (f : ℕ) (vs : List TypeValue) → AllByRecursion (IsValue o) vs → IsValue o (build o f vs)
  build_given f vs u = either (list_all is_set vs)
    where
      either : (b : Bool) → IsValue o (where_fits b (Some (λ n. list_any (leaf_builds f vs) (o.leaves n))))
      either true = built f vs u
      either false = tt

  name_given : (n : ℕ) → n < length g.rules → IsValue o (of_name o n)
  name_given n lt =
      record {
        term = below_top n lt;
        up = λ m k l h. names_mono g says.is_order says.transitive n m l k h;
        names = below_names g o says.is_order n;
      }

  -- parts

  ten : 10 ≤ length g.rules
  ten = ten_names g is

  leaf_given : (f arity part : ℕ) (r : Rule) → is_rule_of (length g.rules) r ≡ true → IsValue o (leaf_part o f arity part r)
  leaf_given f arity part (rule.Basic basic.Term) e = name_given 0 (let le = ten in omega (arith, le))
  leaf_given f arity part (rule.Basic basic.Struct) e = name_given 0 (let le = ten in omega (arith, le))
  leaf_given f arity part (rule.Basic basic.Gnd) e = name_given GND_TYPE (let le = ten in omega (arith, le))
  leaf_given f arity part (rule.Node h ns) e = either ((f == h) && (length ns == arity))
    where
      either : (b : Bool) → IsValue o (where_fits b (of_name o (slice_index_or ns part term_name)))
      either true = name_given (slice_index_or ns part term_name) (part_name (length g.rules) (let le = ten in omega (arith, le)) ns part e)
      either false = tt
  leaf_given f arity part other e = tt

  joined_given : (f arity part : ℕ) (rs : List Rule) → list_all (is_rule_of (length g.rules)) rs ≡ true → IsValue o (join_all (map (leaf_part o f arity part) rs))
  joined_given f arity part [] e = tt
  joined_given f arity part (r ∷ rs) e = join_given o (leaf_part o f arity part r) (join_all (map (leaf_part o f arity part) rs)) (leaf_given f arity part r (and_left _ _ e)) (joined_given f arity part rs (and_right (is_rule_of (length g.rules) r) _ e))

  says_given : (f arity part n : ℕ) → IsValue o (name_part o f arity part n)
  says_given f arity part n = joined_given f arity part (o.leaves n) (subst (λ f. list_all (is_rule_of (length g.rules)) (f n) ≡ true) (sym says.is_order.leaves) (leaves_range g is n))

  met_given : (p : ℕ → Bool) (says : ℕ → TypeValue) → ((n : ℕ) → IsValue o (says n)) → (ns : List ℕ) → IsValue o (meet_parts o p says ns)
  met_given p says h [] = name_given 0 (let le = ten in omega (arith, le))
  met_given p says h (n ∷ ns) = either (p n) (met_given p says h ns)
    where
      either : (b : Bool) → IsValue o (meet_parts o p says ns) → IsValue o (meet_where o b (says n) (meet_parts o p says ns))
      either true rest = meet_given o (says n) (meet_parts o p says ns) (h n) rest
      either false rest = rest

  parts_given : (p : ℕ → Bool) (f arity part : ℕ) → IsValue o (meet_parts o p (name_part o f arity part) (names_below o.size))
  parts_given p f arity part = met_given p (name_part o f arity part) (says_given f arity part) (names_below o.size)

  project_given : (v : TypeValue) (f arity part : ℕ) → IsValue o (project o v f arity part)
  project_given None f arity part = tt
  project_given (Some p) f arity part = parts_given p f arity part

  pub give_values : GiveValues o
  give_values =
      record {
        join = join_given o;
        meet = meet_given o;
        name = name_given;
        int = int_given;
        atom = atom_given;
        build = build_given;
        project = project_given;
      }
