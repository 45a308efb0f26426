-- The order of values, and that each operation keeps it.
use Rattle.std.proofs.Common.{◌≡◌, inl, inr, ℕ, Bool, true, false, ◌||◌, List, [], ◌∷◌, refl, ap, sym, subst}
use Rattle.std.proofs.lemmas.Bool.{and_from, or_left, or_right, or_cases}
use Rattle.std.specs.Cmp.{both_ways}
use Rattle.std.specs.Prelude.{None, Some, not}
use Rattle.std.specs.List.{list_any, list_all}
use Rattle.std.specs.Prelude.{◌==◌}
use Rattle.prog_data.specs.declared.grammars.Basic.TheVariants as basic
use Rattle.prog_data.specs.declared.grammars.Rule.{Rule}
use Rattle.prog_data.specs.declared.grammars.Rule.TheVariants as rule
use Rattle.type_domain.specs.Laws.{LeqEach, AreOrdered, AreMonotone}
use Rattle.prog_data.specs.declared.basic_names.TheConstants.{GND_TYPE}
use Rattle.name_order.specs.Relations.{Order}
use Rattle.type_domain.proofs.Lists.{and_left, and_right, all_mono, any_mono}
use Rattle.prog_data.specs.Values.{TypeValue}
use Rattle.type_domain.specs.Values.{has_name, is_set, each_has, leaf_builds, build, where_fits, is_coherent, Leq, join, meet, is_inhabited, all_fit, unless_apart, names_of, meet_where, meet_parts, name_part, project}

leq_itself : (a : TypeValue) → Leq a a
leq_itself None = tt
leq_itself (Some p) = λ n e. e

leq_leq : (a b c : TypeValue) → Leq a b → Leq b c → Leq a c
leq_leq None b c l m = tt
leq_leq (Some p) None c l m = absurd l
leq_leq (Some p) (Some q) None l m = absurd m
leq_leq (Some p) (Some q) (Some r) l m = λ n e. l n (m n e)

leq_same : (a b : TypeValue) → Leq a b → Leq b a → a ≡ b
leq_same None None l m = refl
leq_same None (Some q) l m = absurd m
leq_same (Some p) None l m = absurd l
leq_same (Some p) (Some q) l m = ap Some (λ i n. both_ways (p n) (q n) (m n) (l n) i)

first_join : (a b : TypeValue) → Leq a (join a b)
first_join None b = tt
first_join (Some p) None = λ n e. e
first_join (Some p) (Some q) = λ n e. and_left (p n) (q n) e

second_join : (a b : TypeValue) → Leq b (join a b)
second_join None b = leq_itself b
second_join (Some p) None = tt
second_join (Some p) (Some q) = λ n e. and_right (p n) (q n) e

least_join : (a b c : TypeValue) → Leq a c → Leq b c → Leq (join a b) c
least_join None b c l m = m
least_join (Some p) None c l m = l
least_join (Some p) (Some q) None l m = absurd l
least_join (Some p) (Some q) (Some r) l m = λ n e. and_from (p n) (q n) (l n e) (m n e)

join_mono : (a b c d : TypeValue) → Leq a c → Leq b d → Leq (join a b) (join c d)
join_mono None b None d l m = m
join_mono None None (Some r) d l m = tt
join_mono None (Some q) (Some r) None l m = absurd m
join_mono None (Some q) (Some r) (Some s) l m = λ n e. m n (and_right (r n) _ e)
join_mono (Some p) b None d l m = absurd l
join_mono (Some p) None (Some r) None l m = l
join_mono (Some p) None (Some r) (Some s) l m = λ n e. l n (and_left _ _ e)
join_mono (Some p) (Some q) (Some r) None l m = absurd m
join_mono (Some p) (Some q) (Some r) (Some s) l m = λ n e. and_from (p n) (q n) (l n (and_left _ _ e)) (m n (and_right (r n) _ e))

implies : (a b c d : Bool) → (c ≡ true → a ≡ true) → (b ≡ true → d ≡ true) → (not a || b) ≡ true → (not c || d) ≡ true
implies a b false d f h e = refl
implies true b true d f h e = h e
implies false b true d f h e = absurd (let x = f refl in cc)

or_both : (a b c d : Bool) → (c ≡ true → a ≡ true) → (d ≡ true → b ≡ true) → (c || d) ≡ true → (a || b) ≡ true
or_both true b c d f h e = refl
or_both false b true d f h e = absurd (let x = f refl in cc)
or_both false b false d f h e = h e

-- compounds

has_leq : (v w : TypeValue) (n : ℕ) → Leq v w → is_set v ≡ true → has_name w n ≡ true → has_name v n ≡ true
has_leq None w n l s e = cc
has_leq (Some p) None n l s e = absurd l
has_leq (Some p) (Some q) n l s e = l n e

set_leq : (v w : TypeValue) → Leq v w → is_set v ≡ true → is_set w ≡ true
set_leq None w l s = cc
set_leq (Some p) None l s = absurd l
set_leq (Some p) (Some q) l s = refl

all_set_leq : (vs ws : List TypeValue) → LeqEach vs ws → list_all is_set vs ≡ true → list_all is_set ws ≡ true
all_set_leq [] [] l s = refl
all_set_leq [] (w ∷ ws) l s = absurd l
all_set_leq (v ∷ vs) [] l s = absurd l
all_set_leq (v ∷ vs) (w ∷ ws) l s = and_from (is_set w) (list_all is_set ws) (set_leq v w l.0 (and_left _ _ s)) (all_set_leq vs ws l.1 (and_right (is_set v) _ s))

ground_leq : (vs ws : List TypeValue) → LeqEach vs ws → list_all is_set vs ≡ true → list_all (λ w. has_name w GND_TYPE) ws ≡ true → list_all (λ v. has_name v GND_TYPE) vs ≡ true
ground_leq [] [] l s e = refl
ground_leq [] (w ∷ ws) l s e = absurd l
ground_leq (v ∷ vs) [] l s e = absurd l
ground_leq (v ∷ vs) (w ∷ ws) l s e = and_from (has_name v GND_TYPE) (list_all (λ v. has_name v GND_TYPE) vs) (has_leq v w GND_TYPE l.0 (and_left _ _ s) (and_left _ _ e)) (ground_leq vs ws l.1 (and_right (is_set v) _ s) (and_right (has_name w GND_TYPE) _ e))

each_leq : (vs ws : List TypeValue) (ns : List ℕ) → LeqEach vs ws → list_all is_set vs ≡ true → each_has ws ns ≡ true → each_has vs ns ≡ true
each_leq [] [] ns l s e = e
each_leq [] (w ∷ ws) ns l s e = absurd l
each_leq (v ∷ vs) [] ns l s e = absurd l
each_leq (v ∷ vs) (w ∷ ws) [] l s e = e
each_leq (v ∷ vs) (w ∷ ws) (n ∷ ns) l s e = and_from (has_name v n) (each_has vs ns) (has_leq v w n l.0 (and_left _ _ s) (and_left _ _ e)) (each_leq vs ws ns l.1 (and_right (is_set v) _ s) (and_right (has_name w n) _ e))

builds_leq : (f : ℕ) (vs ws : List TypeValue) → LeqEach vs ws → list_all is_set vs ≡ true → (r : Rule) → leaf_builds f ws r ≡ true → leaf_builds f vs r ≡ true
builds_leq f vs ws l s (rule.Basic basic.Term) e = refl
builds_leq f vs ws l s (rule.Basic basic.Struct) e = refl
builds_leq f vs ws l s (rule.Basic basic.Gnd) e = ground_leq vs ws l s e
builds_leq f vs ws l s (rule.Node h ns) e = and_from (f == h) (each_has vs ns) (and_left _ _ e) (each_leq vs ws ns l s (and_right (f == h) _ e))
builds_leq f vs ws l s other e = cc

module _ (o : Order) where
  build_mono : (f : ℕ) (vs ws : List TypeValue) → LeqEach vs ws → Leq (build o f vs) (build o f ws)
  build_mono f vs ws l = either (list_all is_set vs) refl
    where
      either : (b : Bool) → list_all is_set vs ≡ b → Leq (where_fits b (Some (λ n. list_any (leaf_builds f vs) (o.leaves n)))) (build o f ws)
      either false e = tt
      either true e =
          subst (λ b. Leq (Some (λ n. list_any (leaf_builds f vs) (o.leaves n))) (where_fits b (Some (λ n. list_any (leaf_builds f ws) (o.leaves n))))) (sym (all_set_leq vs ws l e))
          (λ n h. any_mono (leaf_builds f ws) (leaf_builds f vs) (builds_leq f vs ws l e) (o.leaves n) h)

  pub fewer_consistent : (p r : ℕ → Bool) → ((n : ℕ) → r n ≡ true → p n ≡ true) → all_fit o p ≡ true → all_fit o r ≡ true
  fewer_consistent p r f e =
      all_mono _ _ (λ n. implies (p n) _ (r n) _ (f n) (λ h.
      and_from (is_inhabited (o.leaves n)) _ (and_left _ _ h) (all_mono _ _ (λ m. implies (p m) (o.meets n m) (r m) (o.meets n m) (f m) (λ x. x)) (names_of o) (and_right (is_inhabited (o.leaves n)) _ h)))) (names_of o) e

  meet_mono : (a b c d : TypeValue) → Leq a c → Leq b d → Leq (meet o a b) (meet o c d)
  meet_mono None b c d l m = tt
  meet_mono (Some p) None c d l m = tt
  meet_mono (Some p) (Some q) None d l m = absurd l
  meet_mono (Some p) (Some q) (Some r) None l m = absurd m
  meet_mono (Some p) (Some q) (Some r) (Some s) l m = either (all_fit o (λ n. p n || q n)) refl
    where
      more : (n : ℕ) → (r n || s n) ≡ true → (p n || q n) ≡ true
      more n e = or_both (p n) (q n) (r n) (s n) (l n) (m n) e

      either : (b : Bool) → all_fit o (λ n. p n || q n) ≡ b → Leq (unless_apart b (λ n. p n || q n)) (unless_apart (all_fit o (λ n. r n || s n)) (λ n. r n || s n))
      either false e = tt
      either true e = subst (λ b. Leq (Some (λ n. p n || q n)) (unless_apart b (λ n. r n || s n))) (sym (fewer_consistent (λ n. p n || q n) (λ n. r n || s n) more e)) more

  second_meet : (a b : TypeValue) → Leq (meet o a b) b
  second_meet None b = tt
  second_meet (Some p) None = tt
  second_meet (Some p) (Some q) = either (all_fit o (λ n. p n || q n))
    where
      either : (b : Bool) → Leq (unless_apart b (λ n. p n || q n)) (Some q)
      either false = tt
      either true = λ n e. or_right (p n) (q n) e

  first_meet : (a b : TypeValue) → Leq (meet o a b) a
  first_meet None b = tt
  first_meet (Some p) None = tt
  first_meet (Some p) (Some q) = either (all_fit o (λ n. p n || q n))
    where
      either : (b : Bool) → Leq (unless_apart b (λ n. p n || q n)) (Some p)
      either false = tt
      either true = λ n e. or_left (p n) (q n) e

  coherent_meet : (a b : TypeValue) → is_coherent o (meet o a b) ≡ true
  coherent_meet None b = refl
  coherent_meet (Some p) None = refl
  coherent_meet (Some p) (Some q) = either (all_fit o (λ n. p n || q n)) refl
    where
      either : (b : Bool) → all_fit o (λ n. p n || q n) ≡ b → is_coherent o (unless_apart b (λ n. p n || q n)) ≡ true
      either false e = refl
      either true e = e

  greatest_meet : (a b c : TypeValue) → is_coherent o c ≡ true → Leq c a → Leq c b → Leq c (meet o a b)
  greatest_meet a b None is l m = tt
  greatest_meet None b (Some r) is l m = absurd l
  greatest_meet (Some p) None (Some r) is l m = absurd m
  greatest_meet (Some p) (Some q) (Some r) is l m = subst (λ b. Leq (Some r) (unless_apart b (λ n. p n || q n))) (sym (fewer_consistent r (λ n. p n || q n) all is)) all
    where
      all : (n : ℕ) → (p n || q n) ≡ true → r n ≡ true
      all n e = elim (or_cases (p n) (q n) e) as (λ _. r n ≡ true) [ inl h ↦ l n h | inr h ↦ m n h ]

  parts_mono : (p q : ℕ → Bool) → ((n : ℕ) → q n ≡ true → p n ≡ true) → (says : ℕ → TypeValue) (ns : List ℕ) → Leq (meet_parts o p says ns) (meet_parts o q says ns)
  parts_mono p q f says [] = leq_itself (meet_parts o p says [])
  parts_mono p q f says (n ∷ ns) = either (p n) (q n) (f n) (parts_mono p q f says ns)
    where
      either : (a b : Bool) → (b ≡ true → a ≡ true) → Leq (meet_parts o p says ns) (meet_parts o q says ns) → Leq (meet_where o a (says n) (meet_parts o p says ns)) (meet_where o b (says n) (meet_parts o q says ns))
      either true true h l = meet_mono (says n) (meet_parts o p says ns) (says n) (meet_parts o q says ns) (leq_itself (says n)) l
      either true false h l = leq_leq (meet o (says n) (meet_parts o p says ns)) (meet_parts o p says ns) (meet_parts o q says ns) (second_meet (says n) (meet_parts o p says ns)) l
      either false true h l = absurd (let x = h refl in cc)
      either false false h l = l

  project_mono : (a b : TypeValue) (f arity part : ℕ) → Leq a b → Leq (project o a f arity part) (project o b f arity part)
  project_mono None b f arity part l = tt
  project_mono (Some p) None f arity part l = absurd l
  project_mono (Some p) (Some q) f arity part l = parts_mono p q l (name_part o f arity part) (names_of o)

pub ordered : (o : Order) → AreOrdered o
ordered o =
    record {
      reflexive = leq_itself;
      transitive = leq_leq;
      antisymmetric = leq_same;
      first_join = first_join;
      second_join = second_join;
      least_join = least_join;
      first_meet = first_meet o;
      second_meet = second_meet o;
      coherent_meet = coherent_meet o;
      greatest_meet = greatest_meet o;
    }

pub monotone : (o : Order) → AreMonotone o
monotone o =
    record {
      leq = λ a b c d l m n. leq_leq a c b l (leq_leq c d b n m);
      join = join_mono;
      meet = meet_mono o;
      build = build_mono o;
      project = project_mono o;
    }
