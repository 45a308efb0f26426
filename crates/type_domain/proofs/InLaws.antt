-- Terms in values.
use Rattle.std.proofs.Common.{◌≡◌, ◌⊎◌, inl, inr, ℕ, zero, suc, ◌<◌, Bool, true, false, ◌||◌, List, [], ◌∷◌, length, map, refl, ap, sym, ◌∙◌, subst, arith}
use Rattle.std.proofs.lemmas.Bool.Decides.{nat_tests}
use Rattle.std.proofs.lemmas.Bool.{and_from, or_cases}
use Rattle.std.specs.Prelude.{ℤ, ◌==◌, not, slice_index_or, None, Some}
use Rattle.std.specs.List.{list_any, list_all}
use Rattle.term_core.specs.declared.terms.Term.{Term, Var, Int, Atom, Node}
use Rattle.term_core.proofs.TermFolds.{fold-Int, fold-Atom, fold-Node}
use Rattle.prog_data.specs.declared.grammars.Basic.TheVariants as basic
use Rattle.prog_data.specs.declared.grammars.Rule.{Rule}
use Rattle.prog_data.specs.declared.grammars.Rule.TheVariants as rule
use Rattle.prog_data.specs.declared.grammars.Grammar.{Grammar}
use Rattle.prog_data.specs.Membership.{leaves, admits_int, admits_atom, admits_node, admit_each, admits, admits_step, Belongs}
use Rattle.prog_data.proofs.Leaves.{In, here, later, any_in, in_any}
use Rattle.prog_data.specs.declared.basic_names.TheConstants.{GND_TYPE}
use Rattle.name_order.specs.Relations.{Order, order}
use Rattle.prog_data.specs.Values.{TypeValue, IsIn, AreIn}
use Rattle.type_domain.specs.Values.{term_name, Leq, join, is_inhabited, all_fit, unless_apart, meet, of_name, of_int, of_atom, has_name, is_set, each_has, leaf_builds, build, where_fits, leaf_part, join_all, name_part, meet_where, meet_parts, project, names_of}
use Rattle.type_domain.specs.Relied.{Relied}
use Rattle.type_domain.specs.Laws.{KeepTerms}
use Rattle.type_domain.proofs.Lists.{and_left, and_right, all_given}
use Rattle.type_domain.proofs.Orders.{in_inhabited}
use Rattle.type_domain.proofs.TermLeaves.{in_gnd, gnd_in, leaf_of, of_leaf, in_top}

implied : (a b : Bool) → (a ≡ true → b ≡ true) → (not a || b) ≡ true
implied true b h = h refl
implied false b h = refl

module _ (g : Grammar) where
  -- a term belongs to each name that passes
  abbrev pub Passing : Term → (ℕ → Bool) → Type 0
  Passing t p = (n : ℕ) → p n ≡ true → Belongs g t n

  in_join : (t : Term) (a b : TypeValue) → IsIn g t a ⊎ IsIn g t b → IsIn g t (join a b)
  in_join t None b (inl d) = absurd d
  in_join t None b (inr d) = d
  in_join t (Some p) None (inl d) = d
  in_join t (Some p) None (inr d) = absurd d
  in_join t (Some p) (Some q) (inl d) = λ n e. d n (and_left _ _ e)
  in_join t (Some p) (Some q) (inr d) = λ n e. d n (and_right (p n) _ e)

  in_leq : (t : Term) (a b : TypeValue) → Leq a b → IsIn g t a → IsIn g t b
  in_leq t None b l d = absurd d
  in_leq t (Some p) None l d = absurd l
  in_leq t (Some p) (Some q) l d = λ n e. d n (l n e)

module _ (g : Grammar) (says : Relied g) where
  abbrev o : Order
  o = order g

  consistent : (t : Term) (p : ℕ → Bool) → Passing g t p → all_fit o p ≡ true
  consistent t p d =
      all_given _ (names_of o) (λ n _. implied (p n) _ (λ e.
      and_from (is_inhabited (o.leaves n)) _ (let l = leaf_of g says t n (d n e) in in_inhabited l.0 (o.leaves n) l.1)
      (all_given _ (names_of o) (λ m _. implied (p m) _ (λ f. (says.is_order.meets n m).1 (says.shared_meet t n m (d n e) (d m f)))))))

  in_meet : (t : Term) (a b : TypeValue) → IsIn g t a → IsIn g t b → IsIn g t (meet o a b)
  in_meet t None b d e = absurd d
  in_meet t (Some p) None d e = absurd e
  in_meet t (Some p) (Some q) d e = subst (λ b. IsIn g t (unless_apart b (λ n. p n || q n))) (sym (consistent t (λ n. p n || q n) both)) both
    where
      both : Passing g t (λ n. p n || q n)
      both n f = elim (or_cases (p n) (q n) f) as (λ _. Belongs g t n) [ inl l ↦ d n l | inr r ↦ e n r ]

  in_name : (t : Term) (n : ℕ) → Belongs g t n → IsIn g t (of_name o n)
  in_name t n b = λ m e. says.keeps_terms t n m ((says.is_order.below n m).0 e) b

  int_admits : (k : ℤ) (r : Rule) → admits g (Int k) r ≡ admits_int k r
  int_admits k r = ap (λ p. p r) (fold-Int _ (admits_step g) k)

  atom_admits : (a : ℕ) (r : Rule) → admits g (Atom a) r ≡ admits_atom a r
  atom_admits a r = ap (λ p. p r) (fold-Atom _ (admits_step g) a)

  pub in_int : (k : ℤ) → IsIn g (Int k) (of_int o k)
  in_int k = λ n e. let m = any_in (admits_int k) (o.leaves n) e in of_leaf g says (Int k) n m.0 m.1 (int_admits k m.0 ∙ m.2)

  pub in_atom : (a : ℕ) → IsIn g (Atom a) (of_atom o a)
  in_atom a = λ n e. let m = any_in (admits_atom a) (o.leaves n) e in of_leaf g says (Atom a) n m.0 m.1 (atom_admits a m.0 ∙ m.2)

  pub whole_int : (k : ℤ) (n : ℕ) → Belongs g (Int k) n → has_name (of_int o k) n ≡ true
  whole_int k n b = let l = leaf_of g says (Int k) n b in in_any (admits_int k) (o.leaves n) l.1 (sym (int_admits k l.0) ∙ l.2)

  pub whole_atom : (a n : ℕ) → Belongs g (Atom a) n → has_name (of_atom o a) n ≡ true
  whole_atom a n b = let l = leaf_of g says (Atom a) n b in in_any (admits_atom a) (o.leaves n) l.1 (sym (atom_admits a l.0) ∙ l.2)

  in_has : (t : Term) (v : TypeValue) (n : ℕ) → IsIn g t v → has_name v n ≡ true → Belongs g t n
  in_has t None n d e = absurd d
  in_has t (Some p) n d e = d n e

  all_set : (ts : List Term) (vs : List TypeValue) → AreIn g ts vs → list_all is_set vs ≡ true
  all_set [] [] d = refl
  all_set [] (v ∷ vs) d = absurd d
  all_set (t ∷ ts) [] d = absurd d
  all_set (t ∷ ts) (None ∷ vs) d = absurd d.0
  all_set (t ∷ ts) (Some p ∷ vs) d = all_set ts vs d.1

  all_ground : (ts : List Term) (vs : List TypeValue) → AreIn g ts vs → list_all (λ v. has_name v GND_TYPE) vs ≡ true → list_all (λ p. p (rule.Basic basic.Gnd)) (map (admits g) ts) ≡ true
  all_ground [] [] d e = refl
  all_ground [] (v ∷ vs) d e = absurd d
  all_ground (t ∷ ts) [] d e = absurd d
  all_ground (t ∷ ts) (v ∷ vs) d e =
      and_from (admits g t (rule.Basic basic.Gnd)) (list_all (λ p. p (rule.Basic basic.Gnd)) (map (admits g) ts)) (in_gnd g says t ((says.belongs t GND_TYPE).1 (in_has t v GND_TYPE d.0 (and_left _ _ e)))) (all_ground ts vs d.1 (and_right (has_name v GND_TYPE) _ e))

  all_admit : (ts : List Term) (vs : List TypeValue) (ns : List ℕ) → AreIn g ts vs → each_has vs ns ≡ true → admit_each g (map (admits g) ts) ns ≡ true
  all_admit [] [] [] d e = refl
  all_admit [] [] (n ∷ ns) d e = cc
  all_admit [] (v ∷ vs) ns d e = absurd d
  all_admit (t ∷ ts) [] ns d e = absurd d
  all_admit (t ∷ ts) (v ∷ vs) [] d e = cc
  all_admit (t ∷ ts) (v ∷ vs) (n ∷ ns) d e =
      and_from (list_any (admits g t) (leaves g n)) (admit_each g (map (admits g) ts) ns) ((says.belongs t n).1 (in_has t v n d.0 (and_left _ _ e))) (all_admit ts vs ns d.1 (and_right (has_name v n) _ e))

  built : (f : ℕ) (ts : List Term) (vs : List TypeValue) → AreIn g ts vs → (r : Rule) → leaf_builds f vs r ≡ true → admits_node g f (map (admits g) ts) r ≡ true
  built f ts vs d (rule.Basic basic.Term) e = refl
  built f ts vs d (rule.Basic basic.Struct) e = refl
  built f ts vs d (rule.Basic basic.Gnd) e = all_ground ts vs d e
  built f ts vs d (rule.Node h ns) e = and_from (f == h) _ (and_left _ _ e) (all_admit ts vs ns d (and_right (f == h) _ e))
  built f ts vs d other e = cc

  in_build : (f : ℕ) (ts : List Term) (vs : List TypeValue) → AreIn g ts vs → IsIn g (Node f ts) (build o f vs)
  in_build f ts vs d =
      subst (λ b. IsIn g (Node f ts) (where_fits b (Some (λ n. list_any (leaf_builds f vs) (o.leaves n))))) (sym (all_set ts vs d))
      (λ n e. let m = any_in (leaf_builds f vs) (o.leaves n) e in of_leaf g says (Node f ts) n m.0 m.1 (ap (λ p. p m.0) (fold-Node _ (admits_step g) f ts) ∙ built f ts vs d m.0 m.2))

  -- parts

  in_term : (t : Term) → IsIn g t (of_name o term_name)
  in_term t = in_name t term_name (in_top g says t)

  -- the names above term fit, since a variable belongs to each
  pub top_fits : all_fit o (o.below term_name) ≡ true
  top_fits = consistent (Var 0) (o.below term_name) (in_term (Var 0))

  part_ground : (ts : List Term) (i : ℕ) → i < length ts → list_all (λ p. p (rule.Basic basic.Gnd)) (map (admits g) ts) ≡ true → Belongs g (slice_index_or ts i (Var 0)) GND_TYPE
  part_ground [] i lt e = absurd (omega (arith, lt))
  part_ground (t ∷ ts) zero lt e = (says.belongs t GND_TYPE).0 (gnd_in g says t (and_left _ _ e))
  part_ground (t ∷ ts) (suc i) lt e = part_ground ts i (omega (arith, lt)) (and_right (admits g t (rule.Basic basic.Gnd)) _ e)

  part_admitted : (ts : List Term) (ns : List ℕ) (i : ℕ) → i < length ts → admit_each g (map (admits g) ts) ns ≡ true → Belongs g (slice_index_or ts i (Var 0)) (slice_index_or ns i term_name)
  part_admitted [] ns i lt e = absurd (omega (arith, lt))
  part_admitted (t ∷ ts) [] i lt e = cc
  part_admitted (t ∷ ts) (n ∷ ns) zero lt e = (says.belongs t n).0 (and_left _ _ e)
  part_admitted (t ∷ ts) (n ∷ ns) (suc i) lt e = part_admitted ts ns i (omega (arith, lt)) (and_right (list_any (admits g t) (leaves g n)) _ e)

  same_length : (ts : List Term) (ns : List ℕ) → admit_each g (map (admits g) ts) ns ≡ true → (length ns == length ts) ≡ true
  same_length [] [] e = refl
  same_length [] (n ∷ ns) e = cc
  same_length (t ∷ ts) [] e = cc
  same_length (t ∷ ts) (n ∷ ns) e = let l = same_length ts ns (and_right (list_any (admits g t) (leaves g n)) _ e) in grind (arith, nat_tests)

  module _ (f : ℕ) (ts : List Term) (i : ℕ) (lt : i < length ts) where
    abbrev pub part : Term
    part = slice_index_or ts i (Var 0)

    in_leaf_part : (r : Rule) → admits_node g f (map (admits g) ts) r ≡ true → IsIn g part (leaf_part o f (length ts) i r)
    in_leaf_part (rule.Basic basic.Term) e = in_term part
    in_leaf_part (rule.Basic basic.Struct) e = in_term part
    in_leaf_part (rule.Basic basic.Gnd) e = in_name part GND_TYPE (part_ground ts i lt e)
    in_leaf_part (rule.Node h ns) e =
        subst (λ b. IsIn g part (where_fits b (of_name o (slice_index_or ns i term_name)))) (sym (and_from (f == h) (length ns == length ts) (and_left _ _ e) (same_length ts ns (and_right (f == h) _ e))))
        (in_name part _ (part_admitted ts ns i lt (and_right (f == h) _ e)))
    in_leaf_part other e = cc

    in_join_all : (r : Rule) (rs : List Rule) → In r rs → admits_node g f (map (admits g) ts) r ≡ true → IsIn g part (join_all (map (leaf_part o f (length ts) i) rs))
    in_join_all r [] j e = elim j [ ]
    in_join_all r (x ∷ xs) here e = in_join g part (leaf_part o f (length ts) i r) (join_all (map (leaf_part o f (length ts) i) xs)) (inl (in_leaf_part r e))
    in_join_all r (x ∷ xs) (later j) e = in_join g part (leaf_part o f (length ts) i x) (join_all (map (leaf_part o f (length ts) i) xs)) (inr (in_join_all r xs j e))

    in_name_part : (n : ℕ) → Belongs g (Node f ts) n → IsIn g part (name_part o f (length ts) i n)
    in_name_part n b = let l = leaf_of g says (Node f ts) n b in in_join_all l.0 (o.leaves n) l.1 (sym (ap (λ p. p l.0) (fold-Node _ (admits_step g) f ts)) ∙ l.2)

    in_meet_parts : (p : ℕ → Bool) → Passing g (Node f ts) p → (ns : List ℕ) → IsIn g part (meet_parts o p (name_part o f (length ts) i) ns)
    in_meet_parts p d [] = in_term part
    in_meet_parts p d (n ∷ ns) = either (p n) (d n) (in_meet_parts p d ns)
      where
        either : (b : Bool) → (b ≡ true → Belongs g (Node f ts) n) → IsIn g part (meet_parts o p (name_part o f (length ts) i) ns) → IsIn g part (meet_where o b (name_part o f (length ts) i n) (meet_parts o p (name_part o f (length ts) i) ns))
        either true h rest = in_meet part (name_part o f (length ts) i n) _ (in_name_part n (h refl)) rest
        either false h rest = rest

    in_project : (v : TypeValue) → IsIn g (Node f ts) v → IsIn g part (project o v f (length ts) i)
    in_project None d = absurd d
    in_project (Some p) d = in_meet_parts p d (names_of o)

pub keep_terms : (g : Grammar) → Relied g → KeepTerms g
keep_terms g says =
    record {
      join = in_join g;
      meet = in_meet g says;
      name = in_name g says;
      int = in_int g says;
      atom = in_atom g says;
      whole_int = whole_int g says;
      whole_atom = whole_atom g says;
      build = in_build g says;
      project = λ f ts v part lt d. in_project g says f ts part lt v d;
      leq = in_leq g;
    }
