-- A value put into its place, as values of variables.
use Rattle.std.proofs.Common.{◌≡◌, ℕ, zero, suc, ◌<◌, ◌≤◌, Bool, true, false, ◌&&◌, List, [], ◌∷◌, ◌++◌, length, map, drop, refl, ap, sym, ◌∙◌, arith, true≢false, append-nil}
use Rattle.std.proofs.lemmas.Bool.Decides.{nat_tests}
use Rattle.std.proofs.lemmas.List.{drop_all}
use Rattle.std.specs.Prelude.{◌==◌, slice_index_or, slice_set, None, Some, option_map, if◌then◌else◌}
use Rattle.prog_data.specs.declared.tables.Value.{Value}
use Rattle.prog_data.specs.Values.{TypeValue, bit_at, seen}
use Rattle.name_order.specs.Relations.{Order}
use Rattle.type_domain.specs.Values.{term_name, join, of_name}
use Rattle.goal_transfer.specs.Conditions.{meet_each, join_each}
use Rattle.goal_transfer.specs.Transfer.{Values, known_where, with_changed, set_value, join_known}
use Rattle.goal_transfer.specs.States.{values_seen}

set_same : (vs : List Value) (v : ℕ) (x : Value) (d : TypeValue) → v < length vs → slice_index_or (map seen (slice_set vs v x)) v d ≡ seen x
set_same [] v x d lt = absurd (omega (arith, lt))
set_same (y ∷ ys) zero x d lt = refl
set_same (y ∷ ys) (suc v) x d lt = set_same ys v x d (omega (arith, lt))

set_other : (vs : List Value) (v u : ℕ) (x : Value) (d : TypeValue) → (v ≡ u → ⊥) → slice_index_or (map seen (slice_set vs v x)) u d ≡ slice_index_or (map seen vs) u d
set_other [] v u x d other = refl
set_other (y ∷ ys) zero zero x d other = absurd (other refl)
set_other (y ∷ ys) zero (suc u) x d other = refl
set_other (y ∷ ys) (suc v) zero x d other = refl
set_other (y ∷ ys) (suc v) (suc u) x d other = set_other ys v u x d (λ e. other (ap suc e))

set_some : (vs : Values) (v : ℕ) (w : TypeValue) (q : ℕ → Bool) → w ≡ Some q → set_value vs v w ≡ Some (with_changed vs v w)
set_some vs v None q e = cc
set_some vs v (Some p) q e = refl

pub set_seen : (o : Order) (vs : List Value) (v : ℕ) (x : Value) (p : List ℕ) → v < length vs → x.names ≡ Some p → Some (values_seen o (slice_set vs v x)) ≡ set_value (values_seen o vs) v (seen x)
set_seen o vs v x p lt e = ap Some (λ i u. at u i) ∙ sym (set_some (values_seen o vs) v (seen x) (bit_at p) (ap (option_map bit_at) e))
  where
    by_test : (u : ℕ) (b : Bool) → (v == u) ≡ b → values_seen o (slice_set vs v x) u ≡ (if b then seen x else values_seen o vs u)
    by_test u true f = let same : u ≡ v = grind (arith, nat_tests, f) in ap (λ u. slice_index_or (map seen (slice_set vs v x)) u (of_name o term_name)) same ∙ set_same vs v x (of_name o term_name) lt
    by_test u false f = set_other vs v u x (of_name o term_name) (λ same. let g : (v == u) ≡ true = grind (arith, nat_tests, same) in cc)

    at : (u : ℕ) → values_seen o (slice_set vs v x) u ≡ with_changed (values_seen o vs) v (seen x) u
    at u = by_test u (v == u) refl

-- lists joined place by place, as values of variables

itself : (a : Bool) → (a && a) ≡ a
itself true = refl
itself false = refl

pub joined_seen : (o : Order) (as' bs : List TypeValue) → length as' ≡ length bs → (v : ℕ) → slice_index_or (join_each as' bs) v (of_name o term_name) ≡ join (slice_index_or as' v (of_name o term_name)) (slice_index_or bs v (of_name o term_name))
joined_seen o [] [] e v = ap Some (λ i n. sym (itself (o.below term_name n)) i)
joined_seen o [] (b ∷ bs) e v = cc
joined_seen o (a ∷ as') [] e v = cc
joined_seen o (a ∷ as') (b ∷ bs) e zero = refl
joined_seen o (a ∷ as') (b ∷ bs) e (suc v) = joined_seen o as' bs (omega (arith, e)) v

map_count : {A B : Type 0} (f : A → B) (xs : List A) → length (map f xs) ≡ length xs
map_count f [] = refl
map_count f (x ∷ xs) = ap suc (map_count f xs)

pub joins_seen : (o : Order) (new others old : List Value) → length others ≡ length old → map seen new ≡ join_each (map seen others) (map seen old) → values_seen o new ≡ (λ v. join (values_seen o others v) (values_seen o old v))
joins_seen o new others old e is = λ i v. at v i
  where
    at : (v : ℕ) → values_seen o new v ≡ join (values_seen o others v) (values_seen o old v)
    at v = ap (λ xs. slice_index_or xs v (of_name o term_name)) is ∙ joined_seen o (map seen others) (map seen old) (map_count seen others ∙ e ∙ sym (map_count seen old)) v

join_count : (as' bs : List TypeValue) → length as' ≡ length bs → length (join_each as' bs) ≡ length as'
join_count [] bs e = refl
join_count (a ∷ as') [] e = cc
join_count (a ∷ as') (b ∷ bs) e = ap suc (join_count as' bs (omega (arith, e)))

-- as many as before
pub joined_count : (new others old : List Value) → length old ≡ length others → map seen new ≡ join_each (map seen others) (map seen old) → length old ≡ length new
joined_count new others old e is =
    e ∙ sym (map_count seen others) ∙ sym (join_count (map seen others) (map seen old) (map_count seen others ∙ sym e ∙ sym (map_count seen old))) ∙ sym (ap length is) ∙ map_count seen new

pub either_kept : (o : Order) (a b : Bool) (new others old : List Value) → a ≡ true → b ≡ true → values_seen o new ≡ (λ v. join (values_seen o others v) (values_seen o old v)) →
    Some (values_seen o new) ≡ join_known (known_where a (values_seen o others)) (known_where b (values_seen o old))
either_kept o true true new others old e f is = ap Some is
either_kept o true false new others old e f is = absurd (true≢false (sym f))
either_kept o false b new others old e f is = absurd (true≢false (sym e))

-- lists met or joined as far as the second one goes

meet_none : (o : Order) (xs : List TypeValue) → meet_each o xs [] ≡ []
meet_none o [] = refl
meet_none o (x ∷ xs) = refl

join_none : (xs : List TypeValue) → join_each xs [] ≡ []
join_none [] = refl
join_none (x ∷ xs) = refl

pub met_end : (o : Order) (made all xs : List TypeValue) (ws : List Value) (i : ℕ) → length ws ≤ i → made ++ meet_each o xs (map seen (drop i ws)) ≡ all → made ≡ all
met_end o made all xs ws i le had = sym (append-nil made) ∙ ap (λ ys. made ++ ys) (sym (meet_none o xs)) ∙ ap (λ ys. made ++ meet_each o xs (map seen ys)) (sym (drop_all i ws le)) ∙ had

pub joined_end : (made all xs : List TypeValue) (ws : List Value) (i : ℕ) → length ws ≤ i → made ++ join_each xs (map seen (drop i ws)) ≡ all → made ≡ all
joined_end made all xs ws i le had = sym (append-nil made) ∙ ap (λ ys. made ++ ys) (sym (join_none xs)) ∙ ap (λ ys. made ++ join_each xs (map seen ys)) (sym (drop_all i ws le)) ∙ had
