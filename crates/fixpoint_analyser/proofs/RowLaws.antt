-- Stored rows, and values that are joined in their places.
use Rattle.std.proofs.Common.{◌≡◌, ℕ, zero, suc, ◌+◌, ◌<◌, ◌≤◌, Bool, true, false, ◌&&◌, List, [], ◌∷◌, ◌++◌, length, map, get_or, refl, ap, sym, ◌∙◌, subst, arith}
use Rattle.std.proofs.lemmas.List.{map-append, replicate-append-replicate, length-map, get_or_default}
use Rattle.std.specs.Prelude.{slice_set, None, Some, IsTrue}
use Rattle.prog_data.specs.declared.tables.Value.{Value}
use Rattle.prog_data.specs.declared.tables.Row.{Row}
use Rattle.prog_data.specs.Values.{TypeValue, seen}
use Rattle.type_domain.specs.Values.{Leq, join}
use Rattle.type_domain.specs.Laws.{LeqEach}
use Rattle.goal_transfer.specs.Conditions.{join_each}
use Rattle.goal_transfer.specs.Tables.{Facts, row_seen, facts_of}
use Rattle.fixpoint_analyser.specs.Ascent.{nones, with_row, called_row, exited_row}

-- one more none
pub nones_more : (k : ℕ) (vs new : List Value) (x : Value) → new ≡ vs ++ x ∷ [] → seen x ≡ None → map seen vs ≡ nones k → map seen new ≡ nones (k + 1)
nones_more k vs new x is e had = ap (map seen) is ∙ map-append seen vs (x ∷ []) ∙ (λ i. had i ++ e i ∷ []) ∙ replicate-append-replicate k 1 None

-- values joined in their places

-- the first so many values joined with those in their places
abbrev pub joined_to : ℕ → List TypeValue → List TypeValue → List TypeValue
joined_to zero vs ws = vs
joined_to (suc k) [] ws = []
joined_to (suc k) (v ∷ vs) [] = v ∷ vs
joined_to (suc k) (v ∷ vs) (w ∷ ws) = join v w ∷ joined_to k vs ws

heads : {A : Type 0} (x y : A) (xs ys : List A) → x ∷ xs ≡ y ∷ ys → x ≡ y
heads x y xs ys e = cc

tails : {A : Type 0} (x y : A) (xs ys : List A) → x ∷ xs ≡ y ∷ ys → xs ≡ ys
tails x y xs ys e = cc

joined_next : (k : ℕ) (vs : List TypeValue) (others now : List Value) (x y z : Value) → k < length vs → k < length others → map seen now ≡ joined_to k vs (map seen others) → y ≡ get_or now k y → z ≡ get_or others k z → seen x ≡ join (seen y) (seen z) →
    map seen (slice_set now k x) ≡ joined_to (suc k) vs (map seen others)
joined_next k [] others now x y z lt less is read other e = absurd (omega (arith, lt))
joined_next k (v ∷ vs) [] now x y z lt less is read other e = absurd (omega (arith, less))
joined_next zero (v ∷ vs) (w ∷ ws) [] x y z lt less is read other e = cc
joined_next zero (v ∷ vs) (w ∷ ws) (u ∷ us) x y z lt less is read other e =
    let first : seen x ≡ join v (seen w) = e ∙ ap (λ a. join a (seen z)) (ap seen read ∙ heads (seen u) v (map seen us) vs is) ∙ ap (λ b. join v (seen b)) other in
    ap (λ a. a ∷ map seen us) first ∙ ap (λ as'. join v (seen w) ∷ as') (tails (seen u) v (map seen us) vs is)
joined_next (suc k) (v ∷ vs) (w ∷ ws) [] x y z lt less is read other e = cc
joined_next (suc k) (v ∷ vs) (w ∷ ws) (u ∷ us) x y z lt less is read other e =
    let rest = joined_next k vs ws us x y z (omega (arith, lt)) (omega (arith, less)) (tails (seen u) (join v (seen w)) (map seen us) (joined_to k vs (map seen ws)) is) read other e in
    ap (λ a. a ∷ map seen (slice_set us k x)) (heads (seen u) (join v (seen w)) (map seen us) (joined_to k vs (map seen ws)) is) ∙ ap (λ as'. join v (seen w) ∷ as') rest

pub joined_turn : (k : ℕ) (vs : List TypeValue) (others now : List Value) (x d e : Value) → k < length vs → k < length others → k < length now → map seen now ≡ joined_to k vs (map seen others) → seen x ≡ join (seen (get_or now k d)) (seen (get_or others k e)) →
    map seen (slice_set now k x) ≡ joined_to (k + 1) vs (map seen others)
joined_turn k vs others now x d e lt less within is joined =
    let next : suc k ≡ k + 1 = omega arith in
    subst (λ n. map seen (slice_set now k x) ≡ joined_to n vs (map seen others)) next
    (joined_next k vs others now x (get_or now k d) (get_or others k e) lt less is (get_or_default now k d (get_or now k d) within) (get_or_default others k e (get_or others k e) less) joined)

pub joined_all : (k : ℕ) (vs ws : List TypeValue) → length ws ≤ k → length ws ≡ length vs → joined_to k vs ws ≡ join_each vs ws
joined_all zero [] ws le e = refl
joined_all zero (v ∷ vs) [] le e = cc
joined_all zero (v ∷ vs) (w ∷ ws) le e = absurd (omega (arith, le))
joined_all (suc k) [] ws le e = refl
joined_all (suc k) (v ∷ vs) [] le e = cc
joined_all (suc k) (v ∷ vs) (w ∷ ws) le e = ap (λ as'. join v w ∷ as') (joined_all k vs ws (omega (arith, le)) (omega (arith, e)))

pub joined_end : (k : ℕ) (old now others : List Value) → length others ≤ k → length others ≡ length old → map seen now ≡ joined_to k (map seen old) (map seen others) → map seen now ≡ join_each (map seen old) (map seen others)
joined_end k old now others le e is =
    is ∙ joined_all k (map seen old) (map seen others) (omega (arith, le, length-map others seen)) (length-map others seen ∙ e ∙ sym (length-map old seen))

-- what says as much already

and_same : (a b : Bool) → (a ≡ true → b ≡ true) → (a && b) ≡ a
and_same true b h = h refl
and_same false b h = refl

join_same : (a b : TypeValue) → Leq b a → join a b ≡ a
join_same None None leq = refl
join_same None (Some q) leq = absurd leq
join_same (Some p) None leq = refl
join_same (Some p) (Some q) leq = ap Some (λ i n. and_same (p n) (q n) (leq n) i)

joins_same : (us vs : List TypeValue) → LeqEach vs us → join_each us vs ≡ us
joins_same [] vs leq = refl
joins_same (u ∷ us) [] leq = absurd leq
joins_same (u ∷ us) (v ∷ vs) leq = (λ i. join_same u v leq.0 i ∷ joins_same us vs leq.1 i)

pub called_same : (vs : List TypeValue) (r : Facts) → IsTrue r.reached × LeqEach vs r.entry → r ≡ called_row vs r
called_same vs r h = λ i. record { reached = h.0 i; entry = sym (joins_same r.entry vs h.1) i; exits = r.exits; exit = r.exit }

pub exited_same : (vs : List TypeValue) (r : Facts) → IsTrue r.exits × LeqEach vs r.exit → r ≡ exited_row vs r
exited_same vs r h = λ i. record { reached = r.reached; entry = r.entry; exits = h.0 i; exit = sym (joins_same r.exit vs h.1) i }

-- rows in their places

pub row_at : (rows : List Row) (p : ℕ) (row : Row) → p < length rows → row ≡ get_or rows p row → facts_of (map row_seen rows) p ≡ row_seen row
row_at [] p row lt read = absurd (omega (arith, lt))
row_at (x ∷ rows) zero row lt read = ap row_seen (sym read)
row_at (x ∷ rows) (suc p) row lt read = row_at rows p row (omega (arith, lt)) read

pub row_written : (rows : List Row) (p : ℕ) (row : Row) → map row_seen (slice_set rows p row) ≡ with_row (map row_seen rows) p (row_seen row)
row_written [] p row = refl
row_written (x ∷ rows) zero row = refl
row_written (x ∷ rows) (suc p) row = ap (λ rs. row_seen x ∷ rs) (row_written rows p row)
