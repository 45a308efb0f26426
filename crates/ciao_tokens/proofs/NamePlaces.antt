-- A name keeps its place when more names are added.
use Rattle.std.proofs.Common.{◌≡◌, ℕ, ◌+◌, Bool, true, false, not, cond, List, [], ◌∷◌, ◌++◌, refl, sym, ap, ◌∙◌, append_assoc}
use Rattle.std.proofs.lemmas.List.{append-nil}
use Rattle.std.proofs.lemmas.Slice.Eq.{bytes_eq-Decides}
use Rattle.std.proofs.lemmas.Bool.{or_left, or_right}
use Rattle.std.specs.Prelude.{bytes_eq, if◌then◌else◌, ◌||◌}
use Rattle.std.specs.List.{list_any, position_or_len}
use Rattle.term_core.specs.Names.{place_of, with_text, with_texts}
use Rattle.term_core.specs.Lists.{IsPrefix}

-- fronts

-- names begin themselves
pub front_itself : (names : List (List ℕ)) → IsPrefix names names
front_itself names = ([], append-nil names)

-- a prefix of a front is a front
pub front_twice : (a b c : List (List ℕ)) → IsPrefix a b → IsPrefix b c → IsPrefix a c
front_twice a b c f g = (f.0 ++ g.0, sym (append_assoc a f.0 g.0) ∙ ap (λ w. w ++ g.0) f.1 ∙ g.1)

front_with : (names : List (List ℕ)) (word : List ℕ) → IsPrefix names (with_text names word)
front_with names word = by (list_any (bytes_eq word) names)
  where
    by : (b : Bool) → IsPrefix names (if b then names else names ++ word ∷ [])
    by true = front_itself names
    by false = (word ∷ [], refl)

-- the names stay at the front of those with more
pub front_names : (names ws : List (List ℕ)) → IsPrefix names (with_texts names ws)
front_names names [] = front_itself names
front_names names (w ∷ ws) = front_twice names _ _ (front_with names w) (front_names (with_text names w) ws)

-- places

-- a word equals itself
same_text : (word : List ℕ) → bytes_eq word word ≡ true
same_text word = (bytes_eq-Decides word word).1 refl

-- the last of the names passes, so one does
any_at_end : (p : List ℕ → Bool) (names : List (List ℕ)) (word : List ℕ) → p word ≡ true → list_any p (names ++ word ∷ []) ≡ true
any_at_end p [] word e = or_left _ _ e
any_at_end p (n ∷ ns) word e = or_right (p n) _ (any_at_end p ns word e)

-- a name that was added is there
pub is_there : (names : List (List ℕ)) (word : List ℕ) → list_any (bytes_eq word) (with_text names word) ≡ true
is_there names word = by (list_any (bytes_eq word) names) refl
  where
    by : (b : Bool) → list_any (bytes_eq word) names ≡ b → list_any (bytes_eq word) (if b then names else names ++ word ∷ []) ≡ true
    by true e = e
    by false e = any_at_end (bytes_eq word) names word (same_text word)

-- a place stays when more names are added
place_in_front : (p : List ℕ → Bool) (names more : List (List ℕ)) → list_any p names ≡ true → position_or_len p (names ++ more) ≡ position_or_len p names
place_in_front p [] more any = cc
place_in_front p (n ∷ ns) more any = by (p n) any (place_in_front p ns more)
  where
    by : (b : Bool) → (b || list_any p ns) ≡ true → (list_any p ns ≡ true → position_or_len p (ns ++ more) ≡ position_or_len p ns) →
        cond (not b) (1 + position_or_len p (ns ++ more)) 0 ≡ cond (not b) (1 + position_or_len p ns) 0
    by true any rest = refl
    by false any rest = ap (λ i. 1 + i) (rest any)

-- the place of a name is that at which it is added
place_at_end : (p : List ℕ → Bool) (names : List (List ℕ)) (word : List ℕ) → p word ≡ true → position_or_len p (names ++ word ∷ []) ≡ position_or_len p names
place_at_end p [] word e = ap (λ b. cond (not b) 1 0) e
place_at_end p (n ∷ ns) word e = ap (λ i. cond (not (p n)) (1 + i) 0) (place_at_end p ns word e)

-- a name is added at its place
place_with : (names : List (List ℕ)) (word : List ℕ) → place_of word (with_text names word) ≡ place_of word names
place_with names word = by (list_any (bytes_eq word) names)
  where
    by : (b : Bool) → place_of word (if b then names else names ++ word ∷ []) ≡ place_of word names
    by true = refl
    by false = place_at_end (bytes_eq word) names word (same_text word)

-- a name's place stays as it was when it was added
pub place_kept : (names : List (List ℕ)) (word : List ℕ) (ws : List (List ℕ)) → place_of word (with_texts (with_text names word) ws) ≡ place_of word names
place_kept names word ws =
    let front = front_names (with_text names word) ws in
    ap (place_of word) (sym front.1)
    ∙ place_in_front (bytes_eq word) (with_text names word) front.0 (is_there names word)
    ∙ place_with names word

-- some names, and then others
pub with_more : (names ws vs : List (List ℕ)) → with_texts names (ws ++ vs) ≡ with_texts (with_texts names ws) vs
with_more names [] vs = refl
with_more names (w ∷ ws) vs = with_more (with_text names w) ws vs
