use Rattle.std.proofs.Common.{◌≡◌, ℕ, ◌+◌, Bool, true, false, not, cond, List, [], ◌∷◌, ◌++◌, map, length, String, Some, None, refl, sym, ap, ◌∙◌, position, nat_lt, slice_get, option_map}
use Rattle.std.proofs.lemmas.Option.{slice_get-map}
use Rattle.std.proofs.lemmas.List.{append-nil, append_assoc}
use Rattle.std.proofs.lemmas.Str.{IsUtf8-string_bytes}
use Rattle.std.specs.Prelude.{IsUtf8, string_bytes, string_eq, bytes_eq, if◌then◌else◌, ◌||◌}
use Rattle.std.specs.List.{IsDistinct, AllByRecursion, list_any, position_or_len}
use Rattle.std.proofs.lemmas.List.{length-map, map-append}
use Rattle.term_core.specs.Names.{find_text, place_of, with_text}
use Rattle.term_core.specs.Lists.{IsPrefix}

-- the texts of the keys of a set
abbrev pub texts_of : {A : Type 0} → List (String A) → List (List ℕ)
texts_of ks = map string_bytes ks

pub place-texts : {A : Type 0} (p : List ℕ → Bool) (ks : List (String A)) → position_or_len (λ k. p (string_bytes k)) ks ≡ position_or_len p (texts_of ks)
place-texts p [] = refl
place-texts p (k ∷ ks) = ap (λ n. cond (not (p (string_bytes k))) (1 + n) 0) (place-texts p ks)

pub any-texts : {A : Type 0} (p : List ℕ → Bool) (ks : List (String A)) → list_any (λ k. p (string_bytes k)) ks ≡ list_any p (texts_of ks)
any-texts p [] = refl
any-texts p (k ∷ ks) = ap (λ b. p (string_bytes k) || b) (any-texts p ks)

pub find-texts : {A : Type 0} (text : List ℕ) (ks : List (String A)) → position (λ k. bytes_eq text (string_bytes k)) ks ≡ find_text text (texts_of ks)
find-texts text ks =
    ap (λ n. cond (nat_lt n (length ks)) (Some n) None) (place-texts (bytes_eq text) ks)
    ∙ ap (λ l. cond (nat_lt (place_of text (texts_of ks)) l) (Some (place_of text (texts_of ks))) None) (sym (length-map ks string_bytes))

pub insert-texts : {A : Type 0} (k : String A) (ks : List (String A)) (text : List ℕ) → string_bytes k ≡ text →
    texts_of (if list_any (string_eq k) ks then ks else ks ++ k ∷ []) ≡ with_text (texts_of ks) text
insert-texts k ks text is =
    by (list_any (string_eq k) ks)
    ∙ ap (λ b. if b then texts_of ks else texts_of ks ++ string_bytes k ∷ []) (any-texts (bytes_eq (string_bytes k)) ks)
    ∙ ap (with_text (texts_of ks)) is
  where
    by : (b : Bool) → texts_of (if b then ks else ks ++ k ∷ []) ≡ (if b then texts_of ks else texts_of ks ++ string_bytes k ∷ [])
    by true = refl
    by false = map-append string_bytes ks (k ∷ [])

pub front_with : (texts : List (List ℕ)) (text : List ℕ) → IsPrefix texts (with_text texts text)
front_with texts text = by (list_any (bytes_eq text) texts)
  where
    by : (b : Bool) → IsPrefix texts (if b then texts else texts ++ text ∷ [])
    by true = ([], append-nil texts)
    by false = (text ∷ [], refl)

pub text_at : {A : Type 0} (ks : List (String A)) (i : ℕ) (k : String A) (text : List ℕ) → slice_get ks i ≡ Some k → string_bytes k ≡ text → slice_get (texts_of ks) i ≡ Some text
text_at ks i k text at is = slice_get-map string_bytes ks i ∙ ap (option_map string_bytes) at ∙ ap Some is

apart-texts : {A : Type 0} (k : String A) (ks : List (String A)) → AllByRecursion (λ y. string_eq k y ≡ false) ks → AllByRecursion (λ y. bytes_eq (string_bytes k) y ≡ false) (texts_of ks)
apart-texts k [] all = tt
apart-texts k (y ∷ ys) all = (all.0, apart-texts k ys all.1)

pub distinct-texts : {A : Type 0} (ks : List (String A)) → IsDistinct string_eq ks → IsDistinct bytes_eq (texts_of ks)
unfolding IsDistinct
distinct-texts [] d = tt
distinct-texts (k ∷ ks) d = (apart-texts k ks d.0, distinct-texts ks d.1)

-- texts are UTF-8
pub utf8-texts : {A : Type 0} (ks : List (String A)) → AllByRecursion IsUtf8 (texts_of ks)
utf8-texts [] = tt
utf8-texts (k ∷ ks) = (IsUtf8-string_bytes k, utf8-texts ks)

-- what begins a list begins each that the list begins
pub front_of_front : (front middle all : List (List ℕ)) → IsPrefix front middle → IsPrefix middle all → IsPrefix front all
front_of_front front middle all (rest, a) (more, b) = (rest ++ more, sym (append_assoc front rest more) ∙ ap (λ texts. texts ++ more) a ∙ b)
