-- The bytes of a quoted item, a text or a number have one meaning.
use Rattle.std.proofs.Common.{arith, ◌≡◌, ◌≢◌, ◌<◌, ◌≤◌, ℕ, List, [], ◌∷◌, ◌++◌, length, refl, ap, sym, ◌∙◌, Bool, true, false}
use Rattle.std.specs.Prelude.{◌==◌, if◌then◌else◌, get_or, encode_utf8, encode_utf8_all, Option, Some}
use Rattle.std.specs.List.{list_all}
use Rattle.std.specs.Char.{is_ascii_digit, is_ascii_hexdigit}
use Rattle.std.proofs.lemmas.Bool.{and_parts, eqb-true, eq-eqb, false_from_ne_true, true≢false}
use Rattle.std.proofs.lemmas.List.{append_assoc, length-append}
use Rattle.std.proofs.lemmas.Str.{encode_same, char_from_byte, length-encode, len_utf8_bounds}
use Rattle.ciao_tokens.proofs.Bytes.{same_head, same_tail, single_low, single_apart, double_low, double_apart}
use Rattle.ciao_tokens.specs.Quotes.{Part, itself, doubled, escape, code, continued, Inside, empty, first, meant_by, value_of}
use Rattle.ciao_tokens.specs.Forms.{Form, quoted, text, IsNumber, decimal, hexadecimal, character}

-- what passes a test, and then a byte that does not
pub until : (test : ℕ → Bool) (x : ℕ) (cs ds r s : List ℕ) → test x ≡ false → list_all test cs ≡ true → list_all test ds ≡ true → cs ++ (x ∷ r) ≡ ds ++ (x ∷ s) → (cs ≡ ds) × (r ≡ s)
until test x [] [] r s f a b e = (refl, same_tail x x r s e)
until test x [] (d ∷ ds) r s f a b e = absurd (true≢false (sym (and_parts _ _ b).0 ∙ ap test (sym (same_head x d r (ds ++ (x ∷ s)) e)) ∙ f))
until test x (c ∷ cs) [] r s f a b e = absurd (true≢false (sym (and_parts _ _ a).0 ∙ ap test (same_head c x (cs ++ (x ∷ r)) s e) ∙ f))
until test x (c ∷ cs) (d ∷ ds) r s f a b e =
    let i = until test x cs ds r s f (and_parts _ _ a).1 (and_parts _ _ b).1 (same_tail c d (cs ++ (x ∷ r)) (ds ++ (x ∷ s)) e) in
    (ap (λ y. y ∷ cs) (same_head c d (cs ++ (x ∷ r)) (ds ++ (x ∷ s)) e) ∙ ap (λ ys. d ∷ ys) i.0, i.1)

-- which part begins, by the first two bytes
abbrev part_sort : ℕ → ℕ → ℕ → ℕ
part_sort q c d =
    if c == q then 1
    else if c == 92 then (if d == 120 then 3 else if d == 10 then 4 else 2)
    else 0

abbrev sort_at : ℕ → List ℕ → ℕ
sort_at q bytes = part_sort q (get_or bytes 0 0) (get_or bytes 1 0)

chosen : (c d : ℕ) (x y : ℕ) → c ≢ d → (if c == d then x else y) ≡ y
chosen c d x y n = ap (λ b. if b then x else y) (false_from_ne_true (c == d) (λ e. n (eqb-true c d e)))

taken : (c : ℕ) (x y : ℕ) → (if c == c then x else y) ≡ x
taken c x y = ap (λ b. if b then x else y) (eq-eqb c c refl)

module _ (q : ℕ) (ascii : q < 128) (apart : q ≢ 92) where
  abbrev sort_of : {bytes meant : List ℕ} → Part q bytes meant → ℕ
  sort_of (itself c s nq nb e) = 0
  sort_of (doubled e) = 1
  sort_of (escape letter c m e) = 2
  sort_of (code ds c h l k v s e) = 3
  sort_of (continued e) = 4

  -- a character's first byte is itself or above 127
  pub not_byte : (c b : ℕ) (r : List ℕ) → b < 128 → c ≢ b → get_or (encode_utf8 c ++ r) 0 0 ≢ b
  not_byte c b r l n e = n (char_from_byte (encode_utf8 c ++ r) r c refl (omega (arith, l, e)) (omega (arith, length-append (encode_utf8 c) r, length-encode c, (len_utf8_bounds c).0)) ∙ e)

  itself_sort : (c : ℕ) (r : List ℕ) → c ≢ q → c ≢ 92 → sort_at q (encode_utf8 c ++ r) ≡ 0
  itself_sort c r nq nb =
      let b = encode_utf8 c ++ r in
      chosen (get_or b 0 0) q 1 _ (not_byte c q r ascii nq) ∙ chosen (get_or b 0 0) 92 _ 0 (not_byte c 92 r (omega arith) nb)

  backslash : (d : ℕ) → part_sort q 92 d ≡ (if d == 120 then 3 else if d == 10 then 4 else 2)
  backslash d = chosen 92 q 1 _ (λ e. apart (sym e))

  letter_sort : (l c : ℕ) → meant_by l ≡ Some c → part_sort q 92 l ≡ 2
  letter_sort l c m = backslash l ∙ chosen l 120 3 _ (λ e. no_x (sym (ap meant_by e) ∙ m)) ∙ chosen l 10 4 2 (λ e. no_feed (sym (ap meant_by e) ∙ m))
    where
      no_x : meant_by 120 ≡ Some c → ⊥
      no_x e = cc

      no_feed : meant_by 10 ≡ Some c → ⊥
      no_feed e = cc

  pub begins : {bytes meant : List ℕ} (p : Part q bytes meant) (r : List ℕ) → sort_at q (bytes ++ r) ≡ sort_of p
  begins (itself c s nq nb e) r = ap (λ b. sort_at q (b ++ r)) e ∙ itself_sort c r nq nb
  begins (doubled e) r = ap (λ b. sort_at q (b ++ r)) e ∙ taken q 1 _
  begins (escape letter c m e) r = ap (λ b. sort_at q (b ++ r)) e ∙ letter_sort letter c m
  begins (code ds c h l k v s e) r = ap (λ b. sort_at q (b ++ r)) e ∙ backslash 120
  begins (continued e) r = ap (λ b. sort_at q (b ++ r)) e ∙ backslash 10

  pub part_length : {bytes meant : List ℕ} → Part q bytes meant → 1 ≤ length bytes
  part_length (itself c s nq nb e) = omega (arith, ap length e, length-encode c, (len_utf8_bounds c).0)
  part_length (doubled e) = omega (arith, ap length e)
  part_length (escape letter c m e) = omega (arith, ap length e)
  part_length (code ds c h l k v s e) = omega (arith, ap length e)
  part_length (continued e) = omega (arith, ap length e)

  -- the same bytes begin with one part, of one meaning
  abbrev pub SamePart : List ℕ → List ℕ → List ℕ → List ℕ → Type 0
  SamePart r s meant means = (r ≡ s) × (meant ≡ means)

  some_same : (c d : ℕ) → ◌≡◌ {A = Option ℕ} (Some c) (Some d) → c ≡ d
  some_same c d e = cc

  same_letter : (l k c d : ℕ) (r s : List ℕ) → meant_by l ≡ Some c → meant_by k ≡ Some d → ◌≡◌ {A = List ℕ} (92 ∷ l ∷ r) (92 ∷ k ∷ s) → SamePart r s (c ∷ []) (d ∷ [])
  same_letter l k c d r s m n e =
      let t = same_tail 92 92 (l ∷ r) (k ∷ s) e in
      (same_tail l k r s t, ap (λ x. x ∷ []) (some_same c d (sym m ∙ ap meant_by (same_head l k r s t) ∙ n)))

  same_code : (ds es : List ℕ) (c d : ℕ) (r s : List ℕ) → list_all is_ascii_hexdigit ds ≡ true → list_all is_ascii_hexdigit es ≡ true → c ≡ value_of 16 ds → d ≡ value_of 16 es
      → (92 ∷ 120 ∷ ds ++ 92 ∷ []) ++ r ≡ (92 ∷ 120 ∷ es ++ 92 ∷ []) ++ s → SamePart r s (c ∷ []) (d ∷ [])
  same_code ds es c d r s h g v w e =
      let t = same_tail 120 120 _ _ (same_tail 92 92 _ _ e) in
      let u = until is_ascii_hexdigit 92 ds es r s refl h g (sym (append_assoc ds (92 ∷ []) r) ∙ t ∙ append_assoc es (92 ∷ []) s) in
      (u.1, ap (λ x. x ∷ []) (v ∙ ap (value_of 16) u.0 ∙ sym w))

  same_parts : {a b m n : List ℕ} (p : Part q a m) (o : Part q b n) (r s : List ℕ) → sort_of p ≡ sort_of o → a ++ r ≡ b ++ s → SamePart r s m n
  same_parts (itself c x y z e) (itself d x' y' z' f) r s i w = let u = encode_same c d r s (sym (ap (λ x. x ++ r) e) ∙ w ∙ ap (λ x. x ++ s) f) in (u.1, ap (λ x. x ∷ []) u.0)
  same_parts (itself c x y z e) (doubled f) r s i w = absurd (omega (arith, i))
  same_parts (itself c x y z e) (escape k d n f) r s i w = absurd (omega (arith, i))
  same_parts (itself c x y z e) (code es d g x' y' u z' f) r s i w = absurd (omega (arith, i))
  same_parts (itself c x y z e) (continued f) r s i w = absurd (omega (arith, i))
  same_parts (doubled e) (itself d x' y' z' f) r s i w = absurd (omega (arith, i))
  same_parts (doubled e) (doubled f) r s i w = (same_tail q q r s (same_tail q q (q ∷ r) (q ∷ s) (sym (ap (λ x. x ++ r) e) ∙ w ∙ ap (λ x. x ++ s) f)), refl)
  same_parts (doubled e) (escape k d n f) r s i w = absurd (omega (arith, i))
  same_parts (doubled e) (code es d g x' y' u z' f) r s i w = absurd (omega (arith, i))
  same_parts (doubled e) (continued f) r s i w = absurd (omega (arith, i))
  same_parts (escape l c m e) (itself d x' y' z' f) r s i w = absurd (omega (arith, i))
  same_parts (escape l c m e) (doubled f) r s i w = absurd (omega (arith, i))
  same_parts (escape l c m e) (escape k d n f) r s i w = same_letter l k c d r s m n (sym (ap (λ x. x ++ r) e) ∙ w ∙ ap (λ x. x ++ s) f)
  same_parts (escape l c m e) (code es d g x' y' u z' f) r s i w = absurd (omega (arith, i))
  same_parts (escape l c m e) (continued f) r s i w = absurd (omega (arith, i))
  same_parts (code ds c h x y v z e) (itself d x' y' z' f) r s i w = absurd (omega (arith, i))
  same_parts (code ds c h x y v z e) (doubled f) r s i w = absurd (omega (arith, i))
  same_parts (code ds c h x y v z e) (escape k d n f) r s i w = absurd (omega (arith, i))
  same_parts (code ds c h x y v z e) (code es d g x' y' u z' f) r s i w = same_code ds es c d r s h g v u (sym (ap (λ x. x ++ r) e) ∙ w ∙ ap (λ x. x ++ s) f)
  same_parts (code ds c h x y v z e) (continued f) r s i w = absurd (omega (arith, i))
  same_parts (continued e) (itself d x' y' z' f) r s i w = absurd (omega (arith, i))
  same_parts (continued e) (doubled f) r s i w = absurd (omega (arith, i))
  same_parts (continued e) (escape k d n f) r s i w = absurd (omega (arith, i))
  same_parts (continued e) (code es d g x' y' u z' f) r s i w = absurd (omega (arith, i))
  same_parts (continued e) (continued f) r s i w = (same_tail 10 10 r s (same_tail 92 92 (10 ∷ r) (10 ∷ s) (sym (ap (λ x. x ++ r) e) ∙ w ∙ ap (λ x. x ++ s) f)), refl)

  pub one_part : {a b m n : List ℕ} (p : Part q a m) (o : Part q b n) (r s : List ℕ) → a ++ r ≡ b ++ s → SamePart r s m n
  one_part p o r s e = same_parts p o r s (sym (begins p r) ∙ ap (sort_at q) e ∙ begins o s) e

  pub not_nothing : {a m : List ℕ} → Part q a m → (r : List ℕ) → [] ≡ a ++ r → ⊥
  not_nothing {a = a} p r e = absurd (omega (arith, part_length p, ap length e, length-append a r))

  pub one_inside : {a b cs ds : List ℕ} → Inside q a cs → Inside q b ds → a ≡ b → cs ≡ ds
  one_inside empty empty e = refl
  one_inside empty (first part rest meant ds p i e d) w = absurd (not_nothing p rest (w ∙ e))
  one_inside (first part rest meant ds p i e d) empty w = absurd (not_nothing p rest (sym w ∙ e))
  one_inside (first part rest meant cs p i e c) (first part' rest' meant' ds p' i' e' d) w =
      let u = one_part p p' rest rest' (sym e ∙ w ∙ e') in
      c ∙ ap (λ x. x ++ cs) u.1 ∙ ap (λ x. meant' ++ x) (one_inside i i' u.0) ∙ sym d

-- between the same quotes stands one text
pub same_inside : (q : ℕ) (a b : List ℕ) → ◌≡◌ {A = List ℕ} (q ∷ a ++ q ∷ []) (q ∷ b ++ q ∷ []) → a ≡ b
same_inside q a b e = same_front a b (same_tail q q (a ++ q ∷ []) (b ++ q ∷ []) e)
  where
    no_more : (c : ℕ) (cs : List ℕ) (x : ℕ) → ◌≡◌ {A = List ℕ} (x ∷ []) (c ∷ cs ++ x ∷ []) → ⊥
    no_more c cs x e = absurd (omega (arith, ap length e, length-append cs (x ∷ [])))

    same_front : (a b : List ℕ) → a ++ q ∷ [] ≡ b ++ q ∷ [] → a ≡ b
    same_front [] [] e = refl
    same_front [] (d ∷ ds) e = absurd (no_more d ds q e)
    same_front (c ∷ cs) [] e = absurd (no_more c cs q (sym e))
    same_front (c ∷ cs) (d ∷ ds) e = ap (λ x. x ∷ cs) (same_head c d (cs ++ q ∷ []) (ds ++ q ∷ []) e) ∙ ap (λ x. d ∷ x) (same_front cs ds (same_tail c d (cs ++ q ∷ []) (ds ++ q ∷ []) e))

pub one_quoted : (bytes w v : List ℕ) → Form (quoted w) bytes → Form (quoted v) bytes → w ≡ v
one_quoted bytes w v f g = f.4 ∙ ap encode_utf8_all (one_inside 39 single_low single_apart f.3 g.3 (same_inside 39 f.0 g.0 (sym f.2 ∙ g.2))) ∙ sym g.4

pub one_text : (bytes cs ds : List ℕ) → Form (text cs) bytes → Form (text ds) bytes → cs ≡ ds
one_text bytes cs ds f g = one_inside 34 double_low double_apart f.2 g.2 (same_inside 34 f.0 g.0 (sym f.1 ∙ g.1))

-- the second byte of a number tells its kind
no_letter : (b : ℕ) (ds rest : List ℕ) → is_ascii_digit b ≡ false → list_all is_ascii_digit ds ≡ true → ds ≡ 48 ∷ b ∷ rest → ⊥
no_letter b ds rest n a e = true≢false (sym (and_parts _ _ (and_parts (is_ascii_digit 48) _ (sym (ap (list_all is_ascii_digit) e) ∙ a)).1).0 ∙ n)

no_quote : (ds part : List ℕ) → ◌≡◌ {A = List ℕ} (48 ∷ 120 ∷ ds) (48 ∷ 39 ∷ part) → ⊥
no_quote ds part e = absurd (omega (arith, same_head 120 39 ds part (same_tail 48 48 (120 ∷ ds) (39 ∷ part) e)))

same_one : (n m : ℕ) → ◌≡◌ {A = List ℕ} (n ∷ []) (m ∷ []) → n ≡ m
same_one n m e = cc

pub one_number : (bytes : List ℕ) (n m : ℕ) → IsNumber bytes n → IsNumber bytes m → n ≡ m
one_number bytes n m (decimal d l e) (decimal d' l' f) = e ∙ sym f
one_number bytes n m (decimal d l e) (hexadecimal ds h k f g) = absurd (no_letter 120 bytes ds refl d f)
one_number bytes n m (decimal d l e) (character part p f) = absurd (no_letter 39 bytes part refl d f)
one_number bytes n m (hexadecimal ds h k f g) (decimal d l e) = absurd (no_letter 120 bytes ds refl d f)
one_number bytes n m (hexadecimal ds h k f g) (hexadecimal es h' k' f' g') = g ∙ ap (value_of 16) (same_tail 120 120 ds es (same_tail 48 48 (120 ∷ ds) (120 ∷ es) (sym f ∙ f'))) ∙ sym g'
one_number bytes n m (hexadecimal ds h k f g) (character part p e) = absurd (no_quote ds part (sym f ∙ e))
one_number bytes n m (character part p f) (decimal d l e) = absurd (no_letter 39 bytes part refl d f)
one_number bytes n m (character part p e) (hexadecimal ds h k f g) = absurd (no_quote ds part (sym f ∙ e))
one_number bytes n m (character part p f) (character part' p' f') =
    let same = same_tail 39 39 part part' (same_tail 48 48 (39 ∷ part) (39 ∷ part') (sym f ∙ f')) in
    same_one n m (one_part 39 single_low single_apart p p' [] [] (ap (λ x. x ++ []) same)).1
