-- Comments.
use Rattle.std.proofs.Common.{◌≡◌, ◌<◌, ◌≤◌, ℕ, zero, suc, ◌+◌, ◌-◌, Bool, true, false, cond, List, [], ◌∷◌, ◌++◌, length, take, drop, refl, sym, ap, subst, ◌∙◌, arith, inl, inr, length-append, append_assoc}
use Rattle.std.proofs.lemmas.Bool.{or_left, or_right, and_parts}
use Rattle.std.proofs.lemmas.List.{take-append-drop}
use Rattle.std.proofs.lemmas.Str.{IsCharBoundary-after_ascii}
use Rattle.std.specs.Char.{is_ascii}
use Rattle.std.specs.Str.{IsCharBoundary}
use Rattle.std.specs.Prelude.{IsUtf8, ◌==◌, ◌&&◌, not, option_map, Option, Some, None, if◌then◌else◌}
use Rattle.std.specs.List.{list_all, prefix_len, slice_index}
use Rattle.term_core.specs.Characters.{is_symbol, is_point, opens_comment}
use Rattle.ciao_tokens.specs.Layout.{is_layout, is_empty, closes_comment}
use Rattle.ciao_tokens.specs.Forms.{Shape, stop, Form, stands, starts}
use Rattle.ciao_tokens.specs.Pieces.{layout, IsStuck}
use Rattle.ciao_tokens.specs.declared.classes.Class.TheVariants as class
use Rattle.ciao_tokens.specs.Scanning.{Begins, IsFirst, run, behind_run, in_line, comment_size}
use Rattle.ciao_tokens.proofs.ByteClasses.{is_eq}
use Rattle.ciao_tokens.proofs.FirstBytes.{TokenBy, token_by, layout_by}
use Rattle.ciao_tokens.proofs.Bytes.{same_head, same_tail}
use Rattle.ciao_tokens.proofs.Longest.{layout_first, stuck_any}
use Rattle.ciao_tokens.proofs.Runs.{run_one, run_passes, run_behind, no_further}
use Rattle.ciao_tokens.proofs.WordLaws.{says, none_longer}

-- to the line's end

line_word : (cs : List ℕ) → run in_line (37 ∷ cs) ≡ 37 ∷ run in_line cs
line_word cs = run_one in_line 37 cs refl

line_from : (cs : List ℕ) → 37 ∷ cs ≡ (37 ∷ run in_line cs) ++ behind_run in_line (37 ∷ cs)
line_from cs = sym (run_behind in_line (37 ∷ cs)) ∙ ap (λ w. w ++ behind_run in_line (37 ∷ cs)) (line_word cs)

at_percent : (cs : List ℕ) → (n : ℕ) × IsFirst (layout n) (37 ∷ cs) (behind_run in_line (37 ∷ cs))
at_percent cs = (
  _,
  layout_first (37 ∷ run in_line cs) _ (37 ∷ cs) (line_from cs) (or_right _ _ (or_left _ _ (run_passes in_line cs)))
      (none_longer class.Percent 37 (run in_line cs) _ refl (λ s b more later behind t. t) (λ b more later behind t. no_further in_line (37 ∷ cs) (run in_line cs) more later b behind t)),
)

-- a comment to the line's end is the first piece
pub line_first : (left behind : List ℕ) → Begins class.Percent left → behind ≡ behind_run in_line left → (n : ℕ) × IsFirst (layout n) left behind
line_first [] behind b e = absurd b
line_first (c ∷ cs) behind b e =
    subst (λ r. (n : ℕ) × IsFirst (layout n) (c ∷ cs) r) (sym e)
    (subst (λ x. (n : ℕ) × IsFirst (layout n) (x ∷ cs) (behind_run in_line (x ∷ cs))) (sym (says c class.Percent b)) (at_percent cs))

-- up to `*/`

-- what closes a comment has its size
pub sized : (xs behind : List ℕ) → closes_comment xs ≡ true → comment_size (xs ++ behind) ≡ Some (length xs)
sized [] behind e = cc
sized (c ∷ []) behind e = cc
sized (c ∷ d ∷ cs) behind e = by (c == 42 && d == 47) refl e (sized (d ∷ cs) behind)
  where
    no_rest : (ys : List ℕ) → is_empty ys ≡ true → Some 2 ≡ Some (length (c ∷ d ∷ ys))
    no_rest [] e = refl
    no_rest (y ∷ ys) e = cc

    by : (b : Bool) → b ≡ (c == 42 && d == 47) → (if b then is_empty cs else closes_comment (d ∷ cs)) ≡ true →
        (closes_comment (d ∷ cs) ≡ true → comment_size ((d ∷ cs) ++ behind) ≡ Some (length (d ∷ cs))) →
        (if b then Some 2 else option_map (λ n. suc n) (comment_size ((d ∷ cs) ++ behind))) ≡ Some (length (c ∷ d ∷ cs))
    by true g f r = no_rest cs f
    by false g f r = ap (option_map (λ n. suc n)) (r f)

-- a front of the size closes the comment
pub record Closes (bytes : List ℕ) (n : ℕ) : Type 0 where
  pub within : n ≤ length bytes
  pub closes : closes_comment (take n bytes) ≡ true
  pub last : slice_index bytes (n - 1) ≡ 47
  pub some : 2 ≤ n

-- one byte before
later_close : (c d : ℕ) (cs : List ℕ) (k : ℕ) → (c == 42 && d == 47) ≡ false → Closes (d ∷ cs) k → Closes (c ∷ d ∷ cs) (suc k)
later_close c d cs zero g r = absurd (omega (arith, r.some))
later_close c d cs (suc k) g r = record {
  within = omega (arith, r.within);
  closes = ap (λ b. if b then is_empty (take k cs) else closes_comment (d ∷ take k cs)) g ∙ r.closes;
  last = ap (λ n. slice_index (c ∷ d ∷ cs) n) at ∙ ap (λ n. slice_index (d ∷ cs) n) before ∙ r.last;
  some = omega (arith, r.some);
}
  where
    at : suc (suc k) - 1 ≡ suc k
    at = omega arith

    before : k ≡ suc k - 1
    before = omega arith

pub closing : (bytes : List ℕ) (n : ℕ) → comment_size bytes ≡ Some n → Closes bytes n
closing [] n e = cc
closing (c ∷ []) n e = by (c == 42) e
  where
    by : (b : Bool) → (if b && false then Some 2 else None) ≡ Some n → Closes (c ∷ []) n
    by true e = cc
    by false e = cc
closing (c ∷ d ∷ cs) n e = by (c == 42 && d == 47) refl e (closing (d ∷ cs))
  where
    two : (c == 42 && d == 47) ≡ true → Some 2 ≡ Some n → Closes (c ∷ d ∷ cs) n
    two g e = subst (Closes (c ∷ d ∷ cs)) (same_number 2 n e) (record {
      within = omega arith;
      closes = ap (λ b. if b then true else closes_comment (d ∷ [])) g;
      last = is_eq d 47 (and_parts (c == 42) _ g).1;
      some = omega arith;
    })
      where
        same_number : (n m : ℕ) → Some n ≡ Some m → n ≡ m
        same_number n m e = cc

    more : (o : Option ℕ) → o ≡ comment_size (d ∷ cs) → (c == 42 && d == 47) ≡ false → option_map (λ n. suc n) o ≡ Some n → ((k : ℕ) → comment_size (d ∷ cs) ≡ Some k → Closes (d ∷ cs) k) → Closes (c ∷ d ∷ cs) n
    more None h g e r = cc
    more (Some k) h g e r = subst (Closes (c ∷ d ∷ cs)) (same_number (suc k) n e) (later_close c d cs k g (r k (sym h)))
      where
        same_number : (n m : ℕ) → Some n ≡ Some m → n ≡ m
        same_number n m e = cc

    by : (b : Bool) → (c == 42 && d == 47) ≡ b → (if b then Some 2 else option_map (λ n. suc n) (comment_size (d ∷ cs))) ≡ Some n → ((k : ℕ) → comment_size (d ∷ cs) ≡ Some k → Closes (d ∷ cs) k) → Closes (c ∷ d ∷ cs) n
    by true g e r = two g e
    by false g e r = more (comment_size (d ∷ cs)) refl g e r

-- a text that begins with `/*`
pub comment_inside : (left : List ℕ) → opens_comment left ≡ true → left ≡ 47 ∷ 42 ∷ drop 2 left
comment_inside [] e = cc
comment_inside (c ∷ []) e = cc
comment_inside (c ∷ d ∷ cs) e = let p = and_parts (c == 47) _ e in ap (λ x. x ∷ d ∷ cs) (is_eq c 47 p.0) ∙ ap (λ x. 47 ∷ x ∷ cs) (is_eq d 42 p.1)

-- no name and no `.` begins with `/*`
no_name : (s : Shape) (cs : List ℕ) → TokenBy class.Symbol s 47 (42 ∷ cs) → ⊥
no_name s cs (inl (e, f)) = let p = (and_parts (not (is_point (47 ∷ 42 ∷ cs))) _ (and_parts (list_all is_symbol (47 ∷ 42 ∷ cs)) _ f).1).1 in cc
no_name s cs (inr (e, f)) = cc

-- what closes a comment does not go on
no_later : (xs : List ℕ) (b : ℕ) (more : List ℕ) → closes_comment xs ≡ true → closes_comment (xs ++ b ∷ more) ≡ true → ⊥
no_later xs b more e f = absurd (omega (arith, length-append xs (b ∷ more), same_number _ _ (sym (sized (xs ++ b ∷ more) [] f) ∙ ap comment_size (append_assoc xs (b ∷ more) []) ∙ sized xs ((b ∷ more) ++ []) e)))
  where
    same_number : (n m : ℕ) → Some n ≡ Some m → n ≡ m
    same_number n m e = cc

-- a comment that is closed is the first piece
pub block_first : (cs : List ℕ) (n : ℕ) → comment_size cs ≡ Some n → (m : ℕ) × IsFirst (layout m) (47 ∷ 42 ∷ cs) (drop n cs)
block_first cs n e = (
  _,
  layout_first (47 ∷ 42 ∷ take n cs) (drop n cs) (47 ∷ 42 ∷ cs) (ap (λ w. 47 ∷ 42 ∷ w) (sym (take-append-drop n cs))) (closing cs n e).closes
      (none_longer class.Symbol 47 (42 ∷ take n cs) (drop n cs) refl (λ s b more later behind t. no_name s (take n cs ++ b ∷ more) t) (λ b more later behind t. no_later (take n cs) b more (closing cs n e).closes t)),
)

-- where a comment is not closed nothing stands
pub block_stuck : (cs : List ℕ) → comment_size cs ≡ None → IsStuck (47 ∷ 42 ∷ cs)
block_stuck cs e = stuck_any 47 (42 ∷ cs) no_token no_layout
  where
    at_token : (s : Shape) (xs behind : List ℕ) → 42 ∷ cs ≡ xs ++ behind → TokenBy class.Symbol s 47 xs → stands s (47 ∷ xs) behind ≡ true → ⊥
    at_token s [] behind whole (inl (e, f)) may =
        let g : not (opens_comment (47 ∷ behind)) ≡ true = sym (ap (λ x. stands x (47 ∷ []) behind) e) ∙ may in
        let h : not (opens_comment (47 ∷ 42 ∷ cs)) ≡ true = ap (λ x. not (opens_comment (47 ∷ x))) whole ∙ g in cc
    at_token s [] behind whole (inr (e, f)) may =
        let g : stands stop (47 ∷ []) behind ≡ true = sym (ap (λ x. stands x (47 ∷ []) behind) e) ∙ may in
        let h : stands stop (47 ∷ []) (42 ∷ cs) ≡ true = ap (stands stop (47 ∷ [])) whole ∙ g in cc
    at_token s (x ∷ xs) behind whole t may = no_name s xs (subst (λ y. TokenBy class.Symbol s 47 (y ∷ xs)) (sym (same_head 42 x cs (xs ++ behind) whole)) t)

    no_token : (s : Shape) (xs behind : List ℕ) → 42 ∷ cs ≡ xs ++ behind → Form s (47 ∷ xs) → stands s (47 ∷ xs) behind ≡ true → ⊥
    no_token s xs behind whole f may = at_token s xs behind whole (token_by s 47 xs f) may

    no_layout : (xs behind : List ℕ) → 42 ∷ cs ≡ xs ++ behind → is_layout (47 ∷ xs) ≡ true → ⊥
    no_layout [] behind whole f = cc
    no_layout (x ∷ xs) behind whole f =
        let g = layout_by 47 (x ∷ xs) f in
        let h = (and_parts (47 == 47 && x == 42) _ g).1 in
        let k : None ≡ Some (length xs) = sym e ∙ ap comment_size (same_tail 42 x cs (xs ++ behind) whole) ∙ sized xs behind h in cc

-- for the code

pub block_found : (left inside behind : List ℕ) (n : ℕ) → opens_comment left ≡ true → inside ≡ drop 2 left → comment_size inside ≡ Some n → behind ≡ drop n inside → (m : ℕ) × IsFirst (layout m) left behind
block_found left inside behind n opens e f g =
    subst (λ l. (m : ℕ) × IsFirst (layout m) l behind) (sym (comment_inside left opens ∙ ap (λ r. 47 ∷ 42 ∷ r) (sym e)))
    (subst (λ r. (m : ℕ) × IsFirst (layout m) (47 ∷ 42 ∷ inside) r) (sym g) (block_first inside n f))

pub block_open : (left inside : List ℕ) → opens_comment left ≡ true → inside ≡ drop 2 left → comment_size inside ≡ None → IsStuck left
block_open left inside opens e f = subst IsStuck (sym (comment_inside left opens ∙ ap (λ r. 47 ∷ 42 ∷ r) (sym e))) (block_stuck inside f)

-- `/*` is ASCII
pub opening_ascii : (left : List ℕ) → opens_comment left ≡ true → list_all is_ascii (take 2 left) ≡ true
opening_ascii left e = ap (λ l. list_all is_ascii (take 2 l)) (comment_inside left e)

pub opening_within : (left : List ℕ) → opens_comment left ≡ true → 2 ≤ length left
opening_within left e = omega (arith, ap length (comment_inside left e))

-- behind a slash begins a character
pub slash_boundary : (bytes : List ℕ) (n : ℕ) → IsUtf8 bytes → comment_size bytes ≡ Some n → IsCharBoundary bytes n
slash_boundary bytes n utf8 e =
    let r = closing bytes n e in
    subst (IsCharBoundary bytes) (again n r.some) (IsCharBoundary-after_ascii bytes (n - 1) utf8 (omega (arith, r.within, r.some)) (omega (arith, r.last)))
  where
    again : (n : ℕ) → 2 ≤ n → n - 1 + 1 ≡ n
    again n l = omega (arith, l)

line_end : (bytes : List ℕ) → prefix_len in_line bytes < length bytes → slice_index bytes (prefix_len in_line bytes) ≡ 10
line_end [] l = absurd (omega (arith, l))
line_end (c ∷ cs) l = by (c == 10) refl l (line_end cs)
  where
    next : (n : ℕ) → slice_index cs n ≡ 10 → slice_index (c ∷ cs) (1 + n) ≡ 10
    next n e = ap (slice_index (c ∷ cs)) (one_more n) ∙ e
      where
        one_more : (n : ℕ) → 1 + n ≡ suc n
        one_more n = omega arith

    by : (b : Bool) → (c == 10) ≡ b → cond (not b) (1 + prefix_len in_line cs) 0 < length (c ∷ cs) → (prefix_len in_line cs < length cs → slice_index cs (prefix_len in_line cs) ≡ 10) →
        slice_index (c ∷ cs) (cond (not b) (1 + prefix_len in_line cs) 0) ≡ 10
    by true e l r = is_eq c 10 e
    by false e l r = next (prefix_len in_line cs) (r (omega (arith, l)))

-- a line feed or the end comes behind a line
pub line_boundary : (bytes : List ℕ) (n : ℕ) → n ≡ prefix_len in_line bytes → n ≤ length bytes → IsCharBoundary bytes n
line_boundary bytes n e l = (l, λ m h. absurd (omega (arith, h, ap (slice_index bytes) e ∙ line_end bytes (omega (arith, m, e)))))

-- a slash behind a star is found
pub found_here : (size : ℕ) (c : ℕ) (cs : List ℕ) (o : Option ℕ) → (c == 42 && starts (λ d. d == 47) cs) ≡ true → option_map (λ n. size + n) (comment_size (c ∷ cs)) ≡ o → Some (size + 2) ≡ o
found_here size c cs o e f = ap (λ b. option_map (λ n. size + n) (if b then Some 2 else option_map (λ n. suc n) (comment_size cs))) (sym e) ∙ f

-- where it is not, the search goes on
pub not_here : (size : ℕ) (c : ℕ) (cs : List ℕ) (o : Option ℕ) → (c == 42 && starts (λ d. d == 47) cs) ≡ false → option_map (λ n. size + n) (comment_size (c ∷ cs)) ≡ o → option_map (λ n. (size + 1) + n) (comment_size cs) ≡ o
not_here size c cs o e f = by (comment_size cs) ∙ ap (λ b. option_map (λ n. size + n) (if b then Some 2 else option_map (λ n. suc n) (comment_size cs))) (sym e) ∙ f
  where
    by : (m : Option ℕ) → option_map (λ n. (size + 1) + n) m ≡ option_map (λ n. size + n) (option_map (λ n. suc n) m)
    by None = refl
    by (Some n) = ap (λ x. Some x) (omega arith)
