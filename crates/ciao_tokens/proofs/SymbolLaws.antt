-- Runs of symbol characters: names and the `.` that ends a sentence.
use Rattle.std.proofs.Common.{◌≡◌, ℕ, Bool, true, false, List, [], ◌∷◌, ◌++◌, length, refl, sym, ap, subst, ◌∙◌, inl, inr, append_assoc}
use Rattle.std.proofs.lemmas.Bool.{or_left, or_right, and_parts, and_from}
use Rattle.std.specs.Prelude.{◌==◌, ◌||◌, ◌&&◌, not, codes}
use Rattle.std.specs.List.{list_all}
use Rattle.std.specs.Char.{is_ascii}
use Rattle.term_core.specs.Characters.{is_symbol, is_point, opens_comment}
use Rattle.ciao_tokens.specs.Layout.{is_layout, is_block_comment, is_blank}
use Rattle.ciao_tokens.specs.Forms.{Shape, name, stop, Form, stands, ends_or_starts}
use Rattle.ciao_tokens.specs.Pieces.{token, IsStuck}
use Rattle.ciao_tokens.specs.declared.classes.Class.TheVariants as class
use Rattle.ciao_tokens.specs.Classes.{class_of}
use Rattle.ciao_tokens.specs.Scanning.{Begins, IsFirst, run, behind_run}
use Rattle.ciao_tokens.proofs.Ascii.{passes_ascii}
use Rattle.ciao_tokens.proofs.ByteClasses.{any_is, is_eq}
use Rattle.ciao_tokens.proofs.FirstBytes.{TokenBy, token_by}
use Rattle.ciao_tokens.proofs.Longest.{NoLonger, token_first, stuck_front}
use Rattle.ciao_tokens.proofs.OneByteLaws.{no_more}
use Rattle.ciao_tokens.proofs.Runs.{run_one, run_passes, run_behind, no_further}
use Rattle.ciao_tokens.proofs.WordLaws.{says, none_longer}

-- what opens a comment does so with more behind it
opens_more : (xs ys : List ℕ) → opens_comment xs ≡ true → opens_comment (xs ++ ys) ≡ true
opens_more [] ys e = cc
opens_more (c ∷ []) ys e = cc
opens_more (c ∷ d ∷ cs) ys e = e

block_opens : (xs : List ℕ) → is_block_comment xs ≡ true → opens_comment xs ≡ true
block_opens [] e = cc
block_opens (c ∷ []) e = cc
block_opens (c ∷ d ∷ cs) e = (and_parts (c == 47 && d == 42) _ e).0

module _ (c : ℕ) (cs : List ℕ) (begins : class_of c ≡ class.Symbol) (no_comment : opens_comment (c ∷ cs) ≡ false) where
  abbrev xs : List ℕ
  xs = run is_symbol cs

  abbrev after : List ℕ
  after = behind_run is_symbol (c ∷ cs)

  passes : is_symbol c ≡ true
  passes = says c class.Symbol begins

  whole : c ∷ cs ≡ (c ∷ xs) ++ after
  whole = sym (run_behind is_symbol (c ∷ cs)) ∙ ap (λ w. w ++ after) (run_one is_symbol c cs passes)

  no_token : (s : Shape) (b : ℕ) (more later : List ℕ) → after ≡ b ∷ (more ++ later) → TokenBy class.Symbol s c (xs ++ b ∷ more) → ⊥
  no_token s b more later e (inl (f, g)) = no_further is_symbol (c ∷ cs) (c ∷ xs) more later b e (and_parts (list_all is_symbol (c ∷ (xs ++ b ∷ more))) _ g).0
  no_token s b more later e (inr (f, g)) = no_more xs b more g

  no_block : (b : ℕ) (more later : List ℕ) → after ≡ b ∷ (more ++ later) → is_block_comment (c ∷ (xs ++ b ∷ more)) ≡ true → ⊥
  no_block b more later e f =
      let g : opens_comment ((c ∷ (xs ++ b ∷ more)) ++ later) ≡ true = opens_more (c ∷ (xs ++ b ∷ more)) later (block_opens (c ∷ (xs ++ b ∷ more)) f) in
      let h : c ∷ cs ≡ (c ∷ (xs ++ b ∷ more)) ++ later = whole ∙ ap (λ r. (c ∷ xs) ++ r) e ∙ ap (λ r. c ∷ r) (sym (append_assoc xs (b ∷ more) later)) in
      let k : false ≡ true = sym no_comment ∙ ap opens_comment h ∙ g in cc

  alone : NoLonger (c ∷ xs) after
  alone = none_longer class.Symbol c xs after begins no_token no_block

  all : list_all is_symbol (c ∷ xs) ≡ true
  all = and_from (is_symbol c) _ passes (run_passes is_symbol cs)

  no_front : opens_comment (c ∷ xs) ≡ false
  no_front = by (opens_comment (c ∷ xs)) refl
    where
      by : (b : Bool) → opens_comment (c ∷ xs) ≡ b → b ≡ false
      by false e = refl
      by true e = let k : false ≡ true = sym no_comment ∙ ap opens_comment whole ∙ opens_more (c ∷ xs) after e in cc

  -- a run that is no `.` is a name
  pub run_first : is_point (c ∷ xs) ≡ false → IsFirst (token (length (c ∷ xs)) (name (c ∷ xs))) (c ∷ cs) after
  run_first e = token_first (name (c ∷ xs)) (c ∷ xs) after (c ∷ cs) whole
      (refl, or_right _ _ (or_left _ _ (and_from _ _ all (and_from _ _ (ap not e) (ap not no_front))))) alone (ap (λ w. not (opens_comment w)) (sym whole) ∙ ap not no_comment)

  point_is : is_point (c ∷ xs) ≡ true → c ∷ xs ≡ 46 ∷ []
  point_is = by xs
    where
      by : (ys : List ℕ) → is_point (c ∷ ys) ≡ true → c ∷ ys ≡ 46 ∷ []
      by [] e = ap (λ x. x ∷ []) (is_eq c 46 e)
      by (y ∷ ys) e = cc

  -- a `.` before layout or the end is the first piece
  pub stop_first : is_point (c ∷ xs) ≡ true → ends_or_starts (λ d. is_blank d || d == 37) after ≡ true → IsFirst (token (length (c ∷ xs)) stop) (c ∷ cs) after
  stop_first e f = token_first stop (c ∷ xs) after (c ∷ cs) whole (point_is e) alone f

  -- before anything else nothing stands there
  pub stop_stuck : is_point (c ∷ xs) ≡ true → ends_or_starts (λ d. is_blank d || d == 37) after ≡ false → IsStuck (c ∷ cs)
  stop_stuck e f = stuck_front (c ∷ xs) after (c ∷ cs) whole (λ g. cc) (inr (stop, point_is e)) alone none no_layout
    where
      at_point : (s : Shape) → TokenBy class.Symbol s 46 [] → stands s (46 ∷ []) after ≡ true → ⊥
      at_point s (inl (g, h)) may = cc
      at_point s (inr (g, h)) may = let k : false ≡ true = sym f ∙ sym (ap (λ x. stands x (46 ∷ []) after) g) ∙ may in cc

      none : (s : Shape) → Form s (c ∷ xs) → stands s (c ∷ xs) after ≡ true → ⊥
      none s form may =
          at_point s (token_by s 46 [] (subst (Form s) (point_is e) form)) (ap (λ w. stands s w after) (sym (point_is e)) ∙ may)

      no_layout : is_layout (c ∷ xs) ≡ true → ⊥
      no_layout g = let h : is_layout (46 ∷ []) ≡ true = ap is_layout (sym (point_is e)) ∙ g in cc

-- for the code

symbol_ascii_one : (c : ℕ) → is_symbol c ≡ true → is_ascii c ≡ true
symbol_ascii_one c e = any_is (λ x. is_ascii x ≡ true) c (codes "+-*/\\^<>=~:.?@#&$") (refl, (refl, (refl, (refl, (refl, (refl, (refl, (refl, (refl, (refl, (refl, (refl, (refl, (refl, (refl, (refl, (refl, tt))))))))))))))))) e

-- symbol characters are ASCII
pub symbol_ascii : (left : List ℕ) → list_all is_ascii (run is_symbol left) ≡ true
symbol_ascii left = passes_ascii is_symbol (run is_symbol left) symbol_ascii_one (run_passes is_symbol left)

-- what the code has of a run: its bytes and those behind them
pub record Runs (left word behind : List ℕ) : Type 0 where
  pub begins : Begins class.Symbol left
  pub no_comment : opens_comment left ≡ false
  pub word_is : word ≡ run is_symbol left
  pub behind_is : behind ≡ behind_run is_symbol left

run_is_word : (c : ℕ) (cs word : List ℕ) → class_of c ≡ class.Symbol → word ≡ run is_symbol (c ∷ cs) → word ≡ c ∷ run is_symbol cs
run_is_word c cs word e f = f ∙ run_one is_symbol c cs (says c class.Symbol e)

pub run_found : (left word behind : List ℕ) → Runs left word behind → is_point word ≡ false → (n : ℕ) × IsFirst (token n (name word)) left behind
run_found [] word behind r e = absurd r.begins
run_found (c ∷ cs) word behind r e =
    let w = run_is_word c cs word r.begins r.word_is in (
      _,
      subst (λ b. IsFirst (token (length (c ∷ run is_symbol cs)) (name word)) (c ∷ cs) b) (sym r.behind_is)
          (subst (λ x. IsFirst (token (length (c ∷ run is_symbol cs)) (name x)) (c ∷ cs) (behind_run is_symbol (c ∷ cs))) (sym w)
          (run_first c cs r.begins r.no_comment (ap is_point (sym w) ∙ e))),
    )

pub stop_found : (left word behind : List ℕ) → Runs left word behind → is_point word ≡ true → ends_or_starts (λ d. is_blank d || d == 37) behind ≡ true → (n : ℕ) × IsFirst (token n stop) left behind
stop_found [] word behind r e f = absurd r.begins
stop_found (c ∷ cs) word behind r e f =
    let w = run_is_word c cs word r.begins r.word_is in (
      _,
      subst (λ b. IsFirst (token (length (c ∷ run is_symbol cs)) stop) (c ∷ cs) b) (sym r.behind_is)
          (stop_first c cs r.begins r.no_comment (ap is_point (sym w) ∙ e) (ap (ends_or_starts (λ d. is_blank d || d == 37)) (sym r.behind_is) ∙ f)),
    )

pub nothing_found : (left word behind : List ℕ) → Runs left word behind → is_point word ≡ true → ends_or_starts (λ d. is_blank d || d == 37) behind ≡ false → IsStuck left
nothing_found [] word behind r e f = absurd r.begins
nothing_found (c ∷ cs) word behind r e f =
    let w = run_is_word c cs word r.begins r.word_is in
    stop_stuck c cs r.begins r.no_comment (ap is_point (sym w) ∙ e) (ap (ends_or_starts (λ d. is_blank d || d == 37)) (sym r.behind_is) ∙ f)
