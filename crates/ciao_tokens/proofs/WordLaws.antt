-- Names of letters, and variables.
use Rattle.std.proofs.Common.{◌≡◌, ℕ, true, List, [], ◌∷◌, ◌++◌, length, refl, sym, ap, subst, ◌∙◌, arith, inl, inr}
use Rattle.std.proofs.lemmas.Bool.{and_from, or_left}
use Rattle.std.proofs.lemmas.Bool.Decides.{nat_tests}
use Rattle.std.specs.Prelude.{◌==◌, ◌||◌, not}
use Rattle.std.specs.List.{list_all}
use Rattle.std.specs.Char.{is_ascii, is_ascii_lowercase, is_ascii_uppercase}
use Rattle.term_core.specs.Characters.{is_word_part, opens_comment}
use Rattle.ciao_tokens.specs.Forms.{Shape, name, variable}
use Rattle.ciao_tokens.specs.Pieces.{token}
use Rattle.ciao_tokens.specs.declared.classes.Class.{Class}
use Rattle.ciao_tokens.specs.declared.classes.Class.TheVariants as class
use Rattle.ciao_tokens.specs.Classes.{class_of}
use Rattle.ciao_tokens.specs.Scanning.{Begins, IsFirst, run, behind_run}
use Rattle.ciao_tokens.proofs.ByteClasses.{Says, class_says}
use Rattle.ciao_tokens.proofs.FirstBytes.{TokenBy, LayoutBy, token_by, layout_by}
use Rattle.ciao_tokens.proofs.Longest.{NoLonger, token_first}
use Rattle.ciao_tokens.proofs.Runs.{run_one, run_passes, run_behind, no_further}
use Rattle.ciao_tokens.proofs.Ascii.{passes_ascii}

-- a byte says what its class says
pub says : (c : ℕ) (k : Class) → class_of c ≡ k → Says c k
says c k e = subst (Says c) e (class_says c)

-- no token and no layout that begins with a byte of this class goes on
pub none_longer : (k : Class) (c : ℕ) (xs behind : List ℕ) → class_of c ≡ k →
    ((s : Shape) (b : ℕ) (more later : List ℕ) → behind ≡ b ∷ (more ++ later) → TokenBy k s c (xs ++ b ∷ more) → ⊥) →
    ((b : ℕ) (more later : List ℕ) → behind ≡ b ∷ (more ++ later) → LayoutBy k c (xs ++ b ∷ more) → ⊥) → NoLonger (c ∷ xs) behind
none_longer k c xs behind is no_token no_layout b more later e (inl f) = no_layout b more later e (subst (λ x. LayoutBy x c (xs ++ b ∷ more)) is (layout_by c (xs ++ b ∷ more) f))
none_longer k c xs behind is no_token no_layout b more later e (inr (s, f)) = no_token s b more later e (subst (λ x. TokenBy x s c (xs ++ b ∷ more)) is (token_by s c (xs ++ b ∷ more) f))

lower_part : (c : ℕ) → is_ascii_lowercase c ≡ true → is_word_part c ≡ true
lower_part c e = grind (arith, nat_tests)

upper_part : (c : ℕ) → (is_ascii_uppercase c || c == 95) ≡ true → is_word_part c ≡ true
upper_part c e = grind (arith, nat_tests)

-- a run of words that a byte of words begins
word_from : (c : ℕ) (cs : List ℕ) → is_word_part c ≡ true → c ∷ cs ≡ (c ∷ run is_word_part cs) ++ behind_run is_word_part (c ∷ cs)
word_from c cs e = sym (run_behind is_word_part (c ∷ cs)) ∙ ap (λ w. w ++ behind_run is_word_part (c ∷ cs)) (run_one is_word_part c cs e)

no_slash : (c : ℕ) (cs : List ℕ) → is_ascii_lowercase c ≡ true → not (opens_comment (c ∷ cs)) ≡ true
no_slash c [] e = refl
no_slash c (d ∷ ds) e = grind (arith, nat_tests)

-- a word and what stands behind it, by another name
pub renamed : (P : List ℕ → List ℕ → Type 0) (word word' behind behind' : List ℕ) → word' ≡ word → behind' ≡ behind → P word behind → P word' behind'
renamed P word word' behind behind' e f p = subst (λ b. P word' b) (sym f) (subst (λ w. P w behind) (sym e) p)

-- the name that a lower-case letter begins
name_first : (left : List ℕ) → Begins class.Lower left → (n : ℕ) × IsFirst (token n (name (run is_word_part left))) left (behind_run is_word_part left)
name_first [] e = absurd e
name_first (c ∷ cs) e = (
  _,
  subst (λ w. IsFirst (token (length (c ∷ run is_word_part cs)) (name w)) (c ∷ cs) (behind_run is_word_part (c ∷ cs))) (sym word)
      (token_first (name (c ∷ run is_word_part cs)) (c ∷ run is_word_part cs) _ (c ∷ cs) (word_from c cs part)
      (refl, or_left _ _ (and_from (is_ascii_lowercase c) _ lower (run_passes is_word_part cs)))
      (none_longer class.Lower c (run is_word_part cs) _ e (λ s b more later behind t. no_further is_word_part (c ∷ cs) (run is_word_part cs) more later b behind t.1) (λ b more later behind t. t))
      (no_slash c (run is_word_part cs ++ behind_run is_word_part (c ∷ cs)) lower)),
)
  where
    lower : is_ascii_lowercase c ≡ true
    lower = says c class.Lower e

    part : is_word_part c ≡ true
    part = lower_part c lower

    word : run is_word_part (c ∷ cs) ≡ c ∷ run is_word_part cs
    word = run_one is_word_part c cs part

-- the variable that an upper-case letter or `_` begins
variable_first : (left : List ℕ) → Begins class.Upper left → (n : ℕ) × IsFirst (token n (variable (run is_word_part left))) left (behind_run is_word_part left)
variable_first [] e = absurd e
variable_first (c ∷ cs) e = (
  _,
  subst (λ w. IsFirst (token (length (c ∷ run is_word_part cs)) (variable w)) (c ∷ cs) (behind_run is_word_part (c ∷ cs))) (sym word)
      (token_first (variable (c ∷ run is_word_part cs)) (c ∷ run is_word_part cs) _ (c ∷ cs) (word_from c cs part)
      (refl, and_from (is_ascii_uppercase c || c == 95) _ upper (run_passes is_word_part cs))
      (none_longer class.Upper c (run is_word_part cs) _ e (λ s b more later behind t. no_further is_word_part (c ∷ cs) (run is_word_part cs) more later b behind t.1) (λ b more later behind t. t))
      refl),
)
  where
    upper : (is_ascii_uppercase c || c == 95) ≡ true
    upper = says c class.Upper e

    part : is_word_part c ≡ true
    part = upper_part c upper

    word : run is_word_part (c ∷ cs) ≡ c ∷ run is_word_part cs
    word = run_one is_word_part c cs part

word_part_ascii : (c : ℕ) → is_word_part c ≡ true → is_ascii c ≡ true
word_part_ascii c e = grind (arith, nat_tests)

-- words are ASCII
pub word_ascii : (left : List ℕ) → list_all is_ascii (run is_word_part left) ≡ true
word_ascii left = passes_ascii is_word_part (run is_word_part left) word_part_ascii (run_passes is_word_part left)

pub name_found : (left word behind : List ℕ) → Begins class.Lower left → word ≡ run is_word_part left → behind ≡ behind_run is_word_part left → (n : ℕ) × IsFirst (token n (name word)) left behind
name_found left word behind b e f = renamed (λ w r. (n : ℕ) × IsFirst (token n (name w)) left r) _ word _ behind e f (name_first left b)

pub variable_found : (left word behind : List ℕ) → Begins class.Upper left → word ≡ run is_word_part left → behind ≡ behind_run is_word_part left → (n : ℕ) × IsFirst (token n (variable word)) left behind
variable_found left word behind b e f = renamed (λ w r. (n : ℕ) × IsFirst (token n (variable w)) left r) _ word _ behind e f (variable_first left b)
