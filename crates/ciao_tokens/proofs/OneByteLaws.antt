-- Pieces of one byte.
use Rattle.std.proofs.Common.{◌≡◌, ℕ, true, List, [], ◌∷◌, ◌++◌, take, drop, refl, sym, ap, subst, ◌∙◌, arith}
use Rattle.std.proofs.lemmas.Bool.{or_left, or_right, and_from}
use Rattle.std.proofs.lemmas.Bool.Decides.{nat_tests}
use Rattle.std.specs.Prelude.{not}
use Rattle.std.specs.List.{list_all}
use Rattle.std.specs.Char.{is_ascii}
use Rattle.term_core.specs.Characters.{opens_comment}
use Rattle.ciao_tokens.specs.Layout.{is_blank}
use Rattle.ciao_tokens.specs.Forms.{name, mark, byte_of}
use Rattle.ciao_tokens.specs.Pieces.{layout, token, IsStuck}
use Rattle.ciao_tokens.specs.declared.classes.Class.{Class}
use Rattle.ciao_tokens.specs.declared.classes.Class.TheVariants as class
use Rattle.ciao_tokens.specs.Classes.{class_of, mark_of, is_mark, is_solo_byte}
use Rattle.ciao_tokens.specs.Scanning.{Begins, IsFirst}
use Rattle.ciao_tokens.proofs.ByteClasses.{Says, any_is}
use Rattle.ciao_tokens.proofs.Longest.{token_first, layout_first, stuck_any}
use Rattle.ciao_tokens.proofs.FirstBytes.{TokenBy, LayoutBy, token_by, layout_by}
use Rattle.ciao_tokens.proofs.WordLaws.{says, none_longer}

pub no_more : (xs : List ℕ) (b : ℕ) (more : List ℕ) → xs ++ b ∷ more ≡ [] → ⊥
no_more [] b more e = cc
no_more (x ∷ xs) b more e = cc

-- a blank is the first piece
pub blank_first : (left behind : List ℕ) → Begins class.Blank left → behind ≡ drop 1 left → (n : ℕ) × IsFirst (layout n) left behind
blank_first [] behind e is = absurd e
blank_first (c ∷ cs) behind e is = (
  _,
  subst (λ r. IsFirst (layout 1) (c ∷ cs) r) (sym is)
      (layout_first (c ∷ []) cs (c ∷ cs) refl (or_left _ _ (says c class.Blank e)) (none_longer class.Blank c [] cs e (λ s b more later behind t. t) (λ b more later behind t. no_more [] b more t))),
)

marked : (c : ℕ) → is_mark c ≡ true → byte_of (mark_of c) ≡ c
marked c e = any_is (λ x. byte_of (mark_of x) ≡ x) c (40 ∷ 41 ∷ 91 ∷ 93 ∷ 123 ∷ 125 ∷ 44 ∷ 124 ∷ []) (refl, (refl, (refl, (refl, (refl, (refl, (refl, (refl, tt)))))))) e

-- a mark is the first piece
pub mark_first : (c : ℕ) (left behind : List ℕ) → (cs : List ℕ) × (left ≡ c ∷ cs) → class_of c ≡ class.Sign → behind ≡ drop 1 left → (n : ℕ) × IsFirst (token n (mark (mark_of c))) left behind
mark_first c left behind (cs, whole) e is = (
  _,
  subst (λ r. IsFirst (token 1 (mark (mark_of c))) left r) (sym (is ∙ ap (drop 1) whole))
      (token_first (mark (mark_of c)) (c ∷ []) cs left whole (ap (λ x. x ∷ []) (sym (marked c (says c class.Sign e))))
      (none_longer class.Sign c [] cs e (λ s b more later behind t. no_more [] b more t) (λ b more later behind t. t)) refl),
)

no_slash : (c : ℕ) (cs : List ℕ) → is_solo_byte c ≡ true → not (opens_comment (c ∷ cs)) ≡ true
no_slash c [] e = refl
no_slash c (d ∷ ds) e = grind (arith, nat_tests)

-- `!` or `;` is the first piece
pub solo_found : (left word behind : List ℕ) → Begins class.Solo left → word ≡ take 1 left → behind ≡ drop 1 left → (n : ℕ) × IsFirst (token n (name word)) left behind
solo_found [] word behind b e f = absurd b
solo_found (c ∷ cs) word behind b e f = (
  _,
  subst (λ r. IsFirst (token 1 (name word)) (c ∷ cs) r) (sym f)
      (subst (λ w. IsFirst (token 1 (name w)) (c ∷ cs) cs) (sym e)
      (token_first (name (c ∷ [])) (c ∷ []) cs (c ∷ cs) refl (refl, or_right _ _ (or_right _ _ (says c class.Solo b)))
      (none_longer class.Solo c [] cs b (λ s b more later behind t. no_more [] b more t) (λ b more later behind t. t)) (no_slash c cs (says c class.Solo b)))),
)

-- one byte of such a class is ASCII
blank_ascii : (c : ℕ) → is_blank c ≡ true → is_ascii c ≡ true
blank_ascii c e = grind (arith, nat_tests)

mark_ascii : (c : ℕ) → is_mark c ≡ true → is_ascii c ≡ true
mark_ascii c e = any_is (λ x. is_ascii x ≡ true) c (40 ∷ 41 ∷ 91 ∷ 93 ∷ 123 ∷ 125 ∷ 44 ∷ 124 ∷ []) (refl, (refl, (refl, (refl, (refl, (refl, (refl, (refl, tt)))))))) e

solo_ascii : (c : ℕ) → is_solo_byte c ≡ true → is_ascii c ≡ true
solo_ascii c e = grind (arith, nat_tests)

one_ascii : (c : ℕ) (cs : List ℕ) → is_ascii c ≡ true → list_all is_ascii (take 1 (c ∷ cs)) ≡ true
one_ascii c cs e = and_from _ _ e refl

pub begins_ascii : (k : Class) (left : List ℕ) → ((c : ℕ) → Says c k → is_ascii c ≡ true) → Begins k left → list_all is_ascii (take 1 left) ≡ true
begins_ascii k [] is e = absurd e
begins_ascii k (c ∷ cs) is e = one_ascii c cs (is c (says c k e))

pub blank_one : (left : List ℕ) → Begins class.Blank left → list_all is_ascii (take 1 left) ≡ true
blank_one left b = begins_ascii class.Blank left blank_ascii b

pub solo_one : (left : List ℕ) → Begins class.Solo left → list_all is_ascii (take 1 left) ≡ true
solo_one left b = begins_ascii class.Solo left solo_ascii b

pub mark_one : (c : ℕ) (left : List ℕ) → (cs : List ℕ) × (left ≡ c ∷ cs) → class_of c ≡ class.Sign → list_all is_ascii (take 1 left) ≡ true
mark_one c left (cs, whole) e = ap (λ x. list_all is_ascii (take 1 x)) whole ∙ one_ascii c cs (mark_ascii c (says c class.Sign e))

-- with another byte nothing begins
pub other_stuck : (c : ℕ) (left : List ℕ) → (cs : List ℕ) × (left ≡ c ∷ cs) → class_of c ≡ class.Other → IsStuck left
other_stuck c left (cs, whole) e = subst IsStuck (sym whole) (stuck_any c cs
    (λ s xs behind f form may. subst (λ k. TokenBy k s c xs) e (token_by s c xs form))
    (λ xs behind f is. subst (λ k. LayoutBy k c xs) e (layout_by c xs is)))
