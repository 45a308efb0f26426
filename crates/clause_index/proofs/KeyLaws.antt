-- Keys that are the same, and keys that agree.
use Rattle.std.proofs.Common.{◌≡◌, ℕ, Bool, true, false, ◌==◌, refl, ap, sym, ◌∙◌, arith, true≢false}
use Rattle.std.specs.Prelude.{◌||◌}
use Rattle.std.proofs.lemmas.Bool.{and_parts}
use Rattle.std.proofs.lemmas.Bool.Decides.{nat_tests, Decides-int_eq}
use Rattle.clause_index.specs.declared.keys.Key.{Key}
use Rattle.clause_index.specs.declared.keys.Key.TheVariants.{Free, Int, Atom, Node}
use Rattle.clause_index.specs.Keys.{is_free, same, agrees}
use Rattle.clause_index.specs.Lists.{same_key}

-- `==` says whether keys are the same
pub same_keys : (a b : Key) → same_key a b ≡ same a b
same_keys Free Free = refl
same_keys Free (Int n) = refl
same_keys Free (Atom b) = refl
same_keys Free (Node g n) = refl
same_keys (Int m) Free = refl
same_keys (Int m) (Int n) = refl
same_keys (Int m) (Atom b) = refl
same_keys (Int m) (Node g n) = refl
same_keys (Atom a) Free = refl
same_keys (Atom a) (Int n) = refl
same_keys (Atom a) (Atom b) = refl
same_keys (Atom a) (Node g n) = refl
same_keys (Node f m) Free = refl
same_keys (Node f m) (Int n) = refl
same_keys (Node f m) (Atom b) = refl
same_keys (Node f m) (Node g n) = refl

pub equal_numbers : (m n : ℕ) → (m == n) ≡ true → m ≡ n
equal_numbers m n e = grind (arith, nat_tests)

-- keys that are the same are equal
pub same_equal : (a b : Key) → same a b ≡ true → a ≡ b
same_equal Free Free e = refl
same_equal Free (Int n) e = absurd (true≢false (sym e))
same_equal Free (Atom b) e = absurd (true≢false (sym e))
same_equal Free (Node g n) e = absurd (true≢false (sym e))
same_equal (Int m) Free e = absurd (true≢false (sym e))
same_equal (Int m) (Int n) e = ap Int ((Decides-int_eq m n).0 e)
same_equal (Int m) (Atom b) e = absurd (true≢false (sym e))
same_equal (Int m) (Node g n) e = absurd (true≢false (sym e))
same_equal (Atom a) Free e = absurd (true≢false (sym e))
same_equal (Atom a) (Int n) e = absurd (true≢false (sym e))
same_equal (Atom a) (Atom b) e = ap Atom (equal_numbers a b e)
same_equal (Atom a) (Node g n) e = absurd (true≢false (sym e))
same_equal (Node f m) Free e = absurd (true≢false (sym e))
same_equal (Node f m) (Int n) e = absurd (true≢false (sym e))
same_equal (Node f m) (Atom b) e = absurd (true≢false (sym e))
same_equal (Node f m) (Node g n) e =
    let parts = and_parts (f == g) (m == n) e in
    λ i. Node (equal_numbers f g parts.0 i) (equal_numbers m n parts.1 i)

pub or_true : (a : Bool) → (a || true) ≡ true
or_true true = refl
or_true false = refl

-- each key agrees with a free one
pub agrees_free : (key k : Key) → is_free k ≡ true → agrees key k ≡ true
agrees_free key k free = ap (λ b. is_free key || (b || same k key)) free ∙ or_true (is_free key)

-- two bound keys agree where they are the same
pub agrees_bound : (key k : Key) → is_free key ≡ false → is_free k ≡ false → agrees key k ≡ same k key
agrees_bound key k bound others = λ i. bound i || (others i || same k key)
