-- Least and greatest tests, and how they are computed.
-- The headline does not rest on this file.
use Rattle.std.specs.Prelude.{◌≡◌, ℕ, zero, suc, ◌==◌, Bool, true, false, ◌&&◌, not, List, length, filter}
use Rattle.std.specs.List.{list_any}

-- what a test gives by a rule
abbrev pub RuleOf : Type 0 → Type 0
RuleOf A = (A → Bool) → A → Bool

-- each that passes has the rule's grounds for it
abbrev pub ConsistentTest : {A : Type 0} → RuleOf A → (A → Bool) → Type 0
ConsistentTest {A} rule r = (x : A) → r x ≡ true → rule r x ≡ true

-- each for which the rule has grounds passes
abbrev pub ClosedTest : {A : Type 0} → RuleOf A → (A → Bool) → Type 0
ClosedTest {A} rule r = (x : A) → rule r x ≡ true → r x ≡ true

-- it passes some consistent test: the greatest relation
abbrev pub GreatestTest : {A : Type 0} → RuleOf A → A → Type 0
GreatestTest {A} rule x = (r : A → Bool) × ConsistentTest rule r × (r x ≡ true)

-- it passes every closed test: the least relation
abbrev pub LeastTest : {A : Type 0} → RuleOf A → A → Type 0
LeastTest {A} rule x = (r : A → Bool) → ClosedTest rule r → r x ≡ true

-- what passes one test passes another
abbrev pub Within : {A : Type 0} → (A → Bool) → (A → Bool) → Type 0
Within {A} r s = (x : A) → r x ≡ true → s x ≡ true

-- a rule that has more grounds where more passes
abbrev pub Monotone : {A : Type 0} → RuleOf A → Type 0
Monotone {A} rule = (r s : A → Bool) → Within r s → Within (rule r) (rule s)

-- a closed test that is within each closed test
pub record IsLeastTest {A : Type 0} (rule : RuleOf A) (r : A → Bool) : Type 0 where
  pub closed : ClosedTest rule r
  pub least : (s : A → Bool) → ClosedTest rule s → Within r s

-- a consistent test that each consistent test is within
pub record IsGreatestTest {A : Type 0} (rule : RuleOf A) (r : A → Bool) : Type 0 where
  pub consistent : ConsistentTest rule r
  pub greatest : (s : A → Bool) → ConsistentTest rule s → Within s r

-- computed

-- whether x is in a list
abbrev pub is_in : {A : Type 0} → (A → A → Bool) → List A → A → Bool
is_in eq xs x = list_any (eq x) xs

-- the first list, or what comes of the second
abbrev pub unless_all : {A : Type 0} → Bool → List A → List A → (List A → List A) → List A
unless_all true xs ys go = xs
unless_all false xs ys go = go ys

-- those that the rule gives from them are kept, again and again till it gives all, at most so many times
abbrev pub narrowed : {A : Type 0} → (A → A → Bool) → RuleOf A → ℕ → List A → List A
narrowed eq rule zero xs = xs
narrowed eq rule (suc k) xs = unless_all (length (filter (rule (is_in eq xs)) xs) == length xs) xs (filter (rule (is_in eq xs)) xs) (narrowed eq rule k)

-- those of a list that pass the greatest test
abbrev pub greatest_of : {A : Type 0} → (A → A → Bool) → RuleOf A → List A → List A
greatest_of eq rule xs = narrowed eq rule (length xs) xs

-- of the things that pass `within`, where a test says which are left out: what the rule does not give from those that are not
abbrev pub left_out : {A : Type 0} → RuleOf A → (A → Bool) → RuleOf A
left_out rule within out x = not (rule (λ y. within y && not (out y)) x)

-- those of a list, of all that pass `within`, that do not pass the least test
abbrev pub not_least : {A : Type 0} → (A → A → Bool) → RuleOf A → (A → Bool) → List A → List A
not_least eq rule within xs = greatest_of eq (left_out rule within) xs
