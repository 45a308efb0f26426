-- What is computed is the greatest, and the least, test.
use Rattle.std.proofs.Common.{◌≡◌, ◌↔◌, ℕ, zero, suc, ◌≤◌, Bool, true, false, ◌&&◌, List, [], ◌∷◌, length, refl, ap, sym, ◌∙◌, subst, arith, true≢false}
use Rattle.std.proofs.lemmas.Bool.Decides.{nat_tests}
use Rattle.std.specs.Prelude.{filter, ◌==◌, not, cond}
use Rattle.prog_data.proofs.Leaves.{In, here, later, any_in, in_any, in_filter}
use Rattle.name_order.specs.Fixpoints.{RuleOf, ConsistentTest, ClosedTest, GreatestTest, LeastTest, Within, Monotone, is_in, unless_all, narrowed, greatest_of, left_out, not_least}

pub and_left : (a b : Bool) → (a && b) ≡ true → a ≡ true
and_left true b e = refl
and_left false b e = e

pub and_right : (a b : Bool) → (a && b) ≡ true → b ≡ true
and_right true b e = e
and_right false b e = cc

pub and_both : (a b : Bool) → a ≡ true → b ≡ true → (a && b) ≡ true
and_both a b e f = ap (λ x. x && b) e ∙ f

pub not_true : (a : Bool) → not a ≡ true → a ≡ false
not_true true e = cc
not_true false e = refl

pub not_false : (a : Bool) → a ≡ false → not a ≡ true
not_false a e = ap not e

pub not_not_true : (a : Bool) → (a ≡ true → ⊥) → a ≡ false
not_not_true true h = absurd (h refl)
not_not_true false h = refl

pub by_contrary : (a : Bool) → (a ≡ false → ⊥) → a ≡ true
by_contrary true h = refl
by_contrary false h = absurd (h refl)

pub clash : (a : Bool) → a ≡ true → a ≡ false → ⊥
clash a e f = true≢false (sym e ∙ f)

pub filter_le : {A : Type 0} (p : A → Bool) (xs : List A) → length (filter p xs) ≤ length xs
filter_le p [] = omega arith
filter_le p (x ∷ xs) = either (p x) (filter_le p xs)
  where
    either : (b : Bool) → length (filter p xs) ≤ length xs → length (cond b (x ∷ filter p xs) (filter p xs)) ≤ suc (length xs)
    either true le = omega (arith, le)
    either false le = omega (arith, le)

pub filter_all : {A : Type 0} {y : A} (p : A → Bool) (xs : List A) → length (filter p xs) ≡ length xs → In y xs → p y ≡ true
filter_all p [] e i = elim i [ ]
filter_all {A} {y = y} p (x ∷ xs) e i = either y (p x) refl e i (filter_all p xs) (filter_le p xs)
  where
    either : (z : A) (b : Bool) → p x ≡ b → length (cond b (x ∷ filter p xs) (filter p xs)) ≡ suc (length xs) → In z (x ∷ xs) → (length (filter p xs) ≡ length xs → In z xs → p z ≡ true) → length (filter p xs) ≤ length xs → p z ≡ true
    either z true q e here rest le = q
    either z true q e (later i) rest le = rest (omega (arith, e)) i
    either z false q e i rest le = absurd (omega (arith, e, le))

module _ {A : Type 0} (eq : A → A → Bool) (eq_same : (a b : A) → eq a b ≡ true → a ≡ b) (eq_itself : (a : A) → eq a a ≡ true) where
  pub is_in_in : (xs : List A) (x : A) → is_in eq xs x ≡ true → In x xs
  is_in_in xs x h = let m = any_in (eq x) xs h in subst (λ y. In y xs) (sym (eq_same x m.0 m.2)) m.1

  pub in_is_in : (xs : List A) (x : A) → In x xs → is_in eq xs x ≡ true
  in_is_in xs x i = in_any (eq x) xs i (eq_itself x)

  module _ (rule : RuleOf A) where
    narrowed_consistent : (k : ℕ) (xs : List A) → length xs ≤ k → ConsistentTest rule (is_in eq (narrowed eq rule k xs))
    narrowed_consistent zero [] le x h = absurd (true≢false (sym h))
    narrowed_consistent zero (y ∷ ys) le x h = absurd (omega (arith, le))
    narrowed_consistent (suc k) xs le x h = either (length (filter (rule (is_in eq xs)) xs) == length xs) refl (narrowed_consistent k) x h
      where
        either : (b : Bool) → (length (filter (rule (is_in eq xs)) xs) == length xs) ≡ b → ((ys : List A) → length ys ≤ k → ConsistentTest rule (is_in eq (narrowed eq rule k ys))) →
            ConsistentTest rule (is_in eq (unless_all b xs (filter (rule (is_in eq xs)) xs) (narrowed eq rule k)))
        either true e rest z h = filter_all (rule (is_in eq xs)) xs (grind (arith, nat_tests)) (is_in_in xs z h)
        either false e rest z h = let below = filter_le (rule (is_in eq xs)) xs in rest (filter (rule (is_in eq xs)) xs) (grind (arith, nat_tests)) z h

    contains : Monotone rule → (r : A → Bool) → ConsistentTest rule r → (k : ℕ) (xs : List A) → ((x : A) → r x ≡ true → In x xs) → (x : A) → r x ≡ true → In x (narrowed eq rule k xs)
    contains mono r cons zero xs all x h = all x h
    contains mono r cons (suc k) xs all x h = either (length (filter (rule (is_in eq xs)) xs) == length xs) (contains mono r cons k) x h
      where
        either : (b : Bool) → ((ys : List A) → ((x : A) → r x ≡ true → In x ys) → (x : A) → r x ≡ true → In x (narrowed eq rule k ys)) →
            (x : A) → r x ≡ true → In x (unless_all b xs (filter (rule (is_in eq xs)) xs) (narrowed eq rule k))
        either true rest z h = all z h
        either false rest z h =
            rest (filter (rule (is_in eq xs)) xs) (λ y e. in_filter (rule (is_in eq xs)) xs (mono r (is_in eq xs) (λ z f. in_is_in xs z (all z f)) y (cons y e)) (all y e)) z h

    -- what consistent tests let pass stands in the list
    pub greatest_law : Monotone rule → (xs : List A) → ((r : A → Bool) → ConsistentTest rule r → (x : A) → r x ≡ true → In x xs) →
        (x : A) → (is_in eq (greatest_of eq rule xs) x ≡ true) ↔ GreatestTest rule x
    greatest_law mono xs dom x = (
      (λ h. (is_in eq (greatest_of eq rule xs), narrowed_consistent (length xs) xs (omega arith), h)),
      (λ g. in_is_in (greatest_of eq rule xs) x (contains mono g.0 g.1 (length xs) xs (dom g.0 g.1) x g.2)),
    )

  module _ (rule : RuleOf A) (mono : Monotone rule) (within : A → Bool) (all : List A) (listed : (x : A) → (within x ≡ true) ↔ In x all) (dom : (r : A → Bool) (x : A) → rule r x ≡ true → within x ≡ true) where
    abbrev pub least_test : A → Bool
    least_test x = within x && not (is_in eq (not_least eq rule within all) x)

    left_mono : Monotone (left_out rule within)
    left_mono r s w x h = not_false (rule (λ y. within y && not (s y)) x) (not_not_true _ (λ e. clash _ (mono (λ y. within y && not (s y)) (λ y. within y && not (r y)) fewer x e) (not_true _ h)))
      where
        fewer : Within (λ y. within y && not (s y)) (λ y. within y && not (r y))
        fewer y e = and_both (within y) (not (r y)) (and_left _ _ e) (not_false (r y) (not_not_true _ (λ f. clash _ (w y f) (not_true (s y) (and_right (within y) _ e)))))

    pub least_closed : ClosedTest rule least_test
    least_closed x h = and_both (within x) _ (dom least_test x h) (not_false _ (not_not_true _ (λ e. clash _ h (not_true _ (narrowed_consistent (left_out rule within) (length all) all (omega arith) x e)))))

    pub least_within : (r : A → Bool) → ClosedTest rule r → Within least_test r
    least_within r closed x h = by_contrary (r x) (λ f. clash _ (in_is_in (not_least eq rule within all) x (contains (left_out rule within) left_mono others consistent (length all) all (λ y e. (listed y).0 (and_left _ _ e)) x (and_both (within x) _ (and_left _ _ h) (not_false _ f)))) (not_true _ (and_right (within x) _ h)))
      where
        others : A → Bool
        others y = within y && not (r y)

        inside : Within (λ y. within y && not (within y && not (r y))) r
        inside y e = by_contrary (r y) (λ f. clash _ (and_both (within y) (not (r y)) (and_left _ _ e) (not_false _ f)) (not_true _ (and_right (within y) _ e)))

        consistent : ConsistentTest (left_out rule within) (λ y. within y && not (r y))
        consistent y e = not_false _ (not_not_true _ (λ f. clash _ (closed y (mono _ r inside y f)) (not_true _ (and_right (within y) _ e))))

    pub least_law : (x : A) → (least_test x ≡ true) ↔ LeastTest rule x
    least_law x = ((λ h r closed. least_within r closed x h), (λ l. l least_test least_closed))

-- tests that are found in another way

-- a consistent test that each consistent one is within is the greatest
pub table_greatest : {A : Type 0} (rule : RuleOf A) (r : A → Bool) → ConsistentTest rule r → ((s : A → Bool) → ConsistentTest rule s → Within s r) → (x : A) → (r x ≡ true) ↔ GreatestTest rule x
table_greatest rule r cons all x = ((λ h. (r, cons, h)), (λ g. all g.0 g.1 x g.2))

-- a closed test that is within each closed one is the least
pub table_least : {A : Type 0} (rule : RuleOf A) (r : A → Bool) → ClosedTest rule r → ((s : A → Bool) → ClosedTest rule s → Within r s) → (x : A) → (r x ≡ true) ↔ LeastTest rule x
table_least rule r closed all x = ((λ h s c. all s c x h), (λ l. l r closed))
