-- What the rules of a name admit, and where the rules of a grammar stand.
use Rattle.std.proofs.Common.{◌≡◌, ◌⊎◌, inl, inr, ℕ, zero, suc, ◌+◌, ◌<◌, List, [], ◌∷◌, ◌++◌, length, refl, ap, sym, ◌∙◌, subst, arith}
use Rattle.std.specs.Prelude.{Contains, slice_index_or}
use Rattle.std.proofs.lemmas.List.{append_assoc, length-append}
use Rattle.term_core.specs.declared.terms.Term.{Term}
use Rattle.term_core.specs.declared.terms.Term as term
use Rattle.prog_data.specs.declared.grammars.Rule.{Rule}
use Rattle.prog_data.specs.declared.grammars.Rule.TheVariants as rule
use Rattle.prog_data.specs.declared.grammars.Grammar.{Grammar}
use Rattle.prog_data.specs.Membership.{rules_of, IsBasic, Belongs, by_basic, by_int, by_atom, by_node, by_unit, BelongEach, none, more}

-- one of a list has a property
abbrev pub SomeOf : {A : Type 0} → (A → Type 0) → List A → Type 0
SomeOf P [] = ⊥
SomeOf P (x ∷ xs) = P x ⊎ SomeOf P xs

some_at : {A : Type 0} (P : A → Type 0) (xs : List A) (x : A) (k : ℕ) → k < length xs → slice_index_or xs k x ≡ x → P x → SomeOf P xs
some_at P [] x k lt e p = let no : k < 0 = lt in absurd (omega (arith, no))
some_at P (y ∷ ys) x zero lt e p = inl (subst P (sym e) p)
some_at P (y ∷ ys) x (suc k) lt e p = let less : suc k < suc (length ys) = lt in inr (some_at P ys x k (omega (arith, less)) e p)

record Found {A : Type 0} (P : A → Type 0) (xs : List A) : Type 0 where
  item : A
  there : Contains xs item
  holds : P item

contained : {A : Type 0} (P : A → Type 0) (xs : List A) → SomeOf P xs → Found P xs
contained P [] s = absurd s
contained P (y ∷ ys) (inl p) = record { item = y; there = (0, omega arith, refl); holds = p }
contained P (y ∷ ys) (inr s) =
    let f = contained P ys s in
    let lt : f.there.0 < length ys = f.there.1 in
    record { item = f.item; there = (suc f.there.0, omega (arith, lt), f.there.2); holds = f.holds }

pub some_left : {A : Type 0} (P : A → Type 0) (xs ys : List A) → SomeOf P xs → SomeOf P (xs ++ ys)
some_left P [] ys s = absurd s
some_left P (x ∷ xs) ys (inl p) = inl p
some_left P (x ∷ xs) ys (inr s) = inr (some_left P xs ys s)

some_wider : {A : Type 0} (P Q : A → Type 0) → ((x : A) → P x → Q x) → (xs : List A) → SomeOf P xs → SomeOf Q xs
some_wider P Q holds [] s = absurd s
some_wider P Q holds (x ∷ xs) (inl p) = inl (holds x p)
some_wider P Q holds (x ∷ xs) (inr s) = inr (some_wider P Q holds xs s)

-- the terms of a rule, by which terms the names in it have

-- each term is one of the name in its place
abbrev pub EachHas : (ℕ → Term → Type 0) → List Term → List ℕ → Type 0
EachHas has [] [] = Unit {0}
EachHas has [] (n ∷ ns) = ⊥
EachHas has (t ∷ ts) [] = ⊥
EachHas has (t ∷ ts) (n ∷ ns) = has n t × EachHas has ts ns

abbrev pub Admits : (ℕ → Term → Type 0) → Rule → Term → Type 0
Admits has (rule.Basic b) u = IsBasic b u
Admits has (rule.Int k) u = u ≡ term.Int k
Admits has (rule.Atom a) u = u ≡ term.Atom a
Admits has (rule.Node f ns) u = (us : List Term) × (u ≡ term.Node f us) × EachHas has us ns
Admits has (rule.Unit m) u = has m u

-- one of the rules of a name admits the term
abbrev pub ByRules : Grammar → (ℕ → Term → Type 0) → ℕ → Term → Type 0
ByRules g has n u = SomeOf (λ r. Admits has r u) (rules_of g n)

-- where more terms are had, more are admitted
module _ (A B : ℕ → Term → Type 0) (wider : (n : ℕ) (u : Term) → A n u → B n u) where
  pub each_wider : (us : List Term) (ns : List ℕ) → EachHas A us ns → EachHas B us ns
  each_wider [] [] h = tt
  each_wider [] (n ∷ ns) h = absurd h
  each_wider (u ∷ us) [] h = absurd h
  each_wider (u ∷ us) (n ∷ ns) h = (wider n u h.0, each_wider us ns h.1)

  admits_wider : (r : Rule) (u : Term) → Admits A r u → Admits B r u
  admits_wider (rule.Basic b) u a = a
  admits_wider (rule.Int k) u a = a
  admits_wider (rule.Atom k) u a = a
  admits_wider (rule.Node f ns) u a = (a.0, a.1, each_wider a.0 ns a.2)
  admits_wider (rule.Unit m) u a = wider m u a

  pub rules_wider : (g : Grammar) (n : ℕ) (u : Term) → ByRules g A n u → ByRules g B n u
  rules_wider g n u s = some_wider (λ r. Admits A r u) (λ r. Admits B r u) (λ r a. admits_wider r u a) (rules_of g n) s

-- in A each term comes by a rule, in B is each term that comes by a rule
pub record Steps (g : Grammar) (A B : ℕ → Term → Type 0) : Type 0 where
  pub opened : (n : ℕ) (u : Term) → A n u → ByRules g A n u
  pub closed : (n : ℕ) (u : Term) → ByRules g B n u → B n u

-- a name with one rule
pub one_rule : (g : Grammar) (A B : ℕ → Term → Type 0) → Steps g A B → (n : ℕ) (r : Rule) → rules_of g n ≡ r ∷ [] → (u : Term) → (A n u → Admits A r u) × (Admits B r u → B n u)
one_rule g A B steps n r own u =
    (λ a. alone (subst (SomeOf (λ q. Admits A q u)) own (steps.opened n u a)), λ b. steps.closed n u (subst (SomeOf (λ q. Admits B q u)) (sym own) (inl b)))
  where
    alone : Admits A r u ⊎ ⊥ → Admits A r u
    alone (inl a) = a
    alone (inr e) = absurd e

-- what belongs to names
abbrev pub Has : Grammar → ℕ → Term → Type 0
Has g = λ n u. Belongs g u n

module _ (g : Grammar) where
  each_has : {us : List Term} {ns : List ℕ} → BelongEach g us ns → EachHas (Has g) us ns
  each_has none = tt
  each_has (more b rest) = (b, each_has rest)

  has_each : (us : List Term) (ns : List ℕ) → EachHas (Has g) us ns → BelongEach g us ns
  has_each [] [] h = none
  has_each [] (n ∷ ns) h = absurd h
  has_each (u ∷ us) [] h = absurd h
  has_each (u ∷ us) (n ∷ ns) h = more h.0 (has_each us ns h.1)

  pub belongs_opened : (n : ℕ) (u : Term) → Belongs g u n → ByRules g (Has g) n u
  belongs_opened n u (by_basic b c i) = some_at (λ r. Admits (Has g) r u) (rules_of g n) (rule.Basic b) c.0 c.1 c.2 i
  belongs_opened n u (by_int k c e) = some_at (λ r. Admits (Has g) r u) (rules_of g n) (rule.Int k) c.0 c.1 c.2 e
  belongs_opened n u (by_atom a c e) = some_at (λ r. Admits (Has g) r u) (rules_of g n) (rule.Atom a) c.0 c.1 c.2 e
  belongs_opened n u (by_node f ts ns c e each) = some_at (λ r. Admits (Has g) r u) (rules_of g n) (rule.Node f ns) c.0 c.1 c.2 (ts, e, each_has each)
  belongs_opened n u (by_unit m c b) = some_at (λ r. Admits (Has g) r u) (rules_of g n) (rule.Unit m) c.0 c.1 c.2 b

  by_rule : (u : Term) (n : ℕ) (r : Rule) → Contains (rules_of g n) r → Admits (Has g) r u → Belongs g u n
  by_rule u n (rule.Basic b) c a = by_basic b c a
  by_rule u n (rule.Int k) c a = by_int k c a
  by_rule u n (rule.Atom k) c a = by_atom k c a
  by_rule u n (rule.Node f ns) c a = by_node f a.0 ns c a.1 (has_each a.0 ns a.2)
  by_rule u n (rule.Unit m) c a = by_unit m c a

  pub belongs_closed : (n : ℕ) (u : Term) → ByRules g (Has g) n u → Belongs g u n
  belongs_closed n u s = let f = contained (λ r. Admits (Has g) r u) (rules_of g n) s in by_rule u n f.item f.there f.holds

  pub belongs_steps : Steps g (Has g) (Has g)
  belongs_steps = record { opened = belongs_opened; closed = belongs_closed }

  -- names from n on have these rules
  abbrev pub Stand : ℕ → List (List Rule) → Type 0
  Stand n [] = Unit {0}
  Stand n (rs ∷ rest) = (rules_of g n ≡ rs) × Stand (suc n) rest

  pub stand_parts : (n : ℕ) (xs ys : List (List Rule)) → Stand n (xs ++ ys) → Stand n xs × Stand (length xs + n) ys
  stand_parts n [] ys h = (tt, subst (λ k. Stand k ys) (from_zero n) h)
    where
      from_zero : (n : ℕ) → n ≡ 0 + n
      from_zero n = omega arith
  stand_parts n (x ∷ xs) ys h = let rest = stand_parts (suc n) xs ys h.1 in ((h.0, rest.0), subst (λ k. Stand k ys) (one_more (length xs) n) rest.1)
    where
      one_more : (k n : ℕ) → k + suc n ≡ suc k + n
      one_more k n = omega arith

  at_front : (front : List (List Rule)) (x : List Rule) (rest : List (List Rule)) → slice_index_or (front ++ x ∷ rest) (length front) [] ≡ x
  at_front [] x rest = refl
  at_front (y ∷ front) x rest = at_front front x rest

  -- all of a grammar stand where they are
  pub all_stand : (front xs : List (List Rule)) → front ++ xs ≡ g.rules → Stand (length front) xs
  all_stand front [] e = tt
  all_stand front (x ∷ xs) e =
      let longer : length (front ++ x ∷ []) ≡ suc (length front) = length-append front (x ∷ []) ∙ last (length front) in (
        ap (λ rs. slice_index_or rs (length front) []) (sym e) ∙ at_front front x xs,
        subst (λ k. Stand k xs) longer (all_stand (front ++ x ∷ []) xs (append_assoc front (x ∷ []) xs ∙ e)),
      )
    where
      last : (n : ℕ) → n + 1 ≡ suc n
      last n = omega arith

-- what belongs within so many rules, one inside the other
abbrev pub Within : Grammar → ℕ → ℕ → Term → Type 0
Within g zero n u = ⊥
Within g (suc depth) n u = ByRules g (Within g depth) n u

-- a depth that many more
abbrev deeper : ℕ → ℕ → ℕ
deeper zero d = d
deeper (suc e) d = suc (deeper e d)

module _ (g : Grammar) where
  one_deeper : (d n : ℕ) (u : Term) → Within g d n u → Within g (suc d) n u
  one_deeper zero n u h = absurd h
  one_deeper (suc d) n u h = rules_wider (Within g d) (Within g (suc d)) (one_deeper d) g n u h

  within_left : (e d n : ℕ) (u : Term) → Within g e n u → Within g (deeper e d) n u
  within_left zero d n u h = absurd h
  within_left (suc e) d n u h = rules_wider (Within g e) (Within g (deeper e d)) (within_left e d) g n u h

  within_right : (e d n : ℕ) (u : Term) → Within g d n u → Within g (deeper e d) n u
  within_right zero d n u h = h
  within_right (suc e) d n u h = one_deeper (deeper e d) n u (within_right e d n u h)

  mutual
    pub belongs_within : {u : Term} {n : ℕ} → Belongs g u n → (depth : ℕ) × Within g depth n u
    belongs_within {u} {n} (by_basic b c i) = (suc zero, some_at (λ r. Admits (Within g zero) r u) (rules_of g n) (rule.Basic b) c.0 c.1 c.2 i)
    belongs_within {u} {n} (by_int k c e) = (suc zero, some_at (λ r. Admits (Within g zero) r u) (rules_of g n) (rule.Int k) c.0 c.1 c.2 e)
    belongs_within {u} {n} (by_atom a c e) = (suc zero, some_at (λ r. Admits (Within g zero) r u) (rules_of g n) (rule.Atom a) c.0 c.1 c.2 e)
    belongs_within {u} {n} (by_node f ts ns c e each) =
        let parts = each_within each in (suc parts.0, some_at (λ r. Admits (Within g parts.0) r u) (rules_of g n) (rule.Node f ns) c.0 c.1 c.2 (ts, e, parts.1))
    belongs_within {u} {n} (by_unit m c b) = let inner = belongs_within b in (suc inner.0, some_at (λ r. Admits (Within g inner.0) r u) (rules_of g n) (rule.Unit m) c.0 c.1 c.2 inner.1)

    each_within : {us : List Term} {ns : List ℕ} → BelongEach g us ns → (depth : ℕ) × EachHas (Within g depth) us ns
    each_within none = (zero, tt)
    each_within (more {t} {ts} {n} {ns} b rest) =
        let one = belongs_within b in
        let others = each_within rest in
        (deeper others.0 one.0, (within_right others.0 one.0 n t one.1, each_wider (Within g others.0) (Within g (deeper others.0 one.0)) (within_left others.0 one.0) ts ns others.1))

  pub within_belongs : (d n : ℕ) (u : Term) → Within g d n u → Belongs g u n
  within_belongs zero n u h = absurd h
  within_belongs (suc d) n u h = belongs_closed g n u (rules_wider (Within g d) (Has g) (within_belongs d) g n u h)

  within_opened : (d n : ℕ) (u : Term) → Within g d n u → ByRules g (Within g d) n u
  within_opened zero n u h = absurd h
  within_opened (suc d) n u h = rules_wider (Within g d) (Within g (suc d)) (one_deeper d) g n u h

  pub within_steps : (d : ℕ) → Steps g (Within g d) (Has g)
  within_steps d = record { opened = within_opened d; closed = belongs_closed g }
