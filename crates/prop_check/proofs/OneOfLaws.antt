-- Belonging to one of some names: by the rules of a closed set, and by the last part of a compound.
use Rattle.std.proofs.Common.{◌≡◌, ◌⊎◌, inl, inr, ℕ, zero, suc, ◌+◌, ◌<◌, ◌≤◌, Bool, true, false, ◌&&◌, ◌||◌, List, [], ◌∷◌, ◌++◌, length, map, drop, refl, ap, sym, ◌∙◌, subst, arith, true≢false}
use Rattle.std.specs.Prelude.{◌==◌, nat_lt, Option, Some, None, slice_get, slice_index_or, if◌then◌else◌}
use Rattle.std.specs.List.{list_any, list_all}
use Rattle.std.proofs.lemmas.Bool.Decides.{nat_tests}
use Rattle.std.proofs.Math.Bool.{and-true, and-false}
use Rattle.term_core.specs.declared.terms.Term.{Term, Node}
use Rattle.term_core.proofs.TermFolds.{fold-Var, fold-Int, fold-Atom, fold-Node, ind_terms}
use Rattle.prog_data.specs.declared.basic_names.TheConstants.{GND_TYPE}
use Rattle.prog_data.specs.declared.grammars.Basic.TheVariants as basic
use Rattle.prog_data.specs.declared.grammars.Rule.{Rule}
use Rattle.prog_data.specs.declared.grammars.Rule.TheVariants as rule
use Rattle.prog_data.specs.declared.grammars.Grammar.{Grammar}
use Rattle.prog_data.specs.Membership.{rules_of, leaves, by_unit, admits, admits_step, admits_node, admit_each, belongs}
use Rattle.prog_data.specs.Values.{bit_at}
use Rattle.prog_data.proofs.Leaves.{In, any_in, in_any, Leads, leaf_of}
use Rattle.prog_data.proofs.Leaves as way
use Rattle.prog_data.proofs.MembershipLaws.{in_contains, belongs_sound, belongs_complete}
use Rattle.prop_check.specs.declared.gathering.Look.TheVariants.{Units, Part, Last}
use Rattle.prop_check.specs.declared.heads.Head.{Head}
use Rattle.prop_check.specs.declared.heads.Head.TheVariants as head
use Rattle.prop_check.specs.Belonging.{passes}
use Rattle.prop_check.specs.Sets.{Fits, has_name, is_picked, finds, finds_in, IsFrom, IsClosed, AreTold, last_name, last_picked, each_has, head_holds, passes_in}
use Rattle.prop_check.specs.OneOf.{SomeBelongs, SomeRule, AreLed, is_whole, AsksLast}
use Rattle.prop_check.proofs.Belonging.{rules_pass}
use Rattle.prop_check.proofs.RoundLaws.{itself, any_same, none_within}
use Rattle.prop_check.proofs.SetLaws.{no_words, none_in}
use Rattle.prop_check.proofs.ToldLaws.{gnd_alone, all_told, left_at, same_name}

-- the name that is found
named_some : (m : ℕ) (o : Option ℕ) → has_name m o ≡ true → o ≡ Some m
named_some m None e = absurd (true≢false (sym e))
named_some m (Some k) e = ap Some (sym (same_name m k e))

-- a name with a rule is there
ruled : (rs : List (List Rule)) (r : Rule) (n : ℕ) → In r (slice_index_or rs n []) → n < length rs
ruled [] r n i = elim i [ ]
ruled (x ∷ rs) r zero i = omega arith
ruled (x ∷ rs) r (suc n) i = let le = ruled rs r n i in omega (arith, le)

module _ (g : Grammar) where
  -- a unit rule admits no term
  no_unit : (t : Term) (m : ℕ) → admits g t (rule.Unit m) ≡ false
  no_unit t m =
      ind_terms (λ t. admits g t (rule.Unit m) ≡ false)
      (λ v. ap (λ p. p (rule.Unit m)) (fold-Var _ (admits_step g) v))
      (λ n. ap (λ p. p (rule.Unit m)) (fold-Int _ (admits_step g) n))
      (λ a. ap (λ p. p (rule.Unit m)) (fold-Atom _ (admits_step g) a))
      (λ f ts h. ap (λ p. p (rule.Unit m)) (fold-Node _ (admits_step g) f ts)) t

  -- a term belongs to a name of which a rule admits it
  by_rule : (t : Term) (n : ℕ) (r : Rule) → In r (rules_of g n) → admits g t r ≡ true → belongs g t n ≡ true
  by_rule t n r i e = rules_pass g (admits g t) (length g.rules) n ∙ in_any (passes (admits g t) (length g.rules) g) (rules_of g n) i (leaf r e)
    where
      leaf : (r : Rule) → admits g t r ≡ true → passes (admits g t) (length g.rules) g r ≡ true
      leaf (rule.Unit m) e = absurd (true≢false (sym e ∙ no_unit t m))
      leaf (rule.Basic b) e = e
      leaf (rule.Int k) e = e
      leaf (rule.Atom a) e = e
      leaf (rule.Node f ns) e = e

  -- a rule that holds of each compound
  pub whole_some : (closed : ℕ → Bool) (f : ℕ) (ts : List Term) → SomeRule g closed is_whole → SomeBelongs g closed (Node f ts)
  whole_some closed f ts s = let a = any_in is_whole (rules_of g s.0) s.2 in (s.0, s.1, by_rule (Node f ts) s.0 a.0 a.1 (ap (λ p. p a.0) (fold-Node _ (admits_step g) f ts) ∙ at a.0 a.2))
    where
      at : (r : Rule) → is_whole r ≡ true → admits_node g f (map (admits g) ts) r ≡ true
      at (rule.Basic basic.Term) e = refl
      at (rule.Basic basic.Struct) e = refl
      at (rule.Basic basic.Gnd) e = absurd (true≢false (sym e))
      at (rule.Basic basic.Int) e = absurd (true≢false (sym e))
      at (rule.Basic basic.Nnegint) e = absurd (true≢false (sym e))
      at (rule.Basic basic.Atm) e = absurd (true≢false (sym e))
      at (rule.Int k) e = absurd (true≢false (sym e))
      at (rule.Atom a) e = absurd (true≢false (sym e))
      at (rule.Unit m) e = absurd (true≢false (sym e))
      at (rule.Node h ns) e = absurd (true≢false (sym e))

  -- a name to which a term belongs is there
  member_named : (t : Term) (n : ℕ) → belongs g t n ≡ true → n < length g.rules
  member_named t n e = by (nat_lt n (length g.rules)) refl
    where
      by : (b : Bool) → nat_lt n (length g.rules) ≡ b → n < length g.rules
      by true f = grind (arith, nat_tests)
      by false f = let le : length g.rules ≤ n = grind (arith, nat_tests) in absurd (true≢false (sym e ∙ none_within g (admits g t) (length g.rules) n le))

  -- what belongs to a name belongs to each with a unit rule that leads there
  unit_belongs : (t : Term) (n m : ℕ) → finds g Units n m ≡ true → belongs g t m ≡ true → belongs g t n ≡ true
  unit_belongs t n m f b = let a = any_in (is_picked [] Units m) (rules_of g n) f in at a.0 a.1 a.2
    where
      at : (r : Rule) → In r (rules_of g n) → is_picked [] Units m r ≡ true → belongs g t n ≡ true
      at (rule.Unit k) i e = belongs_complete g (by_unit m (in_contains (rules_of g n) (subst (λ k. In (rule.Unit k) (rules_of g n)) (sym (same_name m k e)) i)) (belongs_sound g t m b))
      at (rule.Basic b) i e = absurd (true≢false (sym e))
      at (rule.Int k) i e = absurd (true≢false (sym e))
      at (rule.Atom a) i e = absurd (true≢false (sym e))
      at (rule.Node h ns) i e = absurd (true≢false (sym e))

  -- one round more of a set that unit rules close
  pub led_more : (asked names next : ℕ → Bool) → AreLed g asked names → ((m : ℕ) → next m ≡ true → IsFrom g [] Units names names m) → AreLed g asked next
  led_more asked names next had only t m e b = at (only m e)
    where
      at : IsFrom g [] Units names names m → SomeBelongs g asked t
      at (inl was) = had t m was b
      at (inr more) = had t more.0 more.1 (unit_belongs t more.0 m more.2 b)

  -- the rule of a closed set that admits a term

  module _ (few : length g.rules ≤ 512) (closed : ℕ → Bool) (is_closed : IsClosed g closed) where
    -- where a way begins that ends at a name with a rule, there is a name
    starts : (m o : ℕ) (xs : List ℕ) → Leads g m o xs → (r : Rule) → In r (rules_of g o) → m < length g.rules
    starts m o xs way.none r i = ruled g.rules r m i
    starts m o xs (way.more {m = k} {xs = rest} u l) r i = ruled g.rules (rule.Unit k) m u

    led_in : (n o : ℕ) (xs : List ℕ) → Leads g n o xs → (r : Rule) → In r (rules_of g o) → closed n ≡ true → closed o ≡ true
    led_in n o xs way.none r i e = e
    led_in n o xs (way.more {m = m} {xs = rest} u l) r i e =
        let there = starts m o rest l r i in
        led_in m o rest l r i (is_closed n m e (in_any (is_picked [] Units m) (rules_of g n) u (itself m)) (omega (arith, there, few)))

    to_rule : (t : Term) (n : ℕ) → closed n ≡ true → belongs g t n ≡ true → (o : ℕ) × (closed o ≡ true) × (r : Rule) × In r (rules_of g o) × (admits g t r ≡ true)
    to_rule t n e b =
        let a = any_in (admits g t) (leaves g n) b in
        let l = leaf_of g a.0 (length g.rules) n a.1 in
        (l.0, led_in n l.0 l.1 l.2 a.0 l.3 e, a.0, l.3, a.2)

    -- a test that holds of a rule just where the rule admits the term
    module _ (t : Term) (holds : Rule → Bool) (alike : (n : ℕ) (r : Rule) → closed n ≡ true → In r (rules_of g n) → holds r ≡ admits g t r) where
      pub from_rule : SomeRule g closed holds → SomeBelongs g closed t
      from_rule s = let a = any_in holds (rules_of g s.0) s.2 in (s.0, s.1, by_rule t s.0 a.0 a.1 (sym (alike s.0 a.0 s.1 a.1) ∙ a.2))

      pub a_rule : SomeBelongs g closed t → SomeRule g closed holds
      a_rule s = let a = to_rule t s.0 s.1 s.2 in (a.0, a.1, in_any holds (rules_of g a.0) a.3 (alike a.0 a.2 a.1 a.3 ∙ a.4))

  -- the last part apart

  -- whether a term belongs to a name that was found
  abbrev asks : Term → Option ℕ → Bool
  asks u None = false
  asks u (Some k) = belongs g u k

  asked_name : (u : Term) (o : Option ℕ) → asks u o ≡ true → (k : ℕ) × (o ≡ Some k) × (belongs g u k ≡ true)
  asked_name u None e = absurd (true≢false (sym e))
  asked_name u (Some k) e = (k, refl, e)

  all_behind : (p : (Rule → Bool) → Bool) (ts : List Term) (u : Term) → list_all p (map (admits g) (ts ++ u ∷ [])) ≡ (list_all p (map (admits g) ts) && p (admits g u))
  all_behind p [] u = and-true (p (admits g u))
  all_behind p (t ∷ ts) u = ap (λ b. p (admits g t) && b) (all_behind p ts u) ∙ regroup (p (admits g t)) (list_all p (map (admits g) ts)) (p (admits g u))
    where
      regroup : (a b c : Bool) → (a && (b && c)) ≡ ((a && b) && c)
      regroup true b c = refl
      regroup false b c = refl

  where_all : (u : Term) (b x : Bool) (o : Option ℕ) → x ≡ asks u o → (b && x) ≡ asks u (if b then o else None)
  where_all u true x o e = e
  where_all u false x o e = refl

  module _ (fits : Fits g) (reach : ℕ → Bool) (f : ℕ) (u : Term) where
    module _ (n : ℕ) (r : reach n ≡ true) where
      -- the names of a rule
      each_last : (place : ℕ) (ts : List Term) (sets : List (ℕ → Bool)) (ns whole : List ℕ) → AreTold g reach f place ts sets → In (rule.Node f whole) (rules_of g n) → ns ≡ drop place whole →
          admit_each g (map (admits g) (ts ++ u ∷ [])) ns ≡ asks u (last_name sets ns)
      each_last place [] [] [] whole told i e = refl
      each_last place [] [] (m ∷ []) whole told i e = and-true (belongs g u m)
      each_last place [] [] (m ∷ k ∷ ns) whole told i e = and-false (belongs g u m)
      each_last place [] (s ∷ sets) ns whole told i e = absurd told
      each_last place (t ∷ ts) [] ns whole told i e = absurd told
      each_last place (t ∷ ts) (s ∷ sets) [] whole told i e = refl
      each_last place (t ∷ ts) (s ∷ sets) (m ∷ ns) whole told i e =
          ap (λ b. b && admit_each g (map (admits g) (ts ++ u ∷ [])) ns) (sym (told.0 n m r found))
          ∙ where_all u (s m) _ (last_name sets ns) (each_last (suc place) ts sets ns whole told.1 i (left_at whole place m ns e).1)
        where
          picks : is_picked [] (Part f place) m (rule.Node f whole) ≡ true
          picks = ap (λ b. has_name m (if b then slice_get whole place else None)) (itself f) ∙ ap (has_name m) (left_at whole place m ns e).0 ∙ itself m

          found : finds g (Part f place) n m ≡ true
          found = in_any (is_picked [] (Part f place) m) (rules_of g n) i picks

      -- a rule holds of each compound, or the last part belongs to the name that it asks
      rule_last : (ts : List Term) (sets : List (ℕ → Bool)) → AreTold g reach f 0 ts sets → (x : Rule) → In x (rules_of g n) →
          admits_node g f (map (admits g) (ts ++ u ∷ [])) x ≡ (is_whole x || asks u (last_picked sets f x))
      rule_last ts sets told (rule.Basic basic.Term) i = refl
      rule_last ts sets told (rule.Basic basic.Struct) i = refl
      rule_last ts sets told (rule.Basic basic.Gnd) i =
          all_behind (λ p. p (rule.Basic basic.Gnd)) ts u ∙ ap (λ b. b && admits g u (rule.Basic basic.Gnd)) (sym (all_told g fits reach f n r 0 ts sets told i))
          ∙ where_all u (list_all (λ has. has GND_TYPE) sets) _ (Some GND_TYPE) (sym (gnd_alone g fits u))
      rule_last ts sets told (rule.Basic basic.Int) i = refl
      rule_last ts sets told (rule.Basic basic.Nnegint) i = refl
      rule_last ts sets told (rule.Basic basic.Atm) i = refl
      rule_last ts sets told (rule.Int k) i = refl
      rule_last ts sets told (rule.Atom a) i = refl
      rule_last ts sets told (rule.Unit m) i = refl
      rule_last ts sets told (rule.Node h ns) i = by (f == h) refl
        where
          by : (b : Bool) → (f == h) ≡ b → (b && admit_each g (map (admits g) (ts ++ u ∷ [])) ns) ≡ asks u (if b then last_name sets ns else None)
          by true e = each_last 0 ts sets ns ns told (subst (λ k. In (rule.Node k ns) (rules_of g n)) (sym (same_name f h e)) i) refl
          by false e = refl

  -- the names that the last part is asked for
  pub asks_last : Fits g → (closed : ℕ → Bool) → IsClosed g closed → (f : ℕ) (ts : List Term) (sets : List (ℕ → Bool)) (asked : ℕ → Bool) → AreTold g closed f 0 ts sets →
      ((n m : ℕ) → closed n ≡ true → finds_in g sets (Last f) n m ≡ true → m < 512 → asked m ≡ true) → ((m : ℕ) → asked m ≡ true → IsFrom g sets (Last f) closed (bit_at no_words) m) →
      AsksLast g closed f ts asked
  asks_last fits closed is_closed f ts sets asked told found only = record { down = goes_down; up = goes_up }
    where
      admitted : (u : Term) (n : ℕ) → closed n ≡ true → (x : Rule) → In x (rules_of g n) → admits g (Node f (ts ++ u ∷ [])) x ≡ (is_whole x || asks u (last_picked sets f x))
      admitted u n e x i = ap (λ p. p x) (fold-Node _ (admits_step g) f (ts ++ u ∷ [])) ∙ rule_last fits closed f u n e ts sets told x i

      goes_down : (u : Term) → SomeBelongs g closed (Node f (ts ++ u ∷ [])) → SomeRule g closed is_whole ⊎ SomeBelongs g asked u
      goes_down u s =
          let a = to_rule fits.few closed is_closed (Node f (ts ++ u ∷ [])) s.0 s.1 s.2 in
          by a.0 a.1 a.2 a.3 (is_whole a.2) refl (sym (admitted u a.0 a.1 a.2 a.3) ∙ a.4)
        where
          by : (n : ℕ) → closed n ≡ true → (x : Rule) → In x (rules_of g n) → (b : Bool) → is_whole x ≡ b → (is_whole x || asks u (last_picked sets f x)) ≡ true → SomeRule g closed is_whole ⊎ SomeBelongs g asked u
          by n e x i true w h = inl (n, e, in_any is_whole (rules_of g n) i w)
          by n e x i false w h =
              let k = asked_name u (last_picked sets f x) (sym (ap (λ b. b || asks u (last_picked sets f x)) w) ∙ h) in
              let there = member_named u k.0 k.2 in
              let picks : is_picked sets (Last f) k.0 x ≡ true = ap (has_name k.0) k.1 ∙ itself k.0 in
              inr (k.0, found n k.0 e (in_any (is_picked sets (Last f) k.0) (rules_of g n) i picks) (omega (arith, there, fits.few)), k.2)

      goes_up : (u : Term) → SomeBelongs g asked u → SomeBelongs g closed (Node f (ts ++ u ∷ []))
      goes_up u s = at (only s.0 s.1)
        where
          or_second : (a b : Bool) → b ≡ true → (a || b) ≡ true
          or_second true b e = refl
          or_second false b e = e

          at : IsFrom g sets (Last f) closed (bit_at no_words) s.0 → SomeBelongs g closed (Node f (ts ++ u ∷ []))
          at (inl was) = absurd (true≢false (sym was ∙ none_in s.0))
          at (inr more) =
              let a = any_in (is_picked sets (Last f) s.0) (rules_of g more.0) more.2 in
              let is : asks u (last_picked sets f a.0) ≡ true = ap (asks u) (named_some s.0 (last_picked sets f a.0) a.2) ∙ s.2 in
              (more.0, more.1, by_rule (Node f (ts ++ u ∷ [])) more.0 a.0 a.1 (admitted u more.0 more.1 a.0 a.1 ∙ or_second (is_whole a.0) _ is))

-- what holds where the only part has no name holds of each compound

whole_same : (f : ℕ) (r : Rule) → head_holds (bit_at no_words ∷ []) (head.Node f) r ≡ is_whole r
whole_same f (rule.Basic basic.Term) = refl
whole_same f (rule.Basic basic.Struct) = refl
whole_same f (rule.Basic basic.Gnd) = ap (λ b. b && true) (none_in GND_TYPE)
whole_same f (rule.Basic basic.Int) = refl
whole_same f (rule.Basic basic.Nnegint) = refl
whole_same f (rule.Basic basic.Atm) = refl
whole_same f (rule.Int k) = refl
whole_same f (rule.Atom a) = refl
whole_same f (rule.Unit m) = refl
whole_same f (rule.Node h []) = and-false (f == h)
whole_same f (rule.Node h (n ∷ ns)) = ap (λ b. (f == h) && (b && each_has [] ns)) (none_in n) ∙ and-false (f == h)

pub rule_whole : (g : Grammar) (closed : ℕ → Bool) (f : ℕ) → SomeRule g closed (head_holds (bit_at no_words ∷ []) (head.Node f)) → SomeRule g closed is_whole
rule_whole g closed f s = (s.0, s.1, sym (any_same (head_holds (bit_at no_words ∷ []) (head.Node f)) is_whole (rules_of g s.0) (λ r i. whole_same f r)) ∙ s.2)

pub whole_rule : (g : Grammar) (closed : ℕ → Bool) (f : ℕ) → SomeRule g closed is_whole → SomeRule g closed (head_holds (bit_at no_words ∷ []) (head.Node f))
whole_rule g closed f s = (s.0, s.1, any_same (head_holds (bit_at no_words ∷ []) (head.Node f)) is_whole (rules_of g s.0) (λ r i. whole_same f r) ∙ s.2)

-- a loop over the names of a set

no_unit_holds : (known : List (ℕ → Bool)) (h : Head) (m : ℕ) → head_holds known h (rule.Unit m) ≡ false
no_unit_holds known head.Var m = refl
no_unit_holds known (head.Int n) m = refl
no_unit_holds known (head.Atom a) m = refl
no_unit_holds known (head.Node f) m = refl

module _ (g : Grammar) (names : ℕ → Bool) (known : List (ℕ → Bool)) (h : Head) where
  same_rules : (n : ℕ) → list_any (passes_in (head_holds known h) (bit_at no_words)) (rules_of g n) ≡ list_any (head_holds known h) (rules_of g n)
  same_rules n = any_same (passes_in (head_holds known h) (bit_at no_words)) (head_holds known h) (rules_of g n) (λ r i. same r)
    where
      same : (r : Rule) → passes_in (head_holds known h) (bit_at no_words) r ≡ head_holds known h r
      same (rule.Unit m) = none_in m ∙ sym (no_unit_holds known h m)
      same (rule.Basic b) = refl
      same (rule.Int k) = refl
      same (rule.Atom a) = refl
      same (rule.Node f ns) = refl

  -- no rule of the first names holds
  abbrev pub NoneBelow : ℕ → Type 0
  NoneBelow k = (n : ℕ) → n < k → names n ≡ true → list_any (head_holds known h) (rules_of g n) ≡ false

  module _ (k : ℕ) (b : Bool) (is : b ≡ (names k && list_any (passes_in (head_holds known h) (bit_at no_words)) (rules_of g k))) where
    pub holds_here : b ≡ true → SomeRule g names (head_holds known h)
    holds_here e = by (names k) refl (sym is ∙ e)
      where
        by : (c : Bool) → names k ≡ c → (c && list_any (passes_in (head_holds known h) (bit_at no_words)) (rules_of g k)) ≡ true → SomeRule g names (head_holds known h)
        by true q f = (k, q, sym (same_rules k) ∙ f)
        by false q f = absurd (true≢false (sym f))

    pub none_here : b ≡ false → NoneBelow k → NoneBelow (k + 1)
    none_here e had n lt q = by (n == k) refl
      where
        by : (c : Bool) → (n == k) ≡ c → list_any (head_holds known h) (rules_of g n) ≡ false
        by true f =
            let same : n ≡ k = grind (arith, nat_tests) in
            ap (λ j. list_any (head_holds known h) (rules_of g j)) same ∙ sym (same_rules k)
            ∙ sym (ap (λ c. c && list_any (passes_in (head_holds known h) (bit_at no_words)) (rules_of g k)) (sym (ap names same) ∙ q)) ∙ sym is ∙ e
        by false f = let other : (n ≡ k → ⊥) = grind (arith, nat_tests) in had n (omega (arith, other, lt)) q

  pub none_at_all : (k : ℕ) → length g.rules ≤ k → NoneBelow k → SomeRule g names (head_holds known h) → false ≡ true
  none_at_all k le had s =
      let a = any_in (head_holds known h) (rules_of g s.0) s.2 in
      let there = ruled g.rules a.0 s.0 a.1 in
      sym (had s.0 (omega (arith, there, le)) s.1) ∙ s.2

-- one name alone

pub single_belongs : (g : Grammar) → Fits g → (t : Term) (name : ℕ) (asked : List ℕ) (b : Bool) → ((n : ℕ) → bit_at asked n ≡ (bit_at no_words n || (nat_lt n 512 && n == name))) →
    (b ≡ true → SomeBelongs g (bit_at asked) t) → (SomeBelongs g (bit_at asked) t → b ≡ true) → b ≡ belongs g t name
single_belongs g fits t name asked b put some none = by b (belongs g t name) refl refl
  where
    in_asked : (n : ℕ) → bit_at asked n ≡ (nat_lt n 512 && n == name)
    in_asked n = put n ∙ ap (λ c. c || (nat_lt n 512 && n == name)) (none_in n)

    is_name : (n : ℕ) → bit_at asked n ≡ true → n ≡ name
    is_name n e = at (nat_lt n 512) (n == name) refl (sym (in_asked n) ∙ e)
      where
        at : (c d : Bool) → (n == name) ≡ d → (c && d) ≡ true → n ≡ name
        at true true q h = same_name n name q
        at true false q h = absurd (true≢false (sym h))
        at false d q h = absurd (true≢false (sym h))

    asked_for : belongs g t name ≡ true → bit_at asked name ≡ true
    asked_for e =
        let there = member_named g t name e in
        let lt : name < 512 = omega (arith, there, fits.few) in
        let small : nat_lt name 512 ≡ true = grind (arith, nat_tests) in
        in_asked name ∙ ap (λ c. c && name == name) small ∙ itself name

    by : (c d : Bool) → b ≡ c → belongs g t name ≡ d → c ≡ d
    by true true p q = refl
    by false false p q = refl
    by true false p q = let s = some p in absurd (true≢false (sym s.2 ∙ ap (belongs g t) (is_name s.0 s.1) ∙ q))
    by false true p q = absurd (true≢false (sym (none (name, asked_for q, q)) ∙ p))

-- a set of one name
module _ (g : Grammar) (names : ℕ → Bool) (t : Term) (single : (n m : ℕ) → names n ≡ true → names m ≡ true → n ≡ m) where
  pub single_stays : SomeBelongs g names t → (n : ℕ) → names n ≡ true → names n ≡ belongs g t n
  single_stays s n e = e ∙ sym (ap (belongs g t) (single n s.0 e s.1) ∙ s.2)

pub none_stays : (g : Grammar) (names : ℕ → Bool) (t : Term) → (SomeBelongs g names t → false ≡ true) → (n : ℕ) → names n ≡ true → bit_at no_words n ≡ belongs g t n
none_stays g names t none n e = none_in n ∙ by (belongs g t n) refl
  where
    by : (b : Bool) → belongs g t n ≡ b → false ≡ b
    by true q = none (n, e, q)
    by false q = refl

pub no_names : (g : Grammar) (names : List ℕ) (t : Term) → names ≡ no_words → SomeBelongs g (bit_at names) t → false ≡ true
no_names g names t e s = sym (ap (λ ws. bit_at ws s.0) e ∙ none_in s.0) ∙ s.1
