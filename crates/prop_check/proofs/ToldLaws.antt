-- Leaves hold of a term where they admit it, if the names to which its parts belong are known.
use Rattle.std.proofs.Common.{◌≡◌, ℕ, zero, suc, ◌+◌, ◌<◌, ◌≤◌, Bool, true, false, ◌&&◌, ◌||◌, List, [], ◌∷◌, length, map, take, drop, get_or, refl, ap, sym, ◌∙◌, subst, arith, true≢false}
use Rattle.std.specs.Prelude.{◌==◌, nat_lt, Some, None, slice_get, if◌then◌else◌}
use Rattle.std.specs.List.{list_any, list_all}
use Rattle.std.proofs.lemmas.Bool.{and_from}
use Rattle.std.proofs.lemmas.Bool.Decides.{nat_tests}
use Rattle.std.proofs.Math.Bool.{or-false}
use Rattle.std.proofs.lemmas.List.{at_drop_all}
use Rattle.term_core.specs.Sizes.{size, size_all}
use Rattle.term_core.specs.Shapes.{is_compound}
use Rattle.term_core.specs.declared.terms.Term.{Term, Node, out-Term}
use Rattle.term_core.specs.declared.terms.Term.TheVariants.{outs-Var, outs-Int, outs-Atom, outs-Node}
use Rattle.term_core.proofs.Turns.{turn}
use Rattle.term_core.proofs.TermFolds.{fold-Var, fold-Int, fold-Atom, fold-Node, ind_terms}
use Rattle.prog_data.specs.declared.basic_names.TheConstants.{GND_TYPE}
use Rattle.prog_data.specs.declared.grammars.Basic.TheVariants as basic
use Rattle.prog_data.specs.declared.grammars.Rule.{Rule}
use Rattle.prog_data.specs.declared.grammars.Rule.TheVariants as rule
use Rattle.prog_data.specs.declared.grammars.Grammar.{Grammar}
use Rattle.prog_data.specs.Membership.{rules_of, admits, admits_step, admits_node, admit_each, belongs}
use Rattle.prog_data.proofs.Leaves.{In, in_any}
use Rattle.prog_data.specs.Values.{bit_at}
use Rattle.prop_check.specs.declared.gathering.Look.TheVariants.{Part}
use Rattle.prop_check.specs.Belonging.{passes}
use Rattle.prop_check.specs.Sets.{Fits, has_name, is_picked, finds, IsClosed, AreTold, IsTold, each_has, node_holds, head_holds}
use Rattle.prop_check.specs.Heads.{head_of}
use Rattle.prop_check.specs.declared.heads.Head.TheVariants as head
use Rattle.prop_check.proofs.Belonging.{rules_pass}
use Rattle.prop_check.proofs.GatherLaws.{or_right}
use Rattle.prop_check.proofs.RoundLaws.{itself, holds_within, none_within, alike_within}
use Rattle.prop_check.proofs.SetLaws.{beyond, no_words, none_in}

pub same_name : (a b : ℕ) → (a == b) ≡ true → a ≡ b
same_name a b e = grind (arith, nat_tests)

-- what is left of a list begins with what stands in that place
pub left_at : (xs : List ℕ) (i x : ℕ) (rest : List ℕ) → x ∷ rest ≡ drop i xs → (slice_get xs i ≡ Some x) × (rest ≡ drop (suc i) xs)
left_at [] zero x rest e = absurd (omega (arith, ap length e))
left_at [] (suc i) x rest e = absurd (omega (arith, ap length e))
left_at (y ∷ ys) zero x rest e = (ap (λ l. slice_get l 0) (sym e), ap (drop 1) e)
left_at (y ∷ ys) (suc i) x rest e = left_at ys i x rest e

-- the measure of a walk over parts, from the last to the first
taken : (ts : List Term) (place : ℕ) (t : Term) → place < length ts → t ≡ get_or ts place t → size_all (take (suc place) ts) ≡ size_all (take place ts) + size t
taken [] place t lt e = absurd (omega (arith, lt))
taken (u ∷ ts) zero t lt e = omega (arith, ap size e)
taken (u ∷ ts) (suc i) t lt e = omega (arith, taken ts i t (omega (arith, lt)) e)

module _ (g : Grammar) where
  -- a term that is no compound
  pub atomic_holds : (known : List (ℕ → Bool)) (t : Term) → is_compound (out-Term t) ≡ false → (r : Rule) → head_holds known (head_of (out-Term t)) r ≡ admits g t r
  atomic_holds known =
      ind_terms (λ t. is_compound (out-Term t) ≡ false → (r : Rule) → head_holds known (head_of (out-Term t)) r ≡ admits g t r)
      (λ v h r. ap (λ x. head_holds known (head_of x) r) (outs-Var v) ∙ sym (ap (λ p. p r) (fold-Var _ (admits_step g) v)))
      (λ n h r. ap (λ x. head_holds known (head_of x) r) (outs-Int n) ∙ sym (ap (λ p. p r) (fold-Int _ (admits_step g) n)))
      (λ a h r. ap (λ x. head_holds known (head_of x) r) (outs-Atom a) ∙ sym (ap (λ p. p r) (fold-Atom _ (admits_step g) a)))
      (λ f ts ih h r. absurd (true≢false (sym (ap is_compound (outs-Node f ts)) ∙ h)))

  module _ (fits : Fits g) where
    -- gnd has its own rule alone
    pub gnd_alone : (t : Term) → belongs g t GND_TYPE ≡ admits g t (rule.Basic basic.Gnd)
    gnd_alone t = rules_pass g (admits g t) (length g.rules) GND_TYPE ∙ ap (list_any (passes (admits g t) (length g.rules) g)) fits.gnd ∙ or-false (admits g t (rule.Basic basic.Gnd))

    module _ (reach : ℕ → Bool) (f n : ℕ) (r : reach n ≡ true) where
      -- the names of a rule
      pub each_told : (place : ℕ) (ts : List Term) (sets : List (ℕ → Bool)) (ns whole : List ℕ) → AreTold g reach f place ts sets → In (rule.Node f whole) (rules_of g n) → ns ≡ drop place whole →
          each_has sets ns ≡ admit_each g (map (admits g) ts) ns
      each_told place [] [] [] whole told i e = refl
      each_told place [] [] (m ∷ ns) whole told i e = refl
      each_told place [] (s ∷ sets) ns whole told i e = absurd told
      each_told place (t ∷ ts) [] ns whole told i e = absurd told
      each_told place (t ∷ ts) (s ∷ sets) [] whole told i e = refl
      each_told place (t ∷ ts) (s ∷ sets) (m ∷ ns) whole told i e =
          ap (λ b. b && each_has sets ns) (told.0 n m r found) ∙ ap (λ b. belongs g t m && b) (each_told (suc place) ts sets ns whole told.1 i (left_at whole place m ns e).1)
        where
          picks : is_picked [] (Part f place) m (rule.Node f whole) ≡ true
          picks = ap (λ b. has_name m (if b then slice_get whole place else None)) (itself f) ∙ ap (has_name m) (left_at whole place m ns e).0 ∙ itself m

          found : finds g (Part f place) n m ≡ true
          found = in_any (is_picked [] (Part f place) m) (rules_of g n) i picks

      -- the rule gnd
      pub all_told : (place : ℕ) (ts : List Term) (sets : List (ℕ → Bool)) → AreTold g reach f place ts sets → In (rule.Basic basic.Gnd) (rules_of g n) →
          list_all (λ has. has GND_TYPE) sets ≡ list_all (λ p. p (rule.Basic basic.Gnd)) (map (admits g) ts)
      all_told place [] [] told i = refl
      all_told place [] (s ∷ sets) told i = absurd told
      all_told place (t ∷ ts) [] told i = absurd told
      all_told place (t ∷ ts) (s ∷ sets) told i =
          ap (λ b. b && list_all (λ has. has GND_TYPE) sets) (told.0 n GND_TYPE r (in_any (is_picked [] (Part f place) GND_TYPE) (rules_of g n) i refl) ∙ gnd_alone t)
          ∙ ap (λ b. admits g t (rule.Basic basic.Gnd) && b) (all_told (suc place) ts sets told.1 i)

      pub rule_told : (ts : List Term) (sets : List (ℕ → Bool)) → AreTold g reach f 0 ts sets → (x : Rule) → In x (rules_of g n) → node_holds sets f x ≡ admits_node g f (map (admits g) ts) x
      rule_told ts sets told (rule.Basic basic.Term) i = refl
      rule_told ts sets told (rule.Basic basic.Struct) i = refl
      rule_told ts sets told (rule.Basic basic.Gnd) i = all_told 0 ts sets told i
      rule_told ts sets told (rule.Basic basic.Int) i = refl
      rule_told ts sets told (rule.Basic basic.Nnegint) i = refl
      rule_told ts sets told (rule.Basic basic.Atm) i = refl
      rule_told ts sets told (rule.Int k) i = refl
      rule_told ts sets told (rule.Atom a) i = refl
      rule_told ts sets told (rule.Unit m) i = refl
      rule_told ts sets told (rule.Node h ns) i = by (f == h) refl
        where
          by : (b : Bool) → (f == h) ≡ b → (b && each_has sets ns) ≡ (b && admit_each g (map (admits g) ts) ns)
          by true e = each_told 0 ts sets ns ns told (subst (λ k. In (rule.Node k ns) (rules_of g n)) (sym (same_name f h e)) i) refl
          by false e = refl

    -- a compound
    pub node_told : (reach : ℕ → Bool) (f : ℕ) (ts : List Term) (sets : List (ℕ → Bool)) → AreTold g reach f 0 ts sets → (n : ℕ) (x : Rule) → reach n ≡ true → In x (rules_of g n) →
        head_holds sets (head.Node f) x ≡ admits g (Node f ts) x
    node_told reach f ts sets told n x r i = rule_told reach f n r ts sets told x i ∙ sym (ap (λ p. p x) (fold-Node _ (admits_step g) f ts))

    module _ (reach : ℕ → Bool) (closed : IsClosed g reach) (result : ℕ → Bool) where
      -- what is settled is what belongs, where leaves hold as they admit
      pub settled : (holds : Rule → Bool) (t : Term) → ((n : ℕ) (x : Rule) → reach n ≡ true → In x (rules_of g n) → holds x ≡ admits g t x) →
          ((n : ℕ) → result n ≡ (reach n && holds_within g holds (length g.rules) n)) → (n : ℕ) → result n ≡ (reach n && belongs g t n)
      settled holds t alike is n = is n ∙ by (reach n) refl
        where
          by : (b : Bool) → reach n ≡ b → (b && holds_within g holds (length g.rules) n) ≡ (b && belongs g t n)
          by true e = alike_within g fits.few reach closed holds (admits g t) alike (length g.rules) n e
          by false e = refl

      pub atomic_settled : (known : List (ℕ → Bool)) (t : Term) → is_compound (out-Term t) ≡ false → ((n : ℕ) → result n ≡ (reach n && holds_within g (head_holds known (head_of (out-Term t))) (length g.rules) n)) →
          (n : ℕ) → result n ≡ (reach n && belongs g t n)
      atomic_settled known t h = settled (head_holds known (head_of (out-Term t))) t (λ n x r i. atomic_holds known t h x)

      pub node_settled : (t : Term) (f : ℕ) (ts : List Term) (sets : List (ℕ → Bool)) → t ≡ Node f ts → AreTold g reach f 0 ts sets →
          ((n : ℕ) → result n ≡ (reach n && holds_within g (head_holds sets (head.Node f)) (length g.rules) n)) → (n : ℕ) → result n ≡ (reach n && belongs g t n)
      node_settled t f ts sets e told =
          settled (head_holds sets (head.Node f)) t (subst (λ t. (n : ℕ) (x : Rule) → reach n ≡ true → In x (rules_of g n) → head_holds sets (head.Node f) x ≡ admits g t x) (sym e) (node_told reach f ts sets told))

-- all parts are looked at
pub all_looked_at : (g : Grammar) (reach : ℕ → Bool) (t : Term) (f : ℕ) (ts : List Term) (left : ℕ) (sets : List (ℕ → Bool)) (result : ℕ → Bool) → IsTold g reach t f ts left sets → left ≡ 0 →
    ((n : ℕ) → result n ≡ (reach n && holds_within g (head_holds sets (head.Node f)) (length g.rules) n)) → (n : ℕ) → result n ≡ (reach n && belongs g t n)
all_looked_at g reach t f ts left sets result is e =
    node_settled g is.fits reach is.closed result t f ts sets is.compound (subst (λ k. AreTold g reach f k (drop k ts) sets) e is.told)

-- no part is
pub none_looked_at : (g : Grammar) (reach : ℕ → Bool) (t : Term) (f : ℕ) (ts : List Term) (left : ℕ) → Fits g → IsClosed g reach → t ≡ Node f ts → left ≡ length ts → IsTold g reach t f ts left []
none_looked_at g reach t f ts left fits closed is e = record {
  fits = fits;
  closed = closed;
  compound = is;
  within = omega (arith, e);
  told = subst (λ xs. AreTold g reach f left xs []) (sym (at_drop_all (λ xs. xs) ts left (omega (arith, e)))) tt;
}

-- one part more is
module _ (g : Grammar) (reach : ℕ → Bool) (t : Term) (f : ℕ) (ts : List Term) (left place : ℕ) (sets : List (ℕ → Bool)) (is : IsTold g reach t f ts left sets) (next : suc place ≡ left) where
  pub there : place < length ts
  there = omega (arith, is.within, next)

  module _ (part : Term) (at : part ≡ get_or ts place part) where
    pub part_size : size_all (take left ts) ≡ size_all (take place ts) + size part
    part_size = ap (λ k. size_all (take k ts)) (sym next) ∙ taken ts place part there at

    module _ (asked names : ℕ → Bool) (asks : (n m : ℕ) → reach n ≡ true → finds g (Part f place) n m ≡ true → m < 512 → asked m ≡ true) (narrowed : (m : ℕ) → asked m ≡ true → names m ≡ belongs g part m)
        (beyond : (m : ℕ) → 512 ≤ m → names m ≡ false) where
      tells : (n m : ℕ) → reach n ≡ true → finds g (Part f place) n m ≡ true → names m ≡ belongs g part m
      tells n m r found = by (nat_lt m 512) refl
        where
          by : (b : Bool) → nat_lt m 512 ≡ b → names m ≡ belongs g part m
          by true e = let lt : m < 512 = grind (arith, nat_tests) in narrowed m (asks n m r found lt)
          by false e = let le : 512 ≤ m = grind (arith, nat_tests) in beyond m le ∙ sym (none_within g (admits g part) (length g.rules) m (omega (arith, le, is.fits.few)))

      pub one_more_told : IsTold g reach t f ts place (names ∷ sets)
      one_more_told = record {
        fits = is.fits;
        closed = is.closed;
        compound = is.compound;
        within = omega (arith, there);
        told = subst (λ xs. AreTold g reach f place xs (names ∷ sets)) (sym whole) (tells, subst (λ k. AreTold g reach f k (drop k ts) sets) (sym next) is.told);
      }
        where
          whole : drop place ts ≡ part ∷ drop (suc place) ts
          whole = let one : place + 1 ≡ suc place = omega arith in turn (λ xs. xs) ts place part there at ∙ ap (λ k. part ∷ drop k ts) one

-- one name is asked for: what is left of it in the set is the answer
pub belongs_by_set : (g : Grammar) → Fits g → (t : Term) (name : ℕ) (start asked names : List ℕ) → length names ≡ 8 →
    ((n : ℕ) → bit_at asked n ≡ (bit_at start n || (nat_lt n 512 && n == name))) → ((n : ℕ) → bit_at asked n ≡ true → bit_at names n ≡ belongs g t n) → bit_at names name ≡ belongs g t name
belongs_by_set g fits t name start asked names l put narrowed = by (nat_lt name 512) refl
  where
    by : (b : Bool) → nat_lt name 512 ≡ b → bit_at names name ≡ belongs g t name
    by true e = narrowed name (put name ∙ or_right (bit_at start name) _ (and_from (nat_lt name 512) _ e (itself name)))
    by false e = let le : 512 ≤ name = grind (arith, nat_tests) in beyond names name l le ∙ sym (none_within g (admits g t) (length g.rules) name (omega (arith, le, fits.few)))

-- of the names that are asked for
pub asked_told : (asked reach result belong : ℕ → Bool) → ((n : ℕ) → asked n ≡ true → reach n ≡ true) → ((n : ℕ) → result n ≡ (reach n && belong n)) → (n : ℕ) → asked n ≡ true → result n ≡ belong n
asked_told asked reach result belong asks told n e = told n ∙ ap (λ b. b && belong n) (asks n e)

pub none_asked : (names : List ℕ) (belong : ℕ → Bool) → names ≡ no_words → (n : ℕ) → bit_at names n ≡ true → bit_at names n ≡ belong n
none_asked names belong e n h = absurd (true≢false (sym h ∙ ap (λ ws. bit_at ws n) e ∙ none_in n))
