-- A name's rules and their leaves hold of the same terms.
use Rattle.std.proofs.Common.{◌≡◌, ℕ, zero, suc, ◌+◌, ◌*◌, ◌<◌, ◌≤◌, Bool, true, false, ◌||◌, ◌&&◌, List, [], ◌∷◌, ◌++◌, length, map, get_or, refl, sym, ap, ◌∙◌, arith}
use Rattle.std.specs.Prelude.{filter, flat_map}
use Rattle.std.proofs.lemmas.Nat.{row_fits, mul-le}
use Rattle.term_core.specs.Terms.{depth_of, greatest}
use Rattle.std.specs.List.{list_any}
use Rattle.term_core.specs.declared.terms.Term.{Term}
use Rattle.prog_data.specs.declared.grammars.Rule.{Rule}
use Rattle.prog_data.specs.declared.grammars.Rule.TheVariants.{Basic as BasicRule, Int, Atom, Node, Unit as UnitRule}
use Rattle.prog_data.specs.declared.grammars.Grammar.{Grammar}
use Rattle.prog_data.specs.Membership.{rules_of, is_leaf, unit_of, leaves_within, admit_each, leaves}
use Rattle.prop_check.specs.Belonging.{passes}

any_append : {A : Type 0} (p : A → Bool) (xs ys : List A) → list_any p (xs ++ ys) ≡ (list_any p xs || list_any p ys)
any_append p [] ys = refl
any_append p (x ∷ xs) ys = ap (λ b. p x || b) (any_append p xs ys) ∙ regroup (p x) (list_any p xs) (list_any p ys)
  where
    regroup : (a b c : Bool) → (a || (b || c)) ≡ ((a || b) || c)
    regroup true b c = refl
    regroup false b c = refl

leaf_first : (a b c d : Bool) → (b || c) ≡ d → ((a || b) || c) ≡ (a || d)
leaf_first true b c d e = refl
leaf_first false b c d e = e

unit_first : (a b c d : Bool) → (b || c) ≡ d → (b || (a || c)) ≡ (a || d)
unit_first a true c d e = sym (or_true a) ∙ ap (λ x. a || x) e
  where
    or_true : (a : Bool) → (a || true) ≡ true
    or_true true = refl
    or_true false = refl
unit_first a false c d e = ap (λ x. a || x) e

module _ (g : Grammar) (p : Rule → Bool) where
  none_further : (rs : List Rule) → list_any p (filter is_leaf rs) ≡ list_any (passes p zero g) rs
  none_further [] = refl
  none_further (UnitRule m ∷ rs) = none_further rs
  none_further (BasicRule b ∷ rs) = ap (λ x. p (BasicRule b) || x) (none_further rs)
  none_further (Int n ∷ rs) = ap (λ x. p (Int n) || x) (none_further rs)
  none_further (Atom a ∷ rs) = ap (λ x. p (Atom a) || x) (none_further rs)
  none_further (Node f ns ∷ rs) = ap (λ x. p (Node f ns) || x) (none_further rs)

  module _ (k : ℕ) where
    abbrev further : List Rule → Bool
    further rs = list_any p (flat_map (leaves_within k g) (flat_map unit_of rs))

    step : (rs : List Rule) → (list_any p (filter is_leaf rs) || further rs) ≡ list_any (passes p (suc k) g) rs
    step [] = refl
    step (UnitRule m ∷ rs) =
        ap (λ x. list_any p (filter is_leaf rs) || x) (any_append p (leaves_within k g m) (flat_map (leaves_within k g) (flat_map unit_of rs)))
        ∙ unit_first (list_any p (leaves_within k g m)) (list_any p (filter is_leaf rs)) (further rs) _ (step rs)
    step (BasicRule b ∷ rs) = leaf_first (p (BasicRule b)) (list_any p (filter is_leaf rs)) (further rs) _ (step rs)
    step (Int n ∷ rs) = leaf_first (p (Int n)) (list_any p (filter is_leaf rs)) (further rs) _ (step rs)
    step (Atom a ∷ rs) = leaf_first (p (Atom a)) (list_any p (filter is_leaf rs)) (further rs) _ (step rs)
    step (Node f ns ∷ rs) = leaf_first (p (Node f ns)) (list_any p (filter is_leaf rs)) (further rs) _ (step rs)

  -- a leaf of a name holds where one of its rules does
  pub rules_pass : (k n : ℕ) → list_any p (leaves_within k g n) ≡ list_any (passes p k g) (rules_of g n)
  rules_pass zero n = none_further (rules_of g n)
  rules_pass (suc k) n = any_append p (filter is_leaf (rules_of g n)) _ ∙ step k (rules_of g n)

module _ (g : Grammar) where
  -- other numbers of terms and names do not fit
  pub unequal : (ps : List (Rule → Bool)) (ns : List ℕ) → (length ps ≡ length ns → ⊥) → admit_each g ps ns ≡ false
  unequal [] [] h = absurd (h refl)
  unequal [] (n ∷ ns) h = refl
  unequal (p ∷ ps) [] h = refl
  unequal (p ∷ ps) (n ∷ ns) h = both (list_any p (leaves g n)) _ (unequal ps ns (λ e. h (ap suc e)))
    where
      both : (a b : Bool) → b ≡ false → (a && b) ≡ false
      both true b e = e
      both false b e = refl

-- how much a term of this depth has to do in a grammar of so many names
abbrev pub weight : ℕ → ℕ → ℕ
weight depth names = depth * (names + 2)

-- a part has less to do, also after all unit rules
pub part_weighs : (part whole names : ℕ) → part < whole → weight part names + names + 1 < weight whole names
part_weighs part whole names less = let row : part * (names + 2) + (names + 2) ≤ whole * (names + 2) = row_fits part (names + 2) whole (names + 2) less (omega arith) in omega (arith, row)

-- a part has at most what the deepest one has to do
pub deepest_weighs : (part whole names : ℕ) → part ≤ whole → weight part names ≤ weight whole names
deepest_weighs part whole names le = mul-le part (names + 2) whole (names + 2) le (omega arith)

-- no part is deeper than the deepest
pub deepest : (ts : List Term) (i : ℕ) (t : Term) → i < length ts → t ≡ get_or ts i t → depth_of t ≤ greatest (map depth_of ts)
deepest [] i t less is = omega (arith, less)
deepest (u ∷ ts) zero t less is = omega (arith, ap depth_of is)
deepest (u ∷ ts) (suc i) t less is = let rest : depth_of t ≤ greatest (map depth_of ts) = deepest ts i t (omega (arith, less)) is in omega (arith, rest)
