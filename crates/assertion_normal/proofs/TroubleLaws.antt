-- There is a first trouble exactly where an assertion is in trouble; what is told of it.
use Rattle.std.proofs.Common.{◌≡◌, ℕ, Bool, true, false, List, [], ◌∷◌, map, refl, ap, sym, ◌∙◌}
use Rattle.std.specs.Prelude.{cond, Option, Some, None, option_map}
use Rattle.std.specs.List.{AllByRecursion}
use Rattle.term_core.proofs.OperandLaws.{none_part}
use Rattle.prog_data.specs.declared.grammars.Grammar.{Grammar}
use Rattle.prog_data.specs.declared.grammars.Seen.{Seen}
use Rattle.assertion_read.specs.declared.assertions.Assertion.{Assertion}
use Rattle.assertion_normal.specs.declared.outcomes.NormalFault.{NormalFault}
use Rattle.assertion_normal.specs.declared.outcomes.NormalFault.TheVariants.{UnknownProperty, Ambiguous, TooManyNames, NoMemory}
use Rattle.assertion_normal.specs.declared.troubles.Trouble.{Trouble}
use Rattle.assertion_normal.specs.declared.troubles.Trouble.TheVariants as what
use Rattle.assertion_normal.specs.declared.troubles.Troubled.{Troubled}
use Rattle.assertion_normal.specs.Settling.{IsNoRoom, all_settled}
use Rattle.assertion_normal.specs.Troubles.{trouble_of, at_line, is_before, sooner, least_from, troubled, least_trouble, told_at, told}
use Rattle.assertion_normal.specs.Normals.{given, IsNormalFault}
use Rattle.assertion_normal.specs.Ranges.{IsKept}
use Rattle.assertion_normal.specs.Laws.{IsFirstTrouble, TroublesAreFound}
use Rattle.assertion_normal.proofs.EachLaws.{each_in}
use Rattle.assertion_normal.proofs.FirstTroubles.{same_troubled, later, first_is}

-- the first of troubles is none exactly where all are none

either_some : (b : Bool) (x y : Troubled) → ◌≡◌ {A = Option Troubled} (cond b (Some x) (Some y)) None → ⊥
either_some true x y e = none_part x (sym e)
either_some false x y e = none_part y (sym e)

sooner_none : (a b : Option Troubled) → sooner a b ≡ None → (a ≡ None) × (b ≡ None)
sooner_none None b e = (refl, e)
sooner_none (Some a) None e = absurd (none_part a (sym e))
sooner_none (Some a) (Some b) e = absurd (either_some (is_before b a) b a e)

from_none : (found : Option Troubled) (ts : List (Option Troubled)) → least_from found ts ≡ None → (found ≡ None) × AllByRecursion (λ t. t ≡ None) ts
from_none found [] e = (e, tt)
from_none found (t ∷ ts) e = let rest = from_none (sooner found t) ts e in let both = sooner_none found t rest.0 in (both.0, (both.1, rest.1))

to_none : (ts : List (Option Troubled)) → AllByRecursion (λ t. t ≡ None) ts → least_from None ts ≡ None
to_none [] h = refl
to_none (t ∷ ts) h = ap (λ o. least_from o ts) h.0 ∙ to_none ts h.1

module _ (names : List (List ℕ)) (seen : List Seen) where
  untroubled : (a : Assertion) → troubled names seen a ≡ None → trouble_of names seen a ≡ None
  untroubled a e = by (trouble_of names seen a) e
    where
      by : (o : Option Trouble) → option_map (at_line a.line) o ≡ None → o ≡ None
      by None e' = refl
      by (Some t) e' = absurd (none_part (at_line a.line t) (sym e'))

  each_untroubled : (list : List Assertion) → AllByRecursion (λ t. t ≡ None) (map (troubled names seen) list) → AllByRecursion (λ a. trouble_of names seen a ≡ None) list
  each_untroubled [] h = tt
  each_untroubled (a ∷ as') h = (untroubled a h.0, each_untroubled as' h.1)

  all_untroubled : (list : List Assertion) → AllByRecursion (λ a. trouble_of names seen a ≡ None) list → AllByRecursion (λ t. t ≡ None) (map (troubled names seen) list)
  all_untroubled [] h = tt
  all_untroubled (a ∷ as') h = (ap (option_map (at_line a.line)) h.0, all_untroubled as' h.1)

-- what is the first trouble is found
module _ (names : List (List ℕ)) (seen : List Seen) (list : List Assertion) (t : Troubled) where
  is_found : IsFirstTrouble names seen list t → least_trouble names seen list ≡ Some t
  is_found f = by (least_trouble names seen list) refl
    where
      by : (o : Option Troubled) → least_trouble names seen list ≡ o → o ≡ Some t
      by None i =
          let all = each_untroubled names seen list (from_none None (map (troubled names seen) list) i).1 in
          let none : trouble_of names seen f.assertion ≡ None = each_in (λ a. trouble_of names seen a ≡ None) list f.assertion all f.among in
          absurd (none_part t (sym (ap (option_map (at_line f.assertion.line)) none) ∙ f.trouble))
      by (Some u) i =
          let g = first_is names seen u list i in
          let after = each_in (λ a. (v : Troubled) → troubled names seen a ≡ Some v → is_before v u ≡ false) list f.assertion g.first f.among t f.trouble in
          let behind = each_in (λ a. (v : Troubled) → troubled names seen a ≡ Some v → is_before v t ≡ false) list g.assertion f.first g.among u g.trouble in
          ap (λ v. Some v) (same_troubled u t (later t u after) (later u t behind))

pub troubles_found : TroublesAreFound
troubles_found = record {
  none = λ names seen list. ((λ e. each_untroubled names seen list (from_none None (map (troubled names seen) list) e).1), (λ h. to_none (map (troubled names seen) list) (all_untroubled names seen list h)));
  first = λ names seen list t. ((λ e. first_is names seen t list e), is_found names seen list t);
}

-- what is told

module _ (names : List (List ℕ)) (file : ℕ) (seen : List Seen) (g : Grammar) (pred first : ℕ) (list : List Assertion) where
  told_is : (line : ℕ) (t : Trouble) → least_trouble names seen list ≡ Some (at_line line t) → IsNormalFault names file seen g pred first list (told_at line t)
  told_is line what.Unknown e = e
  told_is line what.Several e = e

  pub trouble_told : (t : Troubled) → least_trouble names seen list ≡ Some t → IsNormalFault names file seen g pred first list (told t)
  trouble_told t e = told_is t.line t.trouble e

  pub no_room_told : (fault : NormalFault) → least_trouble names seen list ≡ None → IsNoRoom (all_settled names seen g list) fault → IsNormalFault names file seen g pred first list fault
  no_room_told (UnknownProperty line) none h = absurd h
  no_room_told (Ambiguous line) none h = absurd h
  no_room_told TooManyNames none h = (none, ap (option_map (given names file seen g pred first list)) h)
  no_room_told NoMemory none h = tt

-- what the grammar is then

module _ (old : Grammar) where
  kept_by : (line : ℕ) (t : Trouble) → IsKept old old (told_at line t)
  kept_by line what.Unknown = refl
  kept_by line what.Several = refl

  pub trouble_kept : (t : Troubled) → IsKept old old (told t)
  trouble_kept t = kept_by t.line t.trouble

  pub no_room_kept : {A : Type 0} (new : Grammar) (o : Option A) (fault : NormalFault) → IsNoRoom o fault → IsKept old new fault
  no_room_kept new o (UnknownProperty line) h = absurd h
  no_room_kept new o (Ambiguous line) h = absurd h
  no_room_kept new o TooManyNames h = tt
  no_room_kept new o NoMemory h = tt
