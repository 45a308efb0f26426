-- What is true of all conditions, claims and entries that are given, and of all assertions that are not in trouble.
-- The headline does not rest on this file.
use Rattle.std.specs.Prelude.{Contains, ◌≡◌, ◌↔◌, ◌<◌, ◌≤◌, ℕ, ◌+◌, true, false, List, map, length, drop, Some, None}
use Rattle.std.specs.List.{list_all, AllByRecursion}
use Rattle.prog_data.specs.declared.conditions.Prop.{Prop}
use Rattle.prog_data.specs.declared.conditions.Cond.{Cond}
use Rattle.prog_data.specs.declared.conditions.CondKind.{CondKind}
use Rattle.prog_data.specs.declared.grammars.Grammar.{Grammar}
use Rattle.prog_data.specs.declared.grammars.Seen.{Seen}
use Rattle.prog_data.specs.declared.programs.Claim.{Claim}
use Rattle.prog_data.specs.Conditions.{is_calls}
use Rattle.prog_data.specs.Ranges.{is_prop_of, is_kind_of}
use Rattle.assertion_read.specs.declared.assertions.Assertion.{Assertion}
use Rattle.assertion_normal.specs.declared.outcomes.Normal.{Normal}
use Rattle.assertion_normal.specs.declared.settling.Settled.{Settled}
use Rattle.assertion_normal.specs.declared.troubles.Trouble.{Trouble}
use Rattle.assertion_normal.specs.declared.troubles.Trouble.TheVariants as what
use Rattle.assertion_normal.specs.declared.troubles.Troubled.{Troubled}
use Rattle.assertion_normal.specs.Settling.{counts}
use Rattle.assertion_normal.specs.Conditions.{numbers_from, normal_of}
use Rattle.assertion_normal.specs.Normals.{normalised}
use Rattle.assertion_normal.specs.Ranges.{IsGrown, StaysInRange}
use Rattle.assertion_normal.specs.Troubles.{own_troubles, trouble_of, is_before, troubled, least_trouble}

-- a condition is on the predicate, at a line of the file
pub record IsConditionOf (source owner : ℕ) (c : Cond) : Type 0 where
  pub file : c.place.file ≡ source
  pub pred : c.pred ≡ owner

-- a claim is about the predicate, at a line of the file, and its conditions have numbers from the first one on, below the last
pub record IsClaimOf (source owner first last : ℕ) (c : Claim) : Type 0 where
  pub file : c.place.file ≡ source
  pub pred : c.pred ≡ owner
  pub numbers : AllByRecursion (λ n. (first ≤ n) × (n < last)) c.conds

-- what is given is about the predicate: its conditions are numbered one after the other from the first number on, and none but the first is one on calls
pub record IsOfPredicate (file pred first : ℕ) (normal : Normal) : Type 0 where
  pub numbers : map (λ c. c.id) normal.conds ≡ numbers_from first (length normal.conds)
  pub conds : AllByRecursion (IsConditionOf file pred) normal.conds
  pub calls_first : AllByRecursion (λ c. is_calls (Some c.kind) ≡ false) (drop 1 normal.conds)
  pub claims : AllByRecursion (IsClaimOf file pred first (length normal.conds + first)) normal.claims
  pub entries : AllByRecursion (λ e. e.pred ≡ pred) normal.entries

-- whatever assertions were looked up, what they give is so
abbrev pub ConditionsAreNumbered : Type 0
ConditionsAreNumbered = (file pred first : ℕ) (list : List Settled) → IsOfPredicate file pred first (normal_of file pred first list)

-- a trouble is that of an assertion at its line, and none of the assertions has one that comes before it
pub record IsFirstTrouble (names : List (List ℕ)) (seen : List Seen) (list : List Assertion) (t : Troubled) : Type 0 where
  pub assertion : Assertion
  pub among : Contains list assertion
  pub trouble : troubled names seen assertion ≡ Some t
  pub first : AllByRecursion (λ a. (u : Troubled) → troubled names seen a ≡ Some u → is_before u t ≡ false) list

-- an assertion that has an effect has a name that is in this trouble
abbrev pub HasTrouble : List (List ℕ) → List Seen → Assertion → Trouble → Type 0
HasTrouble names seen a t = (counts a.mark ≡ true) × Contains (own_troubles names seen a) (Some t)

-- an assertion's trouble is that a name means nothing exactly where one of its names does, and that one means several types exactly where one does and none means nothing
pub record OwnTroubleIsTold : Type 0 where
  pub unknown : (names : List (List ℕ)) (seen : List Seen) (a : Assertion) → (trouble_of names seen a ≡ Some what.Unknown) ↔ HasTrouble names seen a what.Unknown
  pub several : (names : List (List ℕ)) (seen : List Seen) (a : Assertion) → (trouble_of names seen a ≡ Some what.Several) ↔ (HasTrouble names seen a what.Several × (HasTrouble names seen a what.Unknown → ⊥))

-- there is no first trouble exactly where no assertion is in trouble, and a trouble is the first one exactly where it is so
pub record TroublesAreFound : Type 0 where
  pub none : (names : List (List ℕ)) (seen : List Seen) (list : List Assertion) → (least_trouble names seen list ≡ None) ↔ AllByRecursion (λ a. trouble_of names seen a ≡ None) list
  pub first : (names : List (List ℕ)) (seen : List Seen) (list : List Assertion) (t : Troubled) → (least_trouble names seen list ≡ Some t) ↔ IsFirstTrouble names seen list t

-- conditions and entries that ask for names of a grammar ask for names of each larger one
abbrev pub RangesGrow : Type 0
RangesGrow = (arity size more : ℕ) → size ≤ more →
    ((kind : CondKind) → is_kind_of arity size kind ≡ true → is_kind_of arity more kind ≡ true)
    × ((props : List Prop) → list_all (is_prop_of arity size) props ≡ true → list_all (is_prop_of arity more) props ≡ true)

-- what assertions give is about their predicate, and in range, and the grammar behind it has grown by lists alone
pub record IsNormalised (seen : List Seen) (old : Grammar) (file pred first : ℕ) (list : List Assertion) (made : Grammar × Normal) : Type 0 where
  pub grown : IsGrown seen old made.0
  pub of_predicate : IsOfPredicate file pred first made.1
  pub range : StaysInRange seen old list made.0 made.1

-- so it is of all assertions
abbrev pub NormalsAreInRange : Type 0
NormalsAreInRange = (names : List (List ℕ)) (file : ℕ) (seen : List Seen) (old : Grammar) (pred first : ℕ) (list : List Assertion) (made : Grammar × Normal)
    → normalised names file seen old pred first list ≡ Some made → IsNormalised seen old file pred first list made
