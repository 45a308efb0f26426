-- What stays true when variables of terms are bound.
-- The headline does not rest on this file.
use Rattle.std.specs.Prelude.{◌≡◌, ◌↔◌, ℕ, Bool, true, false, List, map}
use Rattle.std.specs.List.{list_any}
use Rattle.term_core.specs.declared.terms.Term.{Term}
use Rattle.term_core.specs.Terms.{instance}
use Rattle.prog_data.specs.declared.conditions.Prop.{Prop}
use Rattle.prog_data.specs.declared.conditions.Prop.TheVariants.{IsVar}
use Rattle.prog_data.specs.declared.grammars.Grammar.{Grammar}
use Rattle.prog_data.specs.Membership.{Belongs}
use Rattle.prog_data.specs.Values.{TypeValue, AreIn}
use Rattle.prog_data.specs.Conditions.{holds, all_hold}

-- an instance of a term belongs to each name to which the term belongs
abbrev pub MembershipPersists : Grammar → Type 0
MembershipPersists g = (value : ℕ → Term) (t : Term) (n : ℕ) → Belongs g t n → Belongs g (instance value t) n

-- instances of terms are in the values in which the terms are
abbrev pub ValuesPersist : Grammar → Type 0
ValuesPersist g = (value : ℕ → Term) (ts : List Term) (vs : List TypeValue) → AreIn g ts vs → AreIn g (map (instance value) ts) vs

-- whether a property asks that an argument is a variable
abbrev pub asks_for_variable : Prop → Bool
asks_for_variable (IsVar i) = true
asks_for_variable other = false

-- a property that holds of arguments holds of their instances
abbrev pub Persists : Grammar → Prop → Type 0
Persists g property = (value : ℕ → Term) (args : List Term) → holds g args property ≡ true → holds g (map (instance value) args) property ≡ true

-- this is so exactly where the property does not ask for a variable
abbrev pub PropertiesPersist : Grammar → Type 0
PropertiesPersist g = (property : Prop) → Persists g property ↔ (asks_for_variable property ≡ false)

-- a conjunction of which no property asks for a variable, and that holds of arguments, holds of their instances
abbrev pub ConjunctionsPersist : Grammar → Type 0
ConjunctionsPersist g = (properties : List Prop) (value : ℕ → Term) (args : List Term) → list_any asks_for_variable properties ≡ false →
    all_hold g args properties ≡ true → all_hold g (map (instance value) args) properties ≡ true
