-- What values say of properties, and how conditions narrow entries and exits.
-- The headline does not rest on this file.
use Rattle.std.specs.Prelude.{ℕ, ◌==◌, Bool, true, false, ◌&&◌, not, List, [], ◌∷◌, map, slice_index_or, Option, None, Some}
use Rattle.std.specs.List.{list_any, list_all}
use Rattle.prog_data.specs.declared.basic_names.TheConstants.{GND_TYPE}
use Rattle.prog_data.specs.declared.grammars.Basic.TheVariants as basic
use Rattle.prog_data.specs.declared.grammars.Rule.{Rule}
use Rattle.prog_data.specs.declared.grammars.Rule.TheVariants.{Basic as BasicRule}
use Rattle.prog_data.specs.declared.conditions.Prop.{Prop}
use Rattle.prog_data.specs.declared.conditions.Prop.TheVariants.{Belongs, IsVar, IsNonvar, IsGround}
use Rattle.prog_data.specs.declared.conditions.CondKind.{CondKind}
use Rattle.prog_data.specs.declared.conditions.CondKind.TheVariants.{Calls, Success}
use Rattle.prog_data.specs.declared.programs.Program.{Program}
use Rattle.prog_data.specs.Values.{TypeValue}
use Rattle.prog_data.specs.Conditions.{kind_of}
use Rattle.prog_data.specs.Goals.{pred_of}
use Rattle.name_order.specs.Relations.{names_below, Order}
use Rattle.type_domain.specs.Values.{term_name, has_name, is_set, join, meet, of_name, names_of}

-- lists of values

-- whether each is a value, and none is none
abbrev pub all_set : List TypeValue → Bool
all_set vs = list_all is_set vs

-- values met argument by argument
abbrev pub meet_each : Order → List TypeValue → List TypeValue → List TypeValue
meet_each o [] ws = []
meet_each o (v ∷ vs) [] = []
meet_each o (v ∷ vs) (w ∷ ws) = meet o v w ∷ meet_each o vs ws

-- values joined argument by argument
abbrev pub join_each : List TypeValue → List TypeValue → List TypeValue
join_each [] ws = []
join_each (v ∷ vs) [] = []
join_each (v ∷ vs) (w ∷ ws) = join v w ∷ join_each vs ws

-- what properties say

-- a value met with a name where this is the argument that is asked
abbrev pub meet_name : Order → Bool → ℕ → TypeValue → TypeValue
meet_name o true n v = meet o v (of_name o n)
meet_name o false n v = v

-- an argument's value met with what a property says of it
abbrev pub typed_by : Order → ℕ → TypeValue → Prop → TypeValue
typed_by o i v (Belongs j n) = meet_name o (i == j) n v
typed_by o i v (IsGround j) = meet_name o (i == j) GND_TYPE v
typed_by o i v other = v

-- an argument's value met with what each property says of it
abbrev pub type_of : Order → ℕ → TypeValue → List Prop → TypeValue
type_of o i v [] = v
type_of o i v (p ∷ ps) = type_of o i (typed_by o i v p) ps

-- the types of a conjunction: for each argument term, met with its types and, where it is ground, with gnd
abbrev pub types_of : Order → ℕ → List Prop → List TypeValue
types_of o arity props = map (λ i. type_of o i (of_name o term_name) props) (names_below arity)

-- whether a leaf is term
abbrev pub is_term : Rule → Bool
is_term (BasicRule basic.Term) = true
is_term other = false

-- whether some name of the value has no leaf term: no variable is in the value
abbrev pub says_nonvar : Order → TypeValue → Bool
says_nonvar o v = list_any (λ n. has_name v n && not (list_any is_term (o.leaves n))) (names_of o)

-- whether some name of the value does not meet the name: no term of the value belongs to it
abbrev pub is_apart : Order → TypeValue → ℕ → Bool
is_apart o v n = list_any (λ m. has_name v m && not (o.meets m n)) (names_of o)

-- the value of an argument; none where it is not there
abbrev pub value_at : List TypeValue → ℕ → TypeValue
value_at vs i = slice_index_or vs i None

-- whether a property holds of all terms of the values
abbrev pub implied : Order → List TypeValue → Prop → Bool
implied o vs (Belongs i n) = has_name (value_at vs i) n
implied o vs (IsGround i) = has_name (value_at vs i) GND_TYPE
implied o vs (IsNonvar i) = says_nonvar o (value_at vs i)
implied o vs (IsVar i) = false

-- whether a property holds of no terms of the values
abbrev pub excluded : Order → List TypeValue → Prop → Bool
excluded o vs (Belongs i n) = is_apart o (value_at vs i) n
excluded o vs (IsGround i) = is_apart o (value_at vs i) GND_TYPE
excluded o vs (IsVar i) = says_nonvar o (value_at vs i)
excluded o vs (IsNonvar i) = false

-- whether a conjunction is implied: each part is
abbrev pub all_implied : Order → List TypeValue → List Prop → Bool
all_implied o vs props = list_all (implied o vs) props

-- whether a conjunction is excluded: one part is
abbrev pub some_excluded : Order → List TypeValue → List Prop → Bool
some_excluded o vs props = list_any (excluded o vs) props

-- narrowing

-- the values where a test holds
abbrev pub values_where : Bool → List TypeValue → Option (List TypeValue)
values_where true vs = Some vs
values_where false vs = None

-- two lists of values joined, if they are there; none is neutral
abbrev pub join_values : Option (List TypeValue) → Option (List TypeValue) → Option (List TypeValue)
join_values None b = b
join_values (Some vs) None = Some vs
join_values (Some vs) (Some ws) = Some (join_each vs ws)

-- an entry met with a disjunct's types; one with a none counts nothing
abbrev pub met_with : Order → ℕ → List TypeValue → List Prop → Option (List TypeValue)
met_with o arity entry d =
    let met = meet_each o entry (types_of o arity d) in
    values_where (all_set met) met

-- the join over the disjuncts of the entry met with each
abbrev pub narrowed_by : Order → ℕ → List TypeValue → List (List Prop) → Option (List TypeValue)
narrowed_by o arity entry [] = None
narrowed_by o arity entry (d ∷ ds) = join_values (met_with o arity entry d) (narrowed_by o arity entry ds)

-- an entry narrowed by a condition, if that is one on calls; else what comes of the others
abbrev pub entry_at : Order → ℕ → List TypeValue → Option CondKind → Option (List TypeValue) → Option (List TypeValue)
entry_at o arity entry (Some (Calls ds)) more = narrowed_by o arity entry ds
entry_at o arity entry other more = more

-- an entry narrowed by the first calls condition among these; the entry itself where there is none
abbrev pub entry_by : Program → Order → ℕ → List TypeValue → List ℕ → Option (List TypeValue)
entry_by program o arity entry [] = Some entry
entry_by program o arity entry (c ∷ cs) = entry_at o arity entry (kind_of program c) (entry_by program o arity entry cs)

-- an entry narrowed by the predicate's calls condition; none where no clause is run
abbrev pub narrowed_entry : Program → Order → ℕ → List TypeValue → Option (List TypeValue)
narrowed_entry program o p entry = entry_by program o (pred_of program p).arity entry (pred_of program p).conds

-- values met with others where a test holds
abbrev pub meet_where_true : Order → Bool → List TypeValue → List TypeValue → List TypeValue
meet_where_true o true vs ws = meet_each o vs ws
meet_where_true o false vs ws = vs

-- an exit met with Post's types where the entry implies Pre
abbrev pub exit_at : Order → ℕ → List TypeValue → Option CondKind → List TypeValue → List TypeValue
exit_at o arity entry (Some (Success pre post)) exit = meet_where_true o (all_implied o entry pre) exit (types_of o arity post)
exit_at o arity entry other exit = exit

-- an exit narrowed by each of these conditions
abbrev pub exit_by : Program → Order → ℕ → List TypeValue → List ℕ → List TypeValue → List TypeValue
exit_by program o arity entry [] exit = exit
exit_by program o arity entry (c ∷ cs) exit = exit_by program o arity entry cs (exit_at o arity entry (kind_of program c) exit)

-- an exit narrowed by the predicate's success conditions
abbrev pub narrowed_exit : Program → Order → ℕ → List TypeValue → List TypeValue → List TypeValue
narrowed_exit program o p entry exit = exit_by program o (pred_of program p).arity entry (pred_of program p).conds exit
