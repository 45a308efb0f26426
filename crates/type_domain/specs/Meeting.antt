-- A meet of many values that is tested once.
-- The headline does not rest on this file.
use Rattle.std.specs.Prelude.{ℕ, Bool, true, false, ◌||◌, List, [], ◌∷◌, None, Some}
use Rattle.prog_data.specs.Values.{TypeValue}
use Rattle.name_order.specs.Relations.{Order}
use Rattle.type_domain.specs.Values.{term_name, all_fit, unless_apart, of_name}

-- the names that are in one of them, none where one of them is none
abbrev pub united : TypeValue → TypeValue → TypeValue
united None b = None
united (Some p) None = None
united (Some p) (Some q) = Some (λ n. p n || q n)

-- a value, none where its names do not all fit
abbrev pub fitting : Order → TypeValue → TypeValue
fitting o None = None
fitting o (Some p) = unless_apart (all_fit o p) p

-- where a test holds, a value united with another, else the other
abbrev pub united_where : Bool → TypeValue → TypeValue → TypeValue
united_where true v w = united v w
united_where false v w = w

-- of the names that pass, what each says is united; every value has the name term
abbrev pub said_parts : Order → (ℕ → Bool) → (ℕ → TypeValue) → List ℕ → TypeValue
said_parts o p says [] = of_name o term_name
said_parts o p says (n ∷ ns) = united_where (p n) (says n) (said_parts o p says ns)
