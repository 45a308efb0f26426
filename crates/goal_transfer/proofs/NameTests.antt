-- Loops over the names of a grammar and over arguments: what some name passes, and what is said of each argument.
use Rattle.std.proofs.Common.{◌≡◌, ℕ, ◌<◌, ◌+◌, Bool, true, false, ◌||◌, List, [], ◌∷◌, ◌++◌, map, refl, ap, sym, ◌∙◌, append_assoc}
use Rattle.std.specs.List.{list_any}
use Rattle.prog_data.specs.declared.tables.Value.{Value}
use Rattle.prog_data.specs.Values.{TypeValue, seen}
use Rattle.type_domain.proofs.NameLoops.{names_left, names_turn}

-- a loop that ends where a name passes

pub any_turn : (test : ℕ → Bool) (first size : ℕ) (any : Bool) → first < size → test first ≡ false → list_any test (names_left first size) ≡ any → list_any test (names_left (first + 1) size) ≡ any
any_turn test first size any lt is e = sym (ap (λ b. b || list_any test (names_left (first + 1) size)) is) ∙ sym (ap (list_any test) (names_turn first size lt)) ∙ e

pub any_stop : (test : ℕ → Bool) (first size : ℕ) (any : Bool) → first < size → test first ≡ true → list_any test (names_left first size) ≡ any → true ≡ any
any_stop test first size any lt is e = sym (ap (λ b. b || list_any test (names_left (first + 1) size)) is) ∙ sym (ap (list_any test) (names_turn first size lt)) ∙ e

-- a value for each number

seen_push : (vs : List Value) (v : Value) → map seen (vs ++ v ∷ []) ≡ map seen vs ++ seen v ∷ []
seen_push [] v = refl
seen_push (x ∷ vs) v = ap (λ ws. seen x ∷ ws) (seen_push vs v)

pub listed_turn : (f : ℕ → TypeValue) (made new : List Value) (v : Value) (first size : ℕ) (all : List TypeValue) → first < size → map seen made ++ map f (names_left first size) ≡ all → new ≡ made ++ v ∷ [] → seen v ≡ f first →
    map seen new ++ map f (names_left (first + 1) size) ≡ all
listed_turn f made new v first size all lt had is same =
    ap (λ vs. map seen vs ++ map f (names_left (first + 1) size)) is
    ∙ ap (λ vs. vs ++ map f (names_left (first + 1) size)) (seen_push made v)
    ∙ append_assoc (map seen made) (seen v ∷ []) (map f (names_left (first + 1) size))
    ∙ ap (λ w. map seen made ++ w ∷ map f (names_left (first + 1) size)) same
    ∙ ap (λ ns. map seen made ++ map f ns) (sym (names_turn first size lt)) ∙ had
