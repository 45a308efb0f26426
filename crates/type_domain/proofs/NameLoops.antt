-- Loops over the names of a grammar, by the names that are left.
use Rattle.std.proofs.Common.{◌≡◌, ℕ, suc, ◌<◌, ◌≤◌, ◌+◌, ◌-◌, Bool, true, false, ◌&&◌, List, [], ◌∷◌, ap, sym, ◌∙◌, arith}
use Rattle.std.specs.List.{list_all}
use Rattle.name_order.specs.Relations.{names_from}

-- the names from one on, of so many
abbrev pub names_left : ℕ → ℕ → List ℕ
names_left first size = names_from first (size - first)

pub names_turn : (first size : ℕ) → first < size → names_left first size ≡ first ∷ names_left (first + 1) size
names_turn first size lt = let e : size - first ≡ suc (size - (first + 1)) = omega (arith, lt) in ap (names_from first) e

pub names_end : (first size : ℕ) → size ≤ first → names_left first size ≡ []
names_end first size le = let e : size - first ≡ 0 = omega (arith, le) in ap (names_from first) e

-- a loop that ends where a name does not pass

pub all_turn : (test : ℕ → Bool) (first size : ℕ) (all : Bool) → first < size → test first ≡ true → list_all test (names_left first size) ≡ all → list_all test (names_left (first + 1) size) ≡ all
all_turn test first size all lt is e = sym (ap (λ b. b && list_all test (names_left (first + 1) size)) is) ∙ sym (ap (list_all test) (names_turn first size lt)) ∙ e

pub all_stop : (test : ℕ → Bool) (first size : ℕ) (all : Bool) → first < size → test first ≡ false → list_all test (names_left first size) ≡ all → false ≡ all
all_stop test first size all lt is e = sym (ap (λ b. b && list_all test (names_left (first + 1) size)) is) ∙ sym (ap (list_all test) (names_turn first size lt)) ∙ e
