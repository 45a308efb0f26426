-- Two lists of bytes that are one.
use Rattle.std.proofs.Common.{arith, ◌≡◌, ◌≢◌, ◌<◌, ℕ, List, [], ◌∷◌}

pub same_head : (c d : ℕ) (cs ds : List ℕ) → ◌≡◌ {A = List ℕ} (c ∷ cs) (d ∷ ds) → c ≡ d
same_head c d cs ds e = cc

pub same_tail : (c d : ℕ) (cs ds : List ℕ) → ◌≡◌ {A = List ℕ} (c ∷ cs) (d ∷ ds) → cs ≡ ds
same_tail c d cs ds e = cc

pub not_empty : (c : ℕ) (cs : List ℕ) → ◌≡◌ {A = List ℕ} [] (c ∷ cs) → ⊥
not_empty c cs e = cc

-- both quotes are ASCII and no backslash

pub single_low : 39 < 128
single_low = omega arith

pub single_apart : ◌≢◌ {A = ℕ} 39 92
single_apart e = omega (arith, e)

pub double_low : 34 < 128
double_low = omega arith

pub double_apart : ◌≢◌ {A = ℕ} 34 92
double_apart e = omega (arith, e)
