-- Heights of choices: what a cut takes off, and which choice a height names.
use Rattle.std.proofs.Common.{◌≡◌, ℕ, suc, ◌<◌, ◌≤◌, true, false, List, [], ◌∷◌, length, refl, ap, sym, ◌∙◌, arith}
use Rattle.std.proofs.lemmas.Bool.Decides.{nat_tests}
use Rattle.std.specs.Prelude.{nat_le, ◌==◌, Some, if◌then◌else◌}
use Rattle.machine_model.specs.State.{Choice, cut, choice_at, exited, exit_mark}

-- a cut to a height of older choices takes the newest one off
pub cut_on : (h : ℕ) (c : Choice) (cs : List Choice) → h ≤ length cs → cut h (c ∷ cs) ≡ cut h cs
cut_on h c cs le = let e : nat_le h (length cs) ≡ true = grind (arith, nat_tests) in ap (λ b. if b then cut h cs else c ∷ cs) e

-- a cut to the height of all choices takes none off
pub cut_whole : (cs : List Choice) → cut (length cs) cs ≡ cs
cut_whole [] = refl
cut_whole (c ∷ cs) = let e : nat_le (suc (length cs)) (length cs) ≡ false = grind (arith, nat_tests) in ap (λ b. if b then cut (suc (length cs)) cs else c ∷ cs) e

itself : (h : ℕ) → (h == h) ≡ true
itself h = grind (arith, nat_tests)

less : (h n : ℕ) → h < n → (h == n) ≡ false
less h n le = grind (arith, nat_tests)

-- the newest choice, and an older one

pub at_here : (h : ℕ) (c : Choice) (cs : List Choice) → h ≡ length cs → choice_at h (c ∷ cs) ≡ Some c
at_here h c cs e = ap (λ b. if b then Some c else choice_at h cs) (ap (λ n. h == n) (sym e) ∙ itself h)

pub at_newer : (h : ℕ) (c : Choice) (cs : List Choice) → h < length cs → choice_at h (c ∷ cs) ≡ choice_at h cs
at_newer h c cs le = ap (λ b. if b then Some c else choice_at h cs) (less h (length cs) le)

-- as exited

pub exit_here : (h : ℕ) (c : Choice) (cs : List Choice) → h ≡ length cs → exit_mark (Some h) (c ∷ cs) ≡ exited c ∷ cs
exit_here h c cs e = ap (λ b. if b then exited c ∷ cs else c ∷ exit_mark (Some h) cs) (ap (λ n. h == n) (sym e) ∙ itself h)

pub exit_newer : (h : ℕ) (c : Choice) (cs : List Choice) → h < length cs → exit_mark (Some h) (c ∷ cs) ≡ c ∷ exit_mark (Some h) cs
exit_newer h c cs le = ap (λ b. if b then exited c ∷ cs else c ∷ exit_mark (Some h) cs) (less h (length cs) le)
