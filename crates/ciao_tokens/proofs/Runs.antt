-- Runs: the longest prefix of bytes that pass a test.
use Rattle.std.proofs.Common.{◌≡◌, ℕ, ◌+◌, Bool, true, false, cond, ◌&&◌, List, [], ◌∷◌, ◌++◌, drop, refl, ap, sym, ◌∙◌, arith}
use Rattle.std.proofs.lemmas.List.{take-append-drop}
use Rattle.std.proofs.lemmas.Bool.{and_parts}
use Rattle.std.proofs.lemmas.List.Sums.{take_while-cons}
use Rattle.std.specs.List.{list_all, prefix_len}
use Rattle.ciao_tokens.specs.Forms.{starts}
use Rattle.ciao_tokens.specs.Scanning.{run, behind_run}

-- the run of a text, by its first byte
pub run_cons : (test : ℕ → Bool) (c : ℕ) (cs : List ℕ) → run test (c ∷ cs) ≡ cond (test c) (c ∷ run test cs) []
run_cons test c cs = take_while-cons test c cs

-- what stands behind a run, by the first byte
pub behind_cons : (test : ℕ → Bool) (c : ℕ) (cs : List ℕ) → behind_run test (c ∷ cs) ≡ cond (test c) (behind_run test cs) (c ∷ cs)
behind_cons test c cs = by (test c)
  where
    by : (b : Bool) → drop (cond b (1 + prefix_len test cs) 0) (c ∷ cs) ≡ cond b (drop (prefix_len test cs) cs) (c ∷ cs)
    by true = grind (arith)
    by false = refl

-- each byte of a run passes
pub run_passes : (test : ℕ → Bool) (bytes : List ℕ) → list_all test (run test bytes) ≡ true
run_passes test [] = refl
run_passes test (c ∷ cs) = ap (list_all test) (run_cons test c cs) ∙ by (test c) refl (run_passes test cs)
  where
    by : (b : Bool) → test c ≡ b → list_all test (run test cs) ≡ true → list_all test (cond b (c ∷ run test cs) []) ≡ true
    by true e h = ap (λ x. x && list_all test (run test cs)) e ∙ h
    by false e h = refl

-- a byte that passes does not stand behind a run
pub run_stops : (test : ℕ → Bool) (bytes : List ℕ) → starts test (behind_run test bytes) ≡ false
run_stops test [] = refl
run_stops test (c ∷ cs) = ap (starts test) (behind_cons test c cs) ∙ by (test c) refl (run_stops test cs)
  where
    by : (b : Bool) → test c ≡ b → starts test (behind_run test cs) ≡ false → starts test (cond b (behind_run test cs) (c ∷ cs)) ≡ false
    by true e h = h
    by false e h = e

-- bytes that pass are the run of a text that goes on with none
pub run_is : (test : ℕ → Bool) (word behind : List ℕ) → list_all test word ≡ true → starts test behind ≡ false → run test (word ++ behind) ≡ word
run_is test [] [] all stops = refl
run_is test [] (c ∷ cs) all stops = run_cons test c cs ∙ ap (λ b. cond b (c ∷ run test cs) []) stops
run_is test (c ∷ cs) behind all stops =
    run_cons test c (cs ++ behind)
    ∙ ap (λ b. cond b (c ∷ run test (cs ++ behind)) []) (and_parts _ _ all).0
    ∙ ap (λ w. c ∷ w) (run_is test cs behind (and_parts (test c) _ all).1 stops)

-- what stands behind bytes that pass
pub behind_is : (test : ℕ → Bool) (word behind : List ℕ) → list_all test word ≡ true → starts test behind ≡ false → behind_run test (word ++ behind) ≡ behind
behind_is test [] [] all stops = refl
behind_is test [] (c ∷ cs) all stops = behind_cons test c cs ∙ ap (λ b. cond b (behind_run test cs) (c ∷ cs)) stops
behind_is test (c ∷ cs) behind all stops =
    behind_cons test c (cs ++ behind)
    ∙ ap (λ b. cond b (behind_run test (cs ++ behind)) (c ∷ (cs ++ behind))) (and_parts _ _ all).0
    ∙ behind_is test cs behind (and_parts (test c) _ all).1 stops

-- a byte that passes and the run behind it are a run
pub run_one : (test : ℕ → Bool) (c : ℕ) (cs : List ℕ) → test c ≡ true → run test (c ∷ cs) ≡ c ∷ run test cs
run_one test c cs e = run_cons test c cs ∙ ap (λ b. cond b (c ∷ run test cs) []) e

-- a run and what stands behind it are all
pub run_behind : (test : ℕ → Bool) (bytes : List ℕ) → run test bytes ++ behind_run test bytes ≡ bytes
run_behind test bytes = take-append-drop (prefix_len test bytes) bytes

-- the byte in the middle passes
pub middle_passes : (test : ℕ → Bool) (xs more : List ℕ) (b : ℕ) → list_all test (xs ++ b ∷ more) ≡ true → test b ≡ true
middle_passes test [] more b e = (and_parts (test b) _ e).0
middle_passes test (x ∷ xs) more b e = middle_passes test xs more b (and_parts (test x) _ e).1

-- a run does not go on
pub no_further : (test : ℕ → Bool) (bytes xs more later : List ℕ) (b : ℕ) → behind_run test bytes ≡ b ∷ (more ++ later) → list_all test (xs ++ b ∷ more) ≡ true → ⊥
no_further test bytes xs more later b behind all =
    let e : false ≡ true = sym (run_stops test bytes) ∙ ap (starts test) behind ∙ middle_passes test xs more b all in cc
