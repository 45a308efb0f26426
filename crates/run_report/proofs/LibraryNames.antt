-- The texts of libraries as modules.
use Rattle.std.proofs.Common.{◌≡◌, ℕ, ◌+◌, ◌-◌, Bool, true, false, List, [], ◌∷◌, ◌++◌, length, take, drop, refl, ap, sym, ◌∙◌, subst, arith}
use Rattle.std.proofs.Math.Seq.{drop-append_seam}
use Rattle.std.proofs.lemmas.Bool.{false≢true}
use Rattle.std.proofs.lemmas.Bool.Decides.{nat_tests}
use Rattle.std.proofs.lemmas.List.{append_assoc, append_cancel_left, append_cancel_right, take-append-drop, length-append}
use Rattle.std.proofs.lemmas.Slice.Eq.{bytes_eq-Decides}
use Rattle.std.specs.Prelude.{bytes_eq, codes, cond, nat_lt, not, position, Some, None}
use Rattle.std.specs.List.{AllByRecursion, position_or_len}
use Rattle.std.specs.Str.{IsUtf8}
use Rattle.term_core.specs.Names.{find_text}
use Rattle.run_report.specs.ClauseTerms.{library_text, library_of}

same_texts : (a b : List ℕ) → bytes_eq a b ≡ true → a ≡ b
same_texts a b e = (bytes_eq-Decides a b).0 e

are_same : (a b : List ℕ) → a ≡ b → bytes_eq a b ≡ true
are_same a b e = (bytes_eq-Decides a b).1 e

-- a test that cannot be true
never : (b : Bool) → (b ≡ true → ⊥) → b ≡ false
never true h = absurd (h refl)
never false h = refl

-- a text in parts

pub no_front : (text : List ℕ) → bytes_eq (take 8 text) (codes "library(") ≡ false → (name : List ℕ) → bytes_eq (library_text name) text ≡ false
no_front text e name = never (bytes_eq (library_text name) text) (λ h.
    let is = same_texts (library_text name) text h in
    false≢true (sym e ∙ are_same (take 8 text) (codes "library(") (ap (take 8) (sym is))))

pub front : (text rest : List ℕ) → bytes_eq (take 8 text) (codes "library(") ≡ true → rest ≡ drop 8 text → text ≡ codes "library(" ++ rest
front text rest e is = sym (take-append-drop 8 text) ∙ ap (λ t. t ++ drop 8 text) (same_texts (take 8 text) (codes "library(") e) ∙ ap (λ r. codes "library(" ++ r) (sym is)

last_one : (name : List ℕ) → drop (length (name ++ codes ")") - 1) (name ++ codes ")") ≡ codes ")"
last_one name =
    let e = length-append name (codes ")") in
    let n : length (name ++ codes ")") - 1 ≡ length name = omega (arith, e) in
    ap (λ k. drop k (name ++ codes ")")) n ∙ drop-append_seam name (codes ")")

pub no_close : (text : List ℕ) → bytes_eq (drop (length text - 1) text) (codes ")") ≡ false → (name : List ℕ) → bytes_eq (name ++ codes ")") text ≡ false
no_close text e name = never (bytes_eq (name ++ codes ")") text) (λ h.
    let is = same_texts (name ++ codes ")") text h in
    false≢true (sym e ∙ are_same (drop (length text - 1) text) (codes ")") (ap (λ t. drop (length t - 1) t) (sym is) ∙ last_one name)))

pub close : (text name : List ℕ) → bytes_eq (drop (length text - 1) text) (codes ")") ≡ true → name ≡ take (length text - 1) text → text ≡ name ++ codes ")"
close text name e is =
    sym (take-append-drop (length text - 1) text) ∙ ap (λ t. take (length text - 1) text ++ t) (same_texts (drop (length text - 1) text) (codes ")") e) ∙ ap (λ n. n ++ codes ")") (sym is)

pub no_name : (text rest : List ℕ) → text ≡ codes "library(" ++ rest → ((name : List ℕ) → bytes_eq (name ++ codes ")") rest ≡ false) → (name : List ℕ) → bytes_eq (library_text name) text ≡ false
no_name text rest is none name = never (bytes_eq (library_text name) text) (λ h.
    let whole : codes "library(" ++ (name ++ codes ")") ≡ codes "library(" ++ rest =
    sym (append_assoc (codes "library(") name (codes ")")) ∙ (same_texts (library_text name) text h ∙ is) in
    false≢true (sym (none name) ∙ are_same (name ++ codes ")") rest (append_cancel_left (codes "library(") (name ++ codes ")") rest whole)))

pub named : (text rest name : List ℕ) → text ≡ codes "library(" ++ rest → rest ≡ name ++ codes ")" → text ≡ library_text name
named text rest name is inner = is ∙ ap (λ r. codes "library(" ++ r) inner ∙ sym (append_assoc (codes "library(") name (codes ")"))

-- names

all_fail : (p : List ℕ → Bool) → ((t : List ℕ) → p t ≡ false) → (ts : List (List ℕ)) → AllByRecursion (λ t. p t ≡ false) ts
all_fail p h [] = tt
all_fail p h (t ∷ ts) = (h t, all_fail p h ts)

not_below : (n : ℕ) → nat_lt n n ≡ false
not_below n = grind (arith, nat_tests)

counted : (p : List ℕ → Bool) (ts : List (List ℕ)) → AllByRecursion (λ t. p t ≡ false) ts → position_or_len p ts ≡ length ts
counted p [] h = refl
counted p (t ∷ ts) h =
    let e = counted p ts h.1 in
    let more : 1 + position_or_len p ts ≡ length (t ∷ ts) = omega (arith, e) in
    ap (λ b. cond (not b) (1 + position_or_len p ts) 0) h.0 ∙ more

none_passes : (p : List ℕ → Bool) (ts : List (List ℕ)) → AllByRecursion (λ t. p t ≡ false) ts → position p ts ≡ None
none_passes p ts h = ap (λ b. cond b (Some (position_or_len p ts)) None) (ap (λ n. nat_lt n (length ts)) (counted p ts h) ∙ not_below (length ts))

-- the text of no library
pub no_library : (names : List (List ℕ)) (text : List ℕ) → ((name : List ℕ) → bytes_eq (library_text name) text ≡ false) → None ≡ library_of names text
no_library names text h = sym (none_passes (λ name. bytes_eq (library_text name) text) names (all_fail (λ name. bytes_eq (library_text name) text) h names))

cancelled : (a b : List ℕ) → library_text a ≡ library_text b → a ≡ b
cancelled a b e = append_cancel_left (codes "library(") a b (append_cancel_right (codes "library(" ++ a) (codes "library(" ++ b) (codes ")") e)

same_test : (inner name : List ℕ) → bytes_eq inner name ≡ bytes_eq (library_text name) (library_text inner)
same_test inner name = by (bytes_eq inner name) refl
  where
    by : (b : Bool) → bytes_eq inner name ≡ b → b ≡ bytes_eq (library_text name) (library_text inner)
    by true e = sym (are_same (library_text name) (library_text inner) (ap library_text (sym (same_texts inner name e))))
    by false e = sym (never (bytes_eq (library_text name) (library_text inner)) (λ h.
        false≢true (sym e ∙ are_same inner name (sym (cancelled name inner (same_texts (library_text name) (library_text inner) h))))))

-- the text of a library has the number of the library's name
pub found : (names : List (List ℕ)) (text inner : List ℕ) → text ≡ library_text inner → find_text inner names ≡ library_of names text
found names text inner is =
    let same : find_text inner names ≡ library_of names (library_text inner) = λ i. position (λ name. same_test inner name i) names in
    same ∙ ap (library_of names) (sym is)

none_is : (inner : List ℕ) → (IsUtf8 inner → ⊥) → (ts : List (List ℕ)) → AllByRecursion IsUtf8 ts → AllByRecursion (λ t. bytes_eq inner t ≡ false) ts
none_is inner bad [] h = tt
none_is inner bad (t ∷ ts) h = (never (bytes_eq inner t) (λ e. bad (subst IsUtf8 (sym (same_texts inner t e)) h.0)), none_is inner bad ts h.1)

-- bytes that are no text are no name
pub missing : (inner : List ℕ) → (IsUtf8 inner → ⊥) → (names : List (List ℕ)) → AllByRecursion IsUtf8 names → None ≡ find_text inner names
missing inner bad names h = sym (none_passes (bytes_eq inner) names (none_is inner bad names h))
