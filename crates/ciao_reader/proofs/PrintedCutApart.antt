-- The words and blanks of a guarded derivation may stand side by side.
use Rattle.std.proofs.Common.{◌≡◌, ℕ, Bool, true, false, List, [], ◌∷◌, ◌++◌, refl, sym, ap, ◌∙◌, append_assoc}
use Rattle.std.proofs.lemmas.Bool.{and_parts, and_from}
use Rattle.std.proofs.lemmas.List.{append-nil}
use Rattle.std.specs.Prelude.{◌==◌, ◌&&◌, if◌then◌else◌}
use Rattle.term_core.specs.declared.fixed.TheConstants as fixed
use Rattle.term_core.specs.declared.operators.Operators.{Operators}
use Rattle.ciao_reader.specs.declared.words.Word.TheVariants as word
use Rattle.ciao_reader.specs.Derivations.{Tree, Trees, number, negative, variable, text, atom, no_items, no_braces, call, parens, braces, items, items_and_tail, before, between, one, more}
use Rattle.ciao_reader.proofs.PrintedTrees.{is_guarded, is_operand, all_guarded}
use Rattle.ciao_reader.proofs.PrintedWords.{Spaced, blank, one_word, spaced, spaced_of_all, spaced_infix, is_apart, are_apart}

-- words and blanks before which any word may stand
record Follows (bs : List Spaced) : Type 0 where
  first : is_apart bs ≡ true
  all : are_apart bs ≡ true

-- an infix operator stands apart from what is before it and what is behind it
infix_apart : (f : ℕ) (bs : List Spaced) → are_apart bs ≡ true → Follows (spaced_infix f ++ bs)
infix_apart f bs e = by (f == fixed.COMMA) (f == fixed.BAR)
  where
    by : (c b : Bool) → Follows ((if c then one_word word.Comma ∷ [] else if b then blank ∷ one_word word.Bar ∷ blank ∷ [] else blank ∷ one_word (word.Between f) ∷ blank ∷ []) ++ bs)
    by true b = record { first = refl; all = e }
    by false true = record { first = refl; all = e }
    by false false = record { first = refl; all = e }

-- three parts of a list and a rest
three_parts : (xs ys zs rest : List Spaced) → (xs ++ (ys ++ zs)) ++ rest ≡ xs ++ (ys ++ (zs ++ rest))
three_parts xs ys zs rest = append_assoc xs (ys ++ zs) rest ∙ ap (λ w. xs ++ w) (append_assoc ys zs rest)

-- two parts, the second from a word on
one_between : (xs ys rest : List Spaced) (b : Spaced) → (xs ++ (b ∷ ys)) ++ rest ≡ xs ++ (b ∷ (ys ++ rest))
one_between xs ys rest b = append_assoc xs (b ∷ ys) rest

along : (bs cs : List Spaced) → cs ≡ bs → are_apart bs ≡ true → are_apart cs ≡ true
along bs cs e f = ap are_apart e ∙ f

module _ (ops : Operators) where
  mutual
    apart_before : (t : Tree) (rest : List Spaced) → is_guarded ops t ≡ true → Follows rest → are_apart (spaced t ++ rest) ≡ true
    apart_before (number n) rest g r = and_from _ _ r.first r.all
    apart_before (negative n) rest g r = and_from _ _ r.first r.all
    apart_before (variable v) rest g r = and_from _ _ r.first r.all
    apart_before (text cs) rest g r = cc
    apart_before (atom a) rest g r = and_from _ _ r.first r.all
    apart_before no_items rest g r = r.all
    apart_before no_braces rest g r = r.all
    apart_before (call f ts) rest g r = along _ _ (one_between (spaced_of_all ts) [] rest (one_word word.CloseParen)) (all_apart_before ts (one_word word.CloseParen ∷ rest) g (record { first = refl; all = r.all }))
    apart_before (parens t) rest g r = along _ _ (one_between (spaced t) [] rest (one_word word.CloseParen)) (apart_before t (one_word word.CloseParen ∷ rest) g (record { first = refl; all = r.all }))
    apart_before (braces t) rest g r = along _ _ (one_between (spaced t) [] rest (one_word word.CloseCurly)) (apart_before t (one_word word.CloseCurly ∷ rest) g (record { first = refl; all = r.all }))
    apart_before (items ts) rest g r = along _ _ (one_between (spaced_of_all ts) [] rest (one_word word.CloseList)) (all_apart_before ts (one_word word.CloseList ∷ rest) g (record { first = refl; all = r.all }))
    apart_before (items_and_tail ts t) rest g r =
        let p = and_parts (all_guarded ops ts) (is_guarded ops t) g in
        along _ _ (three_parts (spaced_of_all ts) (one_word word.Bar ∷ spaced t) (one_word word.CloseList ∷ []) rest)
        (all_apart_before ts (one_word word.Bar ∷ (spaced t ++ (one_word word.CloseList ∷ rest))) p.0 (record { first = refl; all = apart_before t (one_word word.CloseList ∷ rest) p.1 (record { first = refl; all = r.all }) }))
    apart_before (before f t) rest g r = apart_before t rest (and_parts (is_operand ops t) (is_guarded ops t) g).1 r
    apart_before (between f t u) rest g r =
        let p = and_parts (is_guarded ops t) (is_guarded ops u) (and_parts _ (is_guarded ops t && is_guarded ops u) g).1 in
        along _ _ (three_parts (spaced t) (spaced_infix f) (spaced u) rest) (apart_before t (spaced_infix f ++ (spaced u ++ rest)) p.0 (infix_apart f (spaced u ++ rest) (apart_before u rest p.1 r)))

    all_apart_before : (ts : Trees) (rest : List Spaced) → all_guarded ops ts ≡ true → Follows rest → are_apart (spaced_of_all ts ++ rest) ≡ true
    all_apart_before (one t) rest g r = apart_before t rest g r
    all_apart_before (more t ts) rest g r =
        let p = and_parts (is_guarded ops t) (all_guarded ops ts) g in
        along _ _ (one_between (spaced t) (spaced_of_all ts) rest (one_word word.Comma)) (apart_before t (one_word word.Comma ∷ (spaced_of_all ts ++ rest)) p.0 (record { first = refl; all = all_apart_before ts rest p.1 r }))

  pub spaced_apart : (t : Tree) → is_guarded ops t ≡ true → are_apart (spaced t) ≡ true
  spaced_apart t g = along _ _ (sym (append-nil (spaced t))) (apart_before t [] g (record { first = refl; all = refl }))
