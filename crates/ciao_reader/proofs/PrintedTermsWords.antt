-- The words of what is printed are those of its derivation.
use Rattle.std.proofs.Common.{◌≡◌, ℕ, List, [], ◌∷◌, ◌++◌, refl, ap, ◌∙◌, Bool, true, false}
use Rattle.std.specs.Prelude.{◌==◌, if◌then◌else◌}
use Rattle.term_core.specs.declared.fixed.TheConstants as fixed
use Rattle.ciao_reader.specs.declared.words.Word.{Word}
use Rattle.ciao_reader.specs.declared.words.Word.TheVariants as word
use Rattle.ciao_reader.specs.Derivations.{Tree, Trees, call, parens, braces, items, items_and_tail, before, between, one, more, words, words_of_all, infix_word}
use Rattle.ciao_reader.proofs.PrintedWords.{Spaced, blank, one_word, spaced, spaced_of_all, spaced_infix, words_in}

words_in_both : (xs ys : List Spaced) → words_in (xs ++ ys) ≡ words_in xs ++ words_in ys
words_in_both [] ys = refl
words_in_both (blank ∷ xs) ys = words_in_both xs ys
words_in_both (one_word w ∷ xs) ys = ap (λ ws. w ∷ ws) (words_in_both xs ys)

infix_words : (f : ℕ) (bs : List Spaced) → words_in (spaced_infix f ++ bs) ≡ infix_word f ∷ words_in bs
infix_words f bs = by (f == fixed.COMMA) (f == fixed.BAR)
  where
    by : (b c : Bool) → words_in ((if b then one_word word.Comma ∷ [] else if c then blank ∷ one_word word.Bar ∷ blank ∷ [] else blank ∷ one_word (word.Between f) ∷ blank ∷ []) ++ bs)
        ≡ (if b then word.Comma else if c then word.Bar else word.Between f) ∷ words_in bs
    by true c = refl
    by false true = refl
    by false false = refl

-- some words and blanks, whose words are these, and more
joined : (xs ys : List Spaced) (ws vs : List Word) → words_in xs ≡ ws → words_in ys ≡ vs → words_in (xs ++ ys) ≡ ws ++ vs
joined xs ys ws vs e f = words_in_both xs ys ∙ ap (λ us. us ++ words_in ys) e ∙ ap (λ us. ws ++ us) f

mutual
  pub words_in_spaced : (t : Tree) → words_in (spaced t) ≡ words t
  words_in_spaced (call f ts) = ap (λ ws. word.Call f ∷ word.Paren ∷ ws) (joined (spaced_of_all ts) _ _ _ (words_in_all ts) refl)
  words_in_spaced (parens t) = ap (λ ws. word.Paren ∷ ws) (joined (spaced t) _ _ _ (words_in_spaced t) refl)
  words_in_spaced (braces t) = ap (λ ws. word.OpenCurly ∷ ws) (joined (spaced t) _ _ _ (words_in_spaced t) refl)
  words_in_spaced (items ts) = ap (λ ws. word.OpenList ∷ ws) (joined (spaced_of_all ts) _ _ _ (words_in_all ts) refl)
  words_in_spaced (items_and_tail ts t) =
      ap (λ ws. word.OpenList ∷ ws) (joined (spaced_of_all ts) _ _ _ (words_in_all ts) (ap (λ ws. word.Bar ∷ ws) (joined (spaced t) (one_word word.CloseList ∷ []) _ _ (words_in_spaced t) refl)))
  words_in_spaced (before f t) = ap (λ ws. word.Before f ∷ ws) (words_in_spaced t)
  words_in_spaced (between f t u) = joined (spaced t) _ _ _ (words_in_spaced t) (infix_words f (spaced u) ∙ ap (λ ws. infix_word f ∷ ws) (words_in_spaced u))
  words_in_spaced leaf = refl

  words_in_all : (ts : Trees) → words_in (spaced_of_all ts) ≡ words_of_all ts
  words_in_all (one t) = words_in_spaced t
  words_in_all (more t ts) = joined (spaced t) _ _ _ (words_in_spaced t) (ap (λ ws. word.Comma ∷ ws) (words_in_all ts))
