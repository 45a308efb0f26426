-- Lines of the table that keep a term as it is.
use Rattle.std.proofs.Common.{◌≡◌, ℕ, ◌==◌, List, [], ◌∷◌, length, map, get_or, false, refl, ap, sym, ◌∙◌, arith}
use Rattle.std.specs.Prelude.{Some, option_map, if◌then◌else◌}
use Rattle.term_core.specs.declared.fixed.TheConstants.{CELL, BRACES, NEGATION}
use Rattle.term_core.specs.declared.terms.Term.{Term}
use Rattle.term_core.specs.declared.terms.Term as term
use Rattle.dcg_expand.specs.Expansion.{pair, grammar_body, with_two_variables, reading_nothing, compound_between, compound_with_tail, not_there, in_sequence, in_parallel, list_goal, cell_with_tail, is_sequence, is_choice}
use Rattle.dcg_expand.proofs.Themselves.{itself_is, themselves_are}

other_name : (f g : ℕ) → (f ≡ g → ⊥) → (f == g) ≡ false
other_name f g n = grind (arith, n)

-- a goal in braces
pub at_braces : (f : ℕ) (parts : List Term) (part : Term) (from to next : ℕ) → length parts ≡ 1 → part ≡ get_or parts 0 part → f ≡ BRACES → compound_between f (map grammar_body parts) from to next ≡ Some (reading_nothing part from to, next)
at_braces f [] part from to next l p e = absurd (omega (arith, l))
at_braces f (a ∷ []) part from to next l p e =
    ap (λ g. compound_between g (grammar_body a ∷ []) from to next) e ∙ ap (λ t. Some (reading_nothing t from to, next)) (itself_is a ∙ sym p)
at_braces f (a ∷ b ∷ rest) part from to next l p e = absurd (omega (arith, l))

-- another compound of one argument
pub one_plain : (f : ℕ) (parts : List Term) (from to next : ℕ) → length parts ≡ 1 → (f ≡ NEGATION → ⊥) → (f ≡ BRACES → ⊥) → compound_between f (map grammar_body parts) from to next ≡ with_two_variables f parts from to next
one_plain f [] from to next l n b = absurd (omega (arith, l))
one_plain f (a ∷ []) from to next l n b =
    ap (λ t. (if t then not_there (grammar_body a) from to else if f == BRACES then (λ next. Some (reading_nothing (grammar_body a).itself from to, next)) else with_two_variables f ((grammar_body a).itself ∷ []) from to) next) (other_name f NEGATION n)
    ∙ ap (λ t. (if t then (λ next. Some (reading_nothing (grammar_body a).itself from to, next)) else with_two_variables f ((grammar_body a).itself ∷ []) from to) next) (other_name f BRACES b)
    ∙ ap (λ t. with_two_variables f (t ∷ []) from to next) (itself_is a)
one_plain f (a ∷ b ∷ rest) from to next l n b' = absurd (omega (arith, l))

-- another compound of two arguments
pub two_plain : (f : ℕ) (parts : List Term) (from to next : ℕ) → length parts ≡ 2 → is_sequence f ≡ false → is_choice f ≡ false → (f ≡ CELL → ⊥) → compound_between f (map grammar_body parts) from to next ≡ with_two_variables f parts from to next
two_plain f [] from to next l s h c = absurd (omega (arith, l))
two_plain f (a ∷ []) from to next l s h c = absurd (omega (arith, l))
two_plain f (a ∷ b ∷ []) from to next l s h c =
    ap (λ t. (if t then in_sequence f (grammar_body a) (grammar_body b) from to else if is_choice f then in_parallel (grammar_body a) (grammar_body b) from to else if f == CELL then list_goal (cell_with_tail (grammar_body a) (grammar_body b) (term.Var to)) from else with_two_variables f ((grammar_body a).itself ∷ (grammar_body b).itself ∷ []) from to) next) s
    ∙ ap (λ t. (if t then in_parallel (grammar_body a) (grammar_body b) from to else if f == CELL then list_goal (cell_with_tail (grammar_body a) (grammar_body b) (term.Var to)) from else with_two_variables f ((grammar_body a).itself ∷ (grammar_body b).itself ∷ []) from to) next) h
    ∙ ap (λ t. (if t then list_goal (cell_with_tail (grammar_body a) (grammar_body b) (term.Var to)) from else with_two_variables f ((grammar_body a).itself ∷ (grammar_body b).itself ∷ []) from to) next) (other_name f CELL c)
    ∙ ap (λ ts. with_two_variables f ts from to next) (themselves_are (a ∷ b ∷ []))
two_plain f (a ∷ b ∷ d ∷ rest) from to next l s h c = absurd (omega (arith, l))

-- a compound of another number of arguments
pub many_plain : (f : ℕ) (parts : List Term) (from to next : ℕ) → (length parts ≡ 1 → ⊥) → (length parts ≡ 2 → ⊥) → compound_between f (map grammar_body parts) from to next ≡ with_two_variables f parts from to next
many_plain f [] from to next o t = refl
many_plain f (a ∷ []) from to next o t = absurd (o refl)
many_plain f (a ∷ b ∷ []) from to next o t = absurd (t refl)
many_plain f (a ∷ b ∷ d ∷ rest) from to next o t = ap (λ ts. with_two_variables f ts from to next) (themselves_are (a ∷ b ∷ d ∷ rest))

-- a list cell before the rest with its tail
pub cell_tailed : (f : ℕ) (parts : List Term) (head rest items tail : Term) → length parts ≡ 2 → head ≡ get_or parts 0 head → rest ≡ get_or parts 1 rest → f ≡ CELL → (grammar_body rest).with_tail tail ≡ Some items → compound_with_tail f (map grammar_body parts) tail ≡ Some (pair CELL head items)
cell_tailed f [] head rest items tail l h r e i = absurd (omega (arith, l))
cell_tailed f (a ∷ []) head rest items tail l h r e i = absurd (omega (arith, l))
cell_tailed f (a ∷ b ∷ []) head rest items tail l h r e i =
    ap (λ g. compound_with_tail g (grammar_body a ∷ grammar_body b ∷ []) tail) e
    ∙ ap (λ t. cell_with_tail (grammar_body a) (grammar_body t) tail) (sym r)
    ∙ ap (option_map (pair CELL (grammar_body a).itself)) i
    ∙ ap (λ t. Some (pair CELL t items)) (itself_is a ∙ sym h)
cell_tailed f (a ∷ b ∷ d ∷ more) head rest items tail l h r e i = absurd (omega (arith, l))
