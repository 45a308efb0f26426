-- The results of a definition that each have a clause.
use Rattle.std.proofs.Common.{◌≡◌, ℕ, ◌==◌, List, [], ◌∷◌, ◌++◌, map, Bool, true, false, refl, ap, sym, ◌∙◌}
use Rattle.std.specs.Prelude.{not, ◌&&◌, ◌||◌, Option, Some, None, option_and_then, if◌then◌else◌}
use Rattle.std.proofs.lemmas.Option.{none-some}
use Rattle.term_core.specs.Shapes.{pair_of}
use Rattle.term_core.specs.declared.fixed.TheConstants.{BAR}
use Rattle.term_core.specs.declared.terms.Term.{Term, roll-Term}
use Rattle.term_core.specs.declared.terms.Term as term
use Rattle.term_core.specs.declared.terms.Term.TheOpen.{Term-F, Var, Int, Atom, Node}
use Rattle.term_core.specs.declared.terms.Term.TheVariants.{rolls-Node, rolls-Var, rolls-Int, rolls-Atom}
use Rattle.ciao_reader.specs.declared.sentences.Sentence.{Sentence}
use Rattle.dcg_expand.specs.Making.{Making}
use Rattle.dcg_expand.specs.Expansion.{made_sentence}
use Rattle.term_core.proofs.TermFolds.{fold-Var, fold-Int, fold-Atom, fold-Node}
use Rattle.fsyntax_expand.specs.Expansion.{Uses, uses, uses_step, whole, all_made, definition_clause, definition_clauses}
use Rattle.fsyntax_expand.proofs.Themselves.{itself_is}

-- what comes after two steps
and_then_twice : {A B C : Type 0} (o : Option A) (f : A → Option C) (h : A → Option B) (g : B → Option C) → ((x : A) → f x ≡ option_and_then g (h x)) → option_and_then f o ≡ option_and_then g (option_and_then h o)
and_then_twice None f h g e = refl
and_then_twice (Some x) f h g e = e x

-- clauses behind clauses
pub all_made_append : (line vars : ℕ) (done : List Sentence) (cs ds : List (Making Term)) → all_made line vars done (cs ++ ds) ≡ option_and_then (λ more. all_made line vars more ds) (all_made line vars done cs)
all_made_append line vars done [] ds = refl
all_made_append line vars done (c ∷ cs) ds =
    and_then_twice (made_sentence line (c vars)) (λ s. all_made line vars (done ++ s ∷ []) (cs ++ ds)) (λ s. all_made line vars (done ++ s ∷ []) cs) (λ more. all_made line vars more ds) (λ s. all_made_append line vars (done ++ s ∷ []) cs ds)

abbrev if_both : Bool → Term → Term → Option (Term × Term)
if_both b l r = if b then Some (l, r) else None

-- a term whose only alternative is itself
alone_is : (u : Term) (s : Uses) → uses u ≡ s → s.alternatives ≡ s.itself ∷ [] → (uses u).alternatives ≡ u ∷ []
alone_is u s w h = ap (λ x. x.alternatives) w ∙ h ∙ ap (λ x. x ∷ []) (sym (ap (λ x. x.itself) w) ∙ itself_is u)

is_no_bar : (b : Bool) (l r : Term) → if_both b l r ≡ None → b ≡ false
is_no_bar true l r h = absurd (none-some _ (sym h))
is_no_bar false l r h = refl

-- no two results with a bar
pub not_bar : (t : Term-F Term) (u : Term) → roll-Term t ≡ u → pair_of BAR t ≡ None → (uses u).alternatives ≡ u ∷ []
not_bar (Var v) u e h = alone_is u _ (ap uses (sym e ∙ rolls-Var v) ∙ fold-Var Uses uses_step v) refl
not_bar (Int n) u e h = alone_is u _ (ap uses (sym e ∙ rolls-Int n) ∙ fold-Int Uses uses_step n) refl
not_bar (Atom a) u e h = alone_is u _ (ap uses (sym e ∙ rolls-Atom a) ∙ fold-Atom Uses uses_step a) refl
not_bar (Node f []) u e h = alone_is u _ (ap uses (sym e ∙ rolls-Node f []) ∙ fold-Node Uses uses_step f []) refl
not_bar (Node f (l ∷ [])) u e h = alone_is u _ (ap uses (sym e ∙ rolls-Node f (l ∷ [])) ∙ fold-Node Uses uses_step f (l ∷ [])) refl
not_bar (Node f (l ∷ r ∷ [])) u e h =
    alone_is u _ (ap uses (sym e ∙ rolls-Node f (l ∷ r ∷ [])) ∙ fold-Node Uses uses_step f (l ∷ r ∷ []))
    (ap (λ t. if t && not ((uses l).is_conditional || (uses r).has_conditional) then (uses l).alternatives ++ (uses r).alternatives else whole f (uses l ∷ uses r ∷ []) ∷ []) (is_no_bar (f == BAR) l r h))
not_bar (Node f (l ∷ r ∷ c ∷ rest)) u e h = alone_is u _ (ap uses (sym e ∙ rolls-Node f (l ∷ r ∷ c ∷ rest)) ∙ fold-Node Uses uses_step f (l ∷ r ∷ c ∷ rest)) refl

bar_uses : (u l r : Term) → u ≡ term.Node BAR (l ∷ r ∷ []) → uses u ≡ uses_step (Node BAR (uses l ∷ uses r ∷ []))
bar_uses u l r e = ap uses e ∙ fold-Node Uses uses_step BAR (l ∷ r ∷ [])

-- two results with a bar, with a condition among them
pub not_apart : (u l r : Term) → u ≡ term.Node BAR (l ∷ r ∷ []) → not ((uses l).is_conditional || (uses r).has_conditional) ≡ false → (uses u).alternatives ≡ u ∷ []
not_apart u l r e h = alone_is u _ (bar_uses u l r e) (ap (λ t. if t then (uses l).alternatives ++ (uses r).alternatives else whole BAR (uses l ∷ uses r ∷ []) ∷ []) h)

-- and without one
pub are_alternatives : (u l r : Term) → u ≡ term.Node BAR (l ∷ r ∷ []) → not ((uses l).is_conditional || (uses r).has_conditional) ≡ true → (uses u).alternatives ≡ (uses l).alternatives ++ (uses r).alternatives
are_alternatives u l r e h = ap (λ x. x.alternatives) (bar_uses u l r e) ∙ ap (λ t. if t then (uses l).alternatives ++ (uses r).alternatives else whole BAR (uses l ∷ uses r ∷ []) ∷ []) h

map_append : {A B : Type 0} (f : A → B) (xs ys : List A) → map f (xs ++ ys) ≡ map f xs ++ map f ys
map_append f [] ys = refl
map_append f (x ∷ xs) ys = ap (λ zs. f x ∷ zs) (map_append f xs ys)

-- the clauses of two results, one behind the other
pub definition_split : (line vars : ℕ) (done : List Sentence) (head : Term) (body : Option Term) (u l r : Term) → (uses u).alternatives ≡ (uses l).alternatives ++ (uses r).alternatives →
    all_made line vars done (definition_clauses head body u) ≡ option_and_then (λ more. all_made line vars more (definition_clauses head body r)) (all_made line vars done (definition_clauses head body l))
definition_split line vars done head body u l r e =
    ap (all_made line vars done) (ap (map (definition_clause head body)) e ∙ map_append (definition_clause head body) (uses l).alternatives (uses r).alternatives)
    ∙ all_made_append line vars done (definition_clauses head body l) (definition_clauses head body r)
