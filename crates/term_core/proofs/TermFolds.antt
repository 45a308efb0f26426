-- The generated fold: its equations at each variant, induction with lists, and a twin that computes.
use Rattle.std.proofs.Common.{◌≡◌, ℕ, List, [], ◌∷◌, map, refl, ap, sym, ◌∙◌, subst}
use Rattle.std.specs.Prelude.{ℤ}
use Rattle.std.specs.List.{AllByRecursion}
use Rattle.term_core.specs.declared.terms.Term.{Term, Var, Int, Atom, Node, Node', Row_of-Term, end_of-Term, more_of-Term, items-the_row-Term, items_hidden-the_row-Term-0, items_shown-the_row-Term-0, roll-Term, roll-out-Term}
use Rattle.term_core.specs.declared.terms.Term.TheVariants.{outs-Node', rolls-Node, rolls-Var, rolls-Int, rolls-Atom}
use Rattle.term_core.specs.declared.terms.Term.TheFolds.{fold-Term, fold-roll-Term}
use Rattle.term_core.specs.declared.terms.Term.TheOpen as layer

module _ (A : Type 0) (step : layer.Term-F A → A) where
  pub fold-Var : (v : ℕ) → fold-Term A step (Var v) ≡ step (layer.Var v)
  fold-Var v = ap (fold-Term A step) (sym (rolls-Var v)) ∙ fold-roll-Term A step (layer.Var v)

  pub fold-Int : (n : ℤ) → fold-Term A step (Int n) ≡ step (layer.Int n)
  fold-Int n = ap (fold-Term A step) (sym (rolls-Int n)) ∙ fold-roll-Term A step (layer.Int n)

  pub fold-Atom : (a : ℕ) → fold-Term A step (Atom a) ≡ step (layer.Atom a)
  fold-Atom a = ap (fold-Term A step) (sym (rolls-Atom a)) ∙ fold-roll-Term A step (layer.Atom a)

  pub fold-Node : (f : ℕ) (ts : List Term) → fold-Term A step (Node f ts) ≡ step (layer.Node f (map (fold-Term A step) ts))
  fold-Node f ts = ap (fold-Term A step) (sym (rolls-Node f ts)) ∙ fold-roll-Term A step (layer.Node f ts)

-- induction over terms, with the parts of a compound as a list
module _ (P : Term → Type 0) (at_var : (v : ℕ) → P (Var v)) (at_int : (n : ℤ) → P (Int n)) (at_atom : (a : ℕ) → P (Atom a)) (at_node : (f : ℕ) (ts : List Term) → AllByRecursion P ts → P (Node f ts)) where
  mutual
    pub ind_terms : (t : Term) → P t
    ind_terms (Var v) = at_var v
    ind_terms (Int n) = at_int n
    ind_terms (Atom a) = at_atom a
    ind_terms (Node' f shape row) =
        subst P (ap (Node f) (sym (items_shown-the_row-Term-0 shape row)) ∙ sym (rolls-Node f _) ∙ ap roll-Term (sym (outs-Node' f shape row)) ∙ roll-out-Term (Node' f shape row))
        (at_node f (items-the_row-Term _ row) (ind_row _ row))

    ind_row : (n : _) (row : Row_of-Term n) → AllByRecursion P (items-the_row-Term n row)
    ind_row n end_of-Term = tt
    ind_row n (more_of-Term t rest) = (ind_terms t, ind_row _ rest)

pub map_same : {A B : Type 0} (f g : A → B) (xs : List A) → AllByRecursion (λ x. f x ≡ g x) xs → map f xs ≡ map g xs
map_same f g [] h = refl
map_same f g (x ∷ xs) h = ap (λ y. y ∷ map f xs) h.0 ∙ ap (λ ys. g x ∷ ys) (map_same f g xs h.1)

-- a fold that computes
abbrev mutual
  pub fold_term : (A : Type 0) → (layer.Term-F A → A) → Term → A
  fold_term A step (Var v) = step (layer.Var v)
  fold_term A step (Int n) = step (layer.Int n)
  fold_term A step (Atom a) = step (layer.Atom a)
  fold_term A step (Node' f shape row) = step (layer.Node f (fold_row A step row))

  pub fold_row : {m : _} → (A : Type 0) → (layer.Term-F A → A) → Row_of-Term m → List A
  fold_row A step end_of-Term = []
  fold_row A step (more_of-Term t row) = fold_term A step t ∷ fold_row A step row

-- the parts of a compound as a row
abbrev pub row_of : Term → (n : _) × Row_of-Term n
row_of (Node' f shape row) = (_, row)
row_of _ = (_, end_of-Term)

pub row_is_map : (A : Type 0) (step : layer.Term-F A → A) (n : _) (row : Row_of-Term n) → fold_row A step row ≡ map (fold_term A step) (items-the_row-Term n row)
row_is_map A step n end_of-Term = refl
row_is_map A step n (more_of-Term t row) = ap (λ as'. fold_term A step t ∷ as') (row_is_map A step _ row)

pub fold_term-Node : (A : Type 0) (step : layer.Term-F A → A) (f : ℕ) (ts : List Term) → fold_term A step (Node f ts) ≡ step (layer.Node f (map (fold_term A step) ts))
fold_term-Node A step f ts = ap (λ as'. step (layer.Node f as')) (row_is_map A step _ (row_of (Node f ts)).1 ∙ ap (map (fold_term A step)) (items_hidden-the_row-Term-0 ts))

pub fold_is : (A : Type 0) (step : layer.Term-F A → A) (t : Term) → fold-Term A step t ≡ fold_term A step t
fold_is A step = ind_terms (λ t. fold-Term A step t ≡ fold_term A step t) (fold-Var A step) (fold-Int A step) (fold-Atom A step)
    (λ f ts h. fold-Node A step f ts ∙ ap (λ as'. step (layer.Node f as')) (map_same _ _ ts h) ∙ sym (fold_term-Node A step f ts))

abbrev pub Fold : Type 1
Fold = (A : Type 0) → (layer.Term-F A → A) → Term → A

-- `rw all_folds refl`, under a line `unfolding hidden-the_row-Term-0 Carrier.hidden`, computes what is defined by folds
pub all_folds : ◌≡◌ {A = Fold} fold-Term fold_term
all_folds = λ i A step t. fold_is A step t i

-- what a fold gives at a term that a match opened
pub fold_at_node : (A : Type 0) (step : layer.Term-F A → A) (t : Term) (f : ℕ) (ts : List Term) → t ≡ Node f ts → fold-Term A step t ≡ step (layer.Node f (map (fold-Term A step) ts))
fold_at_node A step t f ts e = ap (fold-Term A step) e ∙ fold-Node A step f ts
