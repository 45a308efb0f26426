-- What is kept of a derivation is made of what is kept of its parts.
use Rattle.std.proofs.Common.{arith, ◌≡◌, ◌<◌, ◌⊎◌, inl, inr, ℕ, ◌+◌, max, List, [], ◌∷◌, ◌++◌, length, refl, ap, sym, ◌∙◌, Bool, true, false}
use Rattle.std.specs.Prelude.{nat_le, pos, if◌then◌else◌}
use Rattle.std.proofs.lemmas.Bool.{leb-false, lt-leb}
use Rattle.std.proofs.lemmas.List.{append_assoc}
use Rattle.term_core.specs.declared.fixed.TheConstants as fixed
use Rattle.term_core.specs.declared.terms.Term.{Term}
use Rattle.term_core.specs.declared.terms.Term as term
use Rattle.ciao_reader.specs.declared.parts.Part.{Part}
use Rattle.ciao_reader.specs.Derivations.{Tree, Trees, text, call, parens, items, items_and_tail, between, one, more, count}
use Rattle.ciao_reader.specs.Readings.{term_of, terms_of, depth, deepest, list_depth, list_term, codes_term}
use Rattle.ciao_reader.specs.Sentences.{depth_limit}
use Rattle.ciao_reader.specs.Parts.{capped, part_of, leaf, node_part, prefix_part, infix_part, paren_part, list_part, codes_part}
use Rattle.ciao_reader.proofs.Climbing.{put_before}

-- terms with the depth of the deepest are kept as they are, or both depths are beyond the limit
abbrev Kept : ℕ → List Term → ℕ → List Term → Type 0
Kept d xs e ys = ((d ≡ e) × (xs ≡ ys)) ⊎ ((depth_limit < d) × (depth_limit < e))

capped_kept : (d : ℕ) (x : Term) → Kept ((capped d x).depth) ((capped d x).term ∷ []) d (x ∷ [])
capped_kept d x = by (nat_le d depth_limit) refl
  where
    part : Bool → Part
    part b = if b then record { term = x; depth = d } else record { term = term.Atom fixed.NIL; depth = depth_limit + 1 }

    by : (b : Bool) → b ≡ nat_le d depth_limit → Kept ((part b).depth) ((part b).term ∷ []) d (x ∷ [])
    by true e = inl (refl, refl)
    by false e = inr (omega arith, leb-false d depth_limit (sym e))

both_kept : (d e d' e' : ℕ) (xs ys xs' ys' : List Term) → Kept d xs e ys → Kept d' xs' e' ys' → Kept (max d d') (xs ++ xs') (max e e') (ys ++ ys')
both_kept d e d' e' xs ys xs' ys' (inl (i, j)) (inl (k, l)) = inl (ap (λ n. max n d') i ∙ ap (max e) k, ap (λ zs. zs ++ xs') j ∙ ap (λ zs. ys ++ zs) l)
both_kept d e d' e' xs ys xs' ys' (inl a) (inr (k, l)) = inr (omega (arith, k), omega (arith, l))
both_kept d e d' e' xs ys xs' ys' (inr (k, l)) b = inr (omega (arith, k), omega (arith, l))

deep_capped : (d : ℕ) (x : Term) → depth_limit < d → capped d x ≡ record { term = term.Atom fixed.NIL; depth = depth_limit + 1 }
deep_capped d x l = ap (λ b. if b then record { term = x; depth = d } else record { term = term.Atom fixed.NIL; depth = depth_limit + 1 }) (lt-leb d depth_limit l)

node_kept : (f d e : ℕ) (xs ys : List Term) → Kept d xs e ys → node_part f xs d ≡ capped (e + 1) (term.Node f ys)
node_kept f d e xs ys (inl (i, j)) = ap (λ n. capped (n + 1) (term.Node f xs)) i ∙ ap (λ zs. capped (e + 1) (term.Node f zs)) j
node_kept f d e xs ys (inr (k, l)) = deep_capped (d + 1) (term.Node f xs) (omega (arith, k)) ∙ sym (deep_capped (e + 1) (term.Node f ys) (omega (arith, l)))

pub prefix_kept : (f : ℕ) (t : Tree) → prefix_part f (part_of t) ≡ capped (depth t + 1) (term.Node f (term_of t ∷ []))
prefix_kept f t = node_kept f _ _ _ _ (capped_kept (depth t) (term_of t))

infix_kept : (f d e : ℕ) (x y : Term) → infix_part f (capped d x) (capped e y) ≡ capped (max d e + 1) (term.Node f (x ∷ y ∷ []))
infix_kept f d e x y = node_kept f _ _ _ _ (both_kept _ _ _ _ _ _ _ _ (capped_kept d x) (capped_kept e y))

pub between_kept : (f : ℕ) (t u : Tree) → infix_part f (part_of t) (part_of u) ≡ part_of (between f t u)
between_kept f t u = infix_kept f (depth t) (depth u) (term_of t) (term_of u)

pub paren_kept : (t : Tree) → paren_part (part_of t) ≡ part_of (parens t)
paren_kept t = by (nat_le (depth t) depth_limit) refl
  where
    part : Bool → Part
    part b = if b then record { term = term_of t; depth = depth t } else record { term = term.Atom fixed.NIL; depth = depth_limit + 1 }

    by : (b : Bool) → b ≡ nat_le (depth t) depth_limit → paren_part (part b) ≡ part_of (parens t)
    by true e = refl
    by false e = sym (deep_capped (depth t + 1) (term_of t) (omega (arith, leb-false (depth t) depth_limit (sym e))))

-- lists

pub codes_kept : (cs : List ℕ) → codes_part cs (leaf (term.Atom fixed.NIL)) ≡ part_of (text cs)
codes_kept [] = refl
codes_kept (c ∷ cs) =
    ap (infix_part fixed.CELL (leaf (term.Int (pos c)))) (codes_kept cs) ∙ infix_kept fixed.CELL 1 (length cs + 1) (term.Int (pos c)) (codes_term cs)
    ∙ ap (λ n. capped n (codes_term (c ∷ cs))) (omega arith)

-- what is kept of each
abbrev pub all_parts : Trees → List Part
all_parts (one t) = part_of t ∷ []
all_parts (more t ts) = part_of t ∷ all_parts ts

list_kept : (ts : Trees) (e : ℕ) (y : Term) → list_part (all_parts ts) (capped e y) ≡ capped (list_depth ts e) (list_term (terms_of ts) y)
list_kept (one t) e y = infix_kept fixed.CELL (depth t) e (term_of t) y
list_kept (more t ts) e y = ap (infix_part fixed.CELL (part_of t)) (list_kept ts e y) ∙ infix_kept fixed.CELL (depth t) (list_depth ts e) (term_of t) (list_term (terms_of ts) y)

pub items_kept : (ts : Trees) → list_part (all_parts ts) (leaf (term.Atom fixed.NIL)) ≡ part_of (items ts)
items_kept ts = list_kept ts 1 (term.Atom fixed.NIL)

pub tail_kept : (ts : Trees) (t : Tree) → list_part (all_parts ts) (part_of t) ≡ part_of (items_and_tail ts t)
tail_kept ts t = list_kept ts (depth t) (term_of t)

-- trees in a list, the last one first

abbrev pub parts_in : List Tree → List Part
parts_in [] = []
parts_in (d ∷ ds) = parts_in ds ++ part_of d ∷ []

pub parts_put : (ds : List Tree) (ts : Trees) → (parts_in ds ++ all_parts ts) ≡ all_parts (put_before ds ts)
parts_put [] ts = refl
parts_put (d ∷ ds) ts = append_assoc (parts_in ds) (part_of d ∷ []) (all_parts ts) ∙ parts_put ds (more d ts)

-- arguments

abbrev pub terms_in : List Tree → List Term
terms_in [] = []
terms_in (d ∷ ds) = terms_in ds ++ (part_of d).term ∷ []

abbrev pub deepest_in : List Tree → ℕ
deepest_in [] = 0
deepest_in (d ∷ ds) = max (deepest_in ds) ((part_of d).depth)

abbrev all_terms : Trees → List Term
all_terms (one t) = (part_of t).term ∷ []
all_terms (more t ts) = (part_of t).term ∷ all_terms ts

abbrev all_deepest : Trees → ℕ
all_deepest (one t) = (part_of t).depth
all_deepest (more t ts) = max ((part_of t).depth) (all_deepest ts)

terms_put : (ds : List Tree) (ts : Trees) → (terms_in ds ++ all_terms ts) ≡ all_terms (put_before ds ts)
terms_put [] ts = refl
terms_put (d ∷ ds) ts = append_assoc (terms_in ds) ((part_of d).term ∷ []) (all_terms ts) ∙ terms_put ds (more d ts)

max_assoc : (a b c : ℕ) → max (max a b) c ≡ max a (max b c)
max_assoc a b c = omega arith

deepest_put : (ds : List Tree) (ts : Trees) → max (deepest_in ds) (all_deepest ts) ≡ all_deepest (put_before ds ts)
deepest_put [] ts = omega arith
deepest_put (d ∷ ds) ts = max_assoc (deepest_in ds) ((part_of d).depth) (all_deepest ts) ∙ deepest_put ds (more d ts)

all_kept : (ts : Trees) → Kept (all_deepest ts) (all_terms ts) (deepest ts) (terms_of ts)
all_kept (one t) = capped_kept (depth t) (term_of t)
all_kept (more t ts) = both_kept _ _ _ _ _ _ _ _ (capped_kept (depth t) (term_of t)) (all_kept ts)

pub call_kept : (f : ℕ) (t : Tree) (ds : List Tree) → node_part f (terms_in (t ∷ ds)) (deepest_in (t ∷ ds)) ≡ part_of (call f (put_before ds (one t)))
call_kept f t ds =
    ap (λ xs. node_part f xs (deepest_in (t ∷ ds))) (terms_put ds (one t)) ∙ ap (node_part f (all_terms (put_before ds (one t)))) (deepest_put ds (one t))
    ∙ node_kept f _ _ _ _ (all_kept (put_before ds (one t)))

terms_length : (ts : Trees) → length (all_terms ts) ≡ count ts
terms_length (one t) = refl
terms_length (more t ts) = omega (arith, terms_length ts)

pub call_length : (t : Tree) (ds : List Tree) → length (terms_in (t ∷ ds)) ≡ count (put_before ds (one t))
call_length t ds = ap length (terms_put ds (one t)) ∙ terms_length (put_before ds (one t))
