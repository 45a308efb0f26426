-- What is held of units says what the units say of one another.
use Rattle.std.proofs.Common.{◌≡◌, ◌<◌, ℕ, zero, suc, ◌+◌, Bool, true, false, not, ◌&&◌, ◌||◌, ◌==◌, List, [], ◌∷◌, ◌++◌, map, filter, length, get_or, drop, Some, refl, ap, sym, subst, subst₂, ◌∙◌, append_assoc, append-nil, arith}
use Rattle.std.specs.Prelude.{nat_eq, slice_get}
use Rattle.std.specs.List.{list_any}
use Rattle.std.proofs.lemmas.Bool.{eqb-true}
use Rattle.std.proofs.lemmas.Bool.Decides.{nat_tests}
use Rattle.std.proofs.lemmas.Option.{none-some, same_Some}
use Rattle.term_core.specs.Terms.{with_new}
use Rattle.term_core.proofs.Turns.{turn}
use Rattle.regtype_grammar.specs.declared.modules.SeenType.{SeenType}
use Rattle.ciao_modules.specs.declared.units.Unit.{Unit}
use Rattle.body_code.specs.declared.scopes.Named.{Named}
use Rattle.body_code.specs.declared.faults.Indicator.{Indicator}
use Rattle.unit_scopes.specs.Indicators.{is_among}
use Rattle.unit_scopes.specs.Sayings.{File, file_of}
use Rattle.unit_scopes.specs.Numbering.{indicators, defines, first_pred, numbered}
use Rattle.unit_scopes.specs.Imports.{gets, indicator_named, imported, type_indicator, declares, own_types, imported_types}
use Rattle.unit_scopes.specs.Sources.{index_gets, IsIndex, IsSource, AreSources, preds_given, types_given, type_names_behind}
use Rattle.unit_scopes.specs.SourceLaws.{SourcesAreOfFiles, IndexesAnswer}
use Rattle.unit_scopes.specs.declared.indexes.Index.{Index}
use Rattle.unit_scopes.specs.declared.sayings.Declared.{Declared}
use Rattle.unit_scopes.specs.declared.sources.Source.{Source}
use Rattle.unit_scopes.proofs.IndexLaws.{any_added, or_again, or_nothing}

-- an index answers as its file
pub gets_same : (f g : File) (x y : Index) → IsIndex f x → IsIndex g y → (at : ℕ) (p : Indicator) → index_gets x at y p ≡ gets f at g p
gets_same f g x y h k at p = λ i. h.lets_in at p i && (((k.all i && is_among p (k.defined i)) || k.exported p i) && is_among p (k.defined i))

-- an index answers as its file
pub indexes_answer : IndexesAnswer
indexes_answer = record {
  defined = λ f x h p. ap (is_among p) h.defined;
  exported = λ f x h p. λ i. (h.all i && is_among p (h.defined i)) || h.exported p i;
  given = gets_same;
}

-- at each place

as_many : (at first : ℕ) (fs : List File) (ss : List Source) → AreSources at first fs ss → length ss ≡ length fs
as_many at first [] ss are = ap length are
as_many at first (f ∷ fs) [] are = absurd are
as_many at first (f ∷ fs) (s ∷ ss) are = ap (λ n. suc n) (as_many (suc at) (length (indicators f) + first) fs ss are.1)

there : (at first : ℕ) (fs : List File) (ss : List Source) → AreSources at first fs ss → (k : ℕ) (s : Source) → slice_get ss k ≡ Some s
    → (f : File) × (slice_get fs k ≡ Some f) × IsSource (k + at) (first_pred fs k + first) f s
there at first [] ss are k s e = absurd (none-some s (sym (ap (λ xs. slice_get xs k) are) ∙ e))
there at first (f ∷ fs) [] are k s e = absurd are
there at first (f ∷ fs) (t ∷ ts) are zero s e =
    let here : IsSource at first f s = subst (IsSource at first f) (same_Some t s e) are.0 in
    (f, refl, subst₂ (λ n m. IsSource n m f s) (starts at) (starts first) here)
  where
    starts : (n : ℕ) → n ≡ 0 + n
    starts n = omega arith
there at first (f ∷ fs) (t ∷ ts) are (suc k) s e =
    let rest = there (suc at) (length (indicators f) + first) fs ts are.1 k s e in
    let place : k + suc at ≡ suc k + at = omega arith in
    let number : first_pred fs k + (length (indicators f) + first) ≡ length (indicators f) + first_pred fs k + first = omega arith in
    (rest.0, rest.1, subst₂ (λ n m. IsSource n m rest.0 s) place number rest.2)

-- the same of all sources, the first of which is at 0
there_of_all : (fs : List File) (ss : List Source) → AreSources 0 0 fs ss → (k : ℕ) (s : Source) → slice_get ss k ≡ Some s
    → (f : File) × (slice_get fs k ≡ Some f) × IsSource k (first_pred fs k) f s
there_of_all fs ss are k s e =
    let found = there 0 0 fs ss are k s e in
    (found.0, found.1, subst₂ (λ n m. IsSource n m found.0 s) (nothing k) (nothing (first_pred fs k)) found.2)
  where
    nothing : (n : ℕ) → n + 0 ≡ n
    nothing n = omega arith

pub sources_are : SourcesAreOfFiles
sources_are = record {
  count = as_many 0 0;
  file = there_of_all;
  both = λ fs ss are k f s file source.
      let found = there_of_all fs ss are k s source in
      subst (λ g. IsSource k (first_pred fs k) g s) (same_Some found.0 f (sym found.1 ∙ file)) found.2;
}

-- predicates that others give

pub preds_given_are : (f : File) (x : Index) → IsIndex f x → (at first : ℕ) (gs : List File) (ss : List Source) → AreSources at first gs ss → preds_given x at ss ≡ imported f at first gs
preds_given_are f x h at first [] ss are = ap (preds_given x at) are
preds_given_are f x h at first (g ∷ gs) [] are = absurd are
preds_given_are f x h at first (g ∷ gs) (s ∷ ss) are =
    let rest = preds_given_are f x h (suc at) (length (indicators g) + first) gs ss are.1 in
    λ i. filter (λ m. gets_same f g x s.index h are.0.index at (indicator_named m) i && not (is_among (indicator_named m) (h.defined i))) (are.0.preds i) ++ rest i

-- types that others give

-- the names of types are those that are declared
pub names_are : (name : ℕ) (ns : List ℕ) (ds : List Declared) → list_any (nat_eq name) (type_names_behind ns ds) ≡ (list_any (nat_eq name) ns || list_any (λ d. d.name == name) ds)
names_are name ns [] = or_nothing (list_any (nat_eq name) ns)
names_are name ns (d ∷ ds) =
    names_are name (with_new ns d.name) ds
    ∙ ap (λ b. b || list_any (λ e. e.name == name) ds) (any_added nat_eq eqb-true (nat_eq name) ns d.name)
    ∙ or_again (list_any (nat_eq name) ns) (nat_eq name d.name) (list_any (λ e. e.name == name) ds)
    ∙ ap (λ b. list_any (nat_eq name) ns || (b || list_any (λ e. e.name == name) ds)) (turned name d.name)
  where
    turned : (n m : ℕ) → nat_eq n m ≡ (m == n)
    turned n m = grind (arith, nat_tests)

declared_same : {at first : ℕ} (f : File) (s : Source) → IsSource at first f s → (name : ℕ) → list_any (nat_eq name) s.declared.keys ≡ declares f name
declared_same f s h name = ap (list_any (nat_eq name)) h.declared ∙ names_are name [] f.parts.types

pub types_given_are : {here number : ℕ} (f : File) (s : Source) → IsSource here number f s → (at first : ℕ) (gs : List File) (ss : List Source) → AreSources at first gs ss → types_given s at ss ≡ imported_types f at gs
types_given_are f s h at first [] ss are = ap (types_given s at) are
types_given_are f s h at first (g ∷ gs) [] are = absurd are
types_given_are f s h at first (g ∷ gs) (t ∷ ts) are =
    let rest = types_given_are f s h (suc at) (length (indicators g) + first) gs ts are.1 in
    λ i. filter (λ u. gets_same f g s.index t.index h.index are.0.index at (type_indicator u.name) i && not (declared_same f s h u.name i)) (are.0.types i) ++ rest i

-- one more unit

-- what is done before what is left
abbrev pub Held : (at first : ℕ) → List File → List File → List Source → Type 0
Held at first left all done = (rest : List Source) → AreSources at first left rest → AreSources 0 0 all (done ++ rest)

pub held_next : (at first next : ℕ) (f : File) (left all : List File) (done : List Source) (s : Source) → IsSource at first f s → next ≡ length (indicators f) + first
    → Held at first (f ∷ left) all done → Held (suc at) next left all (done ++ s ∷ [])
held_next at first next f left all done s is e held rest are =
    subst (AreSources 0 0 all) (sym (append_assoc done (s ∷ []) rest)) (held (s ∷ rest) (is, subst (λ n. AreSources (suc at) n left rest) e are))

-- a turn of the loop over units
pub held_turn : (units : List Unit) (all : List File) (at first next : ℕ) (u : Unit) (done new : List Source) (s : Source) → at < length units → u ≡ get_or units at u
    → IsSource at first (file_of u) s → next ≡ length (indicators (file_of u)) + first → new ≡ done ++ s ∷ []
    → Held at first (map file_of (drop at units)) all done → Held (at + 1) next (map file_of (drop (at + 1) units)) all new
held_turn units all at first next u done new s lt e is count pushed held =
    let left = map file_of (drop (at + 1) units) in
    let same : suc at ≡ at + 1 = omega arith in
    let opened : map file_of (drop at units) ≡ file_of u ∷ left = turn (map file_of) units at u lt e in
    subst (λ n. Held n next left all new) same
    (subst (λ ss. Held (suc at) next left all ss) (sym pushed) (held_next at first next (file_of u) left all done s is count (subst (λ fs. Held at first fs all done) opened held)))

-- behind the last unit
pub held_end : (all left : List File) (at first : ℕ) (done : List Source) → left ≡ [] → Held at first left all done → AreSources 0 0 all done
held_end all left at first done e held =
    let none : Held at first [] all done = subst (λ fs. Held at first fs all done) e held in
    subst (AreSources 0 0 all) (append-nil done) (none [] refl)

-- turns of the loops over what others give

pub preds_next : (x : Index) (ss : List Source) (k : ℕ) (s : Source) (old new all : List Named) → k < length ss → s ≡ get_or ss k s
    → new ≡ old ++ filter (λ m. index_gets x k s.index (indicator_named m) && not (is_among (indicator_named m) x.defined.keys)) s.preds
    → old ++ preds_given x k (drop k ss) ≡ all → new ++ preds_given x (k + 1) (drop (k + 1) ss) ≡ all
preds_next x ss k s old new all lt e is held =
    let given = filter (λ m. index_gets x k s.index (indicator_named m) && not (is_among (indicator_named m) x.defined.keys)) s.preds in
    let same : k + 1 ≡ suc k = omega arith in
    ap (λ ns. ns ++ preds_given x (k + 1) (drop (k + 1) ss)) is
    ∙ append_assoc old given (preds_given x (k + 1) (drop (k + 1) ss))
    ∙ ap (λ n. old ++ (given ++ preds_given x n (drop (k + 1) ss))) same
    ∙ ap (λ ns. old ++ ns) (sym (turn (preds_given x k) ss k s lt e))
    ∙ held

pub types_next : (f : Source) (ss : List Source) (k : ℕ) (s : Source) (old new all : List SeenType) → k < length ss → s ≡ get_or ss k s
    → new ≡ old ++ filter (λ t. index_gets f.index k s.index (type_indicator t.name) && not (list_any (nat_eq t.name) f.declared.keys)) s.types
    → old ++ types_given f k (drop k ss) ≡ all → new ++ types_given f (k + 1) (drop (k + 1) ss) ≡ all
types_next f ss k s old new all lt e is held =
    let given = filter (λ t. index_gets f.index k s.index (type_indicator t.name) && not (list_any (nat_eq t.name) f.declared.keys)) s.types in
    let same : k + 1 ≡ suc k = omega arith in
    ap (λ ns. ns ++ types_given f (k + 1) (drop (k + 1) ss)) is
    ∙ append_assoc old given (types_given f (k + 1) (drop (k + 1) ss))
    ∙ ap (λ n. old ++ (given ++ types_given f n (drop (k + 1) ss))) same
    ∙ ap (λ ns. old ++ ns) (sym (turn (types_given f k) ss k s lt e))
    ∙ held
