-- What leaves the choices as they are.
use Rattle.std.proofs.Common.{◌≡◌, ◌≤◌, ◌<◌, ◌⊎◌, inl, inr, ℕ, suc, List, [], ◌∷◌, ◌++◌, map, length, refl, sym, ap, ◌∙◌, arith}
use Rattle.std.proofs.lemmas.Bool.{cases_lt}
use Rattle.term_core.specs.declared.terms.Term.{Term}
use Rattle.prog_data.specs.declared.programs.Clause.{Clause}
use Rattle.machine_model.specs.State.{Call, Resume, Try}
use Rattle.machine_model.specs.Step.{tries}
use Rattle.term_heap.specs.Changes.{Change, value_of, places, undone}
use Rattle.term_heap.proofs.HistoryLaws.{undone_here, undone_more}
use Rattle.term_heap.proofs.PastLaws.{lengths_stay}
use Rattle.engine_state.specs.Engines.{Link, chain, Alternative, Resumes, Retries, Marks, ChoicePoint, frame_with, call_with, alternative_choices, point_choices, choices_of, AreInOrder, rest_of, AreHeld}

-- changes of the heap

later_point : (more changes : List Change) (links : List Link) (query : ℕ) (p : ChoicePoint) → p.trail ≤ length changes → point_choices (more ++ changes) links query p ≡ point_choices changes links query p
later_point more changes links query p le = ap (λ cs. alternative_choices (value_of cs) links query p.alternative) (lengths_stay p.trail more changes le)

later_within : (more changes : List Change) (links : List Link) (query : ℕ) (points : List ChoicePoint) (trail : ℕ) → AreInOrder trail points → trail ≤ length changes →
    choices_of (more ++ changes) links query points ≡ choices_of changes links query points
later_within more changes links query [] trail ordered le = refl
later_within more changes links query (p ∷ ps) trail ordered le =
    (λ i. later_point more changes links query p (omega (arith, ordered.0, le)) i ++ later_within more changes links query ps p.trail ordered.1 (omega (arith, ordered.0, le)) i)

pub later_choices : (more changes : List Change) (links : List Link) (query : ℕ) (points : List ChoicePoint) → AreInOrder (length changes) points →
    choices_of (more ++ changes) links query points ≡ choices_of changes links query points
later_choices more changes links query points ordered = later_within more changes links query points (length changes) ordered (omega arith)

-- what is undone further was undone
pub undone_twice : (m n : ℕ) (changes : List Change) → m ≤ n → undone m (undone n changes) ≡ undone m changes
undone_twice m n [] le = refl
undone_twice m n (c ∷ older) le = by_length (undone_twice m n older le) (cases_lt (length older) n) where
  by_length : undone m (undone n older) ≡ undone m older → (length older < n) ⊎ (n ≤ length older) → undone m (undone n (c ∷ older)) ≡ undone m (c ∷ older)
  by_length further (inl less) = ap (undone m) (undone_here n (c ∷ older) (omega (arith, less)))
  by_length further (inr more) = ap (undone m) (undone_more n c older more) ∙ further ∙ sym (undone_more m c older (omega (arith, le, more)))

back_point : (n : ℕ) (changes : List Change) (links : List Link) (query : ℕ) (p : ChoicePoint) → p.trail ≤ n → point_choices (undone n changes) links query p ≡ point_choices changes links query p
back_point n changes links query p le = ap (λ cs. alternative_choices (value_of cs) links query p.alternative) (undone_twice p.trail n changes le)

back_within : (n : ℕ) (changes : List Change) (links : List Link) (query : ℕ) (points : List ChoicePoint) (trail : ℕ) → AreInOrder trail points → trail ≤ n →
    choices_of (undone n changes) links query points ≡ choices_of changes links query points
back_within n changes links query [] trail ordered le = refl
back_within n changes links query (p ∷ ps) trail ordered le =
    (λ i. back_point n changes links query p (omega (arith, ordered.0, le)) i ++ back_within n changes links query ps p.trail ordered.1 (omega (arith, ordered.0, le)) i)

pub back_choices : (n : ℕ) (changes : List Change) (links : List Link) (query : ℕ) (points : List ChoicePoint) → AreInOrder n points →
    choices_of (undone n changes) links query points ≡ choices_of changes links query points
back_choices n changes links query points ordered = back_within n changes links query points n ordered (omega arith)

-- links

pub same_alternative : (value : ℕ → Term) (old new : List Link) (query : ℕ) (a : Alternative) → chain new (rest_of a) ≡ chain old (rest_of a) → alternative_choices value new query a ≡ alternative_choices value old query a
same_alternative value old new query (Resumes rest) e = ap (λ tasks. Resume (frame_with value tasks query) ∷ []) e
same_alternative value old new query (Retries left c) e = ap (λ tasks. map (λ k. Try k (call_with value tasks query c)) left) e
same_alternative value old new query (Marks p conds exited) e = refl

pub pushed_choices : (changes : List Change) (old new : List Link) (held query : ℕ) (points : List ChoicePoint) → ((j : ℕ) → j ≤ held → chain new j ≡ chain old j) → AreHeld held points →
    choices_of changes new query points ≡ choices_of changes old query points
pushed_choices changes old new held query [] same are = refl
pushed_choices changes old new held query (p ∷ ps) same are =
    (λ i. same_alternative (value_of (undone p.trail changes)) old new query p.alternative (same (rest_of p.alternative) (omega (arith, are.0, are.1))) i
    ++ pushed_choices changes old new p.links query ps (λ j le. same j (omega (arith, are.0, le))) are.2 i)

-- new choice points

pub now_choices : (changes : List Change) (links : List Link) (query : ℕ) (p : ChoicePoint) → length changes ≤ p.trail → point_choices changes links query p ≡ alternative_choices (value_of changes) links query p.alternative
now_choices changes links query p le = ap (λ cs. alternative_choices (value_of cs) links query p.alternative) (undone_here p.trail changes le)

pub clauses_tried : (k : ℕ) (cs : List Clause) (call : Call) → tries k cs call ≡ map (λ j. Try j call) (places k (length cs))
clauses_tried k [] call = refl
clauses_tried k (c ∷ cs) call = ap (λ choices. Try k call ∷ choices) (clauses_tried (suc k) cs call)
