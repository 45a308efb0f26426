-- The bindings of a unification, one after the other.
use Rattle.std.proofs.Common.{◌≡◌, ◌<◌, ◌^◌, ℕ, zero, suc, ◌+◌, Bool, true, false, List, [], ◌∷◌, length, Some, None, refl, sym, ap, ◌∙◌, subst, arith}
use Rattle.std.specs.Prelude.{slice_set}
use Rattle.std.proofs.lemmas.List.{length-set}
use Rattle.term_core.specs.declared.terms.Term.{Term, Var}
use Rattle.term_core.specs.declared.equations.Outcome.{Outcome}
use Rattle.term_core.specs.declared.equations.Outcome.TheVariants as outcome
use Rattle.term_core.specs.Terms.{instance, replace, only}
use Rattle.term_core.specs.Unify.{Unified as EndsIn}
use Rattle.term_core.proofs.TermLaws.{instance-itself, instance-instance}
use Rattle.term_heap.specs.declared.cells.Cell.{Cell}
use Rattle.term_heap.specs.declared.cells.Cell.TheVariants as cell
use Rattle.term_heap.specs.Changes.{Change, History, Binds, value_of, size_of, cells_of, cell_at, MayBind, next_serial}
use Rattle.term_heap.specs.PastStays.{with_change}
use Rattle.term_heap.proofs.PastLaws.{serial_after, after_earlier}
use Rattle.unify_core.specs.declared.pairs.Pair.{Pair}
use Rattle.unify_core.specs.declared.pairs.Stop.TheVariants as stop
use Rattle.unify_core.specs.declared.unifying.Unified.TheVariants as unified
use Rattle.term_core.specs.Variants.{SameKind, EndsAs}
use Rattle.unify_core.specs.Leads.{Leads}
use Rattle.unify_core.specs.Meets.{is_free, pair_equations, ArePlaces}
use Rattle.unify_core.specs.Reduces.{Reduced}
use Rattle.unify_core.specs.Unifies.{places_equation, IsLater, HasUnified}
use Rattle.unify_core.proofs.LeadLaws.{leads_start, leads_end}
use Rattle.unify_core.proofs.MeetLaws.{is_clash}

-- from the places at the start these pairs are left, after values that each place has
pub record LeadsFrom (old : List Change) (a b : ℕ) (new : List Change) (work : List Pair) : Type 0 where
  pub value : ℕ → Term
  pub is_new : (i : ℕ) → value_of new i ≡ instance value (value_of old i)
  pub leads : Leads (places_equation old a b ∷ []) value (pair_equations (value_of new) work)

pub started : (old : List Change) (a b : ℕ) (work : List Pair) → work ≡ record { left = a; right = b } ∷ [] → LeadsFrom old a b old work
started old a b work e = subst (LeadsFrom old a b old) (sym e) (record {
  value = Var;
  is_new = λ i. sym (instance-itself (value_of old i));
  leads = leads_start (places_equation old a b ∷ []);
})

pub later_itself : (old : History) → IsLater old old
later_itself old = record { goes_on = record { more = []; is_new = refl; serials = tt; last = omega arith }; bindings = tt }

pub later_bound : (old now : History) (v t : ℕ) → now.last < 2 ^ 64 → IsLater old now → IsLater old (with_change now (Binds v t))
later_bound old now v t small later = record {
  goes_on = record {
    more = Binds v t (next_serial now.last) ∷ later.goes_on.more;
    is_new = ap (λ cs. Binds v t (next_serial now.last) ∷ cs) later.goes_on.is_new;
    serials = (after_earlier old.last now.last (next_serial now.last) later.goes_on.last (serial_after now.last), later.goes_on.serials);
    last = omega (arith, later.goes_on.last, small);
  };
  bindings = later.bindings;
}

pub may_bind : (old now : List Change) (a b v t : ℕ) (before after : List Pair) → LeadsFrom old a b now before → Reduced now before (Some (stop.Bind v t)) after → MayBind now v t
may_bind old now a b v t before after from reduced = (reduced.stands (places_equation old a b ∷ []) from.value from.leads).0

pub bound_from : (old now : List Change) (a b v t s : ℕ) (before after : List Pair) → LeadsFrom old a b now before → Reduced now before (Some (stop.Bind v t)) after → LeadsFrom old a b (Binds v t s ∷ now) after
bound_from old now a b v t s before after from reduced = record {
  value = λ x. replace v (value_of now t) (from.value x);
  is_new = λ i. ap (replace v (value_of now t)) (from.is_new i) ∙ instance-instance (only v (value_of now t)) from.value (value_of old i);
  leads = (reduced.stands (places_equation old a b ∷ []) from.value from.leads).1;
}

pub bound_places : (now : List Change) (v t s : ℕ) (work : List Pair) → ArePlaces (size_of now) work → ArePlaces (size_of (Binds v t s ∷ now)) work
bound_places now v t s work all = subst (λ n. ArePlaces n work) (sym (length-set (cells_of now) v (cell.Ref t))) all

-- how it ended

pub ended_same : (old now : List Change) (a b : ℕ) (before after : List Pair) → LeadsFrom old a b now before → Reduced now before None after → HasUnified old a b unified.Same now
ended_same old now a b before after from reduced = (from.value, leads_end (places_equation old a b ∷ []) from.value (reduced.stands (places_equation old a b ∷ []) from.value from.leads), from.is_new)

pub ended_clash : (old now : List Change) (a b : ℕ) (before after : List Pair) → LeadsFrom old a b now before → Reduced now before (Some stop.Clash) after → HasUnified old a b unified.Clash now
ended_clash old now a b before after from reduced = is_clash (places_equation old a b ∷ []) (reduced.stands (places_equation old a b ∷ []) from.value from.leads)

cyclic_kind : (old : List Change) (a b : ℕ) (o : Outcome) → EndsIn (places_equation old a b ∷ []) o → SameKind o outcome.Cyclic → EndsIn (places_equation old a b ∷ []) outcome.Cyclic
cyclic_kind old a b outcome.Cyclic u h = u
cyclic_kind old a b (outcome.Solved bs) u h = absurd h
cyclic_kind old a b outcome.Clash u h = absurd h

pub ended_cyclic : (old now : List Change) (a b : ℕ) (before after : List Pair) → LeadsFrom old a b now before → Reduced now before (Some stop.Cyclic) after → HasUnified old a b unified.Cyclic now
ended_cyclic old now a b before after from reduced =
    let ends : EndsAs (places_equation old a b ∷ []) outcome.Cyclic = reduced.stands (places_equation old a b ∷ []) from.value from.leads in
    cyclic_kind old a b ends.0 ends.1 ends.2

-- the number of free cells

abbrev one_if : Bool → ℕ
one_if true = 1
one_if false = 0

abbrev pub frees : List Cell → ℕ
frees [] = 0
frees (c ∷ cs) = one_if (is_free c) + frees cs

frees_fewer : (cells : List Cell) (at to : ℕ) → at < length cells → cell_at cells at ≡ cell.Free → frees (slice_set cells at (cell.Ref to)) < frees cells
frees_fewer [] at to lt free = absurd (omega (arith, lt))
frees_fewer (c ∷ cs) zero to lt free = omega (arith, ap (λ x. one_if (is_free x)) free)
frees_fewer (c ∷ cs) (suc at) to lt free = omega (arith, frees_fewer cs at to (omega (arith, lt)) free)

pub bound_fewer : (now : List Change) (v t s : ℕ) → MayBind now v t → frees (cells_of (Binds v t s ∷ now)) < frees (cells_of now)
bound_fewer now v t s may = frees_fewer (cells_of now) v t may.bound may.free
