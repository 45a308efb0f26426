-- A change sets what one name is.
use Rattle.std.proofs.Common.{◌≡◌, ℕ, refl, subst, Bool, true, false, pos}
use Rattle.std.specs.Prelude.{◌||◌, not, nat_le, Some, None, if◌then◌else◌}
use Rattle.std.proofs.lemmas.Option.{none-some, same_Some}
use Rattle.term_core.specs.declared.operators.OpKind.{OpKind}
use Rattle.term_core.specs.declared.operators.Definition.{Definition}
use Rattle.term_core.specs.declared.operators.Operators.{Operators}
use Rattle.term_core.specs.Operators.{is_before, is_torn, redefined, changed, is_reserved, checked_change, added}
use Rattle.term_core.specs.OperatorLaws.{op_at, op_or_none, SetsOneName}
use Rattle.term_core.proofs.OperatorLists.{redefined_now, redefined_others}

module _ (new : Definition) (old : Operators) where
  now : (b : Bool) → op_at b (if b then record old { prefixes = redefined new old.prefixes } else record old { infixes = redefined new old.infixes }) new.name ≡ op_or_none new.op.priority new.op.kind
  now true = redefined_now new old.prefixes
  now false = redefined_now new old.infixes

  stay : (b : Bool) (other : ℕ) → (new.name ≡ other → ⊥) → op_at b (if b then record old { prefixes = redefined new old.prefixes } else record old { infixes = redefined new old.infixes }) other ≡ op_at b old other
  stay true = redefined_others new old.prefixes
  stay false = redefined_others new old.infixes

  untouched : (b : Bool) (any : ℕ) → op_at (not b) (if b then record old { prefixes = redefined new old.prefixes } else record old { infixes = redefined new old.infixes }) any ≡ op_at (not b) old any
  untouched true any = refl
  untouched false any = refl

  sets_one_name : SetsOneName new.op.priority new.op.kind new.name old (changed new old)
  sets_one_name = record { is_now = now (is_before new.op.kind); others_stay = stay (is_before new.op.kind); other_sort_stays = untouched (is_before new.op.kind) }

checked_sets : (new : Definition) (old ops : Operators) → checked_change new old ≡ Some ops → SetsOneName new.op.priority new.op.kind new.name old ops
checked_sets new old ops e = by (is_reserved new.name || is_torn (changed new old)) e
  where
    by : (b : Bool) → (if b then None else Some (changed new old)) ≡ Some ops → SetsOneName new.op.priority new.op.kind new.name old ops
    by true g = absurd (none-some ops g)
    by false g = subst (SetsOneName new.op.priority new.op.kind new.name old) (same_Some _ _ g) (sets_one_name new old)

pub added_sets : (p : ℕ) (kind : OpKind) (name : ℕ) (old ops : Operators) → added (pos p) kind name old ≡ Some ops → SetsOneName p kind name old ops
added_sets p kind name old ops e = by (nat_le p 1200) e
  where
    by : (b : Bool) → (if b then checked_change (record { name = name; op = record { priority = p; kind = kind } }) old else None) ≡ Some ops → SetsOneName p kind name old ops
    by true g = checked_sets (record { name = name; op = record { priority = p; kind = kind } }) old ops g
    by false g = absurd (none-some ops g)
