-- Each change keeps what holds of the standard table.
use Rattle.std.proofs.Common.{arith, ◌≡◌, ◌<◌, ◌≤◌, ℕ, List, refl, ap, sym, ◌∙◌, subst, Bool, true, false, ℤ, pos, negsuc}
use Rattle.std.specs.Prelude.{◌&&◌, ◌||◌, ◌==◌, not, nat_lt, nat_le, Some, None, if◌then◌else◌}
use Rattle.std.specs.List.{list_all}
use Rattle.std.proofs.lemmas.Bool.{and_parts, and_from, or_parts, not-true, true≢false, false≢true, ltb-true, lt-ltb, leb-true, leb-false, le-leb, eq-eqb}
use Rattle.std.proofs.lemmas.Option.{none-some, same_Some}
use Rattle.term_core.specs.declared.operators.Op.{Op}
use Rattle.term_core.specs.declared.operators.OpKind.{OpKind}
use Rattle.term_core.specs.declared.operators.OpKind.TheVariants.{Xfy, Yfx, Fy}
use Rattle.term_core.specs.declared.operators.Definition.{Definition}
use Rattle.term_core.specs.declared.operators.Operators.{Operators}
use Rattle.term_core.specs.declared.fixed.TheConstants.{COMMA, BAR}
use Rattle.term_core.specs.Operators.{prefix_of, infix_of, defined, is_yfx, is_xfy, is_fy, is_before, has_kind, is_torn_at, is_torn, redefined, changed, is_reserved, checked_change, added}
use Rattle.term_core.specs.Standard.{standard, IsMade, start, change}
use Rattle.term_core.specs.OperatorLaws.{NamesOnce, IsPriority, IsOrderly, HasOneRoot}
use Rattle.term_core.proofs.OperatorLists.{found_all, found_none, redefined_all, redefined_others, redefined_once, once_by}
use Rattle.term_core.proofs.OperatorTorn.{IsWhole, not_torn_whole, torn_at_new}
use Rattle.term_core.proofs.OperatorTies.{infix_below, prefix_below, apart}

abbrev is_priority : ℕ → Bool
is_priority p = nat_lt 0 p && nat_le p 1200

abbrev is_infix_op : Op → Bool
is_infix_op o = is_priority o.priority && not (is_before o.kind)

abbrev is_prefix_op : Op → Bool
is_prefix_op o = is_priority o.priority && is_before o.kind

-- what every made table has
record Kept (ops : Operators) : Type 0 where
  whole : IsWhole ops
  infixes : list_all (λ d. is_infix_op d.op) ops.infixes ≡ true
  prefixes : list_all (λ d. is_prefix_op d.op) ops.prefixes ≡ true
  infixes_once : NamesOnce ops.infixes
  prefixes_once : NamesOnce ops.prefixes
  reserved : (f : ℕ) → is_reserved f ≡ true → (prefix_of ops f ≡ prefix_of standard f) × (infix_of ops f ≡ infix_of standard f)

kept_start : Kept standard
kept_start = record { whole = not_torn_whole standard refl; infixes = refl; prefixes = refl; infixes_once = once_by _ refl; prefixes_once = once_by _ refl; reserved = λ f r. (refl, refl) }

not_reserved : (name f : ℕ) → 4 < name → is_reserved f ≡ true → name ≡ f → ⊥
not_reserved name f l r e = omega (arith, l, leb-true f 4 r, e)

-- the change, by whether the operator stands before its argument
kept_changed : (new : Definition) (old : Operators) (b : Bool) → b ≡ is_before new.op.kind → new.op.priority ≤ 1200 → 4 < new.name → Kept old
    → IsWhole (if b then record old { prefixes = redefined new old.prefixes } else record old { infixes = redefined new old.infixes })
    → Kept (if b then record old { prefixes = redefined new old.prefixes } else record old { infixes = redefined new old.infixes })
kept_changed new old true e u l k t = record {
  whole = t;
  infixes = k.infixes;
  prefixes = redefined_all new old.prefixes is_prefix_op (λ p. and_from _ _ (and_from _ _ (lt-ltb 0 new.op.priority p) (le-leb new.op.priority 1200 u)) (sym e)) k.prefixes;
  infixes_once = k.infixes_once;
  prefixes_once = redefined_once new old.prefixes k.prefixes_once;
  reserved = λ f r. (redefined_others new old.prefixes f (not_reserved new.name f l r) ∙ (k.reserved f r).0, (k.reserved f r).1);
}
kept_changed new old false e u l k t = record {
  whole = t;
  infixes = redefined_all new old.infixes is_infix_op (λ p. and_from _ _ (and_from _ _ (lt-ltb 0 new.op.priority p) (le-leb new.op.priority 1200 u)) (ap not (sym e))) k.infixes;
  prefixes = k.prefixes;
  infixes_once = redefined_once new old.infixes k.infixes_once;
  prefixes_once = k.prefixes_once;
  reserved = λ f r. ((k.reserved f r).0, redefined_others new old.infixes f (not_reserved new.name f l r) ∙ (k.reserved f r).1);
}

kept_checked : (new : Definition) (old ops : Operators) → new.op.priority ≤ 1200 → Kept old → checked_change new old ≡ Some ops → Kept ops
kept_checked new old ops u k e = by (is_reserved new.name) (is_torn (changed new old)) refl refl e
  where
    by : (b c : Bool) → b ≡ is_reserved new.name → c ≡ is_torn (changed new old) → (if b || c then None else Some (changed new old)) ≡ Some ops → Kept ops
    by true c d f g = absurd (none-some ops g)
    by false true d f g = absurd (none-some ops g)
    by false false d f g = subst Kept (same_Some _ _ g) (kept_changed new old (is_before new.op.kind) refl u (leb-false new.name 4 (sym d)) k (not_torn_whole (changed new old) (sym f)))

kept_added : (p : ℤ) (kind : OpKind) (name : ℕ) (old ops : Operators) → Kept old → added p kind name old ≡ Some ops → Kept ops
kept_added (negsuc p) kind name old ops k e = absurd (none-some ops e)
kept_added (pos p) kind name old ops k e = by (nat_le p 1200) refl e
  where
    by : (b : Bool) → b ≡ nat_le p 1200 → (if b then checked_change (record { name = name; op = record { priority = p; kind = kind } }) old else None) ≡ Some ops → Kept ops
    by true d g = kept_checked (record { name = name; op = record { priority = p; kind = kind } }) old ops (leb-true p 1200 (sym d)) k g
    by false d g = absurd (none-some ops g)

kept_made : (ops : Operators) → IsMade ops → Kept ops
kept_made ops (start e) = subst Kept (sym e) kept_start
kept_made ops (change old p kind name m e) = kept_added p kind name old ops (kept_made old m) e

-- what a kept table says of two operators

-- an operator that is found is there
found_has : (is_kind : OpKind → Bool) (ds : List Definition) (f : ℕ) (o : Op) → defined ds f ≡ Some o → is_kind o.kind ≡ true → has_kind is_kind ds o.priority ≡ true
found_has is_kind ds f o e k = by (has_kind is_kind ds o.priority) refl
  where
    by : (b : Bool) → has_kind is_kind ds o.priority ≡ b → b ≡ true
    by true h = refl
    by false h = absurd (true≢false (sym (and_from _ _ (eq-eqb o.priority o.priority refl) k) ∙ found_none (λ x. x.priority == o.priority && is_kind x.kind) ds f o h e))

-- what is not torn has no yfx operator beside another
apart_at : (y x f : Bool) → (y && (x || f)) ≡ false → y ≡ true → (x ≡ false) × (f ≡ false)
apart_at true x f h e = or_parts x f h
apart_at false x f h e = absurd (false≢true e)

module _ (ops : Operators) (k : Kept ops) where
  infix_tie : (f g : ℕ) (o q : Op) → infix_of ops f ≡ Some o → infix_of ops g ≡ Some q → is_yfx q.kind ≡ true → is_xfy o.kind ≡ true → o.priority ≡ q.priority → ⊥
  infix_tie f g o q df dg y x p = true≢false (sym (found_has is_xfy ops.infixes f o df x) ∙ ap (has_kind is_xfy ops.infixes) p ∙ (apart_at _ _ _ (k.whole q.priority) (found_has is_yfx ops.infixes g q dg y)).0)

  prefix_tie : (f g : ℕ) (o q : Op) → prefix_of ops f ≡ Some o → infix_of ops g ≡ Some q → is_yfx q.kind ≡ true → is_fy o.kind ≡ true → o.priority ≡ q.priority → ⊥
  prefix_tie f g o q df dg y x p = true≢false (sym (found_has is_fy ops.prefixes f o df x) ∙ ap (has_kind is_fy ops.prefixes) p ∙ (apart_at _ _ _ (k.whole q.priority) (found_has is_yfx ops.infixes g q dg y)).1)

  infix_parts : (f : ℕ) (o : Op) → infix_of ops f ≡ Some o → (is_priority o.priority ≡ true) × (not (is_before o.kind) ≡ true)
  infix_parts f o e = and_parts _ _ (found_all is_infix_op ops.infixes f o k.infixes e)

  prefix_parts : (f : ℕ) (o : Op) → prefix_of ops f ≡ Some o → (is_priority o.priority ≡ true) × (is_before o.kind ≡ true)
  prefix_parts f o e = and_parts _ _ (found_all is_prefix_op ops.prefixes f o k.prefixes e)

is_priority-true : (p : ℕ) → is_priority p ≡ true → IsPriority p
is_priority-true p e = (ltb-true _ _ (and_parts _ _ e).0, leb-true _ _ (and_parts _ _ e).1)

orderly : (ops : Operators) → Kept ops → IsOrderly ops
orderly ops k = record {
  prefixes_once = k.prefixes_once;
  infixes_once = k.infixes_once;
  prefix_is = λ f o e. let both = prefix_parts ops k f o e in (is_priority-true _ both.0, both.1);
  infix_is = λ f o e. let both = infix_parts ops k f o e in (is_priority-true _ both.0, not-true _ both.1);
  no_yfx_and_xfy = λ f g p df dg. infix_tie ops k g f (record { priority = p; kind = Xfy }) (record { priority = p; kind = Yfx }) dg df refl refl refl;
  no_yfx_and_fy = λ f g p df dg. prefix_tie ops k g f (record { priority = p; kind = Fy }) (record { priority = p; kind = Yfx }) dg df refl refl refl;
  reserved_stay = k.reserved;
}

above_zero : (p : ℕ) → is_priority p ≡ true → 0 < p
above_zero p e = ltb-true _ _ (and_parts _ _ e).0

one_root : (ops : Operators) → Kept ops → HasOneRoot ops
one_root ops k = record {
  infix_ties = λ f g o q df dg l.
      let io = infix_parts ops k f o df in
      let iq = infix_parts ops k g q dg in
      apart o q (is_xfy o.kind) (is_yfx q.kind) (above_zero _ iq.0) refl (infix_below o.kind o.priority (above_zero _ io.0) io.1) (infix_tie ops k f g o q df dg) l;
  prefix_ties = λ f g o q df dg l.
      let io = prefix_parts ops k f o df in
      let iq = infix_parts ops k g q dg in
      apart o q (is_fy o.kind) (is_yfx q.kind) (above_zero _ iq.0) refl (prefix_below o.kind o.priority (above_zero _ io.0) io.1) (prefix_tie ops k f g o q df dg) l;
  comma = λ q e. subst (λ (o : Op). 999 < o.priority) (same_Some _ _ (sym (k.reserved COMMA refl).1 ∙ e)) (omega arith);
  bar = λ q e. subst (λ (o : Op). 999 < o.priority) (same_Some _ _ (sym (k.reserved BAR refl).1 ∙ e)) (omega arith);
}

pub made_orderly : (ops : Operators) → IsMade ops → IsOrderly ops
made_orderly ops m = orderly ops (kept_made ops m)

pub made_one_root : (ops : Operators) → IsMade ops → HasOneRoot ops
made_one_root ops m = one_root ops (kept_made ops m)

-- after a change of a made table only the changed priority can be torn
pub torn_now : (p : ℕ) (kind : OpKind) (name : ℕ) (old ops : Operators) → IsMade old → ops ≡ changed (record { name = name; op = record { priority = p; kind = kind } }) old → is_torn ops ≡ is_torn_at ops p
torn_now p kind name old ops m e = subst (λ x. is_torn x ≡ is_torn_at x p) (sym e) (torn_at_new (record { name = name; op = record { priority = p; kind = kind } }) old (kept_made old m).whole)
