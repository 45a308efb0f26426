-- Two operators of one priority in a tie.
use Rattle.std.proofs.Common.{arith, ◌≡◌, ◌<◌, ◌≤◌, ◌⊎◌, inl, inr, ℕ, refl, sym, Bool, true, false, not}
use Rattle.std.proofs.lemmas.Bool.{cases_lt, true≢false, false≢true}
use Rattle.term_core.specs.declared.operators.Op.{Op}
use Rattle.term_core.specs.declared.operators.OpKind.{OpKind}
use Rattle.term_core.specs.declared.operators.OpKind.TheVariants.{Xfx, Xfy, Yfx, Fy, Fx}
use Rattle.term_core.specs.Operators.{left_limit, right_limit, is_yfx, is_xfy, is_fy, is_before}

left_within : (k : OpKind) (p : ℕ) → left_limit (record { priority = p; kind = k }) ≤ p
left_within Xfx p = omega arith
left_within Xfy p = omega arith
left_within Yfx p = omega arith
left_within Fy p = omega arith
left_within Fx p = omega arith

right_within : (k : OpKind) (p : ℕ) → right_limit (record { priority = p; kind = k }) ≤ p
right_within Xfx p = omega arith
right_within Xfy p = omega arith
right_within Yfx p = omega arith
right_within Fy p = omega arith
right_within Fx p = omega arith

left_below : (k : OpKind) (p : ℕ) → 0 < p → is_yfx k ≡ false → left_limit (record { priority = p; kind = k }) < p
left_below Xfx p l e = omega (arith, l)
left_below Xfy p l e = omega (arith, l)
left_below Yfx p l e = absurd (true≢false e)
left_below Fy p l e = omega (arith, l)
left_below Fx p l e = omega (arith, l)

pub infix_below : (k : OpKind) (p : ℕ) → 0 < p → not (is_before k) ≡ true → is_xfy k ≡ false → right_limit (record { priority = p; kind = k }) < p
infix_below Xfx p l b e = omega (arith, l)
infix_below Xfy p l b e = absurd (true≢false e)
infix_below Yfx p l b e = omega (arith, l)
infix_below Fy p l b e = absurd (false≢true b)
infix_below Fx p l b e = omega (arith, l)

pub prefix_below : (k : OpKind) (p : ℕ) → 0 < p → is_before k ≡ true → is_fy k ≡ false → right_limit (record { priority = p; kind = k }) < p
prefix_below Xfx p l b e = omega (arith, l)
prefix_below Xfy p l b e = absurd (false≢true b)
prefix_below Yfx p l b e = omega (arith, l)
prefix_below Fy p l b e = absurd (true≢false e)
prefix_below Fx p l b e = omega (arith, l)

-- an operator whose argument behind it may have its own priority only if it is rising, and one that follows
pub apart : (o q : Op) (rising yfx : Bool) → 0 < q.priority → yfx ≡ is_yfx q.kind → (rising ≡ false → right_limit o < o.priority) → (yfx ≡ true → rising ≡ true → o.priority ≡ q.priority → ⊥)
    → o.priority ≤ left_limit q → right_limit o < q.priority
apart o q rising false l e low no_tie m = omega (arith, m, right_within o.kind o.priority, left_below q.kind q.priority l (sym e))
apart o q false true l e low no_tie m = omega (arith, m, low refl, left_within q.kind q.priority)
apart o q true true l e low no_tie m = by (cases_lt o.priority q.priority)
  where
    by : (o.priority < q.priority) ⊎ (q.priority ≤ o.priority) → right_limit o < q.priority
    by (inl n) = omega (arith, n, right_within o.kind o.priority)
    by (inr n) = absurd (no_tie refl refl (omega (arith, n, m, left_within q.kind q.priority)))
