-- Where a table is torn after a change: at the changed priority, or nowhere.
use Rattle.std.proofs.Common.{◌≡◌, ℕ, List, [], ◌∷◌, refl, ap, sym, ◌∙◌, subst, Bool, true, false}
use Rattle.std.specs.Prelude.{◌&&◌, ◌||◌, ◌==◌, if◌then◌else◌}
use Rattle.std.specs.List.{list_any}
use Rattle.std.proofs.lemmas.Bool.{or_parts, eqb-true, eqb-false, ne_eqb, true≢false}
use Rattle.term_core.specs.declared.operators.OpKind.{OpKind}
use Rattle.term_core.specs.declared.operators.Definition.{Definition}
use Rattle.term_core.specs.declared.operators.Operators.{Operators}
use Rattle.term_core.specs.Operators.{is_yfx, is_xfy, is_fy, is_before, has_kind, is_torn_at, is_torn, redefined, changed}
use Rattle.term_core.proofs.OperatorLists.{redefined_none}

-- no priority is torn
abbrev pub IsWhole : Operators → Type 0
IsWhole ops = (p : ℕ) → is_torn_at ops p ≡ false

-- a test of priorities that none passes

none_passes : (torn : ℕ → Bool) (ds : List Definition) → ((p : ℕ) → torn p ≡ false) → list_any (λ d. torn d.op.priority) ds ≡ false
none_passes torn [] h = refl
none_passes torn (d ∷ ds) h = ap (λ b. b || list_any (λ x. torn x.op.priority) ds) (h d.op.priority) ∙ none_passes torn ds h

passes_not : (torn : ℕ → Bool) (is_kind : OpKind → Bool) (ds : List Definition) (p : ℕ) → list_any (λ d. torn d.op.priority) ds ≡ false → has_kind is_kind ds p ≡ true → torn p ≡ false
passes_not torn is_kind [] p h e = absurd (true≢false (sym e))
passes_not torn is_kind (d ∷ ds) p h e = by (d.op.priority == p) refl e (passes_not torn is_kind ds p (or_parts _ _ h).1)
  where
    by : (b : Bool) → b ≡ (d.op.priority == p) → ((b && is_kind d.op.kind) || has_kind is_kind ds p) ≡ true → (has_kind is_kind ds p ≡ true → torn p ≡ false) → torn p ≡ false
    by true s g r = subst (λ q. torn q ≡ false) (eqb-true _ _ (sym s)) (or_parts _ _ h).0
    by false s g r = r g

pub whole_not_torn : (ops : Operators) → IsWhole ops → is_torn ops ≡ false
whole_not_torn ops h = none_passes (is_torn_at ops) ops.infixes h

pub not_torn_whole : (ops : Operators) → is_torn ops ≡ false → IsWhole ops
not_torn_whole ops h p = by (has_kind is_yfx ops.infixes p) refl (λ e. passes_not (is_torn_at ops) is_yfx ops.infixes p h e)
  where
    by : (b : Bool) → has_kind is_yfx ops.infixes p ≡ b → (has_kind is_yfx ops.infixes p ≡ true → is_torn_at ops p ≡ false) → is_torn_at ops p ≡ false
    by true e r = r e
    by false e r = ap (λ b. b && (has_kind is_xfy ops.infixes p || has_kind is_fy ops.prefixes p)) e

-- the change leaves each other priority as whole as it was

module _ (new : Definition) (p : ℕ) (other : new.op.priority ≡ p → ⊥) where
  kind_left : (is_kind : OpKind → Bool) (ds : List Definition) → has_kind is_kind ds p ≡ false → has_kind is_kind (redefined new ds) p ≡ false
  kind_left is_kind ds h = redefined_none new ds (λ d. d.op.priority == p && is_kind d.op.kind) (ap (λ b. b && is_kind new.op.kind) (ne_eqb new.op.priority p other)) h

  -- three tests that pass only where those before them did
  fewer : (y x f y' x' f' : Bool) → (y ≡ false → y' ≡ false) → (x ≡ false → x' ≡ false) → (f ≡ false → f' ≡ false) → (y && (x || f)) ≡ false → (y' && (x' || f')) ≡ false
  fewer false x f y' x' f' hy hx hf h = ap (λ b. b && (x' || f')) (hy refl)
  fewer true x f false x' f' hy hx hf h = refl
  fewer true x f true x' f' hy hx hf h = ap (λ b. b || f') (hx (or_parts _ _ h).0) ∙ hf (or_parts _ _ h).1

  whole_left : (old : Operators) (b : Bool) → is_torn_at old p ≡ false
      → is_torn_at (if b then record old { prefixes = redefined new old.prefixes } else record old { infixes = redefined new old.infixes }) p ≡ false
  whole_left old true h = fewer _ _ _ (has_kind is_yfx old.infixes p) (has_kind is_xfy old.infixes p) (has_kind is_fy (redefined new old.prefixes) p) (λ e. e) (λ e. e) (kind_left is_fy old.prefixes) h
  whole_left old false h = fewer _ _ _ (has_kind is_yfx (redefined new old.infixes) p) (has_kind is_xfy (redefined new old.infixes) p) (has_kind is_fy old.prefixes p) (kind_left is_yfx old.infixes) (kind_left is_xfy old.infixes) (λ e. e) h

whole_changed : (new : Definition) (old : Operators) → IsWhole old → is_torn_at (changed new old) new.op.priority ≡ false → IsWhole (changed new old)
whole_changed new old h e p = by (new.op.priority == p) refl
  where
    by : (b : Bool) → b ≡ (new.op.priority == p) → is_torn_at (changed new old) p ≡ false
    by true s = subst (λ q. is_torn_at (changed new old) q ≡ false) (eqb-true _ _ (sym s)) e
    by false s = whole_left new p (eqb-false _ _ (sym s)) old (is_before new.op.kind) (h p)

pub torn_at_new : (new : Definition) (old : Operators) → IsWhole old → is_torn (changed new old) ≡ is_torn_at (changed new old) new.op.priority
torn_at_new new old h = by (is_torn_at (changed new old) new.op.priority) refl (is_torn (changed new old)) refl
  where
    by : (b : Bool) → is_torn_at (changed new old) new.op.priority ≡ b → (c : Bool) → is_torn (changed new old) ≡ c → c ≡ b
    by false e c f = sym f ∙ whole_not_torn _ (whole_changed new old h e)
    by true e true f = refl
    by true e false f = absurd (true≢false (sym e ∙ not_torn_whole _ f new.op.priority))
