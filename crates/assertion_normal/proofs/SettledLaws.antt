-- Assertions with their properties looked up: of the code that does it, and in range.
use Rattle.std.proofs.Common.{◌≡◌, ℕ, ◌<◌, ◌≤◌, true, false, List, [], ◌∷◌, ◌++◌, length, refl, ap, sym, ◌∙◌, subst, arith}
use Rattle.std.specs.Prelude.{Option, Some, None, option_map, option_and_then}
use Rattle.std.specs.List.{AllByRecursion}
use Rattle.term_core.proofs.OperandLaws.{none_part, some_part}
use Rattle.prog_data.specs.declared.conditions.Prop.{Prop}
use Rattle.prog_data.specs.declared.grammars.Grammar.{Grammar}
use Rattle.prog_data.specs.declared.grammars.Seen.{Seen}
use Rattle.prog_data.specs.Ranges.{is_prop_of}
use Rattle.assertion_read.specs.declared.assertions.Written.{Written}
use Rattle.assertion_read.specs.declared.assertions.Assertion.{Assertion}
use Rattle.assertion_read.specs.Ranges.{IsPropertyInRange, IsAssertionInRange}
use Rattle.regtype_grammar.specs.TypeNames.{MeaningsStayInRange}
use Rattle.assertion_normal.specs.declared.outcomes.NormalFault.{NormalFault}
use Rattle.assertion_normal.specs.declared.settling.Settled.{Settled}
use Rattle.assertion_normal.specs.Properties.{asked}
use Rattle.assertion_normal.specs.Settling.{counts, counting, in_order, all_asked, post_asked, settled_with, settled, all_settled, IsNoRoom}
use Rattle.assertion_normal.specs.Ranges.{AreSeen, AreAbout}
use Rattle.assertion_normal.proofs.EachLaws.{each_filter, each_more}
use Rattle.assertion_normal.proofs.AskedLaws.{prop_more, asked_in}
use Rattle.assertion_normal.proofs.OrderLaws.{no_room, order_next, order_none, order_in, counted, passed_over}

-- the code

module _ (names : List (List ℕ)) (seen : List Seen) where
  -- a precondition and a postcondition that are looked up
  pub settled_next : (old mid new : Grammar) (a : Assertion) (pre : List Prop) (post : Option (List Prop)) (s : Settled) → all_asked seen old a.pre ≡ Some (mid, pre) → post_asked seen mid a.post ≡ Some (new, post) → s ≡ settled_with names a pre post
      → settled names seen old a ≡ Some (new, s)
  settled_next old mid new a pre post s e f is =
      ap (λ o. option_and_then (λ p. option_map (λ q. (q.0, settled_with names a p.1 q.1)) (post_asked seen p.0 a.post)) o) e
      ∙ ap (λ o. option_map (λ q. (q.0, settled_with names a pre q.1)) o) f
      ∙ ap (λ t. Some (new, t)) (sym is)

  pub settled_no_pre : (old : Grammar) (a : Assertion) → all_asked seen old a.pre ≡ None → settled names seen old a ≡ None
  settled_no_pre old a e = ap (λ o. option_and_then (λ p. option_map (λ q. (q.0, settled_with names a p.1 q.1)) (post_asked seen p.0 a.post)) o) e

  pub settled_no_post : (old mid : Grammar) (a : Assertion) (pre : List Prop) → all_asked seen old a.pre ≡ Some (mid, pre) → post_asked seen mid a.post ≡ None → settled names seen old a ≡ None
  settled_no_post old mid a pre e f =
      ap (λ o. option_and_then (λ p. option_map (λ q. (q.0, settled_with names a p.1 q.1)) (post_asked seen p.0 a.post)) o) e
      ∙ ap (λ o. option_map (λ q. (q.0, settled_with names a pre q.1)) o) f

  -- one assertion more
  module _ (old : Grammar) (so_far : List Settled) (a : Assertion) (rest : List Assertion) where
    pub next_passed : counts a.mark ≡ false → in_order (settled names seen) (old, so_far) (counting (a ∷ rest)) ≡ in_order (settled names seen) (old, so_far) (counting rest)
    next_passed e = ap (in_order (settled names seen) (old, so_far)) (passed_over a rest e)

    pub next_settled : (new : Grammar) (one : Settled) (all : List Settled) → counts a.mark ≡ true → settled names seen old a ≡ Some (new, one) → all ≡ so_far ++ one ∷ []
        → in_order (settled names seen) (old, so_far) (counting (a ∷ rest)) ≡ in_order (settled names seen) (new, all) (counting rest)
    next_settled new one all e f is =
        ap (in_order (settled names seen) (old, so_far)) (counted a rest e)
        ∙ order_next (settled names seen) (old, so_far) a (counting rest) (new, one) f
        ∙ ap (λ list. in_order (settled names seen) (new, list) (counting rest)) (sym is)

    pub next_no_room : (fault : NormalFault) → counts a.mark ≡ true → IsNoRoom (settled names seen old a) fault → IsNoRoom (in_order (settled names seen) (old, so_far) (counting (a ∷ rest))) fault
    next_no_room fault e h =
        no_room (settled names seen old a) (in_order (settled names seen) (old, so_far) (counting (a ∷ rest))) fault
        (λ none. ap (in_order (settled names seen) (old, so_far)) (counted a rest e) ∙ order_none (settled names seen) (old, so_far) a (counting rest) none) h

-- ranges

abbrev pub PropsIn : ℕ → ℕ → List Prop → Type 0
PropsIn arity size ps = AllByRecursion (λ p. is_prop_of arity size p ≡ true) ps

abbrev pub PostIn : ℕ → ℕ → Option (List Prop) → Type 0
PostIn arity size None = Unit {0}
PostIn arity size (Some ps) = PropsIn arity size ps

abbrev pub SettledIn : ℕ → ℕ → Settled → Type 0
SettledIn arity size s = PropsIn arity size s.pre × PostIn arity size s.post

props_more : (arity n m : ℕ) (ps : List Prop) → n ≤ m → PropsIn arity n ps → PropsIn arity m ps
props_more arity n m ps le h = each_more (λ p. is_prop_of arity n p ≡ true) (λ p. is_prop_of arity m p ≡ true) (λ p e. prop_more arity n m p le e) ps h

post_more : (arity n m : ℕ) (post : Option (List Prop)) → n ≤ m → PostIn arity n post → PostIn arity m post
post_more arity n m None le h = tt
post_more arity n m (Some ps) le h = props_more arity n m ps le h

settled_more : (arity n m : ℕ) (s : Settled) → n ≤ m → SettledIn arity n s → SettledIn arity m s
settled_more arity n m s le h = (props_more arity n m s.pre le h.0, post_more arity n m s.post le h.1)

-- where the types that are seen are among the first names
module _ (stay : MeaningsStayInRange) (seen : List Seen) (arity base : ℕ) (ten : 10 ≤ base) (first : AllByRecursion (λ s. s.kind < base) seen) where
  seen_at : (g : Grammar) → base ≤ length g.rules → AreSeen g seen
  seen_at g le = each_more (λ s. s.kind < base) (λ s. s.kind < length g.rules) (λ s lt. omega (arith, le, lt)) seen first

  one_in : (g : Grammar) (w : Written) (made : Grammar × Prop) → base ≤ length g.rules → w.arg < arity → asked seen g w ≡ Some made → (is_prop_of arity (length made.0.rules) made.1 ≡ true) × (length g.rules ≤ length made.0.rules)
  one_in g w made le lt e = asked_in stay seen arity g w made (omega (arith, ten, le)) (seen_at g le) lt e

  all_in : (g : Grammar) (ws : List Written) (made : Grammar × List Prop) → base ≤ length g.rules → AllByRecursion (λ w. w.arg < arity) ws → all_asked seen g ws ≡ Some made
      → PropsIn arity (length made.0.rules) made.1 × (length g.rules ≤ length made.0.rules)
  all_in g ws made le h e = order_in (asked seen) (λ w. w.arg < arity) (λ size p. is_prop_of arity size p ≡ true) base (λ n m p less held. prop_more arity n m p less held) one_in (g, []) ws made le tt h e

  post_in : (g : Grammar) (post : Option (List Written)) (made : Grammar × Option (List Prop)) → base ≤ length g.rules → ((ws : List Written) → post ≡ Some ws → AllByRecursion (λ w. w.arg < arity) ws) → post_asked seen g post ≡ Some made
      → PostIn arity (length made.0.rules) made.1 × (length g.rules ≤ length made.0.rules)
  post_in g None made le h e = subst (λ r. PostIn arity (length r.0.rules) r.1 × (length g.rules ≤ length r.0.rules)) (some_part (g, None) made e) (tt, omega arith)
  post_in g (Some ws) made le h e = by (all_asked seen g ws) refl e
    where
      by : (o : Option (Grammar × List Prop)) → all_asked seen g ws ≡ o → option_map (λ post. (post.0, Some post.1)) o ≡ Some made → PostIn arity (length made.0.rules) made.1 × (length g.rules ≤ length made.0.rules)
      by None i e' = absurd (none_part made e')
      by (Some ps) i e' = subst (λ r. PostIn arity (length r.0.rules) r.1 × (length g.rules ≤ length r.0.rules)) (some_part (ps.0, Some ps.1) made e') (all_in g ws ps le (h ws refl) i)

  module _ (names : List (List ℕ)) (count : ℕ) where
    arguments_in : (a : Assertion) → a.arity ≡ arity → (ws : List Written) → AllByRecursion (IsPropertyInRange count a.arity) ws → AllByRecursion (λ w. w.arg < arity) ws
    arguments_in a e ws h = each_more (IsPropertyInRange count a.arity) (λ w. w.arg < arity) (λ w p. subst (λ n. w.arg < n) e p.argument) ws h

    settled_in : (g : Grammar) (a : Assertion) (made : Grammar × Settled) → base ≤ length g.rules → (a.arity ≡ arity) × IsAssertionInRange count a → settled names seen g a ≡ Some made
        → SettledIn arity (length made.0.rules) made.1 × (length g.rules ≤ length made.0.rules)
    settled_in g a made le h e = pre_by (all_asked seen g a.pre) refl e
      where
        post_by : (pre : Grammar × List Prop) → PropsIn arity (length pre.0.rules) pre.1 → length g.rules ≤ length pre.0.rules → (o : Option (Grammar × Option (List Prop))) → post_asked seen pre.0 a.post ≡ o
            → option_map (λ post. (post.0, settled_with names a pre.1 post.1)) o ≡ Some made → SettledIn arity (length made.0.rules) made.1 × (length g.rules ≤ length made.0.rules)
        post_by pre p grows None i e' = absurd (none_part made e')
        post_by pre p grows (Some post) i e' =
            let one = post_in pre.0 a.post post (omega (arith, le, grows)) (λ ws f. arguments_in a h.0 ws (h.1.post ws f)) i in
            let more : length pre.0.rules ≤ length post.0.rules = one.1 in
            subst (λ r. SettledIn arity (length r.0.rules) r.1 × (length g.rules ≤ length r.0.rules)) (some_part (post.0, settled_with names a pre.1 post.1) made e')
            ((props_more arity (length pre.0.rules) (length post.0.rules) pre.1 more p, one.0), omega (arith, grows, more))

        pre_by : (o : Option (Grammar × List Prop)) → all_asked seen g a.pre ≡ o → option_and_then (λ pre. option_map (λ post. (post.0, settled_with names a pre.1 post.1)) (post_asked seen pre.0 a.post)) o ≡ Some made
            → SettledIn arity (length made.0.rules) made.1 × (length g.rules ≤ length made.0.rules)
        pre_by None i e' = absurd (none_part made e')
        pre_by (Some pre) i e' = let one = all_in g a.pre pre le (arguments_in a h.0 a.pre h.1.pre) i in post_by pre one.0 one.1 (post_asked seen pre.0 a.post) refl e'

    pub settled_all_in : (g : Grammar) (list : List Assertion) (made : Grammar × List Settled) → base ≤ length g.rules → AreAbout count arity list → all_settled names seen g list ≡ Some made
        → AllByRecursion (SettledIn arity (length made.0.rules)) made.1
    settled_all_in g list made le h e =
        (order_in (settled names seen) (λ a. (a.arity ≡ arity) × IsAssertionInRange count a) (SettledIn arity) base (λ n m s less held. settled_more arity n m s less held) settled_in (g, []) (counting list) made le tt
        (each_filter (λ a. (a.arity ≡ arity) × IsAssertionInRange count a) (λ a. counts a.mark) list h) e).0
