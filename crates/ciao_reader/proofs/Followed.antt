-- Where the reading of words stands: the machine has come there, and goes on.
use Rattle.std.proofs.Common.{arith, ◌≡◌, ◌<◌, ◌≤◌, ℕ, ◌+◌, ◌*◌, max, List, [], ◌∷◌, ◌++◌, length, refl, ap, ◌∙◌, subst, Bool, true, false}
use Rattle.std.specs.Prelude.{◌&&◌, nat_le, Option, Some, None, if◌then◌else◌}
use Rattle.term_core.specs.declared.operators.Op.{Op}
use Rattle.term_core.specs.declared.operators.Operators.{Operators}
use Rattle.term_core.specs.declared.terms.Term.{Term}
use Rattle.term_core.specs.Operators.{greatest_priority, prefix_of, left_limit, right_limit}
use Rattle.term_core.specs.Standard.{IsMade}
use Rattle.term_core.proofs.OperatorTables.{made_one_root}
use Rattle.ciao_reader.specs.declared.words.Word.{Word}
use Rattle.ciao_reader.specs.declared.words.Word.TheVariants as word
use Rattle.ciao_reader.specs.declared.parts.Part.{Part}
use Rattle.ciao_reader.specs.declared.frames.Frame.{Frame}
use Rattle.ciao_reader.specs.declared.frames.Frame.TheVariants.{Before, Between, Paren, Curly, Call, Listed, Tail}
use Rattle.ciao_reader.specs.Derivations.{Tree, Derives}
use Rattle.ciao_reader.specs.Parts.{part_of, node_part, IsPartOf}
use Rattle.ciao_reader.specs.Steps.{Now, need, have, done, stuck, number_next, call_next, prefix_next, no_item, no_brace, after_need, at_end, in_paren, in_curly, called, in_call, in_list, in_tail, given, operator_next, grown, next}
use Rattle.ciao_reader.proofs.Climbing as machine
use Rattle.ciao_reader.proofs.Climbing.{State, Leads, here, goes}
use Rattle.ciao_reader.proofs.OneTree.{whole, onward, never}
use Rattle.ciao_reader.proofs.Sound.{sound}
use Rattle.ciao_reader.proofs.Simulation.{image, step_image}

module _ (ops : Operators) (words : List Word) where
  pub record Followed (n : Now) : Type 0 where
    pub state : State
    pub leads : Leads ops (machine.need 1200 words []) state
    pub is : n ≡ image ops state

  pub at_start : Followed (need 1200 words [])
  at_start = record { state = machine.need 1200 words []; leads = here refl; is = refl }

  one_more : {s t : State} → Leads ops s t → Leads ops s (machine.step ops t)
  one_more (here e) = goes (here (ap (machine.step ops) e))
  one_more (goes l) = goes (one_more l)

  pub followed_on : (n m : Now) → Followed n → m ≡ next ops n → Followed m
  followed_on n m f e = record { state = machine.step ops f.state; leads = one_more f.leads; is = e ∙ ap (next ops) f.is ∙ step_image ops f.state }

  done_part : (p : Part) (s : State) → done p ≡ image ops s → (t : Tree) × (s ≡ machine.done t) × (p ≡ part_of t)
  done_part p (machine.done t) e = (t, refl, same e)
    where
      same : done p ≡ done (part_of t) → p ≡ part_of t
      same d = cc
  done_part p (machine.need q ws st) e = cc
  done_part p (machine.have q t ws st) e = cc
  done_part p machine.stuck e = cc

  pub done_read : (p : Part) → Followed (done p) → IsPartOf ops words p
  done_read p f =
      let found = done_part p f.state f.is in
      record { tree = found.0; derives = sound ops words found.0 (subst (Leads ops (machine.need 1200 words [])) found.1 f.leads); is = found.2 }

  stuck_state : (s : State) → stuck ≡ image ops s → s ≡ machine.stuck
  stuck_state machine.stuck e = refl
  stuck_state (machine.done t) e = cc
  stuck_state (machine.need q ws st) e = cc
  stuck_state (machine.have q t ws st) e = cc

  pub stuck_unread : IsMade ops → Followed stuck → (t : Tree) → Derives ops words greatest_priority t → ⊥
  stuck_unread made f t d = never ops t (stuck_state f.state f.is) refl (onward ops t f.leads (whole ops (made_one_root ops made) words t d))

-- words are used up, or what waits is

abbrev pub weight : Now → ℕ
weight (need most ws st) = 2 * length ws + length st + 1
weight (have most priority p ws st) = 2 * length ws + length st + 1
weight (done p) = 0
weight stuck = 0

abbrev Below : ℕ → Now → Type 0
Below n m = weight m < n

number_below : (n most : ℕ) (ws : List Word) (st : List Frame) → 2 * length ws + length st + 2 ≤ n → Below n (number_next most ws st)
number_below n most (word.Number k ∷ ws) st l = omega (arith, l)
number_below n most ws st l = omega (arith, l)

call_below : (n f most : ℕ) (ws : List Word) (st : List Frame) → 2 * length ws + length st + 2 ≤ n → Below n (call_next f most ws st)
call_below n f most (word.Paren ∷ ws) st l = omega (arith, l)
call_below n f most ws st l = omega (arith, l)

prefix_below : (n : ℕ) (o : Option Op) (f most : ℕ) (ws : List Word) (st : List Frame) → 2 * length ws + length st + 3 ≤ n → Below n (prefix_next o f most ws st)
prefix_below n None f most ws st l = omega (arith, l)
prefix_below n (Some o) f most ws st l = by (nat_le o.priority most)
  where
    by : (b : Bool) → Below n (if b then need (right_limit o) ws (Before f most ∷ st) else stuck)
    by true = omega (arith, l)
    by false = omega (arith, l)

item_below : (n : ℕ) (ws : List Word) (st : List Frame) → 2 * length ws + length st + 1 ≤ n → Below n (no_item ws st)
item_below n ws (Listed [] most ∷ st) l = omega (arith, l)
item_below n ws st l = omega (arith, l)

brace_below : (n : ℕ) (ws : List Word) (st : List Frame) → 2 * length ws + length st + 1 ≤ n → Below n (no_brace ws st)
brace_below n ws (Curly most ∷ st) l = omega (arith, l)
brace_below n ws st l = omega (arith, l)

module _ (ops : Operators) where
  pub need_below : (most : ℕ) (ws : List Word) (st : List Frame) → Below (weight (need most ws st)) (after_need ops most ws st)
  need_below most (word.Sign ∷ ws) st = number_below _ most ws st (omega arith)
  need_below most (word.Call f ∷ ws) st = call_below _ f most ws st (omega arith)
  need_below most (word.Before f ∷ ws) st = prefix_below _ (prefix_of ops f) f most ws st (omega arith)
  need_below most (word.CloseList ∷ ws) st = item_below _ ws st (omega arith)
  need_below most (word.CloseCurly ∷ ws) st = brace_below _ ws st (omega arith)
  need_below most ws st = omega arith

  end_below : (n : ℕ) (p : Part) (ws : List Word) → 1 ≤ n → Below n (at_end p ws)
  end_below n p [] l = omega (arith, l)
  end_below n p (w ∷ ws) l = omega (arith, l)

  paren_below : (n : ℕ) (p : Part) (most : ℕ) (ws : List Word) (st : List Frame) → 2 * length ws + length st + 1 ≤ n → Below n (in_paren p most ws st)
  paren_below n p most (word.CloseParen ∷ ws) st l = omega (arith, l)
  paren_below n p most ws st l = omega (arith, l)

  curly_below : (n : ℕ) (p : Part) (most : ℕ) (ws : List Word) (st : List Frame) → 2 * length ws + length st + 1 ≤ n → Below n (in_curly p most ws st)
  curly_below n p most (word.CloseCurly ∷ ws) st l = omega (arith, l)
  curly_below n p most ws st l = omega (arith, l)

  called_below : (n f : ℕ) (ts : List Term) (deepest most : ℕ) (ws : List Word) (st : List Frame) → 2 * length ws + length st + 2 ≤ n → Below n (called f ts deepest most ws st)
  called_below n f ts deepest most ws st l = by (nat_le (length ts) 255)
    where
      by : (b : Bool) → Below n (if b then have most 0 (node_part f ts deepest) ws st else stuck)
      by true = omega (arith, l)
      by false = omega (arith, l)

  argument_below : (n f : ℕ) (ts : List Term) (deepest most : ℕ) (ws : List Word) (st : List Frame) → 2 * length ws + length st + 1 ≤ n → Below n (in_call f ts deepest most ws st)
  argument_below n f ts deepest most (word.Comma ∷ ws) st l = omega (arith, l)
  argument_below n f ts deepest most (word.CloseParen ∷ ws) st l = called_below n f ts deepest most ws st (omega (arith, l))
  argument_below n f ts deepest most ws st l = omega (arith, l)

  listed_below : (n : ℕ) (ps : List Part) (most : ℕ) (ws : List Word) (st : List Frame) → 2 * length ws + length st + 1 ≤ n → Below n (in_list ps most ws st)
  listed_below n ps most (word.Comma ∷ ws) st l = omega (arith, l)
  listed_below n ps most (word.Bar ∷ ws) st l = omega (arith, l)
  listed_below n ps most (word.CloseList ∷ ws) st l = omega (arith, l)
  listed_below n ps most ws st l = omega (arith, l)

  tail_below : (n : ℕ) (p : Part) (ps : List Part) (most : ℕ) (ws : List Word) (st : List Frame) → 2 * length ws + length st + 1 ≤ n → Below n (in_tail p ps most ws st)
  tail_below n p ps most (word.CloseList ∷ ws) st l = omega (arith, l)
  tail_below n p ps most ws st l = omega (arith, l)

  given_below : (p : Part) (ws : List Word) (st : List Frame) → Below (2 * length ws + length st + 1) (given ops p ws st)
  given_below p ws [] = end_below _ p ws (omega arith)
  given_below p ws (Before f most ∷ st) = omega arith
  given_below p ws (Between f left most ∷ st) = omega arith
  given_below p ws (Paren most ∷ st) = paren_below _ p most ws st (omega arith)
  given_below p ws (Curly most ∷ st) = curly_below _ p most ws st (omega arith)
  given_below p ws (Call f ts deepest most ∷ st) = argument_below _ f (ts ++ p.term ∷ []) (max deepest p.depth) most ws st (omega arith)
  given_below p ws (Listed ps most ∷ st) = listed_below _ (ps ++ p ∷ []) most ws st (omega arith)
  given_below p ws (Tail ps most ∷ st) = tail_below _ p ps most ws st (omega arith)

  grown_below : (most priority : ℕ) (p : Part) (ws : List Word) (st : List Frame) (o : Option (ℕ × Op)) → operator_next ops ws ≡ o → Below (2 * length ws + length st + 1) (grown ops most priority p ws st o)
  grown_below most priority p ws st None e = given_below p ws st
  grown_below most priority p [] st (Some (f, o)) e = cc
  grown_below most priority p (w ∷ ws) st (Some (f, o)) e = by (nat_le o.priority most && nat_le priority (left_limit o))
    where
      by : (b : Bool) → Below (2 * length (w ∷ ws) + length st + 1) (if b then need (right_limit o) ws (Between f p most ∷ st) else given ops p (w ∷ ws) st)
      by true = omega arith
      by false = given_below p (w ∷ ws) st

  pub have_below : (most priority : ℕ) (p : Part) (ws : List Word) (st : List Frame) → Below (weight (have most priority p ws st)) (grown ops most priority p ws st (operator_next ops ws))
  have_below most priority p ws st = grown_below most priority p ws st (operator_next ops ws) refl
