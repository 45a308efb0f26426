-- The steps of the code are those of the machine, with what is kept of a derivation in its place.
use Rattle.std.proofs.Common.{◌≡◌, ℕ, List, [], ◌∷◌, ◌++◌, refl, ap, ◌∙◌, Bool, true, false}
use Rattle.std.specs.Prelude.{◌&&◌, nat_le, drop, Option, Some, None, if◌then◌else◌}
use Rattle.term_core.specs.declared.fixed.TheConstants as fixed
use Rattle.term_core.specs.declared.operators.Op.{Op}
use Rattle.term_core.specs.declared.operators.Operators.{Operators}
use Rattle.term_core.specs.declared.terms.Term as term
use Rattle.term_core.specs.Operators.{prefix_of, infix_of, left_limit, right_limit}
use Rattle.ciao_reader.specs.declared.words.Word.{Word}
use Rattle.ciao_reader.specs.declared.words.Word.TheVariants as word
use Rattle.ciao_reader.specs.declared.parts.Part.{Part}
use Rattle.ciao_reader.specs.declared.frames.Frame.{Frame}
use Rattle.ciao_reader.specs.declared.frames.Frame.TheVariants.{Before, Between, Paren, Curly, Call, Listed, Tail}
use Rattle.ciao_reader.specs.Derivations.{Tree, Trees, call, one, count, op_priority, priority}
use Rattle.ciao_reader.specs.Parts.{part_of, leaf, node_part, list_part}
use Rattle.ciao_reader.specs.Steps.{Now, need, have, done, stuck, number_next, call_next, prefix_next, no_item, no_brace, after_need, at_end, in_paren, in_curly, called, in_call, in_list, in_tail, given, operator_next, grown, next}
use Rattle.ciao_reader.proofs.Climbing as machine
use Rattle.ciao_reader.proofs.Climbing.{State, put_before}
use Rattle.ciao_reader.proofs.PartLaws.{prefix_kept, between_kept, paren_kept, codes_kept, all_parts, items_kept, tail_kept, parts_in, parts_put, terms_in, deepest_in, call_kept, call_length}

abbrev pub frame_of : machine.Frame → Frame
frame_of (machine.in_before f q) = Before f q
frame_of (machine.in_between f t q) = Between f (part_of t) q
frame_of (machine.in_parens q) = Paren q
frame_of (machine.in_braces q) = Curly q
frame_of (machine.in_call f ds q) = Call f (terms_in ds) (deepest_in ds) q
frame_of (machine.in_items ds q) = Listed (parts_in ds) q
frame_of (machine.in_tail ts q) = Tail (all_parts ts) q

abbrev pub frames_of : List machine.Frame → List Frame
frames_of [] = []
frames_of (f ∷ st) = frame_of f ∷ frames_of st

module _ (ops : Operators) where
  -- the state with what is kept of its trees
  abbrev pub image : State → Now
  image (machine.need p ws st) = need p ws (frames_of st)
  image (machine.have p t ws st) = have p (priority ops t) (part_of t) ws (frames_of st)
  image (machine.done t) = done (part_of t)
  image machine.stuck = stuck

  -- where a term is due

  number_image : (p : ℕ) (ws : List Word) (st : List machine.Frame) → number_next p ws (frames_of st) ≡ image (machine.need_number ops p ws st)
  number_image p (word.Number n ∷ ws) st = refl
  number_image p ws st = refl

  call_image : (f p : ℕ) (ws : List Word) (st : List machine.Frame) → call_next f p ws (frames_of st) ≡ image (machine.need_call ops f p ws st)
  call_image f p (word.Paren ∷ ws) st = refl
  call_image f p ws st = refl

  prefix_image : (o : Option Op) (f p : ℕ) (ws : List Word) (st : List machine.Frame) → prefix_next o f p ws (frames_of st) ≡ image (machine.need_before ops o f p ws st)
  prefix_image None f p ws st = refl
  prefix_image (Some o) f p ws st = by (nat_le o.priority p)
    where
      by : (b : Bool) → (if b then need (right_limit o) ws (Before f p ∷ frames_of st) else stuck) ≡ image (if b then machine.need (right_limit o) ws (machine.in_before f p ∷ st) else machine.stuck)
      by true = refl
      by false = refl

  some_item : (ps : List Part) (p : Part) (q : ℕ) (ws : List Word) (st : List Frame) → no_item ws (Listed (ps ++ p ∷ []) q ∷ st) ≡ stuck
  some_item [] p q ws st = refl
  some_item (r ∷ ps) p q ws st = refl

  no_item_image : (ws : List Word) (st : List machine.Frame) → no_item ws (frames_of st) ≡ image (machine.no_item ops ws st)
  no_item_image ws (machine.in_items [] q ∷ st) = refl
  no_item_image ws (machine.in_items (d ∷ ds) q ∷ st) = some_item (parts_in ds) (part_of d) q ws (frames_of st)
  no_item_image ws st = refl

  no_brace_image : (ws : List Word) (st : List machine.Frame) → no_brace ws (frames_of st) ≡ image (machine.no_brace ops ws st)
  no_brace_image ws (machine.in_braces q ∷ st) = refl
  no_brace_image ws st = refl

  need_image : (p : ℕ) (ws : List Word) (st : List machine.Frame) → after_need ops p ws (frames_of st) ≡ image (machine.need_step ops p ws st)
  need_image p (word.Text cs ∷ ws) st = ap (λ x. have p 0 x ws (frames_of st)) (codes_kept cs)
  need_image p (word.Sign ∷ ws) st = number_image p ws st
  need_image p (word.Call f ∷ ws) st = call_image f p ws st
  need_image p (word.Before f ∷ ws) st = prefix_image (prefix_of ops f) f p ws st
  need_image p (word.CloseList ∷ ws) st = no_item_image ws st
  need_image p (word.CloseCurly ∷ ws) st = no_brace_image ws st
  need_image p ws st = refl

  -- where a term is there

  end_image : (t : Tree) (ws : List Word) → at_end (part_of t) ws ≡ image (machine.reduce_last ops t ws)
  end_image t [] = refl
  end_image t (w ∷ ws) = refl

  paren_image : (t : Tree) (q : ℕ) (ws : List Word) (st : List machine.Frame) → in_paren (part_of t) q ws (frames_of st) ≡ image (machine.reduce_parens ops t q ws st)
  paren_image t q (word.CloseParen ∷ ws) st = ap (λ x. have q 0 x ws (frames_of st)) (paren_kept t)
  paren_image t q ws st = refl

  curly_image : (t : Tree) (q : ℕ) (ws : List Word) (st : List machine.Frame) → in_curly (part_of t) q ws (frames_of st) ≡ image (machine.reduce_braces ops t q ws st)
  curly_image t q (word.CloseCurly ∷ ws) st = ap (λ x. have q 0 x ws (frames_of st)) (prefix_kept fixed.BRACES t)
  curly_image t q ws st = refl

  called_image : (t : Tree) (f : ℕ) (ds : List Tree) (q : ℕ) (ws : List Word) (st : List machine.Frame)
      → called f (terms_in (t ∷ ds)) (deepest_in (t ∷ ds)) q ws (frames_of st) ≡ image (machine.end_call ops (put_before ds (one t)) f q ws st)
  called_image t f ds q ws st =
      ap (λ n. if nat_le n 255 then have q 0 (node_part f (terms_in (t ∷ ds)) (deepest_in (t ∷ ds))) ws (frames_of st) else stuck) (call_length t ds)
      ∙ ap (λ x. if nat_le (count ts) 255 then have q 0 x ws (frames_of st) else stuck) (call_kept f t ds) ∙ by (nat_le (count ts) 255)
    where
      ts : Trees
      ts = put_before ds (one t)

      by : (b : Bool) → (if b then have q 0 (part_of (call f ts)) ws (frames_of st) else stuck) ≡ image (if b then machine.have q (call f ts) ws st else machine.stuck)
      by true = refl
      by false = refl

  argument_image : (t : Tree) (f : ℕ) (ds : List Tree) (q : ℕ) (ws : List Word) (st : List machine.Frame)
      → in_call f (terms_in (t ∷ ds)) (deepest_in (t ∷ ds)) q ws (frames_of st) ≡ image (machine.reduce_call ops t f ds q ws st)
  argument_image t f ds q (word.CloseParen ∷ ws) st = called_image t f ds q ws st
  argument_image t f ds q ws st = refl

  item_image : (t : Tree) (ds : List Tree) (q : ℕ) (ws : List Word) (st : List machine.Frame) → in_list (parts_in (t ∷ ds)) q ws (frames_of st) ≡ image (machine.reduce_items ops t ds q ws st)
  item_image t ds q (word.Bar ∷ ws) st = ap (λ ps. need 999 ws (Tail ps q ∷ frames_of st)) (parts_put ds (one t))
  item_image t ds q (word.CloseList ∷ ws) st =
      ap (λ ps. have q 0 (list_part ps (leaf (term.Atom fixed.NIL))) ws (frames_of st)) (parts_put ds (one t)) ∙ ap (λ x. have q 0 x ws (frames_of st)) (items_kept (put_before ds (one t)))
  item_image t ds q ws st = refl

  tail_image : (t : Tree) (ts : Trees) (q : ℕ) (ws : List Word) (st : List machine.Frame) → in_tail (part_of t) (all_parts ts) q ws (frames_of st) ≡ image (machine.reduce_tail ops t ts q ws st)
  tail_image t ts q (word.CloseList ∷ ws) st = ap (λ x. have q 0 x ws (frames_of st)) (tail_kept ts t)
  tail_image t ts q ws st = refl

  given_image : (t : Tree) (ws : List Word) (st : List machine.Frame) → given ops (part_of t) ws (frames_of st) ≡ image (machine.reduce ops t ws st)
  given_image t ws [] = end_image t ws
  given_image t ws (machine.in_before f q ∷ st) = ap (λ x. have q (op_priority (prefix_of ops f)) x ws (frames_of st)) (prefix_kept f t)
  given_image t ws (machine.in_between f l q ∷ st) = ap (λ x. have q (op_priority (infix_of ops f)) x ws (frames_of st)) (between_kept f l t)
  given_image t ws (machine.in_parens q ∷ st) = paren_image t q ws st
  given_image t ws (machine.in_braces q ∷ st) = curly_image t q ws st
  given_image t ws (machine.in_call f ds q ∷ st) = argument_image t f ds q ws st
  given_image t ws (machine.in_items ds q ∷ st) = item_image t ds q ws st
  given_image t ws (machine.in_tail ts q ∷ st) = tail_image t ts q ws st

  grown_image : (p : ℕ) (t : Tree) (ws : List Word) (st : List machine.Frame) (o : Option (ℕ × Op)) → grown ops p (priority ops t) (part_of t) ws (frames_of st) o ≡ image (machine.have_at ops p t ws st o)
  grown_image p t ws st None = given_image t ws st
  grown_image p t ws st (Some (f, o)) = by (nat_le o.priority p && nat_le (priority ops t) (left_limit o))
    where
      by : (b : Bool) → (if b then need (right_limit o) (drop 1 ws) (Between f (part_of t) p ∷ frames_of st) else given ops (part_of t) ws (frames_of st))
          ≡ image (if b then machine.need (right_limit o) (drop 1 ws) (machine.in_between f t p ∷ st) else machine.reduce ops t ws st)
      by true = refl
      by false = given_image t ws st

  pub step_image : (s : State) → next ops (image s) ≡ image (machine.step ops s)
  step_image (machine.need p ws st) = need_image p ws st
  step_image (machine.have p t ws st) = grown_image p t ws st (operator_next ops ws)
  step_image (machine.done t) = refl
  step_image machine.stuck = refl
