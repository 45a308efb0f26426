-- Chains of links that are added, held and looked at.
use Rattle.std.proofs.Common.{◌≡◌, ◌≤◌, ◌<◌, ℕ, suc, ◌+◌, ◌-◌, max, List, [], ◌∷◌, ◌++◌, map, length, take, drop, reverse, get_or, refl, sym, ap, subst, ◌∙◌, arith}
use Rattle.std.specs.Prelude.{if◌then◌else◌}
use Rattle.std.proofs.lemmas.Bool.{eq-eqb, ne_eqb}
use Rattle.std.proofs.lemmas.List.{length-append, length-map, length-reverse, length-take-le, length-drop, drop_at, reverse-append, map-append, take-append-drop, take_more}
use Rattle.engine_state.specs.declared.tasks.Link as code
use Rattle.engine_state.specs.Engines.{Link, chain}
use Rattle.engine_state.specs.Stacks.{IsPushed}
use Rattle.engine_state.specs.Views.{as_task, as_link, as_links, LeadDown}

-- chains

pub chain_older : (newer older : List Link) (k : ℕ) → k ≤ length older → chain (newer ++ older) k ≡ chain older k
chain_older [] older k le = refl
chain_older (l ∷ newer) older k le =
    ap (λ b. if b then l.task ∷ chain (newer ++ older) l.next else chain (newer ++ older) k) (ne_eqb k (suc (length (newer ++ older))) (λ e. omega (arith, e, le, length-append newer older)))
    ∙ chain_older newer older k le

chain_first : (l : Link) (older : List Link) (k : ℕ) → k ≡ suc (length older) → chain (l ∷ older) k ≡ l.task ∷ chain older l.next
chain_first l older k e = ap (λ b. if b then l.task ∷ chain older l.next else chain older k) (eq-eqb k (suc (length older)) e)

pub chain_past : (links : List Link) (k : ℕ) → length links < k → chain links k ≡ []
chain_past [] k less = refl
chain_past (l ∷ older) k less =
    ap (λ b. if b then l.task ∷ chain older l.next else chain older k) (ne_eqb k (suc (length older)) (λ e. omega (arith, e, less))) ∙ chain_past older k (omega (arith, less))

pub chain_none : (links : List Link) → chain links 0 ≡ []
chain_none [] = refl
chain_none (l ∷ older) = ap (λ b. if b then l.task ∷ chain older l.next else chain older 0) (ne_eqb 0 (suc (length older)) (λ e. omega (arith, e))) ∙ chain_none older

-- the code's links

reversed_parts : (m : ℕ) (items : List code.Link) → reverse items ≡ reverse (drop m items) ++ reverse (take m items)
reversed_parts m items = ap reverse (sym (take-append-drop m items)) ∙ reverse-append (take m items) (drop m items)

-- the links that are kept, with the newest first
pub reversed_front : (m : ℕ) (items : List code.Link) → m ≤ length items → reverse (take m items) ≡ drop (length items - m) (reverse items)
reversed_front m items le =
    let size : length (reverse (drop m items)) ≡ length items - m = length-reverse (drop m items) ∙ length-drop m items in
    sym (ap (drop (length items - m)) (reversed_parts m items) ∙ drop_at (reverse (drop m items)) (reverse (take m items)) (length items - m) size)

module _ (notes : List ℕ) where
  links_pushed : (items : List code.Link) (l : code.Link) → as_links notes (items ++ l ∷ []) ≡ as_link notes l ∷ as_links notes items
  links_pushed items l = ap (map (as_link notes)) (reverse-append items (l ∷ []))

  pub length_links : (items : List code.Link) → length (as_links notes items) ≡ length items
  length_links items = length-map (reverse items) (as_link notes) ∙ length-reverse items

  pub length_kept : (m : ℕ) (items : List code.Link) → m ≤ length items → length (as_links notes (take m items)) ≡ m
  length_kept m items le = length_links (take m items) ∙ length-take-le m items le

  -- the chains of the links that are kept
  pub kept_chain : (m : ℕ) (items : List code.Link) (k : ℕ) → m ≤ length items → k ≤ m → chain (as_links notes (take m items)) k ≡ chain (as_links notes items) k
  kept_chain m items k within le =
      let newer = as_links notes (drop m items) in
      let older = as_links notes (take m items) in
      let parts : as_links notes items ≡ newer ++ older = ap (map (as_link notes)) (reversed_parts m items) ∙ map-append (as_link notes) (reverse (drop m items)) (reverse (take m items)) in
      sym (ap (λ links. chain links k) parts ∙ chain_older newer older k (subst (λ n. k ≤ n) (sym (length_kept m items within)) le))

  module _ (held : ℕ) (old new : List code.Link) (l : code.Link) (k : ℕ) (within : held ≤ length old) (next : l.next ≤ length old) (is : new ≡ take (max held l.next) old ++ l ∷ []) (number : k ≡ length new) where
    pub pushed : IsPushed held l.next (as_links notes old) (as_task notes l.task) k (as_links notes new)
    pushed =
        let m = max held l.next in
        let enough : m ≤ length old = omega (arith, within, next) in
        let older = as_links notes (take m old) in
        let is_new : as_links notes new ≡ as_link notes l ∷ older = ap (as_links notes) is ∙ links_pushed (take m old) l in
        let size : length older ≡ m = length_kept m old enough in
        let is_number : k ≡ suc (length older) = number ∙ sym (length_links new) ∙ ap length is_new in
        record {
          first = ap (λ links. chain links k) is_new ∙ chain_first (as_link notes l) older k is_number ∙ ap (λ tasks. as_task notes l.task ∷ tasks) (kept_chain m old l.next enough (omega arith));
          stay = λ j le. ap (λ links. chain links j) is_new ∙ chain_older (as_link notes l ∷ []) older j (omega (arith, le, size)) ∙ kept_chain m old j enough (omega (arith, le));
          number = number ∙ sym (length_links new);
          above = omega (arith, is_number, size);
        }

-- links that lead down

down_older : (newer older : List code.Link) → LeadDown (newer ++ older) → LeadDown older
down_older [] older down = down
down_older (l ∷ newer) older down = down_older newer older down.1

pub down_kept : (m : ℕ) (items : List code.Link) → LeadDown (reverse items) → LeadDown (reverse (take m items))
down_kept m items down = down_older (reverse (drop m items)) (reverse (take m items)) (subst LeadDown (reversed_parts m items) down)

pub down_pushed : (items new : List code.Link) (l : code.Link) → new ≡ items ++ l ∷ [] → l.next ≤ length items → LeadDown (reverse items) → LeadDown (reverse new)
down_pushed items new l is le down =
    let size : length (reverse items) ≡ length items = length-reverse items in
    subst LeadDown (sym (ap reverse is ∙ reverse-append items (l ∷ []))) (omega (arith, le, size), down)

-- a link that is looked at

module _ (notes : List ℕ) where
  pub looked_at : (items : List code.Link) (i k : ℕ) (l d : code.Link) → LeadDown (reverse items) → i < length items → k ≡ i + 1 → l ≡ get_or items i d →
      chain (as_links notes items) k ≡ as_task notes l.task ∷ chain (as_links notes items) l.next
  looked_at items i k l d down less is_k is =
      let m = i + 1 in
      let front : take m items ≡ take i items ++ l ∷ [] = take_more items i d less ∙ ap (λ x. take i items ++ x ∷ []) (sym is) in
      let older = as_links notes (take i items) in
      let size : length older ≡ i = length_kept notes i items (omega (arith, less)) in
      let is_front : as_links notes (take m items) ≡ as_link notes l ∷ older = ap (as_links notes) front ∙ links_pushed notes (take i items) l in
      let down_front : LeadDown (l ∷ reverse (take i items)) = subst LeadDown (ap reverse front ∙ reverse-append (take i items) (l ∷ [])) (down_kept m items down) in
      let before : l.next ≤ length (reverse (take i items)) = down_front.0 in
      let lengths : length (reverse (take i items)) ≡ i = length-reverse (take i items) ∙ length-take-le i items (omega (arith, less)) in
      sym (kept_chain notes m items k (omega (arith, less)) (omega (arith, is_k)))
      ∙ ap (λ links. chain links k) is_front
      ∙ chain_first (as_link notes l) older k (omega (arith, is_k, size))
      ∙ ap (λ tasks. as_task notes l.task ∷ tasks) (kept_chain notes i items l.next (omega (arith, less)) (omega (arith, before, lengths)))
