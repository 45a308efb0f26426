-- Grammars that grow while a program is made, and what is made in order.
use Rattle.std.proofs.Common.{◌≡◌, ℕ, suc, ◌+◌, ◌<◌, ◌≤◌, List, [], ◌∷◌, ◌++◌, length, refl, ap, sym, ◌∙◌, subst, append_assoc, append-nil, length-append, arith}
use Rattle.std.specs.Prelude.{Option, Some, None, option_and_then}
use Rattle.std.specs.List.{AllByRecursion}
use Rattle.term_core.specs.Names.{fixed_names}
use Rattle.term_core.specs.Lists.{IsPrefix}
use Rattle.term_core.proofs.OperandLaws.{none_part, some_part}
use Rattle.prog_data.specs.declared.grammars.Grammar.{Grammar}
use Rattle.prog_data.specs.declared.grammars.Seen.{Seen}
use Rattle.prog_data.specs.declared.programs.Program.{Program}
use Rattle.prog_data.specs.GrammarRange.{IsGrammar}
use Rattle.assertion_normal.specs.Settling.{in_order}
use Rattle.regtype_grammar.specs.RuleNames.{HasNamedRules, RulesStayNamed}
use Rattle.regtype_grammar.specs.TypeNames.{AreKindsBelow}
use Rattle.program_link.proofs.ProgramLists.{each_more}

pub prefix_longer : {A : Type 0} (xs ys : List A) → IsPrefix xs ys → length xs ≤ length ys
prefix_longer xs ys a =
    let whole : length (xs ++ a.0) ≡ length ys = ap length a.1 in
    let parts : length (xs ++ a.0) ≡ length xs + length a.0 = length-append xs a.0 in
    omega (arith, whole, parts)

pub kinds_more : (n m : ℕ) (seen : List Seen) → n ≤ m → AreKindsBelow n seen → AreKindsBelow m seen
kinds_more n m seen le h = each_more (λ s. s.kind < n) (λ s. s.kind < m) (λ s lt. let below : s.kind < n = lt in omega (arith, below, le)) seen h

-- a grammar in range that has at least so many names, and no other atoms and functors than these names
pub record GrammarIn (names : List (List ℕ)) (size : ℕ) (g : Grammar) : Type 0 where
  pub range : IsGrammar g
  pub enough : size ≤ length g.rules
  pub named : (program : Program) → program.names ≡ names → HasNamedRules program g

module _ (names : List (List ℕ)) (fixed : length fixed_names ≤ length names) (size : ℕ) where
  -- so it is as it grows
  pub grammar_grows : (old new : Grammar) → GrammarIn names size old → length old.rules ≤ length new.rules → (IsGrammar old → IsGrammar new) → RulesStayNamed old new → GrammarIn names size new
  grammar_grows old new h longer range named =
      let enough : size ≤ length old.rules = h.enough in
      record {
        range = range h.range;
        enough = omega (arith, enough, longer);
        named = λ program is. named program (subst (λ ns. length fixed_names ≤ length ns) (sym is) fixed) (h.named program is);
      }

-- the items of two lists, one beside the other
abbrev pub Beside : {A B : Type 0} → (A → B → Type 0) → List A → List B → Type 0
Beside P [] [] = Unit {0}
Beside P [] (y ∷ ys) = ⊥
Beside P (x ∷ xs) [] = ⊥
Beside P (x ∷ xs) (y ∷ ys) = P x y × Beside P xs ys

-- what is made of the items of a list in order, behind what was made before
pub record Made {A B : Type 0} (P : ℕ → A → B → Type 0) (Held : Grammar → Type 0) (g new : Grammar) (done : List B) (xs : List A) (all : List B) : Type 0 where
  pub grammar : Held new
  pub longer : length g.rules ≤ length new.rules
  pub items : List B
  pub whole : all ≡ done ++ items
  pub each : Beside (P (length new.rules)) xs items

module _ {A B : Type 0} (gives : Grammar → A → Option (Grammar × B)) (Q : A → Type 0) (P : ℕ → A → B → Type 0) (Held : Grammar → Type 0) (more : (n m : ℕ) (x : A) (y : B) → n ≤ m → P n x y → P m x y)
    (holds : (g : Grammar) (x : A) (made : Grammar × B) → Held g → Q x → gives g x ≡ Some made → Held made.0 × (length g.rules ≤ length made.0.rules) × P (length made.0.rules) x made.1) where
  pub order_made : (g : Grammar) (done : List B) (xs : List A) (r : Grammar × List B) → Held g → AllByRecursion Q xs → in_order gives (g, done) xs ≡ Some r → Made P Held g r.0 done xs r.1
  order_made g done [] r h q e =
      subst (λ x. Made P Held g x.0 done [] x.1) (some_part (g, done) r e) (record { grammar = h; longer = omega arith; items = []; whole = sym (append-nil done); each = tt })
  order_made g done (x ∷ xs) r h q e = by (λ new y h' e'. order_made new (done ++ y ∷ []) xs r h' q.1 e') (gives g x) refl e
    where
      by : ((new : Grammar) (y : B) → Held new → in_order gives (new, done ++ y ∷ []) xs ≡ Some r → Made P Held new r.0 (done ++ y ∷ []) xs r.1) → (o : Option (Grammar × B)) → gives g x ≡ o
          → option_and_then (λ made. in_order gives (made.0, done ++ made.1 ∷ []) xs) o ≡ Some r → Made P Held g r.0 done (x ∷ xs) r.1
      by later None i e' = absurd (none_part r e')
      by later (Some made) i e' =
          let one = holds g x made h q.0 i in
          let rest = later made.0 made.1 one.0 e' in
          let now : length g.rules ≤ length made.0.rules = one.1 in
          let then_on : length made.0.rules ≤ length r.0.rules = rest.longer in
          record {
            grammar = rest.grammar;
            longer = omega (arith, now, then_on);
            items = made.1 ∷ rest.items;
            whole = rest.whole ∙ append_assoc done (made.1 ∷ []) rest.items;
            each = (more (length made.0.rules) (length r.0.rules) x made.1 then_on one.2, rest.each);
          }
