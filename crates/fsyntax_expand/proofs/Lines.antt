-- Lines of the tables that take a term as it is.
use Rattle.std.proofs.Common.{◌≡◌, ℕ, ◌==◌, List, [], ◌∷◌, length, map, false, refl, ap, arith, ◌∙◌}
use Rattle.std.specs.Prelude.{if◌then◌else◌}
use Rattle.term_core.specs.declared.fixed.TheConstants.{BAR, QUESTION, NEGATION}
use Rattle.term_core.specs.declared.terms.Term.{Term}
use Rattle.term_core.specs.declared.terms.Term as term
use Rattle.fsyntax_expand.specs.Expansion.{is_connective, uses, whole, goal_body, equal_to, not_body, both_bodies, either_result, result_if, compound_body, compound_result}
use Rattle.fsyntax_expand.proofs.Themselves.{themselves_are}

pub other_name : (f g : ℕ) → (f ≡ g → ⊥) → (f == g) ≡ false
other_name f g n = grind (arith, n)

pub whole_is : (f : ℕ) (parts : List Term) → whole f (map uses parts) ≡ term.Node f parts
whole_is f parts = ap (term.Node f) (themselves_are parts)

-- another compound of one argument as a body
pub one_body : (f : ℕ) (parts : List Term) (next : ℕ) → length parts ≡ 1 → (f ≡ NEGATION → ⊥) → compound_body f (map uses parts) next ≡ goal_body (term.Node f parts) next
one_body f [] next l n = absurd (omega (arith, l))
one_body f (a ∷ []) next l n =
    ap (λ t. (if t then not_body (uses a) else goal_body (whole f (uses a ∷ []))) next) (other_name f NEGATION n)
    ∙ ap (λ t. goal_body t next) (whole_is f (a ∷ []))
one_body f (a ∷ b ∷ rest) next l n = absurd (omega (arith, l))

-- of two arguments
pub two_body : (f : ℕ) (parts : List Term) (next : ℕ) → length parts ≡ 2 → is_connective f ≡ false → compound_body f (map uses parts) next ≡ goal_body (term.Node f parts) next
two_body f [] next l n = absurd (omega (arith, l))
two_body f (a ∷ []) next l n = absurd (omega (arith, l))
two_body f (a ∷ b ∷ []) next l n =
    ap (λ t. (if t then both_bodies f (uses a) (uses b) else goal_body (whole f (uses a ∷ uses b ∷ []))) next) n
    ∙ ap (λ t. goal_body t next) (whole_is f (a ∷ b ∷ []))
two_body f (a ∷ b ∷ c ∷ rest) next l n = absurd (omega (arith, l))

-- of another number of arguments
pub many_body : (f : ℕ) (parts : List Term) (next : ℕ) → (length parts ≡ 1 → ⊥) → (length parts ≡ 2 → ⊥) → compound_body f (map uses parts) next ≡ goal_body (term.Node f parts) next
many_body f [] next o t = refl
many_body f (a ∷ []) next o t = absurd (o refl)
many_body f (a ∷ b ∷ []) next o t = absurd (t refl)
many_body f (a ∷ b ∷ c ∷ rest) next o t = ap (λ t. goal_body t next) (whole_is f (a ∷ b ∷ c ∷ rest))

-- another compound of two arguments as a result
pub two_result : (f : ℕ) (parts : List Term) (variable next : ℕ) → length parts ≡ 2 → (f ≡ BAR → ⊥) → (f ≡ QUESTION → ⊥) → compound_result f (map uses parts) variable next ≡ equal_to (term.Node f parts) variable next
two_result f [] variable next l n q = absurd (omega (arith, l))
two_result f (a ∷ []) variable next l n q = absurd (omega (arith, l))
two_result f (a ∷ b ∷ []) variable next l n q =
    ap (λ t. (if t then either_result (uses a) (uses b) variable else if f == QUESTION then result_if (uses a) (uses b) variable else equal_to (whole f (uses a ∷ uses b ∷ [])) variable) next) (other_name f BAR n)
    ∙ ap (λ t. (if t then result_if (uses a) (uses b) variable else equal_to (whole f (uses a ∷ uses b ∷ [])) variable) next) (other_name f QUESTION q)
    ∙ ap (λ t. equal_to t variable next) (whole_is f (a ∷ b ∷ []))
two_result f (a ∷ b ∷ c ∷ rest) variable next l n q = absurd (omega (arith, l))

-- of another number of arguments
pub many_result : (f : ℕ) (parts : List Term) (variable next : ℕ) → (length parts ≡ 2 → ⊥) → compound_result f (map uses parts) variable next ≡ equal_to (term.Node f parts) variable next
many_result f [] variable next t = refl
many_result f (a ∷ []) variable next t = ap (λ t. equal_to t variable next) (whole_is f (a ∷ []))
many_result f (a ∷ b ∷ []) variable next t = absurd (t refl)
many_result f (a ∷ b ∷ c ∷ rest) variable next t = ap (λ t. equal_to t variable next) (whole_is f (a ∷ b ∷ c ∷ rest))
