-- Of problems the one that comes first.
use Rattle.std.proofs.Common.{◌≡◌, refl}
use Rattle.std.specs.Prelude.{Option, Some, None}
use Rattle.body_code.specs.declared.faults.Problem.{Problem}
use Rattle.body_code.specs.declared.faults.Problem.TheVariants.{UnknownProperty, BadClause, Ambiguous, Undefined}
use Rattle.body_code.specs.Problems.{sooner}

pub sooner_none : (p : Option Problem) → sooner p None ≡ p
sooner_none None = refl
sooner_none (Some p) = refl

-- of three problems it does not matter which two are compared first
three : (p q r : Problem) → sooner (sooner (Some p) (Some q)) (Some r) ≡ sooner (Some p) (sooner (Some q) (Some r))
three UnknownProperty UnknownProperty UnknownProperty = refl
three UnknownProperty UnknownProperty BadClause = refl
three UnknownProperty UnknownProperty Ambiguous = refl
three UnknownProperty UnknownProperty Undefined = refl
three UnknownProperty BadClause UnknownProperty = refl
three UnknownProperty BadClause BadClause = refl
three UnknownProperty BadClause Ambiguous = refl
three UnknownProperty BadClause Undefined = refl
three UnknownProperty Ambiguous UnknownProperty = refl
three UnknownProperty Ambiguous BadClause = refl
three UnknownProperty Ambiguous Ambiguous = refl
three UnknownProperty Ambiguous Undefined = refl
three UnknownProperty Undefined UnknownProperty = refl
three UnknownProperty Undefined BadClause = refl
three UnknownProperty Undefined Ambiguous = refl
three UnknownProperty Undefined Undefined = refl
three BadClause UnknownProperty UnknownProperty = refl
three BadClause UnknownProperty BadClause = refl
three BadClause UnknownProperty Ambiguous = refl
three BadClause UnknownProperty Undefined = refl
three BadClause BadClause UnknownProperty = refl
three BadClause BadClause BadClause = refl
three BadClause BadClause Ambiguous = refl
three BadClause BadClause Undefined = refl
three BadClause Ambiguous UnknownProperty = refl
three BadClause Ambiguous BadClause = refl
three BadClause Ambiguous Ambiguous = refl
three BadClause Ambiguous Undefined = refl
three BadClause Undefined UnknownProperty = refl
three BadClause Undefined BadClause = refl
three BadClause Undefined Ambiguous = refl
three BadClause Undefined Undefined = refl
three Ambiguous UnknownProperty UnknownProperty = refl
three Ambiguous UnknownProperty BadClause = refl
three Ambiguous UnknownProperty Ambiguous = refl
three Ambiguous UnknownProperty Undefined = refl
three Ambiguous BadClause UnknownProperty = refl
three Ambiguous BadClause BadClause = refl
three Ambiguous BadClause Ambiguous = refl
three Ambiguous BadClause Undefined = refl
three Ambiguous Ambiguous UnknownProperty = refl
three Ambiguous Ambiguous BadClause = refl
three Ambiguous Ambiguous Ambiguous = refl
three Ambiguous Ambiguous Undefined = refl
three Ambiguous Undefined UnknownProperty = refl
three Ambiguous Undefined BadClause = refl
three Ambiguous Undefined Ambiguous = refl
three Ambiguous Undefined Undefined = refl
three Undefined UnknownProperty UnknownProperty = refl
three Undefined UnknownProperty BadClause = refl
three Undefined UnknownProperty Ambiguous = refl
three Undefined UnknownProperty Undefined = refl
three Undefined BadClause UnknownProperty = refl
three Undefined BadClause BadClause = refl
three Undefined BadClause Ambiguous = refl
three Undefined BadClause Undefined = refl
three Undefined Ambiguous UnknownProperty = refl
three Undefined Ambiguous BadClause = refl
three Undefined Ambiguous Ambiguous = refl
three Undefined Ambiguous Undefined = refl
three Undefined Undefined UnknownProperty = refl
three Undefined Undefined BadClause = refl
three Undefined Undefined Ambiguous = refl
three Undefined Undefined Undefined = refl

pub sooner_assoc : (p q r : Option Problem) → sooner (sooner p q) r ≡ sooner p (sooner q r)
sooner_assoc None q r = refl
sooner_assoc (Some p) None r = refl
sooner_assoc (Some p) (Some q) None = sooner_none (sooner (Some p) (Some q))
sooner_assoc (Some p) (Some q) (Some r) = three p q r
