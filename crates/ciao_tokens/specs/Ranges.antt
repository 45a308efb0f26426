-- Tokens in range.
-- The headline does not rest on this file.
use Rattle.std.specs.Prelude.{◌<◌, ⊤, ℕ, List, length}
use Rattle.std.specs.List.{AllByRecursion}
use Rattle.term_core.specs.Lists.{IsPrefix}
use Rattle.ciao_tokens.specs.Tokens.{HasTokens}
use Rattle.ciao_tokens.specs.declared.kinds.Token.{Token}
use Rattle.ciao_tokens.specs.declared.kinds.TokenKind.{TokenKind}
use Rattle.ciao_tokens.specs.declared.kinds.TokenKind.TheVariants as kind

-- the name of a token, or the spelling of its variable, is below a number
abbrev pub IsNamedBelow : ℕ → TokenKind → Type 0
IsNamedBelow n (kind.Name a) = a < n
IsNamedBelow n (kind.Quoted a) = a < n
IsNamedBelow n (kind.Variable a) = a < n
IsNamedBelow n other = ⊤

-- each of some tokens is
abbrev pub AreNamedBelow : ℕ → List Token → Type 0
AreNamedBelow n ts = AllByRecursion (λ t. IsNamedBelow n t.kind) ts

-- the names after a text begin with those before it, and each of its tokens is named by one of them
abbrev pub TokensAreNamed : Type 0
TokensAreNamed = (bytes : List ℕ) (before after : List (List ℕ)) (ts : List Token) → HasTokens bytes before after ts → IsPrefix before after × AreNamedBelow (length after) ts
