-- The laws of tokens.
-- The headline does not rest on this file.
use Rattle.std.specs.Prelude.{◌≡◌, ◌<◌, ◌≤◌, ◌⊎◌, ◌↔◌, ℕ, ◌+◌, ◌==◌, not, List, [], ◌∷◌, length, take}
use Rattle.ciao_tokens.specs.Pieces.{Piece, Cut}
use Rattle.ciao_tokens.specs.Tokens.{line_feeds, HasTokens}
use Rattle.ciao_tokens.specs.Faults.{FirstFault, HasFault}
use Rattle.ciao_tokens.specs.BadTokens.{IsBad}
use Rattle.ciao_tokens.specs.declared.kinds.Token.{Token}
use Rattle.ciao_tokens.specs.declared.kinds.TextFault.{TextFault}
use Rattle.ciao_tokens.specs.declared.kinds.TextFault.TheVariants.{BadToken}

-- a text has at most one list of pieces
abbrev pub OneCut : List ℕ → Type 0
OneCut bytes = (ps qs : List Piece) → Cut ps bytes → Cut qs bytes → ps ≡ qs

-- a text has at most one list of tokens, and makes of the names before it one list
abbrev pub OneList : List ℕ → Type 0
OneList bytes = (before after later : List (List ℕ)) (ts us : List Token) → HasTokens bytes before after ts → HasTokens bytes before later us → (ts ≡ us) × (after ≡ later)

-- a text with tokens has no fault
abbrev pub NoFault : List ℕ → Type 0
NoFault bytes = (before after : List (List ℕ)) (ts : List Token) (fault : TextFault) → HasTokens bytes before after ts → HasFault bytes fault → ⊥

-- a text has at most one fault, at one line
abbrev pub OneFault : List ℕ → Type 0
OneFault bytes = (f g : TextFault) → HasFault bytes f → HasFault bytes g → f ≡ g

-- a text has tokens or a fault
abbrev pub EveryText : List ℕ → Type 0
EveryText bytes = (before : List (List ℕ)) → ((after : List (List ℕ)) × (ts : List Token) × HasTokens bytes before after ts) ⊎ ((fault : TextFault) × HasFault bytes fault)

-- no piece stands at a place exactly where no token begins there in one of the six ways
abbrev pub SixWays : List ℕ → Type 0
SixWays bytes = (line : ℕ) → HasFault bytes (BadToken line) ↔ FirstFault IsBad bytes line

-- the tokens stand behind a place of the text, each behind the one before, with layout between exactly where the second one says so, and each in the line that the line feeds before it give
abbrev pub AreInOrder : List ℕ → ℕ → List Token → Type 0
AreInOrder bytes place [] = place ≤ length bytes
AreInOrder bytes place (t ∷ ts) = (place ≤ t.start) × (t.start < t.end) × (t.layout_before ≡ not (place == t.start)) × (t.line ≡ line_feeds (take t.start bytes) + 1) × AreInOrder bytes t.end ts

-- the tokens of a text stand in order
abbrev pub InOrder : List ℕ → Type 0
InOrder bytes = (before after : List (List ℕ)) (ts : List Token) → HasTokens bytes before after ts → AreInOrder bytes 0 ts
