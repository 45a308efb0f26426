-- The words of what is printed, with the blanks between them, their bytes and their pieces.
use Rattle.std.proofs.Common.{ℕ, Bool, true, false, List, [], ◌∷◌, ◌++◌, length, map}
use Rattle.std.specs.Prelude.{◌==◌, ◌&&◌, ◌||◌, not, nat_lt, nat_le, ◌^◌, if◌then◌else◌, flat_map, codes, decimal}
use Rattle.term_core.specs.declared.fixed.TheConstants as fixed
use Rattle.term_core.specs.Characters.{is_name}
use Rattle.term_core.specs.Printing.{quoted_where_needed}
use Rattle.term_core.specs.Names.{name_text}
use Rattle.ciao_tokens.specs.Forms.{Shape, name, quoted, variable, number, text, mark, stop, paren, close_paren, bracket, close_bracket, curly, close_curly, comma, bar}
use Rattle.ciao_tokens.specs.Pieces.{Piece, layout, token}
use Rattle.ciao_tokens.specs.declared.kinds.Token.{Token}
use Rattle.ciao_tokens.specs.declared.kinds.TokenKind.{TokenKind}
use Rattle.ciao_tokens.specs.declared.kinds.TokenKind.TheVariants as kind
use Rattle.ciao_reader.specs.declared.words.Word.{Word}
use Rattle.ciao_reader.specs.declared.words.Word.TheVariants as word
use Rattle.ciao_reader.specs.Derivations.{Tree, Trees}
use Rattle.ciao_reader.specs.Derivations as tree
use Rattle.ciao_reader.specs.Roles.{variable_number, with_variable}
use Rattle.ciao_reader.specs.Sentences.{is_large, is_sign}

-- a blank, or a word
pub data Spaced : Type 0 where
  blank : Spaced
  one_word : Word → Spaced

abbrev pub spaced_infix : ℕ → List Spaced
spaced_infix f = if f == fixed.COMMA then one_word word.Comma ∷ [] else if f == fixed.BAR then blank ∷ one_word word.Bar ∷ blank ∷ [] else blank ∷ one_word (word.Between f) ∷ blank ∷ []

abbrev mutual
  -- the words of a derivation with the blanks that are printed between them
  pub spaced : Tree → List Spaced
  spaced (tree.number n) = one_word (word.Number n) ∷ []
  spaced (tree.negative n) = one_word word.Sign ∷ one_word (word.Number n) ∷ []
  spaced (tree.variable v) = one_word (word.Variable v) ∷ []
  spaced (tree.text cs) = one_word (word.Text cs) ∷ []
  spaced (tree.atom a) = one_word (word.Atom a) ∷ []
  spaced tree.no_items = one_word word.OpenList ∷ one_word word.CloseList ∷ []
  spaced tree.no_braces = one_word word.OpenCurly ∷ one_word word.CloseCurly ∷ []
  spaced (tree.call f ts) = one_word (word.Call f) ∷ one_word word.Paren ∷ (spaced_of_all ts ++ (one_word word.CloseParen ∷ []))
  spaced (tree.parens t) = one_word word.Paren ∷ (spaced t ++ (one_word word.CloseParen ∷ []))
  spaced (tree.braces t) = one_word word.OpenCurly ∷ (spaced t ++ (one_word word.CloseCurly ∷ []))
  spaced (tree.items ts) = one_word word.OpenList ∷ (spaced_of_all ts ++ (one_word word.CloseList ∷ []))
  spaced (tree.items_and_tail ts t) = one_word word.OpenList ∷ (spaced_of_all ts ++ (one_word word.Bar ∷ (spaced t ++ (one_word word.CloseList ∷ []))))
  spaced (tree.before f t) = one_word (word.Before f) ∷ blank ∷ spaced t
  spaced (tree.between f t u) = spaced t ++ (spaced_infix f ++ spaced u)

  pub spaced_of_all : Trees → List Spaced
  spaced_of_all (tree.one t) = spaced t
  spaced_of_all (tree.more t ts) = spaced t ++ (one_word word.Comma ∷ spaced_of_all ts)

abbrev pub words_in : List Spaced → List Word
words_in [] = []
words_in (blank ∷ bs) = words_in bs
words_in (one_word w ∷ bs) = w ∷ words_in bs

-- which words and blanks may stand side by side

-- a word of one byte that is no name
abbrev pub is_mark : Word → Bool
is_mark word.Paren = true
is_mark word.CloseParen = true
is_mark word.OpenList = true
is_mark word.CloseList = true
is_mark word.OpenCurly = true
is_mark word.CloseCurly = true
is_mark word.Comma = true
is_mark word.Bar = true
is_mark other = false

-- nothing, a blank or a mark comes next
abbrev pub is_apart : List Spaced → Bool
is_apart [] = true
is_apart (blank ∷ bs) = true
is_apart (one_word w ∷ bs) = is_mark w

-- a number comes next
abbrev pub is_digits : List Spaced → Bool
is_digits (one_word (word.Number n) ∷ bs) = true
is_digits other = false

abbrev pub may_precede : Spaced → List Spaced → Bool
may_precede blank bs = true
may_precede (one_word (word.Text cs)) bs = false
may_precede (one_word word.Stop) bs = false
may_precede (one_word word.Sign) bs = is_digits bs
may_precede (one_word w) bs = if is_mark w then true else is_apart bs

-- each word may stand before the next, so the pieces are the words and blanks
abbrev pub are_apart : List Spaced → Bool
are_apart [] = true
are_apart (b ∷ bs) = may_precede b bs && are_apart bs

-- a number that a token may have, a variable of 64 bits, and names among so many
abbrev pub is_within : ℕ → Word → Bool
is_within count (word.Number n) = nat_le n (2 ^ 63)
is_within count (word.Variable v) = nat_lt v (2 ^ 64)
is_within count (word.Atom f) = nat_lt f count
is_within count (word.Call f) = nat_lt f count
is_within count (word.Before f) = nat_lt f count
is_within count (word.Between f) = nat_lt f count
is_within count other = true

abbrev pub are_within : ℕ → List Spaced → Bool
are_within count [] = true
are_within count (blank ∷ bs) = are_within count bs
are_within count (one_word w ∷ bs) = is_within count w && are_within count bs

-- bytes and pieces

abbrev pub variable_text : ℕ → List ℕ
variable_text v = codes "_" ++ decimal v

module _ (names : List (List ℕ)) where
  -- the bytes of a word
  abbrev pub spelled : Word → List ℕ
  spelled (word.Number n) = decimal n
  spelled (word.Variable v) = variable_text v
  spelled (word.Text cs) = []
  spelled (word.Atom a) = quoted_where_needed true (name_text names a)
  spelled (word.Call f) = quoted_where_needed true (name_text names f)
  spelled word.Sign = codes "-"
  spelled (word.Before f) = quoted_where_needed true (name_text names f)
  spelled (word.Between f) = quoted_where_needed true (name_text names f)
  spelled word.Paren = codes "("
  spelled word.CloseParen = codes ")"
  spelled word.OpenList = codes "["
  spelled word.CloseList = codes "]"
  spelled word.OpenCurly = codes "{"
  spelled word.CloseCurly = codes "}"
  spelled word.Comma = codes ","
  spelled word.Bar = codes "|"
  spelled word.Stop = []

  abbrev pub spaced_bytes : Spaced → List ℕ
  spaced_bytes blank = codes " "
  spaced_bytes (one_word w) = spelled w

  -- the text of words and blanks
  abbrev pub bytes_of : List Spaced → List ℕ
  bytes_of bs = flat_map spaced_bytes bs

  -- whether a name needs no quotes
  abbrev pub is_bare : ℕ → Bool
  is_bare f = is_name (name_text names f)

  abbrev pub name_shape : ℕ → Shape
  name_shape f = if is_bare f then name (name_text names f) else quoted (name_text names f)

  -- the token that a word is, apart from its place
  abbrev pub shape_of : Word → Shape
  shape_of (word.Number n) = number n
  shape_of (word.Variable v) = variable (variable_text v)
  shape_of (word.Text cs) = text cs
  shape_of (word.Atom a) = name_shape a
  shape_of (word.Call f) = name_shape f
  shape_of word.Sign = name (codes "-")
  shape_of (word.Before f) = name_shape f
  shape_of (word.Between f) = name_shape f
  shape_of word.Paren = mark paren
  shape_of word.CloseParen = mark close_paren
  shape_of word.OpenList = mark bracket
  shape_of word.CloseList = mark close_bracket
  shape_of word.OpenCurly = mark curly
  shape_of word.CloseCurly = mark close_curly
  shape_of word.Comma = mark comma
  shape_of word.Bar = mark bar
  shape_of word.Stop = stop

  abbrev pub piece_of : Spaced → Piece
  piece_of blank = layout 1
  piece_of (one_word w) = token (length (spelled w)) (shape_of w)

  -- the pieces of the text
  abbrev pub pieces_of : List Spaced → List Piece
  pieces_of bs = map piece_of bs

-- tokens apart from their places

-- the spelling of each variable, and whether a name has no quotes
module _ (spelling : ℕ → ℕ) (is_bare : ℕ → Bool) where
  abbrev pub name_kind : ℕ → TokenKind
  name_kind f = if is_bare f then kind.Name f else kind.Quoted f

  -- the kind of a word's token, directly behind a name or not
  abbrev pub kind_of : Bool → Word → TokenKind
  kind_of behind_name (word.Number n) = kind.Number n
  kind_of behind_name (word.Variable v) = kind.Variable (spelling v)
  kind_of behind_name (word.Text cs) = kind.Text cs
  kind_of behind_name (word.Atom a) = name_kind a
  kind_of behind_name (word.Call f) = name_kind f
  kind_of behind_name word.Sign = kind.Name fixed.MINUS
  kind_of behind_name (word.Before f) = name_kind f
  kind_of behind_name (word.Between f) = name_kind f
  kind_of behind_name word.Paren = if behind_name then kind.OpenCall else kind.Open
  kind_of behind_name word.CloseParen = kind.Close
  kind_of behind_name word.OpenList = kind.OpenList
  kind_of behind_name word.CloseList = kind.CloseList
  kind_of behind_name word.OpenCurly = kind.OpenCurly
  kind_of behind_name word.CloseCurly = kind.CloseCurly
  kind_of behind_name word.Comma = kind.Comma
  kind_of behind_name word.Bar = kind.Bar
  kind_of behind_name word.Stop = kind.End

  -- whether the word's token is a name, so that a parenthesis directly behind it opens arguments
  abbrev pub is_naming : Word → Bool
  is_naming (word.Atom a) = true
  is_naming (word.Call f) = true
  is_naming word.Sign = true
  is_naming (word.Before f) = true
  is_naming (word.Between f) = true
  is_naming other = false

  abbrev pub token_of : TokenKind → Bool → Token
  token_of k behind_layout = record { kind = k; line = 0; start = 0; end = 0; layout_before = behind_layout }

  -- the tokens of words and blanks, with no places, directly behind a name or not, and directly behind layout or not
  abbrev pub tokens_of : Bool → Bool → List Spaced → List Token
  tokens_of behind_name behind_layout [] = []
  tokens_of behind_name behind_layout (blank ∷ bs) = tokens_of false true bs
  tokens_of behind_name behind_layout (one_word w ∷ bs) = token_of (kind_of behind_name w) behind_layout ∷ tokens_of (is_naming w) false bs

-- words as the scan tells them

-- a 2^63 stands among the words only behind a sign, as the first of them may
abbrev pub has_none_large : Bool → List Word → Bool
has_none_large signed [] = true
has_none_large signed (w ∷ ws) = (not (is_large w) || signed) && has_none_large (is_sign w) ws

module _ (names : List (List ℕ)) (spelling : ℕ → ℕ) where
  -- the spellings so far, up to this word
  abbrev pub seen_after : List ℕ → Word → List ℕ
  seen_after seen (word.Variable v) = with_variable names seen (kind.Variable (spelling v))
  seen_after seen other = seen

  abbrev pub all_seen : List ℕ → List Word → List ℕ
  all_seen seen [] = seen
  all_seen seen (w ∷ ws) = all_seen (seen_after seen w) ws

  -- a variable has the number of its spelling's first appearance
  abbrev pub numbered_word : List ℕ → Word → Word
  numbered_word seen (word.Variable v) = word.Variable (variable_number names seen (spelling v))
  numbered_word seen other = other

  abbrev pub numbered_words : List ℕ → List Word → List Word
  numbered_words seen [] = []
  numbered_words seen (w ∷ ws) = numbered_word seen w ∷ numbered_words (seen_after seen w) ws
