-- The tokens of what is printed are those of its words but for their places, at which roles do not look.
use Rattle.std.proofs.Common.{◌≡◌, ℕ, Bool, true, false, not, List, [], ◌∷◌, map, length, drop, refl, sym, ap, ◌∙◌, true≢false}
use Rattle.std.specs.Prelude.{◌&&◌, ◌||◌, ◌==◌, nat_lt, is_some, Option, Some, None, if◌then◌else◌}
use Rattle.std.specs.List.{list_any}
use Rattle.std.proofs.lemmas.Bool.{and_parts, or_from, ltb-true}
use Rattle.term_core.specs.declared.fixed.TheConstants as fixed
use Rattle.term_core.specs.Names.{place_of, name_text}
use Rattle.term_core.specs.Lists.{IsPrefix}
use Rattle.term_core.specs.Operators.{prefix_of, infix_of, right_limit}
use Rattle.term_core.specs.declared.operators.Op.{Op}
use Rattle.term_core.specs.declared.operators.Operators.{Operators}
use Rattle.ciao_tokens.specs.Forms as shape
use Rattle.ciao_tokens.specs.Pieces.{layout, token}
use Rattle.ciao_tokens.specs.Tokens as tokens
use Rattle.ciao_tokens.specs.Tokens.{At, behind, tokens_from}
use Rattle.ciao_tokens.specs.declared.kinds.Token.{Token}
use Rattle.ciao_tokens.specs.declared.kinds.TokenKind.{TokenKind}
use Rattle.ciao_tokens.specs.declared.kinds.TokenKind.TheVariants as kind
use Rattle.ciao_reader.specs.declared.words.Word.{Word}
use Rattle.ciao_reader.specs.declared.words.Word.TheVariants as word
use Rattle.ciao_reader.specs.Roles.{calls_next, number_next, is_above, goes_on, breaks_at, stands_alone, operand_role, name_role, with_variable, due_behind, role, roles_from}
use Rattle.ciao_reader.specs.Sentences.{is_end}
use Rattle.ciao_reader.specs.ReadingBack.{AreNames}
use Rattle.ciao_reader.proofs.PrintedNames.{place_kept, minus_kept}
use Rattle.ciao_reader.proofs.PrintedWords.{Spaced, blank, one_word, may_precede, are_apart, is_within, are_within, variable_text, is_bare, name_shape, shape_of, spelled, pieces_of, name_kind, kind_of, is_naming, tokens_of}

abbrev placeless : TokenKind → Bool → Token
placeless k behind_layout = record { kind = k; line = 0; start = 0; end = 0; layout_before = behind_layout }

abbrev without_place : Token → Token
without_place t = placeless t.kind t.layout_before

-- tokens apart from their places
abbrev without_places : List Token → List Token
without_places ts = map without_place ts

-- roles do not look at places

calls_same : (ts : List Token) → calls_next (without_places ts) ≡ calls_next ts
calls_same [] = refl
calls_same (t ∷ ts) = refl

number_same : (ts : List Token) → number_next (without_places ts) ≡ number_next ts
number_same [] = refl
number_same (t ∷ ts) = refl

module _ (ops : Operators) where
  goes_same : (limit name : ℕ) (ts : List Token) → goes_on ops limit name (without_places ts) ≡ goes_on ops limit name ts
  goes_same limit name ts = ap (λ b. is_some (infix_of ops name) && (not b && is_above limit (prefix_of ops name))) (calls_same ts)

  breaks_same : (limit : ℕ) (k : TokenKind) (ts : List Token) → breaks_at ops limit k (without_places ts) ≡ breaks_at ops limit k ts
  breaks_same limit (kind.Name name) ts =
      ap (λ b. b && not (name == fixed.MINUS && number_next (without_places ts))) (goes_same limit name ts)
      ∙ ap (λ b. goes_on ops limit name ts && not (name == fixed.MINUS && b)) (number_same ts)
  breaks_same limit (kind.Quoted name) ts = ap (λ b. b && not (name == fixed.COMMA || name == fixed.BAR)) (goes_same limit name ts)
  breaks_same limit other ts = refl

  stands_same : (limit : ℕ) (ts : List Token) → stands_alone ops limit (without_places ts) ≡ stands_alone ops limit ts
  stands_same limit [] = refl
  stands_same limit (t ∷ ts) = breaks_same limit t.kind ts

  operand_same : (name : ℕ) (o : Option Op) (ts : List Token) → operand_role ops name o (without_places ts) ≡ operand_role ops name o ts
  operand_same name None ts = refl
  operand_same name (Some o) ts = ap (λ b. if b then word.Atom name else word.Before name) (stands_same (right_limit o) ts)

  -- the role of a name, by whether a parenthesis and a number come next, and its role as an operand
  abbrev role_by : Bool → ℕ → Bool → Bool → Bool → Word → Word
  role_by due name is_minus calls number operand = if not due then word.Between name else if calls then word.Call name else if is_minus && number then word.Sign else operand

  name_role_same : (due : Bool) (name : ℕ) (is_minus : Bool) (ts : List Token) → name_role ops due name is_minus (without_places ts) ≡ name_role ops due name is_minus ts
  name_role_same due name is_minus ts =
      let operand = operand_role ops name (prefix_of ops name) (without_places ts) in
      ap (λ calls. role_by due name is_minus calls (number_next (without_places ts)) operand) (calls_same ts)
      ∙ ap (λ number. role_by due name is_minus (calls_next ts) number operand) (number_same ts)
      ∙ ap (role_by due name is_minus (calls_next ts) (number_next ts)) (operand_same name (prefix_of ops name) ts)

  role_same : (names : List (List ℕ)) (due : Bool) (seen : List ℕ) (k : TokenKind) (ts : List Token) → role names ops due seen k (without_places ts) ≡ role names ops due seen k ts
  role_same names due seen (kind.Name name) ts = name_role_same due name (name == fixed.MINUS) ts
  role_same names due seen (kind.Quoted name) ts = name_role_same due name false ts
  role_same names due seen other ts = refl

  roles_same : (names : List (List ℕ)) (due : Bool) (seen : List ℕ) (ts : List Token) → roles_from names ops due seen (without_places ts) ≡ roles_from names ops due seen ts
  roles_same names due seen [] = refl
  roles_same names due seen (t ∷ ts) =
      let w = role names ops due seen t.kind ts in
      ap (λ v. v ∷ roles_from names ops (due_behind v) (with_variable names seen t.kind) (without_places ts)) (role_same names due seen t.kind ts)
      ∙ ap (λ ws. w ∷ ws) (roles_same names (due_behind w) (with_variable names seen t.kind) ts)

ends_same : (ts : List Token) → list_any is_end (without_places ts) ≡ list_any is_end ts
ends_same [] = refl
ends_same (t ∷ ts) = ap (λ b. is_end t || b) (ends_same ts)

-- the tokens of words

-- the place of a variable's text
abbrev pub spelling : List (List ℕ) → ℕ → ℕ
spelling after v = place_of (variable_text v) after

module _ (names after : List (List ℕ)) (are : AreNames names) (begins : IsPrefix names after) where
  name_same : (f : ℕ) (behind_name : Bool) → nat_lt f (length names) ≡ true → tokens.kind_of after (name_shape names f) behind_name ≡ name_kind (spelling after) (is_bare names) f
  name_same f behind_name within = by (is_bare names f) (place_kept names after are begins f (ltb-true _ _ within))
    where
      by : (b : Bool) → place_of (name_text names f) after ≡ f → tokens.kind_of after (if b then shape.name (name_text names f) else shape.quoted (name_text names f)) behind_name ≡ (if b then kind.Name f else kind.Quoted f)
      by true kept = ap (λ n. kind.Name n) kept
      by false kept = ap (λ n. kind.Quoted n) kept

  kind_same : (w : Word) (behind_name : Bool) → is_within (length names) w ≡ true → tokens.kind_of after (shape_of names w) behind_name ≡ kind_of (spelling after) (is_bare names) behind_name w
  kind_same (word.Atom f) behind_name within = name_same f behind_name within
  kind_same (word.Call f) behind_name within = name_same f behind_name within
  kind_same (word.Before f) behind_name within = name_same f behind_name within
  kind_same (word.Between f) behind_name within = name_same f behind_name within
  kind_same word.Sign behind_name within = ap (λ n. kind.Name n) (minus_kept names after are begins)
  kind_same other behind_name within = refl

  naming_shape : (f : ℕ) → tokens.is_naming (name_shape names f) ≡ true
  naming_shape f = by (is_bare names f)
    where
      by : (b : Bool) → tokens.is_naming (if b then shape.name (name_text names f) else shape.quoted (name_text names f)) ≡ true
      by true = refl
      by false = refl

  naming_same : (w : Word) → tokens.is_naming (shape_of names w) ≡ is_naming (spelling after) (is_bare names) w
  naming_same (word.Atom f) = naming_shape f
  naming_same (word.Call f) = naming_shape f
  naming_same (word.Before f) = naming_shape f
  naming_same (word.Between f) = naming_shape f
  naming_same other = refl

  tokens_same : (at : At) (bs : List Spaced) (bytes : List ℕ) → are_within (length names) bs ≡ true
      → without_places (tokens_from after at (pieces_of names bs) bytes) ≡ tokens_of (spelling after) (is_bare names) at.is_behind_name at.is_behind_layout bs
  tokens_same at [] bytes within = refl
  tokens_same at (blank ∷ bs) bytes within = tokens_same (behind at (layout 1) bytes) bs (drop 1 bytes) within
  tokens_same at (one_word w ∷ bs) bytes within =
      let n = length (spelled names w) in
      ap (λ k. placeless k at.is_behind_layout ∷ without_places (tokens_from after (behind at (token n (shape_of names w)) bytes) (pieces_of names bs) (drop n bytes))) (kind_same w at.is_behind_name (and_parts _ _ within).0)
      ∙ ap (λ ts. placeless (kind_of (spelling after) (is_bare names) at.is_behind_name w) at.is_behind_layout ∷ ts)
      (tokens_same (behind at (token n (shape_of names w)) bytes) bs (drop n bytes) (and_parts _ _ within).1 ∙ ap (λ b. tokens_of (spelling after) (is_bare names) b false bs) (naming_same w))

  -- the roles of the tokens are those of the tokens of the words
  pub same_roles : (ops : Operators) (at : At) (bs : List Spaced) (bytes : List ℕ) → are_within (length names) bs ≡ true
      → roles_from after ops true [] (tokens_from after at (pieces_of names bs) bytes) ≡ roles_from after ops true [] (tokens_of (spelling after) (is_bare names) at.is_behind_name at.is_behind_layout bs)
  same_roles ops at bs bytes within =
      sym (roles_same ops after true [] (tokens_from after at (pieces_of names bs) bytes)) ∙ ap (roles_from after ops true []) (tokens_same at bs bytes within)

  no_end_name : (f : ℕ) (behind_layout : Bool) → is_end (placeless (name_kind (spelling after) (is_bare names) f) behind_layout) ≡ false
  no_end_name f behind_layout = by (is_bare names f)
    where
      by : (b : Bool) → is_end (placeless (if b then kind.Name f else kind.Quoted f) behind_layout) ≡ false
      by true = refl
      by false = refl

  no_end_word : (w : Word) (bs : List Spaced) (behind_name behind_layout : Bool) → may_precede (one_word w) bs ≡ true → is_end (placeless (kind_of (spelling after) (is_bare names) behind_name w) behind_layout) ≡ false
  no_end_word (word.Atom f) bs behind_name behind_layout may = no_end_name f behind_layout
  no_end_word (word.Call f) bs behind_name behind_layout may = no_end_name f behind_layout
  no_end_word (word.Before f) bs behind_name behind_layout may = no_end_name f behind_layout
  no_end_word (word.Between f) bs behind_name behind_layout may = no_end_name f behind_layout
  no_end_word word.Paren bs true behind_layout may = refl
  no_end_word word.Paren bs false behind_layout may = refl
  no_end_word word.Stop bs behind_name behind_layout may = absurd (true≢false (sym may))
  no_end_word other bs behind_name behind_layout may = refl

  no_end_of : (bs : List Spaced) (behind_name behind_layout : Bool) → are_apart bs ≡ true → list_any is_end (tokens_of (spelling after) (is_bare names) behind_name behind_layout bs) ≡ false
  no_end_of [] behind_name behind_layout apart = refl
  no_end_of (blank ∷ bs) behind_name behind_layout apart = no_end_of bs false true apart
  no_end_of (one_word w ∷ bs) behind_name behind_layout apart =
      or_from _ _ (no_end_word w bs behind_name behind_layout (and_parts _ _ apart).0) (no_end_of bs (is_naming (spelling after) (is_bare names) w) false (and_parts _ _ apart).1)

  -- none of the tokens is an end
  pub no_end : (at : At) (bs : List Spaced) (bytes : List ℕ) → are_within (length names) bs ≡ true → are_apart bs ≡ true → list_any is_end (tokens_from after at (pieces_of names bs) bytes) ≡ false
  no_end at bs bytes within apart =
      sym (ends_same (tokens_from after at (pieces_of names bs) bytes)) ∙ ap (list_any is_end) (tokens_same at bs bytes within) ∙ no_end_of bs at.is_behind_name at.is_behind_layout apart
