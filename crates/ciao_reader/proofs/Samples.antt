-- Derivations of a few sentences, computed.
use Rattle.std.proofs.Common.{◌≡◌, ℕ, List, [], ◌∷◌, ◌++◌, refl, true, false}
use Rattle.std.specs.Prelude.{codes, ◌^◌, Some, None}
use Rattle.std.proofs.lemmas.Bool.{leb-true}
use Rattle.term_core.specs.Names.{fixed_names}
use Rattle.term_core.specs.declared.fixed.TheConstants.{MINUS, NECK, COMMA, BAR}
use Rattle.term_core.specs.Standard.{standard, start}
use Rattle.term_core.proofs.OperatorTables.{made_one_root}
use Rattle.ciao_tokens.specs.declared.kinds.Token.{Token}
use Rattle.ciao_tokens.specs.declared.kinds.TokenKind.{TokenKind}
use Rattle.ciao_tokens.specs.declared.kinds.TokenKind.TheVariants.{Name, Quoted, Variable, Number, OpenCall, Open, Close, OpenList, CloseList, OpenCurly, CloseCurly, Comma, Bar}
use Rattle.ciao_reader.specs.Roles.{roles, variable_count}
use Rattle.ciao_reader.specs.Derivations.{Tree, number, negative, variable, atom, call, parens, braces, items, items_and_tail, before, between, one, more, Derives}
use Rattle.ciao_reader.specs.Sentences.{beyond}
use Rattle.ciao_reader.proofs.OneTree.{no_tree}

-- names: the language's, and five more
abbrev names : List (List ℕ)
names = fixed_names ++ (codes "a" ∷ codes "b" ∷ codes "c" ∷ codes "X" ∷ codes "_" ∷ [])

abbrev x : ℕ
x = 78

abbrev blank : ℕ
blank = 79

abbrev semicolon : ℕ
semicolon = 6

abbrev truth : ℕ
truth = 8

abbrev entry : ℕ
entry = 23

abbrev arrow : ℕ
arrow = 25

abbrev not_provable : ℕ
not_provable = 29

abbrev equals : ℕ
equals = 30

abbrev colon : ℕ
colon = 46

-- a token behind layout, and one directly behind another
abbrev far : TokenKind → Token
far k = record { kind = k; line = 1; start = 0; end = 0; layout_before = true }

abbrev near : TokenKind → Token
near k = record { kind = k; line = 1; start = 0; end = 0; layout_before = false }

abbrev name : ℕ → Token
name n = far (Name n)

-- the atoms a, b and c, as tokens and as trees
abbrev a' : Token
a' = name 75

abbrev b' : Token
b' = name 76

abbrev c' : Token
c' = name 77

abbrev a : Tree
a = atom 75

abbrev b : Tree
b = atom 76

abbrev c : Tree
c = atom 77

-- the tokens have this derivation, or none
abbrev Has : List Token → Tree → Type 0
Has ts = Derives standard (roles names standard ts) 1200

abbrev HasNone : List Token → Type 0
HasNone ts = (t : Tree) → Has ts t → ⊥

-- infix operators

-- a - b - c
left_first : Has (a' ∷ name MINUS ∷ b' ∷ name MINUS ∷ c' ∷ []) (between MINUS (between MINUS a b) c)
left_first = record { spans = refl; allowed = refl; within = leb-true _ _ refl }

-- a - (b - c)
right_first : Has (a' ∷ name MINUS ∷ far Open ∷ b' ∷ name MINUS ∷ c' ∷ near Close ∷ []) (between MINUS a (parens (between MINUS b c)))
right_first = record { spans = refl; allowed = refl; within = leb-true _ _ refl }

-- a -(b)
infix_before_paren : Has (a' ∷ name MINUS ∷ near OpenCall ∷ b' ∷ near Close ∷ []) (between MINUS a (parens b))
infix_before_paren = record { spans = refl; allowed = refl; within = leb-true _ _ refl }

-- a -1
subtraction : Has (a' ∷ name MINUS ∷ near (Number 1) ∷ []) (between MINUS a (number 1))
subtraction = record { spans = refl; allowed = refl; within = leb-true _ _ refl }

-- X =(a,b)
pair : Has (far (Variable x) ∷ name equals ∷ near OpenCall ∷ a' ∷ near Comma ∷ b' ∷ near Close ∷ []) (between equals (variable 0) (parens (between COMMA a b)))
pair = record { spans = refl; allowed = refl; within = leb-true _ _ refl }

-- a :- (a ; b -> c)
body : Has (a' ∷ name NECK ∷ far Open ∷ a' ∷ name semicolon ∷ b' ∷ name arrow ∷ c' ∷ near Close ∷ []) (between NECK a (parens (between semicolon a (between arrow b c))))
body = record { spans = refl; allowed = refl; within = leb-true _ _ refl }

-- a | b
bar_between : Has (a' ∷ far Bar ∷ b' ∷ []) (between BAR a b)
bar_between = record { spans = refl; allowed = refl; within = leb-true _ _ refl }

-- a = b = c
no_chain : HasNone (a' ∷ name equals ∷ b' ∷ name equals ∷ c' ∷ [])
no_chain = no_tree standard (made_one_root standard (start refl)) _ 8 refl

-- a : b : c
no_colons : HasNone (a' ∷ name colon ∷ b' ∷ name colon ∷ c' ∷ [])
no_colons = no_tree standard (made_one_root standard (start refl)) _ 8 refl

-- a '|' b
no_quoted_bar : HasNone (a' ∷ far (Quoted BAR) ∷ b' ∷ [])
no_quoted_bar = no_tree standard (made_one_root standard (start refl)) _ 3 refl

-- a -
no_right_side : HasNone (a' ∷ name MINUS ∷ [])
no_right_side = no_tree standard (made_one_root standard (start refl)) _ 4 refl

-- prefix operators

-- - 1
minus_one : Has (name MINUS ∷ far (Number 1) ∷ []) (before MINUS (number 1))
minus_one = record { spans = refl; allowed = refl; within = leb-true _ _ refl }

-- -1
negative_one : Has (name MINUS ∷ near (Number 1) ∷ []) (negative 1)
negative_one = record { spans = refl; allowed = refl; within = leb-true _ _ refl }

-- '-'1
quoted_minus : Has (far (Quoted MINUS) ∷ near (Number 1) ∷ []) (before MINUS (number 1))
quoted_minus = record { spans = refl; allowed = refl; within = leb-true _ _ refl }

-- - - 1
two_minuses : Has (name MINUS ∷ name MINUS ∷ far (Number 1) ∷ []) (before MINUS (before MINUS (number 1)))
two_minuses = record { spans = refl; allowed = refl; within = leb-true _ _ refl }

-- - -1
minus_negative : Has (name MINUS ∷ name MINUS ∷ near (Number 1) ∷ []) (before MINUS (negative 1))
minus_negative = record { spans = refl; allowed = refl; within = leb-true _ _ refl }

-- - (1)
minus_paren : Has (name MINUS ∷ far Open ∷ far (Number 1) ∷ near Close ∷ []) (before MINUS (parens (number 1)))
minus_paren = record { spans = refl; allowed = refl; within = leb-true _ _ refl }

-- -(1)
minus_call : Has (name MINUS ∷ near OpenCall ∷ far (Number 1) ∷ near Close ∷ []) (call MINUS (one (number 1)))
minus_call = record { spans = refl; allowed = refl; within = leb-true _ _ refl }

-- \+ a = b
negation : Has (name not_provable ∷ a' ∷ name equals ∷ b' ∷ []) (before not_provable (between equals a b))
negation = record { spans = refl; allowed = refl; within = leb-true _ _ refl }

-- \+ (a)
negated_paren : Has (name not_provable ∷ far Open ∷ a' ∷ near Close ∷ []) (before not_provable (parens a))
negated_paren = record { spans = refl; allowed = refl; within = leb-true _ _ refl }

-- a(:- a)
no_directive_inside : HasNone (a' ∷ near OpenCall ∷ name NECK ∷ a' ∷ near Close ∷ [])
no_directive_inside = no_tree standard (made_one_root standard (start refl)) _ 2 refl

-- prefix operators as atoms

-- entry :- a
entry_rule : Has (name entry ∷ name NECK ∷ a' ∷ []) (between NECK (atom entry) a)
entry_rule = record { spans = refl; allowed = refl; within = leb-true _ _ refl }

-- - = a
minus_is : Has (name MINUS ∷ name equals ∷ a' ∷ []) (between equals (atom MINUS) a)
minus_is = record { spans = refl; allowed = refl; within = leb-true _ _ refl }

-- true -> a
true_then : Has (name truth ∷ name arrow ∷ a' ∷ []) (between arrow (atom truth) a)
true_then = record { spans = refl; allowed = refl; within = leb-true _ _ refl }

-- [-]
minus_item : Has (far OpenList ∷ name MINUS ∷ near CloseList ∷ []) (items (one (atom MINUS)))
minus_item = record { spans = refl; allowed = refl; within = leb-true _ _ refl }

-- a(-, b)
minus_argument : Has (a' ∷ near OpenCall ∷ name MINUS ∷ near Comma ∷ b' ∷ near Close ∷ []) (call 75 (more (atom MINUS) (one b)))
minus_argument = record { spans = refl; allowed = refl; within = leb-true _ _ refl }

-- primaries

-- a(b)
a_call : Has (a' ∷ near OpenCall ∷ b' ∷ near Close ∷ []) (call 75 (one b))
a_call = record { spans = refl; allowed = refl; within = leb-true _ _ refl }

-- [a,b|c]
list_and_tail : Has (far OpenList ∷ a' ∷ near Comma ∷ b' ∷ near Bar ∷ c' ∷ near CloseList ∷ []) (items_and_tail (more a (one b)) c)
list_and_tail = record { spans = refl; allowed = refl; within = leb-true _ _ refl }

-- {X}
in_braces : Has (far OpenCurly ∷ far (Variable x) ∷ near CloseCurly ∷ []) (braces (variable 0))
in_braces = record { spans = refl; allowed = refl; within = leb-true _ _ refl }

-- [_,X,_|X], with three variables
blanks : Has (far OpenList ∷ far (Variable blank) ∷ near Comma ∷ far (Variable x) ∷ near Comma ∷ far (Variable blank) ∷ near Bar ∷ far (Variable x) ∷ near CloseList ∷ [])
    (items_and_tail (more (variable 0) (more (variable 1) (one (variable 2)))) (variable 1))
blanks = record { spans = refl; allowed = refl; within = leb-true _ _ refl }

three_variables : variable_count names (far (Variable blank) ∷ far (Variable x) ∷ far (Variable blank) ∷ far (Variable x) ∷ []) ≡ 3
three_variables = refl

-- a (b)
no_call : HasNone (a' ∷ far Open ∷ b' ∷ near Close ∷ [])
no_call = no_tree standard (made_one_root standard (start refl)) _ 4 refl

-- nothing
no_nothing : HasNone []
no_nothing = no_tree standard (made_one_root standard (start refl)) _ 1 refl

-- numbers beyond the integers

-- -9223372036854775808 and - 9223372036854775808
least_integer : beyond names standard (name MINUS ∷ near (Number (2 ^ 63)) ∷ []) ≡ None
least_integer = refl

beyond_integers : beyond names standard (name MINUS ∷ far (Number (2 ^ 63)) ∷ []) ≡ Some 1
beyond_integers = refl
