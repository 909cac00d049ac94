-- What it is to read a text as a script. The rules are those of document 01's paragraph on reading, one by one.
use Rattle.std.specs.Prelude.{◌≡◌, Bool, true, false, not, cond, List, [], ◌∷◌, ◌++◌, ℕ, T, eqb}
use Prim.Native.Char.{code}
use Rattle.smtlib.specs.Lexicon.{Class, blank, semicolon, left_paren, right_paren, quote, bar, plain, class, Kind, is_of, all, string_byte, quoted_byte}

-- Rule 1: tokens are those of SMT-LIB 2.6. A token is a word with its kind, the content of a string or that of a quoted symbol.
pub data Token : Type 0 where
  word : Kind → List ℕ → Token
  string quoted : List ℕ → Token

-- The content of a string as it is written: each `"` twice.
abbrev pub doubled : List ℕ → List ℕ
doubled [] = []
doubled (b ∷ s) = cond (eqb b (code "\"")) (b ∷ []) [] ++ (b ∷ doubled s)

-- `Spells w k`: the bytes w are the token k.
pub data Spells : List ℕ → Token → Type 0 where
  as_word : (k : Kind) (w : List ℕ) → T (is_of k w) → Spells w (word k w)
  as_string : (s : List ℕ) → T (all string_byte s) → Spells (code "\"" ∷ doubled s ++ (code "\"" ∷ [])) (string s)
  as_quoted : (s : List ℕ) → T (all quoted_byte s) → Spells (code "|" ∷ s ++ (code "|" ∷ [])) (quoted s)

-- What a text is made of, blanks and comments aside: parentheses and tokens.
pub data Item : Type 0 where
  opening closing : Item
  token : Token → Item

-- Rule 2: between two tokens there is a parenthesis, a blank or a comment. So behind a token stands one of these, or the end.
abbrev pub parts : Class → Bool
parts blank = true
parts semicolon = true
parts left_paren = true
parts right_paren = true
parts quote = false
parts bar = false
parts plain = false

abbrev pub Parted : List ℕ → Type 0
Parted [] = Unit
Parted (b ∷ t) = T (parts (class b))

-- Rule 3: a comment begins with `;` and goes on to the end of its line or of the text. So it has no line feed, and behind it stands
-- one or the end.
abbrev pub no_line_feed : ℕ → Bool
no_line_feed b = not (eqb b (code "\n"))

abbrev pub LineEnds : List ℕ → Type 0
LineEnds [] = Unit
LineEnds (b ∷ t) = T (eqb b (code "\n"))

-- `Lexes text items`: the text is these parentheses and tokens, with blanks and comments anywhere between them.
pub data Lexes : List ℕ → List Item → Type 0 where
  done : Lexes [] []
  skip : {b : ℕ} {t : List ℕ} {is : List Item} → class b ≡ blank → Lexes t is → Lexes (b ∷ t) is
  comment : {b : ℕ} (c : List ℕ) {t : List ℕ} {is : List Item}
      → class b ≡ semicolon → T (all no_line_feed c) → LineEnds t → Lexes t is → Lexes (b ∷ c ++ t) is
  opens : {b : ℕ} {t : List ℕ} {is : List Item} → class b ≡ left_paren → Lexes t is → Lexes (b ∷ t) (opening ∷ is)
  closes : {b : ℕ} {t : List ℕ} {is : List Item} → class b ≡ right_paren → Lexes t is → Lexes (b ∷ t) (closing ∷ is)
  spells : {w : List ℕ} {k : Token} {t : List ℕ} {is : List Item}
      → Spells w k → Parted t → Lexes t is → Lexes (w ++ t) (token k ∷ is)

-- S-expressions in a row: none, a token and the rest, or a list and the rest.
pub data Sexps : Type 0 where
  end : Sexps
  atom : Token → Sexps → Sexps
  list : Sexps → Sexps → Sexps

-- Rule 4: a command is one list, of tokens and of lists, and is given by what stands between its parentheses.
abbrev pub Command : Type 0
Command = Sexps

-- The parentheses and tokens of S-expressions in a row, and then r.
abbrev pub items : Sexps → List Item → List Item
items end r = r
items (atom k xs) r = token k ∷ items xs r
items (list ys xs) r = opening ∷ items ys (closing ∷ items xs r)

-- The parentheses and tokens of commands.
abbrev pub script : List Command → List Item
script [] = []
script (c ∷ cs) = opening ∷ items c (closing ∷ script cs)

-- Rule 5: a reading is any list of commands that the whole text is made of, where only blanks and comments stand outside them.
pub record Reading (text : List ℕ) (cs : List Command) : Type 0 where
  pub reads : Lexes text (script cs)
