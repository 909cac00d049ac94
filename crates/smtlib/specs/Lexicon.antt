-- The lexicon of SMT-LIB 2.6, section 3.1 of the standard: what a byte is, and of which kind a word is.
use Rattle.std.specs.Prelude.{Bool, true, false, not, cond, ◌&&◌, ◌||◌, List, [], ◌∷◌, ℕ, leb, eqb}
use Prim.Native.Char.{Char, code}
use Prim.Native.String.{String}

-- A fixed ASCII text as its bytes.
abbrev pub bytes : String → List ℕ
bytes String.[] = []
bytes (String.◌∷◌ c s) = code c ∷ bytes s

-- Every byte of a word passes the test.
abbrev pub all : (ℕ → Bool) → List ℕ → Bool
all p [] = true
all p (b ∷ w) = p b && all p w

-- Some byte of a word passes the test.
abbrev pub any : (ℕ → Bool) → List ℕ → Bool
any p [] = false
any p (b ∷ w) = p b || any p w

-- Two words are the same.
abbrev pub same : List ℕ → List ℕ → Bool
same [] [] = true
same [] (b ∷ w) = false
same (a ∷ v) [] = false
same (a ∷ v) (b ∷ w) = eqb a b && same v w

-- A word is one of those listed.
abbrev pub is_one : List ℕ → List (List ℕ) → Bool
is_one w [] = false
is_one w (v ∷ vs) = same w v || is_one w vs

-- A word is one of the fixed texts listed.
abbrev pub among : List ℕ → List String → Bool
among w [] = false
among w (s ∷ ss) = same w (bytes s) || among w ss

-- A word has a byte, and every byte passes the test.
abbrev pub run : (ℕ → Bool) → List ℕ → Bool
run p [] = false
run p (b ∷ w) = all p (b ∷ w)

-- What a byte is where no string, quoted symbol or comment is open. Blanks are the space and the line feed.
pub data Class : Type 0 where
  blank semicolon left_paren right_paren quote bar plain : Class

unfoldable pub class : ℕ → Class
class b =
    cond (eqb b (code " ") || eqb b (code "\n")) blank (
    cond (eqb b (code ";")) semicolon (
    cond (eqb b (code "(")) left_paren (
    cond (eqb b (code ")")) right_paren (
    cond (eqb b (code "\"")) quote (
    cond (eqb b (code "|")) bar plain)))))

-- from one character to another
abbrev pub between : Char → Char → ℕ → Bool
between a z b = leb (code a) b && leb b (code z)

-- `0` to `9`
abbrev pub digit : ℕ → Bool
digit = between "0" "9"

-- `A` to `Z` and `a` to `z`
abbrev pub letter : ℕ → Bool
letter b = between "A" "Z" b || between "a" "z" b

-- a digit, or a letter up to `f` in either case
abbrev pub hex_digit : ℕ → Bool
hex_digit b = digit b || (between "A" "F" b || between "a" "f" b)

-- a letter, a digit or one of 17 marks
abbrev pub symbol_byte : ℕ → Bool
symbol_byte b = letter b || (digit b || any (eqb b) (bytes "~!@$%^&*_-+=<>.?/"))

-- the printable bytes of ASCII: 32 to 126
abbrev pub visible : ℕ → Bool
visible = between " " "~"

-- what a string may hold: printable bytes, those above ASCII among them, and white space (tab, line feed, carriage return, space)
abbrev pub string_byte : ℕ → Bool
string_byte b = visible b || (leb 128 b || any (eqb b) (bytes "\t\n\r"))

-- what a quoted symbol may hold: the same but `|` and `\`
abbrev pub quoted_byte : ℕ → Bool
quoted_byte b = string_byte b && not (any (eqb b) (bytes "|\\"))

-- `0`, or digits of which the first is not `0`
abbrev pub is_numeral : List ℕ → Bool
is_numeral [] = false
is_numeral (b ∷ []) = digit b
is_numeral (b ∷ c ∷ w) = all digit (b ∷ c ∷ w) && not (eqb b (code "0"))

-- what stands before the first `.`, and behind it
abbrev pub before_point : List ℕ → List ℕ
before_point [] = []
before_point (b ∷ w) = cond (eqb b (code ".")) [] (b ∷ before_point w)

abbrev pub behind_point : List ℕ → List ℕ
behind_point [] = []
behind_point (b ∷ w) = cond (eqb b (code ".")) w (behind_point w)

-- a numeral, `.` and digits
abbrev pub is_decimal : List ℕ → Bool
is_decimal w = is_numeral (before_point w) && run digit (behind_point w)

-- `#`, the letter of a radix, and digits
abbrev pub is_radix : ℕ → (ℕ → Bool) → List ℕ → Bool
is_radix x p [] = false
is_radix x p (a ∷ []) = false
is_radix x p (a ∷ b ∷ w) = (eqb a (code "#") && eqb b x) && run p w

-- The 43 reserved words: 13 general ones, and the names of the 30 commands.
unfoldable pub reserved_words : List String
reserved_words =
    "!" ∷ "_" ∷ "as" ∷ "let" ∷ "exists" ∷ "forall" ∷ "match" ∷ "par" ∷ "BINARY" ∷ "DECIMAL" ∷ "HEXADECIMAL" ∷ "NUMERAL"
    ∷ "STRING" ∷ "assert" ∷ "check-sat" ∷ "check-sat-assuming" ∷ "declare-const" ∷ "declare-datatype" ∷ "declare-datatypes"
    ∷ "declare-fun" ∷ "declare-sort" ∷ "define-fun" ∷ "define-fun-rec" ∷ "define-funs-rec" ∷ "define-sort" ∷ "echo" ∷ "exit"
    ∷ "get-assertions" ∷ "get-assignment" ∷ "get-info" ∷ "get-model" ∷ "get-option" ∷ "get-proof" ∷ "get-unsat-assumptions"
    ∷ "get-unsat-core" ∷ "get-value" ∷ "pop" ∷ "push" ∷ "reset" ∷ "reset-assertions" ∷ "set-info" ∷ "set-logic"
    ∷ "set-option" ∷ []

-- one of them
abbrev pub is_reserved : List ℕ → Bool
is_reserved w = among w reserved_words

-- symbol bytes of which the first is no digit
abbrev pub is_simple : List ℕ → Bool
is_simple [] = false
is_simple (b ∷ w) = not (digit b) && all symbol_byte (b ∷ w)

-- A simple symbol is no reserved word either. These are the names that document 01's refusal 4 lets through.
abbrev pub is_symbol : List ℕ → Bool
is_symbol w = is_simple w && not (is_reserved w)

-- `:` and a simple symbol
abbrev pub is_keyword : List ℕ → Bool
is_keyword [] = false
is_keyword (b ∷ w) = eqb b (code ":") && is_symbol w

-- The kinds of words, and the words of each.
pub data Kind : Type 0 where
  numeral decimal hexadecimal binary reserved symbol keyword : Kind

abbrev pub is_of : Kind → List ℕ → Bool
is_of numeral w = is_numeral w
is_of decimal w = is_decimal w
is_of hexadecimal w = is_radix (code "x") hex_digit w
is_of binary w = is_radix (code "b") (between "0" "1") w
is_of reserved w = is_reserved w
is_of symbol w = is_symbol w
is_of keyword w = is_keyword w
